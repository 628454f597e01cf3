-- The counts grow by one at most. Assumes nothing.
use Rattle.std.proofs.Common.{◌≡◌, ℕ, ◌+◌, ◌-◌, ◌≤◌, Bool, true, false, eqb, refl, arith}
use borrow.Author.Tests.{eqb-true}
use Rattle.word.specs.Word.{pick}
use Rattle.wheel.specs.Wheel.{steps, fault, refusal_by, ended, Wheel, wheel_at, moved, taken}

abbrev pub made : Wheel → ℕ
made w = w.counts.forward + w.counts.back + w.counts.refused

-- not both ways at once
one_most : (x y b : Bool) → (x ≡ true → y ≡ true → ⊥) → pick x (pick b 1 0) 0 + pick y (pick b 1 0) 0 + (1 - pick b 1 0) ≤ 1
one_most true true b h = absurd (h refl refl)
one_most true false true h = omega arith
one_most true false false h = omega arith
one_most false true true h = omega arith
one_most false true false h = omega arith
one_most false false true h = omega arith
one_most false false false h = omega arith

module _ (s : ℕ) (w : Wheel) where
  pub made_more : made (taken s w) ≤ made w + 1
  unfolding taken
  made_more = go (eqb (fault w.counts.last s) 0)
    where
      k : ℕ
      k = steps w.counts.last s

      go : (b : Bool) → made (pick b (moved k s w) (wheel_at (ended (fault w.counts.last s) w.counts) w.machine)) ≤ made w + 1
      go true =
          omega (
            arith,
            one_most (eqb k 1) (eqb k 3) (eqb (refusal_by k w.machine) 0)
                (λ e e'. omega (arith, eqb-true k 1 e, eqb-true k 3 e')),
          )
      go false = omega arith
