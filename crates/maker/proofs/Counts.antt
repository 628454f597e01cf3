-- What holds of any walk's counts, and of an accepted qif. Assumes nothing.
use mathlib.Core.Path.{◌≡◌, refl}
use mathlib.Core.Bool.{Bool, true, false}
use Prim.Native.Nat.{ℕ, zero, suc, ◌+◌, ◌<◌, ◌≤◌}
use native.Mathlib.Omega.{arith}
use borrow.Author.Tests.{leb-false, ltb-false}
use Rattle.word.specs.Refusal.{refuse}
use Rattle.word.proofs.Words.{not_not}
use Rattle.maker.specs.Walk.{Walk, size, used, cycles}
use Rattle.maker.specs.Walk.Walk.{begin, step, fork}
use Rattle.maker.specs.Walkable.{Walkable}
use Rattle.maker.specs.Making.{Outcome, Forks, by_outcome, fork_by, fork_at, branch_at}
use Rattle.maker.specs.Making.Outcome.{refused, ended}
use Rattle.maker.specs.Making.Forks.{failed, forked}

-- waits never make a branch longer than both together
pub cycles_used : (p : Walk) → cycles p ≤ used p
unfolding cycles used
cycles_used begin = omega arith
cycles_used (step p) = omega (arith, cycles_used p)
cycles_used (fork p a b) = omega (arith, cycles_used p, cycles_used a, cycles_used b)

-- ---- what holds of whatever is accepted

abbrev pub AllForks : {S : Type 0} → Forks S → (Walk → Walk → S → Type 0) → Type 0
AllForks (failed k) P = Unit {0}
AllForks (forked a b s) P = P a b s

abbrev pub AllEnded : {S : Type 0} → Outcome S → (Walk → S → Type 0) → Type 0
AllEnded (refused k) P = Unit {0}
AllEnded (ended p s) P = P p s

module _ {S : Type 0} (P : Walk → Walk → S → Type 0) where
  all_refuse : (b : Bool) (k : ℕ) (rest : Forks S) → (b ≡ false → AllForks rest P) → AllForks (refuse b (failed k) rest) P
  unfolding refuse
  all_refuse true k rest h = tt
  all_refuse false k rest h = h refl

  all_outcome : (o : Outcome S) (f : Walk → S → Forks S) → ((p : Walk) (t : S) → o ≡ ended p t → AllForks (f p t) P) → AllForks (by_outcome o failed f) P
  unfolding by_outcome
  all_outcome (refused k) f h = tt
  all_outcome (ended p t) f h = h p t refl

-- a number that is 0 passed its first test
module _ {S : Type 0} (M : Walkable S) (limit : ℕ) where
  -- a qif that is accepted, with n nodes made and u cycles used, at s
  pub record Accepted (branch : ℕ → ℕ → S → Outcome S) (n u : ℕ) (s : S) (a b : Walk) (t : S) : Type 0 where
    pub s₀ : S
    pub s₁ : S
    pub first : branch (n + 2) (u + 1) (M.on (M.coined s 0)) ≡ ended a s₀
    pub second : branch (n + 2 + size a) (u + 1 + used a + 1) (M.on (M.coined s 1)) ≡ ended b s₁
    pub free₀ : M.is_before_start s₀ ≡ false
    pub free₁ : M.is_before_start s₁ ≡ false
    pub holds₀ : M.holds s 0 s₀ ≡ true
    pub holds₁ : M.holds s 1 s₁ ≡ true
    pub same : M.same (M.after s s₀) (M.after s s₁) ≡ true
    pub next : M.after s s₀ ≡ t
    pub below : u < limit
    pub most : u + 1 + used a + 1 + used b < limit
    pub room : n + 2 + size a + size b ≤ 510

  pub fork_accepts : (branch : ℕ → ℕ → S → Outcome S) (n u : ℕ) (s : S) → AllForks (fork_by M limit branch n u s) (Accepted branch n u s)
  unfolding fork_by
  fork_accepts branch n u s =
      let P = Accepted branch n u s in
      all_refuse P _ 23 _ λ below. all_refuse P _ 23 _ λ few. all_outcome P _ _ λ a s₀ e₀.
      all_refuse P _ 18 _ λ free₀. all_refuse P _ 23 _ λ less. all_refuse P _ 24 _ λ holds₀. all_outcome P _ _ λ b s₁ e₁.
      all_refuse P _ 18 _ λ free₁. all_refuse P _ 23 _ λ most. all_refuse P _ 23 _ λ room. all_refuse P _ 24 _ λ holds₁.
      all_refuse P _ 24 (forked a b (M.after s s₀)) λ same.
      record {
        s₀ = s₀;
        s₁ = s₁;
        first = e₀;
        second = e₁;
        free₀ = free₀;
        free₁ = free₁;
        holds₀ = not_not (M.holds s 0 s₀) holds₀;
        holds₁ = not_not (M.holds s 1 s₁) holds₁;
        same = not_not (M.same (M.after s s₀) (M.after s s₁)) same;
        next = refl;
        below = leb-false limit u below;
        most = leb-false limit (u + 1 + used a + 1 + used b) most;
        room = ltb-false 510 (n + 2 + size a + size b) room;
      }

  -- the same by the nesting
  pub forked_below : (nest n u : ℕ) (s : S) → AllForks (fork_at M limit nest n u s) (λ a b t. u < limit)
  unfolding fork_at
  forked_below zero n u s = tt
  forked_below (suc nest) n u s = weaken (fork_by M limit _ n u s) (fork_accepts _ n u s)
    where
      weaken : (o : Forks S) → AllForks o (Accepted (λ n u s. branch_at M limit nest true n u s) n u s) → AllForks o (λ a b t. u < limit)
      weaken (failed k) h = tt
      weaken (forked a b t) h = h.below
