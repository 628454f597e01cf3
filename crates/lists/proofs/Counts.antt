-- What counts the turns of a tour. Assumes nothing.
use mathlib.Core.Path.{◌≡◌, sym, ap, ◌∙◌}
use Prim.Native.Nat.{ℕ, suc}
use native.Mathlib.Numerals.{add-one}
use lib.IntN.{ℤ, pos, neg_ℤ, ◌+ℤ◌, ◌-ℤ◌, +ℤ_idr, +ℤ_assoc, +ℤ_comm, neg_ℤ-+ℤ}
use Rattle.step.specs.declared.Direction.{Direction}
use Rattle.step.specs.declared.Direction.TheVariants.{Forward, Back}
use Rattle.machine.specs.Position.{advanced}
use Rattle.machine.specs.Machine.{Machine, Bounded}
use Rattle.machine.specs.Calls.{next}
use Rattle.machine.proofs.Claims.{next_position}
use Rattle.lists.specs.Lists.{PositionCounts}
use Rattle.lists.proofs.Reversible as R
use Rattle.lists.proofs.Reversible.Tour.{empty, turn}
use Rattle.lists.proofs.Lists.{Accepts, tour}

-- one more of either count
more : (p : ℤ) (f b : ℕ) → p +ℤ pos f -ℤ pos b +ℤ pos 1 ≡ p +ℤ pos (suc f) -ℤ pos b
more p f b =
    let c = neg_ℤ (pos b) in
    +ℤ_assoc (p +ℤ pos f) c (pos 1)
    ∙ ap (λ (z : ℤ). p +ℤ pos f +ℤ z) (+ℤ_comm c (pos 1))
    ∙ sym (+ℤ_assoc (p +ℤ pos f) (pos 1) c)
    ∙ ap (λ (z : ℤ). z +ℤ c) (+ℤ_assoc p (pos f) (pos 1) ∙ ap (λ (n : ℕ). p +ℤ pos n) (add-one f))

less : (p : ℤ) (f b : ℕ) → p +ℤ pos f -ℤ pos b -ℤ pos 1 ≡ p +ℤ pos f -ℤ pos (suc b)
less p f b =
    +ℤ_assoc (p +ℤ pos f) (neg_ℤ (pos b)) (neg_ℤ (pos 1))
    ∙ ap (λ (z : ℤ). p +ℤ pos f +ℤ z) (sym (neg_ℤ-+ℤ (pos b) (pos 1)) ∙ ap (λ (n : ℕ). neg_ℤ (pos n)) (add-one b))

-- a place that each accepted turn moves by one
module _ (S : Type 0) (Ok : Direction → S → Type 0) (next : Direction → S → S) (Good : S → Type 0) (place : S → ℤ)
    (moves : (d : Direction) (x : S) → Ok d x → place (next d x) ≡ advanced d 1 (place x)) where
  counted : {f b : ℕ} {x y : S} → R.Tour S Ok next Good f b x y → place y ≡ place x +ℤ pos f -ℤ pos b
  counted {x = x} empty = sym (+ℤ_idr (place x +ℤ pos 0) ∙ +ℤ_idr (place x))
  counted {x = x} (turn {f = f} {b = b} {y = y} Forward t g h) = moves Forward y h ∙ (ap (advanced Forward 1) (counted t) ∙ more (place x) f b)
  counted {x = x} (turn {f = f} {b = b} {y = y} Back t g h) = moves Back y h ∙ (ap (advanced Back 1) (counted t) ∙ less (place x) f b)

pub position_counts : PositionCounts
position_counts x y f b l = counted Machine Accepts next Bounded (λ u. u.state.position) next_position (tour l)
