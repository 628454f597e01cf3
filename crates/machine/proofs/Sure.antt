-- No refusal has the number 0, so a turn that answers 0 was made. Assumes nothing.
use mathlib.Core.Path.{◌≡◌, refl}
use mathlib.Core.Logic.{◌≢◌}
use mathlib.Core.Bool.{Bool}
use mathlib.Core.List.{List}
use Prim.Native.Nat.{ℕ}
use native.Mathlib.Omega.{arith}
use lib.IntN.{ℤ}
use Rattle.step.specs.declared.Direction.{Direction}
use Rattle.step.specs.declared.Direction.TheVariants.{Forward, Back}
use Rattle.step.specs.declared.Effect.{Effect}
use Rattle.step.specs.Step.{Attempt}
use Rattle.std.specs.Prelude.{Err, Ok}
use Rattle.step.specs.View.{View}
use Rattle.word.specs.Refusal.{number}
use Rattle.word.proofs.Refusal.{number_above}
use Rattle.step.proofs.Undo.{passed}
use Rattle.machine.specs.Turn.{landed, judged, planned, turned}
use Rattle.machine.specs.Position.{position_after}
use Rattle.word.specs.declared.refusals.Refusal.TheVariants.{End, Landing, Outside, Position, Sizes}

pub record Made (x : Attempt) : Type 0 where
  pub effect : Effect
  pub is : x ≡ Ok effect

zero_made : (x : Attempt) → number x ≡ 0 → Made x
zero_made (Err n) z = absurd (omega (arith, number_above n))
zero_made (Ok e) z = record { effect = e; is = refl }

-- a turn that answers 0 has an effect
pub made : (t : List ℕ) (d : Direction) (last : Bool) (s : View) → number (planned t d last s) ≡ 0 → Made (planned t d last s)
made t d last s z = zero_made (planned t d last s) z

-- one that answers another number leaves the state and the position
pub unmade : (d : Direction) (x : Attempt) (s : View) → number x ≢ 0 → turned d x s ≡ s
unmade d (Err n) s h = refl
unmade d (Ok e) s h = absurd (h refl)

pub uncounted : (d : Direction) (x : Attempt) (p : ℤ) → number x ≢ 0 → position_after d x p ≡ p
uncounted d (Err n) p h = refl
uncounted d (Ok e) p h = absurd (h refl)

-- what a plan does is what its word does
pub landed_attempt : (d : Direction) (s : View) (x : Attempt) {e : Effect} → landed d s x ≡ Ok e → x ≡ Ok e
unfolding landed
landed_attempt Forward s (Err n) h = h
landed_attempt Forward s (Ok f) h = (passed _ Landing _ h).1
landed_attempt Back s x h = h

pub judged_attempt : (t : List ℕ) (d : Direction) (last : Bool) (old : ℕ) (s : View) (x : Attempt) {e : Effect} → judged t d last old s x ≡ Ok e → x ≡ Ok e
unfolding judged
judged_attempt t Forward last old s x h = (passed _ End _ (passed _ Outside _ (passed _ Position _ (passed _ Sizes _ h).1).1).1).1
judged_attempt t Back last old s x h = (passed _ Landing _ (passed _ Outside _ (passed _ End _ (passed _ Position _ (passed _ Sizes _ h).1).1).1).1).1
