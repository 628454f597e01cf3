-- A sample call is a list of single turns (document 02, #101). Proved in proofs/Samples.
use Rattle.std.specs.Prelude.{ℕ, ◌+◌, ◌-◌, List, [], ◌∷◌, ◌++◌, eqb, ltb}
use Rattle.word.specs.Word.{pick}
use Rattle.word.specs.Refusal.{refuse}
use Rattle.step.specs.declared.Direction.{Direction}
use Rattle.step.specs.declared.Direction.TheVariants.{Forward, Back}
use Rattle.step.specs.View.{by_way}
use Rattle.machine.specs.Machine.{Machine}
use Rattle.machine.specs.Calls.{TurnPromise, accepted}
use Rattle.wheel.specs.Wheel.{steps, fault, Counts, WheelPromise}
use Rattle.lists.specs.Lists.{Left}

-- the turn that k steps along the circle stand for, if they stand for one
abbrev pub turns_of : ℕ → List Direction
turns_of k = pick (eqb k 1) (Forward ∷ []) (pick (eqb k 3) (Back ∷ []) [])

-- the turns that samples name after the sample p, up to the first that ends the call
unfoldable pub named : ℕ → List ℕ → List Direction
named p [] = []
named p (s ∷ rest) = pick (eqb (fault p s) 0) (turns_of (steps p s) ++ named s rest) []

-- and after the given one, none where that is above 3
abbrev pub named_by : ℕ → List ℕ → List Direction
named_by given l = refuse (ltb 3 given) [] (named given l)

-- Single turns in these directions, each on what the last one left, with what each promises: how many are accepted forward
-- and back, and how many refused.
pub data Turns : List Direction → Machine → ℕ → ℕ → ℕ → Machine → Type 0 where
  none : {x : Machine} → Turns [] x 0 0 0 x
  turn : {d : Direction} {ds : List Direction} {x y z : Machine} {f b n k : ℕ} → TurnPromise d x k y → Turns ds y f b n z
      → Turns (d ∷ ds) x (by_way d (accepted k) 0 + f) (by_way d 0 (accepted k) + b) (1 - accepted k + n) z

-- The counts that a sample call answers, and the machine that it leaves, are those of the single turns that its samples
-- name; and these are a list of Left's.
pub record SamplesAreTurns : Type 0 where
  pub turns : (given : ℕ) (l : List ℕ) (x y : Machine) (c : Counts) → WheelPromise given l x c y
      → Turns (named_by given l) x c.forward c.back c.refused y
  pub left : (ds : List Direction) (x y : Machine) (f b n : ℕ) → Turns ds x f b n y → Left x f b y
