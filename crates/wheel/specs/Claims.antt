-- What is claimed of the circle and of sample calls.
use Rattle.std.specs.Prelude.{ℕ, ◌+◌, ◌-◌, ◌<◌, ◌≤◌, ◌≡◌, ◌≢◌, List, [], ◌∷◌, ◌++◌, eqb, ltb}
use Rattle.word.specs.Word.{pick}
use Rattle.word.specs.Refusal.{refuse}
use Rattle.step.specs.declared.Direction.{Direction}
use Rattle.step.specs.declared.Direction.TheVariants.{Forward, Back}
use Rattle.step.specs.View.{by_way}
use Rattle.machine.specs.Machine.{Machine}
use Rattle.machine.specs.Calls.{refusal, next, accepted}
use Rattle.wheel.specs.Wheel.{fault, Counts, wheel_at, started, ended, follow_of, WheelPromise}

-- ---- what a call with one sample comes to, in terms of the turns alone

-- given p, the sample s makes a turn this way, which is counted by its refusal
abbrev pub Moves : Direction → ℕ → ℕ → Type 0
Moves d p s =
    (x : Machine)
    → (let n = accepted (refusal d x) in
    follow_of p (s ∷ []) x ≡ wheel_at (record { forward = by_way d n 0; back = by_way d 0 n; refused = 1 - n; last = s; refusal = 0 }) (next d x))

-- given s, the same once more turns and counts nothing
abbrev pub Rests : ℕ → Type 0
Rests s = (x : Machine) → follow_of s (s ∷ []) x ≡ wheel_at (started s) x

-- given p, the sample s ends the call by n: nothing is turned, and p is the last sample
abbrev pub Ends : ℕ → ℕ → ℕ → Type 0
Ends n p s = (x : Machine) → follow_of p (s ∷ []) x ≡ wheel_at (ended n (started p)) x

-- s comes after p in the forward cycle: from p to s is a turn forward, from s to p one back
abbrev pub Follows : ℕ → ℕ → Type 0
Follows p s = Moves Forward p s × Moves Back s p

-- The circle is document 02's cycle 0, 1, 3, 2, 0; an equal sample is no step; the other pairs are two steps away, 19; and
-- a sample above 3 is 20, whatever is before it. Proved in proofs/Circle.
pub record Circle : Type 0 where
  pub cycle : Follows 0 1 × Follows 1 3 × Follows 3 2 × Follows 2 0
  pub still : (s : ℕ) → s ≤ 3 → Rests s
  pub away : Ends 19 0 3 × Ends 19 3 0 × Ends 19 1 2 × Ends 19 2 1
  pub above : (p s : ℕ) → 3 < s → Ends 20 p s

-- ---- lists of samples

-- the counts of two calls, one after the other, as one
abbrev pub joined : Counts → Counts → Counts
joined a b =
    record { forward = a.forward + b.forward; back = a.back + b.back; refused = a.refused + b.refused; last = b.last; refusal = b.refusal }

-- A list may be cut: where the first call is not refused, a second one that is given its last sample, on what it left, comes
-- with it to what one call of the whole list does. Proved in proofs/Cut.
abbrev pub Cut : Type 0
Cut =
    (given : ℕ) (l m : List ℕ) (x y z : Machine) (a b : Counts)
    → WheelPromise given l x a y → a.refusal ≡ 0 → WheelPromise a.last m y b z → WheelPromise given (l ++ m) x (joined a b) z

-- the last sample of a list after p, and the refusal that ends it
unfoldable pub end_of : ℕ → List ℕ → ℕ × ℕ
end_of p [] = (p, 0)
end_of p (s ∷ rest) = pick (eqb (fault p s) 0) (end_of s rest) (p, fault p s)

-- Both are told by the samples alone, whatever the machine is and refuses. Proved in proofs/Alone.
abbrev pub SamplesAlone : Type 0
SamplesAlone =
    (given : ℕ) (l : List ℕ) (x y : Machine) (c : Counts)
    → WheelPromise given l x c y → (c.last, c.refusal) ≡ refuse (ltb 3 given) (given, 20) (end_of given l)

-- What stands after the sample that ended a call is not looked at: a longer list comes to the same. Proved in proofs/Unread.
abbrev pub Unread : Type 0
Unread =
    (given : ℕ) (l m : List ℕ) (x y : Machine) (c : Counts) → WheelPromise given l x c y → c.refusal ≢ 0 → WheelPromise given (l ++ m) x c y
