-- The wheel (document 02, #101): encoder samples, a byte each, each of which makes one turn or none.
use Rattle.std.specs.Prelude.{ℕ, ◌+◌, ◌-◌, ◌%◌, ◌≡◌, List, [], ◌∷◌, eqb, ltb}
use Rattle.word.specs.Word.{pick, sub_word}
use Rattle.word.specs.Refusal.{refuse}
use Rattle.step.specs.declared.Direction.TheVariants.{Forward, Back}
use Rattle.machine.specs.Machine.{Machine, machine_of, Bounded}
use Rattle.machine.specs.declared.Record.{Record}
use Rattle.machine.specs.Calls.{refusal, next, accepted}
use Rattle.wheel.specs.declared.Wheeled.{Wheeled}

-- ---- a sample after another

-- where a sample stands on the circle 0, 1, 3, 2
abbrev pub place : ℕ → ℕ
place s = pick (eqb s 2) 3 (pick (eqb s 3) 2 s)

-- the steps along the circle from p to s, around modulo 4: the difference of words is modulo 2^32, which 4 divides
abbrev pub steps : ℕ → ℕ → ℕ
steps p s = sub_word (place s) (place p) % 4

-- why the sample s after p ends the call, 0 where it doesn't: 20 above 3, then 19 two steps away
abbrev pub fault : ℕ → ℕ → ℕ
fault p s =
    refuse (ltb 3 s) 20
    (refuse (eqb (steps p s) 2) 19
    0)

-- ---- the turn of k steps: one is a turn forward; three are one against the circle, a turn back; none is no turn

abbrev pub refusal_by : ℕ → Machine → ℕ
refusal_by k x = pick (eqb k 1) (refusal Forward x) (pick (eqb k 3) (refusal Back x) 0)

abbrev pub next_by : ℕ → Machine → Machine
next_by k x = pick (eqb k 1) (next Forward x) (pick (eqb k 3) (next Back x) x)

-- ---- what is counted

-- turns accepted forward and back, and turns refused; the last sample, and the refusal that ended the call, 0 for none
pub record Counts : Type 0 where
  pub forward : ℕ
  pub back : ℕ
  pub refused : ℕ
  pub last : ℕ
  pub refusal : ℕ

-- in the answer of a call
abbrev pub counts_of : Wheeled → Counts
counts_of a = record { forward = a.forward; back = a.back; refused = a.refused; last = a.last; refusal = a.refusal }

-- before the first sample: the given one is the last
abbrev pub started : ℕ → Counts
started given = record { forward = 0; back = 0; refused = 0; last = given; refusal = 0 }

-- after the sample s, whose turn of k steps was refused by n or, with 0, accepted: counted forward or back, or as refused
abbrev pub counted : ℕ → ℕ → ℕ → Counts → Counts
counted k s n c =
    record {
      forward = c.forward + pick (eqb k 1) (accepted n) 0;
      back = c.back + pick (eqb k 3) (accepted n) 0;
      refused = c.refused + (1 - accepted n);
      last = s;
      refusal = 0;
    }

-- ended by a refusal: all else stands
abbrev pub ended : ℕ → Counts → Counts
ended n c = record { forward = c.forward; back = c.back; refused = c.refused; last = c.last; refusal = n }

-- ---- the samples of a call

-- between two samples: the counts so far, and the machine
pub record Wheel : Type 0 where
  pub counts : Counts
  pub machine : Machine

abbrev pub wheel_at : Counts → Machine → Wheel
wheel_at c x = record { counts = c; machine = x }

-- that of an answer so far, with this refusal
abbrev pub wheel_of : ℕ → Wheeled → Machine → Wheel
wheel_of n a x = wheel_at (ended n (counts_of a)) x

-- a sample k steps from the last one
abbrev pub moved : ℕ → ℕ → Wheel → Wheel
moved k s w = wheel_at (counted k s (refusal_by k w.machine) w.counts) (next_by k w.machine)

-- a sample ends the call, or moves the wheel
unfoldable pub taken : ℕ → Wheel → Wheel
taken s w =
    let p = w.counts.last in
    pick (eqb (fault p s) 0) (moved (steps p s) s w) (wheel_at (ended (fault p s) w.counts) w.machine)

-- sample by sample, up to the first that ends the call
unfoldable pub run : List ℕ → Wheel → Wheel
run [] w = w
run (s ∷ rest) w = pick (eqb (taken s w).counts.refusal 0) (run rest (taken s w)) (taken s w)

-- the whole call; the given sample is looked at before any
abbrev pub follow_of : ℕ → List ℕ → Machine → Wheel
follow_of given samples x =
    refuse (ltb 3 given) (wheel_at (ended 20 (started given)) x)
    (run samples (wheel_at (started given) x))

-- the bounds of a record by itself
abbrev pub RecordBounded : Record → Type 0
RecordBounded r = Bounded (machine_of r [] [])

-- What a call with these samples from x promises of its counts c and of the machine y that it leaves; and the bounds of its
-- arguments, as of a turn's.
pub record WheelPromise (given : ℕ) (samples : List ℕ) (x : Machine) (c : Counts) (y : Machine) : Type 0 where
  pub left : wheel_at c y ≡ follow_of given samples x
  pub bounds : Bounded x
