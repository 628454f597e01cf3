-- What holds of bench calls by their contracts. Proved in proofs/OnLists and proofs/Loads.
use Rattle.std.specs.Prelude.{ℕ, ◌≡◌, ◌≢◌, List}
use Rattle.step.specs.declared.Direction.{Direction}
use Rattle.step.specs.View.{by_way}
use Rattle.machine.specs.Machine.{Machine, zeros}
use Rattle.machine.specs.Calls.{TurnPromise, accepted}
use Rattle.machine.specs.Batch.{BatchPromise}
use Rattle.machine.specs.Preview.{PreviewPromise}
use Rattle.machine.specs.declared.Preview.{Preview}
use Rattle.wheel.specs.Wheel.{WheelPromise}
use Rattle.links.specs.Check.{check_of, check_node_of}
use Rattle.links.specs.declared.Checked.{Checked}
use Rattle.image.specs.Load.{LoadPromise}
use Rattle.image.specs.Save.{SavePromise}
use Rattle.image.specs.declared.Loaded.{Loaded}
use Rattle.lists.specs.Lists.{Call}
use Rattle.session.specs.Bench.{counts_in, BenchLoadPromise}
use Rattle.session.specs.declared.Bench.{Bench}
use Rattle.session.specs.declared.Cranked.{Cranked}
use Rattle.session.specs.declared.Sampled.{Sampled}

-- ---- the contracts speak of the record on a bench, and that is all of it: a further field would need its equation in each

abbrev pub RecordIsAll : Type 0
RecordIsAll = (b : Bench) → b ≡ record { state = b.state }

-- ---- the claim about lists of calls (lists, LeftAndRight) holds for the bench's calls

-- What the contract of a bench call promises, where the bench was the machine x and is then y, is a call of such a list. An
-- accepted load, and the making of a table, end a list: the next one begins at what they leave.
pub record Listed (x y : Machine) : Type 0 where
  pub turn : (d : Direction) (r : ℕ) → TurnPromise d x r y → Call x (by_way d (accepted r) 0) (by_way d 0 (accepted r)) y
  pub batch : (d : Direction) (n : ℕ) (r : Cranked) → BatchPromise d n x r.turns r.refusal y
      → Call x (by_way d r.turns 0) (by_way d 0 r.turns) y
  pub samples : (given : ℕ) (l : List ℕ) (r : Sampled) → WheelPromise given l x (counts_in r) y → Call x r.forward r.back y
  pub load : (file : List ℕ) (r : Loaded) → BenchLoadPromise file x r y → r.refusal ≢ 0 → Call x 0 0 y
  -- a call that only looks at the bench stands there with its promise; that it leaves the machine is a matter of its types
  pub preview : (d : Direction) (r : Preview) → PreviewPromise d x r → Call x 0 0 x
  pub save : (out out' : List ℕ) (r : ℕ) → SavePromise x out r out' → Call x 0 0 x
  pub check : (r : Checked) → r ≡ check_of x → Call x 0 0 x
  pub check_node : (node r : ℕ) → r ≡ check_node_of x node → Call x 0 0 x

abbrev pub OnLists : Type 0
OnLists = (x y : Machine) → Listed x y

-- ---- load: refused, the bench and the lent words are as they were, and the answer alone has zeros; accepted, the bench is the
-- machine that load by value answers

pub record BenchLoads : Type 0 where
  pub refused : (file : List ℕ) (x y : Machine) (a : Loaded) → BenchLoadPromise file x a y → a.refusal ≢ 0 → (y ≡ x) × (a.state ≡ zeros)
  pub accepted : (file : List ℕ) (x y : Machine) (a : Loaded) → BenchLoadPromise file x a y → a.refusal ≡ 0
      → LoadPromise file x.memory x.table 0 y
