-- Demand 3 (document 01, "Left and Right"): one claim about whole lists of calls. Proved in proofs/Lists.
use Rattle.std.specs.Prelude.{ℕ, suc, ◌+◌, ◌-◌, ◌≤◌, ◌≡◌, ◌≢◌, List, pos, ◌+ℤ◌, ◌-ℤ◌}
use Rattle.step.specs.declared.Direction.{Direction}
use Rattle.step.specs.declared.Direction.TheVariants.{Forward, Back}
use Rattle.step.specs.View.{by_way}
use Rattle.machine.specs.Machine.{Machine, machine_of, state_of, excess_of}
use Rattle.machine.specs.Calls.{TurnPromise, accepted, Leads}
use Rattle.machine.specs.Batch.{BatchPromise}
use Rattle.machine.specs.Preview.{PreviewPromise}
use Rattle.machine.specs.declared.Preview.{Preview}
use Rattle.wheel.specs.Wheel.{Counts, WheelPromise}
use Rattle.links.specs.Check.{check_of, check_node_of}
use Rattle.links.specs.declared.Checked.{Checked}
use Rattle.image.specs.Load.{LoadPromise}
use Rattle.image.specs.Save.{SavePromise}

-- ---- Left: a list of calls

-- A call that only reads the machine x: its record goes by value or is lent for reading, and so are memory and table.
pub data Reading (x : Machine) : Type 0 where
  preview : (d : Direction) (a : Preview) → PreviewPromise d x a → Reading x
  save : (out out' : List ℕ) (n : ℕ) → SavePromise x out n out' → Reading x
  check : (a : Checked) → a ≡ check_of x → Reading x
  check_node : (node n : ℕ) → n ≡ check_node_of x node → Reading x

-- One call from x: its accepted turns forward and back, and the machine that it leaves, with what it promises. A single turn
-- counts its acceptance, a batch counts its k, this way alone; samples count what their answer says, both ways. A call that turns
-- nothing counts nothing, and leaves the machine. A refused load counts nothing either: its caller keeps the record, with the
-- lent words as the load left them.
pub data Call : Machine → ℕ → ℕ → Machine → Type 0 where
  single : (d : Direction) (x y : Machine) (n : ℕ) → TurnPromise d x n y → Call x (by_way d (accepted n) 0) (by_way d 0 (accepted n)) y
  batch : (d : Direction) (n : ℕ) (x y : Machine) (k w : ℕ) → BatchPromise d n x k w y → Call x (by_way d k 0) (by_way d 0 k) y
  samples : (given : ℕ) (l : List ℕ) (x y : Machine) (c : Counts) → WheelPromise given l x c y → Call x c.forward c.back y
  reads : (x : Machine) → Reading x → Call x 0 0 x
  refused_load : (file : List ℕ) (x y : Machine) (n : ℕ) → LoadPromise file x.memory x.table n y → n ≢ 0
      → Call x 0 0 (machine_of x.state y.memory y.table)

-- Calls from x to y, each on what the last one left, with all accepted turns forward, f, and back, b. The list may be empty.
pub data Left : Machine → ℕ → ℕ → Machine → Type 0 where
  empty : {x : Machine} → Left x 0 0 x
  then : {x y z : Machine} {f b p q : ℕ} → Left x f b y → Call y p q z → Left x (p + f) (q + b) z

-- The list l is the list r with calls that turn nothing slipped in, anywhere. Both lead from x to the same machine.
pub data Slipped (x : Machine) : (y : Machine) (f b g c : ℕ) → Left x f b y → Left x g c y → Type 0 where
  ends : Slipped x x 0 0 0 0 empty empty
  both : {y z : Machine} {f b g c p q : ℕ} {l : Left x f b y} {r : Left x g c y} (k : Call y p q z)
      → Slipped x y f b g c l r → Slipped x z (p + f) (q + b) (p + g) (q + c) (then l k) (then r k)
  slip : {y : Machine} {f b g c : ℕ} {l : Left x f b y} {r : Left x g c y} (k : Reading y)
      → Slipped x y f b g c l r → Slipped x y (0 + f) (0 + b) g c (then l (reads y k)) r

-- And they count the same turns: what is slipped in alters nothing for Left.
abbrev pub SlippedIn : Type 0
SlippedIn =
    (x y : Machine) (f b g c : ℕ) (l : Left x f b y) (r : Left x g c y) → Slipped x y f b g c l r
    → (f ≡ g) × (b ≡ c)

-- ---- the position (document 02, #104)

-- After a list of calls it is the one at the beginning plus the accepted turns forward less those back.
abbrev pub PositionCounts : Type 0
PositionCounts = (x y : Machine) (f b : ℕ) → Left x f b y → y.state.position ≡ x.state.position +ℤ pos f -ℤ pos b

-- ---- Right: single turns straight

-- k single turns this way, each accepted and on what the last one left
pub data Straight (d : Direction) : ℕ → Machine → Machine → Type 0 where
  none : {x : Machine} → Straight d 0 x x
  turn : {k : ℕ} {x y z : Machine} → Leads d x y → Straight d k y z → Straight d (suc k) x z

-- ---- equal at the start and at the end: the same state

-- Right from x, after f accepted turns forward and b back that led Left to y
pub record Right (x : Machine) (f b : ℕ) (y : Machine) : Type 0 where
  pub machine : Machine
  pub ahead : b ≤ f → Straight Forward (f - b) x machine
  pub behind : f ≤ b → Straight Back (b - f) x machine
  pub alike : state_of machine ≡ state_of y
  pub excess : excess_of machine ≡ excess_of x

-- Left from x, Right from the same with an excess of its own: Right's turns by the net count are never refused, and both
-- end alike. Nothing is assumed of x: what the law of a turn asks of the machine, each call has promised.
abbrev pub LeftAndRight : Type 0
LeftAndRight = (x y right : Machine) (f b : ℕ) → state_of right ≡ state_of x → Left x f b y → Right right f b y
