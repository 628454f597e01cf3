-- What the parts of a turn in place promise (src/cycle.rt), and a run of turns (src/lib.rt): of a status, and of registers,
-- memory and table that are lent. A turn in place is one before the last position: the run makes no more than those.
use Rattle.std.specs.Prelude.{ℕ, ◌+◌, ◌-◌, ◌≤◌, ◌≡◌, false, List, ◌++◌, ℤ, pos, negsuc, drop, Result, Ok, Err, Option, Some, None}
use Rattle.word.specs.Refusal.{refuse, number_of, number}
use Rattle.word.specs.declared.refusals.Refusal.{Refusal}
use Rattle.word.specs.declared.refusals.Refusal.TheVariants.{Sizes, Position}
use Rattle.step.specs.declared.Status.{Status}
use Rattle.step.specs.declared.Direction.{Direction}
use Rattle.step.specs.declared.Direction.TheVariants.{Forward, Back}
use Rattle.step.specs.Step.{Attempt}
use Rattle.step.specs.declared.Store.{Store}
use Rattle.step.specs.View.{seen}
use Rattle.step.specs.Step.{performed}
use Rattle.machine.specs.Turn.{from, new_pc, plan_at, turned_at}
use Rattle.machine.specs.Position.{advanced}
use Rattle.machine.specs.Machine.{record_at, Machine, left_as, wrong_sizes}
use Rattle.machine.specs.Calls.{refusal, next}
use Rattle.machine.specs.Batch.{BatchPromise}
use Rattle.machine.specs.Preview.{planned_store, store_by}
use Rattle.machine.specs.declared.Record.{Record}
use Rattle.machine.specs.declared.Ran.{Ran}
use Rattle.machine.specs.declared.cycle.Planned.{Planned}
use Rattle.machine.specs.declared.cycle.Shown.{Shown}

-- what the plan would do
abbrev pub effect_in : Result Planned Refusal → Attempt
effect_in (Ok p) = Ok p.effect
effect_in (Err n) = Err n

-- the plan a, with pc after what it does, and the registers as the word finds them
pub record Plans (d : Direction) (at : Status) (regs mem table : List ℕ) (a : Result Planned Refusal) (regs' : List ℕ) : Type 0 where
  pub attempt : effect_in a ≡ plan_at d false at regs mem table
  pub pc : (p : Planned) → a ≡ Ok p → p.next ≡ new_pc d (performed p.effect (from d (seen at regs mem)))
  pub found : regs' ≡ (from d (seen at regs mem)).regs

-- the turn over the memory: its refusal w, and the status and the registers after it
pub record Turns (d : Direction) (at : Status) (regs mem table : List ℕ) (w : ℕ) (at' : Status) (regs' : List ℕ) : Type 0 where
  pub refusal : w ≡ number (plan_at d false at regs mem table)
  pub status : at' ≡ (turned_at d false at regs mem table).at
  pub registers : regs' ≡ (turned_at d false at regs mem table).regs

-- made, with the memory after it
pub record Steps (d : Direction) (at : Status) (regs mem table : List ℕ) (w : ℕ) (at' : Status) (regs' mem' : List ℕ) : Type 0 where
  pub turn : Turns d at regs mem table w at' regs'
  pub memory : mem' ≡ (turned_at d false at regs mem table).memory ++ drop at.m mem

-- the status after a turn that is shown, and the word that it would store
abbrev pub status_shown : Status → Result Shown Refusal → Status
status_shown at (Ok s) = s.at
status_shown at (Err e) = at

abbrev pub store_shown : Result Shown Refusal → Option Store
store_shown (Ok s) = s.store
store_shown (Err e) = None

-- shown, with the word that it would store
pub record Shows (d : Direction) (at : Status) (regs mem table : List ℕ) (a : Result Shown Refusal) (regs' : List ℕ) : Type 0 where
  pub turn : Turns d at regs mem table (number a) (status_shown at a) regs'
  pub store : store_shown a ≡ planned_store (plan_at d false at regs mem table) (from d (seen at regs mem))

-- ---- a run of turns

-- the turns this way up to the last position
abbrev pub room : Direction → ℤ → ℕ
room Forward (pos n) = 9223372036854775807 - n
room Forward (negsuc n) = 9223372036854775808 + n
room Back (pos n) = 9223372036854775808 + n
room Back (negsuc n) = 9223372036854775807 - n

-- the refusal at the last position
abbrev pub last_refusal : Machine → Refusal
last_refusal x =
    refuse (wrong_sizes x) Sizes
    Position

-- the record k turns further, by what a run came to
abbrev pub record_by : Direction → ℕ → Record → Ran → Record
record_by d k r a = record_at a.at a.regs (advanced d k r.position)

-- the number of a run's refusal, 0 for none
abbrev pub number_by : Option Refusal → ℕ
number_by None = 0
number_by (Some e) = number_of e

-- a run is a batch of n, and there is room for what it counts
pub record Runs (d : Direction) (n : ℕ) (x : Machine) (a : Ran) (mem' : List ℕ) : Type 0 where
  pub batch : BatchPromise d n x a.turns (number_by a.refusal) (left_as x (record_by d a.turns x.state a) mem')
  pub made : a.turns ≤ room d x.state.position

-- ---- a turn that is only shown

-- the record after it, the given one where it is refused, and what it would store
abbrev pub shown_record : Record → Result (Record × Option Store) Refusal → Record
shown_record r (Ok s) = s.0
shown_record r (Err e) = r

abbrev pub shown_store : Result (Record × Option Store) Refusal → Option Store
shown_store (Ok s) = s.1
shown_store (Err e) = None

-- the first turn: its refusal w, the record r after it, and what it would store
pub record First (d : Direction) (x : Machine) (w : ℕ) (r : Record) (s : Option Store) : Type 0 where
  pub refusal : w ≡ refusal d x
  pub state : r ≡ (next d x).state
  pub store : s ≡ store_by d x
