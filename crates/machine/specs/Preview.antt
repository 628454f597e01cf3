-- The next turn, shown before it is made (document 02, #102): the turn's own plan, answered; the memory is only read.
use Rattle.std.specs.Prelude.{ℕ, ◌<◌, ◌≤◌, ◌≡◌, ◌≢◌, List, eqb, get_or, set, Option, Some, None, Result, Ok, Err}
use Rattle.word.specs.Word.{pick}
use Rattle.step.specs.declared.Direction.{Direction}
use Rattle.step.specs.Step.{Attempt}
use Rattle.step.specs.declared.Store.{Store}
use Rattle.step.specs.View.{View}
use Rattle.step.specs.Step.{store_of}
use Rattle.machine.specs.Machine.{Machine, left_as, state_of, Bounded}
use Rattle.machine.specs.Calls.{plan_of, refusal, next, found, TurnPromise}
use Rattle.machine.specs.declared.Record.{Record}
use Rattle.machine.specs.declared.Preview.{Preview}
use Rattle.machine.specs.declared.Foreseen.{Foreseen}
use Rattle.word.specs.Refusal.{number_of}
use Rattle.word.specs.declared.refusals.Refusal.{Refusal}

-- the memory word that a plan would store, in the view s that its word finds
abbrev pub planned_store : Attempt → View → Option Store
planned_store (Err n) s = None
planned_store (Ok e) s = store_of e s.regs

abbrev pub store_by : Direction → Machine → Option Store
store_by d x = planned_store (plan_of d x) (found d x)

-- what it stores, where another word is present in the memory l: a word changes if it is another one
abbrev pub changed : Option Store → List ℕ → Option Store
changed None l = None
changed (Some s) l = pick (eqb (get_or l s.address 0) s.value) None (Some s)

-- what is reported of a turn with this refusal and record, by the word that changes
abbrev pub reported : ℕ → Record → Option Store → Preview
reported refusal r None = record { refusal = refusal; changes = 0; address = 0; value = 0; state = r }
reported refusal r (Some s) = record { refusal = refusal; changes = 1; address = s.address; value = s.value; state = r }

-- and so by what a preview answers
abbrev pub preview_from : Record → Result Foreseen Refusal → Preview
preview_from r (Ok s) = reported 0 s.state s.change
preview_from r (Err e) = reported (number_of e) r None

-- the answer: the refusal and the record of the turn, and the word that it would change
abbrev pub preview_of : Direction → Machine → Preview
preview_of d x = reported (refusal d x) (next d x).state (changed (store_by d x) (state_of x).words)

-- What a preview from x promises of its answer; and the bounds of its arguments, as of a turn's.
pub record PreviewPromise (d : Direction) (x : Machine) (p : Preview) : Type 0 where
  pub answer : p ≡ preview_of d x
  pub bounds : Bounded x

-- ---- what is claimed: a preview p is the turn made on a copy, with refusal n, which leaves y. Proved in proofs/Shown.

-- the memory with the reported word set
abbrev pub reported_in : Preview → List ℕ → List ℕ
reported_in p mem = pick (eqb p.changes 1) (set mem p.address p.value) mem

pub record ShowsTurn (x : Machine) (p : Preview) (n : ℕ) (y : Machine) : Type 0 where
  pub refusal : n ≡ p.refusal
  pub left : y ≡ left_as x p.state (reported_in p x.memory)
  -- what is reported is a data word that changes
  pub inside : p.changes ≡ 1 → (x.state.k ≤ p.address) × (p.address < x.state.m)
  pub new : p.changes ≡ 1 → (get_or y.memory p.address 0 ≡ p.value) × (p.value ≢ get_or x.memory p.address 0)
  -- and else nothing is
  pub none : p.changes ≢ 1 → (p.changes ≡ 0) × (p.address ≡ 0) × (p.value ≡ 0)

abbrev pub Previews : Type 0
Previews = (d : Direction) (x : Machine) (p : Preview) (n : ℕ) (y : Machine) → PreviewPromise d x p → TurnPromise d x n y → ShowsTurn x p n y

-- and where the turn would be refused it shows the record as it was given, and no word
abbrev pub refused_by : ℕ → Record → Preview
refused_by n r = record { refusal = n; changes = 0; address = 0; value = 0; state = r }

abbrev pub ShowsRefusal : Type 0
ShowsRefusal = (d : Direction) (x : Machine) (p : Preview) → PreviewPromise d x p → p.refusal ≢ 0 → p ≡ refused_by p.refusal x.state
