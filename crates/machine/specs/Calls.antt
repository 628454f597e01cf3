-- A turn as a call makes it: of a machine, of which only its state counts.
use Rattle.std.specs.Prelude.{ℕ, ◌≡◌, ◌++◌, eqb, drop, Result}
use Rattle.word.specs.Word.{pick}
use Rattle.step.specs.declared.Direction.{Direction}
use Rattle.step.specs.Step.{Attempt}
use Rattle.step.specs.View.{View}
use Rattle.word.specs.Refusal.{number, kept}
use Rattle.word.specs.declared.refusals.Refusal.{Refusal}
use Rattle.machine.specs.Turn.{from, to, planned, turned}
use Rattle.machine.specs.Position.{is_last, advanced, position_after}
use Rattle.machine.specs.Machine.{status_of, updated, Machine, left_as, state_of, view_of, Bounded}
use Rattle.machine.specs.declared.Record.{Record}
use Rattle.machine.specs.declared.Turned.{Turned}

-- ---- a turn

abbrev pub plan_of : Direction → Machine → Attempt
plan_of d x = planned (state_of x).links d (is_last d x.state.position) (view_of x)

abbrev pub view_after : Direction → Machine → View
view_after d x = turned d (plan_of d x) (view_of x)

-- its refusal, 0 for none
abbrev pub refusal : Direction → Machine → ℕ
refusal d x = number (plan_of d x)

-- the machine that it leaves, as it was where the turn is refused: of the lent memory the first M words as the turn leaves them,
-- and the excess as it was
abbrev pub next : Direction → Machine → Machine
next d x =
    let s = view_after d x in
    left_as x (updated x.state (position_after d (plan_of d x) x.state.position) s.at s.regs) (s.memory ++ drop x.state.m x.memory)

-- a turn counts 1 where its refusal is 0
abbrev pub accepted : ℕ → ℕ
accepted refusal = pick (eqb refusal 0) 1 0

-- a single turn from x is accepted and leaves y
abbrev pub Leads : Direction → Machine → Machine → Type 0
Leads d x y = (refusal d x ≡ 0) × (next d x ≡ y)

-- ---- and in parts, for the claims on single words

-- what a turn this way finds, with pc at its word
abbrev pub found : Direction → Machine → View
found d x = from d (view_of x)

-- r with the registers of s, pc and the position as a turn this way leaves them, and the rest as it was
abbrev pub moved : Direction → Record → View → Record
moved d r s = updated r (advanced d 1 r.position) (status_of r) (to d s).regs

-- ---- what a turn from x promises of its refusal n and of the machine y that it leaves; and of its arguments

pub record TurnPromise (d : Direction) (x : Machine) (n : ℕ) (y : Machine) : Type 0 where
  pub refusal : n ≡ refusal d x
  pub left : y ≡ next d x
  pub bounds : Bounded x

-- what a call answers to C: the record that it was given where the turn is refused
abbrev pub turned_of : Record → Result Record Refusal → Turned
turned_of r a = record { state = kept r a; refusal = number a }
