-- A machine: a record, with the memory and the table that are lent to it.
use Rattle.std.specs.Prelude.{ℕ, Bool, List, [], ◌∷◌, ℤ, pos, take, drop}
use Rattle.std.specs.Int.{w64}
use Rattle.std.proofs.Common.{SFits}
use Rattle.step.specs.declared.Status.{Status}
use Rattle.step.specs.Table.{table_words}
use Rattle.step.specs.View.{View, sized, Bounds}
use Rattle.step.specs.Sizes.{bad_sizes}
use Rattle.machine.specs.declared.Record.{Record}

-- ---- the record

abbrev pub status_of : Record → Status
status_of r = record { qifv = r.qifv; qifw = r.qifw; k = r.k; m = r.m; n = r.n }

-- the record of a status, registers and a position
abbrev pub record_at : Status → List ℕ → ℤ → Record
record_at at regs p = record { regs = regs; qifv = at.qifv; qifw = at.qifw; k = at.k; m = at.m; n = at.n; position = p }

-- r with the position, the registers, the node and the wait count that turns left
abbrev pub updated : Record → ℤ → Status → List ℕ → Record
updated r p at regs = record { regs = regs; qifv = at.qifv; qifw = at.qifw; k = r.k; m = r.m; n = r.n; position = p }

-- r at another position
abbrev pub positioned : Record → ℤ → Record
positioned r p = record_at (status_of r) r.regs p

-- r with another node, wait count and sizes
abbrev pub with_status : Record → Status → Record
with_status r at = record_at at r.regs r.position

-- the record of a status and registers, at position 0
abbrev pub new_record : Status → List ℕ → Record
new_record at regs = record_at at regs (pos 0)

abbrev pub zeros : Record
zeros = new_record (sized 0 0 0) (0 ∷ 0 ∷ 0 ∷ 0 ∷ 0 ∷ 0 ∷ 0 ∷ 0 ∷ 0 ∷ 0 ∷ 0 ∷ 0 ∷ 0 ∷ 0 ∷ 0 ∷ 0 ∷ [])

-- ---- the machine, with all lent words

pub record Machine : Type 0 where
  pub state : Record
  pub memory : List ℕ
  pub table : List ℕ

abbrev pub machine_of : Record → List ℕ → List ℕ → Machine
machine_of r mem table = record { state = r; memory = mem; table = table }

-- x as a call leaves it, with this record and memory: the table is only read
abbrev pub left_as : Machine → Record → List ℕ → Machine
left_as x r mem = machine_of r mem x.table

-- x at another position
abbrev pub at_position : Machine → ℤ → Machine
at_position x p = left_as x (positioned x.state p) x.memory

-- ---- what counts of it: the first M lent words, and the first 9 N, or all where there are fewer

pub record State : Type 0 where
  pub state : Record
  pub words : List ℕ
  pub links : List ℕ

abbrev pub state_of : Machine → State
state_of x = record { state = x.state; words = take x.state.m x.memory; links = take (table_words x.state.n) x.table }

-- the rest of the lent words
pub record Excess : Type 0 where
  pub words : List ℕ
  pub links : List ℕ

abbrev pub excess_of : Machine → Excess
excess_of x = record { words = drop x.state.m x.memory; links = drop (table_words x.state.n) x.table }

-- what an instruction sees
abbrev pub view_in : State → View
view_in s = record { at = status_of s.state; regs = s.state.regs; memory = s.words }

abbrev pub view_of : Machine → View
view_of x = view_in (state_of x)

-- refusal 10
abbrev pub wrong_sizes : Machine → Bool
wrong_sizes x = bad_sizes (status_of x.state) (state_of x).words (state_of x).links

-- The bounds that the claims on turns ask for and the types give: those of what a turn sees, and a position of 64 bits.
-- Each call proves them of its own arguments.
pub record Bounded (x : Machine) : Type 0 where
  pub view : Bounds (view_of x)
  pub position : SFits w64 x.state.position
