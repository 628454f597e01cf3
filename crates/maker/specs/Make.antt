-- The call (document 02, #107): refusals in order, the answer, and what it leaves of the lent words.
use Rattle.std.specs.Prelude.{ℕ, ◌+◌, ◌*◌, ◌≡◌, Bool, false, not, ◌&&◌, List, ◌++◌, eqb, leb, length, get_or, drop, replicate, Result, Ok, Err}
use Rattle.word.specs.Word.{pick}
use Rattle.word.specs.Refusal.{refuse}
use Rattle.word.specs.declared.refusals.Refusal.{Refusal}
use Rattle.step.specs.Table.{table_words}
use Rattle.step.specs.Sizes.{max_nodes}
use Rattle.step.specs.View.{View, with_node, with_nodes}
use Rattle.machine.specs.Turn.{starts}
use Rattle.machine.specs.declared.Record.{Record}
use Rattle.machine.specs.Machine.{status_of, with_status, Machine, state_of, wrong_sizes}
use Rattle.maker.specs.declared.Finished.{Finished}
use Rattle.maker.specs.declared.Made.{Made}
use Rattle.maker.specs.Walk.{size, cycles, drawn}
use Rattle.maker.specs.Making.{Outcome, branch_at}
use Rattle.maker.specs.Making.Outcome.{refused, ended}
use Rattle.maker.specs.Idle.{machine}
use Rattle.maker.specs.Parts.{view_at}

-- the words of a table of 511 nodes, and of the scratch for M words
abbrev pub most_words : ℕ
most_words = table_words max_nodes

abbrev pub scratch_words : Record → ℕ
scratch_words r = 16 * r.m

-- ---- 22: pc at start, no table yet, no wait, and the table and the scratch long enough

abbrev pub can_begin : Machine → List ℕ → Bool
can_begin x scratch =
    let r = x.state in
    starts (status_of r) (state_of x).words (get_or r.regs 0 0)
    && (eqb r.n 0
    && (eqb r.qifw 0
    && (leb most_words (length x.table)
    && leb (scratch_words r) (length scratch))))

-- 10 or 22, else 0
abbrev pub refusal_of : Machine → List ℕ → ℕ
refusal_of x scratch =
    refuse (wrong_sizes x) 10
    (refuse (not (can_begin x scratch)) 22
    0)

-- ---- the walk: from node 1, the only one made, with no cycle used and a nesting of eight

-- over exactly M words of memory
abbrev pub walk_over : Record → ℕ → List ℕ → Outcome View
walk_over r limit words = branch_at machine limit 8 false 1 0 (view_at r.k r.m r.regs words)

unfoldable pub outcome_of : Machine → ℕ → Outcome View
outcome_of x limit = walk_over x.state limit (state_of x).words

-- ---- the answer

abbrev pub made_as : ℕ → ℕ → Record → Made
made_as n c r = record { refusal = n; cycles = c; state = r }

-- of an answer, the cycles and the record that is left: none, and the given record r, where it is refused
abbrev pub cycles_in : Result Finished Refusal → ℕ
cycles_in (Ok d) = d.cycles
cycles_in (Err e) = 0

abbrev pub state_in : Record → Result Finished Refusal → Record
state_in r (Ok d) = d.state
state_in r (Err e) = r

-- r at node 1 of n
abbrev pub with_table : Record → ℕ → Record
with_table r n = with_status r (with_node (with_nodes (status_of r) n) 1 r.qifw)

abbrev pub answer_of : Record → Outcome View → Made
answer_of r (refused i) = made_as i 0 r
answer_of r (ended p z) = made_as 0 (cycles p) (with_table r (1 + size p))

abbrev pub make_of : Machine → ℕ → List ℕ → Made
make_of x limit scratch =
    let n = refusal_of x scratch in
    pick (eqb n 0) (answer_of x.state (outcome_of x limit)) (made_as n 0 x.state)

-- ---- the table at exit: the nodes and then zeros, or zeros alone; beyond them as it was, and all of it where 10 or 22 refuses

abbrev pub drawn_by : Outcome View → List ℕ
drawn_by (refused i) = replicate most_words 0
drawn_by (ended p z) = drawn p 1 1 (replicate most_words 0)

abbrev pub table_after : Machine → ℕ → List ℕ → List ℕ
table_after x limit scratch =
    pick (eqb (refusal_of x scratch) 0) (drawn_by (outcome_of x limit) ++ drop most_words x.table) x.table

-- ---- what the call promises of its refusal n and its cycles c, of the machine y that its record and the lent words at exit are,
-- and of the scratch

pub record MakePromise (x : Machine) (limit : ℕ) (scratch : List ℕ) (n c : ℕ) (y : Machine) (scratch' : List ℕ) : Type 0 where
  pub answer : made_as n c y.state ≡ make_of x limit scratch
  pub memory : y.memory ≡ x.memory
  pub nodes : y.table ≡ table_after x limit scratch
  -- beyond its first 16 M words the scratch is as it was, and all of it is where 10 or 22 refuses
  pub behind : drop (scratch_words x.state) scratch' ≡ drop (scratch_words x.state) scratch
  pub untouched : (refusal_of x scratch ≡ 0 → ⊥) → scratch' ≡ scratch
