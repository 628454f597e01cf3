-- What is claimed of a made table (document 02, #107): of whatever the call answers, and of the walk that makes it.
use Rattle.std.specs.Prelude.{ℕ, ◌+◌, ◌<◌, ◌≤◌, ◌≡◌, Bool, true, false, ◌||◌, ◌⊎◌, List, [], ◌∷◌, ◌++◌, eqb, get_or, drop, replicate}
use Rattle.qins.specs.Op.Op.{Start}
use Rattle.qins.specs.Decode.{is_instruction}
use Rattle.step.specs.declared.Direction.TheVariants.{Forward}
use Rattle.std.specs.Prelude.{Err}
use Rattle.step.specs.Table.{table_words}
use Rattle.step.specs.Sizes.{bad_sizes}
use Rattle.step.specs.View.{View, placed}
use Rattle.step.specs.Step.{attempt}
use Rattle.machine.specs.Turn.{pc}
use Rattle.machine.specs.Position.{is_last}
use Rattle.machine.specs.Machine.{Machine, state_of, view_of}
use Rattle.machine.specs.Calls.{plan_of}
use Rattle.links.specs.Check.{check_of, check_node_of}
use Rattle.maker.specs.Walk.{Walk, size, cycles, ending, drawn}
use Rattle.maker.specs.Making.{branch_at}
use Rattle.maker.specs.Making.Outcome.{ended}
use Rattle.maker.specs.Idle.{is_gate, machine}
use Rattle.maker.specs.Follow.{idled, planned_idle, walker, follows}
use Rattle.maker.specs.Follow.Went.{went}
use Rattle.maker.specs.Make.{most_words, MakePromise}
use Rattle.word.specs.declared.refusals.Refusal.TheVariants.{End}

-- ---- an accepted call

-- From the machine y that is left, over its table, uni and unib idle, every choice of coins goes through exactly n cycles, none of
-- them refused and every coin register restored. All end in one state, which stands at finish: a turn more is refused by 12.
pub record EveryChoice (n : ℕ) (y : Machine) : Type 0 where
  pub end : View
  pub walks : (c : ℕ → ℕ) → ((i : ℕ) → c i ≤ 1) → follows (state_of y).links c n 0 (walker (view_of y) []) ≡ went (walker end [])
  pub finished : planned_idle (state_of y).links end ≡ Err End

pub record OnMade : Type 0 where
  pub choices : {x y : Machine} {limit n c : ℕ} {scratch scratch' : List ℕ} → MakePromise x limit scratch n c y scratch' → n ≡ 0 → EveryChoice c y
  -- the check of every node of the table finds its links paired, and so the whole check gives no 8
  pub paired : {x y : Machine} {limit n c : ℕ} {scratch scratch' : List ℕ} → MakePromise x limit scratch n c y scratch' → n ≡ 0
      → (v : ℕ) → 0 < v → v ≤ y.state.n → check_node_of y v ≡ 0
  pub checked : {x y : Machine} {limit n c : ℕ} {scratch scratch' : List ℕ} → MakePromise x limit scratch n c y scratch' → n ≡ 0 → (check_of y).refusal ≡ 8 → ⊥
  -- zeros after the nodes
  pub zeros : {x y : Machine} {limit n c : ℕ} {scratch scratch' : List ℕ} → MakePromise x limit scratch n c y scratch' → n ≡ 0
      → (i : ℕ) → table_words y.state.n ≤ i → i < most_words → get_or y.table i 0 ≡ 0

-- ---- a refused one

abbrev pub is_one_of : ℕ → List ℕ → Bool
is_one_of i [] = false
is_one_of i (x ∷ l) = eqb i x || is_one_of i l

-- the refusals of the walk: 14, 16 and 21 are not among them
abbrev pub walk_refusals : List ℕ
walk_refusals = 11 ∷ 12 ∷ 13 ∷ 15 ∷ 17 ∷ 18 ∷ 23 ∷ 24 ∷ []

pub record OnRefused : Type 0 where
  pub numbers : {x y : Machine} {limit n c : ℕ} {scratch scratch' : List ℕ} → MakePromise x limit scratch n c y scratch' → is_one_of n (0 ∷ 10 ∷ 22 ∷ walk_refusals) ≡ true
  -- no cycles, and the record as it was given
  pub given : {x y : Machine} {limit n c : ℕ} {scratch scratch' : List ℕ} → MakePromise x limit scratch n c y scratch' → (n ≡ 0 → ⊥) → (c ≡ 0) × (y.state ≡ x.state)
  pub unwritten : {x y : Machine} {limit n c : ℕ} {scratch scratch' : List ℕ} → MakePromise x limit scratch n c y scratch' → (n ≡ 10) ⊎ (n ≡ 22)
      → (y.table ≡ x.table) × (scratch' ≡ scratch)
  pub cleared : {x y : Machine} {limit n c : ℕ} {scratch scratch' : List ℕ} → MakePromise x limit scratch n c y scratch' → is_one_of n walk_refusals ≡ true
      → y.table ≡ replicate most_words 0 ++ drop most_words x.table

-- ---- the walk, over all nestings

-- An accepted walk p from s to z, with any limit and any nesting allowed: over the table that it draws, every choice of coins goes
-- through `cycles p` cycles to z, at the node that p ends at
pub record AnyNesting : Type 0 where
  pub walks : (limit nest : ℕ) (s z : View) (p : Walk) (t : List ℕ) → branch_at machine limit nest false 1 0 s ≡ ended p z
      → bad_sizes (placed (1 + size p) 1 0 s).at s.memory (drawn p 1 1 t) ≡ false
      → (c : ℕ → ℕ) → ((i : ℕ) → c i ≤ 1)
      → follows (drawn p 1 1 t) c (cycles p) 0 (walker (placed (1 + size p) 1 0 s) []) ≡ went (walker (placed (1 + size p) (ending p 1 1) 0 z) [])

-- ---- a cycle over a table is a turn

pub record IdleTurns : Type 0 where
  -- the plan of the turn that the call makes, where the word at pc is no uni and no unib
  pub other : (x : Machine) → is_last Forward x.state.position ≡ false
      → is_gate (get_or (state_of x).words (get_or x.state.regs 0 0) 0) ≡ false → planned_idle (state_of x).links (view_of x) ≡ plan_of Forward x
  -- and such a word, if it is an instruction, is attempted as a start
  pub gate : (t : List ℕ) (s : View) → is_gate (get_or s.memory (pc s) 0) ≡ true → is_instruction (get_or s.memory (pc s) 0) ≡ true
      → idled t s ≡ attempt t Forward Start s
