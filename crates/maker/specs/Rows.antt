-- Small programs and what the call makes of them, worked out by hand from document 02, as one table under one statement.
-- Proved in proofs/Rows.
use Rattle.std.specs.Prelude.{ℕ, ◌+◌, ◌*◌, ◌≡◌, List, [], ◌∷◌, ◌++◌, pos, length, take, replicate}
use Rattle.step.specs.Table.{table_words}
use Rattle.step.specs.View.{sized, with_node}
use Rattle.machine.specs.declared.Record.{Record}
use Rattle.machine.specs.Machine.{record_at, machine_of}
use Rattle.maker.specs.Make.{make_of, table_after}

-- the record and the memory, the limit, the words of table and scratch that are lent, all of them 9, and what the call shows
pub record Row : Type 0 where
  pub state : Record
  pub memory : List ℕ
  pub limit : ℕ
  pub table : ℕ
  pub scratch : ℕ
  pub shows : List ℕ

abbrev pub nines : ℕ → List ℕ
nines n = replicate n 9

-- refusal, cycles, N and node; then the words of the nodes and of one node after them
abbrev pub observed : Row → List ℕ
observed x =
    let given = machine_of x.state x.memory (nines x.table) in
    let a = make_of given x.limit (nines x.scratch) in
    let t = table_after given x.limit (nines x.scratch) in
    a.refusal ∷ a.cycles ∷ a.state.n ∷ a.state.qifv ∷ take (table_words (a.state.n + 1)) t

-- The statement: every row shows what it says
abbrev pub Hold : List Row → Type 0
Hold [] = Unit {0}
Hold (x ∷ rest) = (observed x ≡ x.shows) × Hold rest

-- r1, r2 and r3; K and N; at node 5 and the largest position, which count for nothing; the memory
abbrev pub at : ℕ → ℕ → ℕ → ℕ → ℕ → List ℕ → Record
at a b c k n l =
    record_at (with_node (sized k (length l) n) 5 0) (0 ∷ 0 ∷ 0 ∷ 0 ∷ a ∷ b ∷ c ∷ 0 ∷ 0 ∷ 0 ∷ 0 ∷ 0 ∷ 0 ∷ 0 ∷ 0 ∷ 0 ∷ []) (pos 9223372036854775807)

-- a program without data words, with so many words of table and scratch as are enough
abbrev pub row : ℕ → ℕ → List ℕ → ℕ → List ℕ → Row
row a b l limit shows =
    record { state = at a b 0 (length l) 0 l; memory = l; limit = limit; table = 4599; scratch = 16 * length l; shows = shows }

-- with a data word after it
abbrev pub data_row : ℕ → ℕ → ℕ → List ℕ → ℕ → ℕ → List ℕ → Row
data_row a b c l word limit shows =
    record { state = at a b c (length l) 0 (l ++ word ∷ []); memory = l ++ word ∷ []; limit = limit; table = 4599; scratch = 16 * (length l + 1); shows = shows }

-- start and finish, with N and lent words as they are given
abbrev pub lent : ℕ → ℕ → ℕ → List ℕ → Row
lent n t s shows =
    let l : List ℕ = 0x1A000000 ∷ 0x1B000000 ∷ [] in
    record { state = at 0 0 0 2 n l; memory = l; limit = 9; table = t; scratch = s; shows = shows }

-- refused in the walk: no cycles, the record as it was, zeros
abbrev pub refused_by : ℕ → List ℕ
refused_by n = n ∷ 0 ∷ 0 ∷ 5 ∷ replicate 9 0

-- accepted, at node 1, with zeros after the nodes
abbrev pub made : ℕ → ℕ → List ℕ → List ℕ
made c n l = 0 ∷ c ∷ n ∷ 1 ∷ l ++ replicate 9 0

-- ---- programs, and their nodes: a line each, fc0 fc1 lc0 lc1 cf cl nx pr w

-- start, qif(r1), fiq(r1), finish
abbrev pub bare : List ℕ
bare = 0x1A000000 ∷ 0x18400000 ∷ 0x19400000 ∷ 0x1B000000 ∷ []

abbrev pub bare_table : List ℕ
bare_table =
    2 ∷ 3 ∷ 2 ∷ 3 ∷ 0 ∷ 0 ∷ 4 ∷ 0 ∷ 0
    ∷ 0 ∷ 0 ∷ 0 ∷ 0 ∷ 1 ∷ 1 ∷ 0 ∷ 0 ∷ 0
    ∷ 0 ∷ 0 ∷ 0 ∷ 0 ∷ 1 ∷ 1 ∷ 0 ∷ 0 ∷ 0
    ∷ 0 ∷ 0 ∷ 0 ∷ 0 ∷ 0 ∷ 0 ∷ 0 ∷ 1 ∷ 0
    ∷ []

-- one qif on r1: coin 0 walks the words x and y, coin 1 jumps over them and waits two cycles, at its first child
abbrev pub uneven : ℕ → ℕ → List ℕ
uneven x y = 0x1A000000 ∷ 0x18400000 ∷ 0x07400003 ∷ x ∷ y ∷ 0x07400003 ∷ 0x19400000 ∷ 0x1B000000 ∷ []

abbrev pub uneven_table : List ℕ
uneven_table =
    2 ∷ 3 ∷ 2 ∷ 3 ∷ 0 ∷ 0 ∷ 4 ∷ 0 ∷ 0
    ∷ 0 ∷ 0 ∷ 0 ∷ 0 ∷ 1 ∷ 1 ∷ 0 ∷ 0 ∷ 0
    ∷ 0 ∷ 0 ∷ 0 ∷ 0 ∷ 1 ∷ 1 ∷ 0 ∷ 0 ∷ 2
    ∷ 0 ∷ 0 ∷ 0 ∷ 0 ∷ 0 ∷ 0 ∷ 0 ∷ 1 ∷ 0
    ∷ []

-- the same with coin 0 waiting; a uni and a unib in the branch of coin 1; after the fiq an ldr that needs r1 as it was
abbrev pub gates : List ℕ
gates = 0x1A000000 ∷ 0x18400000 ∷ 0x06400003 ∷ 0x20500100 ∷ 0x21560200 ∷ 0x06400003 ∷ 0x19400000 ∷ 0x10640000 ∷ 0x1B000000 ∷ []

abbrev pub gates_table : List ℕ
gates_table =
    2 ∷ 3 ∷ 2 ∷ 3 ∷ 0 ∷ 0 ∷ 4 ∷ 0 ∷ 0
    ∷ 0 ∷ 0 ∷ 0 ∷ 0 ∷ 1 ∷ 1 ∷ 0 ∷ 0 ∷ 2
    ∷ 0 ∷ 0 ∷ 0 ∷ 0 ∷ 1 ∷ 1 ∷ 0 ∷ 0 ∷ 0
    ∷ 0 ∷ 0 ∷ 0 ∷ 0 ∷ 0 ∷ 0 ∷ 0 ∷ 1 ∷ 0
    ∷ []

-- a qif on r2 in both branches of one on r1
abbrev pub in_both : List ℕ
in_both = 0x1A000000 ∷ 0x18400000 ∷ 0x18500000 ∷ 0x19500000 ∷ 0x19400000 ∷ 0x1B000000 ∷ []

abbrev pub in_both_table : List ℕ
in_both_table =
    2 ∷ 3 ∷ 6 ∷ 9 ∷ 0 ∷ 0 ∷ 10 ∷ 0 ∷ 0
    ∷ 4 ∷ 5 ∷ 4 ∷ 5 ∷ 1 ∷ 0 ∷ 6 ∷ 0 ∷ 0
    ∷ 7 ∷ 8 ∷ 7 ∷ 8 ∷ 1 ∷ 0 ∷ 9 ∷ 0 ∷ 0
    ∷ 0 ∷ 0 ∷ 0 ∷ 0 ∷ 2 ∷ 2 ∷ 0 ∷ 0 ∷ 0
    ∷ 0 ∷ 0 ∷ 0 ∷ 0 ∷ 2 ∷ 2 ∷ 0 ∷ 0 ∷ 0
    ∷ 0 ∷ 0 ∷ 0 ∷ 0 ∷ 0 ∷ 1 ∷ 0 ∷ 2 ∷ 0
    ∷ 0 ∷ 0 ∷ 0 ∷ 0 ∷ 3 ∷ 3 ∷ 0 ∷ 0 ∷ 0
    ∷ 0 ∷ 0 ∷ 0 ∷ 0 ∷ 3 ∷ 3 ∷ 0 ∷ 0 ∷ 0
    ∷ 0 ∷ 0 ∷ 0 ∷ 0 ∷ 0 ∷ 1 ∷ 0 ∷ 3 ∷ 0
    ∷ 0 ∷ 0 ∷ 0 ∷ 0 ∷ 0 ∷ 0 ∷ 0 ∷ 1 ∷ 0
    ∷ []

-- in the branch of coin 0 alone, of unequal branches itself: coin 1 waits for its waits too
abbrev pub in_one : List ℕ
in_one =
    0x1A000000 ∷ 0x18400000 ∷ 0x07400007 ∷ 0x18500000 ∷ 0x06500003 ∷ 0x03600001 ∷ 0x04600001 ∷ 0x06500003 ∷ 0x19500000 ∷ 0x07400007 ∷ 0x19400000 ∷ 0x1B000000 ∷ []

abbrev pub in_one_table : List ℕ
in_one_table =
    2 ∷ 3 ∷ 6 ∷ 3 ∷ 0 ∷ 0 ∷ 7 ∷ 0 ∷ 0
    ∷ 4 ∷ 5 ∷ 4 ∷ 5 ∷ 1 ∷ 0 ∷ 6 ∷ 0 ∷ 0
    ∷ 0 ∷ 0 ∷ 0 ∷ 0 ∷ 1 ∷ 1 ∷ 0 ∷ 0 ∷ 6
    ∷ 0 ∷ 0 ∷ 0 ∷ 0 ∷ 2 ∷ 2 ∷ 0 ∷ 0 ∷ 2
    ∷ 0 ∷ 0 ∷ 0 ∷ 0 ∷ 2 ∷ 2 ∷ 0 ∷ 0 ∷ 0
    ∷ 0 ∷ 0 ∷ 0 ∷ 0 ∷ 0 ∷ 1 ∷ 0 ∷ 2 ∷ 0
    ∷ 0 ∷ 0 ∷ 0 ∷ 0 ∷ 0 ∷ 0 ∷ 0 ∷ 1 ∷ 0
    ∷ []

-- ---- the rows

abbrev pub rows : List Row
rows =
    -- start and finish: one cycle, one node without links; and no cycle allowed
    row 0 0 (0x1A000000 ∷ 0x1B000000 ∷ []) 1 (made 1 1 (replicate 9 0))
    ∷ row 0 0 (0x1A000000 ∷ 0x1B000000 ∷ []) 0 (refused_by 23)
    -- start, the qif once and its fiq twice are four cycles walked, and three for each coin
    ∷ row 7 0 bare 4 (made 3 4 bare_table)
    ∷ row 7 0 bare 3 (refused_by 23)
    -- xori r2 1, twice: ten walked, seven for each coin
    ∷ row 0 0 (uneven 0x02500001 0x02500001) 10 (made 7 4 uneven_table)
    ∷ row 0 0 (uneven 0x02500001 0x02500001) 9 (refused_by 23)
    -- uni and unib idle, and a uni of para 9 is none
    ∷ row 0 6 (uneven 0x20500100 0x02500000) 10 (made 7 4 uneven_table)
    ∷ row 0 6 (uneven 0x20500900 0x02500000) 10 (refused_by 13)
    ∷ data_row 9 0 1 gates 77 11 (made 8 4 gates_table)
    ∷ data_row 9 0 1 gates 77 10 (refused_by 23)
    -- r2 differs at the fiq; r2 is exchanged with the word at 8: the memory differs, unless it held the same
    ∷ row 0 0 (uneven 0x02500001 0x02500000) 10 (refused_by 24)
    ∷ data_row 0 5 0 (uneven 0x01500008 0x02500005) 0 10 (refused_by 24)
    ∷ data_row 0 5 0 (uneven 0x01500008 0x02500000) 5 10 (made 7 4 uneven_table)
    -- qifs in qifs: nodes are numbered as they are made
    ∷ row 3 4 in_both 10 (made 5 10 in_both_table)
    ∷ row 3 4 in_both 9 (refused_by 23)
    ∷ row 7 5 in_one 17 (made 11 7 in_one_table)
    ∷ row 7 5 in_one 16 (refused_by 23)
    -- eight in each other, and then no instruction; nine
    ∷ row 0 0 (0x1A000000 ∷ replicate 8 0x18400000 ++ 0 ∷ []) 99 (refused_by 13)
    ∷ row 0 0 (0x1A000000 ∷ replicate 9 0x18400000) 99 (refused_by 23)
    -- with the limit used up: 17 of a fiq in no branch, 12 of a finish in one, 18 at a qif and at branch 0's fiq, 13
    ∷ row 0 0 (0x1A000000 ∷ 0x19400000 ∷ 0x1A000000 ∷ []) 1 (refused_by 17)
    ∷ row 0 0 (0x1A000000 ∷ 0x18400000 ∷ 0x1B000000 ∷ []) 2 (refused_by 12)
    ∷ row 0 0 (0x1A000000 ∷ 0x18400000 ∷ 0x1A000000 ∷ []) 1 (refused_by 18)
    ∷ row 0 0 (0x1A000000 ∷ 0x18400000 ∷ 0x19400000 ∷ 0x1A000000 ∷ []) 2 (refused_by 18)
    ∷ row 0 0 (0x1A000000 ∷ 0x20500200 ∷ []) 1 (refused_by 13)
    -- 23 before 24 at a fiq of r2, which holds 0; and at one of r2 that was given the coin
    ∷ row 0 0 (0x1A000000 ∷ 0x18400000 ∷ 0x19500000 ∷ 0x1B000000 ∷ []) 2 (refused_by 23)
    ∷ row 0 0 (0x1A000000 ∷ 0x18400000 ∷ 0x19500000 ∷ 0x1B000000 ∷ []) 3 (refused_by 24)
    ∷ row 0 0 (0x1A000000 ∷ 0x18400000 ∷ 0x13540000 ∷ 0x13450000 ∷ 0x19500000 ∷ 0x1B000000 ∷ []) 5 (refused_by 24)
    -- pc past the code, no instruction, and an exchange with a code word
    ∷ row 0 0 (0x1A000000 ∷ []) 9 (refused_by 11)
    ∷ row 0 0 (0x1A000000 ∷ 0 ∷ []) 9 (refused_by 13)
    ∷ row 0 0 (0x1A000000 ∷ 0x01500000 ∷ []) 9 (refused_by 15)
    -- 10 before 22; 22 for a node, a table one word short and a scratch one word short: nothing is written
    ∷ lent 1 8 32 (10 ∷ 0 ∷ 1 ∷ 5 ∷ nines 8)
    ∷ lent 1 4599 32 (22 ∷ 0 ∷ 1 ∷ 5 ∷ nines 18)
    ∷ lent 0 4598 32 (22 ∷ 0 ∷ 0 ∷ 5 ∷ nines 9)
    ∷ lent 0 4599 31 (22 ∷ 0 ∷ 0 ∷ 5 ∷ nines 9)
    ∷ []
