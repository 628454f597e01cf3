-- Document 01's twelve bench marks, with the fetr at K-1 and the signed less of document 02 and rows beside them, as one table of
-- turns under one statement. Proved in proofs/Marks.
use Rattle.std.specs.Prelude.{ℕ, ◌≡◌, List, [], ◌∷◌, get_or}
use Rattle.step.specs.declared.Direction.{Direction}
use Rattle.step.specs.declared.Direction.TheVariants.{Forward, Back}
use Rattle.step.specs.View.{sized, with_node}
use Rattle.machine.specs.Machine.{new_record, Machine, machine_of}
use Rattle.machine.specs.Calls.{refusal, next}
use Rattle.machine.specs.Batch.{after}

-- a turn that is looked at, after some that are only made, and what it shows
pub record Mark : Type 0 where
  pub way : Direction
  pub before : ℕ
  pub machine : Machine
  pub shows : List ℕ

-- the turn's refusal; then pc, br, r1, r2, qifv and qifw after it, and the memory
abbrev pub observed : Direction → Machine → List ℕ
observed d x =
    let r = (next d x).state in
    refusal d x ∷ get_or r.regs 0 0 ∷ get_or r.regs 1 0 ∷ get_or r.regs 4 0 ∷ get_or r.regs 5 0 ∷ r.qifv ∷ r.qifw ∷ (next d x).memory

-- The statement: every row shows what it says
abbrev pub Hold : List Mark → Type 0
Hold [] = Unit {0}
Hold (m ∷ rest) = (observed m.way (after m.way m.before m.machine) ≡ m.shows) × Hold rest

-- pc, br, r1 and r2, with r3 0; the node; K, M and N; the memory and the table
abbrev pub over : ℕ → ℕ → ℕ → ℕ → ℕ → ℕ → ℕ → ℕ → List ℕ → List ℕ → Machine
over pc br a b node k m n =
    machine_of (new_record (with_node (sized k m n) node 0) (pc ∷ br ∷ 0 ∷ 0 ∷ a ∷ b ∷ 0 ∷ 0 ∷ 0 ∷ 0 ∷ 0 ∷ 0 ∷ 0 ∷ 0 ∷ 0 ∷ 0 ∷ []))

-- with no table
abbrev pub at : ℕ → ℕ → ℕ → ℕ → ℕ → ℕ → ℕ → ℕ → List ℕ → Machine
at pc br a b node k m n l = over pc br a b node k m n l []

-- a row: the direction, the machine, what it shows
abbrev pub row : Direction → Machine → List ℕ → Mark
row d x l = record { way = d; before = 0; machine = x; shows = l }

-- node 1, whose first child for coin 1 is node 2, which waits 2 cycles
abbrev pub waits : List ℕ
waits = 0 ∷ 2 ∷ 0 ∷ 0 ∷ 0 ∷ 0 ∷ 0 ∷ 0 ∷ 0 ∷ 0 ∷ 0 ∷ 0 ∷ 0 ∷ 1 ∷ 0 ∷ 0 ∷ 0 ∷ 2 ∷ []

-- qif(r1) with coin 1 at node 1, after some turns
abbrev pub waiting : ℕ → List ℕ → Mark
waiting before l = record { way = Forward; before = before; machine = over 0 0 1 0 1 1 1 2 (0x18400000 ∷ []) waits; shows = l }

-- nine words, of which the eighth is at pc 7
abbrev pub at_seven : ℕ → List ℕ
at_seven w = 0 ∷ 0 ∷ 0 ∷ 0 ∷ 0 ∷ 0 ∷ 0 ∷ w ∷ 0 ∷ []

-- the word w there takes r1 from 9 to v, with b in r2, and changes nothing else but pc
abbrev pub gives : ℕ → ℕ → ℕ → Mark
gives w b v = row Forward (at 7 0 9 b 0 9 9 0 (at_seven w)) (0 ∷ 8 ∷ 0 ∷ v ∷ b ∷ 0 ∷ 0 ∷ at_seven w)

abbrev pub marks : List Mark
marks =
    -- (a) 0x02400005 is xori r1,5
    row Forward (at 0 0 1 0 0 1 1 0 (0x02400005 ∷ [])) (0 ∷ 1 ∷ 0 ∷ 4 ∷ 0 ∷ 0 ∷ 0 ∷ 0x02400005 ∷ [])
    -- (b) add(r1,r2) goes on at 0 after the largest word
    ∷ row Forward (at 0 0 4294967295 1 0 1 1 0 (0x14450000 ∷ [])) (0 ∷ 1 ∷ 0 ∷ 0 ∷ 1 ∷ 0 ∷ 0 ∷ 0x14450000 ∷ [])
    -- (c) 0x14440000 is no instruction
    ∷ row Forward (at 0 0 3 3 0 1 1 0 (0x14440000 ∷ [])) (13 ∷ 0 ∷ 0 ∷ 3 ∷ 3 ∷ 0 ∷ 0 ∷ 0x14440000 ∷ [])
    -- (d) pc 7, br 0 goes to 8
    ∷ row Forward (at 7 0 0 0 0 9 9 0 (at_seven 0x1A000000)) (0 ∷ 8 ∷ 0 ∷ 0 ∷ 0 ∷ 0 ∷ 0 ∷ at_seven 0x1A000000)
    -- (e) pc 7, br 4,294,967,294 goes to 5
    ∷ row Forward (at 7 4294967294 0 0 0 9 9 0 (at_seven 0x1A000000)) (0 ∷ 5 ∷ 4294967294 ∷ 0 ∷ 0 ∷ 0 ∷ 0 ∷ at_seven 0x1A000000)
    -- (f) 0x0500FFFE makes br 0 into 4,294,967,294
    ∷ row Forward (at 7 0 0 0 0 9 9 0 (at_seven 0x0500FFFE)) (0 ∷ 5 ∷ 4294967294 ∷ 0 ∷ 0 ∷ 0 ∷ 0 ∷ at_seven 0x0500FFFE)
    -- (g) bez with 0 xors, with 1 doesn't
    ∷ row Forward (at 7 0 0 0 0 9 9 0 (at_seven 0x0640FFFE)) (0 ∷ 5 ∷ 4294967294 ∷ 0 ∷ 0 ∷ 0 ∷ 0 ∷ at_seven 0x0640FFFE)
    ∷ row Forward (at 7 0 1 0 0 9 9 0 (at_seven 0x0640FFFE)) (0 ∷ 8 ∷ 0 ∷ 1 ∷ 0 ∷ 0 ∷ 0 ∷ at_seven 0x0640FFFE)
    -- (h) ld at K-1 and M: 15; at K, below M: done
    ∷ row Forward (at 0 0 9 0 0 2 3 0 (0x01400001 ∷ 0 ∷ 6 ∷ [])) (15 ∷ 0 ∷ 0 ∷ 9 ∷ 0 ∷ 0 ∷ 0 ∷ 0x01400001 ∷ 0 ∷ 6 ∷ [])
    ∷ row Forward (at 0 0 9 0 0 2 3 0 (0x01400003 ∷ 0 ∷ 6 ∷ [])) (15 ∷ 0 ∷ 0 ∷ 9 ∷ 0 ∷ 0 ∷ 0 ∷ 0x01400003 ∷ 0 ∷ 6 ∷ [])
    ∷ row Forward (at 0 0 9 0 0 2 3 0 (0x01400002 ∷ 0 ∷ 6 ∷ [])) (0 ∷ 1 ∷ 0 ∷ 6 ∷ 0 ∷ 0 ∷ 0 ∷ 0x01400002 ∷ 0 ∷ 9 ∷ [])
    -- and of document 02, #106: fetr(r1,r2) at K-1 reads a code word, and is undone; at M: 15, either way
    ∷ row Forward (at 0 0 9 1 0 2 3 0 (0x11450000 ∷ 5 ∷ 6 ∷ [])) (0 ∷ 1 ∷ 0 ∷ 12 ∷ 1 ∷ 0 ∷ 0 ∷ 0x11450000 ∷ 5 ∷ 6 ∷ [])
    ∷ row Back (at 1 0 12 1 0 2 3 0 (0x11450000 ∷ 5 ∷ 6 ∷ [])) (0 ∷ 0 ∷ 0 ∷ 9 ∷ 1 ∷ 0 ∷ 0 ∷ 0x11450000 ∷ 5 ∷ 6 ∷ [])
    ∷ row Forward (at 0 0 9 3 0 2 3 0 (0x11450000 ∷ 5 ∷ 6 ∷ [])) (15 ∷ 0 ∷ 0 ∷ 9 ∷ 3 ∷ 0 ∷ 0 ∷ 0x11450000 ∷ 5 ∷ 6 ∷ [])
    ∷ row Back (at 1 0 9 3 0 2 3 0 (0x11450000 ∷ 5 ∷ 6 ∷ [])) (15 ∷ 1 ∷ 0 ∷ 9 ∷ 3 ∷ 0 ∷ 0 ∷ 0x11450000 ∷ 5 ∷ 6 ∷ [])
    -- at K it reads a data word
    ∷ row Forward (at 0 0 9 2 0 2 3 0 (0x11450000 ∷ 5 ∷ 6 ∷ [])) (0 ∷ 1 ∷ 0 ∷ 15 ∷ 2 ∷ 0 ∷ 0 ∷ 0x11450000 ∷ 5 ∷ 6 ∷ [])
    -- ldr(r1,r2) as ld: at K-1 and M 15; at K and M-1, of two data words, done
    ∷ row Forward (at 0 0 9 1 0 2 4 0 (0x10450000 ∷ 5 ∷ 6 ∷ 7 ∷ [])) (15 ∷ 0 ∷ 0 ∷ 9 ∷ 1 ∷ 0 ∷ 0 ∷ 0x10450000 ∷ 5 ∷ 6 ∷ 7 ∷ [])
    ∷ row Forward (at 0 0 9 4 0 2 4 0 (0x10450000 ∷ 5 ∷ 6 ∷ 7 ∷ [])) (15 ∷ 0 ∷ 0 ∷ 9 ∷ 4 ∷ 0 ∷ 0 ∷ 0x10450000 ∷ 5 ∷ 6 ∷ 7 ∷ [])
    ∷ row Forward (at 0 0 9 2 0 2 4 0 (0x10450000 ∷ 5 ∷ 6 ∷ 7 ∷ [])) (0 ∷ 1 ∷ 0 ∷ 6 ∷ 2 ∷ 0 ∷ 0 ∷ 0x10450000 ∷ 5 ∷ 9 ∷ 7 ∷ [])
    ∷ row Forward (at 0 0 9 3 0 2 4 0 (0x10450000 ∷ 5 ∷ 6 ∷ 7 ∷ [])) (0 ∷ 1 ∷ 0 ∷ 7 ∷ 3 ∷ 0 ∷ 0 ∷ 0x10450000 ∷ 5 ∷ 6 ∷ 9 ∷ [])
    -- fetr(r1,pc) reads its own word; undone, the word at the shrunk pc
    ∷ row Forward (at 7 0 9 0 0 9 9 0 (at_seven 0x11400000)) (0 ∷ 8 ∷ 0 ∷ 0x11400009 ∷ 0 ∷ 0 ∷ 0 ∷ at_seven 0x11400000)
    ∷ row Back (at 8 0 0x11400009 0 0 9 9 0 (at_seven 0x11400000)) (0 ∷ 7 ∷ 0 ∷ 9 ∷ 0 ∷ 0 ∷ 0 ∷ at_seven 0x11400000)
    -- ldr(r1,pc): 15
    ∷ row Forward (at 7 0 9 0 0 9 9 0 (at_seven 0x10400000)) (15 ∷ 7 ∷ 0 ∷ 9 ∷ 0 ∷ 0 ∷ 0 ∷ at_seven 0x10400000)
    -- (i) 7 divided by 0 gives 0, which leaves r1 as it is: arib(r1,r2,r3,3); by pc, 7, it gives 1: arib(r1,r2,pc,3)
    ∷ row Forward (at 0 0 9 7 0 1 1 0 (0x23456300 ∷ [])) (0 ∷ 1 ∷ 0 ∷ 9 ∷ 7 ∷ 0 ∷ 0 ∷ 0x23456300 ∷ [])
    ∷ gives 0x23450300 7 8
    -- and of document 02, #108: -1 is less than 0, arib(r1,r2,r3,5), and undone
    ∷ gives 0x23456500 4294967295 8
    ∷ row Back (at 8 0 8 4294967295 0 9 9 0 (at_seven 0x23456500)) (0 ∷ 7 ∷ 0 ∷ 9 ∷ 4294967295 ∷ 0 ∷ 0 ∷ at_seven 0x23456500)
    -- 0 is not less than -1, and less than 7, arib(r1,r3,r2,5); 3 is less than 7, and 7 is not, arib(r1,r2,pc,5)
    ∷ gives 0x23465500 4294967295 9
    ∷ gives 0x23465500 7 8
    ∷ gives 0x23450500 3 8
    ∷ gives 0x23450500 7 9
    -- 0 equals 0, arib(r1,r2,r3,4), 7 equals 7 and 3 does not, arib(r1,r2,pc,4), nor does 0, arib(r1,r3,pc,4), and -1 does not equal 1
    ∷ gives 0x23456400 0 8
    ∷ gives 0x23450400 7 8
    ∷ gives 0x23450400 3 9
    ∷ gives 0x23460400 7 9
    ∷ row Forward (at 1 0 9 4294967295 0 2 2 0 (0 ∷ 0x23450400 ∷ [])) (0 ∷ 2 ∷ 0 ∷ 9 ∷ 4294967295 ∷ 0 ∷ 0 ∷ 0 ∷ 0x23450400 ∷ [])
    -- 7 divided by 0, arib(r1,r2,r3,3), 0 by 7, arib(r1,r3,r2,3), 7 by 7, arib(r1,pc,r2,3), and the largest word by 7, which gives 0x24924924
    ∷ gives 0x23456300 7 9
    ∷ gives 0x23465300 7 9
    ∷ gives 0x23405300 7 8
    ∷ gives 0x23450300 4294967295 0x2492492D
    -- (j) qif into w = 2 takes three turns
    ∷ waiting 0 (0 ∷ 0 ∷ 0 ∷ 1 ∷ 0 ∷ 2 ∷ 2 ∷ 0x18400000 ∷ [])
    ∷ waiting 1 (0 ∷ 0 ∷ 0 ∷ 1 ∷ 0 ∷ 2 ∷ 1 ∷ 0x18400000 ∷ [])
    ∷ waiting 2 (0 ∷ 1 ∷ 0 ∷ 1 ∷ 0 ∷ 2 ∷ 0 ∷ 0x18400000 ∷ [])
    -- (k) back at start, qifw 0: 12
    ∷ row Back (at 0 0 0 0 0 1 1 0 (0x1A000000 ∷ [])) (12 ∷ 0 ∷ 0 ∷ 0 ∷ 0 ∷ 0 ∷ 0 ∷ 0x1A000000 ∷ [])
    -- (l) coin 2: 16
    ∷ row Forward (at 0 0 2 0 1 1 1 0 (0x18400000 ∷ [])) (16 ∷ 0 ∷ 0 ∷ 2 ∷ 0 ∷ 1 ∷ 0 ∷ 0x18400000 ∷ [])
    ∷ []
