-- What the parts of the maker promise (src/look.rt, src/walk.rt): of registers, memory and table that they hold or are lent.
use Rattle.std.specs.Prelude.{ℕ, zero, suc, ◌+◌, ◌-◌, ◌≤◌, ◌<◌, ◌≡◌, Bool, false, not, ◌&&◌, List, eqb, ltb, leb, get_or, set, Result, Ok, Err}
use Rattle.word.specs.Refusal.{refuse, number_of}
use Rattle.word.specs.declared.refusals.Refusal.{Refusal}
use Rattle.qins.specs.Decode.{decode}
use Rattle.step.specs.declared.Direction.TheVariants.{Forward}
use Rattle.step.specs.View.{View, sized}
use Rattle.step.specs.Step.{shifted}
use Rattle.machine.specs.Turn.{stride, finishes}
use Rattle.maker.specs.declared.Kind.TheVariants.{Plain}
use Rattle.maker.specs.declared.Seen.{Seen}
use Rattle.maker.specs.declared.Seen.TheVariants.{Last, Goes, Forks as AtFork, Joins}
use Rattle.maker.specs.declared.Walked.{Walked}
use Rattle.maker.specs.Walk.{Walk, size, used, cycles, ending, drawn, fork_size, fork_used, fork_cycles, fork_drawn}
use Rattle.maker.specs.Walkable.{Look}
use Rattle.maker.specs.Walkable.Look.{halts, last, goes, forks, joins}
use Rattle.maker.specs.Making.{Outcome, Forks}
use Rattle.maker.specs.Making.Outcome.{refused, ended}
use Rattle.maker.specs.Making.Forks.{failed, forked}
use Rattle.maker.specs.Idle.{idle_op, kind_of, coin_of, is_before_start}

-- ---- views without node and wait count

abbrev pub view_at : ℕ → ℕ → List ℕ → List ℕ → View
view_at k m regs mem = record { at = sized k m 0; regs = regs; memory = mem }

-- pc moved on; register a set before that, or after it
abbrev pub moved_on : List ℕ → List ℕ
moved_on l = set l 0 (shifted Forward (get_or l 0 0) (stride (get_or l 1 0)))

abbrev pub entered : List ℕ → ℕ → ℕ → List ℕ
entered l a x = moved_on (set l a x)

abbrev pub left : List ℕ → ℕ → ℕ → List ℕ
left l a x = set (moved_on l) a x

-- ---- one word: what stands there, with the turn made where it leads on; memory z at exit, m at entry

abbrev pub Looks : ℕ → ℕ → List ℕ → Result Seen Refusal → Look View → List ℕ → Type 0
Looks k w m (Err e) o z = o ≡ halts (number_of e)
Looks k w m (Ok Last) o z = (o ≡ last) × (z ≡ m)
Looks k w m (Ok (Goes l)) o z = o ≡ goes (view_at k w l z)
Looks k w m (Ok AtFork) o z = (o ≡ forks) × (z ≡ m)
Looks k w m (Ok Joins) o z = (o ≡ joins) × (z ≡ m)

-- the register that the qif or fiq at pc names
abbrev pub coin_in : List ℕ → List ℕ → ℕ
coin_in l z = coin_of (kind_of (idle_op (get_or z (get_or l 0 0) 0)))

-- pc is in the code, not at finish, and not at a qif or fiq
abbrev pub Simple : List ℕ → List ℕ → ℕ → Type 0
Simple l z k = (get_or l 0 0 < k) × (finishes z (get_or l 0 0) ≡ false) × (kind_of (decode (get_or z (get_or l 0 0) 0)) ≡ Plain)

-- ---- sizes: those that 10 would not refuse, with a memory of exactly M words; and room for the nestings left

abbrev pub Sized : ℕ → ℕ → ℕ → Type 0
Sized k m n = (0 < k) × (k ≤ m) × (m ≤ 8192) × (n ≡ m)

unfoldable pub Room : ℕ → ℕ → ℕ → Type 0
Room zero m l = Unit {0}
Room (suc nest) m l = (m ≤ l) × Room nest m (l - m)

-- ---- answers

abbrev pub walked_at : List ℕ → ℕ → ℕ → ℕ → ℕ → Walked
walked_at s u c n v = record { regs = s; used = u; cycles = c; nodes = n; node = v }

-- after the walk p from node v, with n nodes made and u cycles used before it
abbrev pub walked_of : ℕ → ℕ → ℕ → Walk → List ℕ → Walked
walked_of v n u p s = walked_at s (u + used p) (cycles p) (n + size p) (ending p v n)

-- of a branch: its answer, the table l and the memory z at exit; k and w are K and M; table and memory are free after a refusal
abbrev pub Shown : ℕ → ℕ → Outcome View → ℕ → ℕ → ℕ → List ℕ → Result Walked Refusal → List ℕ → List ℕ → Type 0
Shown k w (refused i) v n u t (Err e) l z = i ≡ number_of e
Shown k w (refused i) v n u t (Ok r) l z = ⊥
Shown k w (ended p x) v n u t (Err e) l z = ⊥
Shown k w (ended p x) v n u t (Ok r) l z = (r ≡ walked_of v n u p r.regs) × (l ≡ drawn p v n t) × (x ≡ view_at k w r.regs z)

-- of a qif
abbrev pub ShownFork : ℕ → ℕ → Forks View → ℕ → ℕ → ℕ → List ℕ → Result Walked Refusal → List ℕ → List ℕ → Type 0
ShownFork k w (failed i) v n u t (Err e) l z = i ≡ number_of e
ShownFork k w (failed i) v n u t (Ok r) l z = ⊥
ShownFork k w (forked a b x) v n u t (Err e) l z = ⊥
ShownFork k w (forked a b x) v n u t (Ok r) l z =
    (r ≡ walked_at r.regs (u + fork_used a b) (fork_cycles a b) (n + fork_size a b) (n + fork_size a b)) × (l ≡ fork_drawn v n a b t) × (x ≡ view_at k w r.regs z)

-- ---- the tests of a qif whose register is a, of registers and memory as the code holds them

abbrev pub held_of : ℕ → ℕ → List ℕ → List ℕ → Bool
held_of a x l z = eqb a (coin_in l z) && eqb (get_or l (coin_in l z) 0) x

-- the number that refuses: at the qif, with n nodes made and u cycles used
unfoldable pub qif_refusal_of : ℕ → ℕ → ℕ → ℕ
qif_refusal_of limit n u =
    refuse (leb limit u) 23
    (refuse (ltb 509 n) 23
    0)

-- at the fiq of branch x; full: no node may be made
unfoldable pub fiq_refusal_of : ℕ → ℕ → ℕ → ℕ → ℕ → Bool → ℕ → List ℕ → List ℕ → ℕ
fiq_refusal_of k m limit a x full u l z =
    refuse (is_before_start (view_at k m l z)) 18
    (refuse (leb limit u) 23
    (refuse full 23
    (refuse (not (held_of a x l z)) 24
    0)))
