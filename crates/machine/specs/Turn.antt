-- One turn, either way (document 01, "A forward turn", "A back turn"; document 02, #104).
use Rattle.std.specs.Prelude.{ℕ, Bool, not, ◌&&◌, List, eqb, ltb, get_or}
use Rattle.word.specs.Word.{pick}
use Rattle.qins.specs.Op.{Op}
use Rattle.qins.specs.Decode.{decode, start_word, finish_word}
use Rattle.step.specs.declared.Direction.{Direction}
use Rattle.step.specs.declared.Direction.TheVariants.{Forward, Back}
use Rattle.step.specs.declared.Status.{Status}
use Rattle.step.specs.Step.{Attempt}
use Rattle.std.specs.Prelude.{Err, Ok}
use Rattle.step.specs.View.{View, reg, with_reg, seen, nodes}
use Rattle.step.specs.Sizes.{bad_sizes}
use Rattle.word.specs.Refusal.{refuse}
use Rattle.step.specs.Step.{shifted, performed, is_ready, attempt}
use Rattle.word.specs.declared.refusals.Refusal.TheVariants.{Sizes, Outside, End, Landing, Position}

-- ---- pc

abbrev pub pc : View → ℕ
pc s = reg s 0

abbrev pub br : View → ℕ
br s = reg s 1

abbrev pub at_pc : View → ℕ → View
at_pc s i = with_reg s 0 i

-- by 1 if br is 0, else by br
abbrev pub stride : ℕ → ℕ
stride b = pick (eqb b 0) 1 b

-- pc moves exactly if the wait count is 0
abbrev pub moved_pc : Direction → ℕ → ℕ → ℕ → ℕ
moved_pc d wait p b = pick (eqb wait 0) (shifted d p (stride b)) p

-- pc where the word is executed or undone: as it is, or shrunk first
abbrev pub from_pc : Direction → ℕ → ℕ → ℕ → ℕ
from_pc Forward wait p b = p
from_pc Back wait p b = moved_pc Back wait p b

-- pc after its effect: moved on, or as it is
abbrev pub to_pc : Direction → ℕ → ℕ → ℕ → ℕ
to_pc Forward wait p b = moved_pc Forward wait p b
to_pc Back wait p b = p

abbrev pub from : Direction → View → View
from d s = at_pc s (from_pc d s.at.qifw (pc s) (br s))

abbrev pub new_pc : Direction → View → ℕ
new_pc d s = to_pc d s.at.qifw (pc s) (br s)

abbrev pub to : Direction → View → View
to d s = at_pc s (new_pc d s)

-- ---- tests

abbrev pub is_code : Status → ℕ → Bool
is_code at i = ltb i at.k

-- address i of the memory l is below K and holds start
abbrev pub starts : Status → List ℕ → ℕ → Bool
starts at l i = is_code at i && eqb (get_or l i 0) start_word

abbrev pub finishes : List ℕ → ℕ → Bool
finishes l i = eqb (get_or l i 0) finish_word

-- ---- refusals in order, in the view s that the word finds

-- those before the word's own attempt a; last: there is no position further this way; old is pc before it shrank
unfoldable pub judged : List ℕ → Direction → Bool → ℕ → View → Attempt → Attempt
judged t Forward last old s a =
    refuse (bad_sizes s.at s.memory t) (Err Sizes)
    (refuse last (Err Position)
    (refuse (not (is_code s.at (pc s))) (Err Outside)
    (refuse (finishes s.memory (pc s)) (Err End)
    a)))
judged t Back last old s a =
    refuse (bad_sizes s.at s.memory t) (Err Sizes)
    (refuse last (Err Position)
    (refuse (is_ready s.at && starts s.at s.memory old) (Err End)
    (refuse (not (is_code s.at (pc s))) (Err Outside)
    (refuse (is_ready s.at && finishes s.memory (pc s)) (Err Landing)
    a))))

-- the operation at pc
abbrev pub present : View → Op
present s = decode (get_or s.memory (pc s) 0)

-- the word's own: 13 to 17 and 14
abbrev pub executed : List ℕ → Direction → View → Attempt
executed t d s = attempt t d (present s) s

-- and, forward, 18 behind it: the new pc, if it moved, is at start; no effect writes a code word, so the memory before it serves
unfoldable pub landed : Direction → View → Attempt → Attempt
landed Forward s (Err n) = Err n
landed Forward s (Ok e) =
    let s' = performed e s in
    refuse (is_ready s'.at && starts s.at s.memory (new_pc Forward s')) (Err Landing) (Ok e)
landed Back s a = a

-- what a turn would do, or why it is refused, over what the word's own attempt is
abbrev pub planned_by : (View → Attempt) → List ℕ → Direction → Bool → View → Attempt
planned_by own t d last s = let s' = from d s in judged t d last (pc s) s' (landed d s' (own s'))

abbrev pub planned : List ℕ → Direction → Bool → View → Attempt
planned t d last s = planned_by (executed t d) t d last s

-- the view after the turn, the old one where it is refused
abbrev pub turned : Direction → Attempt → View → View
turned d (Err n) s = s
turned d (Ok e) s = to d (performed e (from d s))

-- ---- the same of lent memory and table, whose first M and 9 N words count

abbrev pub plan_at : Direction → Bool → Status → List ℕ → List ℕ → List ℕ → Attempt
plan_at d last at regs mem table = planned (nodes at table) d last (seen at regs mem)

abbrev pub turned_at : Direction → Bool → Status → List ℕ → List ℕ → List ℕ → View
turned_at d last at regs mem table = turned d (plan_at d last at regs mem table) (seen at regs mem)
