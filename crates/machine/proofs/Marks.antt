-- The bench marks: one computed test over the table, and the law that turns it into the statement. Assumes nothing.
use mathlib.Core.Path.{◌≡◌, refl}
use mathlib.Core.Bool.{Bool, true, ◌&&◌}
use mathlib.Core.List.{List, [], ◌∷◌}
use Rattle.word.specs.Word.{add_word, sub_word, mul_word, signed, is_less}
use Rattle.word.specs.Lists.{same}
use Rattle.word.proofs.Words.{and_true}
use Rattle.word.proofs.Lists.{same_equal}
use Rattle.qins.specs.Decode.{decode, operation, line, extended}
use Rattle.step.specs.Table.{link, paired}
use Rattle.word.specs.Refusal.{refuse}
use Rattle.step.specs.Step.{value, attempt, qif, child, enter}
use Rattle.step.specs.Sizes.{in_range, bad_sizes}
use Rattle.machine.specs.Turn.{judged, landed}
use Rattle.machine.specs.Batch.{after}
use Rattle.machine.specs.Marks.{Mark, observed, Hold, marks}

abbrev test : List Mark → Bool
test [] = true
test (m ∷ rest) = same (observed m.way (after m.way m.before m.machine)) m.shows && test rest

hold : (l : List Mark) → test l ≡ true → Hold l
hold [] h = tt
hold (m ∷ rest) h =
    let p = and_true (same (observed m.way (after m.way m.before m.machine)) m.shows) (test rest) h in
    (same_equal _ _ p.0, hold rest p.1)

tested : test marks ≡ true
unfolding same add_word sub_word mul_word signed is_less decode operation line extended link paired value refuse attempt qif child enter in_range bad_sizes judged landed after
tested = refl

pub marks_hold : Hold marks
marks_hold = hold marks tested
