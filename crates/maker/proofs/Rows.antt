-- The rows: one computed test over the table, and the law that turns it into the statement. Assumes nothing.
use mathlib.Core.Path.{◌≡◌, refl}
use mathlib.Core.Bool.{Bool, true, ◌&&◌}
use mathlib.Core.List.{List, [], ◌∷◌}
use Rattle.word.proofs.Words.{and_true}
use Rattle.qins.specs.Decode.{extended, line, operation, decode}
use Rattle.word.specs.Word.{add_word, sub_word}
use Rattle.word.specs.Refusal.{refuse}
use Rattle.word.specs.Lists.{same}
use Rattle.word.proofs.Lists.{same_equal}
use Rattle.step.specs.Step.{value, attempt}
use Rattle.step.specs.Sizes.{in_range, bad_sizes}
use Rattle.machine.specs.Turn.{landed}
use Rattle.maker.specs.Walk.{size, used, cycles, ending, put, pair, linked, drawn}
use Rattle.maker.specs.Making.{by_outcome, fork_by, walk_by, fork_at}
use Rattle.maker.specs.Idle.{idle_op, look_at}
use Rattle.maker.specs.Make.{outcome_of}
use Rattle.maker.specs.Rows.{Row, observed, Hold, rows}

abbrev shown : Row → Bool
shown x = same (observed x) x.shows

abbrev test : List Row → Bool
test [] = true
test (x ∷ rest) = shown x && test rest

holds : (l : List Row) → test l ≡ true → Hold l
holds [] h = tt
holds (x ∷ rest) h = let p = and_true (shown x) (test rest) h in (same_equal _ x.shows p.0, holds rest p.1)

tested : test rows ≡ true
unfolding add_word sub_word in_range bad_sizes outcome_of by_outcome fork_by walk_by fork_at look_at idle_op same decode operation line extended value refuse attempt landed size used cycles ending put pair linked drawn
tested = refl

pub rows_hold : Hold rows
rows_hold = holds rows tested
