-- The invariant: the words before i are read, and the others as they were.
use mathlib.Core.Path.{◌≡◌}
use mathlib.Core.List.{◌++◌}
use lib.ListN.{drop}
use Rattle.image.specs.Format.{words_of}
use Rattle.image.proofs.words.read_words.Given as goal

abbrev pub invariant-loop-i : goal.invariant-loop-i
invariant-loop-i l = l.dst ≡ words_of l.i l.src ++ drop l.i l.initial.dst
