-- The invariant: the words before i are copied.
use Rattle.maker.proofs.Copies.{Copied}
use Rattle.maker.proofs.copy.Given as goal

abbrev pub invariant-loop-i : goal.invariant-loop-i
invariant-loop-i l = Copied l.from l.initial.to l.to l.i
