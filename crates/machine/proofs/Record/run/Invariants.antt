use Rattle.machine.specs.Machine.{machine_of}
use Rattle.machine.proofs.Loops.{Loop}
use Rattle.machine.proofs.Record.run.Given as goal

abbrev pub invariant-loop-i : goal.invariant-loop-i
invariant-loop-i l = Loop l.d l.n l.most (machine_of l.self l.initial.mem l.table) l.at l.regs l.mem l.i
