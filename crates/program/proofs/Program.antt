-- None is left unmade but for a refusal: the batches of machine are complete. Assumes nothing.
use Rattle.step.specs.declared.Direction.TheVariants.{Forward}
use Rattle.machine.specs.Machine.{machine_of}
use Rattle.machine.proofs.Batches.{batches_complete}
use Rattle.program.specs.Program.{limit, NoneLeft}

pub none_left : NoneLeft
none_left file mem table w a mem' table' p z = (batches_complete Forward limit p.loaded a.turns a.refusal (machine_of a.state mem' table') (p.turned z)).stands
