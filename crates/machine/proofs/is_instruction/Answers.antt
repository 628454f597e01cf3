use mathlib.Core.Path.{ap}
use mathlib.Core.Bool.{not}
use Rattle.machine.proofs.Instruction.{told_by_13}
use Rattle.machine.proofs.is_instruction.Goals as goal

pub returns : goal.returns
returns c =
    rw (c.number_in.ensures, c.number.ensures, c.forward.ensures.refusal, c.with_status-r.ensures, c.sized.ensures, c.zero.ensures) (ap not (told_by_13 _))
