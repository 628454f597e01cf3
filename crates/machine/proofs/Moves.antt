-- What a move and an effect keep. Assumes nothing.
use mathlib.Core.Path.{◌≡◌, refl, ◌∙◌}
use lib.ListN.{length, length-set}
use Rattle.step.specs.View.{View}
use Rattle.step.specs.Step.{written, performed}
use Rattle.step.specs.declared.Direction.{Direction}
use Rattle.step.specs.declared.Effect.{Effect}
use Rattle.step.specs.Step.{Attempt}
use Rattle.std.specs.Prelude.{Err, Ok}
use Rattle.step.proofs.Sized.{written_long, stored_long}
use Rattle.machine.specs.Turn.{from, to, turned}

from_long : (d : Direction) (s : View) → length (from d s).regs ≡ length s.regs
from_long d s = length-set s.regs 0 _

to_long : (d : Direction) (e : Effect) (s : View) → length (to d (performed e s)).regs ≡ length s.regs
to_long d e s = length-set (written e s.regs s.memory) 0 _ ∙ written_long e s.regs s.memory

pub turned_regs : (d : Direction) (x : Attempt) (s : View) → length (turned d x s).regs ≡ length s.regs
turned_regs d (Err n) s = refl
turned_regs d (Ok e) s = to_long d e (from d s) ∙ from_long d s

pub turned_long : (d : Direction) (x : Attempt) (s : View) → length (turned d x s).memory ≡ length s.memory
turned_long d (Err n) s = refl
turned_long d (Ok e) s = stored_long e (from d s).regs s.memory
