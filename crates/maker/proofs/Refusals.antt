-- A refusal's number is not 0. Assumes nothing.
use mathlib.Core.Path.{◌≡◌}
use native.Mathlib.Omega.{arith}
use Rattle.word.specs.Refusal.{number_of}
use Rattle.word.specs.declared.refusals.Refusal.{Refusal}
use Rattle.word.specs.declared.refusals.Refusal.TheVariants.{FileLength, FileKind, FileSizes, FileBack, FileCut, Lent, CodeWord, Link, Output, Sizes, Outside, End, Instruction, Waiting, Address, Coin, Node, Landing, Skipped, Sample, Position, Begin, Bound, Branches}

pub some_number : (e : Refusal) → ¬ (number_of e ≡ 0)
some_number FileLength z = omega (arith, z)
some_number FileKind z = omega (arith, z)
some_number FileSizes z = omega (arith, z)
some_number FileBack z = omega (arith, z)
some_number FileCut z = omega (arith, z)
some_number Lent z = omega (arith, z)
some_number CodeWord z = omega (arith, z)
some_number Link z = omega (arith, z)
some_number Output z = omega (arith, z)
some_number Sizes z = omega (arith, z)
some_number Outside z = omega (arith, z)
some_number End z = omega (arith, z)
some_number Instruction z = omega (arith, z)
some_number Waiting z = omega (arith, z)
some_number Address z = omega (arith, z)
some_number Coin z = omega (arith, z)
some_number Node z = omega (arith, z)
some_number Landing z = omega (arith, z)
some_number Skipped z = omega (arith, z)
some_number Sample z = omega (arith, z)
some_number Position z = omega (arith, z)
some_number Begin z = omega (arith, z)
some_number Bound z = omega (arith, z)
some_number Branches z = omega (arith, z)
