-- What an instruction sees, compared.
use Rattle.std.specs.Prelude.{Bool, ◌&&◌, eqb}
use Rattle.word.specs.Lists.{same}
use Rattle.step.specs.View.{View}
use Rattle.step.specs.declared.Status.{Status}

abbrev pub same_status : Status → Status → Bool
same_status x y =
    eqb x.k y.k && (eqb x.m y.m && (eqb x.n y.n && (eqb x.qifv y.qifv && eqb x.qifw y.qifw)))

abbrev pub same_view : View → View → Bool
same_view s z = same s.regs z.regs && (same s.memory z.memory && same_status s.at z.at)
