use Rattle.word.proofs.Less.{casts_compare}
use Rattle.word.proofs.signed.is_less.Goals as goal

pub returns : goal.returns
returns c = casts_compare c.ranges.a c.ranges.b c.cast_signed.ensures c.cast_signed-2.ensures
