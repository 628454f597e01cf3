use mathlib.Core.Path.{refl}
use Rattle.image.proofs.Written.{fields_written}
use borrow.Author.Rules.{rules}
use Rattle.image.proofs.trailer.write_fields.Goals as goal

pub returns : goal.returns
returns c =
    fields_written c.args.r c.args.out.now (search rules) c.back_of.ensures _ _ _ _ c.write_words.ensures c.write_words-2.ensures refl c.write_tail.ensures
