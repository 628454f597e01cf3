use mathlib.Core.Path.{refl, ◌∙◌}
use Prim.Native.Nat.{◌*◌}
use Rattle.image.specs.Format.{newest}
use Rattle.image.proofs.Parts.{put_front}
use Rattle.image.proofs.Written.{trailer_written}
use borrow.Author.Rules.{rules}
use Rattle.image.proofs.trailer.write_trailer.Goals as goal

pub returns : goal.returns
returns c =
    rw c.copy_from_slice.ensures.after
    (put_front (4 * c.word_count-end.result) 4 c.write_fields.new.out newest.last
    ∙ trailer_written c.args.r c.args.out.now (search rules) c.word_count-end.ensures _ _ c.write_fields.ensures refl)
