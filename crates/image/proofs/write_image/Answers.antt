use mathlib.Core.Path.{refl}
use Rattle.image.specs.Format.{newest}
use Rattle.image.proofs.Written.{image_written}
use Rattle.image.proofs.write_image.Goals as goal

pub returns : goal.returns
returns c =
    image_written newest c.args.r _ _ c.args.out.now c.requires.0 c.requires.1 _ _ _ _ c.write_words.ensures c.write_words-2.ensures refl c.write_trailer.ensures
