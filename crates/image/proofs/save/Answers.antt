use mathlib.Core.Path.{sym, ◌∙◌}
use native.Mathlib.Omega.{arith}
use lib.Seq.{length-take-le}
use Rattle.image.proofs.Accepted.{save_accepted}
use Rattle.image.proofs.save.Goals as goal

pub slice_bounds-write_image-end : goal.slice_bounds-write_image-end
slice_bounds-write_image-end c = sym (length-take-le _ _ (save_accepted c.in_ok-check_save.ensures).sizes.memory)

pub slice_bounds-write_image-end-2 : goal.slice_bounds-write_image-end-2
slice_bounds-write_image-end-2 c = sym (length-take-le _ _ (rw c.table_words-links.ensures (save_accepted c.in_ok-check_save.ensures).sizes.links))

pub write_image-requires : goal.write_image-requires
write_image-requires c =
    let a = save_accepted c.in_ok-check_save.ensures in
    let z = a.sizes in (
      length-take-le _ _ z.memory,
      length-take-le _ _ (rw c.table_words-links.ensures z.links) ∙ c.table_words-links.ensures,
      a.room,
      omega (arith, z.words, z.nodes),
    )
