use mathlib.Core.Path.{sym}
use native.Mathlib.Omega.{arith}
use Rattle.image.proofs.Accepted.{load_accepted}
use Rattle.image.proofs.Parts.{left_long}
use Rattle.image.proofs.load.Goals as goal

pub fill-requires : goal.fill-requires
fill-requires c =
    let g = c.args in
    let a = load_accepted c.read_trailer-t.result g.file.now g.mem.now g.table.now (sym c.in_ok-check_load.ensures) in
    (a.memory, rw c.table_words.ensures a.links, simp left_long (omega (arith, a.within, c.start_in-at.ensures)))
