use native.Mathlib.Omega.{arith}
use Rattle.image.proofs.Bytes.{read_step}
use Rattle.image.proofs.words.read_words.Goals as goal

pub loop-i-preserved : goal.loop-i-preserved
loop-i-preserved c =
    let g = c.args in
    let l = c.loop-i in
    rw (c.read_word.ensures, l.invariant) (read_step g.src.now g.dst.now l.i (omega arith))
