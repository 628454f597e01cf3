use native.Mathlib.Omega.{arith}
use Rattle.image.proofs.Bytes.{write_step}
use Rattle.image.proofs.words.write_words.Goals as goal

pub loop-i-preserved : goal.loop-i-preserved
loop-i-preserved c =
    let g = c.args in
    let l = c.loop-i in
    rw (c.copy_from_slice.ensures.after, c.to_le_bytes.ensures) (write_step g.src.now g.out.now l.out l.i (omega arith) l.invariant)
