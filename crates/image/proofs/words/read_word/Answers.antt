use native.Mathlib.Omega.{arith}
use Rattle.image.proofs.Bytes.{word_bytes_lem}
use Rattle.image.proofs.words.read_word.Goals as goal

pub returns : goal.returns
returns c = let e = word_bytes_lem c.args.s.now c.args.i in omega arith
