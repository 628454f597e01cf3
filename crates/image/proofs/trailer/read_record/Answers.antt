use mathlib.Core.Path.{◌≡◌, ap, ◌∙◌}
use Prim.Native.Nat.{◌+◌, ◌*◌, ◌%◌, ◌^◌}
use native.Mathlib.Omega.{arith}
use mir.Syntax.{w64}
use mir.Val.{SFits, to_z}
use mir.Facts.{to_z-of_z}
use borrow.Author.Rules.{rules}
use Rattle.image.specs.Format.{word_at, position_at, position_of}
use Rattle.image.proofs.trailer.read_record.Goals as goal

pub returns : goal.returns
unfolding Rattle.image.specs.Format.record_in
returns c =
    let t = c.args.t.now in
    let f : SFits w64 c.cast_signed.result = search rules in
    let bits : c.from.result + c.from-2.result * 2 ^ 32 % 2 ^ 64 ≡ word_at t position_at + 2 ^ 32 * word_at t (position_at + 1) = omega arith in
    let p : c.cast_signed.result ≡ position_of (word_at t position_at) (word_at t (position_at + 1)) = c.cast_signed.ensures ∙ ap (to_z w64) bits in
    rw (c.at_position.ensures, to_z-of_z f, p) (simp (c.new.ensures, c.with_node-at.ensures, c.read_word-5.ensures, c.read_word-4.ensures, c.sized-sizes.ensures, c.read_word-3.ensures, c.read_word-2.ensures, c.read_word.ensures, c.read_words.ensures, c.rest_of.ensures))
