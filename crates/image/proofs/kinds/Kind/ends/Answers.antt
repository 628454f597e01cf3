use mathlib.Core.Path.{◌≡◌, sym}
use Prim.Native.Nat.{◌-◌}
use lib.ListN.{length, drop}
use borrow.Author.Rules.{rules}
use Rattle.std.proofs.lemmas.Bool.Decides.{Decides-eqb}
use Rattle.std.proofs.lemmas.Slice.Eq.{slice_eq-Decides}
use Rattle.word.proofs.Lists.{same_test}
use Rattle.image.proofs.kinds.Kind.ends.Goals as goal

pub returns : goal.returns
returns c =
    let s = c.args.file.now in
    let l = c.args.self.last in
    let n : length l ≡ 4 = search rules in
    let d = rw n at (slice_eq-Decides Decides-eqb l (drop (length s - length l) s) c.ends_with.result c.ends_with.ensures.value) in
    same_test _ _ _ (λ e. sym (d.0 e), λ e. d.1 (sym e))
