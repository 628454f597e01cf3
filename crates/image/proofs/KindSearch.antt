-- The search for a kind by its last bytes. Assumes nothing.
use mathlib.Core.Path.{◌≡◌, refl}
use mathlib.Core.Bool.{Bool, true, false, cond}
use mathlib.Core.List.{List, [], ◌∷◌}
use Prim.Native.Nat.{ℕ}
use Rattle.std.specs.Prelude.{Option, Some, None, unwrap_or, option_map}
use Rattle.std.specs.List.{find}
use Rattle.word.specs.Word.{pick}
use Rattle.word.specs.Lists.{same}
use Rattle.image.specs.declared.kinds.Kind.{Kind}
use Rattle.image.specs.Format.{oldest, kind_by}

found : (t : Bool) (kind : Kind) (rest : Option Kind) → unwrap_or (cond t (Some kind) rest) oldest ≡ pick t kind (unwrap_or rest oldest)
found true kind rest = refl
found false kind rest = refl

-- the first kind that the test finds, the oldest where there is none
pub kind_found : (l : List ℕ) (ks : List Kind) → unwrap_or (find (λ kind. same l kind.last) ks) oldest ≡ kind_by ks l
unfolding kind_by
kind_found l [] = refl
kind_found l (kind ∷ ks) = rw (found, kind_found l ks)

pub copy_of : (o : Option Kind) → option_map (λ kind. kind) o ≡ o
copy_of None = refl
copy_of (Some kind) = refl
