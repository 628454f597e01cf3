-- Words compared. Assumes nothing.
use mathlib.Core.Path.{◌≡◌, refl, ap}
use mathlib.Core.Bool.{◌&&◌}
use mathlib.Core.List.{List, [], ◌∷◌}
use Prim.Native.Nat.{ℕ}
use lib.Dec.{eqb}
use lib.Pointwise.{pointwise}
use Rattle.word.specs.Lists.{same}

-- the library's comparison of words is that of the machine
pub alike : (k l : List ℕ) → pointwise eqb k l ≡ same k l
unfolding same
alike [] [] = refl
alike [] (y ∷ l) = refl
alike (x ∷ k) [] = refl
alike (x ∷ k) (y ∷ l) = ap (λ b. eqb x y && b) (alike k l)
