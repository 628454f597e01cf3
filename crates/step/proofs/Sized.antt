-- What an effect keeps: the sizes and the lengths. Assumes nothing.
use mathlib.Core.Path.{◌≡◌, refl, ◌∙◌}
use mathlib.Core.List.{List, ◌++◌}
use Prim.Native.Nat.{ℕ}
use lib.ListN.{length, length-set, get_or, set, take, drop}
use Rattle.step.proofs.Views.{seam_long}
use Rattle.step.specs.Step.{written, stored, marked}
use Rattle.step.specs.declared.Status.{Status}
use Rattle.step.specs.declared.Effect.{Effect}
use Rattle.step.specs.declared.Effect.TheVariants.{Nothing, Write, WriteTwo, SwapWord, SetNode}

pub written_long : (e : Effect) (l m : List ℕ) → length (written e l m) ≡ length l
written_long Nothing l m = refl
written_long (Write a v) l m = length-set l a v
written_long (WriteTwo a v b x) l m = length-set (set l a v) b x ∙ length-set l a v
written_long (SwapWord a i) l m = length-set l a (get_or m i 0)
written_long (SetNode u j) l m = refl

pub stored_long : (e : Effect) (l m : List ℕ) → length (stored e l m) ≡ length m
stored_long Nothing l m = refl
stored_long (Write a v) l m = refl
stored_long (WriteTwo a v b x) l m = refl
stored_long (SwapWord a i) l m = length-set m i (get_or l a 0)
stored_long (SetNode u j) l m = refl

-- of the whole lent memory
pub lent_long : (e : Effect) (l mem : List ℕ) (m : ℕ) → length (stored e l (take m mem) ++ drop m mem) ≡ length mem
lent_long e l mem m = seam_long mem (stored e l (take m mem)) m (stored_long e l (take m mem))

pub record SameSizes (at at' : Status) : Type 0 where
  pub k : at'.k ≡ at.k
  pub m : at'.m ≡ at.m
  pub n : at'.n ≡ at.n

pub marked_sizes : (e : Effect) (at : Status) → SameSizes at (marked e at)
marked_sizes Nothing at = record { k = refl; m = refl; n = refl }
marked_sizes (Write a v) at = record { k = refl; m = refl; n = refl }
marked_sizes (WriteTwo a v b x) at = record { k = refl; m = refl; n = refl }
marked_sizes (SwapWord a i) at = record { k = refl; m = refl; n = refl }
marked_sizes (SetNode u j) at = record { k = refl; m = refl; n = refl }
