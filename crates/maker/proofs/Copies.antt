-- Words copied. Assumes nothing.
use mathlib.Core.Path.{◌≡◌, refl, sym, ap, ◌∙◌}
use mathlib.Core.List.{List}
use Prim.Native.Nat.{ℕ, ◌+◌, ◌<◌, ◌≤◌}
use native.Mathlib.Omega.{arith}
use native.Mathlib.Decide.{ℕ_discrete}
use lib.ListN.{length, length-set, get_or, set}
use lib.Seq.{get_or-set_same, get_or-set_other, ext_get_or}

-- the first i words of b are those of a
pub record Copied (a b₀ b : List ℕ) (i : ℕ) : Type 0 where
  pub long : length b ≡ length b₀
  pub words : (j : ℕ) → j < i → get_or b j 0 ≡ get_or a j 0

pub copied_none : (a b : List ℕ) → Copied a b b 0
copied_none a b = record { long = refl; words = λ j h. absurd (omega (arith, h)) }

pub copied_more : (a b₀ b : List ℕ) (i : ℕ) → i < length b → Copied a b₀ b i → Copied a b₀ (set b i (get_or a i 0)) (i + 1)
copied_more a b₀ b i h c =
    record {
      long = length-set b i (get_or a i 0) ∙ c.long;
      words = λ j k. word j k (ℕ_discrete i j);
    }
  where
    word : (j : ℕ) → j < i + 1 → Dec (i ≡ j) → get_or (set b i (get_or a i 0)) j 0 ≡ get_or a j 0
    word j k (yes e) =
        ap (λ (n : ℕ). get_or (set b i (get_or a i 0)) n 0) (sym e) ∙ (get_or-set_same b i (get_or a i 0) 0 h ∙ ap (λ (n : ℕ). get_or a n 0) e)
    word j k (no n) = get_or-set_other b i j (get_or a i 0) 0 (λ e. n (sym e)) ∙ c.words j (omega (arith, k, n))

pub copied_all : (a b₀ b : List ℕ) (i : ℕ) → length a ≡ length b₀ → length b₀ ≤ i → Copied a b₀ b i → b ≡ a
copied_all a b₀ b i h k c = ext_get_or 0 b a (c.long ∙ sym h) (λ j r. c.words j (omega (arith, r, k, c.long)))
