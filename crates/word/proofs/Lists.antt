-- Laws of lists that are compared. Assumes nothing.
use Rattle.std.proofs.Common.{◌≡◌, ℕ, Bool, true, false, eqb, List, [], ◌∷◌, sym, refl, ap, ◌∙◌, ap₂, eq-eqb, eqb-true}
use mathlib.Core.Bool.{false≢true}
use Rattle.word.specs.Lists.{same}
use Rattle.word.proofs.Words.{and_true}

pub same_self : (l : List ℕ) → same l l ≡ true
unfolding same
same_self [] = refl
same_self (x ∷ l) = rw (eq-eqb x x refl, same_self l)

pub same_equal : (k l : List ℕ) → same k l ≡ true → k ≡ l
unfolding same
same_equal [] [] h = refl
same_equal [] (y ∷ l) h = absurd (false≢true h)
same_equal (x ∷ k) [] h = absurd (false≢true h)
same_equal (x ∷ k) (y ∷ l) h =
    let q = and_true (eqb x y) (same k l) h in ap₂ {C = List ℕ} (λ (a : ℕ) (b : List ℕ). a ∷ b) (eqb-true x y q.0) (same_equal k l q.1)

pub same_unequal : (k l : List ℕ) → (k ≡ l → ⊥) → same k l ≡ false
same_unequal k l h = go (same k l) refl
  where
    go : (b : Bool) → same k l ≡ b → b ≡ false
    go true e = absurd (h (same_equal k l e))
    go false e = refl

-- a test that holds exactly where the lists are equal is this one
pub same_test : (b : Bool) (k l : List ℕ) → (b ≡ true → k ≡ l) × (k ≡ l → b ≡ true) → b ≡ same k l
same_test true k l h = sym (ap (same k) (sym (h.0 refl)) ∙ same_self k)
same_test false k l h = sym (same_unequal k l (λ e. false≢true (h.1 e)))
