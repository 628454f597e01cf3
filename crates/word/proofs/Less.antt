-- Words compared as signed, and their quotient. Assumes nothing.
use Rattle.std.proofs.Common.{◌≡◌, ℕ, suc, ◌+◌, ◌-◌, ◌*◌, ◌%◌, ◌^◌, ◌<◌, ◌≤◌, Bool, true, false, ltb, ℤ, pos, negsuc, ◌+ℤ◌, sym, refl, ap, ◌∙◌, ap₂, true≢false, arith, w32, Fits, to_z, of_z, ltb-false, ltb-true, le-ltb, lt-ltb, ne_eqb}
use native.Mathlib.Nat.{div-eq_of_lt-le}
use mir.Facts.{of_z-to_z}
use lib.Signed.{mag, lt_z, non_neg}
use Rattle.word.specs.Word.{add_word, signed, is_less}
use Rattle.word.specs.Claims.{wrap, SignedWords, ComparedWords, Divides}

-- two tests that mean the same
same : (a b c d : ℕ) → (a < b → c < d) → (b ≤ a → d ≤ c) → ltb a b ≡ ltb c d
same a b c d y n = go (ltb a b) refl
  where
    go : (t : Bool) → ltb a b ≡ t → ltb a b ≡ ltb c d
    go true h = h ∙ sym (lt-ltb c d (y (ltb-true a b h)))
    go false h = h ∙ sym (le-ltb c d (n (ltb-false a b h)))

-- ---- the signed value, in either half

data Half (a : ℕ) : Type 0 where
  lower : a < 2 ^ 31 → signed a ≡ pos a → Half a
  upper : 2 ^ 31 ≤ a → signed a ≡ negsuc (2 ^ 32 - suc a) → Half a

half : (a : ℕ) → a < 2 ^ 32 → Half a
unfolding signed
half a f = go (ltb a (2 ^ 31)) refl
  where
    go : (t : Bool) → ltb a (2 ^ 31) ≡ t → Half a
    go true h = lower (ltb-true a (2 ^ 31) h) (rw h)
    go false h = upper (ltb-false a (2 ^ 31) h) (rw (h, lt-ltb a (2 ^ 32) f))

less_is : (a b : ℕ) {y z : ℤ} → signed a ≡ y → signed b ≡ z → is_less a b ≡ lt_z y z
unfolding is_less
less_is a b e g = ap₂ lt_z e g

module _ (a : ℕ) (f : a < 2 ^ 32) where
  value_is : Half a → signed a +ℤ pos (wrap a) ≡ pos a
  value_is (lower h e) = ap (λ (z : ℤ). z +ℤ pos (wrap a)) e ∙ ap pos (omega arith)
  value_is (upper h e) =
      ap (λ (z : ℤ). z +ℤ pos (wrap a)) e
      ∙ rw (le-ltb (wrap a) (suc (2 ^ 32 - suc a)) (omega arith)) (ap pos (omega arith))

  bits_are : signed a ≡ to_z w32 a
  bits_are = go (half a f)
    where
      go : Half a → signed a ≡ to_z w32 a
      go (lower h e) = e ∙ rw (lt-ltb a (2 ^ 31) h)
      go (upper h e) = e ∙ rw (le-ltb a (2 ^ 31) h)

module _ (a b : ℕ) (f : a < 2 ^ 32) (g : b < 2 ^ 32) where
  by_wrap : Half a → Half b → is_less a b ≡ ltb (a + wrap b) (b + wrap a)
  by_wrap (lower h e) (lower k i) = less_is a b e i ∙ same a b (a + wrap b) (b + wrap a) (λ l. omega arith) (λ l. omega arith)
  by_wrap (lower h e) (upper k i) = less_is a b e i ∙ sym (le-ltb (a + wrap b) (b + wrap a) (omega arith))
  by_wrap (upper h e) (lower k i) = less_is a b e i ∙ sym (lt-ltb (a + wrap b) (b + wrap a) (omega arith))
  by_wrap (upper h e) (upper k i) = less_is a b e i ∙ same (2 ^ 32 - suc b) (2 ^ 32 - suc a) (a + wrap b) (b + wrap a) (λ l. omega arith) (λ l. omega arith)

  by_flip : ltb (a + wrap b) (b + wrap a) ≡ ltb (add_word a (2 ^ 31)) (add_word b (2 ^ 31))
  unfolding add_word
  by_flip = same (a + wrap b) (b + wrap a) ((a + 2 ^ 31) % 2 ^ 32) ((b + 2 ^ 31) % 2 ^ 32) (λ l. omega arith) (λ l. omega arith)

  by_value : Half a → Half b → signed a ≡ signed b → a ≡ b
  by_value (lower h e) (lower k i) z = ap mag (sym e ∙ z ∙ i)
  by_value (lower h e) (upper k i) z = absurd (true≢false (ap non_neg (sym e ∙ z ∙ i)))
  by_value (upper h e) (lower k i) z = absurd (true≢false (ap non_neg (sym i ∙ sym z ∙ e)))
  by_value (upper h e) (upper k i) z = let n = ap mag (sym e ∙ z ∙ i) in omega arith

-- words that are cast and compared
pub casts_compare : {a b : ℕ} {x y : ℤ} → Fits w32 a → Fits w32 b → x ≡ to_z w32 a → y ≡ to_z w32 b → lt_z (to_z w32 (of_z w32 x)) (to_z w32 (of_z w32 y)) ≡ is_less a b
casts_compare f g p q = rw (p, q, of_z-to_z f, of_z-to_z g) (sym (less_is _ _ (bits_are _ f.fits) (bits_are _ g.fits)))

pub signed_words : SignedWords
signed_words a f = record { value = value_is a f (half a f); bits = bits_are a f }

pub compared_words : ComparedWords
compared_words a b f g =
    let e = by_wrap a b f g (half a f) (half b g) in
    record {
      less = (λ h. ltb-true _ _ (sym e ∙ h), λ l. e ∙ lt-ltb _ _ l);
      flipped = e ∙ by_flip a b f g;
      equal = by_value a b f g (half a f) (half b g);
    }

pub divides : Divides
divides a b q g = rw (ne_eqb b 0 (λ z. none (ap (λ (n : ℕ). (q + 1) * n) z))) (div-eq_of_lt-le b g.0 g.1)
  where
    none : (q + 1) * b ≡ (q + 1) * 0 → ⊥
    none z = omega (arith, g.1, z)
