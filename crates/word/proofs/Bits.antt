-- A signed number of 64 bits: its size, its bits, and these as two words. Assumes nothing.
use Rattle.std.proofs.Common.{◌≡◌, ℕ, zero, suc, ◌+◌, ◌-◌, ◌*◌, ◌/◌, ◌%◌, ◌^◌, ◌<◌, ◌≤◌, Bool, true, false, T, ℤ, pos, negsuc, ◌-ℤ◌, neg_ℤ, nat_abs, sym, refl, ap, ◌∙◌, subst, arith, to_z-of_z, w64, Fits, SFits, to_z, of_z, le-ltb, leb-false}
use mathlib.Core.Path.{subst⁻¹}
use lib.IntN.{pred_ℤ, +ℤ_idl, pred_ℤ-+ℤ}
use lib.Signed.{mag, le_z, non_neg}
use mir.Val.{sel}
use mir.Facts.{Fits-of_z, to_z_pos}

-- a signed value as it is read from its bits
abbrev pub reread : ℤ → ℤ
reread p = to_z w64 (of_z w64 p)

-- ---- -1 - z

minus : (z : ℤ) → negsuc 0 -ℤ z ≡ pred_ℤ (neg_ℤ z)
minus z = pred_ℤ-+ℤ (pos 0) (neg_ℤ z) ∙ ap pred_ℤ (+ℤ_idl (neg_ℤ z))

minus_negsuc : (n : ℕ) → negsuc 0 -ℤ negsuc n ≡ pos n
minus_negsuc n = minus (negsuc n)

minus_pos : (n : ℕ) → negsuc 0 -ℤ pos n ≡ negsuc n
minus_pos zero = minus (pos 0)
minus_pos (suc n) = minus (pos (suc n))

-- ---- from 0 up; q is p as it is read

pub record Up (p q : ℤ) : Type 0 where
  pub cast : T (non_neg q) × Fits w64 (nat_abs q)
  pub bits : nat_abs q ≡ of_z w64 p
  pub size : nat_abs q ≡ mag p

up : (p : ℤ) → SFits w64 p → le_z (pos 0) p ≡ true → Up p p
up (pos n) f h = record { cast = (tt, Fits-of_z f); bits = refl; size = refl }
up (negsuc n) f h = absurd (subst (λ (b : Bool). T b) (sym h) tt)

pub read_up : (p : ℤ) → SFits w64 p → le_z (pos 0) (reread p) ≡ true → Up p (reread p)
read_up p f = subst⁻¹ (λ (q : ℤ). le_z (pos 0) q ≡ true → Up p q) (to_z-of_z f) (up p f)

-- ---- below 0

pub record Down (p q : ℤ) : Type 0 where
  pub sub : SFits w64 (negsuc 0 -ℤ q)
  pub cast : T (non_neg (reread (negsuc 0 -ℤ q))) × Fits w64 (nat_abs (reread (negsuc 0 -ℤ q)))
  pub less : nat_abs (reread (negsuc 0 -ℤ q)) ≤ 18446744073709551615
  pub bits : 18446744073709551615 - nat_abs (reread (negsuc 0 -ℤ q)) ≡ of_z w64 p
  pub size : nat_abs (reread (negsuc 0 -ℤ q)) ≡ mag p

down : (p : ℤ) → SFits w64 p → le_z (pos 0) p ≡ false → Down p p
down (pos n) f h = absurd (lt_zero n (leb-false 0 n h))
  where
    lt_zero : (n : ℕ) → n < 0 → ⊥
    lt_zero n h = omega arith
down (negsuc n) f h =
    let g : SFits w64 (pos n) = record { sfits = f.sfits } in
    let e = minus_negsuc n in
    let k : reread (negsuc 0 -ℤ negsuc n) ≡ pos n = ap reread e ∙ to_z-of_z g in
    record {
      sub = subst⁻¹ (SFits w64) e g;
      cast = subst⁻¹ (λ (z : ℤ). T (non_neg z) × Fits w64 (nat_abs z)) k (tt, Fits-of_z g);
      less = subst⁻¹ (λ (z : ℤ). nat_abs z ≤ 18446744073709551615) k (omega (arith, f.sfits));
      bits = ap (λ (z : ℤ). 18446744073709551615 - nat_abs z) k ∙ omega (arith, f.sfits);
      size = ap nat_abs k;
    }

pub read_down : (p : ℤ) → SFits w64 p → le_z (pos 0) (reread p) ≡ false → Down p (reread p)
read_down p f = subst⁻¹ (λ (q : ℤ). le_z (pos 0) q ≡ false → Down p q) (to_z-of_z f) (down p f)

-- ---- the number of the bits u, from 2 ^ 63 up

pub record Upper (u : ℕ) : Type 0 where
  pub sub : SFits w64 (negsuc 0 -ℤ to_z w64 (18446744073709551615 - u))
  pub is : reread (negsuc 0 -ℤ to_z w64 (18446744073709551615 - u)) ≡ to_z w64 u

pub upper : (u : ℕ) → u < 2 ^ 64 → 9223372036854775808 ≤ u → Upper u
upper u f h =
    let l : 18446744073709551615 - u < 2 ^ 63 = omega arith in
    let g : SFits w64 (negsuc (18446744073709551615 - u)) = record { sfits = l } in
    let e = ap (λ (z : ℤ). negsuc 0 -ℤ z) (to_z_pos w64 l) ∙ minus_pos (18446744073709551615 - u) in
    record {
      sub = subst⁻¹ (SFits w64) e g;
      is =
          ap reread e
          ∙ to_z-of_z g
          ∙ ap negsuc (omega arith)
          ∙ sym (ap (λ (b : Bool). sel b (pos u) (negsuc (2 ^ 64 - suc u))) (le-ltb u 9223372036854775808 h));
    }

-- ---- two words, low first

-- each is a word, and both make up the number reread
pub low_fits : (p : ℤ) → of_z w64 p % 2 ^ 32 < 2 ^ 32
low_fits p = omega arith

pub high_fits : (p : ℤ) → SFits w64 p → of_z w64 p / 2 ^ 32 < 2 ^ 32
high_fits p f = let g = (Fits-of_z f).fits in omega arith

split : (u : ℕ) → u % 2 ^ 32 + 2 ^ 32 * (u / 2 ^ 32) ≡ u
split u = omega arith

pub joined : (p : ℤ) → SFits w64 p → to_z w64 (of_z w64 p % 2 ^ 32 + 2 ^ 32 * (of_z w64 p / 2 ^ 32)) ≡ p
joined p f = ap (to_z w64) (split (of_z w64 p)) ∙ to_z-of_z f
