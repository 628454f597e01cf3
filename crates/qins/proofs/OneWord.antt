-- Start and finish are one word each. Assumes nothing.
use mathlib.Core.Path.{◌≡◌, refl, sym, ap, ◌∙◌}
use mathlib.Core.Bool.{Bool, true, false, ◌&&◌}
use Prim.Native.Nat.{ℕ, ◌*◌, ◌/◌}
use native.Mathlib.Omega.{arith}
use lib.Dec.{eqb}
use borrow.Author.Tests.{eqb-true, eqb-false}
use Rattle.word.specs.Word.{pick}
use Rattle.word.proofs.Words.{and_true}
use Rattle.qins.specs.Decode.{opcode, reg1, reg2, low, bare, names_none, line, operation, decode, start_word, finish_word, kind, OneWord}
use Rattle.qins.specs.Op.{Op}

-- a line whose operation is not of kind x, where it holds
off : (x o k : ℕ) (test : Bool) (op rest : Op) → (eqb o k && test ≡ true → eqb (kind op) x ≡ false) → eqb (kind rest) x ≡ false
    → eqb (kind (line o k test op rest)) x ≡ false
unfolding line
off x o k test op rest h g = go (eqb o k && test) h
  where
    go : (b : Bool) → (b ≡ true → eqb (kind op) x ≡ false) → eqb (kind (pick b op rest)) x ≡ false
    go true h = h refl
    go false h = g

module _ (x o a b i : ℕ) (y : eqb 0 x ≡ false) (z : eqb 3 x ≡ false) (p : eqb o 26 && (bare i && names_none a b) ≡ true → eqb 1 x ≡ false)
    (q : eqb o 27 && (bare i && names_none a b) ≡ true → eqb 2 x ≡ false) where
  unlike : eqb (kind (operation o a b i)) x ≡ false
  unfolding operation
  unlike =
      off x _ 1 _ _ _ (λ h. z) (off x _ 2 _ _ _ (λ h. z) (off x _ 3 _ _ _ (λ h. z) (off x _ 4 _ _ _ (λ h. z) (off x _ 5 _ _ _ (λ h. z)
      (off x _ 6 _ _ _ (λ h. z) (off x _ 7 _ _ _ (λ h. z) (off x _ 16 _ _ _ (λ h. z) (off x _ 17 _ _ _ (λ h. z) (off x _ 18 _ _ _ (λ h. z)
      (off x _ 19 _ _ _ (λ h. z) (off x _ 20 _ _ _ (λ h. z) (off x _ 21 _ _ _ (λ h. z) (off x _ 22 _ _ _ (λ h. z) (off x _ 23 _ _ _ (λ h. z)
      (off x _ 24 _ _ _ (λ h. z) (off x _ 25 _ _ _ (λ h. z) (off x _ 26 _ _ _ p (off x _ 27 _ _ _ q (off x _ 32 _ _ _ (λ h. z)
      (off x _ 33 _ _ _ (λ h. z) (off x _ 33 _ _ _ (λ h. z) (off x _ 34 _ _ _ (λ h. z) (off x _ 34 _ _ _ (λ h. z)
      (off x _ 35 _ _ _ (λ h. z) (off x _ 35 _ _ _ (λ h. z) (off x _ 35 _ _ _ (λ h. z) (off x _ 35 _ _ _ (λ h. z) (off x _ 35 _ _ _ (λ h. z)
      y))))))))))))))))))))))))))))

-- a word of opcode k that names no register and has no low half is k in bits 31-24
alone : (w k : ℕ) → eqb (opcode w) k && (bare (low w) && names_none (reg1 w) (reg2 w)) ≡ true → w ≡ k * 16777216
alone w k h =
    let p = and_true (eqb (opcode w) k) _ h in
    let q = and_true (bare (low w)) (names_none (reg1 w) (reg2 w)) p.1 in
    let n = and_true (eqb (reg1 w) 0) (eqb (reg2 w) 0) q.1 in
    sum (eqb-true _ _ p.0) (eqb-true _ _ n.0) (eqb-true _ _ n.1) (eqb-true _ _ q.0)
  where
    sum : opcode w ≡ k → reg1 w ≡ 0 → reg2 w ≡ 0 → low w ≡ 0 → w ≡ k * 16777216
    sum e f g h =
        let a : w / 65536 / 16 ≡ w / 1048576 = omega arith in
        let b : w / 1048576 / 16 ≡ w / 16777216 = omega arith in
        let x : w / 1048576 ≡ k * 16 = omega (arith, b, e, f) in
        let y : w / 65536 ≡ k * 256 = omega (arith, a, x, g) in
        omega (arith, y, h)

-- a test for a word is a test for its kind, where the word has the kind and no other has
test_is : (w₀ x : ℕ) → eqb (kind (decode w₀)) x ≡ true → ((w : ℕ) → (w ≡ w₀ → ⊥) → eqb (kind (decode w)) x ≡ false)
    → (w : ℕ) → eqb w w₀ ≡ eqb (kind (decode w)) x
test_is w₀ x at off w = go (eqb w w₀) refl
  where
    go : (b : Bool) → eqb w w₀ ≡ b → b ≡ eqb (kind (decode w)) x
    go true e = sym (ap (λ (v : ℕ). eqb (kind (decode v)) x) (eqb-true w w₀ e) ∙ at)
    go false e = sym (off w (eqb-false w w₀ e))

not_start : (w : ℕ) → (w ≡ start_word → ⊥) → eqb (kind (decode w)) 1 ≡ false
unfolding decode
not_start w n = unlike 1 _ _ _ _ refl refl (λ h. absurd (n (alone w 26 h))) (λ h. refl)

not_finish : (w : ℕ) → (w ≡ finish_word → ⊥) → eqb (kind (decode w)) 2 ≡ false
unfolding decode
not_finish w n = unlike 2 _ _ _ _ refl refl (λ h. refl) (λ h. absurd (n (alone w 27 h)))

pub one_word : OneWord
unfolding decode operation line
one_word = record { start = test_is start_word 1 refl not_start; finish = test_is finish_word 2 refl not_finish }
