-- A search upward for the first number where a test holds. Assumes nothing.
use mathlib.Core.Path.{◌≡◌, refl, sym, ◌∙◌}
use mathlib.Core.Bool.{Bool, true, false, false≢true}
use Prim.Native.Nat.{ℕ, zero, suc, ◌+◌, ◌<◌, ◌≤◌}
use native.Mathlib.Omega.{arith}
use native.Mathlib.Decide.{dec_le}
use Rattle.word.specs.Word.{pick}
use Rattle.std.specs.Option.{MatchOption}
use Rattle.std.specs.Prelude.{Option, Some, None}
use borrow.Author.Tests.{lt-ltb, le-ltb, ltb-true, ltb-false}
use lib.Dec.{ltb}
use Rattle.links.specs.Check.{first_of, lowest_of}

-- of the n numbers from s on, the test fails at those below i: the loop's invariant
pub record Searching (test : ℕ → Bool) (s n i : ℕ) : Type 0 where
  pub least : s ≤ i
  pub most : i ≤ s + n
  pub below : (v : ℕ) → s ≤ v → v < i → test v ≡ false

-- and it holds at i, unless that is the end
pub record Found (test : ℕ → Bool) (s n i : ℕ) : Type 0 where
  pub passed : Searching test s n i
  pub holds : i < s + n → test i ≡ true

module _ (test : ℕ → Bool) where
  pub search_starts : (s n : ℕ) → Searching test s n s
  search_starts s n = record { least = omega arith; most = omega arith; below = λ v h k. absurd (omega arith) }

  pub found : (n s : ℕ) → Found test s n (first_of test s n)
  unfolding first_of
  found zero s = record { passed = search_starts s 0; holds = λ h. absurd (omega arith) }
  found (suc n) s = go (test s) refl (found n (suc s))
    where
      go : (b : Bool) → test s ≡ b → Found test (suc s) n (first_of test (suc s) n) → Found test s (suc n) (pick b s (first_of test (suc s) n))
      go true e f = record { passed = search_starts s (suc n); holds = λ h. e }
      go false e f =
          let l = f.passed.least in
          let m = f.passed.most in
          record {
            passed = record { least = omega arith; most = omega arith; below = λ v h k. first v h k (dec_le v s) };
            holds = λ h. f.holds (omega arith);
          }
        where
          first : (v : ℕ) → s ≤ v → v < first_of test (suc s) n → Dec (v ≤ s) → test v ≡ false
          first v h k (yes l) = let q : v ≡ s = omega arith in rw q e
          first v h k (no l) = f.passed.below v (omega arith) k

  module _ (s n : ℕ) where
    -- of two that would be found, the first is not below the second
    not_below : (p q : ℕ) → Found test s n p → Found test s n q → p < q → ⊥
    not_below p q f g h =
        let m = g.passed.most in
        false≢true (sym (g.passed.below p f.passed.least h) ∙ f.holds (omega arith))

    pub found_is : (p : ℕ) → Found test s n p → first_of test s n ≡ p
    found_is p f = let q = first_of test s n in let g = found n s in omega (arith, not_below p q f g, not_below q p g f)

    -- what a search over the numbers from s to e answers
    pub lowest_from : (e : ℕ) → s + n ≡ e → (r : Option ℕ)
        → MatchOption r ((v : ℕ) → s ≤ v → v < e → test v ≡ false) (λ i. (s ≤ i) × (i < e) × (test i ≡ true) × ((v : ℕ) → s ≤ v → v < i → test v ≡ false))
        → r ≡ lowest_of test s n
    lowest_from e q None h =
        let p = found_is (s + n) (record { passed = record { least = omega arith; most = omega arith; below = λ v l k. h v l (omega arith) }; holds = λ k. absurd (omega arith) }) in
        rw (p, le-ltb (s + n) (s + n) (omega arith)) refl
    lowest_from e q (Some i) (l, k, t, b) =
        let p = found_is i (record { passed = record { least = l; most = omega arith; below = b }; holds = λ _. t }) in
        rw (p, lt-ltb i (s + n) (omega arith)) refl

    -- and what such an answer tells of the first number
    pub lowest_there : (i : ℕ) → Some i ≡ lowest_of test s n → (i ≡ first_of test s n) × (i < s + n)
    lowest_there i e = go (ltb p (s + n)) refl e
      where
        p : ℕ
        p = first_of test s n

        go : (b : Bool) → ltb p (s + n) ≡ b → Some i ≡ pick b (Some p) None → (i ≡ p) × (i < s + n)
        go true t e = let q : i ≡ p = cc in (q, rw q (ltb-true _ _ t))
        go false t e = cc

    pub lowest_none : None ≡ lowest_of test s n → s + n ≤ first_of test s n
    lowest_none e = go (ltb p (s + n)) refl e
      where
        p : ℕ
        p = first_of test s n

        go : (b : Bool) → ltb p (s + n) ≡ b → None ≡ pick b (Some p) None → s + n ≤ p
        go true t e = cc
        go false t e = ltb-false _ _ t
