-- Reading and storing within the first m elements of a list. Assumes nothing.
use mathlib.Core.Path.{◌≡◌, refl, sym, ap, ◌∙◌}
use mathlib.Core.List.{List, [], ◌++◌, append-nil}
use mathlib.Core.Bool.{Bool, true, false, ◌&&◌}
use Prim.Native.Nat.{ℕ, ◌+◌, ◌-◌, ◌<◌, ◌≤◌, min}
use native.Mathlib.Omega.{arith}
use native.Mathlib.Decide.{dec_le}
use lib.ListN.{length, length-set, length-append, length-drop, get_or, set, take, drop, length-take, take-append-drop, drop_of_length-le, get_or-eq_default}
use lib.Seq.{take_at, drop_at, take_all, length-take-le, get_or-take, get_or-set_same, get_or-set_other, set-append_left, set_out}
use lib.Dec.{eqb, ltb, leb}
use borrow.Author.Tests.{lt-ltb, le-ltb, le-leb, lt-leb, leb-true, leb-false, eqb-true, eqb-false, ltb-false, ltb-true}
use Rattle.word.specs.Word.{pick}
use Rattle.step.specs.Table.{table_words, link}

pub read_out : (l : List ℕ) (a : ℕ) → length l ≤ a → 0 ≡ get_or l a 0
read_out l a h = sym (get_or-eq_default l 0 h)

module _ (l : List ℕ) (m a : ℕ) where
  pub view_in : a < m → get_or l a 0 ≡ get_or (take m l) a 0
  view_in h = sym (get_or-take m l a 0 h)

  pub view_out : min m (length l) ≤ a → 0 ≡ get_or (take m l) a 0
  view_out h = read_out (take m l) a (simp length-take h)

  pub store_in_lem : (v : ℕ) → a < m → a < length l → set l a v ≡ set (take m l) a v ++ drop m l
  store_in_lem v h k =
      ap (λ (x : List ℕ). set x a v) (sym (take-append-drop m l)) ∙ set-append_left (take m l) (drop m l) a v (simp length-take (omega arith))

  pub store_out : (v : ℕ) → min m (length l) ≤ a → l ≡ set (take m l) a v ++ drop m l
  store_out v h =
      sym (ap (λ (x : List ℕ). x ++ drop m l) (set_out (take m l) a v (simp length-take h)) ∙ take-append-drop m l)

module _ (t : List ℕ) (n v j : ℕ) where
  pub link_none : (v ≡ 0) → 0 ≡ link t n v j
  unfolding link
  link_none h = rw (le-ltb 0 v (omega arith))

  pub link_above : n < v → 0 ≡ link t n v j
  unfolding link
  link_above h = rw (lt-ltb 0 v (omega arith), lt-leb v n h)

  pub link_node : 0 < v → v ≤ n → get_or t (table_words (v - 1) + j) 0 ≡ link t n v j
  unfolding link
  link_node h k = rw (lt-ltb 0 v h, le-leb v n k)

-- the first m are m exactly where there are as many
pub view_long : (l : List ℕ) (m : ℕ) → leb m (length (take m l)) ≡ leb m (length l)
view_long l m = go (leb m (length l)) refl
  where
    go : (b : Bool) → leb m (length l) ≡ b → leb m (length (take m l)) ≡ leb m (length l)
    go true e = let h = leb-true m (length l) e in le-leb m (length (take m l)) (simp length-take (omega arith)) ∙ sym e
    go false e = let h = leb-false m (length l) e in lt-leb m (length (take m l)) (simp length-take (omega arith)) ∙ sym e

-- ---- a register after another was set

pub read_set : (l : List ℕ) (a v j : ℕ) → pick (eqb a j && ltb j (length l)) v (get_or l j 0) ≡ get_or (set l a v) j 0
read_set l a v j = go (eqb a j) (ltb j (length l)) refl refl
  where
    go : (b c : Bool) → eqb a j ≡ b → ltb j (length l) ≡ c → pick (b && c) v (get_or l j 0) ≡ get_or (set l a v) j 0
    go true true e f = sym (ap (λ (x : ℕ). get_or (set l x v) j 0) (eqb-true a j e) ∙ get_or-set_same l j v 0 (ltb-true j (length l) f))
    go true false e f = ap (λ (x : List ℕ). get_or x j 0) (sym (set_out l a v (omega (arith, eqb-true a j e, ltb-false j (length l) f))))
    go false c e f = sym (get_or-set_other l a j v 0 (λ q. eqb-false a j e (sym q)))

pub read_set_two : (l : List ℕ) (a v b w j : ℕ)
    → pick (eqb b j && ltb j (length l)) w (pick (eqb a j && ltb j (length l)) v (get_or l j 0)) ≡ get_or (set (set l a v) b w) j 0
read_set_two l a v b w j =
    rw (read_set l a v j) (ap (λ (n : ℕ). pick (eqb b j && ltb j n) w (get_or (set l a v) j 0)) (sym (length-set l a v)) ∙ read_set (set l a v) b w j)

-- ---- the first m words put back before the rest

module _ (l p : List ℕ) (m : ℕ) (e : length p ≡ length (take m l)) where
  short : (m ≤ length l → ⊥) → length p ≤ m
  short h = let q : length p ≡ min m (length l) = e ∙ length-take m l in omega arith

  pub seam_take : take m (p ++ drop m l) ≡ p
  seam_take = go (dec_le m (length l))
    where
      go : Dec (m ≤ length l) → take m (p ++ drop m l) ≡ p
      go (yes h) = take_at p (drop m l) m (e ∙ length-take-le m l h)
      go (no h) =
          let n : drop m l ≡ [] = drop_of_length-le l {i = m} (omega arith) in
          rw (n, append-nil p) (take_all m p (short h))

  pub seam_drop : drop m (p ++ drop m l) ≡ drop m l
  seam_drop = go (dec_le m (length l))
    where
      go : Dec (m ≤ length l) → drop m (p ++ drop m l) ≡ drop m l
      go (yes h) = drop_at p (drop m l) m (e ∙ length-take-le m l h)
      go (no h) =
          let n : drop m l ≡ [] = drop_of_length-le l {i = m} (omega arith) in
          rw (n, append-nil p) (drop_of_length-le p (short h))

  pub seam_long : length (p ++ drop m l) ≡ length l
  seam_long = length-append p (drop m l) ∙ (rw (e, length-take m l, length-drop m l) (omega arith))

pub store_long : (l : List ℕ) (m a v : ℕ) → length (set (take m l) a v ++ drop m l) ≡ length l
store_long l m a v = seam_long l (set (take m l) a v) m (length-set (take m l) a v)
