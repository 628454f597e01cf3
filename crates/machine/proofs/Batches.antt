-- The turns before the first refusal, and the claims on batches. Assumes nothing.
use mathlib.Core.Path.{◌≡◌, refl, sym, ap, ap₂, ◌∙◌, subst, subst₂}
use mathlib.Core.Logic.{◌≢◌}
use mathlib.Core.Bool.{Bool, true, false}
use Prim.Native.Nat.{ℕ, zero, suc, ◌+◌, ◌-◌, ◌<◌, ◌≤◌}
use native.Mathlib.Omega.{arith}
use native.Mathlib.Decide.{dec_le}
use lib.Dec.{eqb, ltb}
use borrow.Author.Tests.{lt-ltb, le-ltb, eqb-true, eqb-false, ne_eqb}
use Rattle.word.specs.Word.{pick}
use Rattle.step.specs.declared.Direction.{Direction}
use Rattle.machine.specs.Machine.{Machine, Bounded}
use Rattle.machine.specs.Calls.{refusal, next}
use Rattle.machine.specs.Batch.{after, turns_made, BatchPromise, Complete, BatchesComplete, InTwo, Longer}

ltb_add : (i k n : ℕ) → ltb k n ≡ ltb (i + k) (i + n)
ltb_add i k n = go (dec_le n k)
  where
    go : Dec (n ≤ k) → ltb k n ≡ ltb (i + k) (i + n)
    go (yes h) = le-ltb k n h ∙ sym (le-ltb (i + k) (i + n) (omega arith))
    go (no h) = lt-ltb k n (omega arith) ∙ sym (lt-ltb (i + k) (i + n) (omega arith))

module _ (d : Direction) where
  pub after_add : (j k : ℕ) (x : Machine) → after d (j + k) x ≡ after d k (after d j x)
  unfolding after
  after_add zero k x = let e : 0 + k ≡ k = omega arith in ap (λ (n : ℕ). after d n x) e
  after_add (suc j) k x =
      let e : suc j + k ≡ suc (j + k) = omega arith in
      ap (λ (n : ℕ). after d n x) e ∙ after_add j k (next d x)

  -- ---- k

  record First (n : ℕ) (x : Machine) (k : ℕ) : Type 0 where
    most : k ≤ n
    accepted : (j : ℕ) → j < k → refusal d (after d j x) ≡ 0
    refused : k < n → refusal d (after d k x) ≢ 0

  first : (n : ℕ) (x : Machine) → First n x (turns_made d n x)
  unfolding after turns_made
  first zero x = record { most = omega arith; accepted = λ j l. absurd (omega arith); refused = λ l. absurd (omega arith) }
  first (suc n) x = go (eqb (refusal d x) 0) refl (first n (next d x))
    where
      all : (k : ℕ) → refusal d x ≡ 0 → First n (next d x) k → (j : ℕ) → j < suc k → refusal d (after d j x) ≡ 0
      all k z f zero l = z
      all k z f (suc j) l = f.accepted j (omega arith)

      go : {k : ℕ} (b : Bool) → eqb (refusal d x) 0 ≡ b → First n (next d x) k → First (suc n) x (pick b (suc k) 0)
      go {k} true e f = record { most = omega (arith, f.most); accepted = all k (eqb-true _ _ e) f; refused = λ l. f.refused (omega arith) }
      go false e f = record { most = omega arith; accepted = λ j l. absurd (omega arith); refused = λ l. eqb-false _ _ e }

  made_all : (k : ℕ) (x : Machine) → ((j : ℕ) → j < k → refusal d (after d j x) ≡ 0) → turns_made d k x ≡ k
  made_all k x h = go (turns_made d k x) (first k x) (dec_le k (turns_made d k x))
    where
      go : (t : ℕ) → First k x t → Dec (k ≤ t) → t ≡ k
      go t f (yes l) = let m = f.most in omega arith
      go t f (no l) = absurd (f.refused (omega arith) (h t (omega arith)))

  made_none : (n : ℕ) (x : Machine) → refusal d x ≢ 0 → turns_made d n x ≡ 0
  unfolding turns_made
  made_none zero x z = refl
  made_none (suc n) x z = rw (ne_eqb (refusal d x) 0 z) refl

  -- i turns that are all made, and n more
  pub made_add : (i n : ℕ) (x : Machine) → turns_made d i x ≡ i → turns_made d (i + n) x ≡ i + turns_made d n (after d i x)
  unfolding after turns_made
  made_add zero n x h = let e : 0 + n ≡ n = omega arith in ap (λ (m : ℕ). turns_made d m x) e ∙ omega arith
  made_add (suc i) n x h = go (eqb (refusal d x) 0) refl h (made_add i n (next d x))
    where
      y : Machine
      y = next d x

      go : (b : Bool) → eqb (refusal d x) 0 ≡ b → pick b (suc (turns_made d i y)) 0 ≡ suc i
          → (turns_made d i y ≡ i → turns_made d (i + n) y ≡ i + turns_made d n (after d i y))
          → turns_made d (suc i + n) x ≡ suc i + turns_made d n (after d i y)
      go true e q f =
          let s : suc i + n ≡ suc (i + n) = omega arith in
          let r = f (omega (arith, q)) in
          ap (λ (m : ℕ). turns_made d m x) s ∙ (rw e (omega (arith, r)))
      go false e q f = absurd (omega (arith, q))

  -- ---- the whole answer

  -- a batch of n from x makes k turns, answers w and leaves y
  pub record Ends (n : ℕ) (x : Machine) (k w : ℕ) (y : Machine) : Type 0 where
    pub turns : k ≡ turns_made d n x
    pub number : w ≡ pick (ltb k n) (refusal d (after d k x)) 0
    pub machine : y ≡ after d k x

  pub ends_refused : (n : ℕ) (x : Machine) → 0 < n → refusal d x ≢ 0 → Ends n x 0 (refusal d x) x
  unfolding after
  ends_refused n x h z = record { turns = sym (made_none n x z); number = rw (lt-ltb 0 n h) refl; machine = refl }

  pub ends_none : (x : Machine) → Ends 0 x 0 0 x
  unfolding after turns_made
  ends_none x = record { turns = refl; number = refl; machine = refl }

  -- behind i turns that were all made
  ends_behind : (i n : ℕ) (x : Machine) (k w : ℕ) (y : Machine) → turns_made d i x ≡ i → Ends n (after d i x) k w y
      → Ends (i + n) x (i + k) w y
  ends_behind i n x k w y h e =
      record {
        turns = ap (λ (t : ℕ). i + t) e.turns ∙ sym (made_add i n x h);
        number = e.number ∙ ap₂ (λ (b : Bool) (z : Machine). pick b (refusal d z) 0) (ltb_add i k n) (sym (after_add i k x));
        machine = e.machine ∙ sym (after_add i k x);
      }

  -- and no more of n
  pub ends_there : (i n : ℕ) (x : Machine) (w : ℕ) (y : Machine) → i ≤ n → turns_made d i x ≡ i → Ends (n - i) (after d i x) 0 w y
      → Ends n x i w y
  ends_there i n x w y m h e =
      let s : i + (n - i) ≡ n = omega arith in
      let k : i + 0 ≡ i = omega arith in
      subst₂ (λ (a b : ℕ). Ends a x b w y) s k (ends_behind i (n - i) x 0 w y h e)

-- ---- and as calls promise it

module _ {d : Direction} {n : ℕ} {x : Machine} {k w : ℕ} {y : Machine} where
  pub promises : Bounded x → Ends d n x k w y → BatchPromise d n x k w y
  promises g e = record { turns = e.turns; refusal = e.number; left = e.machine; bounds = g }

  module _ (p : BatchPromise d n x k w y) where
    batch_ends : Ends d n x k w y
    batch_ends = record { turns = p.turns; number = p.refusal; machine = p.left }

    is_first : First d n x k
    is_first = subst (First d n x) (sym p.turns) (first d n x)

    is_next : k < n → w ≡ refusal d (after d k x)
    is_next l = p.refusal ∙ rw (lt-ltb k n l) refl

    complete : Complete d n x k w y
    complete =
        record {
          most = is_first.most;
          accepted = is_first.accepted;
          made = p.left;
          stands = λ l z. is_first.refused l (sym (is_next l) ∙ z);
          none = λ l. p.refusal ∙ rw (le-ltb k n (omega arith)) refl;
          turn = λ l i z q. is_next l ∙ (ap (refusal d) (sym p.left) ∙ sym q.refusal);
        }

    -- none is refused, so all are made
    whole : w ≡ 0 → k ≡ n
    whole z = go (dec_le n k)
      where
        go : Dec (n ≤ k) → k ≡ n
        go (yes h) = let m = complete.most in omega arith
        go (no h) = absurd (complete.stands (omega arith) z)

    -- one is refused, so fewer are
    fewer : w ≢ 0 → k < n
    fewer z = go (dec_le n k)
      where
        go : Dec (n ≤ k) → k < n
        go (yes h) = absurd (z (complete.none (let m = complete.most in omega arith)))
        go (no h) = omega arith

pub batches_complete : BatchesComplete
batches_complete d n x k w y p = complete p

pub in_two : InTwo
in_two d i n x y z j v k w p e q =
    let h = whole p e in
    let m : y ≡ after d i x = p.left ∙ ap (λ (t : ℕ). after d t x) h in
    promises p.bounds
    (ends_behind d i n x k w z (sym p.turns ∙ h) (subst (λ (u : Machine). Ends d n u k w z) m (batch_ends q)))

pub longer : Longer
longer d i n x k w y p z =
    let u = after d k x in
    let l = fewer p z in
    let q : refusal d u ≢ 0 = λ e. z (is_next p l ∙ e) in
    promises p.bounds
    (subst₂ (Ends d (i + n) x k) (sym (is_next p l)) (sym p.left)
    (ends_there d k (i + n) x (refusal d u) u (omega arith) (made_all d k x (is_first p).accepted)
    (ends_refused d (i + n - k) u (omega arith) q)))
