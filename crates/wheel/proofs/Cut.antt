-- Two sample calls as one. Assumes nothing.
use Prim.Native.Nat.{ℕ, ◌+◌, ◌≤◌}
use mathlib.Core.Path.{◌≡◌, refl, sym, ap, subst, ◌∙◌}
use mathlib.Core.Bool.{Bool, true, false}
use mathlib.Core.List.{List, [], ◌∷◌, ◌++◌}
use native.Mathlib.Omega.{arith}
use lib.Dec.{eqb, ltb}
use borrow.Author.Tests.{eqb-true, eqb-false, ltb-false, le-ltb}
use Rattle.word.specs.Word.{pick}
use Rattle.word.specs.Refusal.{refuse}
use Rattle.machine.specs.Machine.{Machine}
use Rattle.wheel.specs.Wheel.{steps, fault, Counts, started, ended, Wheel, wheel_at, moved, taken, run, follow_of, WheelPromise}
use Rattle.wheel.specs.Claims.{joined, Cut}

-- ---- what a wheel does after an earlier call with the counts a

abbrev behind : Counts → Wheel → Wheel
behind a w = wheel_at (joined a w.counts) w.machine

moved_behind : (a : Counts) (k s : ℕ) (w : Wheel) → moved k s (behind a w) ≡ behind a (moved k s w)
moved_behind a k s w = λ j. wheel_at (record { forward = f j; back = b j; refused = r j; last = s; refusal = 0 }) w'.machine
  where
    w' : Wheel
    w' = moved k s w

    f : (moved k s (behind a w)).counts.forward ≡ a.forward + w'.counts.forward
    f = omega arith

    b : (moved k s (behind a w)).counts.back ≡ a.back + w'.counts.back
    b = omega arith

    r : (moved k s (behind a w)).counts.refused ≡ a.refused + w'.counts.refused
    r = omega arith

taken_behind : (a : Counts) (s : ℕ) (w : Wheel) → taken s (behind a w) ≡ behind a (taken s w)
unfolding taken
taken_behind a s w = go (eqb n 0)
  where
    k : ℕ
    k = steps w.counts.last s

    n : ℕ
    n = fault w.counts.last s

    go : (c : Bool) → pick c (moved k s (behind a w)) (wheel_at (ended n (joined a w.counts)) w.machine)
        ≡ behind a (pick c (moved k s w) (wheel_at (ended n w.counts) w.machine))
    go true = moved_behind a k s w
    go false = refl

run_behind : (a : Counts) (l : List ℕ) (w : Wheel) → run l (behind a w) ≡ behind a (run l w)
unfolding run
run_behind a [] w = refl
run_behind a (s ∷ rest) w =
    ap (λ (u : Wheel). pick (eqb u.counts.refusal 0) (run rest u) u) (taken_behind a s w)
    ∙ go (run_behind a rest t) (eqb t.counts.refusal 0)
  where
    t : Wheel
    t = taken s w

    go : run rest (behind a t) ≡ behind a (run rest t) → (c : Bool)
        → pick c (run rest (behind a t)) (behind a t) ≡ behind a (pick c (run rest t) t)
    go e true = e
    go e false = refl

-- ---- a list that is not refused: what comes after it goes on, and its last sample is 3 at most

taken_low : (s : ℕ) (w : Wheel) → (taken s w).counts.refusal ≡ 0 → (taken s w).counts.last ≤ 3
unfolding refuse taken
taken_low s w z = go (eqb n 0) refl z
  where
    k : ℕ
    k = steps w.counts.last s

    n : ℕ
    n = fault w.counts.last s

    low : (b : Bool) → ltb 3 s ≡ b → refuse {A = ℕ} b 20 (refuse (eqb k 2) 19 0) ≡ 0 → s ≤ 3
    low true e h = absurd (omega (arith, h))
    low false e h = ltb-false 3 s e

    go : (c : Bool) → eqb n 0 ≡ c → (let t = pick c (moved k s w) (wheel_at (ended n w.counts) w.machine) in t.counts.refusal ≡ 0 → t.counts.last ≤ 3)
    go true e h = low (ltb 3 s) refl (eqb-true _ _ e)
    go false e h = absurd (eqb-false _ _ e h)

module _ (m : List ℕ) where
  record Goes (l : List ℕ) (w : Wheel) : Type 0 where
    on : run (l ++ m) w ≡ run m (run l w)
    low : (run l w).counts.last ≤ 3

  goes : (l : List ℕ) (w : Wheel) → w.counts.last ≤ 3 → (run l w).counts.refusal ≡ 0 → Goes l w
  unfolding run
  goes [] w b z = record { on = refl; low = b }
  goes (s ∷ rest) w b z = go (goes rest t) (eqb t.counts.refusal 0) refl z
    where
      t : Wheel
      t = taken s w

      go : (t.counts.last ≤ 3 → (run rest t).counts.refusal ≡ 0 → Goes rest t) → (c : Bool) → eqb t.counts.refusal 0 ≡ c
          → (pick c (run rest t) t).counts.refusal ≡ 0 → Goes (s ∷ rest) w
      go f true e h = let g = f (taken_low s w (eqb-true _ _ e)) h in record { on = rw e g.on; low = rw e g.low }
      go f false e h = absurd (eqb-false _ _ e h)

-- ---- a call

module _ (given : ℕ) (l : List ℕ) (x : Machine) where
  abbrev first : Wheel
  first = wheel_at (started given) x

  ran : given ≤ 3 → follow_of given l x ≡ run l first
  unfolding refuse
  ran h = rw (le-ltb 3 given h) refl

  given_low : (follow_of given l x).counts.refusal ≡ 0 → given ≤ 3
  unfolding refuse
  given_low z = go (ltb 3 given) refl z
    where
      go : (b : Bool) → ltb 3 given ≡ b → (refuse b (wheel_at (ended 20 (started given)) x) (run l first)).counts.refusal ≡ 0 → given ≤ 3
      go true e h = absurd (omega (arith, h))
      go false e h = ltb-false 3 given e

  -- one that is not refused: the samples ran, and what comes after them goes on from what they left
  module _ {c : Counts} {y : Machine} (p : WheelPromise given l x c y) (z : c.refusal ≡ 0) (m : List ℕ) where
    low : given ≤ 3
    low = given_low (ap (λ (w : Wheel). w.counts.refusal) (sym p.left) ∙ z)

    left : run l first ≡ wheel_at c y
    left = sym (p.left ∙ ran low)

    further : Goes m l first
    further = goes m l first low (ap (λ (w : Wheel). w.counts.refusal) left ∙ z)

    last_low : c.last ≤ 3
    last_low = subst (λ (w : Wheel). w.counts.last ≤ 3) left further.low

    goes_on : run (l ++ m) first ≡ run m (wheel_at c y)
    goes_on = further.on ∙ ap (run m) left

-- what a call leaves, as a start after its counts
from : (c : Counts) (y : Machine) → c.refusal ≡ 0 → wheel_at c y ≡ behind c (wheel_at (started c.last) y)
from c y z = λ j. wheel_at (record { forward = f j; back = b j; refused = r j; last = c.last; refusal = z j }) y
  where
    f : c.forward ≡ c.forward + 0
    f = omega arith

    b : c.back ≡ c.back + 0
    b = omega arith

    r : c.refused ≡ c.refused + 0
    r = omega arith

pub cut : Cut
cut given l m x y z a b p e q = record { left = joins; bounds = p.bounds }
  where
    joins : wheel_at (joined a b) z ≡ follow_of given (l ++ m) x
    joins =
        sym (ran given (l ++ m) x (low given l x p e m)
        ∙ (goes_on given l x p e m
        ∙ (ap (run m) (from a y e)
        ∙ (run_behind a m (wheel_at (started a.last) y)
        ∙ ap (behind a) (sym (q.left ∙ ran a.last m y (last_low given l x p e m)))))))
