-- What the samples alone tell. Assumes nothing.
use Prim.Native.Nat.{ℕ}
use mathlib.Core.Path.{◌≡◌, refl, ap, ◌∙◌}
use mathlib.Core.Bool.{Bool, true, false}
use mathlib.Core.List.{List, [], ◌∷◌}
use lib.Dec.{eqb, ltb}
use Rattle.word.specs.Refusal.{refuse}
use Rattle.wheel.specs.Wheel.{steps, fault, Counts, started, ended, Wheel, wheel_at, moved, taken, run}
use Rattle.wheel.specs.Claims.{end_of, SamplesAlone}

abbrev told : Counts → ℕ × ℕ
told c = (c.last, c.refusal)

run_told : (l : List ℕ) (w : Wheel) → w.counts.refusal ≡ 0 → told (run l w).counts ≡ end_of w.counts.last l
unfolding run taken end_of
run_told [] w z = λ j. (w.counts.last, z j)
run_told (s ∷ rest) w z = go (run_told rest (moved (steps p s) s w) refl) (eqb (fault p s) 0) refl
  where
    p : ℕ
    p = w.counts.last

    go : told (run rest (moved (steps p s) s w)).counts ≡ end_of s rest → (c : Bool) → eqb (fault p s) 0 ≡ c
        → told (run (s ∷ rest) w).counts ≡ end_of p (s ∷ rest)
    go h true e = rw e h
    go h false e = rw e (rw e refl)

pub samples_alone : SamplesAlone
unfolding refuse
samples_alone given l x y c p = ap (λ (w : Wheel). told w.counts) p.left ∙ go (ltb 3 given)
  where
    go : (b : Bool) → told (refuse b (wheel_at (ended 20 (started given)) x) (run l (wheel_at (started given) x))).counts ≡ refuse b (given, 20) (end_of given l)
    go true = refl
    go false = run_told l (wheel_at (started given) x) refl
