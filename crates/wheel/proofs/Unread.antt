-- A list that is refused: what comes after it changes nothing. Assumes nothing.
use Prim.Native.Nat.{ℕ}
use mathlib.Core.Path.{◌≡◌, refl, ap, ◌∙◌}
use mathlib.Core.Logic.{◌≢◌}
use mathlib.Core.Bool.{Bool, true, false}
use mathlib.Core.List.{List, [], ◌∷◌, ◌++◌}
use lib.Dec.{eqb, ltb}
use borrow.Author.Tests.{eqb-true}
use Rattle.word.specs.Word.{pick}
use Rattle.word.specs.Refusal.{refuse}
use Rattle.wheel.specs.Wheel.{started, ended, Wheel, wheel_at, taken, run}
use Rattle.wheel.specs.Claims.{Unread}

abbrev refusal : Wheel → ℕ
refusal w = w.counts.refusal

run_ended : (m l : List ℕ) (w : Wheel) → refusal w ≡ 0 → refusal (run l w) ≢ 0 → run l w ≡ run (l ++ m) w
unfolding run
run_ended m [] w z h = absurd (h z)
run_ended m (s ∷ rest) w z h = go (run_ended m rest t) (eqb (refusal t) 0) refl h
  where
    t : Wheel
    t = taken s w

    go : (refusal t ≡ 0 → refusal (run rest t) ≢ 0 → run rest t ≡ run (rest ++ m) t)
        → (c : Bool) → eqb (refusal t) 0 ≡ c → refusal (pick c (run rest t) t) ≢ 0 → pick c (run rest t) t ≡ pick c (run (rest ++ m) t) t
    go f true e n = f (eqb-true _ _ e) n
    go f false e n = refl

pub unread : Unread
unfolding refuse
unread given l m x y c p h = record { left = p.left ∙ go (ltb 3 given) (λ e. h (ap refusal p.left ∙ e)); bounds = p.bounds }
  where
    first : Wheel
    first = wheel_at (started given) x

    over : Wheel
    over = wheel_at (ended 20 (started given)) x

    go : (b : Bool) → refusal (refuse b over (run l first)) ≢ 0 → refuse b over (run l first) ≡ refuse b over (run (l ++ m) first)
    go true n = refl
    go false n = run_ended m l first refl n
