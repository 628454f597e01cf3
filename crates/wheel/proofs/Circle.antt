-- The circle of samples. Assumes nothing.
use Prim.Native.Nat.{ℕ, zero, suc, ◌+◌, ◌-◌, ◌<◌, ◌≤◌}
use mathlib.Core.Path.{◌≡◌, refl}
use mathlib.Core.Bool.{Bool, true, false}
use mathlib.Core.List.{[], ◌∷◌}
use native.Mathlib.Omega.{arith}
use lib.Dec.{ltb}
use borrow.Author.Tests.{lt-ltb}
use Rattle.word.specs.Word.{sub_word}
use Rattle.step.specs.declared.Direction.{Direction}
use Rattle.step.specs.declared.Direction.TheVariants.{Forward, Back}
use Rattle.step.specs.View.{by_way}
use Rattle.machine.specs.Machine.{Machine}
use Rattle.machine.specs.Calls.{refusal, next, accepted}
use Rattle.word.specs.Refusal.{refuse}
use Rattle.wheel.specs.Wheel.{started, ended, Wheel, wheel_at, taken, run}
use Rattle.wheel.specs.Claims.{Rests, Ends, Circle}

-- the counts of one turn, from 0 on
module _ (d : Direction) (s : ℕ) (x : Machine) where
  abbrev n : ℕ
  n = accepted (refusal d x)

  abbrev counts : ℕ → ℕ → ℕ → Wheel
  counts f b c = wheel_at (record { forward = f; back = b; refused = c; last = s; refusal = 0 }) (next d x)

  zero_add : (m : ℕ) → 0 + m ≡ m
  zero_add m = omega arith

  moves : counts (0 + by_way d n 0) (0 + by_way d 0 n) (0 + (1 - n)) ≡ counts (by_way d n 0) (by_way d 0 n) (1 - n)
  moves = λ j. counts (zero_add (by_way d n 0) j) (zero_add (by_way d 0 n) j) (zero_add (1 - n) j)

still : (s : ℕ) → s ≤ 3 → Rests s
unfolding refuse sub_word taken run
still zero h = λ x. refl
still (suc zero) h = λ x. refl
still (suc (suc zero)) h = λ x. refl
still (suc (suc (suc zero))) h = λ x. refl
still (suc (suc (suc (suc s)))) h = absurd (omega arith)

above : (p s : ℕ) → 3 < s → Ends 20 p s
unfolding refuse taken run
above p s h x = go (ltb 3 p)
  where
    first : Wheel
    first = wheel_at (started p) x

    over : Wheel
    over = wheel_at (ended 20 (started p)) x

    ran : run (s ∷ []) first ≡ over
    ran = rw (lt-ltb 3 s h) refl

    go : (b : Bool) → refuse b over (run (s ∷ []) first) ≡ over
    go true = refl
    go false = ran

pub circle : Circle
unfolding refuse sub_word taken run
circle =
    record {
      cycle = ((moves Forward 1, moves Back 0), (moves Forward 3, moves Back 1), (moves Forward 2, moves Back 3), (moves Forward 0, moves Back 2));
      still = still;
      away = (λ x. refl, λ x. refl, λ x. refl, λ x. refl);
      above = above;
    }
