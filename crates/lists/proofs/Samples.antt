-- A sample call as the single turns that its samples name. Assumes nothing.
use mathlib.Core.Path.{◌≡◌, refl, sym, subst, subst₂, subst₃}
use mathlib.Core.Bool.{Bool, true, false}
use mathlib.Core.List.{List, [], ◌∷◌, ◌++◌}
use Prim.Native.Nat.{ℕ, ◌+◌, ◌-◌}
use native.Mathlib.Omega.{arith}
use lib.Dec.{eqb, ltb}
use borrow.Author.Tests.{eqb-true, eqb-false}
use Rattle.word.specs.Word.{pick}
use Rattle.word.specs.Refusal.{refuse}
use Rattle.step.specs.declared.Direction.{Direction}
use Rattle.step.specs.declared.Direction.TheVariants.{Forward, Back}
use Rattle.step.specs.View.{by_way}
use Rattle.machine.specs.Machine.{Machine, Bounded}
use Rattle.machine.specs.Calls.{TurnPromise, accepted, refusal, next}
use Rattle.machine.proofs.Claims.{refused_keeps, turn_home}
use Rattle.wheel.specs.Wheel.{steps, fault, Counts, started, ended, Wheel, wheel_at, moved, taken, run, WheelPromise}
use Rattle.lists.specs.Lists.{Left}
use Rattle.lists.specs.Lists.Call.{single}
use Rattle.lists.specs.Lists.Left.{empty, then}
use Rattle.lists.specs.Samples.{named, named_by, Turns, SamplesAreTurns}
use Rattle.lists.specs.Samples.Turns.{none, turn}

-- ---- a turn keeps the bounds, refused or not

next_bounded : (d : Direction) (x : Machine) → Bounded x → Bounded (next d x)
next_bounded d x g = go (eqb (refusal d x) 0) refl
  where
    go : (b : Bool) → eqb (refusal d x) 0 ≡ b → Bounded (next d x)
    go true e = (turn_home d x g (eqb-true _ _ e)).2
    go false e = subst Bounded (sym (refused_keeps d x (eqb-false _ _ e))) g

-- ---- the wheel went from w to w' by the turns ds

record Went (ds : List Direction) (w w' : Wheel) : Type 0 where
  f : ℕ
  b : ℕ
  n : ℕ
  turns : Turns ds w.machine f b n w'.machine
  forward : w'.counts.forward ≡ w.counts.forward + f
  back : w'.counts.back ≡ w.counts.back + b
  refused : w'.counts.refused ≡ w.counts.refused + n

stood : (w : Wheel) (n : ℕ) → Went [] w (wheel_at (ended n w.counts) w.machine)
stood w n = record { f = 0; b = 0; n = 0; turns = none; forward = omega arith; back = omega arith; refused = omega arith }

module _ (s : ℕ) (w : Wheel) (g : Bounded w.machine) where
  abbrev x : Machine
  x = w.machine

  -- at the sample s, after a turn that was refused by i or not, of which f count forward and b back, and that left y
  abbrev by : ℕ → ℕ → ℕ → Machine → Wheel
  by i f b y =
      wheel_at (record { forward = w.counts.forward + f; back = w.counts.back + b; refused = w.counts.refused + (1 - accepted i); last = s; refusal = 0 }) y

  -- forward where f holds, back where b does: what moves the wheel by k steps, with its tests of k as f and b
  abbrev answer : Bool → Bool → ℕ
  answer f b = pick f (refusal Forward x) (pick b (refusal Back x) 0)

  abbrev to : Bool → Bool → Wheel
  to f b = by (answer f b) (pick f (accepted (answer f b)) 0) (pick b (accepted (answer f b)) 0) (pick f (next Forward x) (pick b (next Back x) x))

  to_bounded : (f b : Bool) → Bounded (to f b).machine
  to_bounded true b = next_bounded Forward x g
  to_bounded false true = next_bounded Back x g
  to_bounded false false = g

  abbrev count : Direction → ℕ
  count d = accepted (refusal d x)

  one_turn : (d : Direction) {ds : List Direction} {w' : Wheel}
      → Went ds (by (refusal d x) (by_way d (count d) 0) (by_way d 0 (count d)) (next d x)) w' → Went (d ∷ ds) w w'
  one_turn d m =
      record {
        f = by_way d (count d) 0 + m.f;
        b = by_way d 0 (count d) + m.b;
        n = 1 - count d + m.n;
        turns = turn {y = next d x} (record { refusal = refl; left = refl; bounds = g }) m.turns;
        forward = omega (arith, m.forward);
        back = omega (arith, m.back);
        refused = omega (arith, m.refused);
      }

  no_turn : {ds : List Direction} {w' : Wheel} → Went ds (to false false) w' → Went ds w w'
  no_turn m =
      record {
        f = m.f;
        b = m.b;
        n = m.n;
        turns = m.turns;
        forward = omega (arith, m.forward);
        back = omega (arith, m.back);
        refused = omega (arith, m.refused);
      }

  went : (f b : Bool) → (f ≡ true → b ≡ true → ⊥) → {ds : List Direction} {w' : Wheel} → Went ds (to f b) w'
      → Went (pick f (Forward ∷ []) (pick b (Back ∷ []) []) ++ ds) w w'
  went true true h m = absurd (h refl refl)
  went true false h m = one_turn Forward m
  went false true h m = one_turn Back m
  went false false h m = no_turn m

run_went : (l : List ℕ) (w : Wheel) → Bounded w.machine → Went (named w.counts.last l) w (run l w)
unfolding run named taken
run_went [] w g = record { f = 0; b = 0; n = 0; turns = none; forward = omega arith; back = omega arith; refused = omega arith }
run_went (s ∷ rest) w g = go (run_went rest (moved k s w) (to_bounded s w g (eqb k 1) (eqb k 3))) (eqb (fault w.counts.last s) 0) refl
  where
    k : ℕ
    k = steps w.counts.last s

    go : Went (named s rest) (moved k s w) (run rest (moved k s w)) → (c : Bool) → eqb (fault w.counts.last s) 0 ≡ c
        → Went (named w.counts.last (s ∷ rest)) w (run (s ∷ rest) w)
    go m true e = rw e (went s w g (eqb k 1) (eqb k 3) (λ p q. omega (arith, eqb-true k 1 p, eqb-true k 3 q)) m)
    go m false e = rw e (rw e (stood w (fault w.counts.last s)))

-- ---- a call

module _ (given : ℕ) (l : List ℕ) (x : Machine) where
  abbrev first : Wheel
  first = wheel_at (started given) x

  abbrev end : Bool → Wheel
  end b = refuse b (wheel_at (ended 20 (started given)) x) (run l first)

  -- b: the given sample is above 3
  abbrev Makes : Bool → Wheel → Type 0
  Makes b w = Turns (refuse b [] (named given l)) x w.counts.forward w.counts.back w.counts.refused w.machine

  makes : Bounded x → (b : Bool) → Makes b (end b)
  unfolding refuse
  makes g true = none
  makes g false =
      let m = run_went l first g in
      subst₃ (λ (f b n : ℕ). Turns (named given l) x f b n (end false).machine)
      (omega (arith, m.forward)) (omega (arith, m.back)) (omega (arith, m.refused)) m.turns

  pub call_turns : {c : Counts} {y : Machine} → WheelPromise given l x c y → Turns (named_by given l) x c.forward c.back c.refused y
  call_turns p = subst (Makes (ltb 3 given)) (sym p.left) (makes p.bounds (ltb 3 given))

-- ---- what goes on by single turns goes on by a list of them

-- P has the numbers of turns accepted forward and back, and the machine
module _ (P : ℕ → ℕ → Machine → Type 0)
    (step : (d : Direction) (f b : ℕ) (x y : Machine) (n : ℕ) → P f b x → TurnPromise d x n y
    → P (by_way d (accepted n) 0 + f) (by_way d 0 (accepted n) + b) y) where
  pub by_turns : {ds : List Direction} {x y : Machine} {f b p q n : ℕ} → P f b x → Turns ds x p q n y → P (p + f) (q + b) y
  by_turns {y = y} u none = subst₂ (λ (i j : ℕ). P i j y) (omega arith) (omega arith) u
  by_turns {y = y} u (turn {d = d} h t) = subst₂ (λ (i j : ℕ). P i j y) (omega arith) (omega arith) (by_turns (step d _ _ _ _ _ u h) t)

pub samples_are_turns : SamplesAreTurns
samples_are_turns =
    record {
      turns = λ given l x y c p. call_turns given l x p;
      left = λ ds x y f b n t.
          subst₂ (λ (i j : ℕ). Left x i j y) (omega arith) (omega arith)
          (by_turns (λ i j z. Left x i j z) (λ d i j z y n u h. then u (single d z y n h)) empty t);
    }
