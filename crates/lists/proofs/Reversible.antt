-- The net count, over any two partial functions that undo each other. Assumes nothing.
use mathlib.Core.Path.{◌≡◌, refl, sym, ap, ◌∙◌, subst}
use Prim.Native.Nat.{ℕ, zero, suc, ◌+◌, ◌-◌, ◌≤◌}
use native.Mathlib.Omega.{arith}
use native.Mathlib.Decide.{dec_le}
use Rattle.step.specs.View.{flip, by_way}
use Rattle.step.specs.declared.Direction.{Direction}
use Rattle.step.specs.declared.Direction.TheVariants.{Forward, Back}

-- S: the states; Ok d x: the function d is defined at x; next d x: its value there; Good: the states on which the two are known
-- to undo each other
module _ (S : Type 0) (Ok : Direction → S → Type 0) (next : Direction → S → S) (Good : S → Type 0) where
  -- k accepted turns lead from x to y
  abbrev pub Runs : Direction → ℕ → S → S → Type 0
  Runs d zero x y = x ≡ y
  Runs d (suc k) x y = Ok d x × Runs d k (next d x) y

  -- accepted turns one after the other, forward and back, with the numbers of both
  pub data Tour : ℕ → ℕ → S → S → Type 0 where
    empty : {x : S} → Tour 0 0 x x
    turn : {f b : ℕ} {x y : S} (d : Direction) → Tour f b x y → Good y → Ok d y → Tour (by_way d (suc f) f) (by_way d b (suc b)) x (next d y)

  -- p - q turns this way, or q - p the other way
  pub record Net (d : Direction) (p q : ℕ) (x y : S) : Type 0 where
    pub ahead : q ≤ p → Runs d (p - q) x y
    pub behind : p ≤ q → Runs (flip d) (q - p) x y

  more_end : (d : Direction) (k : ℕ) (x y : S) → Runs d k x y → Ok d y → Runs d (suc k) x (next d y)
  more_end d zero x y e h = (rw e h, ap (next d) e)
  more_end d (suc k) x y a h = (a.0, more_end d k (next d x) y a.1 h)

  times : (d : Direction) (j k : ℕ) (x y : S) → j ≡ k → Runs d j x y → Runs d k x y
  times d j k x y e a = subst (λ (n : ℕ). Runs d n x y) e a

  -- where a tour has turned, its start is good
  good_start : {f b : ℕ} {x y : S} → Tour f b x y → Good y → Good x
  good_start empty g = g
  good_start (turn d t g h) g' = good_start t g

  -- the two inverse laws, on the good states, which turns keep
  module _ (law : (d : Direction) (x : S) → Good x → Ok d x → Ok (flip d) (next d x) × (next (flip d) (next d x) ≡ x) × Good (next d x)) where
    undo : (d : Direction) (x : S) → Good x → Ok (flip d) x → next d (next (flip d) x) ≡ x
    undo Forward x g h = (law Back x g h).1
    undo Back x g h = (law Forward x g h).1

    less_end : (d : Direction) (k : ℕ) (x y : S) → Good x → Runs (flip d) (suc k) x y → Runs (flip d) k x (next d y)
    less_end d zero x y g a = sym (undo d x g a.0) ∙ ap (next d) a.1
    less_end d (suc k) x y g a = (a.0, less_end d k (next (flip d) x) y (law (flip d) x g a.0).2 a.1)

    net_one : (d : Direction) (p q : ℕ) (x y : S) → Good x → Net d p q x y → Ok d y → Net d (suc p) q x (next d y)
    net_one d p q x y g r h = record { ahead = λ l. ahead l (dec_le q p); behind = λ l. less (q - suc p) (omega arith) (omega arith) }
      where
        less : (k : ℕ) → q - p ≡ suc k → p ≤ q → Runs (flip d) k x (next d y)
        less k e l = less_end d k x y g (times (flip d) (q - p) (suc k) x y e (r.behind l))

        ahead : q ≤ suc p → Dec (q ≤ p) → Runs d (suc p - q) x (next d y)
        ahead l (yes m) = times d (suc (p - q)) (suc p - q) x (next d y) (omega arith) (more_end d (p - q) x y (r.ahead m) h)
        ahead l (no m) = times d 0 (suc p - q) x (next d y) (omega arith) (less 0 (omega arith) (omega arith))

    pub net : {f b : ℕ} {x y : S} → Tour f b x y → Net Forward f b x y
    net empty = record { ahead = λ h. refl; behind = λ h. refl }
    net (turn {f = f} {b = b} {x = x} {y = y} Forward t g h) = net_one Forward f b x y (good_start t g) (net t) h
    net (turn {f = f} {b = b} {x = x} {y = y} Back t g h) =
        let n = net t in
        let m = net_one Back b f x y (good_start t g) (record { ahead = n.behind; behind = n.ahead }) h in
        record { ahead = m.behind; behind = m.ahead }

    tour_at : {f f' b b' : ℕ} {x y : S} → f ≡ f' → b ≡ b' → Tour f b x y → Tour f' b' x y
    tour_at {f = f} {b' = b'} {x = x} {y = y} e e' t = subst (λ (n : ℕ). Tour n b' x y) e (subst (λ (n : ℕ). Tour f n x y) e' t)

    -- a tour goes on with a run
    pub then_run : {f b : ℕ} {x y z : S} (d : Direction) (k : ℕ) → Tour f b x y → Good y → Runs d k y z → Tour (by_way d k 0 + f) (by_way d 0 k + b) x z
    then_run {f} {b} {x} Forward zero t g r = subst (Tour (0 + f) (0 + b) x) r (tour_at (omega arith) (omega arith) t)
    then_run {f} {b} {x} Back zero t g r = subst (Tour (0 + f) (0 + b) x) r (tour_at (omega arith) (omega arith) t)
    then_run {f = f} {b = b} {x = x} {y = y} {z = z} Forward (suc k) t g r =
        tour_at (omega arith) (omega arith) (then_run {f = by_way Forward (suc f) f} {b = by_way Forward b (suc b)} {x = x} {y = next Forward y} {z = z} Forward k (turn Forward t g r.0) (law Forward y g r.0).2 r.1)
    then_run {f = f} {b = b} {x = x} {y = y} {z = z} Back (suc k) t g r =
        tour_at (omega arith) (omega arith) (then_run {f = by_way Back (suc f) f} {b = by_way Back b (suc b)} {x = x} {y = next Back y} {z = z} Back k (turn Back t g r.0) (law Back y g r.0).2 r.1)
