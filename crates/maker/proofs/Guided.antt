-- A walk over a finished table: the machine's cycles with node and wait count, the coin of each qif chosen, and its register set and restored.
use Prim.Native.Nat.{ℕ, zero, suc, ◌-◌}
use mathlib.Core.Bool.{◌&&◌}
use mathlib.Core.List.{List, [], ◌∷◌}
use lib.Dec.{eqb, leb}
use Rattle.word.specs.Word.{pick}
use Rattle.step.specs.Table.{fc, lc, cf, cl, nx, pr, w, link, paired}
use Rattle.maker.specs.Walkable.{Walkable}
use Rattle.maker.specs.Making.{by_look}

-- the state, node and wait count, and the states at the qifs that are open, the innermost first
pub record Guided (S : Type 0) : Type 0 where
  pub at : S
  pub node : ℕ
  pub wait : ℕ
  pub saved : List S

pub data Next (S : Type 0) : Type 0 where
  stuck : ℕ → Next S
  moved : Guided S → Next S

abbrev pub guided : {S : Type 0} → S → ℕ → ℕ → List S → Guided S
guided s v k l = record { at = s; node = v; wait = k; saved = l }

unfoldable pub by_next : {S : Type 0} → Next S → (Guided S → Next S) → Next S
by_next (stuck k) f = stuck k
by_next (moved g) f = f g

module _ {S : Type 0} (M : Walkable S) (t : List ℕ) (n : ℕ) where
  -- pc moves on where the wait count is 0
  abbrev pub settled : ℕ → S → S
  settled k s = pick (eqb k 0) (M.on s) s

  unfoldable pub enter : ℕ → Guided S → Next S
  enter x g =
      let u = link t n g.node (fc x) in
      pick (leb x 1)
      (pick (paired t n g.node (fc x) u cf)
      (moved (guided (settled (link t n u w) (M.coined g.at x)) u (link t n u w) (g.at ∷ g.saved)))
      (stuck 17))
      (stuck 16)

  unfoldable pub waits : Guided S → Next S
  waits g =
      pick (leb (M.coin g.at) 1)
      (pick (paired t n (link t n g.node cf) (fc (M.coin g.at)) g.node cf)
      (pick (leb g.wait (link t n g.node w)) (moved (guided (settled (g.wait - 1) g.at) g.node (g.wait - 1) g.saved)) (stuck 14))
      (stuck 17))
      (stuck 16)

  unfoldable pub leave : S → ℕ → List S → Next S
  leave s v [] = stuck 17
  leave s v (s₀ ∷ l) =
      let p = link t n v cl in
      let m = link t n p nx in
      pick (leb (M.coin s) 1)
      (pick (paired t n p (lc (M.coin s)) v cl && paired t n p nx m pr)
      (pick (M.is_before_start s) (stuck 18) (pick (M.holds s₀ (M.coin s) s) (moved (guided (M.after s₀ s) m 0 l)) (stuck 24)))
      (stuck 17))
      (stuck 16)

  -- one cycle, with coin x if it begins a qif
  unfoldable pub cycle : ℕ → Guided S → Next S
  cycle x g =
      by_look (M.look g.at)
      stuck
      (stuck 12)
      (λ s. pick (eqb g.wait 0) (moved (guided s g.node 0 g.saved)) (stuck 14))
      (pick (eqb g.wait 0) (enter x g) (waits g))
      (pick (eqb g.wait 0) (leave g.at g.node g.saved) (stuck 14))

  -- k cycles, the first of them number i, with the coins c
  unfoldable pub runs : (ℕ → ℕ) → ℕ → ℕ → Guided S → Next S
  runs c zero i g = moved g
  runs c (suc k) i g = by_next (cycle (c i) g) (runs c k (suc i))
