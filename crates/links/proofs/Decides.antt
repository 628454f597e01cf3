-- A test that holds exactly where something does. Assumes nothing.
use mathlib.Core.Path.{◌≡◌, refl, sym, ◌∙◌}
use mathlib.Core.Bool.{Bool, true, false, ◌&&◌, ◌||◌}
use mathlib.Core.Logic.{◌↔◌, ◌⊎◌, inl, inr}
use Prim.Native.Nat.{ℕ, ◌<◌, ◌≤◌}
use lib.Dec.{eqb}
use borrow.Author.Tests.{ltb-true, leb-true, eqb-true, lt-ltb, le-leb, eq-eqb}
use Rattle.word.proofs.Words.{and_true}
use Rattle.step.specs.Table.{is_node}

abbrev pub Decides : Bool → Type 0 → Type 0
Decides t a = (t ≡ true) ↔ a

pub both : {s t : Bool} {a b : Type 0} → Decides s a → (a → Decides t b) → Decides (s && t) (a × b)
both {s} {t} f g =
    (λ e. let (x, y) = and_true s t e in (f.0 x, (g (f.0 x)).0 y), λ p. let x = f.1 p.0 in let y = (g p.0).1 p.1 in rw (x, y))

pub either : {s t : Bool} {a b : Type 0} → Decides s a → Decides t b → Decides (s || t) (a ⊎ b)
either {s} {t} {a} {b} f g = (there s f, back)
  where
    there : (s : Bool) → Decides s a → s || t ≡ true → a ⊎ b
    there true f e = inl (f.0 refl)
    there false f e = inr (g.0 e)

    behind : (s : Bool) → s || true ≡ true
    behind true = refl
    behind false = refl

    back : a ⊎ b → s || t ≡ true
    back (inl x) = let e = f.1 x in rw e
    back (inr y) = let e = g.1 y in rw e (behind s)

pub equal : {x y z : ℕ} → x ≡ y → Decides (eqb x z) (y ≡ z)
equal {x} {y} {z} e = (λ h. sym e ∙ eqb-true x z h, λ h. eq-eqb x z (e ∙ h))

pub node : (n v : ℕ) → Decides (is_node n v) ((0 < v) × (v ≤ n))
node n v = both (ltb-true 0 v, lt-ltb 0 v) (λ h. (leb-true v n, le-leb v n))
