-- Laws of views that are compared. Assumes nothing.
use mathlib.Core.Path.{◌≡◌, refl, ap, ap₂, ◌∙◌}
use mathlib.Core.Bool.{Bool, true, false, ◌&&◌}
use mathlib.Core.List.{List}
use Prim.Native.Nat.{ℕ}
use lib.Dec.{eqb}
use borrow.Author.Tests.{eq-eqb, eqb-true}
use Rattle.word.specs.Lists.{same}
use Rattle.word.proofs.Words.{and_true}
use Rattle.word.proofs.Lists.{same_equal}
use Rattle.step.specs.View.{View}
use Rattle.step.specs.Same.{same_status, same_view}
use Rattle.step.specs.declared.Status.{Status}

pub same_status_self : (x : Status) → same_status x x ≡ true
same_status_self x =
    rw (
      eq-eqb x.k x.k refl,
      eq-eqb x.m x.m refl,
      eq-eqb x.n x.n refl,
      eq-eqb x.qifv x.qifv refl,
      eq-eqb x.qifw x.qifw refl,
    )

pub same_status_equal : (x y : Status) → same_status x y ≡ true → x ≡ y
same_status_equal x y e =
    let p₃ : Bool = eqb x.qifv y.qifv && eqb x.qifw y.qifw in
    let p₂ : Bool = eqb x.n y.n && p₃ in
    let p₁ : Bool = eqb x.m y.m && p₂ in
    let k = and_true (eqb x.k y.k) p₁ e in
    let m = and_true (eqb x.m y.m) p₂ k.1 in
    let n = and_true (eqb x.n y.n) p₃ m.1 in
    let v = and_true (eqb x.qifv y.qifv) (eqb x.qifw y.qifw) n.1 in
    ap₂ (λ (i j : ℕ). record { qifv = i; qifw = j; k = x.k; m = x.m; n = x.n }) (eqb-true _ _ v.0) (eqb-true _ _ v.1)
    ∙ (ap₂ (λ (i j : ℕ). record { qifv = y.qifv; qifw = y.qifw; k = i; m = j; n = x.n }) (eqb-true _ _ k.0) (eqb-true _ _ m.0)
    ∙ ap (λ (i : ℕ). record { qifv = y.qifv; qifw = y.qifw; k = y.k; m = y.m; n = i }) (eqb-true _ _ n.0))

pub same_view_equal : (s z : View) → same_view s z ≡ true → s ≡ z
same_view_equal s z e =
    let p = and_true (same s.regs z.regs) (same s.memory z.memory && same_status s.at z.at) e in
    let q = and_true (same s.memory z.memory) (same_status s.at z.at) p.1 in
    ap (λ (x : Status). record { at = x; regs = s.regs; memory = s.memory }) (same_status_equal s.at z.at q.1)
    ∙ ap₂ (λ (x y : List ℕ). record { at = z.at; regs = x; memory = y }) (same_equal s.regs z.regs p.0) (same_equal s.memory z.memory q.0)

-- of one status: registers and memory are compared
pub same_view_status : (at : Status) (l z l' z' : List ℕ)
    → same_view (record { at = at; regs = l; memory = z }) (record { at = at; regs = l'; memory = z' }) ≡ (same l l' && same z z')
same_view_status at l z l' z' = ap (λ (b : Bool). same l l' && (same z z' && b)) (same_status_self at) ∙ ap (λ (b : Bool). same l l' && b) (and_is (same z z'))
  where
    and_is : (a : Bool) → (a && true) ≡ a
    and_is true = refl
    and_is false = refl
