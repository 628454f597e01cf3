-- The position: one further and back, and many further. Assumes nothing.
use Prim.Native.Nat.{ℕ, zero, suc, ◌+◌, ◌-◌, ◌<◌, ◌≤◌}
use mathlib.Core.Path.{◌≡◌, refl, sym, ap, ◌∙◌, subst, subst⁻¹}
use mathlib.Core.Logic.{◌≢◌}
use mathlib.Core.Bool.{Bool, true, false, true≢false}
use native.Mathlib.Omega.{arith}
use native.Mathlib.Numerals.{add-one}
use lib.Dec.{lit<}
use lib.IntN.{ℤ, pos, negsuc, suc_ℤ, pred_ℤ, neg_ℤ, ◌+ℤ◌, +ℤ_one, -ℤ_one, +ℤ_idr, +ℤ_assoc, neg_ℤ-+ℤ, +ℤ-neg_ℤ_cancel, -ℤ-+ℤ_cancel}
use borrow.Author.Tests.{leb-false, le-leb, lt-leb}
use mir.Syntax.{w64}
use mir.Val.{SFits}
use Rattle.step.specs.declared.Direction.{Direction}
use Rattle.step.specs.declared.Direction.TheVariants.{Forward, Back}
use Rattle.step.specs.View.{flip}
use Rattle.machine.specs.Position.{end, is_last, advanced}
use Rattle.machine.specs.InPlace.{room}

-- ---- one further: the next whole number, or the one before

abbrev one : Direction → ℤ → ℤ
one Forward p = suc_ℤ p
one Back p = pred_ℤ p

one_is : (d : Direction) (p : ℤ) → advanced d 1 p ≡ one d p
one_is Forward p = +ℤ_one p
one_is Back p = -ℤ_one p

pub home : (d : Direction) (p : ℤ) → advanced (flip d) 1 (advanced d 1 p) ≡ p
home Forward p = +ℤ-neg_ℤ_cancel p (pos 1)
home Back p = -ℤ-+ℤ_cancel p (pos 1)

-- from p to q, which is no end the other way
pub record Step (d : Direction) (p q : ℤ) : Type 0 where
  pub fits : SFits w64 q
  pub back : is_last (flip d) q ≡ false
  pub left : room d p ≡ suc (room d q)

step_one : (d : Direction) (p : ℤ) → SFits w64 p → is_last d p ≡ false → Step d p (one d p)
step_one Forward (pos n) f h = let l = leb-false 9223372036854775807 n h in record { fits = record { sfits = omega arith }; back = refl; left = omega arith }
step_one Forward (negsuc zero) f h = record { fits = record { sfits = lit< tt }; back = refl; left = omega arith }
step_one Forward (negsuc (suc n)) f h =
    let l = f.sfits in record { fits = record { sfits = omega arith }; back = lt-leb 9223372036854775807 n (omega arith); left = omega arith }
step_one Back (pos zero) f h = record { fits = record { sfits = lit< tt }; back = refl; left = omega arith }
step_one Back (pos (suc n)) f h =
    let l = f.sfits in record { fits = record { sfits = omega arith }; back = lt-leb 9223372036854775807 n (omega arith); left = omega arith }
step_one Back (negsuc n) f h = let l = leb-false 9223372036854775807 n h in record { fits = record { sfits = omega arith }; back = refl; left = omega arith }

pub step : (d : Direction) (p : ℤ) → SFits w64 p → is_last d p ≡ false → Step d p (advanced d 1 p)
step d p f h = subst⁻¹ (Step d p) (one_is d p) (step_one d p f h)

-- ---- an end is where no room is left

pub last_room : (d : Direction) (p : ℤ) → SFits w64 p → (room d p ≡ 0 → is_last d p ≡ true) × (0 < room d p → is_last d p ≡ false)
last_room Forward (pos n) f = (λ e. le-leb 9223372036854775807 n (omega arith), λ h. lt-leb 9223372036854775807 n (omega arith))
last_room Forward (negsuc n) f = (λ e. absurd (omega arith), λ h. refl)
last_room Back (pos n) f = (λ e. absurd (omega arith), λ h. refl)
last_room Back (negsuc n) f = (λ e. le-leb 9223372036854775807 n (omega arith), λ h. lt-leb 9223372036854775807 n (omega arith))

room_none : (d : Direction) (p : ℤ) → SFits w64 p → room d p ≡ 0 → p ≡ end d
room_none Forward (pos n) f e = let l = f.sfits in let n_is : n ≡ 9223372036854775807 = omega arith in ap pos n_is
room_none Forward (negsuc n) f e = absurd (omega arith)
room_none Back (pos n) f e = absurd (omega arith)
room_none Back (negsuc n) f e = let l = f.sfits in let n_is : n ≡ 9223372036854775807 = omega arith in ap negsuc n_is

pub last_end : (d : Direction) (p : ℤ) → SFits w64 p → is_last d p ≡ true → p ≡ end d
last_end d p f h = go (room d p) refl
  where
    go : (k : ℕ) → room d p ≡ k → p ≡ end d
    go zero e = room_none d p f e
    go (suc k) e = absurd (true≢false (sym h ∙ (last_room d p f).1 (omega arith)))

pub no_other : (d : Direction) (p : ℤ) → SFits w64 p → p ≢ end d → is_last d p ≡ false
no_other d p f h = go (is_last d p) refl
  where
    go : (b : Bool) → is_last d p ≡ b → is_last d p ≡ false
    go true e = absurd (h (last_end d p f e))
    go false e = e

-- ---- many further

pub advance_none : (d : Direction) (p : ℤ) → advanced d 0 p ≡ p
advance_none Forward p = +ℤ_idr p
advance_none Back p = +ℤ_idr p

pub advance_one : (d : Direction) (k : ℕ) (p : ℤ) → advanced d 1 (advanced d k p) ≡ advanced d (k + 1) p
advance_one Forward k p = +ℤ_assoc p (pos k) (pos 1)
advance_one Back k p = +ℤ_assoc p (neg_ℤ (pos k)) (neg_ℤ (pos 1)) ∙ ap (λ (z : ℤ). p +ℤ z) (sym (neg_ℤ-+ℤ (pos k) (pos 1)))

-- k further there is so much less room
pub record Along (d : Direction) (k : ℕ) (p q : ℤ) : Type 0 where
  pub fits : SFits w64 q
  pub left : room d q ≡ room d p - k

pub along : (d : Direction) (k : ℕ) (p : ℤ) → SFits w64 p → k ≤ room d p → Along d k p (advanced d k p)
along d zero p f h = subst⁻¹ (Along d 0 p) (advance_none d p) (record { fits = f; left = omega arith })
along d (suc k) p f h =
    let a = along d k p f (omega arith) in
    let l = a.left in
    let q = advanced d k p in
    let s = step d q a.fits ((last_room d q a.fits).1 (omega arith)) in
    let m = s.left in
    let e : advanced d 1 q ≡ advanced d (suc k) p = advance_one d k p ∙ ap (λ (n : ℕ). advanced d n p) (add-one k) in
    subst (Along d (suc k) p) e (record { fits = s.fits; left = omega arith })
