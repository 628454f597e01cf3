-- Laws of Room. Assumes nothing.
use mathlib.Core.Path.{◌≡◌, refl, sym, subst}
use Prim.Native.Nat.{ℕ, zero, suc, ◌+◌, ◌-◌, ◌*◌, ◌≤◌}
use native.Mathlib.Omega.{arith}
use native.Mathlib.Numerals.{sub-one}
use native.Mathlib.Nat.{suc-mul}
use Rattle.maker.specs.Parts.{Room}

pub as_long : (n m l m' l' : ℕ) → m' ≡ m → l' ≡ l → Room n m l → Room n m' l'
as_long n m l m' l' p q h = subst (λ (x : ℕ). Room n x l') (sym p) (subst (λ (x : ℕ). Room n m x) (sym q) h)

pub fits : (n m l : ℕ) → ¬ (n ≡ 0) → Room n m l → m ≤ l
unfolding Room
fits zero m l h r = absurd (h refl)
fits (suc n) m l h r = r.0

pub less : (n m l : ℕ) → ¬ (n ≡ 0) → Room n m l → Room (suc (n - 1)) m l
less zero m l h r = absurd (h refl)
less (suc n) m l h r = subst (λ (k : ℕ). Room (suc k) m l) (sym (sub-one (suc n))) r

pub inner : (n m l : ℕ) → Room (suc n) m l → Room n m (l - m)
unfolding Room
inner n m l r = r.1

-- n times the memory is room for n nestings
room_of : (n m l : ℕ) → n * m ≤ l → Room n m l
unfolding Room
room_of zero m l h = tt
room_of (suc n) m l h = let k : n * m + m ≤ l = subst (λ (x : ℕ). x ≤ l) (suc-mul n m) h in (omega (arith, k), room_of n m (l - m) (omega (arith, k)))

-- sixteen times the memory is room for the table maker's own copy and one at each of eight nestings
pub room_eight : (m l : ℕ) → 16 * m ≤ l → Room 8 m (l - m)
room_eight m l h = room_of 8 m (l - m) (omega (arith, h))

-- after the first m of l words there is room for one nesting less
pub deeper : (n m l r : ℕ) → ¬ (n ≡ 0) → Room n m l → r + m ≡ l → Room (n - 1) m r
deeper n m l r h f e = as_long (n - 1) m (l - m) m r refl (omega (arith, e)) (inner (n - 1) m l (less n m l h f))
