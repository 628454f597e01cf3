-- Parts of a slice as lists: the part from an index on, and what a write into it leaves. Assumes nothing.
use mathlib.Core.Path.{◌≡◌, sym, ap, ◌∙◌}
use mathlib.Core.List.{List, [], ◌++◌, append_assoc, append-nil}
use Prim.Native.Nat.{ℕ, ◌+◌, ◌-◌}
use native.Mathlib.Omega.{arith}
use lib.ListN.{length, drop, length-drop, drop_of_length-le}
use lib.Seq.{take_all, take_at, drop_at, drop-drop}
use borrow.Rule.Slice.PartMut.{mid_of, put_mid}

-- what lies from a on
pub all_left : (a : ℕ) (l : List ℕ) → mid_of a (length l - a) l ≡ drop a l
all_left a l = take_all (length l - a) (drop a l) (simp length-drop (omega arith))

pub left_long : (a : ℕ) (l : List ℕ) → length (mid_of a (length l - a) l) ≡ length l - a
left_long a l = ap length (all_left a l) ∙ length-drop a l

none_left : (a : ℕ) (l : List ℕ) → drop (length l - a) (drop a l) ≡ []
none_left a l = drop_of_length-le (drop a l) {i = length l - a} (simp length-drop (omega arith))

-- q written at the front of the part from a on, after p
pub behind : (p q out l part : List ℕ) (a n : ℕ) → length p ≡ a → l ≡ p ++ drop a out
    → part ≡ q ++ drop n (mid_of a (length l - a) l)
    → put_mid a (length l - a) l part ≡ (p ++ q) ++ drop (a + n) out
behind p q out l part a n h e f =
    let m : mid_of a (length l - a) l ≡ drop a out = all_left a l ∙ ap (drop a) e ∙ drop_at p (drop a out) a h in
    rw (none_left a l, f, m, e, take_at p (drop a out) a h, drop-drop n a out, append-nil)
    (sym (append_assoc p q (drop (a + n) out)))

-- q of k bytes put from x on is q put at the front of the part from x on
pub put_front : (x k : ℕ) (l q : List ℕ) → put_mid x (x + k - x) l q ≡ put_mid x (length l - x) l (q ++ drop k (mid_of x (length l - x) l))
put_front x k l q = let e : x + k - x ≡ k = omega arith in rw (e, none_left x l, all_left x l, append-nil)
