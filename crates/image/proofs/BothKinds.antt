-- Both kinds of image: the bytes of a position, what load refuses first, and the position of the first kind. Assumes nothing.
use Prim.Native.Nat.{ℕ, ◌*◌, ◌<◌, ◌≤◌}
use mathlib.Core.Path.{◌≡◌, refl, ap, ◌∙◌}
use mathlib.Core.Bool.{Bool, true, false}
use mathlib.Core.List.{List}
use native.Mathlib.Omega.{arith}
use lib.Dec.{eqb}
use lib.IntN.{pos}
use lib.ListN.{length, take, drop_of_length-le}
use Rattle.std.proofs.lemmas.List.{length-take}
use borrow.Author.Tests.{lt-ltb, le-leb, lt-leb}
use Rattle.word.specs.Word.{pick}
use Rattle.word.specs.Lists.{same}
use Rattle.word.specs.Refusal.{refuse}
use Rattle.word.proofs.Lists.{same_self}
use Rattle.word.proofs.Refusal.{refuse_true, refuse_false}
use Rattle.machine.specs.Machine.{zeros, Machine, machine_of}
use Rattle.image.specs.Format.{bytes_of, word_at, qrm1, qrm2, kinds, kind_by, trailer_length, trailer_bytes, record_in, last_bytes, kind_of, state_in, trailer_of}
use Rattle.image.specs.Load.{bad_length, file_refusal, load_refusal, read_in}
use Rattle.image.specs.Claims.{PositionBytes, RefusedBy, LoadOrder, OldPosition}
use Rattle.image.proofs.RoundTrip.{takes_both}

pub position_bytes : PositionBytes
unfolding trailer_bytes bytes_of
position_bytes = refl

-- ---- the order of load's refusals

-- a file's refusal is the load's
file_refused : (n : ℕ) (s : List ℕ) → eqb n 0 ≡ false → file_refusal (trailer_of s) s ≡ n → RefusedBy n s
unfolding load_refusal refuse
file_refused n s z h a b k x p = p.refusal ∙ rw (h, z)

under : (s : List ℕ) → length s < 92 → file_refusal (trailer_of s) s ≡ 1
unfolding file_refusal refuse
under s h = rw (lt-leb 92 (length s) h)

over : (s : List ℕ) → 65536 < length s → file_refusal (trailer_of s) s ≡ 1
unfolding file_refusal refuse
over s h = rw (le-leb 92 (length s) (omega arith), lt-leb (length s) 65536 h)

neither : (s : List ℕ) → 92 ≤ length s → length s ≤ 65536 → same (last_bytes 4 s) qrm1.last ≡ false → same (last_bytes 4 s) qrm2.last ≡ false
    → file_refusal (trailer_of s) s ≡ 2
unfolding file_refusal kind_by refuse
neither s h k e f =
    let o : kind_of s ≡ qrm1 = rw (f, e) in
    rw (o, le-leb 92 (length s) h, le-leb (length s) 65536 k, e)

either : (b : Bool) (n : ℕ) → n ≡ 1 → refuse b 1 n ≡ 1
unfolding refuse
either true n e = refl
either false n e = e

cut : (s : List ℕ) → last_bytes 4 s ≡ qrm2.last → length s < 100 → file_refusal (trailer_of s) s ≡ 1
unfolding file_refusal
cut s e h =
    let k : kind_of s ≡ qrm2 = ap (kind_by kinds) e ∙ takes_both.second.found in
    either (bad_length s) _ (rw (k, e) (refuse_false _ 2 _ (rw (same_self qrm2.last)) ∙ refuse_true _ 1 _ (lt-ltb (length s) (trailer_length qrm2) (omega arith))))

pub load_order : LoadOrder
load_order =
    record {
      under = λ s h. file_refused 1 s refl (under s h);
      over = λ s h. file_refused 1 s refl (over s h);
      neither = λ s h k e f. file_refused 2 s refl (neither s h k e f);
      cut = λ s e h. file_refused 1 s refl (cut s e h);
    }

-- ---- the position of the first kind

-- a word after the first kind's 22 is 0
word_lacking : (s : List ℕ) (i : ℕ) → 22 ≤ i → word_at (take 88 s) i ≡ 0
unfolding word_at
word_lacking s i h = rw (drop_of_length-le (take 88 s) {i = 4 * i} (omega (arith, length-take 88 s)))

position_lacking : (s : List ℕ) → last_bytes 4 s ≡ qrm1.last → (state_in s).position ≡ pos 0
unfolding record_in
position_lacking s e =
    let k : kind_of s ≡ qrm1 = ap (kind_by kinds) e ∙ takes_both.first.found in
    rw (k, word_lacking (last_bytes 92 s) 22 (omega arith), word_lacking (last_bytes 92 s) 23 (omega arith))

-- accepted or refused
either_zero : (t : Bool) (x y : Machine) → x.state.position ≡ pos 0 → y.state.position ≡ pos 0 → (pick t x y).state.position ≡ pos 0
either_zero true x y e f = e
either_zero false x y e f = f

pub old_position : OldPosition
old_position s a b n x p e =
    ap (λ (y : Machine). y.state.position) p.machine
    ∙ either_zero (eqb (load_refusal (trailer_of s) s a b) 0) (read_in (trailer_of s) s a b) (machine_of zeros a b) (position_lacking s e) refl
