-- Words as bytes: lengths, one word more, and reading what was written. Assumes nothing.
use mathlib.Core.Path.{◌≡◌, refl, sym, ap, ◌∙◌}
use mathlib.Core.List.{List, [], ◌∷◌, ◌++◌, append_assoc}
use Prim.Native.Nat.{ℕ, zero, suc, ◌+◌, ◌-◌, ◌*◌, ◌/◌, ◌%◌, ◌^◌, ◌<◌, ◌≤◌}
use native.Mathlib.Omega.{arith}
use native.Mathlib.Nat.{add-zero}
use native.Mathlib.Numerals.{add-one}
use lib.ListN.{length, get_or, set, take, drop, length-append, drop_of_length-le, get_or-append}
use lib.Seq.{set_at, drop-cons, take-suc, length-take-le, get_or-drop}
use borrow.Rule.Slice.PartMut.{mid_of, put_mid}
use Rattle.std.proofs.lemmas.Nat.{from_le_bytes-to_le_bytes_4}
use Rattle.step.specs.View.{Words}
use Rattle.image.specs.Format.{word_bytes, bytes_of, word_at, words_of}
use Rattle.image.proofs.Parts.{behind, put_front}

-- ---- lengths

pub length_bytes : (ws : List ℕ) → length (bytes_of ws) ≡ 4 * length ws
unfolding bytes_of
length_bytes [] = refl
length_bytes (w ∷ ws) = let e = length_bytes ws in omega arith

pub length_words : (n : ℕ) (s : List ℕ) → length (words_of n s) ≡ n
unfolding words_of
length_words zero s = refl
length_words (suc n) s = let e = length_words n s in simp length-append (omega arith)

pub bytes_append : (a b : List ℕ) → bytes_of (a ++ b) ≡ bytes_of a ++ bytes_of b
unfolding bytes_of
bytes_append [] b = refl
bytes_append (w ∷ a) b = ap (λ (l : List ℕ). word_bytes w ++ l) (bytes_append a b)

-- ---- one word more

pub read_step : (s d : List ℕ) (i : ℕ) → i < length d → set (words_of i s ++ drop i d) i (word_at s i) ≡ words_of (i + 1) s ++ drop (i + 1) d
unfolding words_of
read_step s d i h =
    rw (add-one i, drop-cons d i 0) (set_at (words_of i s) _ _ (word_at s i) i (length_words i s) ∙ sym (append_assoc (words_of i s) (word_at s i ∷ []) (drop (suc i) d)))

pub write_step : (ws out l : List ℕ) (i : ℕ) → i < length ws → l ≡ bytes_of (take i ws) ++ drop (4 * i) out
    → put_mid (4 * i) (4 * i + 4 - 4 * i) l (word_bytes (get_or ws i 0)) ≡ bytes_of (take (i + 1) ws) ++ drop (4 * (i + 1)) out
unfolding bytes_of
write_step ws out l i h e =
    let front : length (bytes_of (take i ws)) ≡ 4 * i = length_bytes (take i ws) ∙ ap (λ (n : ℕ). 4 * n) (length-take-le i ws (omega arith)) in
    let f : 4 * (i + 1) ≡ 4 * i + 4 = omega arith in
    let w = word_bytes (get_or ws i 0) in
    put_front (4 * i) 4 l w
    ∙ behind (bytes_of (take i ws)) w out l (w ++ drop 4 (mid_of (4 * i) (length l - 4 * i) l)) (4 * i) 4 front e refl
    ∙ rw (f, add-one i, take-suc ws i 0 h, bytes_append)

-- ---- a word read

pub word_bytes_lem : (s : List ℕ) (i : ℕ)
    → word_at s i ≡ get_or s (4 * i) 0 + 256 * (get_or s (4 * i + 1) 0 + 256 * (get_or s (4 * i + 2) 0 + 256 * get_or s (4 * i + 3) 0))
unfolding word_at
word_bytes_lem s i = rw (get_or-drop (4 * i) s 0 0, get_or-drop (4 * i) s 1 0, get_or-drop (4 * i) s 2 0, get_or-drop (4 * i) s 3 0, add-zero (4 * i))

-- the four bytes of a word make it up
whole : (w : ℕ) → w < 2 ^ 32 → w % 256 + 256 * (w / 256 % 256 + 256 * (w / 65536 % 256 + 256 * (w / 16777216 % 256))) ≡ w
whole w h = let e = from_le_bytes-to_le_bytes_4 w h in omega arith

-- word i of written words is their element i, 0 past their end
pub read_back : (ws : List ℕ) (i : ℕ) → Words ws → word_at (bytes_of ws) i ≡ get_or ws i 0
unfolding bytes_of word_at
read_back [] i k = rw (drop_of_length-le {A = ℕ} [] {i = 4 * i} (omega arith))
read_back (w ∷ ws) zero k = whole w (k 0)
read_back (w ∷ ws) (suc i) k =
    let e : 4 * suc i ≡ suc (suc (suc (suc (4 * i)))) = omega arith in
    rw e (read_back ws i (λ a. k (suc a)))

-- a word within the bytes a is the same with more after them
word_within : (a s : List ℕ) (i : ℕ) → 4 * i + 4 ≤ length a → word_at (a ++ s) i ≡ word_at a i
word_within a s i h =
    let at : (j : ℕ) → j < 4 → get_or (a ++ s) (4 * i + j) 0 ≡ get_or a (4 * i + j) 0 = λ j g. get_or-append a s 0 (4 * i + j) (omega arith) in
    word_bytes_lem (a ++ s) i
    ∙ rw (get_or-append a s 0 (4 * i) (omega arith), at 1 (omega arith), at 2 (omega arith), at 3 (omega arith))
    (sym (word_bytes_lem a i))

pub words_back : (ws s : List ℕ) (n : ℕ) → n ≤ length ws → Words ws → words_of n (bytes_of ws ++ s) ≡ take n ws
unfolding words_of
words_back ws s zero h k = refl
words_back ws s (suc n) h k =
    rw (words_back ws s n (omega arith) k, word_within (bytes_of ws) s n (rw (length_bytes ws) (omega arith)) ∙ read_back ws n k, take-suc ws n 0 h)
