-- The trailer and the image as their writers leave them: words, words after them, and bytes after all. Assumes nothing.
use mathlib.Core.Path.{◌≡◌, refl, sym, ◌∙◌, subst}
use mathlib.Core.List.{List, [], ◌∷◌, ◌++◌, append_assoc}
use Prim.Native.Nat.{ℕ, ◌+◌, ◌-◌, ◌*◌}
use native.Mathlib.Omega.{arith}
use lib.ListN.{length, drop, length-append}
use borrow.Rule.Slice.PartMut.{mid_of, put_mid}
use Rattle.step.specs.Table.{table_words}
use Rattle.machine.specs.declared.Record.{Record}
use Rattle.image.specs.declared.kinds.Kind.{Kind}
use Rattle.image.specs.Format.{bytes_of, newest, regs_at, qifv_at, word_count, trailer_length, back_of, further, tail_words, trailer_words, trailer_bytes, image}
use Rattle.image.proofs.Bytes.{length_bytes, bytes_append}
use Rattle.image.proofs.Parts.{behind}

-- the words a stand at the front of l, and after them what out had there
abbrev pub Front : List ℕ → List ℕ → List ℕ → Type 0
Front a out l = l ≡ bytes_of a ++ drop (4 * length a) out

module _ (a out l : List ℕ) (x : ℕ) (e : x ≡ 4 * length a) (f : Front a out l) where
  -- q in the part after them
  pub bytes_behind : (q part : List ℕ) (n : ℕ) → part ≡ q ++ drop n (mid_of x (length l - x) l)
      → put_mid x (length l - x) l part ≡ (bytes_of a ++ q) ++ drop (x + n) out
  bytes_behind q part n g = behind (bytes_of a) q out l part x n (length_bytes a ∙ sym e) (rw e f) g

  -- the words b there
  pub words_behind : (b part : List ℕ) → Front b (mid_of x (length l - x) l) part → Front (a ++ b) out (put_mid x (length l - x) l part)
  words_behind b part g =
      let n : x + 4 * length b ≡ 4 * length (a ++ b) = simp length-append (omega arith) in
      bytes_behind (bytes_of b) part (4 * length b) g ∙ rw (n, bytes_append a b)

-- ---- the trailer that save writes

-- qifv and qifw, and the position after them: cited by nothing, and named in docs/PORT.md
pub tail_written : (r : Record) (out l : List ℕ) {low high : ℕ} → low ∷ high ∷ [] ≡ further r → Front (r.qifv ∷ r.qifw ∷ low ∷ high ∷ []) out l
    → Front (tail_words newest r) out l
tail_written r out l e f = subst (λ (w : List ℕ). Front (r.qifv ∷ r.qifw ∷ w) out l) e f

-- the sizes, the registers and what is after them
pub fields_written : (r : Record) (out : List ℕ) {b : ℕ} → length r.regs ≡ 16 → b ≡ back_of newest r → (l part l' part' : List ℕ)
    → (let head = b ∷ r.m ∷ r.k ∷ r.n ∷ [] in
    let tail = tail_words newest r in
    let x = 4 * regs_at in
    let y = 4 * qifv_at in
    Front head out l → Front r.regs (mid_of x (length l - x) l) part → l' ≡ put_mid x (length l - x) l part
    → Front tail (mid_of y (length l' - y) l') part' → Front (trailer_words newest r) out (put_mid y (length l' - y) l' part'))
fields_written r out {b} n e l part l' part' f g h k =
    let head = b ∷ r.m ∷ r.k ∷ r.n ∷ [] in
    let tail = tail_words newest r in
    let m : 4 * qifv_at ≡ 4 * length (head ++ r.regs) = simp n in
    words_behind (head ++ r.regs) out l' (4 * qifv_at) m (h ∙ words_behind head out l (4 * regs_at) refl f r.regs part g) tail part' k
    ∙ rw (append_assoc head r.regs tail, e)

-- and the last bytes
pub trailer_written : (r : Record) (out : List ℕ) {n : ℕ} → length r.regs ≡ 16 → n ≡ word_count newest → (l part : List ℕ)
    → Front (trailer_words newest r) out l → part ≡ newest.last ++ drop 4 (mid_of (4 * n) (length l - 4 * n) l)
    → put_mid (4 * n) (length l - 4 * n) l part ≡ trailer_bytes newest r ++ drop (trailer_length newest) out
unfolding trailer_bytes
trailer_written r out {n} s e l part f g =
    let m : 4 * n ≡ 4 * length (trailer_words newest r) = simp (length-append, s) (omega arith) in
    let k : 4 * n + 4 ≡ trailer_length newest = omega arith in
    bytes_behind (trailer_words newest r) out l (4 * n) m f newest.last part 4 g ∙ rw k

-- ---- the image

-- the M words, the 9 N words after them and the trailer after both
module _ (kind : Kind) (r : Record) (words links out : List ℕ) (hm : length words ≡ r.m) (ht : length links ≡ table_words r.n) where
  abbrev at : ℕ
  at = 4 * length words

  abbrev end : ℕ
  end = 4 * length words + 4 * length links

  pub image_written : (l part l' part' : List ℕ) → Front words out l → Front links (mid_of at (length l - at) l) part
      → l' ≡ put_mid at (length l - at) l part → part' ≡ trailer_bytes kind r ++ drop (trailer_length kind) (mid_of end (length l' - end) l')
      → put_mid end (length l' - end) l' part' ≡ image kind (record { state = r; words = words; links = links }) ++ drop (back_of kind r) out
  image_written l part l' part' e f g h =
      let n : end ≡ 4 * length (words ++ links) = simp length-append (omega arith) in
      let m : end + trailer_length kind ≡ back_of kind r = omega arith in
      bytes_behind (words ++ links) out l' end n (g ∙ words_behind words out l at refl e links part f) (trailer_bytes kind r) part' (trailer_length kind) h
      ∙ rw (m, bytes_append words links, append_assoc (bytes_of words) (bytes_of links) (trailer_bytes kind r))
