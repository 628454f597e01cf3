-- Load reads back what save writes, after any preface, and leaves what can be saved. Assumes nothing.
use mathlib.Core.Path.{◌≡◌, refl, sym, ap, ◌∙◌, subst}
use mathlib.Core.Bool.{true}
use mathlib.Core.List.{List, ◌∷◌, ◌++◌, append_assoc}
use Prim.Native.Nat.{ℕ, zero, suc, ◌+◌, ◌-◌, ◌*◌, ◌≤◌}
use native.Mathlib.Omega.{arith}
use lib.Dec.{leb}
use lib.ListN.{length, get_or, take, drop, length-append}
use lib.Seq.{take_at, take_all, drop_at, length-take-le, get_or-append-add}
use borrow.Author.Tests.{le-ltb, le-leb, eq-eqb, ne_eqb}
use Rattle.word.specs.Lists.{same}
use Rattle.word.specs.Refusal.{refuse}
use Rattle.word.proofs.Lists.{same_self}
use Rattle.word.proofs.Bits.{joined}
use Rattle.step.specs.View.{Words}
use Rattle.step.specs.Table.{table_words}
use Rattle.step.specs.Sizes.{is_enough, bad_sizes}
use Rattle.machine.specs.declared.Record.{Record}
use Rattle.machine.specs.Machine.{status_of, positioned, Machine, State, state_of}
use Rattle.image.specs.declared.kinds.Kind.{Kind}
use Rattle.image.specs.Format.{bytes_of, word_at, words_of, kinds, newest, oldest, kind_by, back_at, m_at, k_at, n_at, regs_at, qifv_at, qifw_at, position_at, word_count, trailer_length, back_of, further, tail_words, trailer_words, trailer_bytes, record_in, kept, kept_in, image, last_bytes, kind_of, trailer_in, state_in, trailer_of}
use Rattle.image.specs.Load.{max_file, file_refusal, load_refusal, image_in, filled, LoadPromise, preface_of}
use Rattle.image.specs.Claims.{Backs, Row, KindsFound, TakesBoth, Keeps, restored, ReadsAs, Savable, ImageLength, ImageLoads, RefusedLoads, LoadedSaves, SaveAccepts, SavedLoads}
use Rattle.image.proofs.Bytes.{length_bytes, length_words, bytes_append, read_back, words_back}
use Rattle.machine.proofs.Given.{words_take}
use Rattle.image.proofs.Given.{words_cons, words_append}
use Rattle.step.proofs.BadSizes.{RightSizes}
use Rattle.machine.proofs.WrongSizes.{wrong_sizes_right}
use Rattle.image.proofs.Accepted.{load_accepted, save_accepted}

-- ---- lists

-- n words written read back, whatever follows them
all_back : (ws s : List ℕ) {n : ℕ} → length ws ≡ n → Words ws → words_of n (bytes_of ws ++ s) ≡ ws
all_back ws s {n} h k = words_back ws s n (omega arith) k ∙ take_all n ws (omega arith)

last_behind : (p q : List ℕ) (n : ℕ) → length q ≡ n → last_bytes n (p ++ q) ≡ q
last_behind p q n h = drop_at p q (length (p ++ q) - n) (simp length-append (omega arith))

-- n words filled are n
filled_long : (n : ℕ) (bytes words : List ℕ) → leb n (length (take n (filled n bytes words))) ≡ true
filled_long n bytes words =
    let e = length_words n bytes in
    rw (take_at (words_of n bytes) (drop n words) n e, e) (le-leb n n (omega arith))

-- ---- an image of any kind

module _ (kind : Kind) (x : Machine) (row : Row kind) (v : Savable x) where
  abbrev r : Record
  r = x.state

  abbrev s : State
  s = state_of x

  abbrev sizes : RightSizes (status_of x.state) x.memory x.table
  sizes = wrong_sizes_right x v.sizes

  abbrev tail : List ℕ
  tail = tail_words kind r

  words_long : length (trailer_words kind r) ≡ word_count kind
  words_long =
      let e = length-take-le kind.more (further r) row.within in
      simp (length-append, v.bounds.turn.view.sixteen, e) (omega arith)

  words_bytes_long : length (bytes_of (trailer_words kind r)) ≡ 4 * word_count kind
  words_bytes_long = length_bytes (trailer_words kind r) ∙ ap (λ (n : ℕ). 4 * n) words_long

  trailer_long : length (trailer_bytes kind r) ≡ trailer_length kind
  unfolding trailer_bytes
  trailer_long = length-append (bytes_of (trailer_words kind r)) kind.last ∙ rw (words_bytes_long, row.four)

  pub image_length : length (image kind s) ≡ back_of kind r
  image_length =
      let z = sizes in
      simp (length-append, length_bytes, trailer_long, length-take-le r.m x.memory z.memory, length-take-le (table_words r.n) x.table z.links) (omega arith)

  -- ---- after a preface

  module _ (p : List ℕ) (h : length p + back_of kind r ≤ max_file) where
    -- the trailer's words read back

    words_fit : Words (trailer_words kind r)
    words_fit =
        let z = sizes in
        let more = words_take kind.more (further r) (λ a. v.bounds.tail (suc (suc a))) in
        let e = words_cons r.qifv (r.qifw ∷ take kind.more (further r)) (v.bounds.tail 0) (words_cons r.qifw (take kind.more (further r)) (v.bounds.tail 1) more) in
        let a = words_append r.regs tail v.bounds.turn.view.regs e in
        let b = words_cons r.n (r.regs ++ tail) (omega (arith, z.nodes)) a in
        let c = words_cons r.k (r.n ∷ r.regs ++ tail) (omega (arith, z.code, z.words)) b in
        let d = words_cons r.m (r.k ∷ r.n ∷ r.regs ++ tail) (omega (arith, z.words)) c in
        words_cons (back_of kind r) (r.m ∷ r.k ∷ r.n ∷ r.regs ++ tail) (omega arith) d

    abbrev t : List ℕ
    t = bytes_of (trailer_words kind r)

    word_back : (i : ℕ) → word_at t i ≡ get_or (trailer_words kind r) i 0
    word_back i = read_back (trailer_words kind r) i words_fit

    regs_back : words_of 16 (drop (4 * regs_at) t) ≡ r.regs
    unfolding bytes_of
    regs_back =
        rw (bytes_append r.regs tail) (all_back r.regs (bytes_of tail) v.bounds.turn.view.sixteen v.bounds.turn.view.regs)

    -- word j after the registers
    tail_back : (j : ℕ) → get_or (r.regs ++ tail) (16 + j) 0 ≡ get_or tail j 0
    tail_back j = ap (λ (n : ℕ). get_or (r.regs ++ tail) (n + j) 0) (sym v.bounds.turn.view.sixteen) ∙ get_or-append-add r.regs tail j 0

    record_back : record_in t ≡ kept kind r
    unfolding record_in
    record_back =
        rw (regs_back, word_back qifv_at ∙ tail_back 0, word_back qifw_at ∙ tail_back 1, word_back m_at, word_back k_at, word_back n_at, word_back position_at ∙ tail_back 2, word_back (position_at + 1) ∙ tail_back 3)

    -- what load finds

    abbrev file : List ℕ
    file = p ++ image kind s

    abbrev front : List ℕ
    front = p ++ (bytes_of s.words ++ bytes_of s.links)

    file_long : length file ≡ length p + back_of kind r
    file_long = length-append p (image kind s) ∙ (rw image_length)

    trailer_last : file ≡ front ++ trailer_bytes kind r
    trailer_last = simp append_assoc

    bytes_last : last_bytes 4 file ≡ kind.last
    unfolding trailer_bytes
    bytes_last =
        let e : file ≡ (front ++ t) ++ kind.last = trailer_last ∙ sym (append_assoc front t kind.last) in
        ap (last_bytes 4) e ∙ last_behind (front ++ t) kind.last 4 row.four

    kind_found : kind_of file ≡ kind
    kind_found = ap (kind_by kinds) bytes_last ∙ row.found

    trailer_found : trailer_in file ≡ t
    unfolding trailer_bytes
    trailer_found =
        rw kind_found
        (ap (take (4 * word_count kind)) (ap (last_bytes (trailer_length kind)) trailer_last ∙ last_behind front (trailer_bytes kind r) (trailer_length kind) trailer_long)
        ∙ take_at t kind.last (4 * word_count kind) words_bytes_long)

    state_found : state_in file ≡ kept kind r
    state_found = ap record_in trailer_found ∙ record_back

    image_found : last_bytes (back_of kind r) file ≡ image kind s
    image_found = last_behind p (image kind s) (back_of kind r) image_length

    file_passes : file_refusal (trailer_of file) file ≡ 0
    unfolding file_refusal refuse
    file_passes =
        let n = file_long in
        rw (state_found, trailer_found, kind_found, bytes_last, same_self kind.last, sizes.range, le-ltb (length file) (trailer_length kind) (omega arith), eq-eqb (word_at t back_at) (back_of kind r) (word_back back_at), le-leb (trailer_length oldest) (length file) (omega arith), le-leb (length file) max_file (omega arith), le-ltb (length file) (back_of kind r) (omega arith))

    preface_found : preface_of file ≡ p
    preface_found =
        rw (file_passes, state_found, kind_found) (take_at p (image kind s) (length file - back_of kind r) (omega (arith, file_long)))

    module _ {a b : List ℕ} {n : ℕ} {y : Machine} (l : LoadPromise file a b n y) (e : is_enough (status_of r) (length a) (length b) ≡ true) where
      load_passes : load_refusal (trailer_of file) file a b ≡ 0
      unfolding load_refusal refuse
      load_passes = rw (file_passes, state_found, e)

      memory_back : words_of r.m (image kind s) ≡ s.words
      memory_back = all_back s.words (bytes_of s.links ++ trailer_bytes kind r) (length-take-le r.m x.memory sizes.memory) v.bounds.turn.view.words

      links_back : words_of (table_words r.n) (drop (4 * r.m) (image kind s)) ≡ s.links
      links_back =
          let n = length-take-le r.m x.memory sizes.memory in
          rw (drop_at (bytes_of s.words) (bytes_of s.links ++ trailer_bytes kind r) (4 * r.m) (length_bytes s.words ∙ rw n))
          (all_back s.links (trailer_bytes kind r) (length-take-le (table_words r.n) x.table sizes.links) v.bounds.links)

      is_restored : (n ≡ 0) × (y ≡ restored (kept_in kind s) a b)
      is_restored =
          (l.refusal ∙ load_passes, l.machine ∙ rw (load_passes, state_found, kind_found, image_found, memory_back, links_back))

    pub reads_back : ReadsAs file p (kept_in kind s)
    reads_back = record { preface = preface_found; load = λ a b n y l e. is_restored l e }

-- ---- the claims

pub backs : Backs
backs = record { first = λ r. omega arith; second = λ r. omega arith }

pub keeps : Keeps
keeps = record { newest = λ r f. ap (positioned r) (joined r.position f); first = λ r. refl }

pub takes_both : TakesBoth
unfolding kind_by same
takes_both =
    record {
      first = record { four = refl; found = refl; within = omega arith };
      second = record { four = refl; found = refl; within = omega arith };
    }

pub kinds_found : KindsFound
kinds_found zero h = takes_both.second
kinds_found (suc zero) h = takes_both.first
kinds_found (suc (suc i)) h = absurd (omega (arith, h))

pub image_long : ImageLength
image_long = image_length

pub image_loads : ImageLoads
image_loads kind x p row v h = reads_back kind x row v p h

pub save_accepts : SaveAccepts
unfolding refuse
save_accepts x out a out' s w h = s.decided.answer ∙ rw (w, le-ltb (length out) (back_of newest x.state) h)

pub saved_loads : SavedLoads
saved_loads x out out' s =
    let a = save_accepted s.decided in
    let z = a.sizes in
    let v : Savable x = record { sizes = a.right; bounds = s.decided.bounds } in
    let row = takes_both.second in
    let b = back_of newest x.state in
    let i = image newest (state_of x) in
    let e : take b out' ≡ i = ap (take b) (s.output ∙ rw (sym s.decided.answer)) ∙ take_at i (drop b out) b (image_length newest x row v) in (
      omega arith,
      λ p h. rw e
          (subst (λ (r : Record). ReadsAs (p ++ i) p (record { state = r; words = (state_of x).words; links = (state_of x).links })) (keeps.newest x.state v.bounds.turn.position)
          (reads_back newest x row v p h)),
    )

pub refused_loads : RefusedLoads
refused_loads s a b n x p h = p.machine ∙ rw (← p.refusal, ne_eqb n 0 h)

pub loaded_saves : LoadedSaves
unfolding bad_sizes
loaded_saves s a b n x p z =
    let t = trailer_of s in
    let f : load_refusal t s a b ≡ 0 = sym p.refusal ∙ z in
    let g = load_accepted t s a b f in
    rw (p.machine, f, g.passed.range, filled_long t.state.m (image_in t s) a, filled_long (table_words t.state.n) (drop (4 * t.state.m) (image_in t s)) b)
