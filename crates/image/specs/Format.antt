-- An image (document 01, "Image"; document 02, #104): M memory words, 9 N table words and a trailer, as little-endian bytes.
-- Writing and reading both go by this file, and over the kinds of image.
use Rattle.std.specs.Prelude.{ℕ, zero, suc, ◌+◌, ◌-◌, ◌*◌, ◌/◌, ◌%◌, ◌^◌, List, [], ◌∷◌, ◌++◌, ℤ, length, get_or, take, drop}
use Rattle.std.specs.Int.{w64}
use Rattle.std.proofs.Common.{of_z, to_z}
use Rattle.word.specs.Word.{pick}
use Rattle.word.specs.Lists.{same}
use Rattle.step.specs.Table.{table_words}
use Rattle.step.specs.View.{sized, with_node}
use Rattle.machine.specs.declared.Record.{Record}
use Rattle.machine.specs.Machine.{new_record, positioned, State}
use Rattle.image.specs.declared.kinds.Kind.{Kind}
use Rattle.image.specs.declared.trailer.Trailer.{Trailer}

-- ---- words as bytes

-- the four bytes of a word, lowest first
abbrev pub word_bytes : ℕ → List ℕ
word_bytes w = w % 256 ∷ w / 256 % 256 ∷ w / 65536 % 256 ∷ w / 16777216 % 256 ∷ []

unfoldable pub bytes_of : List ℕ → List ℕ
bytes_of [] = []
bytes_of (w ∷ ws) = word_bytes w ++ bytes_of ws

-- the word in the first four bytes; a missing byte is 0
abbrev pub first_word : List ℕ → ℕ
first_word s = get_or s 0 0 + 256 * (get_or s 1 0 + 256 * (get_or s 2 0 + 256 * get_or s 3 0))

-- word i of the bytes s
unfoldable pub word_at : List ℕ → ℕ → ℕ
word_at s i = first_word (drop (4 * i) s)

-- the first n words of the bytes s
unfoldable pub words_of : ℕ → List ℕ → List ℕ
words_of zero s = []
words_of (suc n) s = words_of n s ++ (word_at s n ∷ [])

-- ---- kinds of image: each has its last four bytes, and so many words more before them than the first kind

abbrev pub qrm1 : Kind
qrm1 = record { last = 0x51 ∷ 0x52 ∷ 0x4D ∷ 0x31 ∷ []; more = 0 }

-- with the position
abbrev pub qrm2 : Kind
qrm2 = record { last = 0x51 ∷ 0x52 ∷ 0x4D ∷ 0x32 ∷ []; more = 2 }

-- newest first: save writes the newest, load takes all
abbrev pub kinds : List Kind
kinds = qrm2 ∷ qrm1 ∷ []

abbrev pub newest : Kind
newest = qrm2

abbrev pub oldest : Kind
oldest = qrm1

-- the first of the kinds ks with the last bytes l, the oldest where there is none
unfoldable pub kind_by : List Kind → List ℕ → Kind
kind_by [] l = oldest
kind_by (kind ∷ ks) l = pick (same l kind.last) kind (kind_by ks l)

-- ---- the trailer: words, and the last four bytes

-- where its words stand: back, M, K, N, the registers, qifv, qifw, and those that a kind has more
abbrev pub back_at : ℕ
back_at = 0

abbrev pub m_at : ℕ
m_at = 1

abbrev pub k_at : ℕ
k_at = 2

abbrev pub n_at : ℕ
n_at = 3

abbrev pub regs_at : ℕ
regs_at = 4

abbrev pub qifv_at : ℕ
qifv_at = regs_at + 16

abbrev pub qifw_at : ℕ
qifw_at = qifv_at + 1

abbrev pub more_at : ℕ
more_at = qifw_at + 1

abbrev pub position_at : ℕ
position_at = more_at

-- how many words, and its length in bytes: 92 for the first kind
abbrev pub word_count : Kind → ℕ
word_count kind = more_at + kind.more

abbrev pub trailer_length : Kind → ℕ
trailer_length kind = 4 * word_count kind + 4

-- from the file's end to the first memory byte
abbrev pub back_of : Kind → Record → ℕ
back_of kind r = 4 * r.m + 4 * table_words r.n + trailer_length kind

-- a position's 64 bits, in two's complement, as two words, low first; and the position of two words
abbrev pub position_words : ℤ → List ℕ
position_words p = of_z w64 p % 2 ^ 32 ∷ of_z w64 p / 2 ^ 32 ∷ []

abbrev pub position_of : ℕ → ℕ → ℤ
position_of low high = to_z w64 (low + 2 ^ 32 * high)

-- what newer kinds have more, in their order, and what a kind has of it
abbrev pub further : Record → List ℕ
further r = position_words r.position

abbrev pub more_words : Kind → Record → List ℕ
more_words kind r = take kind.more (further r)

-- the words after the registers, and all words
abbrev pub tail_words : Kind → Record → List ℕ
tail_words kind r = r.qifv ∷ r.qifw ∷ more_words kind r

abbrev pub trailer_words : Kind → Record → List ℕ
trailer_words kind r = back_of kind r ∷ r.m ∷ r.k ∷ r.n ∷ r.regs ++ tail_words kind r

unfoldable pub trailer_bytes : Kind → Record → List ℕ
trailer_bytes kind r = bytes_of (trailer_words kind r) ++ kind.last

-- read back from the bytes t of the words, where a word that its kind lacks is 0
unfoldable pub record_in : List ℕ → Record
record_in t =
    let sizes = sized (word_at t k_at) (word_at t m_at) (word_at t n_at) in
    let at = with_node sizes (word_at t qifv_at) (word_at t qifw_at) in
    positioned (new_record at (words_of 16 (drop (4 * regs_at) t))) (position_of (word_at t position_at) (word_at t (position_at + 1)))

-- r as an image of the kind has it, where a word that it lacks is 0
abbrev pub kept : Kind → Record → Record
kept kind r =
    let l = more_words kind r in
    positioned r (position_of (get_or l 0 0) (get_or l 1 0))

-- ---- the image

-- of a state: M memory words, 9 N table words and the trailer
abbrev pub image : Kind → State → List ℕ
image kind s = bytes_of s.words ++ (bytes_of s.links ++ trailer_bytes kind s.state)

-- and the state that it has
abbrev pub kept_in : Kind → State → State
kept_in kind s = record { state = kept kind s.state; words = s.words; links = s.links }

-- ---- in a file s, with whatever before the image

-- the last n bytes, all where there are fewer
abbrev pub last_bytes : ℕ → List ℕ → List ℕ
last_bytes n s = drop (length s - n) s

abbrev pub kind_of : List ℕ → Kind
kind_of s = kind_by kinds (last_bytes 4 s)

-- the bytes of the trailer's words
abbrev pub trailer_in : List ℕ → List ℕ
trailer_in s = take (4 * word_count (kind_of s)) (last_bytes (trailer_length (kind_of s)) s)

abbrev pub state_in : List ℕ → Record
state_in s = record_in (trailer_in s)

-- what the trailer says
abbrev pub trailer_of : List ℕ → Trailer
trailer_of s = record { kind = kind_of s; back = word_at (trailer_in s) back_at; state = state_in s }
