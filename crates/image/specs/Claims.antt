-- The laws of images: what load refuses and answers, and that it reads back what save writes.
use Rattle.std.specs.Prelude.{ℕ, ◌+◌, ◌*◌, ◌<◌, ◌≤◌, ◌≡◌, ◌≢◌, true, false, List, [], ◌∷◌, ◌++◌, pos, negsuc, length, get_or, take, drop}
use Rattle.std.specs.Int.{w64}
use Rattle.std.proofs.Common.{SFits}
use Rattle.word.specs.Lists.{same}
use Rattle.step.specs.Table.{table_words}
use Rattle.step.specs.Sizes.{is_enough}
use Rattle.machine.specs.declared.Record.{Record}
use Rattle.machine.specs.Machine.{status_of, positioned, zeros, Machine, machine_of, State, state_of, wrong_sizes}
use Rattle.image.specs.declared.kinds.Kind.{Kind}
use Rattle.image.specs.Format.{qrm1, qrm2, kinds, newest, kind_by, back_of, trailer_bytes, kept, kept_in, image, last_bytes}
use Rattle.image.specs.Load.{max_file, LoadPromise, preface_of}
use Rattle.image.specs.Save.{SaveBounds, SavePromise}

-- ---- the kinds

-- Claim: the back of the first kind is 4 M + 36 N + 92, and that of the second 8 more
pub record Backs : Type 0 where
  pub first : (r : Record) → back_of qrm1 r ≡ 4 * r.m + 36 * r.n + 92
  pub second : (r : Record) → back_of qrm2 r ≡ 4 * r.m + 36 * r.n + 100

-- a row of the table: its four last bytes find it, and it has no more words than the newest
pub record Row (kind : Kind) : Type 0 where
  pub four : length kind.last ≡ 4
  pub found : kind_by kinds kind.last ≡ kind
  pub within : kind.more ≤ newest.more

-- Claim: every kind of the table is such a row
abbrev pub KindsFound : Type 0
KindsFound = (i : ℕ) → i < length kinds → Row (get_or kinds i newest)

-- Claim: both kinds are such rows, by name
pub record TakesBoth : Type 0 where
  pub first : Row qrm1
  pub second : Row qrm2

-- Claim: the newest kind has all of a record, and the first all but the position, which is then 0
pub record Keeps : Type 0 where
  pub newest : (r : Record) → SFits w64 r.position → kept newest r ≡ r
  pub first : (r : Record) → kept qrm1 r ≡ positioned r (pos 0)

-- Claim: of zeros except for position -2, save's trailer ends in these 12 bytes: the position's 64 bits, low word first, and QRM2
abbrev pub PositionBytes : Type 0
PositionBytes =
    last_bytes 12 (trailer_bytes newest (positioned zeros (negsuc 1)))
    ≡ 0xFE ∷ 0xFF ∷ 0xFF ∷ 0xFF ∷ 0xFF ∷ 0xFF ∷ 0xFF ∷ 0xFF ∷ 0x51 ∷ 0x52 ∷ 0x4D ∷ 0x32 ∷ []

-- ---- what load answers

-- every load of the file s is refused by n
abbrev pub RefusedBy : ℕ → List ℕ → Type 0
RefusedBy n s = (a b : List ℕ) (k : ℕ) (x : Machine) → LoadPromise s a b k x → k ≡ n

-- Claim: 1 comes first, for any end; then 2, for an end of neither kind; then 1 again, for the second kind under 100 bytes
pub record LoadOrder : Type 0 where
  pub under : (s : List ℕ) → length s < 92 → RefusedBy 1 s
  pub over : (s : List ℕ) → 65536 < length s → RefusedBy 1 s
  pub neither : (s : List ℕ) → 92 ≤ length s → length s ≤ 65536 → same (last_bytes 4 s) qrm1.last ≡ false → same (last_bytes 4 s) qrm2.last ≡ false
      → RefusedBy 2 s
  pub cut : (s : List ℕ) → last_bytes 4 s ≡ qrm2.last → length s < 100 → RefusedBy 1 s

-- Claim: of a file of the first kind, whatever else is in it, a load answers position 0, accepted or refused
abbrev pub OldPosition : Type 0
OldPosition = (s a b : List ℕ) (n : ℕ) (x : Machine) → LoadPromise s a b n x → last_bytes 4 s ≡ qrm1.last → x.state.position ≡ pos 0

-- Claim: a refused load answers a record of zeros, and leaves the lent words as they were
abbrev pub RefusedLoads : Type 0
RefusedLoads = (s a b : List ℕ) (n : ℕ) (x : Machine) → LoadPromise s a b n x → n ≢ 0 → x ≡ machine_of zeros a b

-- Claim: what an accepted load leaves is of right sizes: with room, save accepts it
abbrev pub LoadedSaves : Type 0
LoadedSaves = (s a b : List ℕ) (n : ℕ) (x : Machine) → LoadPromise s a b n x → n ≡ 0 → wrong_sizes x ≡ false

-- ---- what a file is read as

-- the state s in lent words a and b, and after it what they had there
abbrev pub restored : State → List ℕ → List ℕ → Machine
restored s a b = machine_of s.state (s.words ++ drop s.state.m a) (s.links ++ drop (table_words s.state.n) b)

-- The preface of the file f is p, and every load of it into lent words that are enough restores s.
pub record ReadsAs (f p : List ℕ) (s : State) : Type 0 where
  pub preface : preface_of f ≡ p
  pub load : (a b : List ℕ) (n : ℕ) (x : Machine) → LoadPromise f a b n x → is_enough (status_of s.state) (length a) (length b) ≡ true
      → (n ≡ 0) × (x ≡ restored s a b)

-- ---- an image of any kind

-- a machine that save does not refuse by 10
pub record Savable (x : Machine) : Type 0 where
  pub sizes : wrong_sizes x ≡ false
  pub bounds : SaveBounds x

-- Claim: it is back bytes long
abbrev pub ImageLength : Type 0
ImageLength = (kind : Kind) (x : Machine) → Row kind → Savable x → length (image kind (state_of x)) ≡ back_of kind x.state

-- Claim: after any preface p with which the file is not too long, it is read as p and its state, as far as its kind has it
abbrev pub ImageLoads : Type 0
ImageLoads =
    (kind : Kind) (x : Machine) (p : List ℕ) → Row kind → Savable x → length p + back_of kind x.state ≤ max_file
    → ReadsAs (p ++ image kind (state_of x)) p (kept_in kind (state_of x))

-- ---- what save wrote

-- Claim: a save of right sizes with room for back bytes is accepted
abbrev pub SaveAccepts : Type 0
SaveAccepts =
    (x : Machine) (out : List ℕ) (a : ℕ) (out' : List ℕ) → SavePromise x out a out' → wrong_sizes x ≡ false → back_of newest x.state ≤ length out
    → a ≡ 0

-- Claim: what an accepted save wrote is not too long, and after any preface p with which the file is not, it is read as p and
-- the state that was saved
abbrev pub SavedLoads : Type 0
SavedLoads =
    (x : Machine) (out out' : List ℕ) → SavePromise x out 0 out'
    → (let back = back_of newest x.state in
    (back ≤ max_file) × ((p : List ℕ) → length p + back ≤ max_file → ReadsAs (p ++ take back out') p (state_of x)))
