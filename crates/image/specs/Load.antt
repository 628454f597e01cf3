-- Load and preface (document 01, "Image"; document 02, #104), of a file s whose trailer says t.
use Rattle.std.specs.Prelude.{ℕ, ◌-◌, ◌*◌, ◌≡◌, Bool, not, ◌&&◌, List, [], ◌++◌, eqb, ltb, leb, length, take, drop, Result, Ok, Err}
use Rattle.word.specs.Word.{pick}
use Rattle.word.specs.Lists.{same}
use Rattle.word.specs.declared.refusals.Refusal.{Refusal}
use Rattle.word.specs.Refusal.{refuse}
use Rattle.step.specs.Table.{table_words}
use Rattle.step.specs.Sizes.{in_range, is_enough}
use Rattle.machine.specs.declared.Record.{Record}
use Rattle.machine.specs.Machine.{status_of, zeros, Machine, machine_of}
use Rattle.image.specs.declared.trailer.Trailer.{Trailer}
use Rattle.image.specs.Format.{words_of, oldest, trailer_length, back_of, last_bytes, trailer_of}

abbrev pub max_file : ℕ
max_file = 65536

-- under 92, the first kind's trailer, or over 65,536 bytes
abbrev pub bad_length : List ℕ → Bool
bad_length s = not (leb (trailer_length oldest) (length s) && leb (length s) max_file)

-- the last four bytes are those of the kind
abbrev pub has_last : Trailer → List ℕ → Bool
has_last t s = same (last_bytes 4 s) t.kind.last

-- under the trailer of the kind
abbrev pub is_cut : Trailer → List ℕ → Bool
is_cut t s = ltb (length s) (trailer_length t.kind)

-- back by the formula
abbrev pub back_by : Trailer → ℕ
back_by t = back_of t.kind t.state

-- the file's refusal, 0 for none
unfoldable pub file_refusal : Trailer → List ℕ → ℕ
file_refusal t s =
    refuse (bad_length s) 1
    (refuse (not (has_last t s)) 2
    (refuse (is_cut t s) 1
    (refuse (not (in_range (status_of t.state))) 3
    (refuse (not (eqb t.back (back_by t))) 4
    (refuse (ltb (length s) (back_by t)) 5
    0)))))

-- load's: the file's, then 6, where the lent memory or table is too short
unfoldable pub load_refusal : Trailer → List ℕ → List ℕ → List ℕ → ℕ
load_refusal t s mem table =
    refuse (not (eqb (file_refusal t s) 0)) (file_refusal t s)
    (refuse (not (is_enough (status_of t.state) (length mem) (length table))) 6
    0)

-- where the first memory byte stands, and the bytes from it on
abbrev pub start_of : Trailer → List ℕ → ℕ
start_of t s = length s - back_by t

abbrev pub image_in : Trailer → List ℕ → List ℕ
image_in t s = drop (start_of t s) s

-- the first words from the image, and the excess as it was
abbrev pub filled : ℕ → List ℕ → List ℕ → List ℕ
filled n bytes words = words_of n bytes ++ drop n words

abbrev pub read_in : Trailer → List ℕ → List ℕ → List ℕ → Machine
read_in t s mem table =
    let r = t.state in
    machine_of r (filled r.m (image_in t s) mem) (filled (table_words r.n) (drop (4 * r.m) (image_in t s)) table)

-- the machine that load leaves: as it was read, or zeros on untouched words
abbrev pub load_of : Trailer → List ℕ → List ℕ → List ℕ → Machine
load_of t s mem table = pick (eqb (load_refusal t s mem table) 0) (read_in t s mem table) (machine_of zeros mem table)

-- the record in load's answer, zeros where it is refused
abbrev pub loaded_or_zero : Result Record Refusal → Record
loaded_or_zero (Ok r) = r
loaded_or_zero (Err e) = zeros

-- What a load of file into mem and table promises of its refusal n, and of the machine x that its record and the lent words at
-- exit are.
pub record LoadPromise (file mem table : List ℕ) (n : ℕ) (x : Machine) : Type 0 where
  pub refusal : n ≡ load_refusal (trailer_of file) file mem table
  pub machine : x ≡ load_of (trailer_of file) file mem table

-- all before the first memory byte; empty where load would refuse 1 to 5
abbrev pub preface_by : Trailer → List ℕ → List ℕ
preface_by t s = pick (eqb (file_refusal t s) 0) (take (start_of t s) s) []

abbrev pub preface_of : List ℕ → List ℕ
preface_of s = preface_by (trailer_of s) s
