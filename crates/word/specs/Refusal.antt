-- Refusals: each by its number, and in order, as the documents list them: one test per line, top to bottom. The first test that
-- holds gives its answer, and where none holds the last line does.
use Rattle.std.specs.Prelude.{ℕ, Bool, true, false, Result, Ok, Err}
use Rattle.word.specs.declared.refusals.Refusal.{Refusal}
use Rattle.word.specs.declared.refusals.Refusal.TheVariants.{FileLength, FileKind, FileSizes, FileBack, FileCut, Lent, CodeWord, Link, Output, Sizes, Outside, End, Instruction, Waiting, Address, Coin, Node, Landing, Skipped, Sample, Position, Begin, Bound, Branches}

-- the documents' number of each
abbrev pub number_of : Refusal → ℕ
number_of FileLength = 1
number_of FileKind = 2
number_of FileSizes = 3
number_of FileBack = 4
number_of FileCut = 5
number_of Lent = 6
number_of CodeWord = 7
number_of Link = 8
number_of Output = 9
number_of Sizes = 10
number_of Outside = 11
number_of End = 12
number_of Instruction = 13
number_of Waiting = 14
number_of Address = 15
number_of Coin = 16
number_of Node = 17
number_of Landing = 18
number_of Skipped = 19
number_of Sample = 20
number_of Position = 21
number_of Begin = 22
number_of Bound = 23
number_of Branches = 24

-- and of an answer; 0 is no refusal
abbrev pub number : {A : Type 0} → Result A Refusal → ℕ
number (Ok a) = 0
number (Err e) = number_of e

-- the answer where the test holds, else what the rest gives
unfoldable pub refuse : {A : Type 0} → Bool → A → A → A
refuse true answer rest = answer
refuse false answer rest = rest

-- the refusal of an answer, or what the rest gives
abbrev pub refused_or : {A B : Type 0} → Result A Refusal → Result B Refusal → Result B Refusal
refused_or (Ok a) rest = rest
refused_or (Err e) rest = Err e

-- what stands after a call that leaves a as it was where it is refused
abbrev pub kept : {A : Type 0} → A → Result A Refusal → A
kept a (Ok b) = b
kept a (Err e) = a
