-- The code's samples and steps, by the numbers of the definitions.
use Rattle.std.specs.Prelude.{ℕ, ◌≡◌, ◌<◌, eqb, Option, Some, None, Result, Ok, Err, MatchResult}
use Rattle.word.specs.Word.{pick}
use Rattle.word.specs.declared.refusals.Refusal.{Refusal}
use Rattle.word.specs.declared.refusals.Refusal.TheVariants.{Skipped, Sample}
use Rattle.step.specs.declared.Direction.{Direction}
use Rattle.step.specs.declared.Direction.TheVariants.{Forward, Back}
use Rattle.wheel.specs.declared.samples.Sample.{Sample as Read}
use Rattle.wheel.specs.declared.samples.Sample.TheVariants.{Neither, Low, Both, High}

-- the byte of a sample
abbrev pub byte_of : Read → ℕ
byte_of Neither = 0
byte_of Low = 1
byte_of Both = 3
byte_of High = 2

-- what a byte is read as: the sample of this byte, or 20 where it is above 3
abbrev pub ReadsAs : ℕ → Result Read Refusal → Type 0
ReadsAs b r = MatchResult r (λ s. byte_of s ≡ b) (λ e. (e ≡ Sample) × (3 < b))

-- the turn of so many steps, or 19
abbrev pub moves : ℕ → Result (Option Direction) Refusal
moves k = pick (eqb k 2) (Err Skipped) (Ok (pick (eqb k 1) (Some Forward) (pick (eqb k 3) (Some Back) None)))
