-- What the program does with a file (document 01, "The crank program"): it loads it, and turns forward until refused or
-- 1,000,000 turns, in one batch.
use Rattle.std.specs.Prelude.{ℕ, ◌<◌, ◌≤◌, ◌≡◌, ◌≢◌, Bool, not, List, eqb, Result, Ok, Err}
use Rattle.word.specs.declared.refusals.Refusal.{Refusal}
use Rattle.word.specs.Refusal.{refuse}
use Rattle.step.specs.declared.Direction.TheVariants.{Forward}
use Rattle.machine.specs.Machine.{zeros, Machine, machine_of}
use Rattle.machine.specs.Batch.{BatchPromise}
use Rattle.machine.specs.declared.Batch.{Batch}
use Rattle.image.specs.Load.{LoadPromise}
use Rattle.program.specs.declared.Ending.{Ending}
use Rattle.program.specs.declared.Ending.TheVariants.{Done, LoadRefused, HasArguments, NotWritten}

abbrev pub limit : ℕ
limit = 1000000

abbrev pub no_turns : Batch
no_turns = record { turns = 0; refusal = 0; state = zeros }

-- the turns in what a file is answered
abbrev pub turns_in : Result Batch Refusal → Batch
turns_in (Ok a) = a
turns_in (Err e) = no_turns

-- What the program promises of a file and the lent words: load's refusal w, the turns a, and the lent words at exit.
-- A refused load is all that is done; after an accepted one the loaded machine is turned.
pub record ProgramPromise (file mem table : List ℕ) (w : ℕ) (a : Batch) (mem' table' : List ℕ) : Type 0 where
  pub loaded : Machine
  pub load : LoadPromise file mem table w loaded
  pub links : table' ≡ loaded.table
  pub refused : w ≢ 0 → (a ≡ no_turns) × (mem' ≡ loaded.memory)
  pub turned : w ≡ 0 → BatchPromise Forward limit loaded a.turns a.refusal (machine_of a.state mem' table')

-- So none is left unmade but for a refusal. Proved in proofs/Program.
abbrev pub NoneLeft : Type 0
NoneLeft =
    (file mem table : List ℕ) (w : ℕ) (a : Batch) (mem' table' : List ℕ) → ProgramPromise file mem table w a mem' table'
    → w ≡ 0 → a.turns < limit → a.refusal ≢ 0

-- The exit status: 3 where not all was written, 1 after a refused load.
abbrev pub status_of : (refusal : ℕ) (written : Bool) → ℕ
status_of refusal written =
    refuse (not written) 3
    (refuse (not (eqb refusal 0)) 1
    0)

abbrev pub status_in : Ending → ℕ
status_in Done = 0
status_in LoadRefused = 1
status_in HasArguments = 2
status_in NotWritten = 3

-- The status of a run is that of a refusal and of whether all was written; which ones, no contract can say, since the
-- file is read and the answer written outside of any.
pub record Ran (r : ℕ) : Type 0 where
  pub refusal : ℕ
  pub written : Bool
  pub status : r ≡ status_of refusal written

-- The status for a command line of so many words: 2 where there is more than the program's name.
pub record Exit (words r : ℕ) : Type 0 where
  pub arguments : 1 < words → r ≡ 2
  pub alone : words ≤ 1 → Ran r
