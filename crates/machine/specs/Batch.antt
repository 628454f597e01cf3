-- Batches (document 01, "Batches"; document 02, #103): single turns, each on what the last one left, until n are made or one is
-- refused.
use Rattle.std.specs.Prelude.{ℕ, zero, suc, ◌+◌, ◌<◌, ◌≤◌, ◌≡◌, ◌≢◌, eqb, ltb}
use Rattle.word.specs.Word.{pick}
use Rattle.step.specs.declared.Direction.{Direction}
use Rattle.machine.specs.Machine.{Machine, Bounded}
use Rattle.machine.specs.Calls.{TurnPromise, refusal, next}

-- the machine after k single turns
unfoldable pub after : Direction → ℕ → Machine → Machine
after d zero x = x
after d (suc k) x = after d k (next d x)

-- k: the turns before the first refusal, among n
unfoldable pub turns_made : Direction → ℕ → Machine → ℕ
turns_made d zero x = 0
turns_made d (suc n) x = pick (eqb (refusal d x) 0) (suc (turns_made d n (next d x))) 0

-- What a batch of n from x promises of its turns k, of its refusal w, that of turn k + 1 where that is within n, else 0, and of
-- the machine y that it leaves; and the bounds of its arguments, as of a turn's.
pub record BatchPromise (d : Direction) (n : ℕ) (x : Machine) (k w : ℕ) (y : Machine) : Type 0 where
  pub turns : k ≡ turns_made d n x
  pub refusal : w ≡ pick (ltb k n) (refusal d (after d k x)) 0
  pub left : y ≡ after d k x
  pub bounds : Bounded x

-- ---- what is claimed of calls. Proved in proofs/Batches.

-- A batch is complete: its turns are accepted and made, and a refusal stands exactly where they are fewer than n; it is that of
-- the next turn, which a call on what the batch left would make.
pub record Complete (d : Direction) (n : ℕ) (x : Machine) (k w : ℕ) (y : Machine) : Type 0 where
  pub most : k ≤ n
  pub accepted : (j : ℕ) → j < k → refusal d (after d j x) ≡ 0
  pub made : y ≡ after d k x
  pub stands : k < n → w ≢ 0
  pub none : k ≡ n → w ≡ 0
  pub turn : k < n → (i : ℕ) (z : Machine) → TurnPromise d y i z → w ≡ i

abbrev pub BatchesComplete : Type 0
BatchesComplete = (d : Direction) (n : ℕ) (x : Machine) (k w : ℕ) (y : Machine) → BatchPromise d n x k w y → Complete d n x k w y

-- A batch that made all its i turns, and one of n behind it, are one of i + n.
abbrev pub InTwo : Type 0
InTwo =
    (d : Direction) (i n : ℕ) (x y z : Machine) (j v k w : ℕ) → BatchPromise d i x j v y → v ≡ 0 → BatchPromise d n y k w z
    → BatchPromise d (i + n) x (i + k) w z

-- And one that is refused is one of any greater n.
abbrev pub Longer : Type 0
Longer = (d : Direction) (i n : ℕ) (x : Machine) (k w : ℕ) (y : Machine) → BatchPromise d i x k w y → w ≢ 0 → BatchPromise d (i + n) x k w y
