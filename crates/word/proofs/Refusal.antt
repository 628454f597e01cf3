-- Laws of refusals in order. Assumes nothing.
use Rattle.std.proofs.Common.{◌≡◌, ◌<◌, ℕ, suc, Bool, true, false, refl, arith, Result, Ok, Err}
use Rattle.word.specs.Refusal.{refuse, number_of}
use Rattle.word.specs.declared.refusals.Refusal.{Refusal}
use Rattle.word.specs.declared.refusals.Refusal.TheVariants.{FileLength, FileKind, FileSizes, FileBack, FileCut, Lent, CodeWord, Link, Output, Sizes, Outside, End, Instruction, Waiting, Address, Coin, Node, Landing, Skipped, Sample, Position, Begin, Bound, Branches}

module _ {A : Type 0} where
  -- where the test is known
  pub refuse_true : (b : Bool) (a rest : A) → b ≡ true → refuse b a rest ≡ a
  unfolding refuse
  refuse_true b a rest h = rw h refl

  pub refuse_false : (b : Bool) (a rest : A) → b ≡ false → refuse b a rest ≡ rest
  unfolding refuse
  refuse_false b a rest h = rw h refl

  -- what is not the answer comes from the rest
  pub refuse_passed : (b : Bool) (a rest c : A) → refuse b a rest ≡ c → (a ≡ c → ⊥) → (b ≡ false) × (rest ≡ c)
  unfolding refuse
  refuse_passed true a rest c e n = absurd (n e)
  refuse_passed false a rest c e n = (refl, e)

  -- what is not from the rest is the answer
  pub refuse_refused : (b : Bool) (a rest c : A) → refuse b a rest ≡ c → (rest ≡ c → ⊥) → (b ≡ true) × (a ≡ c)
  unfolding refuse
  refuse_refused true a rest c e n = (refl, e)
  refuse_refused false a rest c e n = absurd (n e)

  -- and what is neither is not given
  pub refuse_neither : (b : Bool) (a rest c : A) → (a ≡ c → ⊥) → (rest ≡ c → ⊥) → refuse b a rest ≡ c → ⊥
  unfolding refuse
  refuse_neither true a rest c n m e = n e
  refuse_neither false a rest c n m e = m e

-- 0 is given only where the test fails and the rest gives 0
pub refuse_none : (b : Bool) (k n : ℕ) → refuse b (suc k) n ≡ 0 → (b ≡ false) × (n ≡ 0)
refuse_none b k n e = refuse_passed b (suc k) n 0 e (λ z. omega (arith, z))

-- no refusal has the number 0
pub number_above : (e : Refusal) → 0 < number_of e
number_above FileLength = omega arith
number_above FileKind = omega arith
number_above FileSizes = omega arith
number_above FileBack = omega arith
number_above FileCut = omega arith
number_above Lent = omega arith
number_above CodeWord = omega arith
number_above Link = omega arith
number_above Output = omega arith
number_above Sizes = omega arith
number_above Outside = omega arith
number_above End = omega arith
number_above Instruction = omega arith
number_above Waiting = omega arith
number_above Address = omega arith
number_above Coin = omega arith
number_above Node = omega arith
number_above Landing = omega arith
number_above Skipped = omega arith
number_above Sample = omega arith
number_above Position = omega arith
number_above Begin = omega arith
number_above Bound = omega arith
number_above Branches = omega arith

pub not_zero : (e : Refusal) → number_of e ≡ 0 → ⊥
not_zero e h = let l = number_above e in omega arith

-- ---- a test on its own, as a call makes it: nothing, or a refusal

abbrev pub tested : Bool → Refusal → Result Unit Refusal
tested b e = refuse b (Err e) (Ok tt)

pub tested_ok : (b : Bool) (e : Refusal) (v : Unit) → tested b e ≡ Ok v → b ≡ false
unfolding refuse
tested_ok true e v h = absurd (let z : ◌≡◌ {A = ℕ} 0 1 = cc in omega arith)
tested_ok false e v h = refl

pub tested_err : (b : Bool) (e f : Refusal) → tested b e ≡ Err f → (b ≡ true) × (f ≡ e)
unfolding refuse
tested_err true e f h = (refl, cc)
tested_err false e f h = absurd (let z : ◌≡◌ {A = ℕ} 0 1 = cc in omega arith)
