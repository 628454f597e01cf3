-- What is claimed of single operations, over the attempt that the contract of Seen::attempt cites: of an address by the kind
-- of access (document 01, 15; document 02, #106), and of arib's quotient, equal and less (document 01, "Effects"; document 02, #108).
-- Proved in proofs/Addresses and proofs/Results.
use Rattle.std.specs.Prelude.{ℕ, ◌<◌, ◌≤◌, ◌≡◌, ◌≢◌, ◌↔◌, List}
use Rattle.std.specs.Int.Bits.{bit_xor}
use Rattle.word.specs.Claims.{Below, IsQuotient}
use Rattle.qins.specs.Op.{Op, Source}
use Rattle.qins.specs.Op.Op.{Xor, Fetch, Exchange}
use Rattle.qins.specs.Op.Source.{Quotient, Equal, Less}
use Rattle.step.specs.View.{View, Words, reg}
use Rattle.step.specs.Step.{value, when_ready, attempt}
use Rattle.word.specs.Refusal.{number}
use Rattle.step.specs.declared.Status.{Status}
use Rattle.step.specs.declared.Direction.{Direction}
use Rattle.step.specs.declared.Access.{Access}
use Rattle.step.specs.declared.Effect.TheVariants.{Write}
use Rattle.std.specs.Prelude.{Ok}

-- ---- addresses

-- an operation, in a view, accesses by a register the word at an address: fetr copies it, ld and ldr exchange it
pub data Accesses (s : View) : Op → Access → ℕ → ℕ → Type 0 where
  copies : (a b : ℕ) → Accesses s (Fetch a b) Access.Copy a (reg s b)
  exchanges : (a : ℕ) (v : Source) → Accesses s (Exchange a v) Access.Exchange a (value v s.regs)

-- the addresses of its kind: for a copy those below M, for an exchange K to M-1
abbrev pub Within : Access → Status → ℕ → Type 0
Within Access.Copy at i = i < at.m
Within Access.Exchange at i = (at.k ≤ i) × (i < at.m)

-- done exactly where nothing waits and it may, refused by 15 exactly where nothing waits and it may not
pub record Addressed (x : Access) (at : Status) (i n : ℕ) : Type 0 where
  pub done : (n ≡ 0) ↔ ((at.qifw ≡ 0) × Within x at i)
  pub refused : (n ≡ 15) ↔ ((at.qifw ≡ 0) × (Within x at i → ⊥))

-- Claim
abbrev pub Addresses : Type 0
Addresses =
    (t : List ℕ) (d : Direction) (s : View) (o : Op) (x : Access) (a i : ℕ) → Accesses s o x a i → Addressed x s.at i (number (attempt t d o s))

-- ---- quotient, equal and less

-- what each is, in a view: quotient and equal by the words as they stand, less by their signed values
pub data Result (s : View) : Source → ℕ → Type 0 where
  quotient : (b c q : ℕ) → IsQuotient (reg s b) (reg s c) q → Result s (Quotient b c) q
  by_zero : (b c : ℕ) → reg s c ≡ 0 → Result s (Quotient b c) 0
  equal : (b c : ℕ) → reg s b ≡ reg s c → Result s (Equal b c) 1
  unequal : (b c : ℕ) → reg s b ≢ reg s c → Result s (Equal b c) 0
  less : (b c : ℕ) → Below (reg s b) (reg s c) → Result s (Less b c) 1
  not_less : (b c : ℕ) → (Below (reg s b) (reg s c) → ⊥) → Result s (Less b c) 0

-- Claim: either way it is xored into the register, but for 14
abbrev pub Results : Type 0
Results =
    (t : List ℕ) (d : Direction) (s : View) → Words s.regs → (a : ℕ) (v : Source) (x : ℕ) → Result s v x
    → attempt t d (Xor a v) s ≡ when_ready s.at (Ok (Write a (bit_xor (reg s a) x)))
