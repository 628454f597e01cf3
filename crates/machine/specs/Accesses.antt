-- What turns and previews do at an access, by its kind (document 02, #106): of calls, by their promises and nothing else. Proved in
-- proofs/Accesses.
use Rattle.std.specs.Prelude.{ℕ, ◌≤◌, ◌≡◌, ◌≢◌, ◌⊎◌, true, List, get_or, set}
use Rattle.std.specs.Int.Bits.{bit_xor}
use Rattle.step.specs.declared.Direction.{Direction}
use Rattle.step.specs.declared.Direction.TheVariants.{Back}
use Rattle.step.specs.declared.Access.{Access}
use Rattle.step.specs.View.{View, reg, with_reg}
use Rattle.step.specs.Claims.{Accesses, Within}
use Rattle.machine.specs.Turn.{pc, new_pc, starts, present}
use Rattle.machine.specs.Position.{end}
use Rattle.machine.specs.Machine.{Machine, left_as, view_of, wrong_sizes}
use Rattle.machine.specs.Calls.{found, moved, TurnPromise}
use Rattle.machine.specs.Preview.{PreviewPromise}
use Rattle.machine.specs.declared.Preview.{Preview}

-- ---- what an access does, with its register's word v and the word w at its address i

-- what the register gets
abbrev pub got : Access → ℕ → ℕ → ℕ
got Access.Copy v w = bit_xor v w
got Access.Exchange v w = w

-- the lent memory after it
abbrev pub left : Access → List ℕ → ℕ → ℕ → List ℕ
left Access.Copy mem i v = mem
left Access.Exchange mem i v = set mem i v

-- the view s with register a as it then is
abbrev pub accessed : Access → ℕ → ℕ → View → View
accessed x a i s = with_reg s a (got x (reg s a) (get_or s.memory i 0))

-- ---- the refusals at an access, in order

-- n is k where the condition holds, else what the rest says
abbrev pub given : Type 0 → ℕ → (ℕ → Type 0) → ℕ → Type 0
given condition k rest n = (condition × (n ≡ k)) ⊎ ((condition → ⊥) × rest n)

-- 13, 16, 17 and a finish's 12 and 18 are other words'
abbrev pub AtAccess : Direction → Machine → Access → ℕ → ℕ → ℕ → Type 0
AtAccess d x k a i =
    let r = x.state in
    let s = found d x in
    given (wrong_sizes x ≡ true) 10
    (given (r.position ≡ end d) 21
    (given ((d ≡ Back) × (r.qifw ≡ 0) × (starts s.at s.memory (pc (view_of x)) ≡ true)) 12
    (given (r.k ≤ pc s) 11
    (given (r.qifw ≢ 0) 14
    (given (Within k s.at i → ⊥) 15
    (given (starts s.at s.memory (new_pc d (accessed k a i s)) ≡ true) 18
    (λ n. n ≡ 0)))))))

-- a turn, or a preview of it, gives the refusal n
pub data Gives (d : Direction) (x : Machine) : ℕ → Type 0 where
  turn : (n : ℕ) (y : Machine) → TurnPromise d x n y → Gives d x n
  preview : (p : Preview) → PreviewPromise d x p → Gives d x p.refusal

-- Claim
abbrev pub ByAccess : Type 0
ByAccess =
    (d : Direction) (x : Machine) (n : ℕ) → Gives d x n → (k : Access) (a i : ℕ)
    → Accesses (found d x) (present (found d x)) k a i → AtAccess d x k a i n

-- ---- what an accepted turn leaves: register a and the memory by the kind

abbrev pub after_access : Direction → Machine → Access → ℕ → ℕ → Machine
after_access d x k a i =
    let s = found d x in
    left_as x (moved d x.state (accessed k a i s)) (left k x.memory i (reg s a))

-- Claim
abbrev pub AccessMade : Type 0
AccessMade =
    (d : Direction) (x y : Machine) (n : ℕ) → TurnPromise d x n y → n ≡ 0
    → (k : Access) (a i : ℕ) → Accesses (found d x) (present (found d x)) k a i → y ≡ after_access d x k a i
