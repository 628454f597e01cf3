-- What is claimed of single turns, over the definitions that the contracts of forward and back cite. Proved in proofs/Claims.
-- Where a claim asks for Bounded, the call's own promise gives it (TurnPromise, BatchPromise).
use Rattle.std.specs.Prelude.{ℕ, ◌≡◌, ◌≢◌, ℤ}
use Rattle.word.specs.Refusal.{refuse}
use Rattle.step.specs.declared.Direction.{Direction}
use Rattle.step.specs.declared.Direction.TheVariants.{Forward, Back}
use Rattle.step.specs.View.{flip}
use Rattle.machine.specs.Machine.{Machine, at_position, wrong_sizes, excess_of, Bounded}
use Rattle.machine.specs.Calls.{TurnPromise, refusal, next, Leads}
use Rattle.machine.specs.Position.{end}

-- a refused turn changes nothing, and no turn touches the excess
pub record Harmless : Type 0 where
  pub refused : (d : Direction) (x : Machine) → refusal d x ≢ 0 → next d x ≡ x
  pub excess : (d : Direction) (x : Machine) → excess_of (next d x) ≡ excess_of x

-- Demand 2: the two turns undo each other
pub record Inverse : Type 0 where
  pub forward_back : (x y : Machine) → Bounded x → Leads Forward x y → Leads Back y x
  pub back_forward : (x y : Machine) → Bounded x → Leads Back x y → Leads Forward y x

-- a state from which a turn this way leads to y: forward, an earlier state
pub record Origin (d : Direction) (y : Machine) : Type 0 where
  pub machine : Machine
  pub bounds : Bounded machine
  pub leads : Leads d machine y

-- So the earlier state is the only one, it is the one that a back turn yields, and back is accepted exactly where there is one;
-- and the same with the directions exchanged.
pub record OneOrigin : Type 0 where
  pub only : (d : Direction) (y : Machine) (e e' : Origin d y) → e.machine ≡ e'.machine
  pub yields : (d : Direction) (y : Machine) (e : Origin d y) → Leads (flip d) y e.machine
  pub exists : (d : Direction) (y : Machine) → Bounded y → refusal (flip d) y ≡ 0 → Origin d y

-- Demand 2 of calls, with nothing left to assume: an accepted turn is undone by the turn the other way on what it left; and
-- a turn is accepted exactly where there is a state from which the other way leads here, which it then leaves.
pub record OnCalls : Type 0 where
  pub undone : (d : Direction) (x y z : Machine) (n k : ℕ) → TurnPromise d x n y → n ≡ 0 → TurnPromise (flip d) y k z → (k ≡ 0) × (z ≡ x)
  pub origin : (d : Direction) (x y : Machine) (n : ℕ) → TurnPromise d x n y → n ≡ 0 → Origin (flip d) x
  pub accepted : (d : Direction) (x y : Machine) (n : ℕ) → TurnPromise d x n y → (e : Origin (flip d) x) → (n ≡ 0) × (y ≡ e.machine)

-- ---- the position (document 02, #104), of calls. Proved in proofs/Whole.

-- At the last one a turn this way is refused by 21, but for 10, whatever stands at pc.
abbrev pub LastRefused : Type 0
LastRefused =
    (d : Direction) (x y : Machine) (n : ℕ) → TurnPromise d x n y → x.state.position ≡ end d → n ≡ refuse (wrong_sizes x) 10 21

-- From any two other positions a turn is the same except for the position that it leaves: it looks at nothing else of them.
abbrev pub Unseen : Type 0
Unseen =
    (d : Direction) (x y z : Machine) (p : ℤ) (n k : ℕ) → TurnPromise d x n y → TurnPromise d (at_position x p) k z
    → x.state.position ≢ end d → p ≢ end d → (n ≡ k) × (at_position y z.state.position ≡ z)
