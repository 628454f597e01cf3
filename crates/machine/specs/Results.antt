-- What a turn leaves at arib's quotient, equal and less (document 02, #108), either way: of calls, by their promises and nothing else.
-- Proved in proofs/Results.
use Rattle.std.specs.Prelude.{ℕ, ◌≡◌}
use Rattle.std.specs.Int.Bits.{bit_xor}
use Rattle.qins.specs.Op.{Source}
use Rattle.qins.specs.Op.Op.{Xor}
use Rattle.step.specs.declared.Direction.{Direction}
use Rattle.step.specs.View.{reg, with_reg}
use Rattle.step.specs.Claims.{Result}
use Rattle.machine.specs.Turn.{present}
use Rattle.machine.specs.Machine.{Machine, left_as}
use Rattle.machine.specs.Calls.{found, moved, TurnPromise}

-- w xored into register a, and no lent word changed
abbrev pub after_xor : Direction → Machine → ℕ → ℕ → Machine
after_xor d x a w = let s = found d x in left_as x (moved d x.state (with_reg s a (bit_xor (reg s a) w))) x.memory

-- Claim
abbrev pub ResultMade : Type 0
ResultMade =
    (d : Direction) (x y : Machine) (n : ℕ) → TurnPromise d x n y → n ≡ 0
    → (a : ℕ) (v : Source) (w : ℕ) → present (found d x) ≡ Xor a v → Result (found d x) v w → y ≡ after_xor d x a w
