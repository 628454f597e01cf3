-- The position (document 02, #104): a signed number of 64 bits, one more for each accepted turn forward, one less for each back.
use Rattle.std.specs.Prelude.{ℕ, Bool, ℤ, pos, negsuc, ◌+ℤ◌, ◌-ℤ◌}
use Rattle.std.specs.Int.Signed.{le_z}
use Rattle.step.specs.declared.Direction.{Direction}
use Rattle.step.specs.declared.Direction.TheVariants.{Forward, Back}
use Rattle.step.specs.Step.{Attempt}
use Rattle.std.specs.Prelude.{Err, Ok}

abbrev pub largest : ℤ
largest = pos 9223372036854775807

abbrev pub smallest : ℤ
smallest = negsuc 9223372036854775807

-- the last this way
abbrev pub end : Direction → ℤ
end Forward = largest
end Back = smallest

-- refusal 21: there is none further this way
abbrev pub is_last : Direction → ℤ → Bool
is_last Forward p = le_z largest p
is_last Back p = le_z p smallest

-- k turns further this way
abbrev pub advanced : Direction → ℕ → ℤ → ℤ
advanced Forward k p = p +ℤ pos k
advanced Back k p = p -ℤ pos k

-- after a turn of this plan
abbrev pub position_after : Direction → Attempt → ℤ → ℤ
position_after d (Err n) p = p
position_after d (Ok e) p = advanced d 1 p
