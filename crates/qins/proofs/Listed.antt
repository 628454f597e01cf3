-- A word of no listed opcode is no instruction. Assumes nothing.
use mathlib.Core.Path.{◌≡◌, refl}
use mathlib.Core.Logic.{◌≢◌}
use mathlib.Core.Bool.{Bool}
use Prim.Native.Nat.{ℕ}
use borrow.Author.Tests.{ne_eqb}
use Rattle.qins.specs.Decode.{line, operation}
use Rattle.qins.specs.Op.{Op}
use Rattle.qins.specs.Op.Op.{None}

-- o is none of the opcodes, as the last arm of a match on them has it
abbrev pub Unlisted : ℕ → Type 0
Unlisted o = ((((((((((((((((((((((Unit {0} × (o ≢ 1)) × (o ≢ 2)) × (o ≢ 3)) × (o ≢ 4)) × (o ≢ 5)) × (o ≢ 6)) × (o ≢ 7)) × (o ≢ 16)) × (o ≢ 17)) × (o ≢ 18)) × (o ≢ 19)) × (o ≢ 20)) × (o ≢ 21)) × (o ≢ 22)) × (o ≢ 23)) × (o ≢ 24)) × (o ≢ 25)) × (o ≢ 26)) × (o ≢ 27)) × (o ≢ 32)) × (o ≢ 33)) × (o ≢ 34)) × (o ≢ 35)

-- a line of another opcode
skip : (o k : ℕ) (test : Bool) (op rest : Op) → o ≢ k → None ≡ rest → None ≡ line o k test op rest
unfolding line
skip o k test op rest h e = rw (ne_eqb o k h) e

pub unlisted : (o a b i : ℕ) → Unlisted o → None ≡ operation o a b i
unfolding operation
unlisted o a b i n =
    (skip _ _ _ _ _ n.0.0.0.0.0.0.0.0.0.0.0.0.0.0.0.0.0.0.0.0.0.0.1 (skip _ _ _ _ _ n.0.0.0.0.0.0.0.0.0.0.0.0.0.0.0.0.0.0.0.0.0.1 (skip _ _ _ _ _ n.0.0.0.0.0.0.0.0.0.0.0.0.0.0.0.0.0.0.0.0.1 (skip _ _ _ _ _ n.0.0.0.0.0.0.0.0.0.0.0.0.0.0.0.0.0.0.0.1 (skip _ _ _ _ _ n.0.0.0.0.0.0.0.0.0.0.0.0.0.0.0.0.0.0.1 (skip _ _ _ _ _ n.0.0.0.0.0.0.0.0.0.0.0.0.0.0.0.0.0.1 (skip _ _ _ _ _ n.0.0.0.0.0.0.0.0.0.0.0.0.0.0.0.0.1 (skip _ _ _ _ _ n.0.0.0.0.0.0.0.0.0.0.0.0.0.0.0.1 (skip _ _ _ _ _ n.0.0.0.0.0.0.0.0.0.0.0.0.0.0.1 (skip _ _ _ _ _ n.0.0.0.0.0.0.0.0.0.0.0.0.0.1 (skip _ _ _ _ _ n.0.0.0.0.0.0.0.0.0.0.0.0.1 (skip _ _ _ _ _ n.0.0.0.0.0.0.0.0.0.0.0.1 (skip _ _ _ _ _ n.0.0.0.0.0.0.0.0.0.0.1 (skip _ _ _ _ _ n.0.0.0.0.0.0.0.0.0.1 (skip _ _ _ _ _ n.0.0.0.0.0.0.0.0.1 (skip _ _ _ _ _ n.0.0.0.0.0.0.0.1 (skip _ _ _ _ _ n.0.0.0.0.0.0.1 (skip _ _ _ _ _ n.0.0.0.0.0.1 (skip _ _ _ _ _ n.0.0.0.0.1 (skip _ _ _ _ _ n.0.0.0.1 (skip _ _ _ _ _ n.0.0.1 (skip _ _ _ _ _ n.0.0.1 (skip _ _ _ _ _ n.0.1 (skip _ _ _ _ _ n.0.1 (skip _ _ _ _ _ n.1 (skip _ _ _ _ _ n.1 (skip _ _ _ _ _ n.1 (skip _ _ _ _ _ n.1 (skip _ _ _ _ _ n.1 refl)))))))))))))))))))))))))))))
