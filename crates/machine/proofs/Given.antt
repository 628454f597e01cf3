-- The bounds of what a call is passed, from what its types give. Assumes nothing.
use Prim.Native.Nat.{ℕ, zero, suc}
use mathlib.Core.Path.{◌≡◌}
use mathlib.Core.List.{List, [], ◌∷◌}
use lib.ListN.{length, get_or, take}
use lib.Dec.{lit<}
use mir.Syntax.{w32, w64}
use mir.Val.{Fits, SFits}
use Rattle.step.specs.View.{Words}
use Rattle.machine.specs.Machine.{Machine, Bounded}

pub words_take : (m : ℕ) (l : List ℕ) → Words l → Words (take m l)
words_take zero l h a = lit< tt
words_take (suc m) [] h a = lit< tt
words_take (suc m) (x ∷ l) h zero = h 0
words_take (suc m) (x ∷ l) h (suc a) = words_take m l (λ b. h (suc b)) a

pub given_bounds : (x : Machine) → length x.state.regs ≡ 16 → ((a : ℕ) → Fits w32 (get_or x.state.regs a 0)) → ((a : ℕ) → Fits w32 (get_or x.memory a 0))
    → SFits w64 x.state.position → Bounded x
given_bounds x n f g p =
    record { view = record { sixteen = n; regs = λ a. (f a).fits; words = words_take x.state.m x.memory (λ a. (g a).fits) }; position = p }
