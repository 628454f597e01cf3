-- Arib's quotient, equal and less. Assumes nothing.
use mathlib.Core.Path.{◌≡◌, refl, ap}
use mathlib.Core.Bool.{Bool, true, false}
use Prim.Native.Nat.{ℕ}
use lib.Bits.{bit_xor}
use borrow.Author.Tests.{eq-eqb, ne_eqb}
use Rattle.word.specs.Word.{pick}
use Rattle.word.proofs.Less.{compared_words, divides}
use Rattle.qins.specs.Op.{Source}
use Rattle.step.specs.View.{View, Words, reg}
use Rattle.step.specs.Step.{value, when_ready, attempt}
use Rattle.step.specs.Claims.{Result, Results}
use Rattle.step.specs.Claims.Result.{quotient, by_zero, equal, unequal, less, not_less}
use Rattle.step.specs.declared.Effect.TheVariants.{Write}
use Rattle.std.specs.Prelude.{Ok}

not_true_is : (b : Bool) → (b ≡ true → ⊥) → b ≡ false
not_true_is true h = absurd (h refl)
not_true_is false h = refl

abbrev flag : Bool → ℕ
flag t = pick t 1 0

-- the value of the source
value_is : (s : View) → Words s.regs → (v : Source) (x : ℕ) → Result s v x → value v s.regs ≡ x
unfolding value
value_is s f v x (quotient b c q g) = divides (reg s b) (reg s c) q g
value_is s f v x (by_zero b c z) = rw (eq-eqb (reg s c) 0 z)
value_is s f v x (equal b c e) = ap flag (eq-eqb (reg s b) (reg s c) e)
value_is s f v x (unequal b c n) = ap flag (ne_eqb (reg s b) (reg s c) n)
value_is s f v x (less b c l) = ap flag ((compared_words (reg s b) (reg s c) (f b) (f c)).less.1 l)
value_is s f v x (not_less b c n) = ap flag (not_true_is _ (λ h. n ((compared_words (reg s b) (reg s c) (f b) (f c)).less.0 h)))

pub results : Results
unfolding attempt
results t d s f a v x r = ap (λ (y : ℕ). when_ready s.at (Ok (Write a (bit_xor (reg s a) y)))) (value_is s f v x r)
