-- What a turn leaves at arib's quotient, equal and less. Assumes nothing.
use mathlib.Core.Path.{◌≡◌, sym, ap, ◌∙◌}
use mathlib.Core.List.{List}
use Prim.Native.Nat.{ℕ}
use lib.Bits.{bit_xor}
use Rattle.qins.specs.Op.{Op, Source}
use Rattle.qins.specs.Op.Op.{Xor}
use Rattle.step.specs.declared.Direction.{Direction}
use Rattle.step.specs.declared.Effect.{Effect}
use Rattle.step.specs.declared.Effect.TheVariants.{Write}
use Rattle.std.specs.Prelude.{Ok}
use Rattle.step.specs.Step.{Attempt}
use Rattle.step.specs.View.{View, reg}
use Rattle.step.specs.Step.{attempt}
use Rattle.step.specs.Claims.{Result}
use Rattle.step.proofs.Results.{results}
use Rattle.step.proofs.Undo.{passed}
use Rattle.machine.specs.Turn.{present, executed}
use Rattle.machine.specs.Machine.{Machine, state_of, view_of, Bounded}
use Rattle.machine.specs.Calls.{refusal, next, found}
use Rattle.machine.specs.Results.{after_xor, ResultMade}
use Rattle.machine.proofs.Inverse.{bounds_from}
use Rattle.machine.proofs.Effects.{effected}
use Rattle.word.specs.declared.refusals.Refusal.TheVariants.{Waiting}

module _ (d : Direction) (x : Machine) (g : Bounded x) (a : ℕ) (v : Source) (w : ℕ) (o : present (found d x) ≡ Xor a v) (e : Result (found d x) v w) where
  abbrev t : List ℕ
  t = (state_of x).links

  abbrev s : View
  s = found d x

  abbrev does : Effect
  does = Write a (bit_xor (reg s a) w)

  own_does : (f : Effect) → executed t d s ≡ Ok f → ◌≡◌ {A = Attempt} (Ok does) (Ok f)
  own_does f q = (passed _ Waiting _ (sym (results t d s (bounds_from (view_of x) g.view d).regs a v w e) ∙ (sym (ap (λ (y : Op). attempt t d y s) o) ∙ q))).1

  did : refusal d x ≡ 0 → next d x ≡ after_xor d x a w
  did h = effected d x g h does own_does

pub result_made : ResultMade
result_made d x y n p h a v w o e = p.left ∙ did d x p.bounds a v w o e (sym p.refusal ∙ h)
