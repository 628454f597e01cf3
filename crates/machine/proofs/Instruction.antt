-- A turn on one word alone is refused by 13 where the word is no instruction, and nowhere else. Assumes nothing.
use mathlib.Core.Path.{◌≡◌, refl, sym, ap, ◌∙◌}
use mathlib.Core.Bool.{Bool, true, false}
use mathlib.Core.List.{[], ◌∷◌}
use Prim.Native.Nat.{ℕ}
use lib.Dec.{eqb}
use borrow.Author.Tests.{eqb-true}
use Rattle.qins.specs.Decode.{decode, operation, line, finish_word, kind}
use Rattle.step.specs.declared.Direction.TheVariants.{Forward}
use Rattle.step.specs.Step.{Attempt}
use Rattle.std.specs.Prelude.{Err, Ok}
use Rattle.step.specs.View.{View, sized}
use Rattle.word.specs.Refusal.{refuse}
use Rattle.word.specs.Refusal.{number_of, number}
use Rattle.word.specs.declared.refusals.Refusal.{Refusal}
use Rattle.step.proofs.Numbers.{attempt_13}
use Rattle.step.specs.Sizes.{in_range, bad_sizes}
use Rattle.machine.specs.Turn.{landed, judged, executed}
use Rattle.machine.specs.Machine.{with_status, zeros, Machine, machine_of}
use Rattle.machine.specs.Calls.{refusal, found}
use Rattle.word.specs.declared.refusals.Refusal.TheVariants.{End, Landing}

-- a refusal by another number, which may only stand where the answer is no
past : (b : Bool) (n : Refusal) (x : Attempt) (y : Bool) → eqb (number_of n) 13 ≡ false → (b ≡ true → false ≡ y) → eqb (number x) 13 ≡ y
    → eqb (number (refuse b (Err n) x)) 13 ≡ y
unfolding refuse
past true n x y h g e = h ∙ g refl
past false n x y h g e = e

past_landed : (s : View) (x : Attempt) → eqb (number (landed Forward s x)) 13 ≡ eqb (number x) 13
unfolding landed
past_landed s (Err n) = refl
past_landed s (Ok e) = past _ Landing (Ok e) false refl (λ h. refl) refl

finish_is_one : (w : ℕ) → eqb w finish_word ≡ true → false ≡ eqb (kind (decode w)) 0
unfolding decode operation line
finish_is_one w h = ap (λ (v : ℕ). eqb (kind (decode v)) 0) (sym (eqb-true w finish_word h))

-- code and memory are the one word
abbrev one_word : ℕ → Machine
one_word w = machine_of (with_status zeros (sized 1 1 0)) (w ∷ []) []

pub told_by_13 : (w : ℕ) → eqb (refusal Forward (one_word w)) 13 ≡ eqb (kind (decode w)) 0
unfolding judged bad_sizes in_range refuse
told_by_13 w =
    let s = found Forward (one_word w) in
    past (eqb w finish_word) End _ _ refl (finish_is_one w) (past_landed s (executed [] Forward s) ∙ attempt_13 [] Forward (decode w) s)
