-- Which addresses are allowed, and that an operation is refused by 15 exactly at the others. Assumes nothing.
use mathlib.Core.Path.{◌≡◌, refl, sym, ◌∙◌}
use mathlib.Core.Bool.{Bool, true, false, not, true≢false}
use mathlib.Core.Logic.{◌↔◌}
use Prim.Native.Nat.{ℕ}
use native.Mathlib.Omega.{arith}
use lib.Dec.{eqb, ltb, leb}
use borrow.Author.Tests.{ltb-true, leb-true, eqb-true, eqb-false, lt-ltb, le-leb}
use Rattle.word.proofs.Words.{and_true}
use Rattle.word.specs.Refusal.{refuse}
use Rattle.step.specs.Step.{when_ready, is_allowed, when_allowed, attempt}
use Rattle.word.specs.Refusal.{number}
use Rattle.step.specs.Claims.{Within, Addressed, Addresses}
use Rattle.step.specs.Claims.Accesses.{copies, exchanges}
use Rattle.step.specs.declared.Status.{Status}
use Rattle.step.specs.declared.Access.{Access}
use Rattle.step.specs.declared.Effect.{Effect}
use Rattle.std.specs.Prelude.{Err, Ok}
use Rattle.word.specs.declared.refusals.Refusal.TheVariants.{Waiting, Address}

pub allowed_within : (x : Access) (at : Status) (i : ℕ) → (is_allowed x at i ≡ true) ↔ Within x at i
allowed_within Access.Copy at i = (ltb-true i at.m, lt-ltb i at.m)
allowed_within Access.Exchange at i = (
  λ h. let p = and_true (leb at.k i) (ltb i at.m) h in (leb-true at.k i p.0, ltb-true i at.m p.1),
  λ p. let k = le-leb at.k i p.0 in let m = lt-ltb i at.m p.1 in rw (k, m),
)

addressed : (x : Access) (at : Status) (i : ℕ) (e : Effect) → Addressed x at i (number (when_ready at (when_allowed x at i (Ok e))))
unfolding refuse
addressed x at i e = go (eqb at.qifw 0) refl (is_allowed x at i) refl
  where
    go : (ready : Bool) → eqb at.qifw 0 ≡ ready → (allowed : Bool) → is_allowed x at i ≡ allowed
        → Addressed x at i (number (refuse (not ready) (Err Waiting) (refuse (not allowed) (Err Address) (Ok e))))
    go true z true y =
        let w = (allowed_within x at i).0 y in
        record {
          done = (λ h. (eqb-true at.qifw 0 z, w), λ p. refl);
          refused = (λ h. absurd (omega (arith, h)), λ p. absurd (p.1 w));
        }
    go true z false y =
        let w : Within x at i → ⊥ = λ h. true≢false (sym ((allowed_within x at i).1 h) ∙ y) in
        record {
          done = (λ h. absurd (omega (arith, h)), λ p. absurd (w p.1));
          refused = (λ h. (eqb-true at.qifw 0 z, w), λ p. refl);
        }
    go false z allowed y =
        record {
          done = (λ h. absurd (omega (arith, h)), λ p. absurd (eqb-false at.qifw 0 z p.0));
          refused = (λ h. absurd (omega (arith, h)), λ p. absurd (eqb-false at.qifw 0 z p.0));
        }

pub addresses : Addresses
unfolding attempt
addresses t d s o x r i (copies a b) = addressed Access.Copy s.at _ _
addresses t d s o x r i (exchanges a v) = addressed Access.Exchange s.at _ _
