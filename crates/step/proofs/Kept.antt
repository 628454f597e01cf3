-- What a fair effect keeps: pc, the code and the bounds. Assumes nothing.
use mathlib.Core.Path.{◌≡◌, refl, ◌∙◌}
use Prim.Native.Nat.{ℕ, ◌^◌, ◌<◌}
use native.Mathlib.Omega.{arith}
use lib.ListN.{get_or, set, length-set}
use lib.Seq.{get_or-set_other}
use Rattle.step.specs.View.{View, Bounds, reg, with_reg}
use Rattle.step.specs.Step.{performed}
use Rattle.step.specs.declared.Effect.{Effect}
use Rattle.step.specs.declared.Effect.TheVariants.{Nothing, Write, WriteTwo, SwapWord, SetNode}
use Rattle.step.proofs.Undo.{Fair, words_set}

pub record Kept (s s' : View) : Type 0 where
  pub pc : reg s' 0 ≡ reg s 0
  pub code : (j : ℕ) → j < s.at.k → get_or s'.memory j 0 ≡ get_or s.memory j 0
  pub bounds : Bounds s'

put_bounds : (s : View) (a v : ℕ) → v < 2 ^ 32 → Bounds s → Bounds (with_reg s a v)
put_bounds s a v h g = record { sixteen = length-set s.regs a v ∙ g.sixteen; regs = words_set s.regs a v h g.regs; words = g.words }

pub performed_kept : (e : Effect) (s : View) → Fair e s.at → Bounds s → Kept s (performed e s)
performed_kept Nothing s f g = record { pc = refl; code = λ j h. refl; bounds = g }
performed_kept (Write a v) s f g =
    record { pc = get_or-set_other s.regs a 0 v 0 (omega (arith, f.0)); code = λ j h. refl; bounds = put_bounds s a v f.1 g }
performed_kept (WriteTwo a v b x) s f g =
    record {
      pc = get_or-set_other (set s.regs a v) b 0 x 0 (omega (arith, f.2)) ∙ get_or-set_other s.regs a 0 v 0 (omega (arith, f.0));
      code = λ j h. refl;
      bounds = put_bounds (with_reg s a v) b x f.3 (put_bounds s a v f.1 g);
    }
performed_kept (SwapWord a i) s f g =
    let q = put_bounds s a (get_or s.memory i 0) (g.words i) g in
    record {
      pc = get_or-set_other s.regs a 0 (get_or s.memory i 0) 0 (omega (arith, f.0));
      code = λ j h. get_or-set_other s.memory i j (reg s a) 0 (omega (arith, f.1));
      bounds = record { sixteen = q.sixteen; regs = q.regs; words = words_set s.memory i (reg s a) (g.regs a) g.words };
    }
performed_kept (SetNode u j) s f g = record { pc = refl; code = λ j h. refl; bounds = record { sixteen = g.sixteen; regs = g.regs; words = g.words } }
