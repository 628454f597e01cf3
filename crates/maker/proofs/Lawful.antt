-- What the walk relies on of the machine: setting a coin leaves the word at pc, and states that are the same are equal. Assumes nothing.
use mathlib.Core.Path.{◌≡◌, ap, ap₂, ◌∙◌}
use mathlib.Core.Bool.{true, ◌&&◌}
use Prim.Native.Nat.{ℕ, ◌<◌}
use native.Mathlib.Omega.{arith}
use lib.Dec.{eqb, ltb}
use lib.ListN.{length, get_or, length-set}
use lib.Seq.{get_or-set_same, get_or-set_other}
use borrow.Author.Tests.{ltb-true, eqb-true}
use Rattle.qins.specs.Op.{Op}
use Rattle.step.specs.declared.Direction.TheVariants.{Forward}
use Rattle.step.specs.View.{View, reg, with_reg}
use Rattle.step.specs.Step.{shifted}
use Rattle.machine.specs.Turn.{pc, br, stride, is_code, starts, finishes}
use Rattle.maker.specs.Idle.{idle_op, op_at, kind_of, coin_of, coin_at, is_register, machine}
use Rattle.word.proofs.Words.{and_true}
use Rattle.step.proofs.Same.{same_view_equal}
use Rattle.maker.proofs.Choices.{Lawful}
use Rattle.maker.proofs.Looked.{AtQif, at_qif, is_qif}

-- ---- a register that is neither pc nor br

module _ (s : View) (a x : ℕ) (h : is_register s a ≡ true) where
  above : 1 < a
  above = ltb-true 1 a (and_true (ltb 1 a) (ltb a (length s.regs)) h).0

  there : a < length s.regs
  there = ltb-true a (length s.regs) (and_true (ltb 1 a) (ltb a (length s.regs)) h).1

  pub pc_stays : pc (with_reg s a x) ≡ pc s
  pc_stays = get_or-set_other s.regs a 0 x 0 (omega (arith, above))

  pub br_stays : br (with_reg s a x) ≡ br s
  br_stays = get_or-set_other s.regs a 1 x 0 (omega (arith, above))

  pub reads : reg (with_reg s a x) a ≡ x
  reads = get_or-set_same s.regs a x 0 there

  pub op_stays : op_at (with_reg s a x) ≡ op_at s
  op_stays = ap (λ (i : ℕ). idle_op (get_or s.memory i 0)) pc_stays

  pub qif_stays : (q : AtQif s) → AtQif (with_reg s a x)
  qif_stays q =
      record {
        a = q.a;
        op = op_stays ∙ q.op;
        named = ap (λ (n : ℕ). ltb 1 q.a && ltb q.a n) (length-set s.regs a x) ∙ q.named;
        code = ap (is_code s.at) pc_stays ∙ q.code;
        runs = ap (finishes s.memory) pc_stays ∙ q.runs;
        free = ap₂ (λ (i j : ℕ). starts s.at s.memory (shifted Forward i (stride j))) pc_stays br_stays ∙ q.free;
      }

pub machine_lawful : Lawful machine
machine_lawful =
    record {
      still = λ s x e. let q = at_qif s e in is_qif (with_reg s (coin_at s) x) (qif_stays s (coin_at s) x (at_name s q) q);
      set = λ s x e. let q = at_qif s e in ap (λ (o : Op). reg (with_reg s (coin_at s) x) (coin_of (kind_of o))) (op_stays s (coin_at s) x (at_name s q)) ∙ reads s (coin_at s) x (at_name s q);
      held = λ s t x h. eqb-true (reg t (coin_at t)) x (and_true (eqb (coin_at s) (coin_at t)) (eqb (reg t (coin_at t)) x) h).1;
      alike = λ s t u h. same_view_equal _ _ h;
    }
  where
    at_name : (s : View) (q : AtQif s) → is_register s (coin_at s) ≡ true
    at_name s q = ap (λ (o : Op). is_register s (coin_of (kind_of o))) q.op ∙ q.named
