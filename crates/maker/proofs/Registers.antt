-- Every qif and fiq names one of sixteen registers, neither pc nor br. Assumes nothing.
use mathlib.Core.Path.{◌≡◌, subst}
use mathlib.Core.Bool.{Bool, true, false}
use Prim.Native.Nat.{ℕ, ◌<◌}
use native.Mathlib.Omega.{arith}
use lib.ListN.{length}
use borrow.Author.Tests.{lt-ltb}
use Rattle.word.specs.Word.{pick}
use Rattle.qins.specs.Op.{Op}
use Rattle.qins.specs.Op.Op.{None, Start, Qif, Fiq}
use Rattle.qins.specs.Decode.{decode, is_instruction}
use Rattle.qins.proofs.Formed.{Formed, decode_formed}
use Rattle.step.specs.View.{View}
use Rattle.maker.specs.Idle.{is_gate, idle_op, is_register}

either : (b : Bool) (o p : Op) → Formed o → Formed p → Formed (pick b o p)
either true o p h k = h
either false o p h k = k

op_formed : (w : ℕ) → Formed (idle_op w)
unfolding idle_op
op_formed w = either (is_gate w) (pick (is_instruction w) Start None) (decode w) (either (is_instruction w) Start None tt tt) (decode_formed w)

within : (s : View) (a : ℕ) → length s.regs ≡ 16 → Formed (Qif a) → is_register s a ≡ true
within s a l h =
    let p : 1 < a = omega (arith, h.0.0, h.1) in
    let q : a < length s.regs = omega (arith, l, h.0.1) in
    rw (lt-ltb 1 a p, lt-ltb a (length s.regs) q)

pub qif_register : (s : View) (w a : ℕ) → length s.regs ≡ 16 → idle_op w ≡ Qif a → is_register s a ≡ true
qif_register s w a l e = within s a l (subst Formed e (op_formed w))

pub fiq_register : (s : View) (w a : ℕ) → length s.regs ≡ 16 → idle_op w ≡ Fiq a → is_register s a ≡ true
fiq_register s w a l e = within s a l (subst Formed e (op_formed w))
