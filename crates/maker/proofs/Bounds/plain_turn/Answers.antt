use mathlib.Core.Path.{sym, ap, ◌∙◌}
use Rattle.qins.specs.Op.{Op}
use Rattle.qins.specs.Decode.{decode}
use Rattle.maker.specs.Idle.{plain}
use Rattle.maker.specs.Parts.{view_at}
use Rattle.maker.proofs.Stepped.{seen_as, not_gate, is_start, is_none, none_halts}
use Rattle.maker.proofs.Bounds.plain_turn.Goals as goal

pub returns-then-not-is_gate : goal.returns-then-not-is_gate
returns-then-not-is_gate c =
    let g = c.args in
    seen_as g.self.k g.self.m g.mem.now c.real_turn.new.mem c.real_turn.result
    (ap (λ (o : Op). plain o (view_at g.self.k g.self.m g.regs g.mem.now)) (ap decode c.requires.1 ∙ sym (not_gate g.w (sym c.is_gate.ensures ∙ c.if-not-is_gate.true)))) c.real_turn.ensures

pub returns-then-not-is_instruction : goal.returns-then-not-is_instruction
returns-then-not-is_instruction c =
    let g = c.args in
    rw (is_none g.w (sym c.is_gate.ensures ∙ c.if-not-is_gate.false) (sym c.is_instruction.ensures ∙ c.if-not-is_instruction.true)) (none_halts _)

pub returns : goal.returns
returns c =
    let g = c.args in
    seen_as g.self.k g.self.m g.mem.now g.mem.now c.idle_turn.result
    (ap (λ (o : Op). plain o (view_at g.self.k g.self.m g.regs g.mem.now)) (sym (is_start g.w (sym c.is_gate.ensures ∙ c.if-not-is_gate.false) (sym c.is_instruction.ensures ∙ c.if-not-is_instruction.false)))) c.idle_turn.ensures
