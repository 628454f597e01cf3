use mathlib.Core.Bool.{true, false}
use mathlib.Core.Path.{sym, ◌∙◌}
use Rattle.maker.proofs.Stepped.{idle_looks}
use Rattle.maker.proofs.Bounds.idle_turn.Goals as goal

pub returns-then-is_before_start : goal.returns-then-is_before_start
returns-then-is_before_start c =
    let g = c.args in idle_looks g.self.k g.self.m g.regs g.mem.now true (sym c.is_before_start.ensures ∙ c.if-is_before_start.true)

pub returns : goal.returns
returns c =
    let g = c.args in rw c.moved_on.ensures (idle_looks g.self.k g.self.m g.regs g.mem.now false (sym c.is_before_start.ensures ∙ c.if-is_before_start.false))
