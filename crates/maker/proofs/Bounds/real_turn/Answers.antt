use mathlib.Core.Path.{refl}
use Rattle.std.proofs.lemmas.Result.{err_from_is_err_and}
use Rattle.maker.proofs.Refusals.{some_number}
use Rattle.maker.proofs.Stepped.{turns}
use Rattle.maker.proofs.Bounds.real_turn.Goals as goal

pub returns-in_err-next : goal.returns-in_err-next
returns-in_err-next c =
    let g = c.args in
    let b = g.self.in_range in
    let p = err_from_is_err_and c.from_residual.result c.from_residual.ensures.1 in
    let e = c.in_err-next.field-0.0 in
    rw (p.1, p.2) ((turns g.self.k g.self.m g.regs g.mem.now (b.0, b.1, b.2, c.requires.0) c.requires.1 c.record.result _ _ c.record.result _ c.record.ensures c.in_err-next.ensures).refused (some_number e))

pub returns : goal.returns
returns c =
    let g = c.args in
    let b = g.self.in_range in
    (turns g.self.k g.self.m g.regs g.mem.now (b.0, b.1, b.2, c.requires.0) c.requires.1 c.record.result _ 0 c.in_ok-next.next _ c.record.ensures c.in_ok-next.ensures).made_is refl
