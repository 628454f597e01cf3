use mathlib.Core.Path.{refl}
use mir.Syntax.{w64}
use mir.Val.{SFits}
use Rattle.machine.specs.Machine.{machine_of}
use Rattle.machine.proofs.Given.{given_bounds}
use Rattle.machine.proofs.Runs.{run_starts, run_full, run_again, run_stop}
use borrow.Author.Rules.{rules}
use Rattle.machine.proofs.Record.run.Goals as goal

pub loop-i-init : goal.loop-i-init
loop-i-init c =
    let g = c.args in
    let f : SFits w64 g.self.position = search rules in
    let x = machine_of g.self g.mem.now g.table.now in
    run_starts {x = x} c.status-at.ensures f c.limit-most.ensures
    (given_bounds x (search rules) (λ a. search rules) c.type_inv.mem f)

pub returns-in-Err : goal.returns-in-Err
returns-in-Err c = run_stop c.loop-i.invariant c.in-Err.ensures c.loop-i-test.true refl

pub loop-i-preserved : goal.loop-i-preserved
loop-i-preserved c = run_again c.loop-i.invariant c.in-Ok.ensures c.loop-i-test.true refl

pub returns-then-most-n : goal.returns-then-most-n
returns-then-most-n c = run_full c.loop-i.invariant c.loop-i-test.false c.if-most-n.true c.last_refusal.ensures
