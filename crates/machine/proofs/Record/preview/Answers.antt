use mathlib.Core.Path.{◌≡◌, refl, sym, ◌∙◌}
use Rattle.std.specs.Prelude.{Err, Ok}
use Rattle.machine.specs.Machine.{Machine, machine_of, Bounded}
use Rattle.machine.proofs.Given.{given_bounds}
use Rattle.machine.proofs.Shown.{preview_is, preview_refused}
use borrow.Author.Rules.{rules}
use Rattle.machine.proofs.Record.preview.Goals as goal

pub returns-in_err-state : goal.returns-in_err-state
returns-in_err-state c =
    let g = c.args in
    let x = machine_of g.self g.mem.now g.table.now in
    let r : c.from_residual.result ≡ Err c.in_err-state.field-0.0 = search rules in
    record {
      answer = rw r (preview_refused g.d x c.in_err-state.ensures refl);
      bounds = given_bounds x (search rules) (λ a. search rules) (search rules) (search rules);
    }

pub returns : goal.returns
returns c =
    let g = c.args in
    let x = machine_of g.self g.mem.now g.table.now in
    record {
      answer = preview_is g.d x c.in_ok-state.ensures (rw c.front.ensures at c.changed.ensures) refl;
      bounds = given_bounds x (search rules) (λ a. search rules) (search rules) (search rules);
    }
