use mathlib.Core.Path.{◌≡◌, refl, sym, ◌∙◌}
use borrow.Author.Tests.{eqb-true, eqb-false}
use Rattle.std.specs.Prelude.{Err}
use Rattle.word.proofs.Refusal.{tested_ok, tested_err, not_zero}
use Rattle.machine.specs.Machine.{machine_of, Bounded}
use Rattle.machine.proofs.Given.{given_bounds}
use Rattle.machine.proofs.Runs.{turn_last, turn_room, turn_done, turn_refused}
use borrow.Author.Rules.{rules}
use Rattle.machine.proofs.Record.turn.Goals as goal

pub returns-in_err-begin : goal.returns-in_err-begin
returns-in_err-begin c =
    let g = c.args in
    let x = machine_of g.self g.mem.now g.table.now in
    let b : Bounded x = given_bounds x (search rules) (λ a. search rules) (search rules) (search rules) in
    let e = tested_err _ _ _ (sym c.begin.ensures ∙ c.in_err-begin.was) in
    let r : c.from_residual.result ≡ Err c.in_err-begin.field-0.0 = search rules in
    rw r (turn_last g.d x b (eqb-true _ 0 e.0) e.1)

pub returns-in_err-at : goal.returns-in_err-at
returns-in_err-at c =
    let g = c.args in
    let x = machine_of g.self g.mem.now g.table.now in
    let b : Bounded x = given_bounds x (search rules) (λ a. search rules) (search rules) (search rules) in
    let h = eqb-false _ 0 (tested_ok _ _ _ (sym c.begin.ensures ∙ c.in_ok-begin.was)) in
    let r : c.from_residual-in_err-at.result ≡ Err c.in_err-at.field-0.0 = search rules in
    let f = rw c.status.ensures at c.in_err-at.ensures in
    rw r (turn_refused g.d x b h f (not_zero c.in_err-at.field-0.0))

pub record_at-requires : goal.record_at-requires
record_at-requires c =
    let g = c.args in
    let x = machine_of g.self g.mem.now g.table.now in
    let b : Bounded x = given_bounds x (search rules) (λ a. search rules) (search rules) (search rules) in
    turn_room g.d x b (eqb-false _ 0 (tested_ok _ _ _ (sym c.begin.ensures ∙ c.in_ok-begin.was)))

pub returns : goal.returns
returns c =
    let g = c.args in
    let x = machine_of g.self g.mem.now g.table.now in
    let b : Bounded x = given_bounds x (search rules) (λ a. search rules) (search rules) (search rules) in
    let h = eqb-false _ 0 (tested_ok _ _ _ (sym c.begin.ensures ∙ c.in_ok-begin.was)) in
    let f = rw c.status.ensures at c.in_ok-at.ensures in
    rw c.record_at.ensures (turn_done g.d x b h f refl)
