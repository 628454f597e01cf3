-- The call: its tests give what the walk over the fronts of the lent words asks for.
use mathlib.Core.Path.{sym, ◌∙◌}
use native.Mathlib.Omega.{arith}
use Rattle.std.proofs.lemmas.Result.{err_from_is_err_and}
use Rattle.machine.specs.Machine.{machine_of}
use Rattle.maker.specs.Make.{made_as, cycles_in, state_in}
use Rattle.word.specs.Refusal.{number}
use Rattle.maker.proofs.Refusals.{some_number}
use Rattle.maker.proofs.Call.{Ready, ready, sized_front, refused_promise, made_promise}
use Rattle.maker.proofs.make.Goals.{In_ok-check_start}
use Rattle.maker.proofs.make.Goals as goal

pub returns-in_err-check_start : goal.returns-in_err-check_start
returns-in_err-check_start c =
    let g = c.args in
    let p = err_from_is_err_and c.from_residual.result c.from_residual.ensures.1 in
    let e = c.in_err-check_start.field-0.0 in
    rw (p.1, p.2) (refused_promise (machine_of g.r g.mem.now g.table.now) g.limit g.scratch.now _ c.in_err-check_start.ensures (some_number e))

ready_is : (c : In_ok-check_start) → Ready (machine_of c.args.r c.args.mem.now c.args.table.now) c.args.scratch.now
ready_is c = ready (machine_of c.args.r c.args.mem.now c.args.table.now) c.args.scratch.now (sym c.in_ok-check_start.ensures)

pub slice_bounds-walk_whole-end : goal.slice_bounds-walk_whole-end
slice_bounds-walk_whole-end c = (ready_is (goal.at.slice_bounds-walk_whole-end c).In_ok-check_start).words

pub slice_bounds-walk_whole-end-2 : goal.slice_bounds-walk_whole-end-2
slice_bounds-walk_whole-end-2 c = (ready_is (goal.at.slice_bounds-walk_whole-end-2 c).In_ok-check_start).front

pub slice_bounds-walk_whole-end-3 : goal.slice_bounds-walk_whole-end-3
slice_bounds-walk_whole-end-3 c = (ready_is (goal.at.slice_bounds-walk_whole-end-3 c).In_ok-check_start).nodes

pub slice_bounds-walk_whole-end-4 : goal.slice_bounds-walk_whole-end-4
slice_bounds-walk_whole-end-4 c = (ready_is (goal.at.slice_bounds-walk_whole-end-4 c).In_ok-check_start).table_front

pub slice_bounds-walk_whole-end-5 : goal.slice_bounds-walk_whole-end-5
slice_bounds-walk_whole-end-5 c = (ready_is (goal.at.slice_bounds-walk_whole-end-5 c).In_ok-check_start).room

pub slice_bounds-walk_whole-end-6 : goal.slice_bounds-walk_whole-end-6
slice_bounds-walk_whole-end-6 c = (ready_is (goal.at.slice_bounds-walk_whole-end-6 c).In_ok-check_start).room_front

pub walk_whole-requires : goal.walk_whole-requires
walk_whole-requires c =
    let h = ready_is (goal.at.walk_whole-requires c).In_ok-check_start in
    (sized_front (machine_of c.args.r c.args.mem.now c.args.table.now) c.args.limit c.args.scratch.now h, omega (arith, h.room_front), sym h.table_front)

pub returns : goal.returns
returns c =
    let g = c.args in
    let h = ready_is (goal.at.returns c).In_ok-check_start in
    let r = c.walk_whole.result in
    made_promise (machine_of g.r g.mem.now g.table.now) g.limit g.scratch.now (sym c.in_ok-check_start.ensures)
    (made_as (number r) (cycles_in r) (state_in g.r r)) c.walk_whole.new.mem c.walk_whole.new.table c.walk_whole.new.scratch
    c.walk_whole.ensures.0 c.walk_whole.ensures.1 c.walk_whole.ensures.2
    (c.walk_whole.auto.scratch ∙ sym h.room_front)
