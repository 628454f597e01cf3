use Rattle.std.proofs.Common.{refl, sym, ◌∙◌, arith}
use Rattle.machine.specs.Machine.{machine_of}
use Rattle.machine.proofs.WrongSizes.{wrong_sizes_right}
use Rattle.links.proofs.Search.{lowest_there, lowest_none}
use Rattle.links.proofs.Answers.{check_code, check_node_lem, check_good}
use Rattle.links.proofs.check.Goals as goal

pub first_unpaired-requires : goal.first_unpaired-requires
first_unpaired-requires c =
    let g = c.args in
    omega (arith, (wrong_sizes_right (machine_of g.r g.mem.now g.table.now) (sym c.has_bad_sizes.ensures ∙ c.if-has_bad_sizes.false)).nodes)

pub returns-in-Some : goal.returns-in-Some
returns-in-Some c =
    let g = c.args in
    let (e, h) = lowest_there _ 0 g.r.k c.in-Some.address (sym c.in-Some.is ∙ (rw c.front.ensures at c.first_bad_address.ensures)) in
    check_code (machine_of g.r g.mem.now g.table.now) (sym c.has_bad_sizes.ensures ∙ c.if-has_bad_sizes.false) c.in-Some.address e (omega arith)

pub returns-in-Some-first_unpaired : goal.returns-in-Some-first_unpaired
returns-in-Some-first_unpaired c =
    let g = c.args in
    let h = lowest_none _ 0 g.r.k (sym c.in_default.is ∙ (rw c.front.ensures at c.first_bad_address.ensures)) in
    let (e, k) = lowest_there _ 1 g.r.n c.in-Some-first_unpaired.node (sym c.in-Some-first_unpaired.is ∙ c.first_unpaired.ensures) in
    check_node_lem (machine_of g.r g.mem.now g.table.now) (sym c.has_bad_sizes.ensures ∙ c.if-has_bad_sizes.false) _ refl (omega arith) c.in-Some-first_unpaired.node e (omega arith)

pub returns-in-None : goal.returns-in-None
returns-in-None c =
    let g = c.args in
    let h = lowest_none _ 0 g.r.k (sym c.in_default.is ∙ (rw c.front.ensures at c.first_bad_address.ensures)) in
    let k = lowest_none _ 1 g.r.n (sym c.in-None.is ∙ c.first_unpaired.ensures) in
    check_good (machine_of g.r g.mem.now g.table.now) (sym c.has_bad_sizes.ensures ∙ c.if-has_bad_sizes.false) _ refl (omega arith) _ refl (omega arith)
