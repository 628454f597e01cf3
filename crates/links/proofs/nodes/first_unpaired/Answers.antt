use Rattle.std.proofs.Common.{rules, ◌≡◌, ◌+◌, true, false, arith}
use Rattle.std.proofs.lemmas.Iterator.{first_from_Range}
use borrow.Author.Tests.{tests}
use Rattle.step.specs.View.{words_in}
use Rattle.links.specs.Check.{unpaired}
use Rattle.links.proofs.Search.{lowest_from}
use Rattle.links.proofs.nodes.first_unpaired.Goals as goal

pub returns : goal.returns
returns c =
    let g = c.args in
    let test = unpaired (words_in g.t) g.t.n in
    lowest_from test 1 g.t.n (g.t.n + 1) (omega arith) c.find.result
    (first_from_Range _ _ _ c.find.result (λ x. test x ≡ true) (λ x. test x ≡ false) c.find.ensures.ran (λ x q k. search (rules, tests)) (λ x q k. search (rules, tests)))
