use Rattle.std.proofs.Common.{rules, ◌≡◌, true, false, arith}
use Rattle.std.proofs.lemmas.Iterator.{first_from_Range}
use borrow.Author.Tests.{tests}
use Rattle.links.specs.Check.{no_instruction}
use Rattle.links.proofs.Search.{lowest_from}
use Rattle.links.proofs.first_bad_address.Goals as goal

pub returns : goal.returns
returns c =
    let g = c.args in
    let test = no_instruction g.words.now in
    lowest_from test 0 g.k g.k (omega arith) c.find.result
    (first_from_Range _ _ _ c.find.result (λ x. test x ≡ true) (λ x. test x ≡ false) c.find.ensures.ran (λ x q k. search (rules, tests)) (λ x q k. search (rules, tests)))
