use mathlib.Core.Path.{◌≡◌, sym, ◌∙◌}
use mathlib.Core.Bool.{true}
use borrow.Author.Rules.{rules}
use Rattle.step.specs.Table.{table_words}
use Rattle.step.specs.Sizes.{in_range}
use Rattle.step.proofs.Views.{view_long}
use Rattle.step.proofs.Status.has_bad_sizes.Goals as goal

pub returns : goal.returns
unfolding Rattle.step.specs.Sizes.bad_sizes
returns c =
    let g = c.args in
    let r : c.is_in_range.result ≡ true = search rules in
    let e : in_range g.self ≡ true = sym c.is_in_range.ensures ∙ r in
    simp (c.is_enough.ensures, e, view_long g.mem.now g.self.m, view_long g.table.now (table_words g.self.n))
