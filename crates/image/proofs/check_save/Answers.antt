use mathlib.Core.Path.{sym, ◌∙◌}
use borrow.Author.Rules.{rules}
use borrow.Author.Tests.{tests, le-ltb}
use Rattle.word.specs.Refusal.{refuse}
use Rattle.image.proofs.Given.{save_bounds}
use Rattle.image.proofs.check_save.Goals as goal

pub returns-then-has_bad_sizes : goal.returns-then-has_bad_sizes
unfolding refuse
returns-then-has_bad_sizes c = record { answer = search rules; bounds = search (rules, save_bounds) }

pub returns-then-out-back_of : goal.returns-then-out-back_of
unfolding refuse
returns-then-out-back_of c = record { answer = search (rules, tests); bounds = search (rules, save_bounds) }

pub returns : goal.returns
unfolding refuse
returns c =
    record {
      answer = rw (sym c.has_bad_sizes.ensures ∙ c.if-has_bad_sizes.false, ← c.back_of.ensures, le-ltb _ _ c.if-out-back_of.false);
      bounds = search (rules, save_bounds);
    }
