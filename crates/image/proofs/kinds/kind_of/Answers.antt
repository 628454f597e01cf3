use mathlib.Core.Path.{sym, ap, ◌∙◌}
use borrow.Author.Rules.{rules}
use borrow.Author.Tests.{tests}
use Rattle.std.specs.Prelude.{unwrap_or}
use Rattle.std.proofs.lemmas.Iterator.{YieldsList-from_slice}
use Rattle.std.proofs.lemmas.Iterator.Consumers.{YieldsList-from_copied}
use Rattle.std.proofs.lemmas.Iterator.Search.{find_from_yields_List}
use Rattle.word.specs.Lists.{same}
use Rattle.image.specs.declared.kinds.Kind.{Kind}
use Rattle.image.specs.Format.{kinds, oldest, last_bytes}
use Rattle.image.proofs.KindSearch.{kind_found, copy_of}
use Rattle.image.proofs.kinds.kind_of.Goals as goal

pub returns : goal.returns
returns c =
    let l = last_bytes 4 c.args.file.now in
    let f = find_from_yields_List (λ (kind : Kind). same l kind.last) _ _ c.find.result c.find.ensures.ran (YieldsList-from_copied (YieldsList-from_slice kinds cc)) (λ x b q k. search (rules, tests)) in
    c.unwrap_or.ensures ∙ ap (λ o. unwrap_or o oldest) (sym (copy_of c.find.result) ∙ f) ∙ kind_found l kinds
