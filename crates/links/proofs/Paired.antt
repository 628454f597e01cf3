-- The check's test of a node, told in the words of the lent table. Assumes nothing.
use mathlib.Core.Path.{◌≡◌, refl, sym, ◌∙◌}
use mathlib.Core.Bool.{Bool, true, false, true≢false}
use mathlib.Core.Logic.{◌↔◌}
use mathlib.Core.List.{List}
use Prim.Native.Nat.{ℕ, ◌+◌, ◌-◌, ◌<◌, ◌≤◌}
use native.Mathlib.Omega.{arith}
use lib.ListN.{take}
use lib.Seq.{get_or-take}
use borrow.Author.Tests.{not-false}
use Rattle.word.specs.Word.{pick}
use Rattle.word.proofs.Words.{pick_first, pick_second}
use Rattle.step.specs.Table.{node_words, table_words, fc, lc, cf, cl, nx, pr, link}
use Rattle.step.proofs.Views.{link_node}
use Rattle.machine.specs.Machine.{Machine, wrong_sizes}
use Rattle.links.specs.Check.{returns, children_return, unpaired, bad_links, check_node_of}
use Rattle.links.specs.Claims.{word_of, Paired, ChildrenPaired, AllPaired, OnLinks}
use Rattle.links.proofs.Decides.{Decides, both, either, equal, node}
use Rattle.links.proofs.OneNode.{links_decide}

-- ---- links

module _ (table : List ℕ) (n : ℕ) where
  abbrev t : List ℕ
  t = take (table_words n) table

  link_word : (v j : ℕ) → 0 < v → v ≤ n → j < node_words → link t n v j ≡ word_of table v j
  link_word v j h k l = sym (link_node t n v j h k) ∙ get_or-take (table_words n) table (table_words (v - 1) + j) 0 (omega arith)

  module _ (v : ℕ) (h : 0 < v) (k : v ≤ n) where
    paired : (j g i : ℕ) → j < node_words → g < node_words → i < node_words → Decides (returns t n v j g i) (Paired table n v j g i)
    unfolding returns
    paired j g i a b c =
        let e = link_word v j h k a in
        rw e (either (equal refl) (both (node n (word_of table v j)) (λ p. either (equal (link_word _ g p.0 p.1 b)) (equal (link_word _ i p.0 p.1 c)))))

    children : (x : ℕ) → x < 2 → Decides (children_return t n v x) (ChildrenPaired table n v x)
    unfolding children_return
    children x l =
        both (paired (fc x) cf cf (omega arith) (omega arith) (omega arith)) (λ _. paired (lc x) cl cl (omega arith) (omega arith) (omega arith))

    all_paired : (unpaired t n v ≡ false) ↔ AllPaired table n v
    unfolding unpaired
    all_paired =
        let f =
        both (children 0 (omega arith))
        (λ _. both (children 1 (omega arith))
        (λ _. both (paired nx pr pr (omega arith) (omega arith) (omega arith))
        (λ _. both (paired pr nx nx (omega arith) (omega arith) (omega arith))
        (λ _. both (paired cf (fc 0) (fc 1) (omega arith) (omega arith) (omega arith))
        (λ _. paired cl (lc 0) (lc 1) (omega arith) (omega arith) (omega arith)))))) in
        (λ e. f.0 (not-false _ e), λ p. let e = f.1 p in rw e)

-- ---- the call

module _ (x : Machine) (v : ℕ) (w : wrong_sizes x ≡ false) (h : 0 < v) (k : v ≤ x.state.n) where
  abbrev Good : Type 0
  Good = AllPaired x.table x.state.n v

  links_tell : (bad_links x v ≡ false) ↔ Good
  links_tell = all_paired x.table x.state.n v h k

  decided : check_node_of x v ≡ pick (bad_links x v) 8 0
  decided = links_decide x v w h k

  good_links : (check_node_of x v ≡ 0) ↔ Good
  good_links =
      (λ e. links_tell.0 (pick_second (bad_links x v) (λ e. omega (arith, e)) (sym decided ∙ e)).0, λ p. decided ∙ rw (links_tell.1 p))

  bad_links_lem : (check_node_of x v ≡ 8) ↔ (Good → ⊥)
  bad_links_lem = (
    λ e p. true≢false (sym (pick_first (bad_links x v) (λ e. omega (arith, e)) (sym decided ∙ e)).0 ∙ links_tell.1 p),
    λ f. go f (bad_links x v) refl,
  )
    where
      go : (Good → ⊥) → (b : Bool) → bad_links x v ≡ b → check_node_of x v ≡ 8
      go f true e = decided ∙ rw e
      go f false e = absurd (f (links_tell.0 e))

pub on_links : OnLinks
on_links = record { good = good_links; bad = bad_links_lem }
