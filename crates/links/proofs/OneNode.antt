-- What the call on one node says; the pairing rules are computed. Assumes nothing.
use mathlib.Core.Path.{◌≡◌, refl, sym, ap, ◌∙◌}
use mathlib.Core.Bool.{Bool, true, false, not, true≢false}
use Prim.Native.Nat.{ℕ, ◌<◌, ◌≤◌, min}
use native.Mathlib.Omega.{arith}
use lib.ListN.{length, take, length-take}
use borrow.Author.Tests.{not-true}
use Rattle.word.specs.Word.{pick}
use Rattle.word.specs.Refusal.{refuse}
use Rattle.word.proofs.Refusal.{refuse_passed, refuse_refused, refuse_neither}
use Rattle.step.specs.Table.{is_node, link}
use Rattle.step.specs.Sizes.{in_range, bad_sizes}
use Rattle.machine.specs.Machine.{Machine, wrong_sizes}
use Rattle.links.specs.Check.{returns, children_return, unpaired, bad_links, check_node_of}
use Rattle.links.specs.Claims.{BeforeLinks, AnyWords, Pairing, Astray}
use Rattle.links.proofs.Decides.{node}

module _ (x : Machine) (v : ℕ) where
  abbrev n : ℕ
  n = x.state.n

  ten_told : check_node_of x v ≡ 10 → wrong_sizes x ≡ true
  ten_told e =
      (refuse_refused (wrong_sizes x) _ _ _ e
      (refuse_neither (not (is_node n v)) _ _ _ (λ e. omega (arith, e)) (refuse_neither (bad_links x v) _ _ _ (λ e. omega (arith, e)) (λ e. omega (arith, e))))).0

  outside_told : check_node_of x v ≡ 17 → (wrong_sizes x ≡ false) × ((0 < v) × (v ≤ n) → ⊥)
  outside_told e =
      let (w, d) = refuse_passed (wrong_sizes x) _ _ _ e (λ e. omega (arith, e)) in
      let (o, _) = refuse_refused (not (is_node n v)) _ _ _ d (refuse_neither (bad_links x v) _ _ _ (λ e. omega (arith, e)) (λ e. omega (arith, e))) in
      (w, λ p. true≢false (sym ((node n v).1 p) ∙ not-true _ o))

  outside_refused : wrong_sizes x ≡ false → ((0 < v) × (v ≤ n) → ⊥) → check_node_of x v ≡ 17
  unfolding refuse
  outside_refused w h = go (is_node n v) refl
    where
      go : (b : Bool) → is_node n v ≡ b → check_node_of x v ≡ 17
      go true e = absurd (h ((node n v).0 e))
      go false e = rw (w, e)

  -- of a node of the table its links decide
  pub links_decide : wrong_sizes x ≡ false → 0 < v → v ≤ n → check_node_of x v ≡ pick (bad_links x v) 8 0
  unfolding refuse
  links_decide w h k = rw (w, (node n v).1 (h, k)) (go (bad_links x v))
    where
      go : (b : Bool) → ◌≡◌ {A = ℕ} (refuse b 8 0) (pick b 8 0)
      go true = refl
      go false = refl

pub before_links : BeforeLinks
unfolding refuse
before_links =
    record {
      sizes = λ x v. (ten_told x v, λ w. rw w);
      outside = λ x v. (outside_told x v, λ p. outside_refused x v p.0 p.1);
    }

pub any_words : AnyWords
unfolding bad_sizes refuse
any_words x v mem e =
    let m = x.state.m in
    let l : length (take m x.memory) ≡ length (take m mem) = length-take m x.memory ∙ ap (min m) e ∙ sym (length-take m mem) in
    rw l

pub pairing : Pairing
unfolding link in_range bad_sizes returns children_return unpaired refuse
pairing = refl

pub astray : Astray
unfolding link in_range bad_sizes returns children_return unpaired refuse
astray = record { elsewhere = refl; above = refl }
