-- What the check says, whole and node by node. Assumes nothing.
use mathlib.Core.Path.{◌≡◌, refl, sym, ap, ◌∙◌}
use mathlib.Core.Bool.{Bool, true, false, not}
use Prim.Native.Nat.{ℕ, ◌+◌, ◌<◌, ◌≤◌}
use native.Mathlib.Omega.{arith}
use lib.ListN.{get_or}
use lib.Seq.{get_or-take}
use lib.Dec.{ltb, leb}
use borrow.Author.Tests.{ltb-true, ltb-false, leb-true, leb-false, le-ltb, le-leb, lt-leb, not-true, not-false}
use Rattle.word.specs.Refusal.{refuse}
use Rattle.word.proofs.Words.{pick_first, pick_second}
use Rattle.word.proofs.Refusal.{refuse_passed, refuse_refused, refuse_neither}
use Rattle.qins.specs.Decode.{is_instruction}
use Rattle.step.specs.Table.{is_node}
use Rattle.machine.specs.declared.Record.{Record}
use Rattle.machine.specs.Machine.{Machine, state_of, wrong_sizes}
use Rattle.links.specs.declared.Checked.{Checked}
use Rattle.links.specs.Check.{no_instruction, bad_address, bad_links, bad_node, checked_as, check_of, check_node_of}
use Rattle.links.specs.Claims.{FirstBadWord, InOrder, BeforeNodes, FirstBadNode, NodeByNode}
use Rattle.links.proofs.Search.{Found, found, found_is}
use Rattle.links.proofs.Decides.{node}
use Rattle.links.proofs.OneNode.{links_decide}
use Rattle.links.proofs.Answers.{check_sizes, check_code}
use Rattle.machine.proofs.WrongSizes.{wrong_sizes_right}

-- ---- answers of the check

number : {a b : Checked} → a ≡ b → a.refusal ≡ b.refusal
number e = ap (λ (c : Checked). c.refusal) e

place : {a b : Checked} → a ≡ b → a.place ≡ b.place
place e = ap (λ (c : Checked). c.place) e

module _ (x : Machine) where
  abbrev r : Record
  r = x.state

  -- what the check gives of the nodes: 8 or 0
  abbrev of_nodes : Checked
  of_nodes = refuse (leb (bad_node x) r.n) (checked_as 8 (bad_node x)) (checked_as 0 0)

  not_of_nodes : {n : ℕ} → (8 ≡ n → ⊥) → (0 ≡ n → ⊥) → of_nodes.refusal ≡ n → ⊥
  unfolding refuse
  not_of_nodes {n} h i = go (leb (bad_node x) r.n)
    where
      go : (t : Bool) → (refuse t (checked_as 8 (bad_node x)) (checked_as 0 0)).refusal ≡ n → ⊥
      go true e = h e
      go false e = i e

  -- the check's test of a code address
  abbrev is_bad : ℕ → Bool
  is_bad = no_instruction (state_of x).words

  -- it is told by the lent memory's word, and tells of it
  module _ (w : wrong_sizes x ≡ false) (a : ℕ) (h : a < r.k) where
    same_word : get_or (state_of x).words a 0 ≡ get_or x.memory a 0
    same_word = let s = (wrong_sizes_right x w).code in get_or-take r.m x.memory a 0 (omega arith)

    tested : {b : Bool} → is_instruction (get_or x.memory a 0) ≡ b → is_bad a ≡ not b
    tested e = ap not (ap is_instruction same_word ∙ e)

    good_word : is_bad a ≡ false → is_instruction (get_or x.memory a 0) ≡ true
    good_word e = ap is_instruction (sym same_word) ∙ not-false _ e

    bad_word : is_bad a ≡ true → is_instruction (get_or x.memory a 0) ≡ false
    bad_word e = ap is_instruction (sym same_word) ∙ not-true _ e

  found_word : Found is_bad 0 r.k (bad_address x)
  found_word = found _ r.k 0

  found_node : Found (bad_links x) 1 r.n (bad_node x)
  found_node = found _ r.n 1

  -- ---- before the nodes

  not_ten : of_nodes.refusal ≡ 10 → ⊥
  not_ten = not_of_nodes (λ e. omega (arith, e)) (λ e. omega (arith, e))

  not_seven : of_nodes.refusal ≡ 7 → ⊥
  not_seven = not_of_nodes (λ e. omega (arith, e)) (λ e. omega (arith, e))

  sizes_told : check_of x ≡ checked_as 10 0 → wrong_sizes x ≡ true
  sizes_told e =
      (refuse_refused (wrong_sizes x) _ _ _ e (refuse_neither (ltb (bad_address x) r.k) _ _ _ (λ e. omega (arith, number e)) (λ e. not_ten (number e)))).0

  word_told : (a : ℕ) → check_of x ≡ checked_as 7 a → (wrong_sizes x ≡ false) × FirstBadWord x a
  word_told a e =
      let (w, d) = refuse_passed (wrong_sizes x) _ _ _ e (λ e. omega (arith, number e)) in
      let (t, c) = refuse_refused (ltb (bad_address x) r.k) _ _ _ d (λ e. not_seven (number e)) in
      let p : bad_address x ≡ a = place c in
      let h : a < r.k = rw (← p) (ltb-true _ _ t) in
      let f : Found is_bad 0 r.k a = rw (← p) found_word in
      (w, record { code = h; bad = bad_word w a h (f.holds (omega arith)); lower = λ b k. good_word w b (omega arith) (f.passed.below b (omega arith) k) })

  word_first : (a : ℕ) → wrong_sizes x ≡ false → FirstBadWord x a → check_of x ≡ checked_as 7 a
  word_first a w b =
      let h = b.code in
      let f : Found is_bad 0 r.k a =
      record {
        passed = record { least = omega arith; most = omega arith; below = λ v l k. tested w v (omega arith) (b.lower v k) };
        holds = λ k. tested w a h b.bad;
      } in
      sym (check_code x w a (sym (found_is is_bad 0 r.k a f)) h)

  -- where all is in order, the nodes decide
  nodes_decide : InOrder x → check_of x ≡ of_nodes
  unfolding refuse
  nodes_decide o =
      let f : Found is_bad 0 r.k r.k =
      record {
        passed = record { least = omega arith; most = omega arith; below = λ v h k. tested o.sizes v k (o.code v k) };
        holds = λ h. absurd (omega arith);
      } in
      let e : bad_address x ≡ r.k = found_is is_bad 0 r.k r.k f in
      rw (o.sizes, e, le-ltb r.k r.k (omega arith))

  in_order : ((check_of x).refusal ≡ 10 → ⊥) → ((check_of x).refusal ≡ 7 → ⊥) → InOrder x
  unfolding refuse
  in_order h k = go (wrong_sizes x) refl (ltb (bad_address x) r.k) refl
    where
      go : (w : Bool) → wrong_sizes x ≡ w → (c : Bool) → ltb (bad_address x) r.k ≡ c → InOrder x
      go true w c e = absurd (h (rw w refl))
      go false w true e = absurd (k (rw (w, e) refl))
      go false w false e =
          let l = ltb-false (bad_address x) r.k e in
          record { sizes = w; code = λ a k. good_word w a k (found_word.passed.below a (omega arith) (omega arith)) }

  -- ---- node by node

  bad_told : (p : ℕ) → InOrder x → check_of x ≡ checked_as 8 p → FirstBadNode x p
  bad_told p o e =
      let (t, c) = refuse_refused (leb (bad_node x) r.n) _ _ _ (sym (nodes_decide o) ∙ e) (λ e. omega (arith, number e)) in
      let q : bad_node x ≡ p = place c in
      let h : p ≤ r.n = rw (← q) (leb-true _ _ t) in
      let f : Found (bad_links x) 1 r.n p = rw (← q) found_node in
      let l = f.passed.least in
      record {
        bad = links_decide x p o.sizes (omega arith) h ∙ rw (f.holds (omega arith));
        lower = λ v k m. links_decide x v o.sizes k (omega arith) ∙ rw (f.passed.below v (omega arith) m);
      }

  -- what a call on a node tells
  node_told : (v n : ℕ) → (10 ≡ n → ⊥) → (17 ≡ n → ⊥) → check_node_of x v ≡ n → is_node r.n v ≡ true
  node_told v n h k e =
      let (w, d) = refuse_passed (wrong_sizes x) _ _ _ e h in
      not-false _ (refuse_passed (not (is_node r.n v)) _ _ _ d k).0

  -- p is what the search over the nodes finds where the call gives 0 below it, and 8 on it unless it is the end
  found_at : wrong_sizes x ≡ false → (p : ℕ) → 0 < p → p ≤ r.n + 1 → ((v : ℕ) → 0 < v → v < p → check_node_of x v ≡ 0)
      → (p ≤ r.n → check_node_of x p ≡ 8) → bad_node x ≡ p
  found_at w p l m below at =
      let f : Found (bad_links x) 1 r.n p =
      record {
        passed = record { least = omega arith; most = omega arith; below = λ v h k. (pick_second (bad_links x v) (λ e. omega (arith, e)) (sym (links_decide x v w (omega arith) (omega arith)) ∙ below v (omega arith) k)).0 };
        holds = λ h. (pick_first (bad_links x p) (λ e. omega (arith, e)) (sym (links_decide x p w l (omega arith)) ∙ at (omega arith))).0;
      } in
      found_is _ 1 r.n p f

  bad_first : (p : ℕ) → InOrder x → FirstBadNode x p → check_of x ≡ checked_as 8 p
  unfolding refuse
  bad_first p o b =
      let (h, k) = (node r.n p).0 (node_told p 8 (λ e. omega (arith, e)) (λ e. omega (arith, e)) b.bad) in
      let e = found_at o.sizes p h (omega arith) b.lower (λ h. b.bad) in
      nodes_decide o ∙ rw (e, le-leb p r.n k)

  good_told : InOrder x → check_of x ≡ checked_as 0 0 → (v : ℕ) → 0 < v → v ≤ r.n → check_node_of x v ≡ 0
  good_told o e v h k =
      let t = refuse_passed (leb (bad_node x) r.n) _ _ _ (sym (nodes_decide o) ∙ e) (λ e. omega (arith, number e)) in
      let l = leb-false (bad_node x) r.n t.0 in
      links_decide x v o.sizes h k ∙ rw (found_node.passed.below v (omega arith) (omega arith))

  good_all : InOrder x → ((v : ℕ) → 0 < v → v ≤ r.n → check_node_of x v ≡ 0) → check_of x ≡ checked_as 0 0
  unfolding refuse
  good_all o a =
      let e = found_at o.sizes (r.n + 1) (omega arith) (omega arith) (λ v h k. a v h (omega arith)) (λ h. absurd (omega arith)) in
      nodes_decide o ∙ rw (e, lt-leb (r.n + 1) r.n (omega arith))

pub before_nodes : BeforeNodes
before_nodes =
    record {
      sizes = λ x. (sizes_told x, λ w. sym (check_sizes x w));
      words = λ x a. (word_told x a, λ p. word_first x a p.0 p.1);
      passed = λ x. (
        λ p. in_order x p.0 p.1,
        λ o. let e = number (nodes_decide x o) in
            (λ f. not_ten x (sym e ∙ f), λ f. not_seven x (sym e ∙ f)),
      );
    }

pub node_by_node : NodeByNode
node_by_node =
    record {
      bad = λ x p o. (bad_told x p o, bad_first x p o);
      good = λ x o. (good_told x o, good_all x o);
    }
