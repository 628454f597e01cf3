-- The claims of a made table. Assumes nothing.
use mathlib.Core.Path.{◌≡◌, refl, sym, ap, ap₂, ◌∙◌, subst, subst₂}
use mathlib.Core.Bool.{Bool, true, false, not, ◌||◌, false≢true}
use mathlib.Core.Logic.{◌⊎◌, inl, inr}
use mathlib.Core.List.{List, [], ◌∷◌, ◌++◌}
use Prim.Native.Nat.{ℕ, zero, suc, ◌+◌, ◌-◌, ◌*◌, ◌<◌, ◌≤◌}
use native.Mathlib.Omega.{arith}
use lib.Dec.{eqb}
use lib.ListN.{length, get_or, take, drop, replicate, length-replicate, get_or-append}
use lib.Seq.{length-take-le, take-append-le, get_or-take}
use borrow.Author.Tests.{lt-ltb, le-leb, eqb-true, eqb-false}
use Rattle.word.specs.Word.{pick}
use Rattle.step.specs.declared.Direction.TheVariants.{Forward}
use Rattle.std.specs.Prelude.{Err}
use Rattle.step.specs.Table.{table_words}
use Rattle.word.specs.Refusal.{refuse}
use Rattle.step.specs.Sizes.{in_range, bad_sizes}
use Rattle.step.proofs.BadSizes.{bad_sizes_right}
use Rattle.step.specs.View.{View, placed}
use Rattle.machine.specs.Turn.{pc, landed, judged, executed, planned}
use Rattle.machine.specs.declared.Record.{Record}
use Rattle.machine.specs.Machine.{Machine, machine_of, state_of, view_of, wrong_sizes}
use Rattle.links.specs.Check.{unpaired, check_of, check_node_of}
use Rattle.maker.specs.declared.Made.{Made}
use Rattle.maker.specs.Walk.{Walk, size, cycles, ending, drawn}
use Rattle.maker.specs.Making.{Outcome, branch_at}
use Rattle.maker.specs.Making.Outcome.{refused, ended}
use Rattle.maker.specs.Idle.{idle_op, machine}
use Rattle.maker.specs.Follow.{idled, planned_idle, walker, follows}
use Rattle.maker.specs.Follow.Went.{went}
use Rattle.maker.specs.Parts.{view_at}
use Rattle.maker.specs.Make.{most_words, can_begin, refusal_of, outcome_of, made_as, with_table, answer_of, drawn_by, MakePromise}
use Rattle.maker.specs.Claims.{EveryChoice, OnMade, is_one_of, walk_refusals, OnRefused, AnyNesting, IdleTurns}
use Rattle.maker.proofs.Choices.{Holds}
use Rattle.maker.proofs.Same.{few_nodes}
use Rattle.maker.proofs.Drawn.{word, stable, drawn_long, drawn_holds}
use Rattle.maker.proofs.Looked.{halt_is}
use Rattle.maker.proofs.Lawful.{machine_lawful}
use Rattle.maker.proofs.Turns.{Sized, from_is}
use Rattle.maker.proofs.Followed.{machine_follows, at_finish}
use Rattle.maker.proofs.Numbers.{Numbered, branch_numbered}
use Rattle.maker.proofs.Links.{made_paired, made_zeros, node_passes, check_passes}
use Rattle.maker.proofs.Call.{Ready, ready}
use Rattle.word.specs.declared.refusals.Refusal.TheVariants.{End}

abbrev zeros : ℕ → List ℕ
zeros n = replicate n 0

zeros_long : (n : ℕ) → length (zeros n) ≡ n
zeros_long n = length-replicate n 0

zero_word : (n i : ℕ) → get_or (zeros n) i 0 ≡ 0
zero_word zero i = refl
zero_word (suc n) zero = refl
zero_word (suc n) (suc i) = zero_word n i

-- ---- a table that was drawn from zeros, of which the nodes count

module _ (p : Walk) (few : 1 + size p ≤ 511) where
  abbrev N : ℕ
  N = 1 + size p

  abbrev D : List ℕ
  D = drawn p 1 1 (zeros most_words)

  abbrev t : List ℕ
  t = take (9 * N) D

  long : 9 * N ≤ length D
  long = omega (arith, few, drawn_long p 1 1 (zeros most_words), zeros_long most_words)

  front : (rest : List ℕ) → take (9 * N) (D ++ rest) ≡ t
  front rest = take-append-le (9 * N) D rest long

  holds : Holds t N p 1 1
  holds =
      stable D t N p 1 1 (omega arith)
      (record {
        start = λ i k o d. kept 1 i (omega arith) (omega arith) k;
        made = λ u i k l j d. kept u i (omega (arith, k)) l j;
      })
      (drawn_holds p 1 1 N (zeros most_words) (omega arith) (omega arith) (omega arith) (omega (arith, few, zeros_long most_words)))
    where
      kept : (u i : ℕ) → 1 ≤ u → u ≤ N → i < 9 → word D u i ≡ word t u i
      kept u i h k l = sym (get_or-take (9 * N) D (9 * (u - 1) + i) 0 (omega (arith, h, k, l)))

-- ---- what an accepted call comes to

abbrev finished : Machine → Walk → Machine
finished x p = machine_of (with_table x.state (1 + size p)) x.memory (drawn p 1 1 (zeros most_words) ++ drop most_words x.table)

module _ (x : Machine) (limit : ℕ) (p : Walk) (z : View) (e : outcome_of x limit ≡ ended p z) (sizes : (0 < x.state.k) × (x.state.k ≤ x.state.m) × (x.state.m ≤ 8192))
    (words : x.state.m ≤ length x.memory) (wait : x.state.qifw ≡ 0) where
  abbrev r : Record
  r = x.state

  s : View
  s = view_at r.k r.m r.regs (state_of x).words

  abbrev full : List ℕ
  full = (finished x p).table

  walk_is : branch_at machine limit 8 false 1 0 s ≡ ended p z
  unfolding outcome_of s
  walk_is = e

  few : 1 + size p ≤ 511
  few = few_nodes machine machine_lawful limit 8 s z p walk_is

  sized : Sized (t p few) (1 + size p) s
  unfolding bad_sizes in_range s
  sized =
      rw (
        lt-ltb 0 r.k sizes.0,
        le-leb r.k r.m sizes.1,
        le-leb r.m 8192 sizes.2,
        le-leb (1 + size p) 511 few,
        le-leb r.m (length (state_of x).words) (omega (arith, length-take-le r.m x.memory words)),
        le-leb (9 * (1 + size p)) (length (t p few)) (omega (arith, length-take-le (9 * (1 + size p)) (D p few) (long p few))),
      )

  begins : view_of (finished x p) ≡ placed (1 + size p) 1 0 s
  unfolding s
  begins = ap (λ (j : ℕ). placed (1 + size p) 1 j s) wait

  last : View
  last = placed (1 + size p) (ending p 1 1) 0 z

  goes : (c : ℕ → ℕ) → ((i : ℕ) → c i ≤ 1)
      → (follows (t p few) c (cycles p) 0 (walker (placed (1 + size p) 1 0 s) []) ≡ went (walker last [])) × Sized (t p few) (1 + size p) z
  unfolding last
  goes c b = machine_follows limit 8 s z p walk_is (t p few) sized (holds p few) c b

  stands : planned_idle (t p few) last ≡ Err End
  unfolding last judged refuse bad_sizes in_range
  stands =
      let f = at_finish limit 8 s z p walk_is (t p few) in
      ap (λ (y : View). judged (t p few) Forward false (pc last) y (landed Forward y (idled (t p few) y))) (from_is last)
      ∙ rw ((goes (λ i. 0) (λ i. omega arith)).1, f.0, f.1)

  every : EveryChoice (cycles p) (finished x p)
  every =
      record {
        end = last;
        walks = λ c b.
            ap₂ (λ (l : List ℕ) (y : View). follows l c (cycles p) 0 (walker y [])) (front p few (drop most_words x.table)) begins ∙ (goes c b).0;
        finished = ap (λ (x : List ℕ). planned_idle x last) (front p few (drop most_words x.table)) ∙ stands;
      }

  -- the record's own sizes
  right_sizes : wrong_sizes (finished x p) ≡ false
  unfolding bad_sizes in_range
  right_sizes =
      rw (
        front p few (drop most_words x.table),
        lt-ltb 0 r.k sizes.0,
        le-leb r.k r.m sizes.1,
        le-leb r.m 8192 sizes.2,
        le-leb (1 + size p) 511 few,
        le-leb r.m (length (state_of x).words) (omega (arith, length-take-le r.m x.memory words)),
        le-leb (9 * (1 + size p)) (length (t p few)) (omega (arith, length-take-le (9 * (1 + size p)) (D p few) (long p few))),
      )

  linked : (v : ℕ) → 0 < v → v ≤ 1 + size p → unpaired (take (9 * (1 + size p)) full) (1 + size p) v ≡ false
  linked v h k =
      ap (λ (x : List ℕ). unpaired x (1 + size p) v) (front p few (drop most_words x.table))
      ∙ made_paired p (zeros most_words) v (omega (arith, few, zeros_long most_words)) (zero_word most_words) h k

  behind : (i : ℕ) → 9 * (1 + size p) ≤ i → i < most_words → get_or full i 0 ≡ 0
  behind i h k =
      get_or-append (D p few) (drop most_words x.table) 0 i (omega (arith, k, drawn_long p 1 1 (zeros most_words), zeros_long most_words))
      ∙ made_zeros p (zeros most_words) i few (omega (arith, zeros_long most_words)) (zero_word most_words) h

-- ---- of whatever the call promises

numbered : (x : Machine) (limit : ℕ) → Numbered (outcome_of x limit)
unfolding outcome_of
numbered x limit = branch_numbered machine halt_is limit 8 false 1 0 _

listed : (i : ℕ) → is_one_of i walk_refusals ≡ true → ¬ (i ≡ 0)
listed i h e = false≢true (subst (λ (j : ℕ). is_one_of j walk_refusals ≡ true) e h)

-- 10 or 22
abbrev number : Bool → Bool → ℕ
number a b = refuse a 10 (refuse (not b) 22 0)

module _ {x y : Machine} {limit n c : ℕ} {scratch scratch' : List ℕ} (m : MakePromise x limit scratch n c y scratch') where
  abbrev a : Made
  a = made_as n c y.state

  abbrev start : ℕ
  start = refusal_of x scratch

  abbrev o : Outcome View
  o = outcome_of x limit

  told : (b : Bool) → eqb start 0 ≡ b → (a ≡ pick b (answer_of x.state o) (made_as start 0 x.state)) × (y.table ≡ pick b (drawn_by o ++ drop most_words x.table) x.table)
  told b e = (
    m.answer ∙ ap (λ (b : Bool). pick b (answer_of x.state o) (made_as start 0 x.state)) e,
    m.nodes ∙ ap (λ (b : Bool). pick b (drawn_by o ++ drop most_words x.table) x.table) e,
  )

  -- a call that is refused at once, refused in the walk, or accepted
  by_case : (P : Type 0)
      → (¬ (start ≡ 0) → a ≡ made_as start 0 x.state → y.table ≡ x.table → P)
      → ((i : ℕ) → is_one_of i walk_refusals ≡ true → a ≡ made_as i 0 x.state → y.table ≡ zeros most_words ++ drop most_words x.table → P)
      → ((p : Walk) (z : View) → o ≡ ended p z → Ready x scratch → a ≡ made_as 0 (cycles p) (with_table x.state (1 + size p))
      → y.table ≡ drawn p 1 1 (zeros most_words) ++ drop most_words x.table → P)
      → P
  by_case P f g h = by_start (eqb start 0) refl
    where
      by_walk : Ready x scratch → (q : Outcome View) → o ≡ q → Numbered q → a ≡ answer_of x.state q → y.table ≡ drawn_by q ++ drop most_words x.table → P
      by_walk y (refused i) e n p q = g i n p q
      by_walk y (ended w z) e n p q = h w z e y p q

      by_start : (b : Bool) → eqb start 0 ≡ b → P
      by_start true e = by_walk (ready x scratch (eqb-true start 0 e)) o refl (numbered x limit) (told true e).0 (told true e).1
      by_start false e = f (eqb-false start 0 e) (told false e).0 (told false e).1

  -- what holds of every accepted outcome holds of what the call leaves
  accepted : (P : ℕ → Machine → Type 0) → ((p : Walk) (z : View) → o ≡ ended p z → Ready x scratch → P (cycles p) (finished x p)) → n ≡ 0 → P c y
  accepted P h ok =
      by_case (P c y)
      (λ k e t. absurd (k (sym (ap (λ (b : Made). b.refusal) e) ∙ ok)))
      (λ i k e t. absurd (listed i k (sym (ap (λ (b : Made). b.refusal) e) ∙ ok)))
      (λ p z e g q t.
      let left : y ≡ finished x p = λ j. machine_of (q j).state (m.memory j) (t j) in
      subst₂ P (sym (ap (λ (b : Made). b.cycles) q)) (sym left) (h p z e g))

  choices : n ≡ 0 → EveryChoice c y
  choices = accepted EveryChoice λ p z e g. every x limit p z e g.code g.words g.wait

  paired : n ≡ 0 → (v : ℕ) → 0 < v → v ≤ y.state.n → check_node_of y v ≡ 0
  paired =
      accepted (λ c y. (v : ℕ) → 0 < v → v ≤ y.state.n → check_node_of y v ≡ 0) λ p z e g v h k.
      node_passes (finished x p) v (right_sizes x limit p z e g.code g.words g.wait) h k
      (linked x limit p z e g.code g.words g.wait v h k)

  checked : n ≡ 0 → (check_of y).refusal ≡ 8 → ⊥
  checked =
      accepted (λ c y. (check_of y).refusal ≡ 8 → ⊥) λ p z e g. check_passes (finished x p) (linked x limit p z e g.code g.words g.wait)

  empty : n ≡ 0 → (i : ℕ) → table_words y.state.n ≤ i → i < most_words → get_or y.table i 0 ≡ 0
  empty =
      accepted (λ c y. (i : ℕ) → table_words y.state.n ≤ i → i < most_words → get_or y.table i 0 ≡ 0) λ p z e g.
      behind x limit p z e g.code g.words g.wait

  -- ---- refused

  numbers : is_one_of (n) (0 ∷ 10 ∷ 22 ∷ walk_refusals) ≡ true
  unfolding refuse
  numbers =
      by_case (is_one_of (n) (0 ∷ 10 ∷ 22 ∷ walk_refusals) ≡ true)
      (λ k e t. from start (ap (λ (b : Made). b.refusal) e) (at_once (wrong_sizes x) (can_begin x scratch)))
      (λ i k e t. from i (ap (λ (b : Made). b.refusal) e) (rw k (any (eqb i 0) (eqb i 10) (eqb i 22))))
      (λ p z e y q t. from 0 (ap (λ (b : Made). b.refusal) q) refl)
    where
      from : (i : ℕ) → n ≡ i → is_one_of i (0 ∷ 10 ∷ 22 ∷ walk_refusals) ≡ true → is_one_of (n) (0 ∷ 10 ∷ 22 ∷ walk_refusals) ≡ true
      from i e h = subst (λ (j : ℕ). is_one_of j (0 ∷ 10 ∷ 22 ∷ walk_refusals) ≡ true) (sym e) h

      at_once : (x y : Bool) → is_one_of (number x y) (0 ∷ 10 ∷ 22 ∷ walk_refusals) ≡ true
      at_once true y = refl
      at_once false true = refl
      at_once false false = refl

      any : (x y z : Bool) → (x || (y || (z || true))) ≡ true
      any true y z = refl
      any false true z = refl
      any false false true = refl
      any false false false = refl

  given : ¬ (n ≡ 0) → (c ≡ 0) × (y.state ≡ x.state)
  given k =
      by_case ((c ≡ 0) × (y.state ≡ x.state)) (λ n e t. same start e) (λ i n e t. same i e)
      (λ p z e g q t. absurd (k (ap (λ (b : Made). b.refusal) q)))
    where
      same : (i : ℕ) → a ≡ made_as i 0 x.state → (c ≡ 0) × (y.state ≡ x.state)
      same i e = (ap (λ (b : Made). b.cycles) e, ap (λ (b : Made). b.state) e)

  -- 10 and 22 are no refusals of the walk, and not 0
  unwritten : (n ≡ 10) ⊎ (n ≡ 22) → (y.table ≡ x.table) × (scratch' ≡ scratch)
  unwritten f =
      by_case ((y.table ≡ x.table) × (scratch' ≡ scratch)) (λ k e t. (t, m.untouched k))
      (λ i k e t. absurd (false≢true (no_walk f ∙ subst (λ (j : ℕ). is_one_of j walk_refusals ≡ true) (sym (ap (λ (b : Made). b.refusal) e)) k)))
      (λ p z e y q t. absurd (not_zero f (ap (λ (b : Made). b.refusal) q)))
    where
      no_walk : (n ≡ 10) ⊎ (n ≡ 22) → false ≡ is_one_of (n) walk_refusals
      no_walk (inl e) = rw e
      no_walk (inr e) = rw e

      not_zero : (n ≡ 10) ⊎ (n ≡ 22) → n ≡ 0 → ⊥
      not_zero (inl e) z = omega (arith, e, z)
      not_zero (inr e) z = omega (arith, e, z)

  cleared : is_one_of (n) walk_refusals ≡ true → y.table ≡ zeros most_words ++ drop most_words x.table
  unfolding refuse
  cleared f =
      by_case (y.table ≡ zeros most_words ++ drop most_words x.table)
      (λ k e t. absurd (at_once (wrong_sizes x) (can_begin x scratch) k
      (subst (λ (j : ℕ). is_one_of j walk_refusals ≡ true) (ap (λ (b : Made). b.refusal) e) f)))
      (λ i n e t. t)
      (λ p z e y q t. absurd (listed n f (ap (λ (b : Made). b.refusal) q)))
    where
      at_once : (x y : Bool) → ¬ (number x y ≡ 0) → is_one_of (number x y) walk_refusals ≡ true → ⊥
      at_once true y n h = false≢true h
      at_once false true n h = n refl
      at_once false false n h = false≢true h

pub on_made : OnMade
on_made =
    record { choices = λ m ok. choices m ok; paired = λ m ok. paired m ok; checked = λ m ok. checked m ok; zeros = λ m ok. empty m ok }

pub on_refused : OnRefused
on_refused =
    record { numbers = λ m. numbers m; given = λ m n. given m n; unwritten = λ m c. unwritten m c; cleared = λ m c. cleared m c }

-- ---- over all nestings

pub any_nesting : AnyNesting
unfolding bad_sizes in_range
any_nesting =
    record {
      walks = λ limit nest s z p t e sized c b.
          let l = (bad_sizes_right (placed (1 + size p) 1 0 s).at s.memory (drawn p 1 1 t) sized).links in
          (machine_follows limit nest s z p e (drawn p 1 1 t) sized
          (drawn_holds p 1 1 (1 + size p) t (omega arith) (omega arith) (omega arith) (omega (arith, l, drawn_long p 1 1 t))) c b).0;
    }

-- ---- idle turns

pub idle_turns : IdleTurns
unfolding idle_op
idle_turns =
    record {
      other = λ x last gate.
          let t = (state_of x).links in
          let s = view_of x in
          ap (λ (y : View). judged t Forward false (pc s) y (landed Forward y (idled t y))) (from_is s)
          ∙ (rw gate refl
          ∙ (sym (ap (λ (y : View). judged t Forward false (pc s) y (landed Forward y (executed t Forward y))) (from_is s))
          ∙ ap (λ (b : Bool). planned t Forward b s) (sym last)));
      gate = λ t s g i. rw (g, i);
    }
