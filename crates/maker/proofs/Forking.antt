-- The walk of a qif: what it answers at each way out. Assumes nothing.
use mathlib.Core.Path.{◌≡◌, refl, sym, ap, ap₂, ◌∙◌, subst}
use mathlib.Core.Bool.{Bool, true, false, not, ◌&&◌}
use mathlib.Core.List.{List}
use Prim.Native.Nat.{ℕ, zero, suc, ◌+◌, ◌-◌, ◌<◌, ◌≤◌}
use native.Mathlib.Omega.{arith}
use native.Mathlib.Numerals.{sub-one}
use lib.Dec.{ltb, leb}
use lib.ListN.{get_or}
use borrow.Author.Tests.{leb-false, ltb-false}
use Rattle.std.proofs.Common.{Result, Ok, Err, max}
use Rattle.word.specs.Refusal.{refuse, number_of}
use Rattle.word.specs.declared.refusals.Refusal.{Refusal}
use Rattle.word.specs.declared.refusals.Refusal.TheVariants.{Bound, Branches}
use Rattle.maker.proofs.Refusals.{some_number}
use Rattle.word.proofs.Refusal.{refuse_true, refuse_false, refuse_none}
use Rattle.word.specs.Lists.{same}
use Rattle.word.proofs.Lists.{same_equal}
use Rattle.step.specs.View.{View, sized}
use Rattle.step.proofs.Same.{same_view_status}
use Rattle.maker.proofs.Counts.{cycles_used}
use Rattle.word.proofs.Words.{and_true}
use Rattle.maker.specs.Walk.{Walk, size, used, cycles, ending, linked, drawn, fork_size, fork_used, fork_cycles, fork_linked, lack}
use Rattle.maker.specs.Making.{Outcome, Forks, by_outcome, fork_by, fork_at, branch_at}
use Rattle.maker.specs.Making.Outcome.{refused, ended}
use Rattle.maker.specs.Making.Forks.{failed, forked}
use Rattle.maker.specs.Idle.{machine, is_before_start}
use Rattle.maker.specs.Parts.{view_at, coin_in, held_of, entered, left, walked_at, walked_of, Shown, ShownFork, qif_refusal_of, fiq_refusal_of}
use Rattle.maker.specs.declared.Walked.{Walked}

-- ---- refusals in order, of the walk and of the numbers that the code tells

stops : (b : Bool) (n x i : ℕ) (rest : Forks View) → i ≡ refuse b n x → (i ≡ x → rest ≡ failed i) → refuse b (failed n) rest ≡ failed i
unfolding refuse
stops true n x i rest e f = ap failed (sym e)
stops false n x i rest e f = f e

passes : (b : Bool) (n x : ℕ) (rest r : Forks View) → refuse b (suc n) x ≡ 0 → (x ≡ 0 → rest ≡ r) → refuse b (failed (suc n)) rest ≡ r
passes b n x rest r e f = let p = refuse_none b n x e in refuse_false b _ rest p.0 ∙ f p.1

-- at the qif
abbrev opening : Bool → Bool → ℕ
opening x y = refuse x 23 (refuse y 23 0)

abbrev after_opening : Bool → Bool → Forks View → Forks View
after_opening x y rest = refuse x (failed 23) (refuse y (failed 23) rest)

opening_stops : (x y : Bool) (i : Refusal) (rest : Forks View) → number_of i ≡ opening x y → after_opening x y rest ≡ failed (number_of i)
opening_stops x y i rest e =
    stops x 23 (refuse y 23 0) (number_of i) _ e λ e. stops y 23 0 (number_of i) rest e λ e. absurd (some_number i e)

opening_passes : (x y : Bool) (rest : Forks View) → opening x y ≡ 0 → after_opening x y rest ≡ rest
opening_passes x y rest e = passes x 22 (refuse y 23 0) _ rest e λ e. passes y 22 0 rest rest e λ e. refl

-- at a fiq
abbrev closing : Bool → Bool → Bool → Bool → ℕ
closing x y w z = refuse x 18 (refuse y 23 (refuse w 23 (refuse (not z) 24 0)))

abbrev after_closing : Bool → Bool → Bool → Bool → Forks View → Forks View
after_closing x y w z rest = refuse x (failed 18) (refuse y (failed 23) (refuse w (failed 23) (refuse (not z) (failed 24) rest)))

closing_stops : (x y w z : Bool) (i : Refusal) (rest : Forks View) → number_of i ≡ closing x y w z → after_closing x y w z rest ≡ failed (number_of i)
closing_stops x y w z i rest e =
    stops x 18 (refuse y 23 (refuse w 23 (refuse (not z) 24 0))) (number_of i) _ e λ e. stops y 23 (refuse w 23 (refuse (not z) 24 0)) (number_of i) _ e λ e.
    stops w 23 (refuse (not z) 24 0) (number_of i) _ e λ e. stops (not z) 24 0 (number_of i) rest e λ e. absurd (some_number i e)

closing_passes : (x y w z : Bool) (rest : Forks View) → closing x y w z ≡ 0 → after_closing x y w z rest ≡ rest
closing_passes x y w z rest e =
    passes x 17 (refuse y 23 (refuse w 23 (refuse (not z) 24 0))) _ rest e λ e. passes y 22 (refuse w 23 (refuse (not z) 24 0)) _ rest e λ e.
    passes w 22 (refuse (not z) 24 0) _ rest e λ e. passes (not z) 23 0 rest rest e λ e. refl

fails : (o : Outcome View) (f : Walk → View → Forks View) (k : ℕ) → o ≡ refused k → by_outcome o failed f ≡ failed k
unfolding by_outcome
fails o f k e = rw e

ends : (o : Outcome View) (f : Walk → View → Forks View) (p : Walk) (s : View) → o ≡ ended p s → by_outcome o failed f ≡ f p s
unfolding by_outcome
ends o f p s e = rw e

-- ---- what the tests give

pub opened : (limit n u : ℕ) → qif_refusal_of limit n u ≡ 0 → (u < limit) × (n ≤ 509)
unfolding qif_refusal_of
opened limit n u e =
    let x = refuse_none (leb limit u) 22 (refuse (ltb 509 n) 23 0) e in
    (leb-false limit u x.0, ltb-false 509 n (refuse_none (ltb 509 n) 22 0 x.1).0)

-- the limit, and whether a node may be made
pub closed : (k m limit a x : ℕ) (full : Bool) (u : ℕ) (l z : List ℕ) → fiq_refusal_of k m limit a x full u l z ≡ 0 → (u < limit) × (full ≡ false)
unfolding fiq_refusal_of
closed k m limit a x full u l z e =
    let held : ℕ = refuse (not (held_of a x l z)) 24 0 in
    let o = refuse_none (is_before_start (view_at k m l z)) 17 (refuse (leb limit u) 23 (refuse full 23 held)) e in
    let p = refuse_none (leb limit u) 22 (refuse full 23 held) o.1 in
    (leb-false limit u p.0, (refuse_none full 22 held p.1).0)

module _ (k w limit nest : ℕ) (from : Walked) (m₀ t : List ℕ) where
  abbrev v : ℕ
  v = from.node

  abbrev n : ℕ
  n = from.nodes

  abbrev u : ℕ
  u = from.used

  abbrev s : List ℕ
  s = from.regs

  abbrev deep : ℕ → ℕ → View → Outcome View
  deep n u x = branch_at machine limit (nest - 1) true n u x

  abbrev here : View
  here = view_at k w s m₀

  -- the qif's register, its value, and where branch x starts
  abbrev c : ℕ
  c = coin_in s m₀

  abbrev start : ℕ → View
  start x = view_at k w (entered s c x) m₀

  abbrev whole : Forks View
  whole = fork_at machine limit nest n u here

  abbrev by : Forks View
  by = fork_by machine limit deep n u here

  opens : ¬ (nest ≡ 0) → whole ≡ by
  unfolding fork_at
  opens h = go nest h
    where
      go : (j : ℕ) → ¬ (j ≡ 0) → fork_at machine limit j n u here ≡ fork_by machine limit (λ n u x. branch_at machine limit (j - 1) true n u x) n u here
      go zero h = absurd (h refl)
      go (suc j) h = ap (λ (i : ℕ). fork_by machine limit (λ n u x. branch_at machine limit i true n u x) n u here) (sym (sub-one (suc j)))

  abbrev Answers : Forks View → Result Walked Refusal → List ℕ → List ℕ → Type 0
  Answers o r l z = ShownFork k w o v n u t r l z

  out : {o : Forks View} (r : Result Walked Refusal) (l z : List ℕ) → whole ≡ o → Answers o r l z → Answers whole r l z
  out r l z e h = subst (λ (o : Forks View). Answers o r l z) (sym e) h

  pub none : (l z : List ℕ) → nest ≡ 0 → Answers whole (Err Bound) l z
  unfolding fork_at
  none l z e = out (Err Bound) l z (go nest e) refl
    where
      go : (j : ℕ) → j ≡ 0 → fork_at machine limit j n u here ≡ failed 23
      go zero e = refl
      go (suc j) e = absurd (omega (arith, e))

  noded : (a b : Walk) → n + 2 + size a + size b + 1 ≡ n + fork_size a b
  noded a b = omega arith

  counted : (a b : Walk) (x : List ℕ) → walked_at x (u + 1 + used a + 1 + used b + 1) (2 + max (cycles a) (cycles b)) (n + 2 + size a + size b + 1) (n + 2 + size a + size b + 1)
      ≡ walked_at x (u + fork_used a b) (fork_cycles a b) (n + fork_size a b) (n + fork_size a b)
  counted a b x = ap₂ (λ (i j : ℕ). walked_at x i (fork_cycles a b) j j) (omega arith) (noded a b)

  module _ (deeper : ¬ (nest ≡ 0)) where
    pub shut : (e : Refusal) (l z : List ℕ) → number_of e ≡ qif_refusal_of limit n u → Answers whole (Err e) l z
    unfolding fork_by qif_refusal_of
    shut e l z h = out (Err e) l z (opens deeper ∙ opening_stops (leb limit u) (ltb 509 n) e _ h) refl

    -- what branch 0 says, with the memory z at its exit
    abbrev pub First : Result Walked Refusal → List ℕ → List ℕ → Type 0
    First r l z = Shown k w (deep (n + 2) (u + 1) (start 0)) (n + 1) (n + 2) (u + 1) t r l z

    module _ (open-0 : qif_refusal_of limit n u ≡ 0) where
      is_open : opening (leb limit u) (ltb 509 n) ≡ 0
      unfolding qif_refusal_of
      is_open = open-0

      pub refused₀ : (e : Refusal) (l z l' z' : List ℕ) → First (Err e) l z → Answers whole (Err e) l' z'
      unfolding fork_by
      refused₀ e l z l' z' h = go (deep (n + 2) (u + 1) (start 0)) refl h
        where
          go : (o : Outcome View) → deep (n + 2) (u + 1) (start 0) ≡ o → Shown k w o (n + 1) (n + 2) (u + 1) t (Err e) l z → Answers whole (Err e) l' z'
          go (refused j) i q = out (Err e) l' z' (opens deeper ∙ (opening_passes _ _ _ is_open ∙ fails _ _ j i)) q
          go (ended p x) i q = absurd q

      -- branch 0 came to its fiq
      module _ (a : Walked) (l₀ z₀ : List ℕ) (f : First (Ok a) l₀ z₀) where
        record Came₀ : Type 0 where
          pub a₀ : Walk
          pub came : deep (n + 2) (u + 1) (start 0) ≡ ended a₀ (view_at k w a.regs z₀)
          pub answer : a ≡ walked_of (n + 1) (n + 2) (u + 1) a₀ a.regs
          pub table : l₀ ≡ drawn a₀ (n + 1) (n + 2) t

        g : Came₀
        g = go (deep (n + 2) (u + 1) (start 0)) refl f
          where
            go : (o : Outcome View) → deep (n + 2) (u + 1) (start 0) ≡ o → Shown k w o (n + 1) (n + 2) (u + 1) t (Ok a) l₀ z₀ → Came₀
            go (refused j) e q = absurd q
            go (ended p x) e q = record { a₀ = p; came = e ∙ ap (ended p) q.2; answer = q.0; table = q.1 }

        abbrev x₀ : View
        x₀ = view_at k w a.regs z₀

        used₀ : a.used ≡ u + 1 + used g.a₀
        used₀ = ap (λ (y : Walked). y.used) g.answer

        -- the limit is tested with the cycles used at the fiq
        abbrev late₀ : Bool
        late₀ = leb limit (u + 1 + used g.a₀)

        closed₀ : fiq_refusal_of k w limit c 0 false a.used a.regs z₀ ≡ closing (machine.is_before_start x₀) late₀ false (machine.holds here 0 x₀)
        unfolding fiq_refusal_of
        closed₀ = ap (λ (y : ℕ). closing (machine.is_before_start x₀) (leb limit y) false (machine.holds here 0 x₀)) used₀

        abbrev after_close : Forks View
        after_close =
            by_outcome (deep (n + 2 + size g.a₀) (u + 1 + used g.a₀ + 1) (start 1)) failed λ b x₁.
            after_closing (machine.is_before_start x₁) (leb limit (u + 1 + used g.a₀ + 1 + used b)) (ltb 510 (n + 2 + size g.a₀ + size b)) (machine.holds here 1 x₁)
            (refuse (not (machine.same (machine.after here x₀) (machine.after here x₁))) (failed 24) (forked g.a₀ b (machine.after here x₀)))

        to_close : by ≡ after_closing (machine.is_before_start x₀) late₀ false (machine.holds here 0 x₀) after_close
        unfolding fork_by refuse
        to_close = opening_passes _ _ _ is_open ∙ ends _ _ g.a₀ x₀ g.came

        pub shut₀ : (e : Refusal) (l z : List ℕ) → number_of e ≡ fiq_refusal_of k w limit c 0 false a.used a.regs z₀ → Answers whole (Err e) l z
        shut₀ e l z h =
            out (Err e) l z (opens deeper ∙ (to_close ∙ closing_stops (machine.is_before_start x₀) late₀ false (machine.holds here 0 x₀) e _ (h ∙ closed₀))) refl

        -- what branch 1 says, from the memory m that was put back
        abbrev pub Then : List ℕ → Result Walked Refusal → List ℕ → List ℕ → Type 0
        Then m r l z = Shown k w (deep a.nodes (a.used + 1) (view_at k w (entered s c 1) m)) (n + 2) a.nodes (a.used + 1) l₀ r l z

        module _ (close-0 : fiq_refusal_of k w limit c 0 false a.used a.regs z₀ ≡ 0) (m : List ℕ) (back : m ≡ m₀) where
          abbrev second : Outcome View
          second = deep (n + 2 + size g.a₀) (u + 1 + used g.a₀ + 1) (start 1)

          abbrev Second : Outcome View → Result Walked Refusal → List ℕ → List ℕ → Type 0
          Second o r l z = Shown k w o (n + 2) (n + 2 + size g.a₀) (u + 1 + used g.a₀ + 1) l₀ r l z

          asked : (r : Result Walked Refusal) (l z : List ℕ) → Then m r l z → Second second r l z
          asked r l z h =
              subst (λ (y : Walked). Shown k w (deep y.nodes (y.used + 1) (start 1)) (n + 2) y.nodes (y.used + 1) l₀ r l z) g.answer
              (subst (λ (j : List ℕ). Then j r l z) back h)

          to_branch : by ≡ after_close
          to_branch = to_close ∙ closing_passes (machine.is_before_start x₀) late₀ false (machine.holds here 0 x₀) _ (sym closed₀ ∙ close-0)

          pub refused₁ : (e : Refusal) (l z l' z' : List ℕ) → Then m (Err e) l z → Answers whole (Err e) l' z'
          refused₁ e l z l' z' h = go second refl (asked (Err e) l z h)
            where
              go : (o : Outcome View) → second ≡ o → Second o (Err e) l z → Answers whole (Err e) l' z'
              go (refused j) i q = out (Err e) l' z' (opens deeper ∙ (to_branch ∙ fails _ _ j i)) q
              go (ended p x) i q = absurd q

          -- branch 1 came to its fiq
          module _ (b : Walked) (l₁ z₁ : List ℕ) (f₁ : Then m (Ok b) l₁ z₁) where
            record Came₁ : Type 0 where
              pub b₀ : Walk
              pub came : second ≡ ended b₀ (view_at k w b.regs z₁)
              pub answer : b ≡ walked_of (n + 2) (n + 2 + size g.a₀) (u + 1 + used g.a₀ + 1) b₀ b.regs
              pub table : l₁ ≡ drawn b₀ (n + 2) (n + 2 + size g.a₀) l₀

            h : Came₁
            h = go second refl (asked (Ok b) l₁ z₁ f₁)
              where
                go : (o : Outcome View) → second ≡ o → Second o (Ok b) l₁ z₁ → Came₁
                go (refused j) e q = absurd q
                go (ended p x) e q = record { b₀ = p; came = e ∙ ap (ended p) q.2; answer = q.0; table = q.1 }

            abbrev x₁ : View
            x₁ = view_at k w b.regs z₁

            abbrev late₁ : Bool
            late₁ = leb limit (u + 1 + used g.a₀ + 1 + used h.b₀)

            abbrev full₁ : Bool
            full₁ = ltb 510 (n + 2 + size g.a₀ + size h.b₀)

            closed₁ : fiq_refusal_of k w limit c 1 (ltb 510 b.nodes) b.used b.regs z₁ ≡ closing (machine.is_before_start x₁) late₁ full₁ (machine.holds here 1 x₁)
            unfolding fiq_refusal_of
            closed₁ =
                ap₂ (λ (i j : ℕ). closing (machine.is_before_start x₁) (leb limit i) (ltb 510 j) (machine.holds here 1 x₁)) (ap (λ (y : Walked). y.used) h.answer)
                (ap (λ (y : Walked). y.nodes) h.answer)

            abbrev agreed : Bool
            agreed = machine.same (machine.after here x₀) (machine.after here x₁)

            abbrev after_meeting : Forks View
            after_meeting = refuse (not agreed) (failed 24) (forked g.a₀ h.b₀ (machine.after here x₀))

            to_meet : by ≡ after_closing (machine.is_before_start x₁) late₁ full₁ (machine.holds here 1 x₁) after_meeting
            to_meet = to_branch ∙ ends _ _ h.b₀ x₁ h.came

            pub shut₁ : (e : Refusal) (l z : List ℕ) → number_of e ≡ fiq_refusal_of k w limit c 1 (ltb 510 b.nodes) b.used b.regs z₁ → Answers whole (Err e) l z
            shut₁ e l z i =
                out (Err e) l z (opens deeper ∙ (to_meet ∙ closing_stops (machine.is_before_start x₁) late₁ full₁ (machine.holds here 1 x₁) e _ (i ∙ closed₁))) refl

            pub short : 2 + max a.cycles b.cycles ≤ b.used
            short =
                omega (arith, ap (λ (y : Walked). y.cycles) g.answer, ap (λ (y : Walked). y.cycles) h.answer, ap (λ (y : Walked). y.used) h.answer, cycles_used g.a₀, cycles_used h.b₀)

            -- both came to their fiq: whether the registers after it and the memories are the same
            module _ (close-1 : fiq_refusal_of k w limit c 1 (ltb 510 b.nodes) b.used b.regs z₁ ≡ 0) (old : ℕ) (was : old ≡ get_or s c 0) where
              abbrev alike : Bool
              alike = same (left a.regs c old) (left b.regs c old) && same z₀ z₁

              alike_is : alike ≡ agreed
              alike_is =
                  ap (λ (y : ℕ). same (left a.regs c y) (left b.regs c y) && same z₀ z₁) was
                  ∙ sym (same_view_status (sized k w 0) (left a.regs c (get_or s c 0)) z₀ (left b.regs c (get_or s c 0)) z₁)

              to_end : by ≡ after_meeting
              to_end = to_meet ∙ closing_passes (machine.is_before_start x₁) late₁ full₁ (machine.holds here 1 x₁) _ (sym closed₁ ∙ close-1)

              pub differ : (l z : List ℕ) → alike ≡ false → Answers whole (Err Branches) l z
              differ l z e = out (Err Branches) l z (opens deeper ∙ (to_end ∙ refuse_true (not agreed) _ _ (ap not (sym alike_is ∙ e)))) refl

              -- they meet: the memory is branch 1's, which is branch 0's
              pub done : (d : List ℕ) → alike ≡ true
                  → d ≡ linked v (n + 1) (n + 2) a.node b.node (b.nodes + 1) (b.cycles - a.cycles) (a.cycles - b.cycles) l₁
                  → Answers whole (Ok (walked_at (left a.regs c old) (b.used + 1) (2 + max a.cycles b.cycles) (b.nodes + 1) (b.nodes + 1))) d z₁
              done d i j =
                  out (Ok (walked_at (left a.regs c old) (b.used + 1) (2 + max a.cycles b.cycles) (b.nodes + 1) (b.nodes + 1))) d z₁
                  (opens deeper ∙ (to_end ∙ refuse_false (not agreed) _ _ (ap not (sym alike_is ∙ i)))) (
                    ap₂ (λ (y z : Walked). walked_at (left a.regs c old) (z.used + 1) (2 + max y.cycles z.cycles) (z.nodes + 1) (z.nodes + 1)) g.answer h.answer
                        ∙ counted g.a₀ h.b₀ (left a.regs c old),
                    j
                        ∙ (ap₂ (λ (y z : Walked). linked v (n + 1) (n + 2) y.node z.node (z.nodes + 1) (z.cycles - y.cycles) (y.cycles - z.cycles) l₁) g.answer h.answer
                        ∙ (ap (λ (j : ℕ). linked v (n + 1) (n + 2) (ending g.a₀ (n + 1) (n + 2)) (ending h.b₀ (n + 2) (n + 2 + size g.a₀)) j (lack g.a₀ h.b₀) (lack h.b₀ g.a₀) l₁) (noded g.a₀ h.b₀)
                        ∙ ap (fork_linked v n g.a₀ h.b₀) (h.table ∙ ap (drawn h.b₀ (n + 2) (n + 2 + size g.a₀)) g.table))),
                    ap₂ (λ (y : ℕ) (z : List ℕ). view_at k w (left a.regs c y) z) (sym was) (same_equal z₀ z₁ (and_true (same (left a.regs c old) (left b.regs c old)) (same z₀ z₁) i).1),
                  )
