-- The loop of branch: what it keeps, and what it answers at each way out. Assumes nothing.
use mathlib.Core.Path.{◌≡◌, refl, sym, ap, ap₂, ◌∙◌, subst}
use mathlib.Core.Bool.{Bool, true, false, not}
use mathlib.Core.List.{List}
use Prim.Native.Nat.{ℕ, suc, ◌+◌, ◌-◌, ◌<◌, ◌≤◌}
use native.Mathlib.Omega.{arith}
use lib.ListN.{length}
use borrow.Author.Tests.{le-leb, lt-leb}
use Rattle.std.proofs.Common.{Result, Ok, Err}
use Rattle.word.specs.Refusal.{refuse, number_of}
use Rattle.word.specs.declared.refusals.Refusal.{Refusal}
use Rattle.word.specs.declared.refusals.Refusal.TheVariants.{End, Node, Bound}
use Rattle.word.proofs.Refusal.{refuse_true, refuse_false}
use Rattle.step.specs.View.{View}
use Rattle.maker.specs.Walk.{Walk, size, used, cycles, ending, drawn, fork_size, fork_used, fork_cycles, fork_drawn}
use Rattle.maker.specs.Walk.Walk.{begin, step, fork}
use Rattle.maker.specs.Walkable.Look.{halts, last, goes, forks, joins}
use Rattle.maker.specs.Making.{Outcome, Forks, walk_by, fork_at, branch_at}
use Rattle.maker.specs.Making.Outcome.{refused, ended}
use Rattle.maker.specs.Making.Forks.{failed, forked}
use Rattle.maker.specs.Idle.{machine, look_at}
use Rattle.maker.proofs.Counts.{AllForks, cycles_used, forked_below}
use Rattle.maker.specs.Parts.{view_at, Looks, walked_at, walked_of, Shown, ShownFork}
use Rattle.maker.specs.declared.Seen.{Seen}
use Rattle.maker.specs.declared.Seen.TheVariants.{Last, Goes, Forks as AtFork, Joins}
use Rattle.maker.specs.declared.Walked.{Walked}

module _ (k w limit nest : ℕ) (inside : Bool) (v n u : ℕ) (s₀ m₀ t₀ : List ℕ) where
  -- after the walk p: what is left to do from here is what was to do from the start
  pub record Going (at : Walked) (m t : List ℕ) : Type 0 where
    pub fuel : ℕ
    pub walk : Walk
    pub some : 0 < fuel
    pub enough : limit < u + used walk + fuel
    pub same : branch_at machine limit nest inside n u (view_at k w s₀ m₀) ≡ walk_by machine limit (fork_at machine limit nest) inside fuel n u walk (view_at k w at.regs m)
    pub is : at ≡ walked_of v n u walk at.regs
    pub table : t ≡ drawn walk v n t₀
    pub long : length t ≡ length t₀
    pub even : length m ≡ length m₀

  -- so it is at the start
  pub going : Going (walked_at s₀ u 0 n v) m₀ t₀
  unfolding drawn used cycles size ending
  going =
      record {
        fuel = suc limit;
        walk = begin;
        some = omega arith;
        enough = omega arith;
        same = refl;
        is = ap₂ (λ (x y : ℕ). walked_at s₀ x 0 y v) (omega arith) (omega arith);
        table = refl;
        long = refl;
        even = refl;
      }

-- the ways out of the loop, and its turns, as the code meets them: z is the memory after the word was looked at
module _ {k w limit nest : ℕ} {inside : Bool} {v n u : ℕ} {s₀ m₀ t₀ : List ℕ} {at : Walked} {m t : List ℕ} (g : Going k w limit nest inside v n u s₀ m₀ t₀ at m t) where
  abbrev whole : Outcome View
  whole = branch_at machine limit nest inside n u (view_at k w s₀ m₀)

  abbrev rest : ℕ → Walk → View → Outcome View
  rest f p x = walk_by machine limit (fork_at machine limit nest) inside f n u p x

  -- one turn of the loop, at a walk p to s
  module _ (f : ℕ) (p : Walk) (s : View) where
    at_halts : (i : ℕ) → look_at s ≡ halts i → rest (suc f) p s ≡ refused i
    unfolding walk_by
    at_halts i e = rw e

    at_last : look_at s ≡ last → rest (suc f) p s ≡ refuse inside (refused 12) (ended p s)
    unfolding walk_by
    at_last e = rw e

    at_join : look_at s ≡ joins → rest (suc f) p s ≡ refuse (not inside) (refused 17) (ended p s)
    unfolding walk_by
    at_join e = rw e

    at_limit : (z : View) → look_at s ≡ goes z → limit ≤ u + used p → rest (suc f) p s ≡ refused 23
    unfolding walk_by refuse
    at_limit z e h = rw (e, le-leb _ _ h)

    at_goes : (z : View) → look_at s ≡ goes z → u + used p < limit → rest (suc f) p s ≡ rest f (step p) z
    unfolding walk_by refuse
    at_goes z e h = rw (e, lt-leb _ _ h)

    at_failed : (i : ℕ) → look_at s ≡ forks → fork_at machine limit nest (n + size p) (u + used p) s ≡ failed i → rest (suc f) p s ≡ refused i
    unfolding walk_by
    at_failed i e q = rw (e, q)

    at_forked : (a b : Walk) (s₁ : View) → look_at s ≡ forks → fork_at machine limit nest (n + size p) (u + used p) s ≡ forked a b s₁
        → rest (suc f) p s ≡ rest f (fork p a b) s₁
    unfolding walk_by
    at_forked a b s₁ e q = rw (e, q)

  less : ℕ
  less = g.fuel - 1

  abbrev here : View
  here = view_at k w at.regs m

  first : whole ≡ rest (suc less) g.walk here
  unfolding less
  first = g.same ∙ ap (λ (f : ℕ). rest f g.walk here) (omega (arith, g.some))

  out : {o : Outcome View} (r : Result Walked Refusal) (l y : List ℕ) → whole ≡ o → Shown k w o v n u t₀ r l y → Shown k w whole v n u t₀ r l y
  out r l y e h = subst (λ (o : Outcome View). Shown k w o v n u t₀ r l y) (sym e) h

  abbrev Saw : Result Seen Refusal → List ℕ → Type 0
  Saw x z = Looks k w m x (look_at here) z

  pub halted : (e : Refusal) (d y : List ℕ) → look_at here ≡ halts (number_of e) → Shown k w whole v n u t₀ (Err e) d y
  halted e d y h = out (Err e) d y (first ∙ at_halts less g.walk here (number_of e) h) refl

  module _ (z : List ℕ) where
    pub finished_in : (d y : List ℕ) → Saw (Ok Last) z → inside ≡ true → Shown k w whole v n u t₀ (Err End) d y
    finished_in d y h i = out (Err End) d y (first ∙ (at_last less g.walk here h.0 ∙ refuse_true inside _ _ i)) refl

    pub finished : Saw (Ok Last) z → inside ≡ false → Shown k w whole v n u t₀ (Ok at) t z
    finished h i =
        out (Ok at) t z (first ∙ (at_last less g.walk here h.0 ∙ refuse_false inside _ _ i)) (g.is, g.table, ap (view_at k w at.regs) (sym h.1))

    pub joined : Saw (Ok Joins) z → inside ≡ true → Shown k w whole v n u t₀ (Ok at) t z
    joined h i =
        out (Ok at) t z (first ∙ (at_join less g.walk here h.0 ∙ refuse_false (not inside) _ _ (ap not i))) (g.is, g.table, ap (view_at k w at.regs) (sym h.1))

    pub joined_out : (d y : List ℕ) → Saw (Ok Joins) z → inside ≡ false → Shown k w whole v n u t₀ (Err Node) d y
    joined_out d y h i = out (Err Node) d y (first ∙ (at_join less g.walk here h.0 ∙ refuse_true (not inside) _ _ (ap not i))) refl

    pub limited : (l d y : List ℕ) → Saw (Ok (Goes l)) z → limit ≤ at.used → Shown k w whole v n u t₀ (Err Bound) d y
    limited l d y h i = out (Err Bound) d y (first ∙ at_limit less g.walk here _ h (omega (arith, i, ap (λ (a : Walked). a.used) g.is))) refl

    pub goes_on : (l : List ℕ) → Saw (Ok (Goes l)) z → at.used < limit → length z ≡ length m → Going k w limit nest inside v n u s₀ m₀ t₀ (walked_at l (at.used + 1) (at.cycles + 1) at.nodes at.node) z t
    unfolding less used cycles size ending drawn
    goes_on l h i j =
        let used_is : at.used ≡ u + used g.walk = ap (λ (a : Walked). a.used) g.is in
        record {
          fuel = less;
          walk = step g.walk;
          some = omega (arith, i, used_is, g.enough);
          enough = omega (arith, g.enough, g.some);
          same = first ∙ at_goes less g.walk here _ h (omega (arith, i, used_is));
          is = ap (λ (a : Walked). walked_at l (a.used + 1) (a.cycles + 1) a.nodes a.node) g.is
              ∙ ap (λ (i : ℕ). walked_at l i (cycles g.walk + 1) (n + size g.walk) (ending g.walk v n)) (omega arith);
          table = g.table;
          long = g.long;
          even = j ∙ g.even;
        }

  -- cycles fit where the cycles used do
  pub small : at.cycles ≤ at.used
  small = omega (arith, ap (λ (a : Walked). a.used) g.is, ap (λ (a : Walked). a.cycles) g.is, cycles_used g.walk)

  abbrev answer : Forks View
  answer = fork_at machine limit nest (n + size g.walk) (u + used g.walk) here

  abbrev shows : Forks View → Result Walked Refusal → List ℕ → List ℕ → Type 0
  shows o r d y = ShownFork k w o (ending g.walk v n) (n + size g.walk) (u + used g.walk) t r d y

  module _ (z : List ℕ) (h : Saw (Ok AtFork) z) where
    -- what fork says, and the same with the walk so far in place of the record
    abbrev Says : Result Walked Refusal → List ℕ → List ℕ → Type 0
    Says r d y = ShownFork k w (fork_at machine limit nest at.nodes at.used (view_at k w at.regs z)) at.node at.nodes at.used t r d y

    asked : (r : Result Walked Refusal) (d y : List ℕ) → Says r d y → shows answer r d y
    asked r d y q =
        subst (λ (a : Walked). ShownFork k w (fork_at machine limit nest a.nodes a.used here) a.node a.nodes a.used t r d y) g.is
        (subst (λ (c : List ℕ). ShownFork k w (fork_at machine limit nest at.nodes at.used (view_at k w at.regs c)) at.node at.nodes at.used t r d y) h.1 q)

    pub fork_out : (e : Refusal) (d y d' y' : List ℕ) → Says (Err e) d y → Shown k w whole v n u t₀ (Err e) d' y'
    fork_out e d y d' y' q = go answer refl (asked (Err e) d y q)
      where
        go : (o : Forks View) → answer ≡ o → shows o (Err e) d y → Shown k w whole v n u t₀ (Err e) d' y'
        go (failed j) p c = out (Err e) d' y' (first ∙ at_failed less g.walk here j h.0 p) c
        go (forked a b s₁) p c = absurd c

    module _ (r : Walked) (d y : List ℕ) (q : Says (Ok r) d y) where
      -- an accepted qif
      record Taken : Type 0 where
        pub a : Walk
        pub b : Walk
        pub s₁ : View
        pub forked_is : answer ≡ forked a b s₁
        pub shown : shows (forked a b s₁) (Ok r) d y

      c : Taken
      c = go answer refl (asked (Ok r) d y q)
        where
          go : (o : Forks View) → answer ≡ o → shows o (Ok r) d y → Taken
          go (failed j) p c = absurd c
          go (forked a b s₁) p c = record { a = a; b = b; s₁ = s₁; forked_is = p; shown = c }

      below : u + used g.walk < limit
      below =
          subst (λ (o : Forks View). AllForks o (λ a b t. u + used g.walk < limit)) c.forked_is (forked_below machine limit nest (n + size g.walk) (u + used g.walk) here)

      grown : r.used ≡ u + used g.walk + fork_used c.a c.b
      grown = ap (λ (a : Walked). a.used) c.shown.0

      pub falls : limit - r.used < limit - at.used
      falls = omega (arith, below, grown, ap (λ (a : Walked). a.used) g.is)

      pub fits : at.cycles + r.cycles ≤ r.used
      fits =
          omega (arith, grown, ap (λ (a : Walked). a.cycles) c.shown.0, ap (λ (a : Walked). a.cycles) g.is, cycles_used g.walk, cycles_used c.a, cycles_used c.b)

      pub forks_on : length d ≡ length t → length y ≡ length m → Going k w limit nest inside v n u s₀ m₀ t₀ (walked_at r.regs r.used (at.cycles + r.cycles) r.nodes r.node) y d
      unfolding less used cycles size ending drawn
      forks_on i j =
          record {
            fuel = less;
            walk = fork g.walk c.a c.b;
            some = omega (arith, below, g.enough);
            enough = omega (arith, g.enough, g.some);
            same = first
                ∙ (at_forked less g.walk here c.a c.b c.s₁ h.0 c.forked_is
                ∙ ap (λ (b : View). rest less (fork g.walk c.a c.b) b) c.shown.2);
            is = ap (λ (b : Walked). walked_at r.regs b.used (at.cycles + b.cycles) b.nodes b.node) c.shown.0
                ∙ (ap (λ (b : Walked). walked_at r.regs (u + used g.walk + fork_used c.a c.b) (b.cycles + fork_cycles c.a c.b) (n + size g.walk + fork_size c.a c.b) (n + size g.walk + fork_size c.a c.b)) g.is
                ∙ ap₂ (λ (i j : ℕ). walked_at r.regs i (cycles g.walk + fork_cycles c.a c.b) j (n + size g.walk + fork_size c.a c.b)) (omega arith) (omega arith));
            table = c.shown.1 ∙ ap (fork_drawn (ending g.walk v n) (n + size g.walk) c.a c.b) g.table;
            long = i ∙ g.long;
            even = j ∙ g.even;
          }
