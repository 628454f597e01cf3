-- The whole walk's answers. Assumes nothing.
use mathlib.Core.Path.{◌≡◌, refl, sym, ap, ◌∙◌}
use mathlib.Core.List.{List}
use Prim.Native.Nat.{ℕ}
use lib.ListN.{replicate}
use Rattle.std.proofs.Common.{Ok, Err}
use Rattle.word.specs.Refusal.{number_of}
use Rattle.word.specs.declared.refusals.Refusal.{Refusal}
use Rattle.step.specs.View.{View}
use Rattle.maker.specs.Making.{Outcome}
use Rattle.maker.specs.Making.Outcome.{refused, ended}
use Rattle.maker.specs.Walk.{drawn}
use Rattle.machine.specs.declared.Record.{Record}
use Rattle.maker.specs.Parts.{Shown}
use Rattle.maker.specs.Make.{most_words, made_as, with_table, answer_of, drawn_by}
use Rattle.maker.specs.declared.Walked.{Walked}

-- ---- the answer, and the table, of a walk that is over

module _ (q : Record) (k w : ℕ) (o : Outcome View) (l₀ l z : List ℕ) where
  pub refused_made : (e : Refusal) → Shown k w o 1 1 0 l₀ (Err e) l z → (made_as (number_of e) 0 q ≡ answer_of q o) × (replicate most_words 0 ≡ drawn_by o)
  refused_made e h = go o h
    where
      go : (o : Outcome View) → Shown k w o 1 1 0 l₀ (Err e) l z → (made_as (number_of e) 0 q ≡ answer_of q o) × (replicate most_words 0 ≡ drawn_by o)
      go (refused j) i = (ap (λ (x : ℕ). made_as x 0 q) (sym i), refl)
      go (ended p s) i = absurd i

  pub ended_made : (r : Walked) → Shown k w o 1 1 0 l₀ (Ok r) l z → l₀ ≡ replicate most_words 0 → (made_as 0 r.cycles (with_table q r.nodes) ≡ answer_of q o) × (l ≡ drawn_by o)
  ended_made r h c = go o h
    where
      go : (o : Outcome View) → Shown k w o 1 1 0 l₀ (Ok r) l z → (made_as 0 r.cycles (with_table q r.nodes) ≡ answer_of q o) × (l ≡ drawn_by o)
      go (refused j) e = absurd e
      go (ended p s) e = (ap (λ (x : Walked). made_as 0 x.cycles (with_table q x.nodes)) e.0, e.1 ∙ ap (drawn p 1 1) c)
