-- A preview is the turn made on a copy. Assumes nothing.
use mathlib.Core.Path.{◌≡◌, refl, sym, ap, ◌∙◌, subst, subst₃}
use mathlib.Core.Logic.{◌≢◌}
use mathlib.Core.Bool.{Bool, true, false}
use mathlib.Core.List.{List, ◌++◌}
use Prim.Native.Nat.{ℕ, ◌<◌, ◌≤◌}
use native.Mathlib.Omega.{arith}
use lib.Dec.{eqb}
use lib.ListN.{length, length-take, get_or, drop, take-append-drop}
use lib.Seq.{get_or-set_same, set-get_or}
use borrow.Author.Tests.{eqb-true, eqb-false}
use Rattle.step.specs.declared.Direction.{Direction}
use Rattle.step.specs.declared.Effect.{Effect}
use Rattle.step.specs.declared.Effect.TheVariants.{Nothing, Write, WriteTwo, SwapWord, SetNode}
use Rattle.step.specs.Step.{Attempt}
use Rattle.std.specs.Prelude.{Err, Ok, Option, Some, None}
use Rattle.word.specs.Word.{pick}
use Rattle.step.specs.declared.Store.{Store}
use Rattle.step.specs.View.{Bounds}
use Rattle.step.specs.Step.{store_of, store_in}
use Rattle.word.specs.Refusal.{number}
use Rattle.step.proofs.Views.{view_in, store_in_lem}
use Rattle.step.proofs.Undo.{Fair}
use Rattle.machine.specs.Turn.{turned}
use Rattle.machine.specs.Position.{is_last}
use Rattle.machine.specs.Machine.{status_of, Machine, left_as, state_of, view_of}
use Rattle.machine.specs.Calls.{plan_of, refusal, next, found}
use Rattle.machine.specs.Preview.{planned_store, store_by, changed, reported, preview_of, ShowsTurn, Previews, refused_by, ShowsRefusal}
use Rattle.machine.specs.InPlace.{First}
use Rattle.machine.specs.declared.Record.{Record}
use Rattle.machine.specs.declared.Preview.{Preview}
use Rattle.machine.proofs.Inverse.{plan_fair}

-- ---- the answer

pub reported_refusal : (w : ℕ) (r : Record) (c : Option Store) → (reported w r c).refusal ≡ w
reported_refusal w r None = refl
reported_refusal w r (Some s) = refl

pub preview_is : (d : Direction) (x : Machine) {w : ℕ} {r : Record} {s c : Option Store} {p : Preview}
    → First d x w r s → c ≡ changed s (state_of x).words → p ≡ reported w r c → p ≡ preview_of d x
preview_is d x {w = w} {r = r} f q p =
    p ∙ (ap (reported w r) q ∙ (λ j. reported (f.refusal j) (f.state j) (changed (f.store j) (state_of x).words)))

-- a refused turn changes no word
pub preview_refused : (d : Direction) (x : Machine) {w : ℕ} {p : Preview} → First d x w x.state None → p ≡ reported w x.state None → p ≡ preview_of d x
preview_refused d x f p = preview_is d x f refl p

-- ---- the memory that the turn leaves, by what its plan stores

-- mem with the word stored, if there is one, which then is a data word that is there
module _ (x : Machine) where
  abbrev m : ℕ
  m = x.state.m

  -- of a data word that is there
  abbrev pub Inside : Option Store → Type 0
  Inside None = Unit {0}
  Inside (Some s) = (x.state.k ≤ s.address) × (s.address < m) × (m ≤ length x.memory)

  pub record Leaves (o : Option Store) (mem' : List ℕ) : Type 0 where
    pub memory : mem' ≡ store_in o x.memory
    pub inside : Inside o

  leaves_none : Leaves None ((state_of x).words ++ drop m x.memory)
  leaves_none = record { memory = take-append-drop m x.memory; inside = tt }

  leaves : (d : Direction) (e : Effect) → Fair e (status_of x.state) → m ≤ length (state_of x).words
      → Leaves (store_of e (found d x).regs) ((turned d (Ok e) (view_of x)).memory ++ drop m x.memory)
  leaves d Nothing f h = leaves_none
  leaves d (Write a v) f h = leaves_none
  leaves d (WriteTwo a v b w) f h = leaves_none
  leaves d (SwapWord a i) f h =
      let long : m ≤ length x.memory = let l = length-take m x.memory in omega arith in
      record { memory = sym (store_in_lem x.memory m i _ f.2 (omega (arith, f.2))); inside = (f.1, f.2, long) }
  leaves d (SetNode u j) f h = leaves_none

  pub turn_leaves : (d : Direction) → Bounds (view_of x) → Leaves (store_by d x) (next d x).memory
  turn_leaves d g = go (plan_of d x) refl
    where
      go : (a : Attempt) → plan_of d x ≡ a → Leaves (planned_store a (found d x)) ((turned d a (view_of x)).memory ++ drop m x.memory)
      go (Err n) e = leaves_none
      go (Ok f) e = let p = plan_fair (state_of x).links d (is_last d x.state.position) (view_of x) g e in leaves d f p.0 p.1

-- ---- and so what is reported of it

module _ (x : Machine) (n : ℕ) (r : Record) (mem' : List ℕ) where
  abbrev mem : List ℕ
  mem = x.memory

  -- no word changes
  shows_none : mem' ≡ mem → ShowsTurn x (reported n r None) n (left_as x r mem')
  shows_none h =
      record {
        refusal = refl;
        left = ap (left_as x r) h;
        inside = λ z. absurd (omega (arith, z));
        new = λ z. absurd (omega (arith, z));
        none = λ z. (refl, refl, refl);
      }

  shows : (o : Option Store) → Leaves x o mem' → ShowsTurn x (reported n r (changed o (state_of x).words)) n (left_as x r mem')
  shows None l = shows_none l.memory
  shows (Some s) l = go (eqb (get_or (state_of x).words s.address 0) s.value) refl
    where
      -- the word that was there
      there : get_or mem s.address 0 ≡ get_or (state_of x).words s.address 0
      there = view_in mem x.state.m s.address l.inside.1

      go : (b : Bool) → eqb (get_or (state_of x).words s.address 0) s.value ≡ b → ShowsTurn x (reported n r (pick b None (Some s))) n (left_as x r mem')
      -- an equal word stored is none
      go true e = let v = there ∙ eqb-true _ _ e in shows_none (l.memory ∙ rw (sym v) (set-get_or mem s.address 0))
      go false e =
          let i = l.inside in
          record {
            refusal = refl;
            left = ap (left_as x r) l.memory;
            inside = λ z. (i.0, i.1);
            new = λ z. (
              ap (λ (l : List ℕ). get_or l s.address 0) l.memory ∙ get_or-set_same mem s.address s.value 0 (omega (arith, i.1, i.2)),
              λ q. eqb-false _ _ e (sym there ∙ sym q),
            );
            none = λ z. absurd (z refl);
          }

pub previews : Previews
previews d x p n y h q =
    subst₃ (ShowsTurn x) (sym h.answer) (sym q.refusal) (sym q.left)
    (shows x (refusal d x) (next d x).state (next d x).memory (store_by d x) (turn_leaves x d h.bounds.view))

-- ---- a refused turn

pub shows_refusal : ShowsRefusal
shows_refusal d x p h z =
    subst (λ (p : Preview). p ≡ refused_by p.refusal x.state) (sym h.answer)
    (go (plan_of d x) refl (λ e. z (ap (λ (p : Preview). p.refusal) h.answer ∙ e)))
  where
    go : (a : Attempt) → plan_of d x ≡ a → (preview_of d x).refusal ≢ 0 → preview_of d x ≡ refused_by (preview_of d x).refusal x.state
    go (Err n) e u = rw e refl
    go (Ok f) e u = absurd (u (reported_refusal _ _ _ ∙ ap (λ (a : Attempt). number a) e))
