-- What a loop of turns keeps, either way. Assumes nothing.
use mathlib.Core.Path.{◌≡◌, refl, sym, ap, ◌∙◌, subst, subst⁻¹, subst₂}
use mathlib.Core.Bool.{Bool, true, false}
use mathlib.Core.Logic.{◌≢◌}
use mathlib.Core.List.{List}
use Prim.Native.Nat.{ℕ, ◌+◌, ◌-◌, ◌<◌, ◌≤◌}
use native.Mathlib.Omega.{arith}
use lib.Dec.{eqb, ltb}
use lib.IntN.{ℤ}
use lib.ListN.{length}
use borrow.Author.Tests.{ne_eqb, ltb-true, ltb-false}
use Rattle.word.specs.Word.{pick}
use Rattle.word.specs.Refusal.{refuse, number_of}
use Rattle.word.specs.declared.refusals.Refusal.TheVariants.{Sizes, Position}
use Rattle.step.specs.declared.Status.{Status}
use Rattle.step.specs.declared.Direction.{Direction}
use Rattle.step.proofs.Sized.{SameSizes}
use Rattle.step.proofs.BadSizes.{bad_sizes_same}
use Rattle.machine.specs.Machine.{status_of, updated, Machine, left_as, at_position, state_of, wrong_sizes, Bounded}
use Rattle.machine.specs.Calls.{refusal, next}
use Rattle.machine.specs.Position.{is_last, advanced}
use Rattle.machine.specs.InPlace.{Steps, room, last_refusal}
use Rattle.machine.specs.Batch.{after, turns_made, BatchPromise}
use Rattle.machine.specs.declared.Record.{Record}
use Rattle.machine.proofs.InPlace.{turns_regs}
use Rattle.machine.proofs.Claims.{same_status_lem, refused_keeps, next_sizes, next_long}
use Rattle.machine.proofs.Room.{advance_none, Along, along, last_room}
use Rattle.machine.proofs.Whole.{status_is, refusal_is, state_is, memory_is, last_refusal_lem, last_stands}
use Rattle.machine.proofs.Batches.{after_add, made_add, Ends, ends_refused, ends_none, ends_there, promises}

module _ (d : Direction) where
  -- the loop, after i turns from x, all of them made, that led to y
  pub record Going (n : ℕ) (x y : Machine) (i : ℕ) : Type 0 where
    pub most : i ≤ n
    pub made : turns_made d i x ≡ i
    pub machine : after d i x ≡ y
    pub long : length y.memory ≡ length x.memory

  one_made : (y : Machine) → refusal d y ≡ 0 → turns_made d 1 y ≡ 1
  unfolding turns_made
  one_made y z = rw z refl

  one_after : (y : Machine) → after d 1 y ≡ next d y
  unfolding after
  one_after y = refl

  module _ (n : ℕ) (x : Machine) where
    pub going : Going n x x 0
    unfolding after turns_made
    going = record { most = omega arith; made = refl; machine = refl; long = refl }

    module _ (y : Machine) (i : ℕ) (g : Going n x y i) where
      pub went : i < n → refusal d y ≡ 0 → Going n x (next d y) (i + 1)
      went h z =
          record {
            most = omega arith;
            made = made_add d i 1 x g.made ∙ ap (λ (k : ℕ). i + k) (ap (turns_made d 1) g.machine ∙ one_made y z);
            machine = after_add d i 1 x ∙ (ap (after d 1) g.machine ∙ one_after y);
            long = next_long d y ∙ g.long;
          }

      -- the two ways out: what a batch of the rest answers from y, the whole one answers from x
      pub ends : (w : ℕ) (z : Machine) → Ends d (n - i) y 0 w z → Ends d n x i w z
      ends w z e = ends_there d i n x w z g.most g.made (subst (λ (u : Machine). Ends d (n - i) u 0 w z) (sym g.machine) e)

-- ---- the loop's own terms: the registers and the status beside the record

-- as many of n turns as there is room for
pub record Limit (d : Direction) (p : ℤ) (n most : ℕ) : Type 0 where
  pub asked : most ≤ n
  pub inside : most ≤ room d p
  pub full : most < n → most ≡ room d p

pub limited : {d : Direction} {p : ℤ} {n most : ℕ} → most ≡ pick (ltb (room d p) n) (room d p) n → Limit d p n most
limited {d} {p} {n} {most} e = go (ltb (room d p) n) refl e
  where
    go : (b : Bool) → ltb (room d p) n ≡ b → most ≡ pick b (room d p) n → Limit d p n most
    go true h e = let l = ltb-true (room d p) n h in record { asked = omega arith; inside = omega arith; full = λ k. e }
    go false h e = let l = ltb-false (room d p) n h in record { asked = omega arith; inside = omega arith; full = λ k. absurd (omega arith) }

-- the invariant: the turns made, their limit, that the status has the record's sizes, and what the types gave at the start
pub record Loop (d : Direction) (n most : ℕ) (x : Machine) (at : Status) (regs mem : List ℕ) (i : ℕ) : Type 0 where
  pub run : Going d n x (left_as x (updated x.state (advanced d i x.state.position) at regs) mem) i
  pub limit : Limit d x.state.position n most
  pub within : i ≤ most
  pub sizes : SameSizes (status_of x.state) at
  pub sixteen : length regs ≡ 16
  pub bounds : Bounded x

pub loop_starts : {d : Direction} {n most : ℕ} {x : Machine} {at : Status} → at ≡ status_of x.state → Limit d x.state.position n most
    → Bounded x → Loop d n most x at x.state.regs x.memory 0
loop_starts {d} {n} {most} {x} e l g =
    subst (λ (a : Status). Loop d n most x a x.state.regs x.memory 0) (sym e)
    (record {
      run = subst⁻¹ (λ (q : ℤ). Going d n x (at_position x q) 0) (advance_none d x.state.position) (going d n x);
      limit = l;
      within = omega arith;
      sizes = record { k = refl; m = refl; n = refl };
      sixteen = g.view.sixteen;
      bounds = g;
    })

module _ {d : Direction} {n most : ℕ} {x : Machine} {at : Status} {regs mem : List ℕ} {i : ℕ} (inv : Loop d n most x at regs mem i) where
  abbrev r : Record
  r = x.state

  abbrev p : ℤ
  p = r.position

  abbrev y : Machine
  y = left_as x (updated r (advanced d i p) at regs) mem

  same : status_of y.state ≡ at
  same = same_status_lem r (advanced d i p) at regs inv.sizes

  -- the room that is left
  there : Along d i p (advanced d i p)
  there = let a = inv.within in let b = inv.limit.inside in along d i p inv.bounds.position (omega arith)

  before_last : i < most → is_last d y.state.position ≡ false
  before_last h =
      let a = there.left in
      let b = inv.limit.inside in
      (last_room d (advanced d i p) there.fits).1 (omega arith)

  at_last : i ≡ room d p → is_last d y.state.position ≡ true
  at_last h = let a = there.left in (last_room d (advanced d i p) there.fits).0 (omega arith)

  out : {w : ℕ} {z : Machine} → Ends d (n - i) y 0 w z → BatchPromise d n x i w z
  out e = promises inv.bounds (ends d n x y i inv.run _ _ e)

  -- all n turns are made, or there is room for no more
  pub done : most ≤ i → n ≤ most → BatchPromise d n x i 0 y
  done h l =
      let v = inv.within in
      let m = inv.limit.asked in
      let z : 0 ≡ n - i = omega arith in
      out (subst (λ (k : ℕ). Ends d k y 0 0 y) z (ends_none d y))

  -- the record's sizes are those that it began with
  wrong : wrong_sizes y ≡ wrong_sizes (left_as x r mem)
  wrong = bad_sizes_same (state_of y).links (status_of r) (status_of y.state) (state_of y).words (state_of y).words (record { k = refl; m = refl; n = refl }) refl

  pub full : most ≤ i → most < n → BatchPromise d n x i (number_of (last_refusal (left_as x r mem))) y
  full h l =
      let v = inv.within in
      let m = inv.limit.full l in
      let z = at_last (omega arith) in
      let w = last_refusal_lem d y z in
      out
      (subst (λ (k : ℕ). Ends d (n - i) y 0 k y) (w ∙ ap (λ (b : Bool). number_of (refuse b Sizes Position)) wrong)
      (ends_refused d (n - i) y (omega arith) (last_stands d y z)))

  module _ {w : ℕ} {at' : Status} {regs' mem' : List ℕ} (f : Steps d at regs mem x.table w at' regs' mem') (h : i < most) where
    whole : Steps d (status_of y.state) regs mem x.table w at' regs' mem'
    whole = subst⁻¹ (λ (a : Status). Steps d a regs mem x.table w at' regs' mem') same f

    stepped : next d y ≡ left_as x (updated r (advanced d (pick (eqb w 0) (i + 1) i) p) at' regs') mem'
    stepped =
        let e = before_last h in
        let a = state_is y whole.turn e i p refl in
        let b = memory_is y whole.turn e whole.memory in
        sym (λ j. left_as x (a j) (b j))

    pub again : w ≡ 0 → Loop d n most x at' regs' mem' (i + 1)
    again z =
        let s = next_sizes d y in
        let q : refusal d y ≡ 0 = sym (refusal_is y whole.turn (before_last h)) ∙ z in
        let k : pick (eqb w 0) (i + 1) i ≡ i + 1 = rw z refl in
        let m = inv.limit.asked in
        record {
          run =
              subst (λ (u : Machine). Going d n x u (i + 1))
              (stepped ∙ ap (λ (t : ℕ). left_as x (updated r (advanced d t p) at' regs') mem') k)
              (went d n x y i inv.run (omega arith) q);
          limit = inv.limit;
          within = omega arith;
          sizes = subst (SameSizes (status_of r)) (sym (status_is y whole.turn (before_last h))) (record { k = s.k; m = s.m; n = s.n });
          sixteen = turns_regs f.turn ∙ inv.sixteen;
          bounds = inv.bounds;
        }

    pub stop : w ≢ 0 → BatchPromise d n x i w (left_as x (updated r (advanced d i p) at' regs') mem')
    stop z =
        let e = refusal_is y whole.turn (before_last h) in
        let q : refusal d y ≢ 0 = λ q. z (e ∙ q) in
        let m = inv.limit.asked in
        let k = ap (λ (b : Bool). left_as x (updated r (advanced d (pick b (i + 1) i) p) at' regs') mem') (ne_eqb w 0 z) in
        out
        (subst₂ (λ (k : ℕ) (u : Machine). Ends d (n - i) y 0 k u) (sym e) (sym (refused_keeps d y q) ∙ (stepped ∙ k))
        (ends_refused d (n - i) y (omega arith) q))
