-- A run of turns, and one turn alone. Assumes nothing.
use mathlib.Core.Path.{◌≡◌, refl, sym, ap, ◌∙◌, subst, subst⁻¹}
use mathlib.Core.Bool.{Bool, true, false}
use mathlib.Core.Logic.{◌≢◌}
use mathlib.Core.List.{List}
use Prim.Native.Nat.{ℕ, ◌+◌, ◌<◌, ◌≤◌}
use native.Mathlib.Omega.{arith}
use lib.Dec.{eqb, ltb}
use lib.IntN.{ℤ}
use mir.Syntax.{w64}
use mir.Val.{SFits}
use mir.Facts.{to_z-of_z}
use borrow.Author.Tests.{eqb-true, eqb-false}
use Rattle.std.specs.Prelude.{Result, Option, Some, None}
use Rattle.word.specs.Word.{pick}
use Rattle.word.specs.Refusal.{number_of, number}
use Rattle.word.specs.declared.refusals.Refusal.{Refusal}
use Rattle.word.proofs.Refusal.{number_above}
use Rattle.word.proofs.Bits.{reread}
use Rattle.step.specs.declared.Status.{Status}
use Rattle.step.specs.declared.Direction.{Direction}
use Rattle.step.specs.View.{seen}
use Rattle.step.proofs.Sized.{SameSizes}
use Rattle.machine.specs.Machine.{status_of, record_at, updated, Machine, left_as, Bounded}
use Rattle.machine.specs.Calls.{TurnPromise, refusal, next}
use Rattle.machine.specs.Turn.{plan_at}
use Rattle.machine.specs.Position.{is_last, advanced}
use Rattle.machine.specs.InPlace.{Turns, Steps, Shows, status_shown, store_shown, room, last_refusal, number_by, First, Runs}
use Rattle.machine.specs.Batch.{after, turns_made, BatchPromise}
use Rattle.machine.specs.declared.Record.{Record}
use Rattle.machine.specs.declared.Ran.{Ran}
use Rattle.machine.specs.declared.cycle.Shown.{Shown}
use Rattle.machine.proofs.Claims.{refused_keeps, turned_sizes}
use Rattle.machine.proofs.Room.{advance_none, last_room}
use Rattle.machine.proofs.Whole.{refusal_is, state_is, memory_is, store_is, last_refusal_lem, last_stands, last_first}
use Rattle.machine.proofs.Loops.{Loop, limited, loop_starts, done, full, again, stop}

pub run_starts : {d : Direction} {n most : ℕ} {x : Machine} {at : Status} → at ≡ status_of x.state
    → SFits w64 x.state.position → most ≡ pick (ltb (room d (reread x.state.position)) n) (room d (reread x.state.position)) n → Bounded x
    → Loop d n most x at x.state.regs x.memory 0
run_starts {d = d} {n = n} {most = most} e f l g =
    let m = subst (λ (p : ℤ). most ≡ pick (ltb (room d p) n) (room d p) n) (to_z-of_z f) l in loop_starts e (limited m) g

-- a status with the record's sizes
made_at : (r : Record) (p : ℤ) (at : Status) (regs : List ℕ) → SameSizes (status_of r) at → updated r p at regs ≡ record_at at regs p
made_at r p at regs z =
    let k = sym z.k in
    let m = sym z.m in
    let n = sym z.n in
    λ j. record { regs = regs; qifv = at.qifv; qifw = at.qifw; k = k j; m = m j; n = n j; position = p }

module _ {d : Direction} {n most : ℕ} {x : Machine} {at : Status} {regs mem : List ℕ} {i : ℕ} (inv : Loop d n most x at regs mem i) where
  abbrev r : Record
  r = x.state

  run_room : i ≤ room d r.position
  run_room = let a = inv.within in let b = inv.limit.inside in omega arith

  -- what a run ends with, said of the record that it began with
  runs : (w : Option Refusal) (at' : Status) (regs' mem' : List ℕ) → SameSizes (status_of r) at'
      → BatchPromise d n x i (number_by w) (left_as x (updated r (advanced d i r.position) at' regs') mem')
      → Runs d n x (record { turns = i; refusal = w; at = at'; regs = regs' }) mem'
  runs w at' regs' mem' z b =
      record {
        batch = subst (λ (u : Record). BatchPromise d n x i (number_by w) (left_as x u mem')) (made_at r (advanced d i r.position) at' regs' z) b;
        made = run_room;
      }

  -- the loop is through
  whole : (w : Option Refusal) → most ≡ i → Runs d n x (record { turns = i; refusal = w; at = at; regs = regs }) mem
      → Runs d n x (record { turns = most; refusal = w; at = at; regs = regs }) mem
  whole w e = subst⁻¹ (λ (k : ℕ). Runs d n x (record { turns = k; refusal = w; at = at; regs = regs }) mem) e

  -- all n turns are made
  pub run_done : most ≤ i → n ≤ most → Runs d n x (record { turns = most; refusal = None; at = at; regs = regs }) mem
  run_done h m =
      let v = inv.within in
      let t : most ≡ i = omega arith in
      whole None t (runs None at regs mem inv.sizes (done inv h m))

  -- or there is room for no more
  pub run_full : {e : Refusal} → most ≤ i → most < n → e ≡ last_refusal (left_as x r mem)
      → Runs d n x (record { turns = most; refusal = Some e; at = at; regs = regs }) mem
  run_full {e = e} h m q =
      let v = inv.within in
      let t : most ≡ i = omega arith in
      whole (Some e) t (runs (Some e) at regs mem inv.sizes
      (subst (λ (w : Refusal). BatchPromise d n x i (number_of w) (left_as x (updated r (advanced d i r.position) at regs) mem)) (sym q) (full inv h m)))

  module _ {w : ℕ} {at' : Status} {regs' mem' : List ℕ} (f : Steps d at regs mem x.table w at' regs' mem') where
    sizes_after : SameSizes (status_of r) at'
    sizes_after =
        let z = turned_sizes d (plan_at d false at regs mem x.table) (seen at regs mem) in
        let y = inv.sizes in
        subst⁻¹ (SameSizes (status_of r)) f.turn.status (record { k = z.k ∙ y.k; m = z.m ∙ y.m; n = z.n ∙ y.n })

    -- the turn was accepted
    pub run_again : i < most → w ≡ 0 → Loop d n most x at' regs' mem' (i + 1)
    run_again h z = again inv f h z

    -- or refused
    pub run_stop : {e : Refusal} → i < most → w ≡ number_of e → Runs d n x (record { turns = i; refusal = Some e; at = at'; regs = regs' }) mem'
    run_stop {e} h z =
        let stands : w ≡ 0 → ⊥ = λ q. let l = number_above e in omega arith in
        runs (Some e) at' regs' mem' sizes_after
        (subst (λ (k : ℕ). BatchPromise d n x i k (left_as x (updated r (advanced d i r.position) at' regs') mem')) z (stop inv f h stands))

-- what a run is to a batch, which reads the position from its bits and builds the record s
module _ {d : Direction} {n : ℕ} {x : Machine} {a : Ran} {mem' : List ℕ} (f : Runs d n x a mem') where
  as_read : reread x.state.position ≡ x.state.position
  as_read = to_z-of_z f.batch.bounds.position

  pub batch_room : a.turns ≤ room d (reread x.state.position)
  batch_room = rw as_read f.made

  pub batch_is : {s : Record} {w : ℕ} → s ≡ record_at a.at a.regs (advanced d a.turns (reread x.state.position)) → w ≡ number_by a.refusal
      → BatchPromise d n x a.turns w (left_as x s mem')
  batch_is e q = rw (e, as_read, q) f.batch

-- ---- one turn alone

-- of a machine whose bounds are known, at a position that is read from its bits
module _ (d : Direction) (x : Machine) (g : Bounded x) where
  -- none is left this way
  pub turn_last : {e : Refusal} → room d x.state.position ≡ 0 → e ≡ last_refusal x → TurnPromise d x (number_of e) x
  turn_last z q =
      let f = (last_room d x.state.position g.position).0 z in
      record { refusal = ap number_of q ∙ sym (last_refusal_lem d x f); left = sym (refused_keeps d x (last_stands d x f)); bounds = g }

  pub first_last : {e : Refusal} → room d x.state.position ≡ 0 → e ≡ last_refusal x → First d x (number_of e) x.state None
  first_last z q =
      subst⁻¹ (λ (e : Refusal). First d x (number_of e) x.state None) q (last_first d x ((last_room d x.state.position g.position).0 z))

  module _ (h : room d x.state.position ≢ 0) where
    pub turn_room : 1 ≤ room d (reread x.state.position)
    turn_room = rw (to_z-of_z g.position) (omega arith)

    inside : is_last d x.state.position ≡ false
    inside = (last_room d x.state.position g.position).1 (omega arith)

    module _ {w : ℕ} {at' : Status} {regs' : List ℕ} (f : Turns d (status_of x.state) x.state.regs x.memory x.table w at' regs') where
      -- the record after it, as it is built
      record_is : w ≡ 0 → record_at at' regs' (advanced d 1 (reread x.state.position)) ≡ (next d x).state
      record_is z =
          let y = turned_sizes d (plan_at d false (status_of x.state) x.state.regs x.memory x.table) (seen (status_of x.state) x.state.regs x.memory) in
          let p = x.state.position in
          ap (λ (q : ℤ). record_at at' regs' (advanced d 1 q)) (to_z-of_z g.position)
          ∙ (sym (made_at x.state (advanced d 1 p) at' regs' (subst⁻¹ (SameSizes (status_of x.state)) f.status (record { k = y.k; m = y.m; n = y.n })))
          ∙ (sym (ap (λ (k : ℕ). updated x.state (advanced d (pick (eqb k 0) 1 0) p) at' regs') z)
          ∙ state_is x f inside 0 p (sym (advance_none d p))))

      -- refused, it leaves the record
      kept_is : (w ≡ 0 → ⊥) → next d x ≡ x
      kept_is z = refused_keeps d x (λ q. z (refusal_is x f inside ∙ q))

    module _ {w : ℕ} {at' : Status} {regs' mem' : List ℕ} (f : Steps d (status_of x.state) x.state.regs x.memory x.table w at' regs' mem') where
      pub turn_done : w ≡ 0 → TurnPromise d x w (left_as x (record_at at' regs' (advanced d 1 (reread x.state.position))) mem')
      turn_done z =
          let a = record_is f.turn z in
          let b = memory_is x f.turn inside f.memory in
          record { refusal = refusal_is x f.turn inside; left = λ j. left_as x (a j) (b j); bounds = g }

      pub turn_refused : (w ≡ 0 → ⊥) → TurnPromise d x w (left_as x x.state mem')
      turn_refused z =
          let b = memory_is x f.turn inside f.memory ∙ ap (λ (y : Machine). y.memory) (kept_is f.turn z) in
          record { refusal = refusal_is x f.turn inside; left = ap (left_as x x.state) b ∙ sym (kept_is f.turn z); bounds = g }

    module _ {a : Result Shown Refusal} {regs' : List ℕ} (f : Shows d (status_of x.state) x.state.regs x.memory x.table a regs') where
      pub first_done : number a ≡ 0
          → First d x (number a) (record_at (status_shown (status_of x.state) a) regs' (advanced d 1 (reread x.state.position))) (store_shown a)
      first_done z =
          record { refusal = refusal_is x f.turn inside; state = record_is f.turn z; store = store_is x f.turn inside f.store }

      pub first_refused : (number a ≡ 0 → ⊥) → First d x (number a) x.state (store_shown a)
      first_refused z =
          record { refusal = refusal_is x f.turn inside; state = sym (ap (λ (y : Machine). y.state) (kept_is f.turn z)); store = store_is x f.turn inside f.store }

-- ---- a batch of one is a single turn

single : (d : Direction) (x : Machine)
    → (let k = turns_made d 1 x in (pick (ltb k 1) (refusal d (after d k x)) 0 ≡ refusal d x) × (after d k x ≡ next d x))
unfolding after turns_made
single d x = go (eqb (refusal d x) 0) refl
  where
    go : (b : Bool) → eqb (refusal d x) 0 ≡ b
        → (pick (ltb (pick b 1 0) 1) (refusal d (after d (pick b 1 0) x)) 0 ≡ refusal d x) × (after d (pick b 1 0) x ≡ next d x)
    go true e = (sym (eqb-true _ _ e), refl)
    go false e = (refl, sym (refused_keeps d x (eqb-false _ _ e)))

pub one : (d : Direction) (x : Machine) {k w : ℕ} {y : Machine} → BatchPromise d 1 x k w y → TurnPromise d x w y
one d x h =
    let s = single d x in
    record {
      refusal = h.refusal ∙ (ap (λ (k : ℕ). pick (ltb k 1) (refusal d (after d k x)) 0) h.turns ∙ s.0);
      left = h.left ∙ (ap (λ (k : ℕ). after d k x) h.turns ∙ s.1);
      bounds = h.bounds;
    }
