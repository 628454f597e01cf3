-- The claims on single turns. Assumes nothing.
use mathlib.Core.Path.{◌≡◌, refl, sym, ap, ap₂, ◌∙◌, subst, subst⁻¹}
use mathlib.Core.Logic.{◌≢◌}
use mathlib.Core.List.{List, ◌++◌}
use Prim.Native.Nat.{ℕ}
use lib.IntN.{ℤ}
use lib.ListN.{length, take-append-drop}
use mir.Syntax.{w64}
use mir.Val.{SFits}
use Rattle.step.specs.declared.Status.{Status}
use Rattle.step.specs.declared.Direction.{Direction}
use Rattle.step.specs.declared.Direction.TheVariants.{Forward, Back}
use Rattle.step.specs.Step.{Attempt}
use Rattle.std.specs.Prelude.{Err, Ok}
use Rattle.step.specs.View.{View, Bounds, flip}
use Rattle.step.proofs.Views.{seam_take, seam_drop, seam_long}
use Rattle.step.proofs.Sized.{SameSizes, marked_sizes}
use Rattle.word.specs.Refusal.{number}
use Rattle.machine.specs.Turn.{planned, turned}
use Rattle.machine.specs.Position.{is_last, advanced, position_after}
use Rattle.machine.specs.Machine.{status_of, updated, Machine, left_as, State, state_of, excess_of, view_in, view_of, Bounded}
use Rattle.machine.specs.Calls.{plan_of, view_after, TurnPromise, refusal, next, Leads}
use Rattle.machine.specs.Claims.{Harmless, Inverse, Origin, OneOrigin, OnCalls}
use Rattle.machine.specs.declared.Record.{Record}
use Rattle.machine.proofs.Moves.{turned_long}
use Rattle.machine.proofs.Room.{Step, step, home}
use Rattle.machine.proofs.Inverse.{Reversed, going, turn_back}
use Rattle.machine.proofs.Sure.{Made, made, unmade, uncounted}

-- ---- the sizes stay

-- so what was left in a record is what the next turn sees
pub same_status_lem : (r : Record) (p : ℤ) (at : Status) (regs : List ℕ) → SameSizes (status_of r) at → status_of (updated r p at regs) ≡ at
same_status_lem r p at regs z =
    let k = sym z.k in
    let m = sym z.m in
    let n = sym z.n in
    λ j. record { qifv = at.qifv; qifw = at.qifw; k = k j; m = m j; n = n j }

pub turned_sizes : (d : Direction) (x : Attempt) (s : View) → SameSizes s.at (turned d x s).at
turned_sizes d (Err n) s = record { k = refl; m = refl; n = refl }
turned_sizes d (Ok e) s = marked_sizes e s.at

-- ---- a turn of a state alone

abbrev pub plan_in : Direction → State → Attempt
plan_in d s = planned s.links d (is_last d s.state.position) (view_in s)

abbrev pub next_in : Direction → State → State
next_in d s =
    let v = turned d (plan_in d s) (view_in s) in
    record { state = updated s.state (position_after d (plan_in d s) s.state.position) v.at v.regs; words = v.memory; links = s.links }

-- ---- the lent memory: what a turn leaves in front, and the excess

module _ (d : Direction) (x : Machine) where
  abbrev s : View
  s = view_of x

  abbrev t : List ℕ
  t = (state_of x).links

  abbrev p : ℤ
  p = x.state.position

  abbrev plan : Attempt
  plan = plan_of d x

  abbrev s' : View
  s' = view_after d x

  pub next_sizes : SameSizes s.at s'.at
  next_sizes = turned_sizes d plan s

  long : length s'.memory ≡ length (state_of x).words
  long = turned_long d plan s

  pub next_long : length (next d x).memory ≡ length x.memory
  next_long = seam_long x.memory s'.memory x.state.m long

  pub next_excess : excess_of (next d x) ≡ excess_of x
  next_excess = λ j. record { words = seam_drop x.memory s'.memory x.state.m long j; links = (excess_of x).links }

  -- the state that the next call sees
  next_words : (state_of (next d x)).words ≡ s'.memory
  next_words = seam_take x.memory s'.memory x.state.m long

  pub next_state : state_of (next d x) ≡ next_in d (state_of x)
  next_state = λ j. record { state = (next d x).state; words = next_words j; links = t }

  pub next_seen : view_of (next d x) ≡ s'
  next_seen =
      let a = same_status_lem x.state (position_after d plan p) s'.at s'.regs next_sizes in
      λ j. record { at = a j; regs = s'.regs; memory = next_words j }

  pub refused_keeps : refusal d x ≢ 0 → next d x ≡ x
  refused_keeps h =
      let e : s' ≡ s = unmade d plan s h in
      rw (uncounted d plan p h, e) (ap (left_as x x.state) (take-append-drop x.state.m x.memory))

  module _ (h : refusal d x ≡ 0) where
    effect : Made plan
    effect = made t d (is_last d p) s h

    pub next_position : (next d x).state.position ≡ advanced d 1 p
    next_position = ap (λ (a : Attempt). position_after d a p) effect.is

  module _ (g : Bounded x) (h : refusal d x ≡ 0) where
    is_next : turned d (Ok (effect h).effect) s ≡ s'
    is_next = ap (λ (a : Attempt). turned d a s) (sym (effect h).is)

    further : Step d p (advanced d 1 p)
    further = step d p g.position (going t d (is_last d p) s (effect h).is)

    reversed : Reversed t d s s'
    reversed = subst (Reversed t d s) is_next (turn_back t d (is_last d p) s g.view (effect h).is)

    plan_back : plan_of (flip d) (next d x) ≡ Ok reversed.by
    plan_back = ap₂ (planned t (flip d)) (ap (is_last (flip d)) (next_position h) ∙ further.back) next_seen ∙ reversed.plan

    view_back : view_after (flip d) (next d x) ≡ s
    view_back = ap₂ (turned (flip d)) plan_back next_seen ∙ reversed.home

    position_back : (next (flip d) (next d x)).state.position ≡ p
    position_back = ap₂ (position_after (flip d)) plan_back (next_position h) ∙ home d p

    memory_back : (next (flip d) (next d x)).memory ≡ x.memory
    memory_back = (λ j. (view_back j).memory ++ (next_excess j).words) ∙ take-append-drop x.state.m x.memory

    pub turn_home : (refusal (flip d) (next d x) ≡ 0) × (next (flip d) (next d x) ≡ x) × Bounded (next d x)
    turn_home = (
      ap number plan_back,
      λ j. left_as x (updated x.state (position_back j) (view_back j).at (view_back j).regs) (memory_back j),
      record { view = subst Bounds (sym next_seen) reversed.bounds; position = subst⁻¹ (SFits w64) (next_position h) further.fits },
    )

-- ---- the claims

pub harmless : Harmless
harmless = record { refused = refused_keeps; excess = next_excess }

leads_back : (d : Direction) (x y : Machine) → Bounded x → Leads d x y → Leads (flip d) y x
leads_back d x y g h =
    let p = turn_home d x g h.0 in
    subst (λ (z : Machine). Leads (flip d) z x) h.1 (p.0, p.1)

pub inverse : Inverse
inverse = record { forward_back = leads_back Forward; back_forward = leads_back Back }

pub one_origin : OneOrigin
one_origin =
    record {
      only = λ d y e e'. sym (yields d y e).1 ∙ (yields d y e').1;
      yields = yields;
      exists = exists;
    }
  where
    yields : (d : Direction) (y : Machine) (e : Origin d y) → Leads (flip d) y e.machine
    yields d y e = leads_back d e.machine y e.bounds e.leads

    exists : (d : Direction) (y : Machine) → Bounded y → refusal (flip d) y ≡ 0 → Origin d y
    exists Forward y g h = let p = turn_home Back y g h in record { machine = next Back y; bounds = p.2; leads = (p.0, p.1) }
    exists Back y g h = let p = turn_home Forward y g h in record { machine = next Forward y; bounds = p.2; leads = (p.0, p.1) }

-- ---- and of calls, by their promises

module _ {d : Direction} {x y : Machine} {n : ℕ} (p : TurnPromise d x n y) where
  call_undone : {z : Machine} {k : ℕ} → n ≡ 0 → TurnPromise (flip d) y k z → (k ≡ 0) × (z ≡ x)
  call_undone e q = let h = leads_back d x y p.bounds (sym p.refusal ∙ e, sym p.left) in (q.refusal ∙ h.0, q.left ∙ h.1)

  call_accepted : (e : Origin (flip d) x) → Leads d x e.machine → (n ≡ 0) × (y ≡ e.machine)
  call_accepted e l = (p.refusal ∙ l.0, p.left ∙ l.1)

pub on_calls : OnCalls
on_calls = record { undone = λ d x y z n k p e q. call_undone p e q; origin = origin; accepted = accepted }
  where
    origin : (d : Direction) (x y : Machine) (n : ℕ) → TurnPromise d x n y → n ≡ 0 → Origin (flip d) x
    origin Forward x y n p e = one_origin.exists Back x p.bounds (sym p.refusal ∙ e)
    origin Back x y n p e = one_origin.exists Forward x p.bounds (sym p.refusal ∙ e)

    accepted : (d : Direction) (x y : Machine) (n : ℕ) → TurnPromise d x n y → (e : Origin (flip d) x) → (n ≡ 0) × (y ≡ e.machine)
    accepted Forward x y n p e = call_accepted p e (one_origin.yields Back x e)
    accepted Back x y n p e = call_accepted p e (one_origin.yields Forward x e)
