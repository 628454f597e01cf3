-- A turn in place as the turn of the whole machine x: one before the last position, and one that is refused there. Assumes nothing.
use mathlib.Core.Path.{◌≡◌, refl, sym, ap, ◌∙◌, subst₂}
use mathlib.Core.Logic.{◌≢◌}
use mathlib.Core.Bool.{Bool, true, false}
use mathlib.Core.List.{List, ◌++◌}
use Prim.Native.Nat.{ℕ, ◌+◌}
use native.Mathlib.Omega.{arith}
use lib.Dec.{eqb}
use lib.IntN.{ℤ}
use lib.ListN.{take, drop}
use borrow.Author.Tests.{eqb-true, eqb-false}
use Rattle.word.specs.Word.{pick}
use Rattle.step.specs.declared.Status.{Status}
use Rattle.step.specs.declared.Direction.{Direction}
use Rattle.step.specs.declared.Direction.TheVariants.{Forward, Back}
use Rattle.step.specs.Step.{Attempt}
use Rattle.std.specs.Prelude.{Err, Option, None}
use Rattle.step.specs.declared.Store.{Store}
use Rattle.step.specs.View.{nodes}
use Rattle.step.specs.Sizes.{bad_sizes}
use Rattle.word.specs.Refusal.{refuse}
use Rattle.word.specs.Refusal.{number_of, number}
use Rattle.word.proofs.Refusal.{number_above}
use Rattle.machine.specs.Turn.{judged, planned, turned, plan_at, turned_at}
use Rattle.machine.specs.Position.{end, is_last, advanced, position_after}
use Rattle.machine.specs.Machine.{status_of, updated, Machine, left_as, at_position, state_of, view_of, wrong_sizes}
use Rattle.machine.specs.Calls.{plan_of, view_after, refusal, next, found}
use Rattle.machine.specs.Preview.{planned_store, store_by}
use Rattle.machine.specs.InPlace.{Turns, last_refusal, First}
use Rattle.machine.specs.Claims.{LastRefused, Unseen}
use Rattle.machine.proofs.Claims.{next_position}
use Rattle.machine.proofs.Sure.{uncounted}
use Rattle.machine.proofs.Room.{advance_one, no_other}
use Rattle.word.specs.declared.refusals.Refusal.TheVariants.{Sizes, Position}

module _ {d : Direction} (x : Machine) {w : ℕ} {at' : Status} {regs' : List ℕ}
    (f : Turns d (status_of x.state) x.state.regs x.memory x.table w at' regs') (e : is_last d x.state.position ≡ false) where
  plan_is : plan_at d false (status_of x.state) x.state.regs x.memory x.table ≡ plan_of d x
  plan_is = ap (λ (b : Bool). planned (state_of x).links d b (view_of x)) (sym e)

  pub refusal_is : w ≡ refusal d x
  refusal_is = f.refusal ∙ ap (λ (a : Attempt). number a) plan_is

  pub status_is : at' ≡ (view_after d x).at
  status_is = f.status ∙ ap (λ (a : Attempt). (turned d a (view_of x)).at) plan_is

  -- the position i turns further than p, and one more where it is accepted
  position_is : (i : ℕ) (p : ℤ) → x.state.position ≡ advanced d i p
      → advanced d (pick (eqb w 0) (i + 1) i) p ≡ position_after d (plan_of d x) x.state.position
  position_is i p q = go (eqb w 0) refl
    where
      go : (b : Bool) → eqb w 0 ≡ b → advanced d (pick b (i + 1) i) p ≡ position_after d (plan_of d x) x.state.position
      go true z = sym (next_position d x (sym refusal_is ∙ eqb-true w 0 z) ∙ (ap (advanced d 1) q ∙ advance_one d i p))
      go false z = sym (uncounted d (plan_of d x) x.state.position (λ h. eqb-false w 0 z (refusal_is ∙ h)) ∙ q)

  pub state_is : (i : ℕ) (p : ℤ) → x.state.position ≡ advanced d i p
      → updated x.state (advanced d (pick (eqb w 0) (i + 1) i) p) at' regs' ≡ (next d x).state
  state_is i p q =
      let registers = f.registers ∙ ap (λ (a : Attempt). (turned d a (view_of x)).regs) plan_is in
      λ j. updated x.state (position_is i p q j) (status_is j) (registers j)

  pub memory_is : {mem' : List ℕ} → mem' ≡ (turned_at d false (status_of x.state) x.state.regs x.memory x.table).memory ++ drop x.state.m x.memory
      → mem' ≡ (next d x).memory
  memory_is h = h ∙ ap (λ (a : Attempt). (turned d a (view_of x)).memory ++ drop x.state.m x.memory) plan_is

  pub store_is : {s : Option Store} → s ≡ planned_store (plan_at d false (status_of x.state) x.state.regs x.memory x.table) (found d x) → s ≡ store_by d x
  store_is h = h ∙ ap (λ (a : Attempt). planned_store a (found d x)) plan_is

-- ---- at the last position a turn is refused by 10 or 21

ten_or_21 : (b : Bool) → ◌≡◌ {A = Attempt} (refuse b (Err Sizes) (Err Position)) (Err (refuse b Sizes Position))
unfolding refuse
ten_or_21 true = refl
ten_or_21 false = refl

plan_last : (d : Direction) (at : Status) (regs mem table : List ℕ) → plan_at d true at regs mem table ≡ Err (refuse (bad_sizes at (take at.m mem) (nodes at table)) Sizes Position)
unfolding judged refuse
plan_last Forward at regs mem table = ten_or_21 (bad_sizes at (take at.m mem) (nodes at table))
plan_last Back at regs mem table = ten_or_21 (bad_sizes at (take at.m mem) (nodes at table))

module _ (d : Direction) (x : Machine) (e : is_last d x.state.position ≡ true) where
  last_is : plan_of d x ≡ Err (last_refusal x)
  last_is =
      ap (λ (b : Bool). planned (state_of x).links d b (view_of x)) e
      ∙ plan_last d (status_of x.state) x.state.regs x.memory x.table

  pub last_refusal_lem : refusal d x ≡ number_of (last_refusal x)
  last_refusal_lem = ap (λ (a : Attempt). number a) last_is

  pub last_stands : refusal d x ≢ 0
  last_stands z = let h = number_above (last_refusal x) in let e = sym last_refusal_lem ∙ z in omega arith

  pub last_first : First d x (number_of (last_refusal x)) x.state None
  last_first =
      record {
        refusal = sym last_refusal_lem;
        state = sym (ap (λ (a : Attempt). updated x.state (position_after d a x.state.position) (turned d a (view_of x)).at (turned d a (view_of x)).regs) last_is);
        store = sym (ap (λ (a : Attempt). planned_store a (found d x)) last_is);
      }

pub end_last : (d : Direction) → is_last d (end d) ≡ true
end_last Forward = refl
end_last Back = refl

pub last_number : (b : Bool) → number_of (refuse b Sizes Position) ≡ refuse b 10 21
unfolding refuse
last_number true = refl
last_number false = refl

pub last_refused : LastRefused
last_refused d x y n p e = p.refusal ∙ (last_refusal_lem d x (ap (is_last d) e ∙ end_last d) ∙ last_number (wrong_sizes x))

-- ---- before it no turn looks at the position

module _ (d : Direction) (x : Machine) (p : ℤ) (e : is_last d x.state.position ≡ is_last d p) where
  same_plan : plan_of d x ≡ plan_of d (at_position x p)
  same_plan = ap (λ (b : Bool). planned (state_of x).links d b (view_of x)) e

  same_next : at_position (next d x) (next d (at_position x p)).state.position ≡ next d (at_position x p)
  same_next =
      let q = (next d (at_position x p)).state.position in
      ap
      (λ (a : Attempt).
      let s = turned d a (view_of x) in left_as x (updated x.state q s.at s.regs) (s.memory ++ drop x.state.m x.memory))
      same_plan

pub unseen : Unseen
unseen d x y z p n i f g h k =
    let e = no_other d x.state.position f.bounds.position h ∙ sym (no_other d p g.bounds.position k) in (
      f.refusal ∙ (ap number (same_plan d x p e) ∙ sym g.refusal),
      subst₂ (λ (y z : Machine). at_position y z.state.position ≡ z) (sym f.left) (sym g.left) (same_next d x p e),
    )
