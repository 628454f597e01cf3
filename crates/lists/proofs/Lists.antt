-- Left and Right. Assumes nothing.
use mathlib.Core.Path.{◌≡◌, refl, sym, ap, ◌∙◌, subst, subst₂}
use mathlib.Core.Bool.{Bool, true, false}
use Prim.Native.Nat.{ℕ, zero, suc, ◌+◌, ◌-◌, ◌<◌, ◌≤◌}
use native.Mathlib.Omega.{arith}
use native.Mathlib.Decide.{dec_le}
use lib.Dec.{eqb}
use borrow.Author.Tests.{eqb-true, eqb-false}
use Rattle.word.specs.Word.{pick}
use Rattle.step.specs.declared.Direction.{Direction}
use Rattle.step.specs.declared.Direction.TheVariants.{Forward, Back}
use Rattle.step.specs.View.{by_way}
use Rattle.word.specs.Refusal.{number}
use Rattle.machine.specs.Machine.{Machine, machine_of, State, state_of, excess_of, Bounded}
use Rattle.machine.specs.Calls.{TurnPromise, accepted, refusal, next}
use Rattle.machine.specs.Batch.{after, BatchPromise}
use Rattle.machine.proofs.Claims.{plan_in, next_in, next_state, next_excess, refused_keeps, turn_home}
use Rattle.machine.proofs.Batches.{batches_complete}
use Rattle.image.proofs.RoundTrip.{refused_loads}
use Rattle.lists.specs.Lists.{Call, Left, SlippedIn, Straight, Right, LeftAndRight}
use Rattle.lists.specs.Lists.Call.{single, batch, samples, reads, refused_load}
use Rattle.lists.specs.Lists.Left.{empty, then}
use Rattle.lists.specs.Lists.Slipped.{ends, both, slip}
use Rattle.lists.specs.Lists.Straight.{none, turn}
use Rattle.lists.proofs.Reversible as R
use Rattle.lists.proofs.Samples.{call_turns, by_turns}

abbrev pub Accepts : Direction → Machine → Type 0
Accepts d x = refusal d x ≡ 0

abbrev Runs : Direction → ℕ → Machine → Machine → Type 0
Runs = R.Runs Machine Accepts next Bounded

abbrev pub Tour : ℕ → ℕ → Machine → Machine → Type 0
Tour = R.Tour Machine Accepts next Bounded

-- ---- each call is a run of its accepted turns

one_run : (d : Direction) (x : Machine) (b : Bool) → eqb (refusal d x) 0 ≡ b → Runs d (pick b 1 0) x (next d x)
one_run d x true e = (eqb-true _ _ e, refl)
one_run d x false e = sym (refused_keeps d x (eqb-false _ _ e))

many_run : (d : Direction) (k : ℕ) (x : Machine) → ((j : ℕ) → j < k → refusal d (after d j x) ≡ 0) → Runs d k x (after d k x)
unfolding after
many_run d zero x h = refl
many_run d (suc k) x h = (h 0 (omega arith), many_run d k (next d x) (λ j l. h (suc j) (omega arith)))

single_run : {d : Direction} {x y : Machine} {n : ℕ} → TurnPromise d x n y → Runs d (accepted n) x y
single_run {d} {x} {n = n} p =
    subst (Runs d (accepted n) x) (sym p.left)
    (subst (λ (w : ℕ). Runs d (accepted w) x (next d x)) (sym p.refusal) (one_run d x (eqb (refusal d x) 0) refl))

batch_run : {d : Direction} {n : ℕ} {x y : Machine} {k w : ℕ} → BatchPromise d n x k w y → Runs d k x y
batch_run {d} {n} {x} {y} {k} {w} p =
    let g = batches_complete d n x k w y p in
    subst (Runs d k x) (sym g.made) (many_run d k x g.accepted)

-- ---- so a list of calls is a tour

turn_on : {x y z : Machine} {f b n : ℕ} {d : Direction} → Tour f b x y → TurnPromise d y n z
    → Tour (by_way d (accepted n) 0 + f) (by_way d 0 (accepted n) + b) x z
turn_on {n = n} {d = d} t p = R.then_run Machine Accepts next Bounded turn_home d (accepted n) t p.bounds (single_run p)

no_turn : {x y : Machine} {f b : ℕ} → Tour f b x y → Tour (0 + f) (0 + b) x y
no_turn {x = x} {y = y} {f = f} {b = b} t = subst₂ (λ (i j : ℕ). Tour i j x y) (omega arith) (omega arith) t

go_on : {x y z : Machine} {f b p q : ℕ} → Tour f b x y → Call y p q z → Tour (p + f) (q + b) x z
go_on t (single d y z n p) = turn_on t p
go_on t (batch d n y z k w p) = R.then_run Machine Accepts next Bounded turn_home d k t p.bounds (batch_run p)
go_on {x = x} t (samples given l y z c p) =
    by_turns (λ f b z. Tour f b x z) (λ d f b y z n u h. turn_on u h) t (call_turns given l y p)
go_on t (reads y h) = no_turn t
go_on {x = x} {f = f} {b = b} t (refused_load file y z n p h) =
    subst (Tour (0 + f) (0 + b) x) (sym (ap (λ (u : Machine). machine_of y.state u.memory u.table) (refused_loads file y.memory y.table n z p h))) (no_turn t)

pub tour : {x y : Machine} {f b : ℕ} → Left x f b y → Tour f b x y
tour empty = R.Tour.empty
tour (then l c) = go_on (tour l) c

-- ---- the same turns on Right's own lent words

module _ (d : Direction) where
  -- what a turn reads is shared
  alike_next : (x y : Machine) → state_of y ≡ state_of x → state_of (next d y) ≡ state_of (next d x)
  alike_next x y a = next_state d y ∙ (ap (next_in d) a ∙ sym (next_state d x))

  -- where a run ends on Right's words
  record Follows (k : ℕ) (z y : Machine) : Type 0 where
    end : Machine
    straight : Straight d k y end
    alike : state_of end ≡ state_of z
    excess : excess_of end ≡ excess_of y

  follow : (k : ℕ) (x z y : Machine) → state_of y ≡ state_of x → Runs d k x z → Follows k z y
  follow zero x z y a e = record { end = y; straight = none; alike = a ∙ ap state_of e; excess = refl }
  follow (suc k) x z y a r =
      let f = follow k (next d x) z (next d y) (alike_next x y a) r.1 in
      record {
        end = f.end;
        straight = turn (ap (λ (s : State). number (plan_in d s)) a ∙ r.0, refl) f.straight;
        alike = f.alike;
        excess = f.excess ∙ next_excess d y;
      }

-- ---- the claim

-- no turns are no turns the other way
still : {d d' : Direction} {k : ℕ} (j : ℕ) {x y : Machine} → Straight d k x y → k ≡ 0 → j ≡ 0 → Straight d' j x y
still {d' = d'} j {x} none e z = subst (λ (n : ℕ). Straight d' n x x) (sym z) none
still j (turn l s) e z = absurd (omega arith)

pub left_and_right : LeftAndRight
left_and_right x y right f b a l = go (dec_le b f)
  where
    net : R.Net Machine Accepts next Bounded Forward f b x y
    net = R.net Machine Accepts next Bounded turn_home (tour l)

    go : Dec (b ≤ f) → Right right f b y
    go (yes h) =
        let r = follow Forward (f - b) x y right a (net.ahead h) in
        record {
          machine = r.end;
          ahead = λ q. r.straight;
          behind = λ q. still (b - f) r.straight (omega arith) (omega arith);
          alike = r.alike;
          excess = r.excess;
        }
    go (no h) =
        let r = follow Back (b - f) x y right a (net.behind (omega arith)) in
        record {
          machine = r.end;
          ahead = λ q. absurd (h q);
          behind = λ q. r.straight;
          alike = r.alike;
          excess = r.excess;
        }

-- ---- calls slipped in

pub slipped_in : SlippedIn
slipped_in x y f b g c l r ends = (refl, refl)
slipped_in x y f b g c l r (both {p = p} {q = q} k s) =
    let h = slipped_in x _ _ _ _ _ _ _ s in (ap (λ (n : ℕ). p + n) h.0, ap (λ (n : ℕ). q + n) h.1)
slipped_in x y f b g c l r (slip k s) = let h = slipped_in x _ _ _ _ _ _ _ s in (omega (arith, h.0), omega (arith, h.1))
