-- The loop over the samples: those still to come, from here, end as all of them do from the start. Assumes nothing.
use Rattle.std.proofs.Common.{◌≡◌, ℕ, suc, ◌+◌, ◌<◌, ◌≤◌, Bool, true, false, eqb, List, length, get_or, drop, sym, ap, ◌∙◌, arith, add-one, eq-eqb, drop-cons, Fits, w32}
use Rattle.std.specs.Prelude.{◌≢◌}
use lib.ListN.{drop_of_length-le}
use borrow.Author.Tests.{ne_eqb, lt-ltb, le-ltb}
use Rattle.word.specs.Word.{pick}
use Rattle.word.proofs.Refusal.{refuse_true, refuse_false}
use Rattle.machine.specs.Machine.{Machine, Bounded}
use Rattle.machine.proofs.Given.{words_take}
use Rattle.wheel.specs.declared.samples.Sample.{Sample}
use Rattle.wheel.specs.declared.samples.Sample.TheVariants.{Neither, Low, Both, High}
use Rattle.wheel.specs.Samples.{byte_of}
use Rattle.wheel.specs.Wheel.{Counts, Wheel, started, ended, wheel_at, taken, run, follow_of, RecordBounded}
use Rattle.wheel.proofs.Taken.{made, made_more}

-- here is the wheel before sample i, end what all of them come to
pub record Loop (samples : List ℕ) (end here : Wheel) (i : ℕ) : Type 0 where
  pub rest : run (drop i samples) here ≡ end
  pub room : made here ≤ i

module _ {samples : List ℕ} {end here : Wheel} {i : ℕ} (inv : Loop samples end here i) where
  pub done : length samples ≤ i → here ≡ end
  unfolding run
  done h = ap (λ (l : List ℕ). run l here) (sym (drop_of_length-le samples h)) ∙ inv.rest

  module _ (less : i < length samples) {there : Wheel} (took : there ≡ taken (get_or samples i 0) here) where
    -- the sample at i, then the others
    next : (b : Bool) → eqb there.counts.refusal 0 ≡ b → pick b (run (drop (suc i) samples) there) there ≡ end
    unfolding run
    next b q =
        ap (λ (c : Bool). pick c (run (drop (suc i) samples) there) there) (sym q)
        ∙ (ap (λ (u : Wheel). pick (eqb u.counts.refusal 0) (run (drop (suc i) samples) u) u) took
        ∙ (ap (λ (l : List ℕ). run l here) (sym (drop-cons samples i 0 less)) ∙ inv.rest))

    pub stopped : there.counts.refusal ≢ 0 → there ≡ end
    stopped h = next false (ne_eqb there.counts.refusal 0 h)

    pub again : there.counts.refusal ≡ 0 → Loop samples end there (i + 1)
    again z =
        record {
          rest = ap (λ (k : ℕ). run (drop k samples) there) (add-one i) ∙ next true (eq-eqb there.counts.refusal 0 z);
          room = rw took (omega (arith, made_more (get_or samples i 0) here, inv.room));
        }

-- ---- the given sample

module _ {given : ℕ} (samples : List ℕ) (x : Machine) {c : Counts} (start : c ≡ started given) where
  pub refused : 3 < given → wheel_at (ended 20 c) x ≡ follow_of given samples x
  refused h = rw start (sym (refuse_true _ _ _ (lt-ltb 3 given h)))

  pub begin : (s : Sample) → byte_of s ≡ given → Loop samples (follow_of given samples x) (wheel_at (ended 0 c) x) 0
  begin s e =
      let h : given ≤ 3 = rw (← e) (low s) in
      rw start (record { rest = sym (refuse_false _ _ _ (le-ltb 3 given h)); room = omega arith })
    where
      low : (s : Sample) → byte_of s ≤ 3
      low Neither = omega arith
      low Low = omega arith
      low Both = omega arith
      low High = omega arith

-- ---- bounds

pub with_memory : (x : Machine) → RecordBounded x.state → ((a : ℕ) → Fits w32 (get_or x.memory a 0)) → Bounded x
with_memory x b f =
    record {
      view = record { sixteen = b.view.sixteen; regs = b.view.regs; words = words_take x.state.m x.memory (λ a. (f a).fits) };
      position = b.position;
    }
