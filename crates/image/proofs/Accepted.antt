-- What a refusal of 0 tells. Assumes nothing.
use mathlib.Core.Path.{◌≡◌, refl, sym, ◌∙◌}
use mathlib.Core.Bool.{Bool, true, false, not, true≢false}
use mathlib.Core.List.{List}
use Prim.Native.Nat.{ℕ, ◌-◌, ◌*◌, ◌≤◌}
use native.Mathlib.Omega.{arith}
use lib.Dec.{eqb, ltb, leb}
use lib.ListN.{length}
use borrow.Author.Tests.{leb-true, ltb-false, eqb-true, eq-eqb, not-false}
use Rattle.word.specs.Refusal.{refuse}
use Rattle.word.proofs.Words.{and_true}
use Rattle.word.proofs.Refusal.{refuse_passed}
use Rattle.step.specs.Table.{table_words}
use Rattle.step.specs.Sizes.{in_range, is_enough}
use Rattle.step.proofs.BadSizes.{RightSizes}
use Rattle.machine.specs.Machine.{status_of, Machine, wrong_sizes}
use Rattle.machine.proofs.WrongSizes.{wrong_sizes_right}
use Rattle.image.specs.declared.trailer.Trailer.{Trailer}
use Rattle.image.specs.Format.{newest, back_of}
use Rattle.image.specs.Load.{bad_length, has_last, is_cut, back_by, file_refusal, load_refusal, start_of}
use Rattle.image.specs.Save.{SaveDecided}

-- what the file's refusal of 0 tells
pub record Passed (t : Trailer) (s : List ℕ) : Type 0 where
  pub range : in_range (status_of t.state) ≡ true
  pub within : back_by t ≤ length s

pub file_accepted : (t : Trailer) (s : List ℕ) → file_refusal t s ≡ 0 → Passed t s
unfolding file_refusal
file_accepted t s h =
    let (_, p) = refuse_passed (bad_length s) _ _ _ h (λ e. omega (arith, e)) in
    let (_, q) = refuse_passed (not (has_last t s)) _ _ _ p (λ e. omega (arith, e)) in
    let (_, w) = refuse_passed (is_cut t s) _ _ _ q (λ e. omega (arith, e)) in
    let (range, r) = refuse_passed (not (in_range (status_of t.state))) _ _ _ w (λ e. omega (arith, e)) in
    let (_, u) = refuse_passed (not (eqb t.back (back_by t))) _ _ _ r (λ e. omega (arith, e)) in
    let (within, _) = refuse_passed (ltb (length s) (back_by t)) _ _ _ u (λ e. omega (arith, e)) in
    record { range = not-false _ range; within = ltb-false (length s) (back_by t) within }

-- a refusal, or where it is 0 what follows it, is 0 where both are
both_none : (n rest : ℕ) → refuse (not (eqb n 0)) n rest ≡ 0 → (n ≡ 0) × (rest ≡ 0)
unfolding refuse
both_none n rest = go (eqb n 0) refl
  where
    go : (b : Bool) → eqb n 0 ≡ b → refuse (not b) n rest ≡ 0 → (n ≡ 0) × (rest ≡ 0)
    go true h e = (eqb-true n 0 h, e)
    go false h e = absurd (true≢false (sym (eq-eqb n 0 e) ∙ h))

-- what load goes on with
pub record Loadable (t : Trailer) (s mem table : List ℕ) : Type 0 where
  pub passed : Passed t s
  pub within : 4 * t.state.m ≤ length s - start_of t s
  pub memory : t.state.m ≤ length mem
  pub links : table_words t.state.n ≤ length table

pub load_accepted : (t : Trailer) (s mem table : List ℕ) → load_refusal t s mem table ≡ 0 → Loadable t s mem table
unfolding load_refusal
load_accepted t s mem table h =
    let (f, g) = both_none (file_refusal t s) _ h in
    let p = file_accepted t s f in
    let l = p.within in
    let (e, _) = refuse_passed (not (is_enough (status_of t.state) (length mem) (length table))) _ _ _ g (λ e. omega (arith, e)) in
    let (a, b) = and_true (leb t.state.m (length mem)) (leb (table_words t.state.n) (length table)) (not-false _ e) in
    record { passed = p; within = omega arith; memory = leb-true _ _ a; links = leb-true _ _ b }

-- what save goes on with
pub record Saving (x : Machine) (out : List ℕ) : Type 0 where
  pub right : wrong_sizes x ≡ false
  pub sizes : RightSizes (status_of x.state) x.memory x.table
  pub room : back_of newest x.state ≤ length out

pub save_accepted : {x : Machine} {out : List ℕ} → SaveDecided x out 0 → Saving x out
save_accepted {x} {out} d =
    let (w, p) = refuse_passed (wrong_sizes x) _ _ _ (sym d.answer) (λ e. omega (arith, e)) in
    let (r, _) = refuse_passed (ltb (length out) (back_of newest x.state)) _ _ _ p (λ e. omega (arith, e)) in
    record { right = w; sizes = wrong_sizes_right x w; room = ltb-false _ _ r }
