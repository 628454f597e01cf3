-- What turns and previews do at an access. Assumes nothing.
use mathlib.Core.Path.{◌≡◌, refl, sym, ap, ◌∙◌, subst}
use mathlib.Core.Bool.{Bool, true, false, true≢false, not, ◌&&◌}
use mathlib.Core.Logic.{◌≢◌, ◌↔◌, inl, inr}
use mathlib.Core.List.{List}
use Prim.Native.Nat.{ℕ, ◌<◌, ◌≤◌}
use native.Mathlib.Omega.{arith}
use lib.Dec.{eqb}
use lib.ListN.{get_or}
use lib.Seq.{get_or-set_other}
use lib.Bits.{bit_xor}
use borrow.Author.Tests.{eqb-true, eqb-false, ltb-true, ltb-false, not-true}
use Rattle.word.proofs.Words.{and_true, not_not}
use Rattle.qins.specs.Op.{Op}
use Rattle.qins.specs.Decode.{kind}
use Rattle.qins.proofs.OneWord.{one_word}
use Rattle.qins.proofs.Formed.{Formed, decode_formed}
use Rattle.step.specs.declared.Direction.{Direction}
use Rattle.step.specs.declared.Direction.TheVariants.{Forward, Back}
use Rattle.step.specs.declared.Access.{Access}
use Rattle.step.specs.declared.Effect.{Effect}
use Rattle.step.specs.declared.Effect.TheVariants.{Write, SwapWord}
use Rattle.step.specs.Step.{Attempt}
use Rattle.std.specs.Prelude.{Err, Ok}
use Rattle.step.specs.View.{View, reg, by_way}
use Rattle.step.specs.Sizes.{bad_sizes}
use Rattle.word.specs.Refusal.{refuse}
use Rattle.step.specs.Step.{performed, is_ready, when_ready, is_allowed, when_allowed, attempt}
use Rattle.word.specs.Refusal.{number_of, number}
use Rattle.word.specs.declared.refusals.Refusal.{Refusal}
use Rattle.step.specs.Claims.{Accesses, Within}
use Rattle.step.specs.Claims.Accesses.{copies, exchanges}
use Rattle.step.proofs.Addresses.{allowed_within}
use Rattle.step.proofs.Undo.{passed}
use Rattle.machine.specs.Turn.{pc, new_pc, is_code, starts, finishes, present, judged, executed, landed}
use Rattle.machine.specs.Position.{end, is_last}
use Rattle.machine.specs.Machine.{status_of, Machine, state_of, view_of, Bounded}
use Rattle.machine.specs.Calls.{plan_of, refusal, next, found}
use Rattle.machine.specs.Accesses.{given, accessed, AtAccess, ByAccess, after_access, AccessMade}
use Rattle.machine.specs.Accesses.Gives.{turn, preview}
use Rattle.machine.specs.declared.Record.{Record}
use Rattle.machine.specs.declared.Preview.{Preview}
use Rattle.machine.proofs.Room.{last_end}
use Rattle.machine.proofs.Inverse.{and_false}
use Rattle.machine.proofs.Effects.{after_effect, effected}
use Rattle.machine.proofs.Whole.{end_last}
use Rattle.machine.proofs.Shown.{reported_refusal}
use Rattle.word.specs.declared.refusals.Refusal.TheVariants.{Outside, Waiting, Address, Landing, End, Position, Sizes}

-- ---- a refusal, by what its test means

rule : (b : Bool) (P : Type 0) → (b ≡ true → P) → (b ≡ false → P → ⊥) → (k : Refusal) (rest : Attempt) (R : ℕ → Type 0) → (b ≡ false → R (number rest))
    → given P (number_of k) R (number (refuse b (Err k) rest))
unfolding refuse
rule true P y n k rest R h = inl (y refl, refl)
rule false P y n k rest R h = inr (n refl, h refl)

-- one that does not stand
skip : (b : Bool) (k : Refusal) (rest : Attempt) (R : ℕ → Type 0) → b ≡ false → R (number rest) → R (number (refuse b (Err k) rest))
unfolding refuse
skip true k rest R e h = absurd (true≢false e)
skip false k rest R e h = h

not_back : Forward ≡ Back → ⊥
not_back e = let z : ◌≡◌ {A = ℕ} 0 1 = ap (λ (d : Direction). by_way d 0 1) e in omega arith

landed_refuse : (d : Direction) (s : View) (b : Bool) (k : Refusal) (x : Attempt) → landed d s (refuse b (Err k) x) ≡ refuse b (Err k) (landed d s x)
unfolding landed refuse
landed_refuse Forward s true k x = refl
landed_refuse Forward s false k x = refl
landed_refuse Back s true k x = refl
landed_refuse Back s false k x = refl

-- those before the word's own, where it is no finish
module _ (t : List ℕ) (old : ℕ) (s : View) (Q : Type 0) (R : ℕ → Type 0) where
  abbrev Start : Direction → Type 0
  Start d = (d ≡ Back) × (s.at.qifw ≡ 0) × (starts s.at s.memory old ≡ true)

  abbrev R11 : ℕ → Type 0
  R11 = given (s.at.k ≤ pc s) 11 R

  abbrev R12 : Direction → ℕ → Type 0
  R12 d = given (Start d) 12 R11

  abbrev R21 : Direction → ℕ → Type 0
  R21 d = given Q 21 (R12 d)

  abbrev Wrong : Type 0
  Wrong = bad_sizes s.at s.memory t ≡ true

  no_code : (y : Attempt) → R (number y) → R11 (number (refuse (not (is_code s.at (pc s))) (Err Outside) y))
  no_code y h =
      rule _ (s.at.k ≤ pc s) (λ z. ltb-false _ _ (not-true _ z)) (λ z p. omega (arith, p, ltb-true (pc s) s.at.k (not_not _ z))) Outside y R (λ _. h)

  starting : is_ready s.at && starts s.at s.memory old ≡ true → Start Back
  starting z = let p = and_true _ _ z in (refl, eqb-true _ 0 p.0, p.1)

  started : Start Back → is_ready s.at && starts s.at s.memory old ≡ true
  started p = ap (λ (w : ℕ). eqb w 0 && starts s.at s.memory old) p.1 ∙ p.2

  judged_rule : (d : Direction) (last : Bool) (y : Attempt) → (last ≡ true → Q) → (last ≡ false → Q → ⊥)
      → finishes s.memory (pc s) ≡ false → R (number y) → given Wrong 10 (R21 d) (number (judged t d last old s y))
  unfolding judged
  judged_rule Forward last y l n f h =
      rule _ Wrong (λ z. z) (λ z p. true≢false (sym p ∙ z)) Sizes _ (R21 Forward) (λ _.
      rule last Q l n Position _ (R12 Forward) (λ _.
      inr (λ p. not_back p.0, no_code _ (skip _ End y R f h))))
  judged_rule Back last y l n f h =
      rule _ Wrong (λ z. z) (λ z p. true≢false (sym p ∙ z)) Sizes _ (R21 Back) (λ _.
      rule last Q l n Position _ (R12 Back) (λ _.
      rule _ (Start Back) starting (λ z p. true≢false (sym (started p) ∙ z)) End _ R11 (λ _.
      no_code _ (skip _ Landing y R (ap (λ (b : Bool). is_ready s.at && b) f ∙ and_false (is_ready s.at)) h))))

-- and 18 behind it, where it is done
landed_rule : (d : Direction) (s : View) (e : Effect) (b : Bool)
    → (d ≡ Forward → is_ready (performed e s).at && starts s.at s.memory (new_pc Forward (performed e s)) ≡ b) → (d ≡ Back → b ≡ false)
    → given (b ≡ true) 18 (λ n. n ≡ 0) (number (landed d s (Ok e)))
unfolding landed
landed_rule Forward s e b f h =
    subst (λ (c : Bool). given (b ≡ true) 18 (λ n. n ≡ 0) (number (refuse c (Err Landing) (Ok e)))) (sym (f refl))
    (rule b (b ≡ true) (λ z. z) (λ z p. true≢false (sym p ∙ z)) Landing (Ok e) (λ n. n ≡ 0) (λ _. refl))
landed_rule Back s e b f h = inr (λ p. true≢false (sym p ∙ h refl), refl)

-- ---- an access

abbrev effect_of : Access → View → ℕ → ℕ → Effect
effect_of Access.Copy s a i = Write a (bit_xor (reg s a) (get_or s.memory i 0))
effect_of Access.Exchange s a i = SwapWord a i

module _ (s : View) where
  attempt_is : (t : List ℕ) (d : Direction) (o : Op) (x : Access) (a i : ℕ) → Accesses s o x a i
      → attempt t d o s ≡ when_ready s.at (when_allowed x s.at i (Ok (effect_of x s a i)))
  unfolding attempt
  attempt_is t d o x r i (copies a b) = refl
  attempt_is t d o x r i (exchanges a v) = refl

  access_kind : (o : Op) (x : Access) (a i : ℕ) → Accesses s o x a i → kind o ≡ 3
  access_kind o x r i (copies a b) = refl
  access_kind o x r i (exchanges a v) = refl

  access_named : (o : Op) (x : Access) (a i : ℕ) → Accesses s o x a i → Formed o → 0 < a
  access_named o x r i (copies a b) f = f.0.0
  access_named o x r i (exchanges a v) f = f.0.0

  -- pc and br after it are those of the register's change
  same_pc : (d : Direction) (x : Access) (a i : ℕ) → new_pc d (performed (effect_of x s a i) s) ≡ new_pc d (accessed x a i s)
  same_pc d Access.Copy a i = refl
  same_pc d Access.Exchange a i = refl

  same_ready : (x : Access) (a i : ℕ) → is_ready (performed (effect_of x s a i) s).at ≡ is_ready s.at
  same_ready Access.Copy a i = refl
  same_ready Access.Exchange a i = refl

module _ (d : Direction) (x : Machine) (g : Bounded x) (k : Access) (a i : ℕ) (e : Accesses (found d x) (present (found d x)) k a i) where
  abbrev r : Record
  r = x.state

  abbrev t : List ℕ
  t = (state_of x).links

  abbrev s : View
  s = found d x

  abbrev does : Effect
  does = effect_of k s a i

  is_access : kind (present s) ≡ 3
  is_access = access_kind s (present s) k a i e

  no_finish : finishes s.memory (pc s) ≡ false
  no_finish = one_word.finish (get_or s.memory (pc s) 0) ∙ ap (λ (n : ℕ). eqb n 2) is_access

  no_start : starts (status_of r) s.memory (pc s) ≡ false
  no_start =
      ap (λ (b : Bool). is_code (status_of r) (pc s) && b) (one_word.start (get_or s.memory (pc s) 0) ∙ ap (λ (n : ℕ). eqb n 1) is_access)
      ∙ and_false (is_code (status_of r) (pc s))

  abbrev land : Bool
  land = starts s.at s.memory (new_pc d (accessed k a i s))

  ahead : is_ready (status_of r) ≡ true → d ≡ Forward → is_ready (performed does s).at && starts s.at s.memory (new_pc Forward (performed does s)) ≡ land
  ahead z q =
      ap (λ (b : Bool). b && starts s.at s.memory (new_pc Forward (performed does s))) (same_ready s k a i ∙ z)
      ∙ (ap (λ (z : Direction). starts s.at s.memory (new_pc z (performed does s))) (sym q)
      ∙ ap (starts s.at s.memory) (same_pc s d k a i))

  behind : d ≡ Back → land ≡ false
  behind q =
      ap (λ (z : Direction). starts s.at s.memory (new_pc z (accessed k a i s))) q
      ∙ (ap (starts s.at s.memory) (get_or-set_other s.regs a 0 _ 0 (omega (arith, access_named s (present s) k a i e (decode_formed _))))
      ∙ no_start)

  own_is : landed d s (executed t d s) ≡ refuse (not (is_ready (status_of r))) (Err Waiting) (refuse (not (is_allowed k (status_of r) i)) (Err Address) (landed d s (Ok does)))
  own_is =
      ap (landed d s) (attempt_is s t d (present s) k a i e)
      ∙ (landed_refuse d s _ Waiting _ ∙ ap (refuse (not (is_ready (status_of r))) (Err Waiting)) (landed_refuse d s _ Address _))

  abbrev Own18 : ℕ → Type 0
  Own18 = given (land ≡ true) 18 (λ n. n ≡ 0)

  abbrev Own15 : ℕ → Type 0
  Own15 = given (Within k (status_of r) i → ⊥) 15 Own18

  abbrev Own : ℕ → Type 0
  Own = given (r.qifw ≢ 0) 14 Own15

  within : (is_allowed k (status_of r) i ≡ true) ↔ Within k (status_of r) i
  within = allowed_within k (status_of r) i

  own : Own (number (landed d s (executed t d s)))
  own =
      subst (λ (y : Attempt). Own (number y)) (sym own_is)
      (rule _ (r.qifw ≢ 0) (λ z. eqb-false _ 0 (not-true _ z)) (λ z p. p (eqb-true _ 0 (not_not _ z))) Waiting _ Own15 (λ z.
      rule _ (Within k (status_of r) i → ⊥) (λ y w. true≢false (sym (within.1 w) ∙ not-true _ y)) (λ y p. p (within.0 (not_not _ y))) Address _ Own18 (λ _.
      landed_rule d s does land (ahead (not_not _ z)) behind)))

  at_access : AtAccess d x k a i (number (plan_of d x))
  at_access =
      judged_rule t (pc (view_of x)) s (r.position ≡ end d) Own d (is_last d r.position) (landed d s (executed t d s))
      (last_end d r.position g.position) (λ z p. true≢false (sym (ap (is_last d) p ∙ end_last d) ∙ z)) no_finish own

  -- an accepted one
  own_does : (f : Effect) → executed t d s ≡ Ok f → ◌≡◌ {A = Attempt} (Ok does) (Ok f)
  own_does f q = (passed _ Address _ (passed _ Waiting _ (sym (attempt_is s t d (present s) k a i e) ∙ q)).1).1

  left_is : (k : Access) → after_effect d x (effect_of k s a i) ≡ after_access d x k a i
  left_is Access.Copy = refl
  left_is Access.Exchange = refl

  did : refusal d x ≡ 0 → next d x ≡ after_access d x k a i
  did h = effected d x g h does own_does ∙ left_is k

pub by_access : ByAccess
by_access d x n (turn m y p) k a i e = subst (AtAccess d x k a i) (sym p.refusal) (at_access d x p.bounds k a i e)
by_access d x n (preview q p) k a i e =
    subst (AtAccess d x k a i) (sym (ap (λ (u : Preview). u.refusal) p.answer ∙ reported_refusal _ _ _)) (at_access d x p.bounds k a i e)

pub access_made : AccessMade
access_made d x y n p h k a i e = p.left ∙ did d x p.bounds k a i e (sym p.refusal ∙ h)
