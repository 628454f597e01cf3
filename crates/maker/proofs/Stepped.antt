-- One word: what its look is, and what the machine's own turn makes of it. Assumes nothing.
use mathlib.Core.Path.{◌≡◌, refl, sym, ap, ap₂, ◌∙◌, subst}
use mathlib.Core.Bool.{Bool, true, false}
use mathlib.Core.List.{List, [], ◌++◌, append-nil}
use Rattle.std.proofs.Common.{Result}
use Rattle.word.specs.declared.refusals.Refusal.{Refusal}
use Prim.Native.Nat.{ℕ, ◌<◌, ◌≤◌}
use native.Mathlib.Omega.{arith}
use lib.ListN.{length, get_or, take, drop, drop_of_length-le}
use lib.Seq.{take-length}
use borrow.Author.Tests.{lt-ltb, le-ltb, le-leb, eq-eqb, ne_eqb}
use Rattle.word.specs.Word.{pick}
use Rattle.qins.specs.Op.{Op}
use Rattle.qins.specs.Op.Op.{None, Start}
use Rattle.qins.specs.Decode.{decode, finish_word, is_instruction}
use Rattle.step.specs.declared.Direction.TheVariants.{Forward}
use Rattle.step.specs.declared.Effect.{Effect}
use Rattle.step.specs.Step.{Attempt}
use Rattle.std.specs.Prelude.{Err, Ok}
use Rattle.step.specs.declared.Status.{Status}
use Rattle.step.specs.View.{View, sized}
use Rattle.step.specs.Sizes.{in_range, bad_sizes}
use Rattle.word.specs.Refusal.{refuse}
use Rattle.step.specs.Step.{attempt, performed}
use Rattle.word.specs.Refusal.{number_of, number}
use Rattle.maker.proofs.Refusals.{some_number}
use Rattle.step.proofs.Nodes.{KeepsNode}
use Rattle.machine.specs.Turn.{pc, from, to, landed, judged, executed, planned, turned}
use Rattle.machine.specs.declared.Record.{Record}
use Rattle.machine.specs.Machine.{new_record, Machine, machine_of}
use Rattle.machine.specs.Calls.{refusal, next, TurnPromise}
use Rattle.maker.specs.declared.Kind.{Kind}
use Rattle.maker.specs.declared.Kind.TheVariants.{Plain, Opens, Closes}
use Rattle.maker.specs.declared.Seen.{Seen}
use Rattle.maker.specs.Walkable.{Look}
use Rattle.maker.specs.Walkable.Look.{halts, last, goes, forks, joins}
use Rattle.maker.specs.Idle.{is_gate, idle_op, kind_of, is_before_start, led_to, plain, look_by, look_at}
use Rattle.maker.specs.Parts.{view_at, moved_on, Simple, Looks, Sized}
use Rattle.maker.proofs.Effects.{kind_of_shape, Fine, plain_effect, landed_effect}
use Rattle.maker.proofs.Turns.{from_is}
use Rattle.maker.proofs.Registers.{qif_register, fiq_register}

pub whole : (m : ℕ) (z : List ℕ) → length z ≡ m → take m z ≡ z
whole m z e = ap (λ (i : ℕ). take i z) (sym e) ∙ take-length z

-- an answer to one look is one to another that is the same
pub seen_as : (k m : ℕ) (z z' : List ℕ) (r : Result Seen Refusal) {o p : Look View} → o ≡ p → Looks k m z r o z' → Looks k m z r p z'
seen_as k m z z' r e h = subst (λ (y : Look View). Looks k m z r y z') e h

-- ---- a word that idles

pub idle_looks : (k m : ℕ) (l z : List ℕ) (b : Bool) → is_before_start (view_at k m l z) ≡ b
    → plain Start (view_at k m l z) ≡ pick b (halts 18) (goes (view_at k m (moved_on l) z))
unfolding attempt landed refuse
idle_looks k m l z true e = rw e
idle_looks k m l z false e = rw e

pub not_gate : (w : ℕ) → is_gate w ≡ false → idle_op w ≡ decode w
unfolding idle_op
not_gate w e = rw e

pub is_start : (w : ℕ) → is_gate w ≡ true → is_instruction w ≡ true → idle_op w ≡ Start
unfolding idle_op
is_start w e i = rw (e, i)

pub is_none : (w : ℕ) → is_gate w ≡ true → is_instruction w ≡ false → idle_op w ≡ None
unfolding idle_op
is_none w e i = rw (e, i)

pub none_halts : (s : View) → plain None s ≡ halts 13
unfolding attempt landed
none_halts s = refl

-- ---- the machine's own turn

good_sizes : (k m : ℕ) (z : List ℕ) → Sized k m (length z) → bad_sizes (sized k m 0) z [] ≡ false
unfolding bad_sizes in_range
good_sizes k m z h = rw (lt-ltb 0 k h.0, le-leb k m h.1, le-leb m 8192 h.2, le-leb m (length z) (omega (arith, h.3)))

module _ (k m : ℕ) (l z : List ℕ) (fit : Sized k m (length z)) (simple : Simple l z k) where
  abbrev s : View
  s = view_at k m l z

  abbrev o : Op
  o = decode (get_or z (get_or l 0 0) 0)

  abbrev x : Attempt
  x = landed Forward s (attempt [] Forward o s)

  plan_is : planned [] Forward false s ≡ x
  unfolding judged refuse
  plan_is =
      ap (λ (y : View). judged [] Forward false (pc s) y (landed Forward y (executed [] Forward y))) (from_is s)
      ∙ rw (good_sizes k m z fit, lt-ltb (get_or l 0 0) k simple.0, simple.1)

  -- the view after an effect that sets no node
  made : (e : Effect) → KeepsNode e → (y : View) → y ≡ s → to Forward (performed e s) ≡ view_at k m (to Forward (performed e y)).regs (to Forward (performed e y)).memory
  made e h y q =
      ap (λ (at : Status). record { at = at; regs = (to Forward (performed e s)).regs; memory = (performed e s).memory }) (h s.at)
      ∙ ap (λ (y : View). view_at k m (to Forward (performed e y)).regs (to Forward (performed e y)).memory) (sym q)

  pub record Turns (n : ℕ) (l' z' : List ℕ) : Type 0 where
    pub refused : ¬ (n ≡ 0) → plain o s ≡ halts n
    pub made_is : n ≡ 0 → plain o s ≡ goes (view_at k m l' z')

  turn_is : (n : ℕ) (l' z' : List ℕ) → n ≡ number (planned [] Forward false s) → l' ≡ (turned Forward (planned [] Forward false s) s).regs
      → z' ≡ (turned Forward (planned [] Forward false s) s).memory → Turns n l' z'
  turn_is n l' z' p q r =
      go x refl (landed_effect s (attempt [] Forward o s) (plain_effect o simple.2 s)) (p ∙ ap number plan_is)
      (q ∙ ap (λ (y : Attempt). (turned Forward y s).regs) plan_is) (r ∙ ap (λ (y : Attempt). (turned Forward y s).memory) plan_is)
    where
      go : (y : Attempt) → x ≡ y → Fine y → n ≡ number x → l' ≡ (turned Forward x s).regs → z' ≡ (turned Forward x s).memory → Turns n l' z'
      go (Err i) e f p q r =
          let n_is : n ≡ number_of i = p ∙ ap number e in
          record { refused = λ c. ap (led_to s) e ∙ ap halts (sym n_is); made_is = λ c. absurd (some_number i (sym n_is ∙ c)) }
      go (Ok d) e f p q r =
          record {
            refused = λ c. absurd (c (p ∙ ap number e));
            made_is = λ c.
                ap (led_to s) e
                ∙ ap goes (made d f (from Forward s) (from_is s)
                ∙ ap₂ (λ (b c : List ℕ). view_at k m b c) (sym (q ∙ ap (λ (y : Attempt). (turned Forward y s).regs) e)) (sym (r ∙ ap (λ (y : Attempt). (turned Forward y s).memory) e)));
          }

  -- what the call promises, of the record without a node
  abbrev Told : List ℕ → ℕ → List ℕ → List ℕ → Type 0
  Told y n l' z' =
      (n ≡ number (planned [] Forward false (view_at k m l y)))
      × (l' ≡ (turned Forward (planned [] Forward false (view_at k m l y)) (view_at k m l y)).regs)
      × (z' ≡ (turned Forward (planned [] Forward false (view_at k m l y)) (view_at k m l y)).memory ++ drop m z)

  pub turns : (r : Record) (t : List ℕ) (n : ℕ) (a : Record) (z' : List ℕ) → r ≡ new_record (sized k m 0) l → TurnPromise Forward (machine_of r z t) n (machine_of a z' t) → Turns n a.regs z'
  turns r t n a z' e f =
      let r₀ : Record = new_record (sized k m 0) l in
      let n_is : n ≡ refusal Forward (machine_of r₀ z t) = f.refusal ∙ ap (λ (r : Record). refusal Forward (machine_of r z t)) e in
      let p : machine_of a z' t ≡ next Forward (machine_of r₀ z t) = f.left ∙ ap (λ (r : Record). next Forward (machine_of r z t)) e in
      let g : Told (take m z) n a.regs z' = (n_is, ap (λ (y : Machine). y.state.regs) p, ap (λ (y : Machine). y.memory) p) in
      let h : Told z n a.regs z' = subst (λ (y : List ℕ). Told y n a.regs z') (whole m z fit.3) g in
      turn_is n a.regs z' h.0 h.1
      (h.2
      ∙ (ap (λ (y : List ℕ). (turned Forward (planned [] Forward false s) s).memory ++ y) (drop_of_length-le z {i = m} (omega (arith, fit.3)))
      ∙ append-nil (turned Forward (planned [] Forward false s) s).memory))

-- ---- the look at a word

module _ (k m : ℕ) (l z : List ℕ) where
  abbrev word : ℕ
  word = get_or z (get_or l 0 0) 0

  pub look_out : k ≤ get_or l 0 0 → look_at (view_at k m l z) ≡ halts 11
  unfolding look_at refuse
  look_out h = rw (le-ltb (get_or l 0 0) k h)

  pub look_last : get_or l 0 0 < k → get_or z (get_or l 0 0) 0 ≡ finish_word → look_at (view_at k m l z) ≡ last
  unfolding look_at refuse
  look_last h e = rw (lt-ltb (get_or l 0 0) k h, eq-eqb (get_or z (get_or l 0 0) 0) finish_word e)

  module _ (low : get_or l 0 0 < k) (runs : ¬ (get_or z (get_or l 0 0) 0 ≡ finish_word)) where
    by_kind : (q : Kind) → kind_of (idle_op word) ≡ q → look_at (view_at k m l z) ≡ look_by q (idle_op word) (view_at k m l z)
    unfolding look_at refuse
    by_kind q e =
        rw (lt-ltb (get_or l 0 0) k low, ne_eqb (get_or z (get_or l 0 0) 0) finish_word runs)
        (ap (λ (q : Kind). look_by q (idle_op word) (view_at k m l z)) e)

    pub look_qif : (a : ℕ) → length l ≡ 16 → kind_of (idle_op word) ≡ Opens a → (b : Bool) → is_before_start (view_at k m l z) ≡ b
        → look_at (view_at k m l z) ≡ pick b (halts 18) forks
    unfolding refuse
    look_qif a h e true q = by_kind (Opens a) e ∙ rw (qif_register (view_at k m l z) word a h (kind_of_shape (idle_op word) (Opens a) e), q)
    look_qif a h e false q = by_kind (Opens a) e ∙ rw (qif_register (view_at k m l z) word a h (kind_of_shape (idle_op word) (Opens a) e), q)

    pub look_fiq : (a : ℕ) → length l ≡ 16 → kind_of (idle_op word) ≡ Closes a → look_at (view_at k m l z) ≡ joins
    unfolding refuse
    look_fiq a h e = by_kind (Closes a) e ∙ rw (fiq_register (view_at k m l z) word a h (kind_of_shape (idle_op word) (Closes a) e))

    pub look_plain : kind_of (idle_op word) ≡ Plain → look_at (view_at k m l z) ≡ plain (idle_op word) (view_at k m l z)
    look_plain e = by_kind Plain e
