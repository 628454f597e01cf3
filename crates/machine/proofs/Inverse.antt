-- A turn that is accepted is undone by the turn the other way. Assumes nothing.
use mathlib.Core.Path.{◌≡◌, refl, sym, ap, ap₂, ◌∙◌, subst}
use mathlib.Core.Bool.{Bool, true, false, not, ◌&&◌, true≢false}
use mathlib.Core.List.{List}
use Prim.Native.Nat.{ℕ, ◌^◌, ◌<◌, ◌≤◌}
use native.Mathlib.Omega.{arith}
use lib.Dec.{eqb}
use lib.ListN.{length, get_or, length-set}
use lib.Seq.{get_or-set_same, get_or-set_other}
use borrow.Author.Tests.{ltb-true, eqb-true}
use Rattle.word.specs.Word.{pick}
use Rattle.word.proofs.Words.{not_not, pick_word}
use Rattle.qins.specs.Decode.{decode, operation, line, start_word, finish_word}
use Rattle.qins.proofs.Formed.{decode_formed}
use Rattle.step.specs.declared.Direction.{Direction}
use Rattle.step.specs.declared.Direction.TheVariants.{Forward, Back}
use Rattle.step.specs.declared.Effect.{Effect}
use Rattle.step.specs.Step.{Attempt}
use Rattle.std.specs.Prelude.{Err, Ok}
use Rattle.step.specs.View.{View, Bounds, flip}
use Rattle.word.specs.Refusal.{refuse}
use Rattle.step.specs.Step.{shifted, marked, written, performed, is_ready, attempt}
use Rattle.step.proofs.Sized.{marked_sizes, written_long, stored_long}
use Rattle.step.proofs.BadSizes.{bad_sizes_right, bad_sizes_same}
use Rattle.step.proofs.Kept.{Kept, performed_kept}
use Rattle.step.proofs.Undo.{Fair, Undone, undone, refused_no, inside, passed, set_back, words_set, shifted_word, shifted_back}
use Rattle.step.specs.Sizes.{bad_sizes}
use Rattle.machine.specs.Turn.{pc, br, at_pc, stride, moved_pc, from_pc, to_pc, from, new_pc, to, is_code, starts, finishes, landed, judged, executed, planned, turned}
use Rattle.word.specs.declared.refusals.Refusal.TheVariants.{End, Landing, Outside, Position, Sizes, Waiting}

-- ---- pc's moves

stride_word : (b : ℕ) → b < 2 ^ 32 → stride b < 2 ^ 32
stride_word b h = pick_word (eqb b 0) 1 b (omega arith) h

moved_word : (d : Direction) (wait p b : ℕ) → p < 2 ^ 32 → moved_pc d wait p b < 2 ^ 32
moved_word d wait p b h = pick_word (eqb wait 0) (shifted d p (stride b)) p (shifted_word d p (stride b)) h

moved_back : (d : Direction) (wait p b : ℕ) → p < 2 ^ 32 → b < 2 ^ 32 → moved_pc (flip d) wait (moved_pc d wait p b) b ≡ p
moved_back d wait p b hp hb = go (eqb wait 0)
  where
    go : (c : Bool) → pick c (shifted (flip d) (pick c (shifted d p (stride b)) p) (stride b)) (pick c (shifted d p (stride b)) p) ≡ p
    go true = shifted_back d p (stride b) hp (stride_word b hb)
    go false = refl

from_word : (d : Direction) (wait p b : ℕ) → p < 2 ^ 32 → from_pc d wait p b < 2 ^ 32
from_word Forward wait p b h = h
from_word Back wait p b h = moved_word Back wait p b h

to_word : (d : Direction) (wait p b : ℕ) → p < 2 ^ 32 → to_pc d wait p b < 2 ^ 32
to_word Forward wait p b h = moved_word Forward wait p b h
to_word Back wait p b h = h

from_to_pc : (d : Direction) (wait p b : ℕ) → p < 2 ^ 32 → b < 2 ^ 32 → from_pc (flip d) wait (to_pc d wait p b) b ≡ p
from_to_pc Forward wait p b hp hb = moved_back Forward wait p b hp hb
from_to_pc Back wait p b hp hb = refl

to_from_pc : (d : Direction) (wait p b : ℕ) → p < 2 ^ 32 → b < 2 ^ 32 → to_pc (flip d) wait (from_pc d wait p b) b ≡ p
to_from_pc Forward wait p b hp hb = refl
to_from_pc Back wait p b hp hb = moved_back Back wait p b hp hb

-- ---- the same of states

module _ (s : View) (g : Bounds s) where
  some_regs : 0 < length s.regs
  some_regs = rw g.sixteen (omega arith)

  pub pc_at : (i : ℕ) → pc (at_pc s i) ≡ i
  pc_at i = get_or-set_same s.regs 0 i 0 some_regs

  br_at : (i : ℕ) → br (at_pc s i) ≡ br s
  br_at i = get_or-set_other s.regs 0 1 i 0 (omega arith)

  bounds_at : (i : ℕ) → i < 2 ^ 32 → Bounds (at_pc s i)
  bounds_at i h = record { sixteen = length-set s.regs 0 i ∙ g.sixteen; regs = words_set s.regs 0 i h g.regs; words = g.words }

  pub bounds_from : (d : Direction) → Bounds (from d s)
  bounds_from d = bounds_at (from_pc d s.at.qifw (pc s) (br s)) (from_word d s.at.qifw (pc s) (br s) (g.regs 0))

  pub bounds_to : (d : Direction) → Bounds (to d s)
  bounds_to d = bounds_at (to_pc d s.at.qifw (pc s) (br s)) (to_word d s.at.qifw (pc s) (br s) (g.regs 0))

  -- pc set, and set by f to what it was
  home_at : (i : ℕ) (f : ℕ → ℕ → ℕ) → f i (br s) ≡ pc s → at_pc (at_pc s i) (f (pc (at_pc s i)) (br (at_pc s i))) ≡ s
  home_at i f e = rw (set_back s.regs 0 i (f (pc (at_pc s i)) (br (at_pc s i))) (ap₂ f (pc_at i) (br_at i) ∙ e))

  pub from_to : (d : Direction) → from (flip d) (to d s) ≡ s
  from_to d =
      home_at (to_pc d s.at.qifw (pc s) (br s)) (from_pc (flip d) s.at.qifw)
      (from_to_pc d s.at.qifw (pc s) (br s) (g.regs 0) (g.regs 1))

  pub to_from : (d : Direction) → to (flip d) (from d s) ≡ s
  to_from d =
      home_at (from_pc d s.at.qifw (pc s) (br s)) (to_pc (flip d) s.at.qifw)
      (to_from_pc d s.at.qifw (pc s) (br s) (g.regs 0) (g.regs 1))

-- ---- the tests of a turn, both ways

-- the state whose pc must not be at start: after a turn forward, before a turn back
abbrev edge : Direction → Effect → View → View
edge Forward e s = to Forward (performed e (from Forward s))
edge Back e s = s

abbrev starting : View → List ℕ → Bool
starting s l = is_ready s.at && starts s.at l (pc s)

record Accepted (t : List ℕ) (d : Direction) (s : View) (e : Effect) : Type 0 where
  sizes : bad_sizes s.at s.memory t ≡ false
  free : starting (edge d e s) s.memory ≡ false
  code : not (is_code s.at (pc (from d s))) ≡ false
  running : finishes s.memory (pc (from d s)) ≡ false
  does : executed t d (from d s) ≡ Ok e

-- the test of landed, on the view after the turn
abbrev landing : Effect → View → Bool
landing e s = is_ready (marked e s.at) && starts s.at s.memory (new_pc Forward (performed e s))

landing_is : (e : Effect) (s : View) → Bounds s → landing e s ≡ starting (to Forward (performed e s)) s.memory
landing_is e s g =
    let i = new_pc Forward (performed e s) in
    let p : pc (to Forward (performed e s)) ≡ i =
    get_or-set_same (written e s.regs s.memory) 0 i 0 (rw (written_long e s.regs s.memory, g.sixteen) (omega arith)) in
    rw (p, (marked_sizes e s.at).k)

landed_does : (s : View) (x : Attempt) {e : Effect} → Bounds s → landed Forward s x ≡ Ok e → (starting (to Forward (performed e s)) s.memory ≡ false) × (x ≡ Ok e)
unfolding landed
landed_does s (Err n) g h = absurd (refused_no h)
landed_does s (Ok f) {e} g h =
    let p = passed (landing f s) Landing _ h in
    (subst (λ (x : Effect). starting (to Forward (performed x s)) s.memory ≡ false) (inside p.1) (sym (landing_is f s g) ∙ p.0), p.1)

-- a finish is not undone: waiting there is refused by 14, else 18 comes
no_finish : (t : List ℕ) (d : Direction) (s : View) {e : Effect} → executed t d s ≡ Ok e
    → is_ready s.at && finishes s.memory (pc s) ≡ false → finishes s.memory (pc s) ≡ false
unfolding attempt decode operation line
no_finish t d s {e} h k = go (finishes s.memory (pc s)) refl
  where
    go : (b : Bool) → finishes s.memory (pc s) ≡ b → finishes s.memory (pc s) ≡ false
    go false z = z
    go true z =
        let q : attempt t d (decode finish_word) s ≡ Ok e =
        ap (λ (w : ℕ). attempt t d (decode w) s) (sym (eqb-true (get_or s.memory (pc s) 0) finish_word z)) ∙ h in
        let c = not_not (is_ready s.at) (passed (not (is_ready s.at)) Waiting _ q).0 in
        absurd (true≢false (rw (c, z) at k))

accepted : (t : List ℕ) (d : Direction) (last : Bool) (s : View) {e : Effect} → Bounds s → planned t d last s ≡ Ok e → Accepted t d s e
unfolding judged landed
accepted t Forward last s g h =
    let p = passed (bad_sizes s.at s.memory t) Sizes _ h in
    let q = passed (not (is_code s.at (pc (from Forward s)))) Outside _ (passed last Position _ p.1).1 in
    let r = passed (finishes s.memory (pc (from Forward s))) End _ q.1 in
    let l = landed_does (from Forward s) _ (bounds_from s g Forward) r.1 in
    record { sizes = p.0; free = l.0; code = q.0; running = r.0; does = l.1 }
accepted t Back last s g h =
    let p = passed (bad_sizes s.at s.memory t) Sizes _ h in
    let f = passed (starting s s.memory) End _ (passed last Position _ p.1).1 in
    let q = passed (not (is_code s.at (pc (from Back s)))) Outside _ f.1 in
    let r = passed (is_ready s.at && finishes s.memory (pc (from Back s))) Landing _ q.1 in
    record { sizes = p.0; free = f.0; code = q.0; running = no_finish t Back (from Back s) r.1 r.0; does = r.1 }

-- and it is not at the last position
pub going : (t : List ℕ) (d : Direction) (last : Bool) (s : View) {e : Effect} → planned t d last s ≡ Ok e → last ≡ false
unfolding judged
going t Forward last s h = (passed last Position _ (passed _ Sizes _ h).1).0
going t Back last s h = (passed last Position _ (passed _ Sizes _ h).1).0

pub and_false : (b : Bool) → b && false ≡ false
and_false true = refl
and_false false = refl

accepts : (t : List ℕ) (d : Direction) (s : View) {e : Effect} → Bounds s → Accepted t d s e → planned t d false s ≡ Ok e
unfolding judged landed refuse
accepts t Forward s {e} g a = rw (a.sizes, a.code, a.running, a.does, landing_is e (from Forward s) (bounds_from s g Forward), a.free)
accepts t Back s g a = rw (a.sizes, a.free, a.code, a.running, and_false (is_ready s.at), a.does)

-- ---- the law

-- starting looks at the code alone
same_start : (s : View) (l l' : List ℕ) → ((j : ℕ) → j < s.at.k → get_or l' j 0 ≡ get_or l j 0) → starting s l' ≡ starting s l
same_start s l l' c = ap (λ (x : Bool). is_ready s.at && x) (go (is_code s.at (pc s)) refl)
  where
    go : (b : Bool) → is_code s.at (pc s) ≡ b
        → is_code s.at (pc s) && eqb (get_or l' (pc s) 0) start_word ≡ is_code s.at (pc s) && eqb (get_or l (pc s) 0) start_word
    go true z = rw (c (pc s) (ltb-true _ _ z))
    go false z = rw z

edge_k : (d : Direction) (e : Effect) (s : View) → (edge d e s).at.k ≡ s.at.k
edge_k Forward e s = (marked_sizes e s.at).k
edge_k Back e s = refl

edge_back : (d : Direction) (e by : Effect) (s : View) → Bounds (performed e (from d s)) → performed by (performed e (from d s)) ≡ from d s
    → to (flip d) (from d s) ≡ s → edge (flip d) by (to d (performed e (from d s))) ≡ edge d e s
edge_back Forward e by s g p q = refl
edge_back Back e by s g p q =
    ap (λ (x : View). to Forward (performed by x)) (from_to (performed e (from Back s)) g Back) ∙ (ap (to Forward) p ∙ q)

module _ (t : List ℕ) (d : Direction) (s : View) (g : Bounds s) (e : Effect) (a : Accepted t d s e) where
  abbrev before : View
  before = from d s

  abbrev after : View
  after = performed e before

  back : Undone t d (decode (get_or s.memory (pc before) 0)) before e
  back =
      undone t before (bounds_from s g d) (bad_sizes_right s.at s.memory t a.sizes).memory d (decode (get_or s.memory (pc before) 0))
      (decode_formed (get_or s.memory (pc before) 0)) a.does

  keeps : Kept before after
  keeps = performed_kept e before back.fair (bounds_from s g d)

  in_code : pc before < s.at.k
  in_code = ltb-true _ _ (not_not _ a.code)

  same_word : get_or after.memory (pc after) 0 ≡ get_or s.memory (pc before) 0
  same_word = rw keeps.pc (keeps.code (pc before) in_code)

  home : from (flip d) (to d after) ≡ after
  home = from_to after keeps.bounds d

  whole : to (flip d) before ≡ s
  whole = to_from s g d

  accepted_back : Accepted t (flip d) (to d after) back.by
  accepted_back =
      record {
        sizes = bad_sizes_same t s.at after.at s.memory after.memory (marked_sizes e s.at) (stored_long e before.regs s.memory) ∙ a.sizes;
        free =
            rw (edge_back d e back.by s keeps.bounds back.home whole)
            (same_start (edge d e s) s.memory after.memory (λ j h. keeps.code j (rw (sym (edge_k d e s)) h)) ∙ a.free);
        code =
            subst (λ (x : View). not (is_code after.at (pc x)) ≡ false) (sym home)
            (rw (keeps.pc, (marked_sizes e s.at).k) a.code);
        running =
            subst (λ (x : View). finishes after.memory (pc x) ≡ false) (sym home)
            (ap (λ (w : ℕ). eqb w finish_word) same_word ∙ a.running);
        does =
            subst (λ (x : View). executed t (flip d) x ≡ Ok back.by) (sym home)
            (ap (λ (w : ℕ). attempt t (flip d) (decode w) after) same_word ∙ back.does);
      }

  turned_back : (planned t (flip d) false (to d after) ≡ Ok back.by) × (turned (flip d) (Ok back.by) (to d after) ≡ s) × Bounds (to d after)
  turned_back = (
    accepts t (flip d) (to d after) (bounds_to after keeps.bounds d) accepted_back,
    ap (λ (x : View). to (flip d) (performed back.by x)) home ∙ (ap (to (flip d)) back.home ∙ whole),
    bounds_to after keeps.bounds d,
  )

-- what the turn the other way does, after one that did e
pub record Reversed (t : List ℕ) (d : Direction) (s s' : View) : Type 0 where
  pub by : Effect
  pub plan : planned t (flip d) false s' ≡ Ok by
  pub home : turned (flip d) (Ok by) s' ≡ s
  pub bounds : Bounds s'

pub turn_back : (t : List ℕ) (d : Direction) (last : Bool) (s : View) {e : Effect} → Bounds s → planned t d last s ≡ Ok e → Reversed t d s (turned d (Ok e) s)
turn_back t d last s {e} g h =
    let a = accepted t d last s g h in
    let r = turned_back t d s g e a in
    record { by = (back t d s g e a).by; plan = r.0; home = r.1; bounds = r.2 }

-- and what it does to the memory is within the data that is there
pub plan_fair : (t : List ℕ) (d : Direction) (last : Bool) (s : View) {e : Effect} → Bounds s → planned t d last s ≡ Ok e → Fair e s.at × (s.at.m ≤ length s.memory)
plan_fair t d last s {e} g h = let a = accepted t d last s g h in ((back t d s g e a).fair, (bad_sizes_right s.at s.memory t a.sizes).memory)
