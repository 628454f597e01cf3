-- A cycle of the machine as the maker walks it is a turn of the machine itself. Assumes nothing.
use mathlib.Core.Path.{◌≡◌, refl, sym, ap, ap₂, ◌∙◌, subst}
use mathlib.Core.Bool.{Bool, true, false, ◌&&◌}
use mathlib.Core.List.{List, [], ◌∷◌}
use Prim.Native.Nat.{ℕ, ◌-◌, ◌≤◌}
use lib.Dec.{eqb}
use lib.Seq.{set-get_or}
use Rattle.word.specs.Word.{pick}
use Rattle.qins.specs.Op.{Op}
use Rattle.step.specs.declared.Direction.TheVariants.{Forward}
use Rattle.step.specs.declared.Effect.{Effect}
use Rattle.step.specs.declared.Effect.TheVariants.{SetNode}
use Rattle.step.specs.Step.{Attempt}
use Rattle.std.specs.Prelude.{Err, Ok}
use Rattle.step.specs.declared.Status.{Status}
use Rattle.step.specs.View.{View, reg, with_reg, placed}
use Rattle.step.specs.Table.{fc, lc, cf, cl, nx, pr, w, link, paired}
use Rattle.word.specs.Refusal.{refuse}
use Rattle.step.specs.Step.{shifted, performed, is_ready, attempt}
use Rattle.step.proofs.Nodes.{KeepsNode, attempt_placed, attempt_enters, attempt_waits, attempt_leaves}
use Rattle.step.specs.Sizes.{in_range, bad_sizes}
use Rattle.machine.specs.Turn.{pc, br, at_pc, stride, is_code, starts, finishes, landed, judged, from, new_pc, to}
use Rattle.maker.specs.Walkable.Look.{goes, forks, joins}
use Rattle.maker.proofs.Guided.{settled}
use Rattle.maker.specs.declared.Kind.{Kind}
use Rattle.maker.specs.declared.Kind.TheVariants.{Plain}
use Rattle.maker.specs.Idle.{op_at, kind_of, coin_of, coin_at, on, is_before_start, look_at, machine}
use Rattle.maker.specs.Follow.{Saved, saved, idled, planned_idle, Walker, walker, by_turn, turn_then, cycle_by, cycle}
use Rattle.maker.specs.Follow.Went.{went}
use Rattle.maker.proofs.Effects.{kind_of_shape, Fine, plain_effect, landed_effect}
use Rattle.maker.proofs.Looked.{at_qif, at_fiq, at_plain}
use Rattle.maker.proofs.Lawful.{pc_stays, br_stays, reads, op_stays}
use Rattle.word.specs.declared.refusals.Refusal.TheVariants.{Landing}

-- ---- a turn that is not refused for sizes, pc or finish

pub from_is : (s : View) → from Forward s ≡ s
from_is s = ap (λ (r : List ℕ). record { at = s.at; regs = r; memory = s.memory }) (set-get_or s.regs 0 0)

module _ (t : List ℕ) (s : View) (sized : bad_sizes s.at s.memory t ≡ false) (code : is_code s.at (pc s) ≡ true) (run : finishes s.memory (pc s) ≡ false) where
  judged_is : (old : ℕ) (x : Attempt) → judged t Forward false old s x ≡ x
  unfolding judged refuse
  judged_is old x = rw (sized, code, run)

  planned_is : planned_idle t s ≡ landed Forward s (idled t s)
  planned_is =
      ap (λ (z : View). judged t Forward false (pc s) z (landed Forward z (idled t z))) (from_is s) ∙ judged_is (pc s) (landed Forward s (idled t s))

  -- the turn, where the word's own attempt lands
  turns : (e : Effect) (f : View → Walker) → landed Forward s (idled t s) ≡ Ok e → turn_then t s f ≡ went (f (to Forward (performed e s)))
  turns e f h =
      ap (λ (x : Attempt). by_turn x s f) (planned_is ∙ h) ∙ ap (λ (z : View). went (f (to Forward (performed e z)))) (from_is s)

-- ---- a word that leads on

-- placed at a node, an attempt that leaves it lands as it does without one
landed_placed : (N v : ℕ) (s : View) (x : Attempt) → Fine x → landed Forward (placed N v 0 s) x ≡ landed Forward (placed 0 0 0 s) x
unfolding landed
landed_placed N v s (Err n) h = refl
landed_placed N v s (Ok e) h = ap lands (h (placed N v 0 s).at) ∙ sym (ap lands (h (placed 0 0 0 s).at))
  where
    lands : Status → Attempt
    lands at =
        refuse (is_ready at && starts s.at s.memory (new_pc Forward (record { at = at; regs = (performed e s).regs; memory = s.memory }))) (Err Landing) (Ok e)

to_placed : (N v : ℕ) (s : View) (e : Effect) → KeepsNode e → to Forward (performed e (placed N v 0 s)) ≡ placed N v 0 (to Forward (performed e (placed 0 0 0 s)))
to_placed N v s e h = ap moved (h (placed N v 0 s).at) ∙ sym (ap (λ (at : Status). placed N v 0 (moved at)) (h (placed 0 0 0 s).at))
  where
    moved : Status → View
    moved at = to Forward (record { at = at; regs = (performed e s).regs; memory = (performed e s).memory })

pub goes_plain : (s z : View) (e : look_at s ≡ goes z) → KeepsNode (at_plain s z e).e
goes_plain s z e =
    let q = at_plain s z e in
    subst Fine q.does (landed_effect (placed 0 0 0 s) (attempt [] Forward (op_at s) (placed 0 0 0 s)) (plain_effect (op_at s) q.plain s))

module _ (t : List ℕ) (N : ℕ) where
  abbrev pub Sized : View → Type 0
  Sized s = bad_sizes (placed N 0 0 s).at s.memory t ≡ false

  pub goes_on : (s z : View) (v x : ℕ) (l : List Saved) → Sized s → look_at s ≡ goes z → cycle t x (walker (placed N v 0 s) l) ≡ went (walker (placed N v 0 z) l)
  unfolding cycle bad_sizes in_range
  goes_on s z v x l sized e =
      let q = at_plain s z e in
      let there : idled t (placed N v 0 s) ≡ attempt [] Forward (op_at s) (placed 0 0 0 s) = attempt_placed t [] Forward N 0 v 0 0 s (op_at s) (kind_of_shape (op_at s) Plain q.plain) in
      let lands : landed Forward (placed N v 0 s) (idled t (placed N v 0 s)) ≡ Ok q.e = ap (landed Forward (placed N v 0 s)) there ∙ (landed_placed N v s (attempt [] Forward (op_at s) (placed 0 0 0 s)) (plain_effect (op_at s) q.plain s) ∙ q.does) in
      ap (λ (k : Kind). cycle_by t x k (placed N v 0 s) l) q.plain
      ∙ (turns t (placed N v 0 s) sized q.code q.runs q.e (λ y. walker y l) lands
      ∙ ap (λ (y : View). went (walker y l)) (to_placed N v s q.e (goes_plain s z e) ∙ ap (placed N v 0) q.next))

-- ---- an effect that sets node and wait count

set_lands : (s : View) (u j : ℕ) → is_before_start s ≡ false → landed Forward s (Ok (SetNode u j)) ≡ Ok (SetNode u j)
unfolding landed refuse
set_lands s u j h = go (eqb j 0)
  where
    go : (b : Bool) → refuse (b && starts s.at s.memory (pick b (shifted Forward (pc s) (stride (br s))) (pc s))) (Err Landing) (Ok (SetNode u j)) ≡ Ok (SetNode u j)
    go true = rw h
    go false = refl

set_to : (t : List ℕ) (M N u j v i : ℕ) (s : View) → to Forward (performed (SetNode u j) (placed N v i s)) ≡ placed N u j (settled machine t M j s)
set_to t M N u j v i s = go (eqb j 0)
  where
    go : (b : Bool) → at_pc (placed N u j s) (pick b (shifted Forward (pc s) (stride (br s))) (pc s)) ≡ placed N u j (pick b (on s) s)
    go true = refl
    go false = ap (λ (r : List ℕ). record { at = (placed N u j s).at; regs = r; memory = s.memory }) (set-get_or s.regs 0 0)

module _ (t : List ℕ) (N : ℕ) where
  -- ---- the machine's cycle for each of the maker's

  pub qif_begins : (s : View) (v x : ℕ) (l : List Saved) → Sized t N s → x ≤ 1 → look_at s ≡ forks → paired t N v (fc x) (link t N v (fc x)) cf ≡ true
      → cycle t x (walker (placed N v 0 s) l)
      ≡ went (walker (placed N (link t N v (fc x)) (link t N (link t N v (fc x)) w) (settled machine t N (link t N (link t N v (fc x)) w) (with_reg s (coin_at s) x))) (saved s (coin_at s) ∷ l))
  unfolding cycle bad_sizes in_range
  qif_begins s v x l sized b e p =
      let q = at_qif s e in
      let u = link t N v (fc x) in
      let s' : View = with_reg s q.a x in
      let does : idled t (placed N v 0 s') ≡ Ok (SetNode u (link t N u w)) = ap (λ (o : Op). attempt t Forward o (placed N v 0 s')) (op_stays s q.a x q.named ∙ q.op) ∙ attempt_enters t N s' v q.a x b (reads s q.a x q.named) p in
      let free : is_before_start (placed N v 0 s') ≡ false = ap₂ (λ (i j : ℕ). starts s.at s.memory (shifted Forward i (stride j))) (pc_stays s q.a x q.named) (br_stays s q.a x q.named) ∙ q.free in
      let here : coin_at s ≡ q.a = ap (λ (o : Op). coin_of (kind_of o)) q.op in
      ap (λ (o : Op). cycle_by t x (kind_of o) (placed N v 0 s) l) q.op
      ∙ (turns t (placed N v 0 s') sized (ap (is_code s.at) (pc_stays s q.a x q.named) ∙ q.code) (ap (finishes s.memory) (pc_stays s q.a x q.named) ∙ q.runs) (SetNode u (link t N u w)) (λ z. walker z (saved s q.a ∷ l))
      (ap (λ (y : Attempt). landed Forward (placed N v 0 s') y) does ∙ set_lands (placed N v 0 s') u (link t N u w) free)
      ∙ (ap (λ (y : View). went (walker y (saved s q.a ∷ l))) (set_to t N N u (link t N u w) v 0 s')
      ∙ ap (λ (a : ℕ). went (walker (placed N u (link t N u w) (settled machine t N (link t N u w) (with_reg s a x))) (saved s a ∷ l))) (sym here)))

  pub qif_waits : (s : View) (v j x : ℕ) (l : List Saved) → Sized t N s → eqb j 0 ≡ false → reg s (coin_at s) ≤ 1 → look_at s ≡ forks
      → paired t N (link t N v cf) (fc (reg s (coin_at s))) v cf ≡ true → j ≤ link t N v w
      → cycle t x (walker (placed N v j s) l) ≡ went (walker (placed N v (j - 1) (settled machine t N (j - 1) s)) l)
  unfolding cycle bad_sizes in_range
  qif_waits s v j x l sized z b e p h =
      let q = at_qif s e in
      let here : coin_at s ≡ q.a = ap (λ (o : Op). coin_of (kind_of o)) q.op in
      let does : idled t (placed N v j s) ≡ Ok (SetNode v (j - 1)) = ap (λ (o : Op). attempt t Forward o (placed N v j s)) q.op ∙ attempt_waits t N s v j q.a (reg s (coin_at s)) z b (ap (reg s) (sym here)) p h in
      ap (λ (o : Op). cycle_by t x (kind_of o) (placed N v j s) l) q.op
      ∙ (ap (λ (y : Bool). pick y (turn_then t (with_reg (placed N v j s) q.a x) (λ z. walker z (saved s q.a ∷ l))) (turn_then t (placed N v j s) (λ z. walker z l))) z
      ∙ (turns t (placed N v j s) sized q.code q.runs (SetNode v (j - 1)) (λ z. walker z l)
      (ap (λ (y : Attempt). landed Forward (placed N v j s) y) does ∙ set_lands (placed N v j s) v (j - 1) q.free)
      ∙ ap (λ (y : View). went (walker y l)) (set_to t N N v (j - 1) v j s)))

  pub fiq_ends : (s s₀ : View) (v x : ℕ) (l : List Saved) → Sized t N s → reg s (coin_at s) ≤ 1 → look_at s ≡ joins → is_before_start s ≡ false
      → (paired t N (link t N v cl) (lc (reg s (coin_at s))) v cl && paired t N (link t N v cl) nx (link t N (link t N v cl) nx) pr) ≡ true
      → cycle t x (walker (placed N v 0 s) (saved s₀ (coin_at s₀) ∷ l))
      ≡ went (walker (placed N (link t N (link t N v cl) nx) 0 (with_reg (on s) (coin_at s₀) (reg s₀ (coin_at s₀)))) l)
  unfolding cycle bad_sizes in_range
  fiq_ends s s₀ v x l sized b e free p =
      let q = at_fiq s e in
      let m = link t N (link t N v cl) nx in
      let back : View → Walker = λ z. walker (with_reg z (coin_at s₀) (reg s₀ (coin_at s₀))) l in
      let here : coin_at s ≡ q.a = ap (λ (o : Op). coin_of (kind_of o)) q.op in
      let does : idled t (placed N v 0 s) ≡ Ok (SetNode m 0) = ap (λ (o : Op). attempt t Forward o (placed N v 0 s)) q.op ∙ attempt_leaves t N s v q.a (reg s (coin_at s)) b (ap (reg s) (sym here)) p in
      ap (λ (o : Op). cycle_by t x (kind_of o) (placed N v 0 s) (saved s₀ (coin_at s₀) ∷ l)) q.op
      ∙ (turns t (placed N v 0 s) sized q.code q.runs (SetNode m 0) back
      (ap (λ (y : Attempt). landed Forward (placed N v 0 s) y) does ∙ set_lands (placed N v 0 s) m 0 free)
      ∙ ap (λ (y : View). went (back y)) (set_to t N N m 0 v 0 s))
