-- Over a finished table every choice of coins takes the same number of the machine's own turns. Assumes nothing.
use mathlib.Core.Path.{◌≡◌, refl, sym, ap, ◌∙◌, subst}
use mathlib.Core.Bool.{Bool, true, false, ◌&&◌}
use mathlib.Core.List.{List, [], ◌∷◌}
use Prim.Native.Nat.{ℕ, zero, suc, ◌+◌, ◌-◌, ◌≤◌}
use lib.Dec.{eqb, leb}
use borrow.Author.Tests.{eqb-true, leb-true}
use Rattle.word.specs.Word.{pick}
use Rattle.step.specs.declared.Direction.TheVariants.{Forward}
use Rattle.step.specs.declared.Effect.{Effect}
use Rattle.step.specs.View.{View, reg, with_reg, placed}
use Rattle.step.specs.Table.{fc, lc, cf, cl, nx, pr, w, link, paired}
use Rattle.step.specs.Step.{performed}
use Rattle.step.specs.Sizes.{in_range, bad_sizes}
use Rattle.step.proofs.Sized.{marked_sizes, stored_long}
use Rattle.step.proofs.BadSizes.{bad_sizes_same}
use Rattle.machine.specs.Turn.{pc, is_code, finishes, to}
use Rattle.maker.specs.Walk.{Walk, size, cycles, ending}
use Rattle.maker.specs.Walkable.{Look}
use Rattle.maker.specs.Walkable.Look.{halts, last, goes, forks, joins}
use Rattle.maker.specs.Making.{by_look, branch_at}
use Rattle.maker.specs.Making.Outcome.{ended}
use Rattle.maker.proofs.Guided.{Guided, Next, guided, settled, enter, waits, leave, runs, by_next}
use Rattle.maker.proofs.Guided.{cycle as guidedCycle}
use Rattle.maker.proofs.Guided.Next.{stuck, moved}
use Rattle.maker.specs.Idle.{on, is_before_start, look_at, coin_at, machine}
use Rattle.maker.specs.Follow.{Saved, saved, Walker, Went, walker, cycle, follows, by_went}
use Rattle.maker.specs.Follow.Went.{went}
use Rattle.maker.proofs.Choices.{Holds}
use Rattle.maker.proofs.Looked.{at_plain, last_is}
use Rattle.maker.proofs.Lawful.{machine_lawful}
use Rattle.maker.proofs.Same.{same_cycles, ends_last}
use Rattle.maker.proofs.Turns.{Sized, goes_on, qif_begins, qif_waits, fiq_ends}

abbrev AllNext : Next View → (Guided View → Type 0) → Type 0
AllNext (stuck k) P = Unit {0}
AllNext (moved g) P = P g

all_pick : (P : Guided View → Type 0) (b : Bool) (x : Next View) (k : ℕ) → (b ≡ true → AllNext x P) → AllNext (pick b x (stuck k)) P
all_pick P true x k h = h refl
all_pick P false x k h = tt

all_other : (P : Guided View → Type 0) (b : Bool) (x : Next View) (k : ℕ) → (b ≡ false → AllNext x P) → AllNext (pick b (stuck k) x) P
all_other P true x k h = tt
all_other P false x k h = h refl

-- what the registers get back
unfoldable coins : List View → List Saved
coins [] = []
coins (s ∷ l) = saved s (coin_at s) ∷ coins l

module _ (t : List ℕ) (N : ℕ) where
  abbrev embed : Guided View → Walker
  embed g = walker (placed N g.node g.wait g.at) (coins g.saved)

  -- sizes are kept
  sized_effect : (s : View) (e : Effect) → Sized t N s → Sized t N (to Forward (performed e (placed 0 0 0 s)))
  sized_effect s e z =
      let z' : View = to Forward (performed e (placed 0 0 0 s)) in
      let k = marked_sizes e (placed 0 0 0 s).at in
      bad_sizes_same t (placed N 0 0 s).at (placed N 0 0 z').at s.memory z'.memory (record { k = k.k; m = k.m; n = refl }) (stored_long e s.regs s.memory) ∙ z

  sized_goes : (s y : View) → look_at s ≡ goes y → Sized t N s → Sized t N y
  sized_goes s y e z = let q = at_plain s y e in subst (Sized t N) q.next (sized_effect s q.e z)

  sized_settled : (j : ℕ) (s : View) → Sized t N s → Sized t N (settled machine t N j s)
  unfolding bad_sizes in_range
  sized_settled j s z = go (eqb j 0)
    where
      go : (b : Bool) → Sized t N (pick b (on s) s)
      go true = z
      go false = z

  -- one cycle
  abbrev Same : ℕ → Guided View → Guided View → Type 0
  Same x g h = (cycle t x (embed g) ≡ went (embed h)) × Sized t N h.at

  begins : (x : ℕ) (s : View) (v : ℕ) (l : List View) → Sized t N s → look_at s ≡ forks → AllNext (enter machine t N x (guided s v 0 l)) (Same x (guided s v 0 l))
  unfolding enter coins bad_sizes in_range
  begins x s v l z e =
      all_pick _ (leb x 1) _ 16 λ b. all_pick _ (paired t N v (fc x) (link t N v (fc x)) cf) (moved _) 17 λ p.
      (qif_begins t N s v x (coins l) z (leb-true x 1 b) e p, sized_settled (link t N (link t N v (fc x)) w) (with_reg s (coin_at s) x) z)

  waits_on : (x : ℕ) (s : View) (v j : ℕ) (l : List View) → Sized t N s → look_at s ≡ forks → eqb j 0 ≡ false
      → AllNext (waits machine t N (guided s v j l)) (Same x (guided s v j l))
  unfolding waits bad_sizes in_range
  waits_on x s v j l z e n =
      all_pick _ (leb (reg s (coin_at s)) 1) _ 16 λ b. all_pick _ (paired t N (link t N v cf) (fc (reg s (coin_at s))) v cf) _ 17 λ p.
      all_pick _ (leb j (link t N v w)) (moved _) 14 λ h.
      (qif_waits t N s v j x (coins l) z n (leb-true (reg s (coin_at s)) 1 b) e p (leb-true j (link t N v w) h), sized_settled (j - 1) s z)

  leaves_to : (x : ℕ) (s : View) (v : ℕ) (l : List View) → Sized t N s → look_at s ≡ joins → AllNext (leave machine t N s v l) (Same x (guided s v 0 l))
  unfolding leave coins bad_sizes in_range
  leaves_to x s v [] z e = tt
  leaves_to x s v (s₀ ∷ l) z e =
      all_pick _ (leb (reg s (coin_at s)) 1) _ 16 λ b.
      all_pick _ (paired t N (link t N v cl) (lc (reg s (coin_at s))) v cl && paired t N (link t N v cl) nx (link t N (link t N v cl) nx) pr) _ 17 λ p.
      all_other _ (is_before_start s) _ 18 λ f. all_pick _ (eqb (coin_at s₀) (coin_at s) && eqb (reg s (coin_at s)) (reg s (coin_at s))) (moved _) 24 λ h.
      (fiq_ends t N s s₀ v x (coins l) z (leb-true (reg s (coin_at s)) 1 b) e f p, z)

  -- by the look and the wait count
  still : (x : ℕ) (s : View) (v j : ℕ) (l : List View) (r : Next View) → (b : Bool) → eqb j 0 ≡ b → (k : ℕ)
      → (eqb 0 0 ≡ true → AllNext r (Same x (guided s v 0 l))) → AllNext (pick b r (stuck k)) (Same x (guided s v j l))
  still x s v j l r true e k h = subst (λ (i : ℕ). AllNext r (Same x (guided s v i l))) (sym (eqb-true j 0 e)) (h refl)
  still x s v j l r false e k h = tt

  at_fork : (x : ℕ) (s : View) (v j : ℕ) (l : List View) → Sized t N s → look_at s ≡ forks → (b : Bool) → eqb j 0 ≡ b
      → AllNext (pick b (enter machine t N x (guided s v j l)) (waits machine t N (guided s v j l))) (Same x (guided s v j l))
  at_fork x s v j l z e true n = subst (λ (i : ℕ). AllNext (enter machine t N x (guided s v i l)) (Same x (guided s v i l))) (sym (eqb-true j 0 n)) (begins x s v l z e)
  at_fork x s v j l z e false n = waits_on x s v j l z e n

  by_look_lem : (x : ℕ) (s : View) (v j : ℕ) (l : List View) → Sized t N s → (k : Look View) → look_at s ≡ k
      → AllNext (by_look k stuck (stuck 12)
      (λ y. pick (eqb j 0) (moved (guided y v 0 l)) (stuck 14))
      (pick (eqb j 0) (enter machine t N x (guided s v j l)) (waits machine t N (guided s v j l)))
      (pick (eqb j 0) (leave machine t N s v l) (stuck 14))) (Same x (guided s v j l))
  by_look_lem x s v j l z (halts k) e = tt
  by_look_lem x s v j l z last e = tt
  by_look_lem x s v j l z (goes y) e = still x s v j l (moved (guided y v 0 l)) (eqb j 0) refl 14 (λ q. (goes_on t N s y v x (coins l) z e, sized_goes s y e z))
  by_look_lem x s v j l z forks e = at_fork x s v j l z e (eqb j 0) refl
  by_look_lem x s v j l z joins e = still x s v j l (leave machine t N s v l) (eqb j 0) refl 14 (λ q. leaves_to x s v l z e)

  simulates : (x : ℕ) (g : Guided View) → Sized t N g.at → AllNext (guidedCycle machine t N x g) (Same x g)
  unfolding guidedCycle
  simulates x g z = by_look_lem x g.at g.node g.wait g.saved z (look_at g.at) refl

  -- any number of cycles
  module _ (c : ℕ → ℕ) where
    abbrev Walked : ℕ → ℕ → Guided View → Guided View → Type 0
    Walked k i g h = (follows t c k i (embed g) ≡ went (embed h)) × Sized t N h.at

    more : (k i : ℕ) (g : Guided View) (x : Next View) → AllNext x (Same (c i) g)
        → ((h : Guided View) → Sized t N h.at → AllNext (runs machine t N c k (suc i) h) (Walked k (suc i) h))
        → AllNext (by_next x (runs machine t N c k (suc i))) (Walked (suc k) i g)
    unfolding by_next follows by_went
    more k i g (stuck n) s f = tt
    more k i g (moved h) s f = onward (runs machine t N c k (suc i) h) (f h s.1)
      where
        onward : (y : Next View) → AllNext y (Walked k (suc i) h) → AllNext y (Walked (suc k) i g)
        onward (stuck n) p = tt
        onward (moved z) p = (ap (λ (q : Went). by_went q (follows t c k (suc i))) s.0 ∙ p.0, p.1)

    walked : (k i : ℕ) (g : Guided View) → Sized t N g.at → AllNext (runs machine t N c k i g) (Walked k i g)
    unfolding runs follows
    walked zero i g z = (refl, z)
    walked (suc k) i g z = more k i g (guidedCycle machine t N (c i) g) (simulates (c i) g z) (λ h q. walked k (suc i) h q)

-- every table that holds the links of an accepted walk
module _ (limit nest : ℕ) (s z : View) (p : Walk) (e : branch_at machine limit nest false 1 0 s ≡ ended p z) (t : List ℕ) where
  pub machine_follows : Sized t (1 + size p) s → Holds t (1 + size p) p 1 1 → (c : ℕ → ℕ) → ((i : ℕ) → c i ≤ 1)
      → (follows t c (cycles p) 0 (walker (placed (1 + size p) 1 0 s) []) ≡ went (walker (placed (1 + size p) (ending p 1 1) 0 z) []))
      × Sized t (1 + size p) z
  unfolding coins
  machine_follows sized h c b =
      subst (λ (x : Next View). AllNext x (Walked t (1 + size p) c (cycles p) 0 (guided s 1 0 [])))
      (same_cycles machine machine_lawful limit nest s z p e t h c b)
      (walked t (1 + size p) c (cycles p) 0 (guided s 1 0 []) sized)

  pub at_finish : (is_code z.at (pc z) ≡ true) × (finishes z.memory (pc z) ≡ true)
  at_finish = last_is z (ends_last machine machine_lawful limit nest s z p e)
