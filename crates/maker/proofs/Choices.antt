-- Over a table that holds a walk's links, every choice of coins goes through the walk in the same number of cycles. Over any machine. Assumes nothing.
use mathlib.Core.Path.{◌≡◌, refl, ap, ap₂, ◌∙◌}
use mathlib.Core.Bool.{true, false, ◌&&◌}
use mathlib.Core.List.{List, ◌∷◌}
use Prim.Native.Nat.{ℕ, zero, suc, ◌+◌, ◌≤◌}
use native.Mathlib.Omega.{arith}
use native.Mathlib.Numerals.{sub-one}
use native.Mathlib.Nat.{suc-add}
use lib.Dec.{eqb}
use borrow.Author.Tests.{le-leb, ne_eqb, eqb-true}
use Rattle.word.proofs.Words.{and_true}
use Rattle.step.specs.Table.{fc, lc, cf, cl, nx, pr, w, is_node, link, paired}
use Rattle.maker.specs.Walk.{Walk, size, cycles, ending, fork_size, fork_cycles, lack}
use Rattle.maker.specs.Walk.Walk.{begin, step, fork}
use Rattle.maker.specs.Walkable.{Walkable}
use Rattle.maker.specs.Walkable.Look.{goes, forks, joins}
use Rattle.maker.proofs.Guided.{Guided, Next, guided, by_next, settled, enter, waits, leave, cycle, runs}
use Rattle.maker.proofs.Guided.Next.{stuck, moved}

-- ---- the links of a walk

-- of a qif at v with n nodes made, whose branches are a and b
pub record Links (t : List ℕ) (N v n : ℕ) (a b : Walk) : Type 0 where
  pub first₀ : paired t N v (fc 0) (n + 1) cf ≡ true
  pub first₁ : paired t N v (fc 1) (n + 2) cf ≡ true
  pub wait₀ : link t N (n + 1) w ≡ lack a b
  pub wait₁ : link t N (n + 2) w ≡ lack b a
  pub last₀ : paired t N v (lc 0) (ending a (n + 1) (n + 2)) cl ≡ true
  pub last₁ : paired t N v (lc 1) (ending b (n + 2) (n + 2 + size a)) cl ≡ true
  pub next : paired t N v nx (n + fork_size a b) pr ≡ true

abbrev pub Holds : List ℕ → ℕ → Walk → ℕ → ℕ → Type 0
Holds t N begin v n = Unit {0}
Holds t N (step p) v n = Holds t N p v n
Holds t N (fork p a b) v n =
    Holds t N p v n × Links t N (ending p v n) (n + size p) a b
    × Holds t N a (n + size p + 1) (n + size p + 2) × Holds t N b (n + size p + 2) (n + size p + 2 + size a)

module _ (t : List ℕ) (N v f u g : ℕ) (e : paired t N v f u g ≡ true) where
  links : (eqb (link t N v f) u ≡ true) × (eqb (link t N u g) v ≡ true)
  unfolding paired
  links =
      let c = eqb (link t N v f) u in
      let d = eqb (link t N u g) v in
      and_true c d (and_true (is_node N u) (c && d) (and_true (is_node N v) (is_node N u && (c && d)) e).1).1

  there : link t N v f ≡ u
  there = eqb-true (link t N v f) u links.0

  back : link t N u g ≡ v
  back = eqb-true (link t N u g) v links.1

either_coin : (P : Type 0) (x : ℕ) → x ≤ 1 → (x ≡ 0 → P) → (x ≡ 1 → P) → P
either_coin P zero h f g = f refl
either_coin P (suc zero) h f g = g refl
either_coin P (suc (suc k)) h f g = absurd (omega (arith, h))

-- ---- what a machine must keep to

pub record Lawful {S : Type 0} (M : Walkable S) : Type 0 where
  pub still : (s : S) (x : ℕ) → M.look s ≡ forks → M.look (M.coined s x) ≡ forks
  pub set : (s : S) (x : ℕ) → M.look s ≡ forks → M.coin (M.coined s x) ≡ x
  pub held : (s t : S) (x : ℕ) → M.holds s x t ≡ true → M.coin t ≡ x
  pub alike : (s t u : S) → M.same (M.after s t) (M.after s u) ≡ true → M.after s t ≡ M.after s u

-- ---- the machine's own walk, of any branches

module _ {S : Type 0} (M : Walkable S) where
  -- branch x of the qif at s walks by W to its fiq, after which the state is z
  abbrev pub Joins : S → ℕ → (S → Type 0) → S → Type 0
  Joins s x W z = (y : S) × W y × (M.look y ≡ joins) × (M.is_before_start y ≡ false) × (M.holds s x y ≡ true) × (M.after s y ≡ z)

  abbrev pub Walks : S → Walk → S → Type 0
  Walks s begin z = s ≡ z
  Walks s (step p) z = (y : S) × Walks s p y × (M.look y ≡ goes z)
  Walks s (fork p a b) z =
      (y : S) × Walks s p y × (M.look y ≡ forks)
      × Joins y 0 (λ e. Walks (M.on (M.coined y 0)) a e) z
      × Joins y 1 (λ e. Walks (M.on (M.coined y 1)) b e) z

-- ---- cycles over the table

module _ {S : Type 0} (M : Walkable S) (L : Lawful M) (t : List ℕ) (N : ℕ) (c : ℕ → ℕ) where
  abbrev go : ℕ → ℕ → Guided S → Next S
  go k i g = runs M t N c k i g

  -- one run after another
  after_next : (x : Next S) (f g : Guided S → Next S) → ((h : Guided S) → f h ≡ g h) → by_next x f ≡ by_next x g
  unfolding by_next
  after_next (stuck k) f g e = refl
  after_next (moved h) f g e = e h

  nested : (x : Next S) (f g : Guided S → Next S) → by_next x (λ h. by_next (f h) g) ≡ by_next (by_next x f) g
  unfolding by_next
  nested (stuck k) f g = refl
  nested (moved h) f g = refl

  parts : (k l i : ℕ) (g : Guided S) → go (k + l) i g ≡ by_next (go k i g) (go l (i + k))
  unfolding runs by_next
  parts zero l i g =
      let p : 0 + l ≡ l = omega arith in
      let q : i ≡ i + 0 = omega arith in
      ap₂ (λ (x y : ℕ). go x y g) p q
  parts (suc k) l i g =
      ap (λ (x : ℕ). go x i g) (suc-add k l)
      ∙ (after_next (cycle M t N (c i) g) (go (k + l) (suc i)) (λ h. by_next (go k (suc i) h) (go l (i + suc k)))
      (λ h. parts k l (suc i) h ∙ ap (λ (x : ℕ). by_next (go k (suc i) h) (go l x)) (omega arith))
      ∙ nested (cycle M t N (c i) g) (go k (suc i)) (go l (i + suc k)))

  then : (k l i : ℕ) (g h : Guided S) → go k i g ≡ moved h → go (k + l) i g ≡ go l (i + k) h
  unfolding by_next
  then k l i g h e = parts k l i g ∙ ap (λ (x : Next S). by_next x (go l (i + k))) e

  one : (i : ℕ) (g h : Guided S) → cycle M t N (c i) g ≡ moved h → go 1 i g ≡ moved h
  unfolding runs by_next
  one i g h e = rw e

  unsettled : (k : ℕ) (s : S) → settled M t N (suc k) s ≡ s
  unsettled k s = rw (ne_eqb (suc k) 0 (λ e. omega (arith, e)))

  module _ (s : S) (v : ℕ) (l : List S) where
    goes_one : (x : ℕ) (z : S) → M.look s ≡ goes z → cycle M t N x (guided s v 0 l) ≡ moved (guided z v 0 l)
    unfolding cycle
    goes_one x z e = rw e

    enters : (x u : ℕ) → x ≤ 1 → M.look s ≡ forks → paired t N v (fc x) u cf ≡ true
        → cycle M t N x (guided s v 0 l) ≡ moved (guided (settled M t N (link t N u w) (M.coined s x)) u (link t N u w) (s ∷ l))
    unfolding cycle enter
    enters x u b e p = rw (e, le-leb x 1 b, there t N v (fc x) u cf p, p)

    leaves : (q x p m : ℕ) (s₀ : S) → x ≤ 1 → M.look s ≡ joins → M.is_before_start s ≡ false → M.holds s₀ x s ≡ true → paired t N p (lc x) v cl ≡ true → paired t N p nx m pr ≡ true
        → cycle M t N q (guided s v 0 (s₀ ∷ l)) ≡ moved (guided (M.after s₀ s) m 0 l)
    unfolding cycle leave
    leaves r x p m s₀ h e f k a b = rw (e, L.held s₀ s x k, le-leb x 1 h, back t N p (lc x) v cl a, there t N p nx m pr b, a, b, f, k)

    -- waiting k cycles more, at the qif's own word with its coin set
    module _ (x u : ℕ) (b : x ≤ 1) (f : M.look s ≡ forks) (p : paired t N v (fc x) u cf ≡ true) where
      waits_one : (y k : ℕ) (l : List S) → suc k ≤ link t N u w
          → cycle M t N y (guided (M.coined s x) u (suc k) l) ≡ moved (guided (settled M t N k (M.coined s x)) u k l)
      unfolding cycle waits
      waits_one y k l h =
          rw (L.still s x f, ne_eqb (suc k) 0 (λ e. omega (arith, e)), L.set s x f, le-leb x 1 b, back t N v (fc x) u cf p, p, le-leb _ _ h, sub-one (suc k))

      waited : (k i : ℕ) (l : List S) → k ≤ link t N u w
          → go k i (guided (settled M t N k (M.coined s x)) u k l) ≡ moved (guided (M.on (M.coined s x)) u 0 l)
      unfolding runs by_next
      waited zero i l h = refl
      waited (suc k) i l h =
          ap (λ (q : S). go (suc k) i (guided q u (suc k) l)) (unsettled k (M.coined s x))
          ∙ (ap (λ (q : Next S). by_next q (go k (suc i))) (waits_one (c i) k l h) ∙ waited k (suc i) l (omega (arith, h)))

  -- a whole qif, by coin x: enter u, wait, walk its branch to y at e in k cycles, and leave for m
  taken : (s : S) (v : ℕ) (l : List S) (i x u e m k : ℕ) (y z : S) → x ≤ 1 → c i ≡ x → M.look s ≡ forks → paired t N v (fc x) u cf ≡ true
      → ((j : ℕ) (l : List S) → go k j (guided (M.on (M.coined s x)) u 0 l) ≡ moved (guided y e 0 l))
      → M.look y ≡ joins → M.is_before_start y ≡ false → M.holds s x y ≡ true → paired t N v (lc x) e cl ≡ true → paired t N v nx m pr ≡ true → M.after s y ≡ z
      → go (1 + (link t N u w + (k + 1))) i (guided s v 0 l) ≡ moved (guided z m 0 l)
  taken s v l i x u e m k y z b ci f first walk j o h end next after =
      then 1 _ i _ _ (one i _ _ (ap (λ (q : ℕ). cycle M t N q (guided s v 0 l)) ci ∙ enters s v l x u b f first))
      ∙ (then (link t N u w) _ (i + 1) _ _ (waited s v l x u b f first (link t N u w) (i + 1) (s ∷ l) (omega arith))
      ∙ (then k 1 (i + 1 + link t N u w) _ _ (walk (i + 1 + link t N u w) (s ∷ l))
      ∙ one (i + 1 + link t N u w + k) _ _ (leaves y e l (c (i + 1 + link t N u w + k)) x v m s b j o h end next ∙ ap (λ (q : S). moved (guided q m 0 l)) after)))

  begun : (s z : S) (v i : ℕ) (l : List S) → s ≡ z → go 0 i (guided s v 0 l) ≡ moved (guided z v 0 l)
  unfolding runs
  begun s z v i l e = ap (λ (q : S). moved (guided q v 0 l)) e

  -- every choice of coins walks p
  pub follow : ((i : ℕ) → c i ≤ 1) → (p : Walk) (v n : ℕ) (s z : S) (i : ℕ) (l : List S) → Walks M s p z → Holds t N p v n
      → go (cycles p) i (guided s v 0 l) ≡ moved (guided z (ending p v n) 0 l)
  unfolding cycles ending
  follow b begin v n s z i l walks holds = begun s z v i l walks
  follow b (step p) v n s z i l walks holds =
      then (cycles p) 1 i _ _ (follow b p v n s walks.0 i l walks.1 holds)
      ∙ one (i + cycles p) _ _ (goes_one walks.0 (ending p v n) l (c (i + cycles p)) z walks.2)
  follow b (fork p a d) v n s z i l walks holds =
      then (cycles p) (fork_cycles a d) i _ _ (follow b p v n s walks.0 i l walks.1 holds.0)
      ∙ either_coin _ (c (i + cycles p)) (b (i + cycles p))
      (λ x. let w₀ : fork_cycles a d ≡ 1 + (link t N (n + size p + 1) w + (cycles a + 1)) = omega (arith, holds.1.wait₀) in
      ap (λ (k : ℕ). go k (i + cycles p) (guided walks.0 (ending p v n) 0 l)) w₀
      ∙ taken walks.0 (ending p v n) l (i + cycles p) 0 (n + size p + 1) (ending a (n + size p + 1) (n + size p + 2)) (n + size p + fork_size a d) (cycles a) walks.3.0 z
      (omega arith) x walks.2 holds.1.first₀
      (λ j m. follow b a (n + size p + 1) (n + size p + 2) (M.on (M.coined walks.0 0)) walks.3.0 j m walks.3.1 holds.2)
      walks.3.2 walks.3.3 walks.3.4 holds.1.last₀ holds.1.next walks.3.5)
      (λ x. let w₁ : fork_cycles a d ≡ 1 + (link t N (n + size p + 2) w + (cycles d + 1)) = omega (arith, holds.1.wait₁) in
      ap (λ (k : ℕ). go k (i + cycles p) (guided walks.0 (ending p v n) 0 l)) w₁
      ∙ taken walks.0 (ending p v n) l (i + cycles p) 1 (n + size p + 2) (ending d (n + size p + 2) (n + size p + 2 + size a)) (n + size p + fork_size a d) (cycles d) walks.4.0 z
      (omega arith) x walks.2 holds.1.first₁
      (λ j m. follow b d (n + size p + 2) (n + size p + 2 + size a) (M.on (M.coined walks.0 1)) walks.4.0 j m walks.4.1 holds.3)
      walks.4.2 walks.4.3 walks.4.4 holds.1.last₁ holds.1.next walks.4.5)
