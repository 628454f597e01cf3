-- In a table drawn from zeros every link is 0 or paired, so that the check of images refuses none. Assumes nothing.
use mathlib.Core.Path.{◌≡◌, refl, sym, ap, ap₂, ◌∙◌, subst}
use mathlib.Core.Logic.{◌≢◌, ◌⊎◌, inl, inr}
use mathlib.Core.Bool.{true, false}
use mathlib.Core.List.{List, [], ◌∷◌}
use Prim.Native.Nat.{ℕ, ◌+◌, ◌-◌, ◌*◌, ◌/◌, ◌%◌, ◌<◌, ◌≤◌}
use native.Mathlib.Omega.{arith}
use native.Mathlib.Decide.{ℕ_discrete}
use lib.ListN.{length, get_or, take}
use lib.Seq.{get_or-take}
use Rattle.step.specs.Table.{fc, lc, cf, cl, nx, pr, w, link}
use Rattle.step.proofs.Views.{link_node}
use Rattle.machine.specs.Machine.{Machine, state_of, wrong_sizes}
use Rattle.links.specs.declared.Checked.{Checked}
use Rattle.links.specs.Check.{returns, children_return, unpaired, check_of, check_node_of}
use Rattle.links.specs.Claims.{Paired}
use Rattle.links.proofs.Decides.{both, either, equal, node}
use Rattle.links.proofs.OneNode.{links_decide}
use Rattle.links.proofs.NodeByNode.{before_nodes, node_by_node}
use Rattle.maker.specs.Walk.{Walk, size, ending, put, pair, linked, drawn, fork_size, fork_linked, lack}
use Rattle.maker.specs.Walk.Walk.{begin, step, fork}
use Rattle.maker.proofs.Drawn.{word, Off₂, other, pair_long, pair_other, pair_there, pair_back, stays}
use Rattle.maker.proofs.Drawn.{upper, new, e_low, e_high, e_off, f_low, f_high, f_off, keeps, drawn_long}

-- a walk from v leaves cf of v, which the qif around it writes
own : (q : Walk) (v n : ℕ) (t : List ℕ) → 1 ≤ v → v ≤ n → word (drawn q v n t) v 4 ≡ word t v 4
unfolding drawn
own begin v n t hv hn = refl
own (step p) v n t hv hn = own p v n t hv hn
own (fork p a b) v n t hv hn =
    let m = n + size p in
    stays (ending p v n) (m + 1) (m + 2) (ending a (m + 1) (m + 2)) (ending b (m + 2) (m + 2 + size a)) (m + fork_size a b) (lack a b) (lack b a) _
    (omega (arith, (new p v n hn).0)) (omega arith) (omega arith) (omega (arith, e_low a b m)) (omega (arith, f_low a b m)) (omega arith) v 4
    (omega (arith, e_low a b m, f_low a b m))
    ∙ (keeps b (m + 2) (m + 2 + size a) _ v 4 (omega arith) (omega arith) hv (omega arith) (omega arith) (omega arith)
    ∙ (keeps a (m + 1) (m + 2) _ v 4 (omega arith) (omega arith) hv (omega arith) (omega arith) (omega arith) ∙ own p v n t hv hn))

-- ---- links that return

-- the inverse of link j: of cf it is fc, and of cl lc, with either coin x. The remainder says no more than that it is a link.
by : ℕ → ℕ → ℕ
by x j = get_or (cf ∷ cf ∷ cl ∷ cl ∷ fc x ∷ lc x ∷ pr ∷ nx ∷ []) j 0 % 8

by_low : (x j : ℕ) → by x j < 8
unfolding by
by_low x j = omega arith

module _ (N : ℕ) where
  -- link j of u is 0 or paired, as the check has it
  abbrev Returns : List ℕ → ℕ → ℕ → Type 0
  Returns t u j = Paired t N u j (by 0 j) (by 1 j)

  abbrev Closed : List ℕ → Type 0
  Closed t = (u j : ℕ) → 1 ≤ u → j < 8 → Returns t u j

  -- a link of u still returns where it and the words that hold u stay
  kept : (t t' : List ℕ) (u j : ℕ) → Returns t u j → word t' u j ≡ word t u j
      → ((y i : ℕ) → 1 ≤ y → i < 8 → word t y i ≡ u → word t' y i ≡ word t y i) → Returns t' u j
  kept t t' u j (inl z) e s = inl (e ∙ z)
  kept t t' u j (inr b) e s =
      let held : (x : ℕ) → word t (word t u j) (by x j) ≡ u → word t' (word t u j) (by x j) ≡ u = λ x q. s _ (by x j) b.0.0 (by_low x j) q ∙ q in
      inr (rw e (b.0, elim b.1 [ inl q ↦ inl (held 0 q) | inr q ↦ inr (held 1 q) ]))

  -- w is no link
  waits : (t : List ℕ) (v x : ℕ) → 1 ≤ v → Closed t → Closed (put t v w x)
  waits t v x hv h u j hu hj =
      kept t (put t v w x) u j (h u j hu hj) (other t v w x u j hv (omega arith) (omega arith))
      (λ y i hy hi q. other t v w x y i hv (omega arith) (omega arith))

  -- ---- a pair written over two zeros

  -- t is t₀ with pairs written, which left the words in Left
  record Joined (t₀ t : List ℕ) (Left : ℕ → ℕ → Type 0) : Type 0 where
    long : 9 * N ≤ length t
    closed : Closed t
    same : (u i : ℕ) → 1 ≤ u → i < 8 → Left u i → word t u i ≡ word t₀ u i

  -- words v f and x g are two of them, and 0: to be written as links to x and to v
  record Joinable (t₀ : List ℕ) (Left : ℕ → ℕ → Type 0) (v f x g : ℕ) : Type 0 where
    v_in : (0 < v) × (v ≤ N)
    x_in : (0 < x) × (x ≤ N)
    links : (f < 8) × (g < 8) × (f ≢ g)
    v_left : Left v f × (word t₀ v f ≡ 0)
    x_left : Left x g × (word t₀ x g ≡ 0)

  module _ {t₀ t : List ℕ} {Left : ℕ → ℕ → Type 0} (s : Joined t₀ t Left) (v f x g : ℕ)
      (there : by 0 f ≡ g) (back : (by 0 g ≡ f) ⊎ (by 1 g ≡ f)) (h : Joinable t₀ Left v f x g) where
    apart : (u i : ℕ) → Off₂ v f x g u i → word (pair t v f x g) u i ≡ word t u i
    apart = pair_other t v f x g h.v_in.0 h.x_in.0 (omega arith) (omega arith)

    to_x : word (pair t v f x g) v f ≡ x
    to_x = pair_there t v f x g h.v_in.0 h.x_in.0 (omega arith) (omega arith) h.links.2 (omega (arith, s.long))

    to_v : word (pair t v f x g) x g ≡ v
    to_v = pair_back t v f x g h.v_in.0 h.x_in.0 (omega arith) (omega arith) (omega (arith, s.long))

    pair_closed : Closed (pair t v f x g)
    pair_closed u j hu hj = go (ℕ_discrete (9 * (u - 1) + j) (9 * (v - 1) + f)) (ℕ_discrete (9 * (u - 1) + j) (9 * (x - 1) + g))
      where
        -- a word that holds u is none that held 0
        off : (y i z k : ℕ) → 1 ≤ y → i < 8 → word t y i ≡ u → Left z k × (word t₀ z k ≡ 0) → y ≡ z → i ≡ k → ⊥
        off y i z k hy hi e l a b =
            omega (arith, sym e ∙ (ap₂ (λ (y i : ℕ). word t y i) a b ∙ (s.same z k (omega arith) (omega arith) l.0 ∙ l.1)))

        go : Dec (9 * (u - 1) + j ≡ 9 * (v - 1) + f) → Dec (9 * (u - 1) + j ≡ 9 * (x - 1) + g) → Returns (pair t v f x g) u j
        go (yes p) q =
            let same : (u ≡ v) × (j ≡ f) = omega (arith, h.v_in, h.links) in
            rw (same.0, same.1) (inr (rw to_x (h.x_in, inl (rw there to_v))))
        go (no p) (yes q) =
            let same : (u ≡ x) × (j ≡ g) = omega (arith, h.x_in, h.links) in
            rw (same.0, same.1) (inr (rw to_v (h.v_in, elim back [ inl e ↦ inl (rw e to_x) | inr e ↦ inr (rw e to_x) ])))
        go (no p) (no q) =
            kept t (pair t v f x g) u j (s.closed u j hu hj) (apart u j (hu, omega arith, (λ a b. p (rw (a, b))), λ a b. q (rw (a, b))))
            (λ y i hy hi e. apart y i (hy, omega arith, off y i v f hy hi e h.v_left, off y i x g hy hi e h.x_left))

    join : Joined t₀ (pair t v f x g) (λ u i. Left u i × (u ≡ v → i ≢ f) × (u ≡ x → i ≢ g))
    join =
        record {
          long = omega (arith, s.long, pair_long t v f x g);
          closed = pair_closed;
          same = λ u i hu hi o. apart u i (hu, omega arith, o.1, o.2) ∙ s.same u i hu hi o.0;
        }

  -- ---- the table drawn

  -- at v with n nodes made: fc, lc, cl and nx of v are 0, and so is every word of the nodes to come
  record Ready (t : List ℕ) (v n : ℕ) : Type 0 where
    closed : Closed t
    at : (i : ℕ) → (i ≢ 4) × (i < 7) → word t v i ≡ 0
    above : (u i : ℕ) → n < u → i < 9 → word t u i ≡ 0

  more : {t : List ℕ} {v n k : ℕ} → n ≤ k → Ready t v n → Ready t v k
  more h g = record { closed = g.closed; at = g.at; above = λ u i j k. g.above u i (omega arith) k }

  module _ (a b : Walk) (m : ℕ) (t : List ℕ) where
    abbrev A : List ℕ
    A = drawn a (m + 1) (m + 2) t

    abbrev B : List ℕ
    B = drawn b (m + 2) (m + 2 + size a) A

    abbrev e : ℕ
    e = ending a (m + 1) (m + 2)

    abbrev f : ℕ
    f = ending b (m + 2) (m + 2 + size a)

    -- a qif at v with m nodes made, of whose branches all this is known
    module _ (v : ℕ) (hv : 1 ≤ v) (hm : v ≤ m) (r : m + fork_size a b ≤ N) (l : 9 * N ≤ length t) (g : Ready t v m)
        (walk-a : Ready t (m + 1) (m + 2) → Ready A e (m + 2 + size a))
        (walk-b : Ready A (m + 2) (m + 2 + size a) → Ready B f (m + 2 + size a + size b)) where
      past_a : (u i : ℕ) → (1 ≤ u) × (u ≤ m + 2) × (u ≢ m + 1) × (i < 9) → word A u i ≡ word t u i
      past_a u i h = keeps a (m + 1) (m + 2) t u i (omega arith) (omega arith) h.0 h.1 h.2 h.3

      past_b : (u i : ℕ) → (1 ≤ u) × (u ≤ m + 2 + size a) × (u ≢ m + 2) × (i < 9) → word B u i ≡ word A u i
      past_b u i h = keeps b (m + 2) (m + 2 + size a) A u i (omega arith) (omega arith) h.0 h.1 h.2 h.3

      at_b : (i : ℕ) → i < 9 → word A (m + 2) i ≡ 0
      at_b i k = past_a (m + 2) i (omega arith) ∙ g.above (m + 2) i (omega arith) k

      after_a : Ready A e (m + 2 + size a)
      after_a = walk-a (record { closed = g.closed; at = λ i k. g.above (m + 1) i (omega arith) (omega arith); above = (more (omega arith) g).above })

      after_b : Ready B f (m + 2 + size a + size b)
      after_b = walk-b (record { closed = after_a.closed; at = λ i k. at_b i (omega arith); above = after_a.above })

      linked_closed : Closed (fork_linked v m a b B)
      unfolding linked by
      linked_closed =
          let inside : (1 ≤ e) × (e ≤ N) × (1 ≤ f) × (f ≤ N) = omega (arith, e_low a b m, e_high a b m, f_low a b m, f_high a b m) in
          let ef = f_off a b m e (e_high a b m) (e_off a b m) in
          let at_v : (i : ℕ) → (i ≢ 4) × (i < 7) → word B v i ≡ 0 = λ i k. past_b v i (omega arith) ∙ (past_a v i (omega arith) ∙ g.at i k) in
          let cf_a = past_b (m + 1) 4 (omega arith) ∙ (own a (m + 1) (m + 2) t (omega arith) (omega arith) ∙ g.above (m + 1) 4 (omega arith) (omega arith)) in
          let cf_b = own b (m + 2) (m + 2 + size a) A (omega arith) (omega arith) ∙ at_b 4 (omega arith) in
          let cl_e = past_b e 5 (omega (arith, e_high a b m, e_off a b m)) ∙ after_a.at 5 (omega arith) in
          let pr_m = after_b.above (m + fork_size a b) 7 (omega arith) (omega arith) in
          let long : 9 * N ≤ length B = omega (arith, drawn_long a (m + 1) (m + 2) t, drawn_long b (m + 2) (m + 2 + size a) A) in
          let s₀ : Joined B B (λ u i. Unit {0}) = record { long = long; closed = after_b.closed; same = λ u i hu hi o. refl } in
          let s₁ = join s₀ v 0 (m + 1) 4 refl (inl refl) (omega (arith, at_v 0 (omega arith))) in
          let s₂ = join s₁ v 1 (m + 2) 4 refl (inr refl) (omega (arith, at_v 1 (omega arith))) in
          let s₃ = join s₂ v 2 e 5 refl (inl refl) (omega (arith, at_v 2 (omega arith))) in
          let s₄ = join s₃ v 3 f 5 refl (inr refl) (omega (arith, at_v 3 (omega arith), after_b.at 5 (omega arith))) in
          let s₅ = join s₄ v 6 (m + fork_size a b) 7 refl (inl refl) (omega (arith, at_v 6 (omega arith))) in
          waits _ (m + 2) (lack b a) (omega arith) (waits _ (m + 1) (lack a b) (omega arith) s₅.closed)

      -- past the branches, all but pr of the last node
      beyond : (u i : ℕ) → m + fork_size a b ≤ u → i < 9 → 9 * (u - 1) + i ≢ 9 * (m + fork_size a b - 1) + 7 → word (fork_linked v m a b B) u i ≡ 0
      beyond u i h k o =
          stays v (m + 1) (m + 2) e f (m + fork_size a b) (lack a b) (lack b a) B
          hv (omega arith) (omega arith) (omega (arith, e_low a b m)) (omega (arith, f_low a b m)) (omega arith) u i
          (omega (arith, e_high a b m, f_high a b m)) ∙ after_b.above u i (omega arith) k

      forked : Ready (fork_linked v m a b B) (m + fork_size a b) (m + fork_size a b)
      forked =
          record {
            closed = linked_closed;
            at = λ i k. beyond (m + fork_size a b) i (omega arith) (omega arith) (omega arith);
            above = λ u i h k. beyond u i (omega arith) k (omega arith);
          }

  ready : (q : Walk) (v n : ℕ) (t : List ℕ) → 1 ≤ v → v ≤ n → n + size q ≤ N → 9 * N ≤ length t → Ready t v n
      → Ready (drawn q v n t) (ending q v n) (n + size q)
  unfolding drawn ending size
  ready begin v n t hv hn r l g = more (omega arith) g
  ready (step p) v n t hv hn r l g = ready p v n t hv hn r l g
  ready (fork p a b) v n t hv hn r l g =
      let m = n + size p in
      let T = drawn p v n t in
      let long : 9 * N ≤ length T = omega (arith, drawn_long p v n t) in
      more (omega arith)
      (forked a b m T (ending p v n) (omega (arith, (new p v n hn).0)) (upper p v n hn) (omega arith) long
      (ready p v n t hv hn (omega arith) l g)
      (ready a (m + 1) (m + 2) T (omega arith) (omega arith) (omega arith) long)
      (ready b (m + 2) (m + 2 + size a) _ (omega arith) (omega arith) (omega arith) (omega (arith, drawn_long a (m + 1) (m + 2) T))))

-- ---- what the check says

module _ (table : List ℕ) (n : ℕ) (h : Closed n table) where
  link_word : (v j : ℕ) → (0 < v) × (v ≤ n) → j < 8 → link (take (9 * n) table) n v j ≡ word table v j
  link_word v j k l = sym (link_node _ n v j k.0 k.1) ∙ get_or-take (9 * n) table (9 * (v - 1) + j) 0 (omega arith)

  module _ (v : ℕ) (hv : 0 < v) (k : v ≤ n) where
    returned : (j : ℕ) → j < 8 → returns (take (9 * n) table) n v j (by 0 j) (by 1 j) ≡ true
    unfolding returns
    returned j l =
        rw (link_word v j (hv, k) l) ((either (equal refl)
        (both (node n (word table v j)) (λ p. either (equal (link_word _ (by 0 j) p (by_low 0 j))) (equal (link_word _ (by 1 j) p (by_low 1 j)))))).1
        (h v j hv l))

    all_paired : unpaired (take (9 * n) table) n v ≡ false
    unfolding unpaired children_return by
    all_paired =
        rw (returned 0 (omega arith), returned 1 (omega arith), returned 2 (omega arith), returned 3 (omega arith))
        (rw (returned 4 (omega arith), returned 5 (omega arith), returned 6 (omega arith), returned 7 (omega arith)))

pub made_paired : (p : Walk) (t : List ℕ) (v : ℕ) → 9 * (1 + size p) ≤ length t → ((i : ℕ) → get_or t i 0 ≡ 0) → 0 < v → v ≤ 1 + size p
    → unpaired (take (9 * (1 + size p)) (drawn p 1 1 t)) (1 + size p) v ≡ false
made_paired p t v l z =
    let start : Ready (1 + size p) t 1 1 = record { closed = λ u j h k. inl (z _); at = λ i k. z _; above = λ u i h k. z _ } in
    all_paired (drawn p 1 1 t) (1 + size p) (ready (1 + size p) p 1 1 t (omega arith) (omega arith) (omega arith) l start).closed v

-- the words after the nodes stay zero
pub made_zeros : (p : Walk) (t : List ℕ) (i : ℕ) → 1 + size p ≤ 511 → 9 * 511 ≤ length t → ((i : ℕ) → get_or t i 0 ≡ 0) → 9 * (1 + size p) ≤ i
    → get_or (drawn p 1 1 t) i 0 ≡ 0
made_zeros p t i h l z k =
    let start : Ready 511 t 1 1 = record { closed = λ u j h k. inl (z _); at = λ i k. z _; above = λ u i h k. z _ } in
    subst (λ (j : ℕ). get_or (drawn p 1 1 t) j 0 ≡ 0) (omega arith)
    ((ready 511 p 1 1 t (omega arith) (omega arith) h l start).above (i / 9 + 1) (i % 9) (omega arith) (omega arith))

pub node_passes : (x : Machine) (v : ℕ) → wrong_sizes x ≡ false → 0 < v → v ≤ x.state.n → unpaired (state_of x).links x.state.n v ≡ false
    → check_node_of x v ≡ 0
node_passes x v o p q h = links_decide x v o p q ∙ rw h

pub check_passes : (x : Machine) → ((v : ℕ) → 0 < v → v ≤ x.state.n → unpaired (state_of x).links x.state.n v ≡ false) → (check_of x).refusal ≡ 8 → ⊥
check_passes x h e =
    let o = (before_nodes.passed x).0 (omega (arith, e)) in
    let z = (node_by_node.good x o).1 (λ v p q. node_passes x v o.sizes p q (h v p q)) in
    omega (arith, e, ap (λ (c : Checked). c.refusal) z)
