-- The table that a walk draws holds its links. No machine is mentioned. Assumes nothing.
use mathlib.Core.Path.{◌≡◌, refl, sym, ap, ◌∙◌, subst}
use mathlib.Core.Logic.{◌≢◌}
use mathlib.Core.Bool.{Bool, true, false, ◌&&◌, false≢true}
use mathlib.Core.List.{List}
use Prim.Native.Nat.{ℕ, ◌+◌, ◌-◌, ◌*◌, ◌<◌, ◌≤◌}
use native.Mathlib.Omega.{arith}
use native.Mathlib.Decide.{dec_le}
use lib.Dec.{eqb}
use lib.ListN.{length, get_or, length-set}
use lib.Seq.{get_or-set_same, get_or-set_other}
use borrow.Author.Tests.{lt-ltb, le-leb, eq-eqb}
use Rattle.maker.specs.Walk.{put, pair}
use Rattle.word.specs.Word.{pick}
use Rattle.step.specs.Table.{fc, lc, cf, cl, nx, pr, w, is_node, link, paired}
use Rattle.maker.specs.Walk.{Walk, size, ending, linked, drawn, fork_size, lack}
use Rattle.maker.specs.Walk.Walk.{begin, step, fork}
use Rattle.maker.proofs.Choices.{Holds}

-- ---- words

abbrev pub word : List ℕ → ℕ → ℕ → ℕ
word t u i = get_or t (9 * (u - 1) + i) 0

-- word i of u, and not word j of v
abbrev Off : ℕ → ℕ → ℕ → ℕ → Type 0
Off v j u i = (1 ≤ u) × (i < 9) × (u ≡ v → i ≡ j → ⊥)

pub other : (t : List ℕ) (v j x u i : ℕ) → 1 ≤ v → j < 9 → Off v j u i → word (put t v j x) u i ≡ word t u i
unfolding put
other t v j x u i hv hj h =
    get_or-set_other t (9 * (v - 1) + j) (9 * (u - 1) + i) x 0 (λ e. let a : 1 ≤ u = h.0 in let b : i < 9 = h.1 in h.2 (omega arith) (omega arith))

same : (t : List ℕ) (v j x : ℕ) → 1 ≤ v → j < 9 → 9 * v ≤ length t → word (put t v j x) v j ≡ x
unfolding put
same t v j x hv hj h = get_or-set_same t (9 * (v - 1) + j) x 0 (omega arith)

put_long : (t : List ℕ) (v j x : ℕ) → length (put t v j x) ≡ length t
unfolding put
put_long t v j x = length-set t (9 * (v - 1) + j) x

pub pair_long : (t : List ℕ) (v f u g : ℕ) → length (pair t v f u g) ≡ length t
unfolding pair
pair_long t v f u g = put_long (put t v f u) u g v ∙ put_long t v f u

-- neither of two words
abbrev pub Off₂ : ℕ → ℕ → ℕ → ℕ → ℕ → ℕ → Type 0
Off₂ v f x g u i = (1 ≤ u) × (i < 9) × (u ≡ v → i ≡ f → ⊥) × (u ≡ x → i ≡ g → ⊥)

module _ (t : List ℕ) (v f x g : ℕ) (hv : 1 ≤ v) (hx : 1 ≤ x) (hf : f < 9) (hg : g < 9) where
  pub pair_other : (u i : ℕ) → Off₂ v f x g u i → word (pair t v f x g) u i ≡ word t u i
  unfolding pair
  pair_other u i h = other (put t v f x) x g v u i hx hg (h.0, h.1, h.3) ∙ other t v f x u i hv hf (h.0, h.1, h.2)

  pub pair_there : f ≢ g → 9 * v ≤ length t → word (pair t v f x g) v f ≡ x
  unfolding pair
  pair_there d r = other (put t v f x) x g v v f hx hg (hv, hf, λ p q. d q) ∙ same t v f x hv hf r

  pub pair_back : 9 * x ≤ length t → word (pair t v f x g) x g ≡ v
  unfolding pair
  pair_back r = same (put t v f x) x g v hx hg (subst (λ (n : ℕ). 9 * x ≤ n) (sym (put_long t v f x)) r)

-- as the machine reads them
node : (n u : ℕ) → 1 ≤ u → u ≤ n → is_node n u ≡ true
node n u h k = rw (lt-ltb 0 u h, le-leb u n k)

read : (l : List ℕ) (n u i z : ℕ) → 1 ≤ u → u ≤ n → word l u i ≡ z → link l n u i ≡ z
unfolding link
read l n u i z h k q = rw (node n u h k) q

joined : (l : List ℕ) (n u i z j : ℕ) → 1 ≤ u → u ≤ n → 1 ≤ z → z ≤ n → word l u i ≡ z → word l z j ≡ u → paired l n u i z j ≡ true
unfolding paired
joined l n u i z j h k g q p d =
    rw (node n u h k, node n z g q, eq-eqb (link l n u i) z (read l n u i z h k p), eq-eqb (link l n z j) u (read l n z j u g q d))

-- ---- the twelve words of a qif

pub linked_long : (v a b e f m x y : ℕ) (t : List ℕ) → length (linked v a b e f m x y t) ≡ length t
unfolding linked
linked_long v a b e f m x y t =
    put_long _ b w y ∙ (put_long _ a w x ∙ (pair_long _ v nx m pr ∙ (pair_long _ v (lc 1) f cl ∙ (pair_long _ v (lc 0) e cl ∙ (pair_long _ v (fc 1) b cf ∙ pair_long t v (fc 0) a cf)))))

module _ (v a b e f m x y : ℕ) (t : List ℕ) (hv : 1 ≤ v) (ha : 1 ≤ a) (hb : 1 ≤ b) (he : 1 ≤ e) (hf : 1 ≤ f) (hm : 1 ≤ m) where
  t₁ : List ℕ
  t₁ = pair t v 0 a 4

  t₂ : List ℕ
  t₂ = pair t₁ v 1 b 4

  t₃ : List ℕ
  t₃ = pair t₂ v 2 e 5

  t₄ : List ℕ
  t₄ = pair t₃ v 3 f 5

  t₅ : List ℕ
  t₅ = pair t₄ v 6 m 7

  t₆ : List ℕ
  t₆ = put t₅ a 8 x

  t₇ : List ℕ
  t₇ = put t₆ b 8 y

  o₁ : (u i : ℕ) → Off₂ v 0 a 4 u i → word t₁ u i ≡ word t u i
  unfolding t₁
  o₁ u i h = pair_other t v 0 a 4 hv ha (omega arith) (omega arith) u i h

  o₂ : (u i : ℕ) → Off₂ v 1 b 4 u i → word t₂ u i ≡ word t₁ u i
  unfolding t₂
  o₂ u i h = pair_other t₁ v 1 b 4 hv hb (omega arith) (omega arith) u i h

  o₃ : (u i : ℕ) → Off₂ v 2 e 5 u i → word t₃ u i ≡ word t₂ u i
  unfolding t₃
  o₃ u i h = pair_other t₂ v 2 e 5 hv he (omega arith) (omega arith) u i h

  o₄ : (u i : ℕ) → Off₂ v 3 f 5 u i → word t₄ u i ≡ word t₃ u i
  unfolding t₄
  o₄ u i h = pair_other t₃ v 3 f 5 hv hf (omega arith) (omega arith) u i h

  o₅ : (u i : ℕ) → Off₂ v 6 m 7 u i → word t₅ u i ≡ word t₄ u i
  unfolding t₅
  o₅ u i h = pair_other t₄ v 6 m 7 hv hm (omega arith) (omega arith) u i h

  o₆ : (u i : ℕ) → Off a 8 u i → word t₆ u i ≡ word t₅ u i
  unfolding t₆
  o₆ u i h = other t₅ a 8 x u i ha (omega arith) h

  o₇ : (u i : ℕ) → Off b 8 u i → word t₇ u i ≡ word t₆ u i
  unfolding t₇
  o₇ u i h = other t₆ b 8 y u i hb (omega arith) h

  is_linked : t₇ ≡ linked v a b e f m x y t
  unfolding linked t₇ t₆ t₅ t₄ t₃ t₂ t₁
  is_linked = refl

  -- any other word stays
  pub record Apart (u i : ℕ) : Type 0 where
    pub node : 1 ≤ u
    pub field : i < 9
    pub at_v : u ≡ v → (i ≢ 0) × (i ≢ 1) × (i ≢ 2) × (i ≢ 3) × (i ≢ 6)
    pub at_a : u ≡ a → (i ≢ 4) × (i ≢ 8)
    pub at_b : u ≡ b → (i ≢ 4) × (i ≢ 8)
    pub at_e : u ≡ e → i ≢ 5
    pub at_f : u ≡ f → i ≢ 5
    pub at_m : u ≡ m → i ≢ 7

  pub stays : (u i : ℕ) → Apart u i → word (linked v a b e f m x y t) u i ≡ word t u i
  stays u i h =
      ap (λ (l : List ℕ). word l u i) (sym is_linked)
      ∙ (o₇ u i (h.node, h.field, λ p q. (h.at_b p).1 q)
      ∙ (o₆ u i (h.node, h.field, λ p q. (h.at_a p).1 q)
      ∙ (o₅ u i (h.node, h.field, (λ p q. (h.at_v p).4 q), λ p q. h.at_m p q)
      ∙ (o₄ u i (h.node, h.field, (λ p q. (h.at_v p).3 q), λ p q. h.at_f p q)
      ∙ (o₃ u i (h.node, h.field, (λ p q. (h.at_v p).2 q), λ p q. h.at_e p q)
      ∙ (o₂ u i (h.node, h.field, (λ p q. (h.at_v p).1 q), λ p q. (h.at_b p).0 q)
      ∙ o₁ u i (h.node, h.field, (λ p q. (h.at_v p).0 q), λ p q. (h.at_a p).0 q)))))))

  module _ (N : ℕ) (r : 9 * N ≤ length t) (v_in : v ≤ N) (a_in : a ≤ N) (b_in : b ≤ N) (e_in : e ≤ N) (f_in : f ≤ N) (m-in : m ≤ N) (ab : a ≢ b) (ef : e ≢ f) where
    l₁ : length t₁ ≡ length t
    unfolding t₁
    l₁ = pair_long t v 0 a 4

    l₂ : length t₂ ≡ length t
    unfolding t₂
    l₂ = pair_long t₁ v 1 b 4 ∙ l₁

    l₃ : length t₃ ≡ length t
    unfolding t₃
    l₃ = pair_long t₂ v 2 e 5 ∙ l₂

    l₄ : length t₄ ≡ length t
    unfolding t₄
    l₄ = pair_long t₃ v 3 f 5 ∙ l₃

    l₅ : length t₅ ≡ length t
    unfolding t₅
    l₅ = pair_long t₄ v 6 m 7 ∙ l₄

    l₆ : length t₆ ≡ length t
    unfolding t₆
    l₆ = put_long t₅ a 8 x ∙ l₅

    fc0 : word t₇ v 0 ≡ a
    unfolding t₁
    fc0 =
        o₇ v 0 (omega arith) ∙ (o₆ v 0 (omega arith) ∙ (o₅ v 0 (omega arith) ∙ (o₄ v 0 (omega arith) ∙ (o₃ v 0 (omega arith) ∙ (o₂ v 0 (omega arith)
        ∙ pair_there t v 0 a 4 hv ha (omega arith) (omega arith) (omega arith) (omega arith))))))

    cf_a : word t₇ a 4 ≡ v
    unfolding t₁
    cf_a =
        o₇ a 4 (omega arith) ∙ (o₆ a 4 (omega arith) ∙ (o₅ a 4 (omega arith) ∙ (o₄ a 4 (omega arith) ∙ (o₃ a 4 (omega arith) ∙ (o₂ a 4 (omega arith)
        ∙ pair_back t v 0 a 4 hv ha (omega arith) (omega arith) (omega arith))))))

    fc1 : word t₇ v 1 ≡ b
    unfolding t₂
    fc1 =
        o₇ v 1 (omega arith) ∙ (o₆ v 1 (omega arith) ∙ (o₅ v 1 (omega arith) ∙ (o₄ v 1 (omega arith) ∙ (o₃ v 1 (omega arith)
        ∙ pair_there t₁ v 1 b 4 hv hb (omega arith) (omega arith) (omega arith) (omega (arith, l₁))))))

    cf_b : word t₇ b 4 ≡ v
    unfolding t₂
    cf_b =
        o₇ b 4 (omega arith) ∙ (o₆ b 4 (omega arith) ∙ (o₅ b 4 (omega arith) ∙ (o₄ b 4 (omega arith) ∙ (o₃ b 4 (omega arith)
        ∙ pair_back t₁ v 1 b 4 hv hb (omega arith) (omega arith) (omega (arith, l₁))))))

    lc0 : word t₇ v 2 ≡ e
    unfolding t₃
    lc0 =
        o₇ v 2 (omega arith) ∙ (o₆ v 2 (omega arith) ∙ (o₅ v 2 (omega arith) ∙ (o₄ v 2 (omega arith)
        ∙ pair_there t₂ v 2 e 5 hv he (omega arith) (omega arith) (omega arith) (omega (arith, l₂)))))

    cl_e : word t₇ e 5 ≡ v
    unfolding t₃
    cl_e =
        o₇ e 5 (omega arith) ∙ (o₆ e 5 (omega arith) ∙ (o₅ e 5 (omega arith) ∙ (o₄ e 5 (omega arith)
        ∙ pair_back t₂ v 2 e 5 hv he (omega arith) (omega arith) (omega (arith, l₂)))))

    lc1 : word t₇ v 3 ≡ f
    unfolding t₄
    lc1 =
        o₇ v 3 (omega arith) ∙ (o₆ v 3 (omega arith) ∙ (o₅ v 3 (omega arith)
        ∙ pair_there t₃ v 3 f 5 hv hf (omega arith) (omega arith) (omega arith) (omega (arith, l₃))))

    cl_f : word t₇ f 5 ≡ v
    unfolding t₄
    cl_f =
        o₇ f 5 (omega arith) ∙ (o₆ f 5 (omega arith) ∙ (o₅ f 5 (omega arith)
        ∙ pair_back t₃ v 3 f 5 hv hf (omega arith) (omega arith) (omega (arith, l₃))))

    nx_v : word t₇ v 6 ≡ m
    unfolding t₅
    nx_v = o₇ v 6 (omega arith) ∙ (o₆ v 6 (omega arith) ∙ pair_there t₄ v 6 m 7 hv hm (omega arith) (omega arith) (omega arith) (omega (arith, l₄)))

    pr_m : word t₇ m 7 ≡ v
    unfolding t₅
    pr_m = o₇ m 7 (omega arith) ∙ (o₆ m 7 (omega arith) ∙ pair_back t₄ v 6 m 7 hv hm (omega arith) (omega arith) (omega (arith, l₄)))

    w_a : word t₇ a 8 ≡ x
    unfolding t₆
    w_a = o₇ a 8 (omega arith) ∙ same t₅ a 8 x ha (omega arith) (omega (arith, l₅))

    w_b : word t₇ b 8 ≡ y
    unfolding t₇
    w_b = same t₆ b 8 y hb (omega arith) (omega (arith, l₆))

    -- what the machine reads of them
    pub there₀ : paired (linked v a b e f m x y t) N v 0 a 4 ≡ true
    there₀ = subst (λ (l : List ℕ). paired l N v 0 a 4 ≡ true) is_linked (joined t₇ N v 0 a 4 hv v_in ha a_in fc0 cf_a)

    pub there₁ : paired (linked v a b e f m x y t) N v 1 b 4 ≡ true
    there₁ = subst (λ (l : List ℕ). paired l N v 1 b 4 ≡ true) is_linked (joined t₇ N v 1 b 4 hv v_in hb b_in fc1 cf_b)

    pub ends₀ : paired (linked v a b e f m x y t) N v 2 e 5 ≡ true
    ends₀ = subst (λ (l : List ℕ). paired l N v 2 e 5 ≡ true) is_linked (joined t₇ N v 2 e 5 hv v_in he e_in lc0 cl_e)

    pub ends₁ : paired (linked v a b e f m x y t) N v 3 f 5 ≡ true
    ends₁ = subst (λ (l : List ℕ). paired l N v 3 f 5 ≡ true) is_linked (joined t₇ N v 3 f 5 hv v_in hf f_in lc1 cl_f)

    pub goes_on : paired (linked v a b e f m x y t) N v 6 m 7 ≡ true
    goes_on = subst (λ (l : List ℕ). paired l N v 6 m 7 ≡ true) is_linked (joined t₇ N v 6 m 7 hv v_in hm m-in nx_v pr_m)

    pub waits₀ : link (linked v a b e f m x y t) N a 8 ≡ x
    waits₀ = subst (λ (l : List ℕ). link l N a 8 ≡ x) is_linked (read t₇ N a 8 x ha a_in w_a)

    pub waits₁ : link (linked v a b e f m x y t) N b 8 ≡ y
    waits₁ = subst (λ (l : List ℕ). link l N b 8 ≡ y) is_linked (read t₇ N b 8 y hb b_in w_b)

-- ---- where a walk ends

pub upper : (q : Walk) (v n : ℕ) → v ≤ n → ending q v n ≤ n + size q
unfolding ending size
upper begin v n h = omega arith
upper (step p) v n h = upper p v n h
upper (fork p a b) v n h = omega arith

-- at v, or at a node made since
pub new : (q : Walk) (v n : ℕ) → v ≤ n → (v ≤ ending q v n) × (ending q v n ≤ n → ending q v n ≡ v)
unfolding ending size
new begin v n h = (omega arith, λ k. refl)
new (step p) v n h = new p v n h
new (fork p a b) v n h = (omega arith, λ k. absurd (omega (arith, k)))

apart : (q : Walk) (v n u : ℕ) → v ≤ n → u ≤ n → u ≢ v → u ≢ ending q v n
apart q v n u h k d e = d (e ∙ (new q v n h).1 (omega (arith, e, k)))

-- ---- the nodes of a qif with n nodes made

module _ (a b : Walk) (n : ℕ) where
  abbrev e : ℕ
  e = ending a (n + 1) (n + 2)

  abbrev f : ℕ
  f = ending b (n + 2) (n + 2 + size a)

  pub e_low : n + 1 ≤ ending a (n + 1) (n + 2)
  e_low = (new a (n + 1) (n + 2) (omega arith)).0

  pub e_high : ending a (n + 1) (n + 2) ≤ n + 2 + size a
  e_high = upper a (n + 1) (n + 2) (omega arith)

  pub e_off : ending a (n + 1) (n + 2) ≢ n + 2
  e_off q = let z = (new a (n + 1) (n + 2) (omega arith)).1 (omega (arith, q)) in omega (arith, q, z)

  pub f_low : n + 2 ≤ ending b (n + 2) (n + 2 + size a)
  f_low = (new b (n + 2) (n + 2 + size a) (omega arith)).0

  pub f_high : ending b (n + 2) (n + 2 + size a) ≤ n + 2 + size a + size b
  f_high = upper b (n + 2) (n + 2 + size a) (omega arith)

  -- at the start of branch 1, or past all nodes of branch 0
  pub f_off : (u : ℕ) → u ≤ n + 2 + size a → u ≢ n + 2 → u ≢ ending b (n + 2) (n + 2 + size a)
  f_off u h d = apart b (n + 2) (n + 2 + size a) u (omega arith) h d

-- ---- a walk from v leaves every other node up to n

pub keeps : (q : Walk) (v n : ℕ) (t : List ℕ) (u i : ℕ) → 1 ≤ v → v ≤ n → 1 ≤ u → u ≤ n → u ≢ v → i < 9 → word (drawn q v n t) u i ≡ word t u i
unfolding drawn
keeps begin v n t u i hv hn hu h d k = refl
keeps (step p) v n t u i hv hn hu h d k = keeps p v n t u i hv hn hu h d k
keeps (fork p a b) v n t u i hv hn hu h d k =
    let m = n + size p in
    stays (ending p v n) (m + 1) (m + 2) (ending a (m + 1) (m + 2)) (ending b (m + 2) (m + 2 + size a)) (m + fork_size a b) (lack a b) (lack b a) _
    (omega (arith, hv, (new p v n hn).0)) (omega arith) (omega arith) (omega (arith, e_low a b m)) (omega (arith, f_low a b m)) (omega arith) u i
    (record {
      node = hu;
      field = k;
      at_v = λ z. absurd (apart p v n u hn h d z);
      at_a = λ z. absurd (omega (arith, z, h));
      at_b = λ z. absurd (omega (arith, z, h));
      at_e = λ z. absurd (omega (arith, z, h, e_low a b m));
      at_f = λ z. absurd (omega (arith, z, h, f_low a b m));
      at_m = λ z. absurd (omega (arith, z, h));
    })
    ∙ (keeps b (m + 2) (m + 2 + size a) _ u i (omega arith) (omega arith) hu (omega (arith, h)) (omega (arith, h)) k
    ∙ (keeps a (m + 1) (m + 2) _ u i (omega arith) (omega arith) hu (omega (arith, h)) (omega (arith, h)) k
    ∙ keeps p v n t u i hv hn hu h d k))

-- ---- the words of a node that is reached and not yet left, fc lc cl nx, are open

pub is_open : ℕ → Bool
is_open i = pick (eqb i 4) false (pick (eqb i 7) false (pick (eqb i 8) false true))

not_closed : (i : ℕ) → is_open i ≡ true → (i ≢ 4) × (i ≢ 7) × (i ≢ 8)
unfolding is_open
not_closed i h = (
  λ q. false≢true (sym (ap (λ (j : ℕ). is_open j) q) ∙ h),
  λ q. false≢true (sym (ap (λ (j : ℕ). is_open j) q) ∙ h),
  λ q. false≢true (sym (ap (λ (j : ℕ). is_open j) q) ∙ h),
)

not_open : (i : ℕ) → is_open i ≡ false → (i ≢ 0) × (i ≢ 1) × (i ≢ 2) × (i ≢ 3) × (i ≢ 6) × (i ≢ 5)
unfolding is_open
not_open i h = (
  λ q. false≢true (sym h ∙ ap (λ (j : ℕ). is_open j) q),
  λ q. false≢true (sym h ∙ ap (λ (j : ℕ). is_open j) q),
  λ q. false≢true (sym h ∙ ap (λ (j : ℕ). is_open j) q),
  λ q. false≢true (sym h ∙ ap (λ (j : ℕ). is_open j) q),
  λ q. false≢true (sym h ∙ ap (λ (j : ℕ). is_open j) q),
  λ q. false≢true (sym h ∙ ap (λ (j : ℕ). is_open j) q),
)

-- ---- a table that agrees on the words of a walk holds its links too

pub record Agrees (T T' : List ℕ) (q : Walk) (v n : ℕ) : Type 0 where
  pub start : (i : ℕ) → i < 9 → is_open i ≡ true → v ≢ ending q v n → word T v i ≡ word T' v i
  pub made : (u i : ℕ) → n < u → u ≤ n + size q → i < 9 → (u ≡ ending q v n → is_open i ≡ false) → word T u i ≡ word T' u i

module _ (T T' : List ℕ) (N : ℕ) where
  link_agrees : (u i z : ℕ) → word T u i ≡ word T' u i → link T N u i ≡ z → link T' N u i ≡ z
  unfolding link
  link_agrees u i z e h = ap (λ (x : ℕ). pick (is_node N u) x 0) (sym e) ∙ h

  paired_agrees : (v f u g : ℕ) → word T v f ≡ word T' v f → word T u g ≡ word T' u g → paired T N v f u g ≡ true → paired T' N v f u g ≡ true
  unfolding paired link
  paired_agrees v f u g p q h =
      subst (λ (x : ℕ). (is_node N v && (is_node N u && (eqb (pick (is_node N v) x 0) u && eqb (pick (is_node N u) (word T' u g) 0) v))) ≡ true) p
      (subst (λ (x : ℕ). (is_node N v && (is_node N u && (eqb (pick (is_node N v) (word T v f) 0) u && eqb (pick (is_node N u) x 0) v))) ≡ true) q h)

  pub stable : (q : Walk) (v n : ℕ) → v ≤ n → Agrees T T' q v n → Holds T N q v n → Holds T' N q v n
  unfolding ending size is_open
  stable begin v n hn g h = tt
  stable (step p) v n hn g h = stable p v n hn (record { start = g.start; made = g.made }) h
  stable (fork p a b) v n hn g h =
      let m = n + size p in
      let end : (i : ℕ) → i < 9 → is_open i ≡ true → word T (ending p v n) i ≡ word T' (ending p v n) i = λ i k o. at_end i k o (dec_le (ending p v n) n) in (
        stable p v n hn (record {
          start = λ i k o d. g.start i k o (omega (arith, hn));
          made = λ u i k l j d. g.made u i k (omega (arith, l)) j (λ z. absurd (omega (arith, z, l)));
        }) h.0,
        record {
          first₀ = paired_agrees (ending p v n) 0 (m + 1) 4 (end 0 (omega arith) refl) (new_word (m + 1) 4 (omega arith) (omega arith) (omega arith)) h.1.first₀;
          first₁ = paired_agrees (ending p v n) 1 (m + 2) 4 (end 1 (omega arith) refl) (new_word (m + 2) 4 (omega arith) (omega arith) (omega arith)) h.1.first₁;
          wait₀ = link_agrees (m + 1) 8 (lack a b) (new_word (m + 1) 8 (omega arith) (omega arith) (omega arith)) h.1.wait₀;
          wait₁ = link_agrees (m + 2) 8 (lack b a) (new_word (m + 2) 8 (omega arith) (omega arith) (omega arith)) h.1.wait₁;
          last₀ = paired_agrees (ending p v n) 2 (ending a (m + 1) (m + 2)) 5 (end 2 (omega arith) refl) (new_word (ending a (m + 1) (m + 2)) 5 (omega (arith, e_low a b m)) (omega (arith, e_high a b m)) (omega arith)) h.1.last₀;
          last₁ = paired_agrees (ending p v n) 3 (ending b (m + 2) (m + 2 + size a)) 5 (end 3 (omega arith) refl) (new_word (ending b (m + 2) (m + 2 + size a)) 5 (omega (arith, f_low a b m)) (omega (arith, f_high a b m)) (omega arith)) h.1.last₁;
          next = paired_agrees (ending p v n) 6 (m + fork_size a b) 7 (end 6 (omega arith) refl) (g.made (m + fork_size a b) 7 (omega arith) (omega arith) (omega arith) (λ z. refl)) h.1.next;
        },
        stable a (m + 1) (m + 2) (omega arith) (record {
          start = λ i k o d. new_word (m + 1) i (omega arith) (omega arith) k;
          made = λ u i k l j d. new_word u i (omega (arith, k)) (omega (arith, l)) j;
        }) h.2,
        stable b (m + 2) (m + 2 + size a) (omega arith) (record {
          start = λ i k o d. new_word (m + 2) i (omega arith) (omega arith) k;
          made = λ u i k l j d. new_word u i (omega (arith, k)) (omega (arith, l)) j;
        }) h.3,
      )
    where
      -- any word of a node made since, except the last
      new_word : (u i : ℕ) → n < u → u < n + size p + fork_size a b → i < 9 → word T u i ≡ word T' u i
      new_word u i k l j = g.made u i k (omega (arith, l)) j (λ z. absurd (omega (arith, z, l)))

      at_end : (i : ℕ) → i < 9 → is_open i ≡ true → Dec (ending p v n ≤ n) → word T (ending p v n) i ≡ word T' (ending p v n) i
      at_end i k o (yes r) = subst (λ (u : ℕ). word T u i ≡ word T' u i) (sym ((new p v n hn).1 r)) (g.start i k o (omega (arith, hn)))
      at_end i k o (no r) = new_word (ending p v n) i (omega (arith, r)) (omega (arith, upper p v n hn)) k

-- ---- the table drawn

pub drawn_long : (q : Walk) (v n : ℕ) (t : List ℕ) → length (drawn q v n t) ≡ length t
unfolding drawn
drawn_long begin v n t = refl
drawn_long (step p) v n t = drawn_long p v n t
drawn_long (fork p a b) v n t =
    linked_long (ending p v n) _ _ _ _ _ _ _ _
    ∙ (drawn_long b (n + size p + 2) (n + size p + 2 + size a) _ ∙ (drawn_long a (n + size p + 1) (n + size p + 2) _ ∙ drawn_long p v n t))

pub drawn_holds : (q : Walk) (v n N : ℕ) (t : List ℕ) → 1 ≤ v → v ≤ n → n + size q ≤ N → 9 * N ≤ length t → Holds (drawn q v n t) N q v n
unfolding drawn size is_open
drawn_holds begin v n N t hv hn r l = tt
drawn_holds (step p) v n N t hv hn r l = drawn_holds p v n N t hv hn r l
drawn_holds (fork p a b) v n N t hv hn r l = (
  stable T₀ T₃ N p v n hn (record {
    start = λ i k o d. from₀ v i hv (omega (arith, hn)) k (λ z. absurd (d z));
    made = λ u i k j x d. from₀ u i (omega (arith, k)) (omega (arith, j)) x (λ z. five i (not_open i (d z)));
  }) (drawn_holds p v n N t hv hn (omega (arith, r)) l),
  record {
    first₀ = there₀ v₁ (m + 1) (m + 2) e₁ f₁ z₁ (lack a b) (lack b a) T₂ v_low a_low b_low e_low₁ f_low₁ z_low N l₂ v_in a_in b_in e_in f_in z_in ab ef;
    first₁ = there₁ v₁ (m + 1) (m + 2) e₁ f₁ z₁ (lack a b) (lack b a) T₂ v_low a_low b_low e_low₁ f_low₁ z_low N l₂ v_in a_in b_in e_in f_in z_in ab ef;
    wait₀ = waits₀ v₁ (m + 1) (m + 2) e₁ f₁ z₁ (lack a b) (lack b a) T₂ v_low a_low b_low e_low₁ f_low₁ z_low N l₂ v_in a_in b_in e_in f_in z_in ab ef;
    wait₁ = waits₁ v₁ (m + 1) (m + 2) e₁ f₁ z₁ (lack a b) (lack b a) T₂ v_low a_low b_low e_low₁ f_low₁ z_low N l₂ v_in a_in b_in e_in f_in z_in ab ef;
    last₀ = ends₀ v₁ (m + 1) (m + 2) e₁ f₁ z₁ (lack a b) (lack b a) T₂ v_low a_low b_low e_low₁ f_low₁ z_low N l₂ v_in a_in b_in e_in f_in z_in ab ef;
    last₁ = ends₁ v₁ (m + 1) (m + 2) e₁ f₁ z₁ (lack a b) (lack b a) T₂ v_low a_low b_low e_low₁ f_low₁ z_low N l₂ v_in a_in b_in e_in f_in z_in ab ef;
    next = goes_on v₁ (m + 1) (m + 2) e₁ f₁ z₁ (lack a b) (lack b a) T₂ v_low a_low b_low e_low₁ f_low₁ z_low N l₂ v_in a_in b_in e_in f_in z_in ab ef;
  },
  stable T₁ T₃ N a (m + 1) (m + 2) (omega arith) (record {
    start = λ i k o d. from₁ (m + 1) i (omega arith) (omega arith) (omega arith) k (λ z. ((not_closed i o).0, (not_closed i o).2)) (λ z. absurd (d z));
    made = λ u i k j x d. from₁ u i (omega (arith, k)) j (omega (arith, k)) x (λ z. absurd (omega (arith, z, k))) (λ z. (not_open i (d z)).5);
  }) (drawn_holds a (m + 1) (m + 2) N T₀ (omega arith) (omega arith) (omega (arith, r)) l₀),
  stable T₂ T₃ N b (m + 2) (m + 2 + size a) (omega arith) (record {
    start = λ i k o d. from₂ (m + 2) i (omega arith) (omega arith) k (λ z. ((not_closed i o).0, (not_closed i o).2)) (λ z. absurd (e_off a b m (sym z))) (λ z. absurd (d z));
    made = λ u i k j x d. from₂ u i (omega (arith, k)) j x (λ z. absurd (omega (arith, z, k))) (λ z. absurd (omega (arith, z, k, e_high a b m))) (λ z. (not_open i (d z)).5);
  }) (drawn_holds b (m + 2) (m + 2 + size a) N T₁ (omega arith) (omega arith) (omega (arith, r)) l₁),
)
  where
    m : ℕ
    m = n + size p

    v₁ : ℕ
    v₁ = ending p v n

    e₁ : ℕ
    e₁ = ending a (m + 1) (m + 2)

    f₁ : ℕ
    f₁ = ending b (m + 2) (m + 2 + size a)

    z₁ : ℕ
    z₁ = m + fork_size a b

    T₀ : List ℕ
    T₀ = drawn p v n t

    T₁ : List ℕ
    T₁ = drawn a (m + 1) (m + 2) T₀

    T₂ : List ℕ
    T₂ = drawn b (m + 2) (m + 2 + size a) T₁

    T₃ : List ℕ
    T₃ = linked v₁ (m + 1) (m + 2) e₁ f₁ z₁ (lack a b) (lack b a) T₂

    v_low : 1 ≤ v₁
    v_low = omega (arith, hv, (new p v n hn).0)

    v_up : v₁ ≤ m
    v_up = upper p v n hn

    a_low : 1 ≤ m + 1
    a_low = omega arith

    b_low : 1 ≤ m + 2
    b_low = omega arith

    e_low₁ : 1 ≤ e₁
    e_low₁ = omega (arith, e_low a b m)

    f_low₁ : 1 ≤ f₁
    f_low₁ = omega (arith, f_low a b m)

    z_low : 1 ≤ z₁
    z_low = omega arith

    v_in : v₁ ≤ N
    v_in = omega (arith, v_up, r)

    a_in : m + 1 ≤ N
    a_in = omega (arith, r)

    b_in : m + 2 ≤ N
    b_in = omega (arith, r)

    e_in : e₁ ≤ N
    e_in = omega (arith, e_high a b m, r)

    f_in : f₁ ≤ N
    f_in = omega (arith, f_high a b m, r)

    z_in : z₁ ≤ N
    z_in = omega (arith, r)

    ab : m + 1 ≢ m + 2
    ab = omega arith

    ef : e₁ ≢ f₁
    ef = f_off a b m e₁ (e_high a b m) (e_off a b m)

    l₀ : 9 * N ≤ length T₀
    l₀ = omega (arith, l, drawn_long p v n t)

    l₁ : 9 * N ≤ length T₁
    l₁ = omega (arith, l₀, drawn_long a (m + 1) (m + 2) T₀)

    l₂ : 9 * N ≤ length T₂
    l₂ = omega (arith, l₁, drawn_long b (m + 2) (m + 2 + size a) T₁)

    five : (i : ℕ) → (i ≢ 0) × (i ≢ 1) × (i ≢ 2) × (i ≢ 3) × (i ≢ 6) × (i ≢ 5) → (i ≢ 0) × (i ≢ 1) × (i ≢ 2) × (i ≢ 3) × (i ≢ 6)
    five i h = (h.0, h.1, h.2, h.3, h.4)

    -- what the links themselves leave
    linked_off : (u i : ℕ) → 1 ≤ u → i < 9
        → (u ≡ v₁ → (i ≢ 0) × (i ≢ 1) × (i ≢ 2) × (i ≢ 3) × (i ≢ 6)) → (u ≡ m + 1 → (i ≢ 4) × (i ≢ 8)) → (u ≡ m + 2 → (i ≢ 4) × (i ≢ 8))
        → (u ≡ e₁ → i ≢ 5) → (u ≡ f₁ → i ≢ 5) → (u ≡ z₁ → i ≢ 7) → word T₃ u i ≡ word T₂ u i
    linked_off u i h k p₁ p₂ p₃ p₄ p₅ p₆ =
        stays v₁ (m + 1) (m + 2) e₁ f₁ z₁ (lack a b) (lack b a) T₂ v_low a_low b_low e_low₁ f_low₁ z_low u i
        (record { node = h; field = k; at_v = p₁; at_a = p₂; at_b = p₃; at_e = p₄; at_f = p₅; at_m = p₆ })

    -- nodes up to m
    from₀ : (u i : ℕ) → 1 ≤ u → u ≤ m → i < 9 → (u ≡ v₁ → (i ≢ 0) × (i ≢ 1) × (i ≢ 2) × (i ≢ 3) × (i ≢ 6)) → word T₀ u i ≡ word T₃ u i
    from₀ u i h j k d =
        sym (linked_off u i h k d (λ z. absurd (omega (arith, z, j))) (λ z. absurd (omega (arith, z, j))) (λ z. absurd (omega (arith, z, j, e_low a b m))) (λ z. absurd (omega (arith, z, j, f_low a b m))) (λ z. absurd (omega (arith, z, j)))
        ∙ (keeps b (m + 2) (m + 2 + size a) T₁ u i (omega arith) (omega arith) h (omega (arith, j)) (omega (arith, j)) k
        ∙ keeps a (m + 1) (m + 2) T₀ u i (omega arith) (omega arith) h (omega (arith, j)) (omega (arith, j)) k))

    -- nodes of branch 0
    from₁ : (u i : ℕ) → m < u → u ≤ m + 2 + size a → u ≢ m + 2 → i < 9 → (u ≡ m + 1 → (i ≢ 4) × (i ≢ 8)) → (u ≡ e₁ → i ≢ 5) → word T₁ u i ≡ word T₃ u i
    from₁ u i h j o k d g =
        sym (linked_off u i (omega (arith, h)) k (λ z. absurd (omega (arith, z, h, v_up))) d (λ z. absurd (o z)) g (λ z. absurd (f_off a b m u j o z)) (λ z. absurd (omega (arith, z, j)))
        ∙ keeps b (m + 2) (m + 2 + size a) T₁ u i (omega arith) (omega arith) (omega (arith, h)) j o k)

    -- nodes of branch 1
    from₂ : (u i : ℕ) → m + 1 < u → u ≤ m + 2 + size a + size b → i < 9 → (u ≡ m + 2 → (i ≢ 4) × (i ≢ 8)) → (u ≡ e₁ → i ≢ 5) → (u ≡ f₁ → i ≢ 5) → word T₂ u i ≡ word T₃ u i
    from₂ u i h j k d x y =
        sym (linked_off u i (omega (arith, h)) k (λ z. absurd (omega (arith, z, h, v_up))) (λ z. absurd (omega (arith, z, h))) d x y (λ z. absurd (omega (arith, z, j))))
