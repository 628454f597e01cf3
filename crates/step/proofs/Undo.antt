-- An operation that is done is undone by the same operation the other way. Assumes nothing.
use mathlib.Core.Path.{◌≡◌, refl, sym, ap, ap₂, ◌∙◌, subst}
use mathlib.Core.Logic.{◌≢◌}
use mathlib.Core.Bool.{Bool, true, false, not, ◌&&◌}
use mathlib.Core.List.{List, [], ◌∷◌}
use Prim.Native.Nat.{ℕ, zero, suc, ◌+◌, ◌-◌, ◌^◌, ◌<◌, ◌≤◌}
use native.Mathlib.Omega.{arith}
use lib.Dec.{eqb, ltb}
use lib.ListN.{length, get_or, set, length-set}
use lib.Seq.{get_or-set_same, get_or-set_other, set-get_or, set-set, set_comm}
use lib.Bits.{bit_xor, xor_lt}
use borrow.Author.Tests.{ltb-true, ltb-false, eqb-true, eqb-false, lt-ltb, le-ltb, ne_eqb}
use Rattle.word.specs.Word.{pick, sub_word, with_bit, is_less}
use Rattle.word.proofs.Words.{xor_again, add_sub, sub_add, neg_neg, bit_back, bit_word, add_word_lem, sub_word_lem, mul_word_lem, div_word_lem, pick_word, and_true, not_not}
use Rattle.qins.specs.Op.{Op, Source}
use Rattle.qins.specs.Op.Op.{None, Start, Finish, Xor, Add, Sub, Neg, Swap, SwapBits, Fetch, Exchange, Qif, Fiq}
use Rattle.qins.specs.Op.Source.{Imm, Reg, Negated, Complement, Sum, Product, Quotient, Equal, Less, IfZero, IfNonzero, Bit}
use Rattle.qins.proofs.Formed.{Named, Apart, Formed}
use Rattle.step.specs.View.{View, Words, Bounds, reg, flip}
use Rattle.step.specs.Table.{lc, cf, cl, nx, pr, w, is_node, link, paired}
use Rattle.word.specs.Refusal.{refuse}
use Rattle.step.specs.Step.{performed, value, shifted, is_ready, when_ready, is_allowed, is_coin, child, enter, qif, pass, fiq, attempt}
use Rattle.step.specs.declared.Status.{Status}
use Rattle.step.specs.declared.Direction.{Direction}
use Rattle.step.specs.declared.Direction.TheVariants.{Forward, Back}
use Rattle.step.specs.declared.Access.{Access}
use Rattle.step.specs.declared.Effect.{Effect}
use Rattle.step.specs.declared.Effect.TheVariants.{Nothing, Write, WriteTwo, SwapWord, SetNode}
use Rattle.step.specs.Step.{Attempt}
use Rattle.std.specs.Prelude.{Err, Ok}
use Rattle.word.specs.declared.refusals.Refusal.{Refusal}
use Rattle.word.specs.declared.refusals.Refusal.TheVariants.{Waiting, Address, Coin, Node}
use Rattle.step.proofs.Addresses.{allowed_within}

-- an effect that spares pc and the code, writes words, and stores within the memory
abbrev pub Fair : Effect → Status → Type 0
Fair Nothing at = Unit {0}
Fair (Write a v) at = (0 < a) × (v < 2 ^ 32)
Fair (WriteTwo a v b x) at = (0 < a) × (v < 2 ^ 32) × (0 < b) × (x < 2 ^ 32)
Fair (SwapWord a i) at = (0 < a) × (at.k ≤ i) × (i < at.m)
Fair (SetNode u j) at = Unit {0}

-- the effect that the operation has the other way, after e, and that it leads home
pub record Undone (t : List ℕ) (d : Direction) (o : Op) (s : View) (e : Effect) : Type 0 where
  pub by : Effect
  pub does : attempt t (flip d) o (performed e s) ≡ Ok by
  pub home : performed by (performed e s) ≡ s
  pub fair : Fair e s.at

-- ---- what a test that was passed says

pub refused_no : {n : Refusal} {e : Effect} → ◌≡◌ {A = Attempt} (Err n) (Ok e) → ⊥
refused_no h = let z : ◌≡◌ {A = ℕ} 0 1 = cc in omega arith

pub inside : {e f : Effect} → ◌≡◌ {A = Attempt} (Ok e) (Ok f) → e ≡ f
inside h = cc

pub passed : (b : Bool) (n : Refusal) (x : Attempt) {e : Effect} → refuse b (Err n) x ≡ Ok e → (b ≡ false) × (x ≡ Ok e)
unfolding refuse
passed true n x h = absurd (refused_no h)
passed false n x h = (refl, h)

-- ---- lists

pub set_back : (l : List ℕ) (a v x : ℕ) → x ≡ get_or l a 0 → set (set l a v) a x ≡ l
set_back l a v x e = set-set l a v x ∙ rw e (set-get_or l a 0)

pub words_set : (l : List ℕ) (a v : ℕ) → v < 2 ^ 32 → Words l → Words (set l a v)
words_set [] a v h f j = f j
words_set (x ∷ l) zero v h f zero = h
words_set (x ∷ l) zero v h f (suc j) = f (suc j)
words_set (x ∷ l) (suc a) v h f zero = f zero
words_set (x ∷ l) (suc a) v h f (suc j) = words_set l a v h (λ k. f (suc k)) j

-- ---- operands

-- the same where a register that the source does not read was set
module _ (l : List ℕ) (a x : ℕ) where
  other : (b : ℕ) → b ≢ a → get_or (set l a x) b 0 ≡ get_or l b 0
  other b h = get_or-set_other l a b x 0 h

  apart : (v : Source) → Apart a v → value v (set l a x) ≡ value v l
  unfolding value
  apart (Imm i) h = refl
  apart (Reg b) h = other b h
  apart (Negated b) h = rw (other b h)
  apart (Complement b) h = rw (other b h)
  apart (Sum b c) h = rw (other b h.0, other c h.1)
  apart (Product b c) h = rw (other b h.0, other c h.1)
  apart (Quotient b c) h = rw (other b h.0, other c h.1)
  apart (Equal b c) h = rw (other b h.0, other c h.1)
  apart (Less b c) h = rw (other b h.0, other c h.1)
  apart (IfZero b i) h = rw (other b h.0)
  apart (IfNonzero b i) h = rw (other b h.0)
  apart (Bit b) h = rw (other b h)

value_word : (v : Source) (l : List ℕ) (a : ℕ) → Apart a v → Words l → value v l < 2 ^ 32
unfolding value
value_word (Imm i) l a h f = h
value_word (Reg b) l a h f = f b
value_word (Negated b) l a h f = sub_word_lem 0 (get_or l b 0)
value_word (Complement b) l a h f = omega arith
value_word (Sum b c) l a h f = add_word_lem (get_or l b 0) (get_or l c 0)
value_word (Product b c) l a h f = mul_word_lem (get_or l b 0) (get_or l c 0)
value_word (Quotient b c) l a h f = div_word_lem (get_or l b 0) (get_or l c 0) (f b)
value_word (Equal b c) l a h f = pick_word (eqb (get_or l b 0) (get_or l c 0)) 1 0 (omega arith) (omega arith)
value_word (Less b c) l a h f = pick_word (is_less (get_or l b 0) (get_or l c 0)) 1 0 (omega arith) (omega arith)
value_word (IfZero b i) l a h f = pick_word (eqb (get_or l b 0) 0) i 0 h.1 (omega arith)
value_word (IfNonzero b i) l a h f = pick_word (eqb (get_or l b 0) 0) 0 i (omega arith) h.1
value_word (Bit b) l a h f = omega arith

pub shifted_word : (d : Direction) (x v : ℕ) → shifted d x v < 2 ^ 32
shifted_word Forward x v = add_word_lem x v
shifted_word Back x v = sub_word_lem x v

pub shifted_back : (d : Direction) (x v : ℕ) → x < 2 ^ 32 → v < 2 ^ 32 → shifted (flip d) (shifted d x v) v ≡ x
shifted_back Forward x v hx hv = add_sub x v hx hv
shifted_back Back x v hx hv = sub_add x v hx hv

-- ---- links

record Pair (t : List ℕ) (n v f u g : ℕ) : Type 0 where
  there : link t n v f ≡ u
  home : link t n u g ≡ v

pair : (t : List ℕ) (n v f u g : ℕ) → paired t n v f u g ≡ true → Pair t n v f u g
unfolding paired
pair t n v f u g h =
    let p = and_true (is_node n v) _ h in
    let q = and_true (is_node n u) _ p.1 in
    let s = and_true (eqb (link t n v f) u) (eqb (link t n u g) v) q.1 in
    record { there = eqb-true _ _ s.0; home = eqb-true _ _ s.1 }

module _ (t : List ℕ) (s : View) (g : Bounds s) (room : s.at.m ≤ length s.memory) where
  abbrev at : Status
  at = s.at

  -- ---- one register, two registers

  in_regs : (a : ℕ) → a < 16 → a < length s.regs
  in_regs a h = rw g.sixteen h

  read : (a v : ℕ) → a < 16 → get_or (set s.regs a v) a 0 ≡ v
  read a v h = get_or-set_same s.regs a v 0 (in_regs a h)

  was_ready : (x : Attempt) {e : Effect} → when_ready at x ≡ Ok e → (not (is_ready at) ≡ false) × (x ≡ Ok e)
  was_ready x h = passed (not (is_ready at)) Waiting x h

  -- a register changed by f, and changed back by f'
  change : (d : Direction) (o : Op) (a : ℕ) (f f' : ℕ → ℕ) → Named a → f (reg s a) < 2 ^ 32 → f' (f (reg s a)) ≡ reg s a
      → attempt t (flip d) o (performed (Write a (f (reg s a))) s) ≡ Ok (Write a (f' (get_or (set s.regs a (f (reg s a))) a 0)))
      → {e : Effect} → ◌≡◌ {A = Attempt} (Ok (Write a (f (reg s a)))) (Ok e) → Undone t d o s e
  change d o a f f' n word law does p =
      subst (Undone t d o s) (inside p)
      (record {
        by = Write a (f' (get_or (set s.regs a (f (reg s a))) a 0));
        does = does;
        home = rw (set_back s.regs a (f (reg s a)) _ (ap f' (read a _ n.1) ∙ law));
        fair = (n.0, word);
      })

  reads : (a b v x : ℕ) → a < 16 → b < 16 → b ≢ a
      → (get_or (set (set s.regs a v) b x) a 0 ≡ v) × (get_or (set (set s.regs a v) b x) b 0 ≡ x)
  reads a b v x ha hb ne = (
    get_or-set_other (set s.regs a v) b a x 0 (λ e. ne (sym e)) ∙ read a v ha,
    get_or-set_same (set s.regs a v) b x 0 (rw length-set (in_regs b hb)),
  )

  both_back : (a b v x v' x' : ℕ) → b ≢ a → v' ≡ reg s a → x' ≡ reg s b
      → set (set (set (set s.regs a v) b x) a v') b x' ≡ s.regs
  both_back a b v x v' x' ne p q =
      ap (λ (l : List ℕ). set l b x')
      (set_comm (set s.regs a v) b a x v' ne ∙ ap (λ (l : List ℕ). set l b x) (set_back s.regs a v v' p))
      ∙ set_back s.regs b x x' q

  -- two registers changed by f, and changed back by it
  change_two : (d : Direction) (o : Op) (a b : ℕ) (f : ℕ → ℕ → ℕ) → Formed (Swap a b)
      → ((x y : ℕ) → x < 2 ^ 32 → y < 2 ^ 32 → f x y < 2 ^ 32) → ((x y : ℕ) → f (f x y) (f y x) ≡ x)
      → ((l : List ℕ) → attempt t (flip d) o (record { at = at; regs = l; memory = s.memory })
      ≡ Ok (WriteTwo a (f (get_or l a 0) (get_or l b 0)) b (f (get_or l b 0) (get_or l a 0))))
      → {e : Effect} → ◌≡◌ {A = Attempt} (Ok (WriteTwo a (f (reg s a) (reg s b)) b (f (reg s b) (reg s a)))) (Ok e) → Undone t d o s e
  change_two d o a b f n word law does p =
      let x = reg s a in
      let y = reg s b in
      let l = set (set s.regs a (f x y)) b (f y x) in
      let q = reads a b (f x y) (f y x) n.0.1 n.1.1 n.2 in
      subst (Undone t d o s) (inside p)
      (record {
        by = WriteTwo a (f (get_or l a 0) (get_or l b 0)) b (f (get_or l b 0) (get_or l a 0));
        does = does l;
        home = rw (both_back a b (f x y) (f y x) _ _ n.2 (ap₂ f q.0 q.1 ∙ law x y) (ap₂ f q.1 q.0 ∙ law y x));
        fair = (n.0.0, word x y (g.regs a) (g.regs b), n.1.0, word y x (g.regs b) (g.regs a));
      })

  -- ---- qif and fiq set the node and the wait count

  visit : (d : Direction) (o : Op) (u j v i : ℕ) → attempt t (flip d) o (performed (SetNode u j) s) ≡ Ok (SetNode v i) → v ≡ at.qifv → i ≡ at.qifw
      → {e : Effect} → ◌≡◌ {A = Attempt} (Ok (SetNode u j)) (Ok e) → Undone t d o s e
  visit d o u j v i does p q h =
      subst (Undone t d o s) (inside h) (record { by = SetNode v i; does = does; home = rw (p, q); fair = tt })

  qif_forward : (a : ℕ) → not (is_coin (reg s a)) ≡ false → {e : Effect} → qif t Forward at (reg s a) ≡ Ok e → Undone t Forward (Qif a) s e
  unfolding refuse attempt qif child enter
  qif_forward a coin {e} h = go (eqb at.qifw 0) refl h
    where
      x : ℕ
      x = reg s a

      u : ℕ
      u = link t at.n at.qifv x

      v : ℕ
      v = link t at.n at.qifv cf

      most : ℕ
      most = link t at.n at.qifv w

      go : (b : Bool) → eqb at.qifw 0 ≡ b
          → pick b (enter t at x u) (child t at x v (Ok (SetNode at.qifv (at.qifw - 1)))) ≡ Ok e → Undone t Forward (Qif a) s e
      go true z h =
          let p = passed (not (paired t at.n at.qifv x u cf)) Node _ h in
          let home = (pair t at.n at.qifv x u cf (not_not _ p.0)).home in
          let j = link t at.n u w in
          visit Forward (Qif a) u j at.qifv 0 (rw (coin, home, p.0, le-ltb j j (omega arith))) refl (sym (eqb-true _ _ z)) p.1
      go false z h =
          let p = passed (not (paired t at.n v x at.qifv cf)) Node _ h in
          let q = passed (ltb most at.qifw) Waiting _ p.1 in
          let l = ltb-false most at.qifw q.0 in
          let some = eqb-false at.qifw 0 z in
          visit Forward (Qif a) at.qifv (at.qifw - 1) at.qifv (at.qifw - 1 + 1)
          (rw (coin, p.0, le-ltb most (at.qifw - 1) (omega arith), lt-ltb (at.qifw - 1) most (omega arith))) refl (omega arith) q.1

  qif_back : (a : ℕ) → not (is_coin (reg s a)) ≡ false → {e : Effect} → qif t Back at (reg s a) ≡ Ok e → Undone t Back (Qif a) s e
  unfolding refuse attempt qif child enter
  qif_back a coin {e} h =
      let p = passed (not (paired t at.n v x at.qifv cf)) Node _ h in
      let q = passed (ltb most at.qifw) Waiting _ p.1 in
      go p.0 (ltb-false most at.qifw q.0) (ltb at.qifw most) refl q.1
    where
      x : ℕ
      x = reg s a

      v : ℕ
      v = link t at.n at.qifv cf

      most : ℕ
      most = link t at.n at.qifv w

      go : not (paired t at.n v x at.qifv cf) ≡ false → at.qifw ≤ most → (b : Bool) → ltb at.qifw most ≡ b
          → ◌≡◌ {A = Attempt} (Ok (pick b (SetNode at.qifv (at.qifw + 1)) (SetNode v 0))) (Ok e) → Undone t Back (Qif a) s e
      go linked l true z h =
          let less = ltb-true at.qifw most z in
          visit Back (Qif a) at.qifv (at.qifw + 1) at.qifv (at.qifw + 1 - 1)
          (rw (coin, ne_eqb (at.qifw + 1) 0 (omega arith), linked, le-ltb most (at.qifw + 1) (omega arith))) refl (omega arith) h
      go linked l false z h =
          let least = ltb-false at.qifw most z in
          let there = (pair t at.n v x at.qifv cf (not_not _ linked)).there in
          visit Back (Qif a) v 0 at.qifv most (rw (coin, there, linked)) refl (omega arith) h

  -- fiq: v is p's last child, u is next to p
  fiq_links : (p v u : ℕ) (x : ℕ) → not (paired t at.n p (lc x) v cl && paired t at.n p nx u pr) ≡ false
      → Pair t at.n p (lc x) v cl × Pair t at.n p nx u pr
  fiq_links p v u x h =
      let q = and_true (paired t at.n p (lc x) v cl) (paired t at.n p nx u pr) (not_not _ h) in
      (pair t at.n p (lc x) v cl q.0, pair t at.n p nx u pr q.1)

  fiq_undone : (d : Direction) (a : ℕ) → not (is_ready at) ≡ false → not (is_coin (reg s a)) ≡ false
      → {e : Effect} → fiq t d at (reg s a) ≡ Ok e → Undone t d (Fiq a) s e
  unfolding refuse attempt fiq pass
  fiq_undone Forward a ready coin h =
      let p = link t at.n at.qifv cl in
      let u = link t at.n p nx in
      let q = passed (not (paired t at.n p (lc (reg s a)) at.qifv cl && paired t at.n p nx u pr)) Node _ h in
      let l = fiq_links p at.qifv u (reg s a) q.0 in
      visit Forward (Fiq a) u at.qifw at.qifv at.qifw (rw (ready, coin, l.1.home, l.0.there, q.0)) refl refl q.1
  fiq_undone Back a ready coin h =
      let p = link t at.n at.qifv pr in
      let v = link t at.n p (lc (reg s a)) in
      let q = passed (not (paired t at.n p (lc (reg s a)) v cl && paired t at.n p nx at.qifv pr)) Node _ h in
      let l = fiq_links p v at.qifv (reg s a) q.0 in
      visit Back (Fiq a) v at.qifw at.qifv at.qifw (rw (ready, coin, l.0.home, l.1.there, q.0)) refl refl q.1

  qif_undone : (d : Direction) (a : ℕ) → not (is_coin (reg s a)) ≡ false → {e : Effect} → qif t d at (reg s a) ≡ Ok e → Undone t d (Qif a) s e
  qif_undone Forward a coin h = qif_forward a coin h
  qif_undone Back a coin h = qif_back a coin h

  nothing : (d : Direction) (o : Op) → attempt t (flip d) o s ≡ Ok Nothing → {e : Effect} → ◌≡◌ {A = Attempt} (Ok Nothing) (Ok e) → Undone t d o s e
  nothing d o does h = subst (Undone t d o s) (inside h) (record { by = Nothing; does = does; home = refl; fair = tt })

  -- ---- every operation, either way
  pub undone : (d : Direction) (o : Op) → Formed o → {e : Effect} → attempt t d o s ≡ Ok e → Undone t d o s e
  unfolding refuse attempt
  undone d None f h = absurd (refused_no h)
  undone d Start f h = let p = was_ready _ h in nothing d Start (rw p.0) p.1
  undone d Finish f h = let p = was_ready _ h in nothing d Finish (rw p.0) p.1
  undone d (Xor a v) f h =
      let p = was_ready _ h in
      let y = value v s.regs in
      change d (Xor a v) a (λ x. bit_xor x y) (λ x. bit_xor x y) f.0 (xor_lt 32 (reg s a) y (g.regs a) (value_word v s.regs a f.1 g.regs))
      (xor_again (reg s a) y) (rw (p.0, apart s.regs a (bit_xor (reg s a) y) v f.1)) p.1
  undone d (Add a v) f h =
      let p = was_ready _ h in
      let y = value v s.regs in
      change d (Add a v) a (λ x. shifted d x y) (λ x. shifted (flip d) x y) f.0 (shifted_word d (reg s a) y)
      (shifted_back d (reg s a) y (g.regs a) (value_word v s.regs a f.1 g.regs))
      (rw (p.0, apart s.regs a (shifted d (reg s a) y) v f.1)) p.1
  undone d (Sub a v) f h =
      let p = was_ready _ h in
      let y = value v s.regs in
      change d (Sub a v) a (λ x. shifted (flip d) x y) (λ x. shifted (flip (flip d)) x y) f.0 (shifted_word (flip d) (reg s a) y)
      (shifted_back (flip d) (reg s a) y (g.regs a) (value_word v s.regs a f.1 g.regs))
      (rw (p.0, apart s.regs a (shifted (flip d) (reg s a) y) v f.1)) p.1
  undone d (Neg a) f h =
      let p = was_ready _ h in
      change d (Neg a) a (λ x. sub_word 0 x) (λ x. sub_word 0 x) f (sub_word_lem 0 (reg s a)) (neg_neg (reg s a) (g.regs a)) (rw p.0) p.1
  undone d (Swap a b) f h =
      let p = was_ready _ h in
      change_two d (Swap a b) a b (λ x y. y) f (λ x y hx hy. hy) (λ x y. refl) (λ l. rw p.0) p.1
  undone d (SwapBits a b) f h =
      let p = was_ready _ h in
      change_two d (SwapBits a b) a b with_bit f (λ x y hx hy. bit_word x y hx) bit_back (λ l. rw p.0) p.1
  undone d (Fetch a b) f h =
      let p = was_ready _ h in
      let q = passed (not (is_allowed Access.Copy at (reg s b))) Address _ p.1 in
      let y = get_or s.memory (reg s b) 0 in
      change d (Fetch a b) a (λ x. bit_xor x y) (λ x. bit_xor x y) f.0 (xor_lt 32 (reg s a) y (g.regs a) (g.words (reg s b)))
      (xor_again (reg s a) y) (rw (p.0, get_or-set_other s.regs a b (bit_xor (reg s a) y) 0 f.1, q.0)) q.1
  undone d (Exchange a v) f h =
      let p = was_ready _ h in
      let i = value v s.regs in
      let q = passed (not (is_allowed Access.Exchange at i)) Address _ p.1 in
      let l = (allowed_within Access.Exchange at i).0 (not_not _ q.0) in
      subst (Undone t d (Exchange a v) s) (inside q.1)
      (record {
        by = SwapWord a i;
        does = rw (p.0, apart s.regs a (get_or s.memory i 0) v f.1, q.0);
        home =
            rw (
              set_back s.regs a (get_or s.memory i 0) _ (get_or-set_same s.memory i (reg s a) 0 (omega (arith, l.1))),
              set_back s.memory i (reg s a) _ (read a _ f.0.1),
            );
        fair = (f.0.0, l.0, l.1);
      })
  undone d (Qif a) f h = let p = passed (not (is_coin (reg s a))) Coin _ h in qif_undone d a p.0 p.1
  undone d (Fiq a) f h =
      let p = was_ready _ h in
      let q = passed (not (is_coin (reg s a))) Coin _ p.1 in
      fiq_undone d a p.0 q.0 q.1
