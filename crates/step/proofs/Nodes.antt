-- What is done to node and wait count: by qif and fiq alone, and by the effect that they have. Assumes nothing.
use mathlib.Core.Path.{◌≡◌, refl}
use mathlib.Core.Bool.{Bool, true, false, not, ◌&&◌, true≢false}
use mathlib.Core.Logic.{◌⊎◌, inl, inr}
use mathlib.Core.List.{List}
use Prim.Native.Nat.{ℕ, ◌-◌, ◌≤◌}
use lib.Dec.{eqb}
use borrow.Author.Tests.{le-ltb, le-leb}
use Rattle.word.specs.Refusal.{refuse}
use Rattle.qins.specs.Op.{Op}
use Rattle.qins.specs.Op.Op.{None, Start, Finish, Xor, Add, Sub, Neg, Swap, SwapBits, Fetch, Exchange, Qif, Fiq}
use Rattle.step.specs.View.{View, reg, placed}
use Rattle.step.specs.Table.{fc, lc, cf, cl, nx, pr, w, link, paired}
use Rattle.step.specs.Step.{marked, is_ready, qif, enter, child, fiq, pass, attempt}
use Rattle.step.specs.Nodes.{by_node, sets_node}
use Rattle.step.specs.declared.Status.{Status}
use Rattle.step.specs.declared.Direction.{Direction}
use Rattle.step.specs.declared.Direction.TheVariants.{Forward}
use Rattle.step.specs.declared.Effect.{Effect}
use Rattle.step.specs.declared.Effect.TheVariants.{SetNode}
use Rattle.step.specs.Step.{Attempt}
use Rattle.std.specs.Prelude.{Err, Ok}
use Rattle.word.specs.Refusal.{number_of}
use Rattle.word.specs.declared.refusals.Refusal.TheVariants.{Waiting, Address}

-- ---- operations: a qif, a fiq, or one that sets no node

pub by_node_all : {A : Type 0} (P : Op → A → Type 0) (q f : ℕ → A) (x : A)
    → ((a : ℕ) → P (Qif a) (q a)) → ((a : ℕ) → P (Fiq a) (f a)) → ((o : Op) → sets_node o ≡ false → P o x) → (o : Op) → P o (by_node o q f x)
by_node_all P q f x h k g None = g None refl
by_node_all P q f x h k g Start = g Start refl
by_node_all P q f x h k g Finish = g Finish refl
by_node_all P q f x h k g (Xor a v) = g (Xor a v) refl
by_node_all P q f x h k g (Add a v) = g (Add a v) refl
by_node_all P q f x h k g (Sub a v) = g (Sub a v) refl
by_node_all P q f x h k g (Neg a) = g (Neg a) refl
by_node_all P q f x h k g (Swap a b) = g (Swap a b) refl
by_node_all P q f x h k g (SwapBits a b) = g (SwapBits a b) refl
by_node_all P q f x h k g (Fetch a b) = g (Fetch a b) refl
by_node_all P q f x h k g (Exchange a v) = g (Exchange a v) refl
by_node_all P q f x h k g (Qif a) = h a
by_node_all P q f x h k g (Fiq a) = k a

-- ---- the attempt of one that sets no node

-- an effect that leaves node and wait count
abbrev pub KeepsNode : Effect → Type 0
KeepsNode e = (at : Status) → marked e at ≡ at

-- a refusal by 13 or 15, or such an effect
abbrev pub Unmarked : Attempt → Type 0
Unmarked (Err n) = (number_of n ≡ 13) ⊎ (number_of n ≡ 15)
Unmarked (Ok e) = KeepsNode e

-- it is so where nothing waits
module _ (t : List ℕ) (d : Direction) (s : View) (ready : is_ready s.at ≡ true) where
  started : (x : Attempt) → Unmarked x → Unmarked (refuse (not (is_ready s.at)) (Err Waiting) x)
  unfolding refuse
  started x h = rw ready h

  allowed : (b : Bool) (x : Attempt) → Unmarked x → Unmarked (refuse b (Err Address) x)
  unfolding refuse
  allowed true x h = inr refl
  allowed false x h = h

  pub attempt_unmarked : (o : Op) → sets_node o ≡ false → Unmarked (attempt t d o s)
  unfolding attempt
  attempt_unmarked None h = inl refl
  attempt_unmarked Start h = started _ (λ at. refl)
  attempt_unmarked Finish h = started _ (λ at. refl)
  attempt_unmarked (Xor a v) h = started _ (λ at. refl)
  attempt_unmarked (Add a v) h = started _ (λ at. refl)
  attempt_unmarked (Sub a v) h = started _ (λ at. refl)
  attempt_unmarked (Neg a) h = started _ (λ at. refl)
  attempt_unmarked (Swap a b) h = started _ (λ at. refl)
  attempt_unmarked (SwapBits a b) h = started _ (λ at. refl)
  attempt_unmarked (Fetch a b) h = started _ (allowed _ _ (λ at. refl))
  attempt_unmarked (Exchange a v) h = started _ (allowed _ _ (λ at. refl))
  attempt_unmarked (Qif a) h = absurd (true≢false h)
  attempt_unmarked (Fiq a) h = absurd (true≢false h)

-- neither table nor node counts for it
pub attempt_placed : (t t' : List ℕ) (d : Direction) (n n' v v' j : ℕ) (s : View) (o : Op) → sets_node o ≡ false
    → attempt t d o (placed n v j s) ≡ attempt t' d o (placed n' v' j s)
unfolding attempt
attempt_placed t t' d n n' v v' j s None h = refl
attempt_placed t t' d n n' v v' j s Start h = refl
attempt_placed t t' d n n' v v' j s Finish h = refl
attempt_placed t t' d n n' v v' j s (Xor a x) h = refl
attempt_placed t t' d n n' v v' j s (Add a x) h = refl
attempt_placed t t' d n n' v v' j s (Sub a x) h = refl
attempt_placed t t' d n n' v v' j s (Neg a) h = refl
attempt_placed t t' d n n' v v' j s (Swap a b) h = refl
attempt_placed t t' d n n' v v' j s (SwapBits a b) h = refl
attempt_placed t t' d n n' v v' j s (Fetch a b) h = refl
attempt_placed t t' d n n' v v' j s (Exchange a x) h = refl
attempt_placed t t' d n n' v v' j s (Qif a) h = absurd (true≢false h)
attempt_placed t t' d n n' v v' j s (Fiq a) h = absurd (true≢false h)

-- ---- qif and fiq forward, over links that are paired

module _ (t : List ℕ) (n : ℕ) (s : View) where
  pub attempt_enters : (v a x : ℕ) → x ≤ 1 → reg s a ≡ x → paired t n v (fc x) (link t n v (fc x)) cf ≡ true
      → attempt t Forward (Qif a) (placed n v 0 s) ≡ Ok (SetNode (link t n v (fc x)) (link t n (link t n v (fc x)) w))
  unfolding attempt qif enter refuse
  attempt_enters v a x b e p = rw (e, le-leb x 1 b, p)

  pub attempt_waits : (v j a x : ℕ) → eqb j 0 ≡ false → x ≤ 1 → reg s a ≡ x → paired t n (link t n v cf) (fc x) v cf ≡ true → j ≤ link t n v w
      → attempt t Forward (Qif a) (placed n v j s) ≡ Ok (SetNode v (j - 1))
  unfolding attempt qif child refuse
  attempt_waits v j a x z b e p h = rw (e, le-leb x 1 b, z, p, le-ltb (link t n v w) j h)

  pub attempt_leaves : (v a x : ℕ) → x ≤ 1 → reg s a ≡ x
      → (paired t n (link t n v cl) (lc x) v cl && paired t n (link t n v cl) nx (link t n (link t n v cl) nx) pr) ≡ true
      → attempt t Forward (Fiq a) (placed n v 0 s) ≡ Ok (SetNode (link t n (link t n v cl) nx) 0)
  unfolding attempt fiq pass refuse
  attempt_leaves v a x b e p = rw (e, le-leb x 1 b, p)
