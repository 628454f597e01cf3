-- The refusals of a walk are those listed, where those of a look are. Assumes nothing.
use mathlib.Core.Path.{◌≡◌, refl}
use mathlib.Core.Bool.{Bool, true, false, not}
use Prim.Native.Nat.{ℕ, zero, suc, ◌+◌}
use lib.Dec.{leb}
use Rattle.word.specs.Refusal.{refuse}
use Rattle.maker.specs.Walk.{Walk, size, used}
use Rattle.maker.specs.Walk.Walk.{begin, step, fork}
use Rattle.maker.specs.Walkable.{Look, Walkable}
use Rattle.maker.specs.Walkable.Look.{halts, last, goes, forks, joins}
use Rattle.maker.specs.Claims.{is_one_of, walk_refusals}
use Rattle.maker.specs.Making.{Outcome, Forks, by_look, by_outcome, by_forks, fork_by, walk_by, fork_at, branch_at}
use Rattle.maker.specs.Making.Outcome.{refused, ended}
use Rattle.maker.specs.Making.Forks.{failed, forked}

abbrev pub Numbered : {S : Type 0} → Outcome S → Type 0
Numbered (refused i) = is_one_of i walk_refusals ≡ true
Numbered (ended p s) = Unit {0}

abbrev NumberedFork : {S : Type 0} → Forks S → Type 0
NumberedFork (failed i) = is_one_of i walk_refusals ≡ true
NumberedFork (forked a b s) = Unit {0}

module _ {S : Type 0} (M : Walkable S) (law : (s : S) (k : ℕ) → M.look s ≡ halts k → is_one_of k walk_refusals ≡ true) (limit : ℕ) where
  stopped : (b : Bool) (j : ℕ) (rest : Forks S) → is_one_of j walk_refusals ≡ true → NumberedFork rest → NumberedFork (refuse b (failed j) rest)
  unfolding refuse
  stopped true j rest t h = t
  stopped false j rest t h = h

  ended_by : (o : Outcome S) (f : Walk → S → Forks S) → Numbered o → ((p : Walk) (s : S) → NumberedFork (f p s)) → NumberedFork (by_outcome o failed f)
  unfolding by_outcome
  ended_by (refused i) f h g = h
  ended_by (ended p s) f h g = g p s

  halted : (b : Bool) (j : ℕ) (rest : Outcome S) → is_one_of j walk_refusals ≡ true → Numbered rest → Numbered (refuse b (refused j) rest)
  unfolding refuse
  halted true j rest t h = t
  halted false j rest t h = h

  fork_numbered : (branch : ℕ → ℕ → S → Outcome S) → ((n u : ℕ) (s : S) → Numbered (branch n u s)) → (n u : ℕ) (s : S)
      → NumberedFork (fork_by M limit branch n u s)
  unfolding fork_by
  fork_numbered branch h n u s =
      stopped _ 23 _ refl (stopped _ 23 _ refl (ended_by _ _ (h _ _ _) λ a s₀.
      stopped _ 18 _ refl (stopped _ 23 _ refl (stopped _ 24 _ refl (ended_by _ _ (h _ _ _) λ b s₁.
      stopped _ 18 _ refl (stopped _ 23 _ refl (stopped _ 23 _ refl (stopped _ 24 _ refl (stopped _ 24 (forked a b (M.after s s₀)) refl tt)))))))))

  module _ (qif : ℕ → ℕ → S → Forks S) (inner : (n u : ℕ) (s : S) → NumberedFork (qif n u s)) (inside : Bool) (n u : ℕ) where
    forks_on : (o : Forks S) (f : Walk → Walk → S → Outcome S) → NumberedFork o → ((a b : Walk) (s : S) → Numbered (f a b s)) → Numbered (by_forks o refused f)
    forks_on (failed i) f h g = h
    forks_on (forked a b s) f h g = g a b s

    one_more : (f : ℕ) (p : Walk) (s : S) → ((q : Walk) (z : S) → Numbered (walk_by M limit qif inside f n u q z)) → (x : Look S) → M.look s ≡ x
        → Numbered (by_look x refused (refuse inside (refused 12) (ended p s))
        (λ s₁. refuse (leb limit (u + used p)) (refused 23) (walk_by M limit qif inside f n u (step p) s₁))
        (by_forks (qif (n + size p) (u + used p) s) refused (λ a b s₁. walk_by M limit qif inside f n u (fork p a b) s₁))
        (refuse (not inside) (refused 17) (ended p s)))
    one_more f p s more (halts k) e = law s k e
    one_more f p s more last e = halted inside 12 (ended p s) refl tt
    one_more f p s more (goes z) e =
        halted (leb limit (u + used p)) 23 (walk_by M limit qif inside f n u (step p) z) refl (more (step p) z)
    one_more f p s more forks e =
        forks_on (qif (n + size p) (u + used p) s) (λ a b s₁. walk_by M limit qif inside f n u (fork p a b) s₁) (inner (n + size p) (u + used p) s)
        (λ a b z. more (fork p a b) z)
    one_more f p s more joins e = halted (not inside) 17 (ended p s) refl tt

    walk_numbered : (f : ℕ) (p : Walk) (s : S) → Numbered (walk_by M limit qif inside f n u p s)
    unfolding walk_by
    walk_numbered zero p s = refl
    walk_numbered (suc f) p s = one_more f p s (λ q z. walk_numbered f q z) (M.look s) refl

  forks_numbered : (nest n u : ℕ) (s : S) → NumberedFork (fork_at M limit nest n u s)
  unfolding fork_at
  forks_numbered zero n u s = refl
  forks_numbered (suc nest) n u s =
      fork_numbered _ (λ n u s. walk_numbered (fork_at M limit nest) (forks_numbered nest) true n u (suc limit) begin s) n u s

  pub branch_numbered : (nest : ℕ) (inside : Bool) (n u : ℕ) (s : S) → Numbered (branch_at M limit nest inside n u s)
  branch_numbered nest inside n u s = walk_numbered (fork_at M limit nest) (forks_numbered nest) inside n u (suc limit) begin s
