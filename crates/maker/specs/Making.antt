-- The walk that makes a table (document 02, #107): the number that refuses it, else its tree and the state at its end.
use Rattle.std.specs.Prelude.{ℕ, zero, suc, ◌+◌, Bool, true, not, ltb, leb}
use Rattle.word.specs.Refusal.{refuse}
use Rattle.maker.specs.Walk.{Walk, size, used}
use Rattle.maker.specs.Walk.Walk.{begin, step, fork}
use Rattle.maker.specs.Walkable.{Look, Walkable}
use Rattle.maker.specs.Walkable.Look.{halts, last, goes, forks, joins}

pub data Outcome (S : Type 0) : Type 0 where
  refused : ℕ → Outcome S
  ended : Walk → S → Outcome S

-- of a qif: its two branches, and the state after it
pub data Forks (S : Type 0) : Type 0 where
  failed : ℕ → Forks S
  forked : Walk → Walk → S → Forks S

module _ {S A : Type 0} where
  abbrev pub by_look : Look S → (ℕ → A) → A → (S → A) → A → A → A
  by_look (halts k) h l g f j = h k
  by_look last h l g f j = l
  by_look (goes s) h l g f j = g s
  by_look forks h l g f j = f
  by_look joins h l g f j = j

  unfoldable pub by_outcome : Outcome S → (ℕ → A) → (Walk → S → A) → A
  by_outcome (refused k) r e = r k
  by_outcome (ended p s) r e = e p s

  abbrev pub by_forks : Forks S → (ℕ → A) → (Walk → Walk → S → A) → A
  by_forks (failed k) r e = r k
  by_forks (forked a b s) r e = e a b s

module _ {S : Type 0} (M : Walkable S) (limit : ℕ) where
  -- A qif at s, with n nodes made and u cycles used, over what a branch does: branch 0, and branch 1 from the same state. At each of
  -- its words 23 comes where the limit is reached, at the qif also where two nodes more would be above 511, at branch 1's fiq where one would
  unfoldable pub fork_by : (ℕ → ℕ → S → Outcome S) → ℕ → ℕ → S → Forks S
  fork_by branch n u s =
      refuse (leb limit u) (failed 23)
      (refuse (ltb 509 n) (failed 23)
      (by_outcome (branch (n + 2) (u + 1) (M.on (M.coined s 0))) failed λ a s₀.
      refuse (M.is_before_start s₀) (failed 18)
      (refuse (leb limit (u + 1 + used a)) (failed 23)
      (refuse (not (M.holds s 0 s₀)) (failed 24)
      (by_outcome (branch (n + 2 + size a) (u + 1 + used a + 1) (M.on (M.coined s 1))) failed λ b s₁.
      refuse (M.is_before_start s₁) (failed 18)
      (refuse (leb limit (u + 1 + used a + 1 + used b)) (failed 23)
      (refuse (ltb 510 (n + 2 + size a + size b)) (failed 23)
      (refuse (not (M.holds s 1 s₁)) (failed 24)
      (refuse (not (M.same (M.after s s₀) (M.after s s₁))) (failed 24)
      (forked a b (M.after s s₀)))))))))))

  -- a branch, or where it is not inside one the whole walk, over what a qif does: p is the walk so far, from n nodes made and u cycles
  -- used. The first number is the words that may still be looked at: one more than the limit are enough, since each uses a cycle
  unfoldable pub walk_by : (ℕ → ℕ → S → Forks S) → Bool → ℕ → ℕ → ℕ → Walk → S → Outcome S
  walk_by qif inside zero n u p s = refused 23
  walk_by qif inside (suc f) n u p s =
      by_look (M.look s)
      refused
      (refuse inside (refused 12) (ended p s))
      (λ s₁. refuse (leb limit (u + used p)) (refused 23) (walk_by qif inside f n u (step p) s₁))
      (by_forks (qif (n + size p) (u + used p) s) refused (λ a b s₁. walk_by qif inside f n u (fork p a b) s₁))
      (refuse (not inside) (refused 17) (ended p s))

  -- a qif by the nesting that is left, and a branch, whose walk is no longer than the limit
  unfoldable pub fork_at : ℕ → ℕ → ℕ → S → Forks S
  fork_at zero n u s = failed 23
  fork_at (suc nest) n u s = fork_by (λ n u s. walk_by (fork_at nest) true (suc limit) n u begin s) n u s

  abbrev pub branch_at : ℕ → Bool → ℕ → ℕ → S → Outcome S
  branch_at nest inside n u s = walk_by (fork_at nest) inside (suc limit) n u begin s
