-- Where the table maker accepts, its tree is the machine's own walk. Over any lawful machine. Assumes nothing.
use mathlib.Core.Path.{◌≡◌, refl, sym, ap, ◌∙◌, subst}
use mathlib.Core.Bool.{Bool, true, false, not}
use Prim.Native.Nat.{ℕ, zero, suc, ◌+◌, ◌≤◌}
use native.Mathlib.Omega.{arith}
use lib.Dec.{leb}
use Rattle.word.specs.Word.{pick}
use Rattle.word.specs.Refusal.{refuse}
use Rattle.maker.specs.Walk.{Walk, size, used, fork_size}
use Rattle.maker.specs.Walk.Walk.{begin, step, fork}
use Rattle.maker.specs.Walkable.{Look, Walkable}
use Rattle.maker.specs.Walkable.Look.{halts, last, goes, forks, joins}
use Rattle.maker.specs.Making.{Outcome, Forks, by_look, by_forks, fork_by, walk_by, fork_at, branch_at}
use Rattle.maker.specs.Making.Outcome.{refused, ended}
use Rattle.maker.specs.Making.Forks.{failed, forked}
use Rattle.maker.proofs.Counts.{AllForks, AllEnded, Accepted, fork_accepts}
use Rattle.maker.proofs.Choices.{Lawful, Joins, Walks}

module _ {S : Type 0} (M : Walkable S) (L : Lawful M) (limit : ℕ) where
  -- a walk from s₀ that ends at z, at its own last word
  pub record Ended (inside : Bool) (n : ℕ) (s₀ : S) (p : Walk) (z : S) : Type 0 where
    pub walks : Walks M s₀ p z
    pub stands : M.look z ≡ pick inside joins last
    pub room : n + size p ≤ 511

  pub record Forked (n : ℕ) (s : S) (a b : Walk) (z : S) : Type 0 where
    pub zero_side : Joins M s 0 (λ e. Walks M (M.on (M.coined s 0)) a e) z
    pub one_side : Joins M s 1 (λ e. Walks M (M.on (M.coined s 1)) b e) z
    pub room : n + fork_size a b ≤ 511

  bare : (n : ℕ) → n ≤ 511 → n + size begin ≤ 511
  unfolding size
  bare n h = omega arith

  abbrev Sound : (ℕ → ℕ → S → Forks S) → Type 0
  Sound qif = (n u : ℕ) (s : S) → AllForks (qif n u s) (Forked n s)

  module _ (qif : ℕ → ℕ → S → Forks S) (sound : Sound qif) (inside : Bool) (n u : ℕ) (s₀ : S) where
    passed : (x : Bool) (k : ℕ) (o : Outcome S) → AllEnded o (Ended inside n s₀) → AllEnded (refuse x (refused k) o) (Ended inside n s₀)
    unfolding refuse
    passed true k o h = tt
    passed false k o h = h

    finish : (x : Bool) (p : Walk) (s : S) → M.look s ≡ last → Walks M s₀ p s → n + size p ≤ 511
        → inside ≡ x → AllEnded (refuse x (refused 12) (ended p s)) (Ended inside n s₀)
    unfolding refuse
    finish true p s e h r i = tt
    finish false p s e h r i = record { walks = h; stands = e ∙ sym (ap (λ (y : Bool). pick y joins last) i); room = r }

    join : (x : Bool) (p : Walk) (s : S) → M.look s ≡ joins → Walks M s₀ p s → n + size p ≤ 511
        → inside ≡ x → AllEnded (refuse (not x) (refused 17) (ended p s)) (Ended inside n s₀)
    unfolding refuse
    join true p s e h r i = record { walks = h; stands = e ∙ sym (ap (λ (y : Bool). pick y joins last) i); room = r }
    join false p s e h r i = tt

    forking : (o : Forks S) (f : Walk → Walk → S → Outcome S) (m : ℕ) (s : S) → AllForks o (Forked m s)
        → ((a b : Walk) (z : S) → Forked m s a b z → AllEnded (f a b z) (Ended inside n s₀)) → AllEnded (by_forks o refused f) (Ended inside n s₀)
    forking (failed k) f m s h g = tt
    forking (forked a b z) f m s h g = g a b z h

    one_more : (f : ℕ) (p : Walk) (s : S) → Walks M s₀ p s → n + size p ≤ 511
        → ((q : Walk) (z : S) → Walks M s₀ q z → n + size q ≤ 511 → AllEnded (walk_by M limit qif inside f n u q z) (Ended inside n s₀))
        → (x : Look S) → M.look s ≡ x
        → AllEnded (by_look x refused (refuse inside (refused 12) (ended p s))
        (λ s₁. refuse (leb limit (u + used p)) (refused 23) (walk_by M limit qif inside f n u (step p) s₁))
        (by_forks (qif (n + size p) (u + used p) s) refused (λ a b s₁. walk_by M limit qif inside f n u (fork p a b) s₁))
        (refuse (not inside) (refused 17) (ended p s))) (Ended inside n s₀)
    unfolding size
    one_more f p s h r more (halts k) e = tt
    one_more f p s h r more last e = finish inside p s e h r refl
    one_more f p s h r more (goes z) e =
        passed (leb limit (u + used p)) 23 (walk_by M limit qif inside f n u (step p) z) (more (step p) z (s, h, e) r)
    one_more f p s h r more forks e =
        forking (qif (n + size p) (u + used p) s) (λ a b s₁. walk_by M limit qif inside f n u (fork p a b) s₁) (n + size p) s (sound (n + size p) (u + used p) s)
        (λ a b z k. more (fork p a b) z (s, h, e, k.zero_side, k.one_side) (omega (arith, k.room)))
    one_more f p s h r more joins e = join inside p s e h r refl

    walk_sound : (f : ℕ) (p : Walk) (s : S) → Walks M s₀ p s → n + size p ≤ 511 → AllEnded (walk_by M limit qif inside f n u p s) (Ended inside n s₀)
    unfolding walk_by
    walk_sound zero p s h r = tt
    walk_sound (suc f) p s h r = one_more f p s h r (λ q z k m. walk_sound f q z k m) (M.look s) refl

  abbrev deep : ℕ → ℕ → ℕ → S → Outcome S
  deep nest n u s = branch_at M limit nest true n u s

  -- what an accepted qif's branches are, from what a branch one deeper is
  forks_sound : (nest : ℕ) → Sound (fork_at M limit nest) → (n u : ℕ) (s : S) (o : Forks S)
      → AllForks o (Accepted M limit (deep nest) n u s) → AllForks o (Forked n s)
  forks_sound nest sound n u s (failed k) h = tt
  forks_sound nest sound n u s (forked a b z) h =
      let x : Ended true (n + 2) (M.on (M.coined s 0)) a h.s₀ = subst (λ (o : Outcome S). AllEnded o (Ended true (n + 2) (M.on (M.coined s 0)))) h.first (walk_sound (fork_at M limit nest) sound true (n + 2) (u + 1) (M.on (M.coined s 0)) (suc limit) begin (M.on (M.coined s 0)) refl (bare (n + 2) (omega (arith, h.room)))) in
      let y : Ended true (n + 2 + size a) (M.on (M.coined s 1)) b h.s₁ = subst (λ (o : Outcome S). AllEnded o (Ended true (n + 2 + size a) (M.on (M.coined s 1)))) h.second (walk_sound (fork_at M limit nest) sound true (n + 2 + size a) (u + 1 + used a + 1) (M.on (M.coined s 1)) (suc limit) begin (M.on (M.coined s 1)) refl (bare (n + 2 + size a) (omega (arith, h.room)))) in
      record {
        zero_side = (h.s₀, x.walks, x.stands, h.free₀, h.holds₀, h.next);
        one_side = (h.s₁, y.walks, y.stands, h.free₁, h.holds₁, sym (L.alike s h.s₀ h.s₁ h.same) ∙ h.next);
        room = omega (arith, h.room);
      }

  fork_sound : (nest : ℕ) → Sound (fork_at M limit nest)
  unfolding fork_at
  fork_sound zero n u s = tt
  fork_sound (suc nest) n u s = forks_sound nest (fork_sound nest) n u s (fork_by M limit (deep nest) n u s) (fork_accepts M limit (deep nest) n u s)

  -- a whole walk from s₀, with n nodes made and u cycles used
  pub walk_is : (nest : ℕ) (inside : Bool) (n u : ℕ) (s₀ : S) (p : Walk) (z : S) → n ≤ 511
      → branch_at M limit nest inside n u s₀ ≡ ended p z → Ended inside n s₀ p z
  walk_is nest inside n u s₀ p z r e =
      subst (λ (o : Outcome S). AllEnded o (Ended inside n s₀)) e (walk_sound (fork_at M limit nest) (fork_sound nest) inside n u s₀ (suc limit) begin s₀ refl (bare n r))
