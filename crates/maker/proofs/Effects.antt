-- What a word that is no qif or fiq does where nothing waits: it sets no node, and its refusals are of the list. Assumes nothing.
use mathlib.Core.Path.{◌≡◌, refl, subst}
use mathlib.Core.Bool.{Bool, true, false}
use mathlib.Core.Logic.{inl, inr}
use mathlib.Core.List.{[]}
use Rattle.word.specs.Refusal.{refuse, number_of}
use Rattle.qins.specs.Op.{Op}
use Rattle.qins.specs.Op.Op.{Qif, Fiq}
use Rattle.step.specs.declared.Direction.TheVariants.{Forward}
use Rattle.step.specs.Step.{Attempt}
use Rattle.std.specs.Prelude.{Err, Ok}
use Rattle.step.specs.View.{View, placed}
use Rattle.step.specs.Step.{attempt}
use Rattle.step.specs.Nodes.{sets_node}
use Rattle.step.proofs.Nodes.{by_node_all, KeepsNode, Unmarked, attempt_unmarked}
use Rattle.machine.specs.Turn.{landed}
use Rattle.maker.specs.declared.Kind.{Kind}
use Rattle.maker.specs.declared.Kind.TheVariants.{Plain, Opens, Closes}
use Rattle.maker.specs.Idle.{kind_of}
use Rattle.maker.specs.Claims.{is_one_of, walk_refusals}
use Rattle.word.specs.declared.refusals.Refusal.TheVariants.{Landing}

-- ---- what a kind says of the operation

abbrev Shape : Kind → Op → Type 0
Shape Plain o = sets_node o ≡ false
Shape (Opens a) o = o ≡ Qif a
Shape (Closes a) o = o ≡ Fiq a

pub kind_of_shape : (o : Op) (k : Kind) → kind_of o ≡ k → Shape k o
kind_of_shape o k e = subst (λ (k : Kind). Shape k o) e (by_node_all (λ o k. Shape k o) Opens Closes Plain (λ a. refl) (λ a. refl) (λ o h. h) o)

-- ---- a refusal of the list, or an effect that leaves node and wait count

abbrev pub Fine : Attempt → Type 0
Fine (Err n) = is_one_of (number_of n) walk_refusals ≡ true
Fine (Ok e) = KeepsNode e

pub plain_effect : (o : Op) → kind_of o ≡ Plain → (s : View) → Fine (attempt [] Forward o (placed 0 0 0 s))
plain_effect o p s = listed (attempt [] Forward o (placed 0 0 0 s)) (attempt_unmarked [] Forward (placed 0 0 0 s) refl o (kind_of_shape o Plain p))
  where
    listed : (x : Attempt) → Unmarked x → Fine x
    listed (Err n) (inl e) = rw e
    listed (Err n) (inr e) = rw e
    listed (Ok e) h = h

fine : (b : Bool) (x : Attempt) → Fine x → Fine (refuse b (Err Landing) x)
unfolding refuse
fine true x h = refl
fine false x h = h

pub landed_effect : (s : View) (x : Attempt) → Fine x → Fine (landed Forward s x)
unfolding landed
landed_effect s (Err n) h = h
landed_effect s (Ok e) h = fine _ (Ok e) h
