-- A turn in place, from its parts. Assumes nothing.
use mathlib.Core.Path.{◌≡◌, refl, ap, ◌∙◌}
use mathlib.Core.Bool.{false}
use mathlib.Core.List.{List}
use Prim.Native.Nat.{ℕ}
use lib.ListN.{length}
use Rattle.std.specs.Prelude.{Err}
use Rattle.word.specs.declared.refusals.Refusal.{Refusal}
use Rattle.step.specs.declared.Status.{Status}
use Rattle.step.specs.declared.Direction.{Direction}
use Rattle.step.specs.declared.Direction.TheVariants.{Forward, Back}
use Rattle.step.specs.View.{View, seen}
use Rattle.step.proofs.Views.{seam_long}
use Rattle.machine.specs.Turn.{landed, plan_at, turned_at}
use Rattle.machine.specs.InPlace.{Turns, Steps}
use Rattle.machine.proofs.Moves.{turned_regs, turned_long}

-- ---- the plan

-- a word that is refused lands nowhere
pub landed_err : (d : Direction) (s : View) (n : Refusal) → landed d s (Err n) ≡ Err n
unfolding landed
landed_err Forward s n = refl
landed_err Back s n = refl

-- ---- what a turn keeps

module _ {d : Direction} {at : Status} {regs mem table : List ℕ} {w : ℕ} {at' : Status} {regs' : List ℕ} where
  pub turns_regs : Turns d at regs mem table w at' regs' → length regs' ≡ length regs
  turns_regs f = ap length f.registers ∙ turned_regs d (plan_at d false at regs mem table) (seen at regs mem)

  pub steps_long : {mem' : List ℕ} → Steps d at regs mem table w at' regs' mem' → length mem' ≡ length mem
  steps_long f =
      ap length f.memory ∙ seam_long mem (turned_at d false at regs mem table).memory at.m (turned_long d (plan_at d false at regs mem table) (seen at regs mem))
