-- The cycle of calls {branch, fork}: 2 nest + 1 and 2 nest fall.
use Prim.Native.Nat.{◌+◌, ◌-◌}
use mathlib.Core.Path.{◌≡◌}
use lib.ListN.{length}
use Rattle.maker.proofs.Loops.{Going}
use Rattle.maker.proofs.Bounds.+branch_fork.Given as goal

abbrev pub decreases-branch : goal.decreases-branch
decreases-branch l = l.nest + l.nest + 1

abbrev pub decreases-fork : goal.decreases-fork
decreases-fork l = l.nest + l.nest

abbrev pub invariant-branch-loop-regs : goal.invariant-branch-loop-regs
invariant-branch-loop-regs l =
    Going l.self.k l.self.m l.self.limit l.nest l.inside l.fn.from.node l.fn.from.nodes l.fn.from.used l.fn.from.regs l.initial.mem l.initial.table l.at l.mem l.table
    × (length l.scratch ≡ length l.initial.scratch)

abbrev pub decreases-branch-loop-regs : goal.decreases-branch-loop-regs
decreases-branch-loop-regs l = l.self.limit - l.at.used
