-- Over a table that holds the links of an accepted walk every choice of coins takes the same cycles. Over any lawful machine.
-- Assumes nothing.
use mathlib.Core.Path.{◌≡◌}
use mathlib.Core.Bool.{false}
use mathlib.Core.List.{List, []}
use Prim.Native.Nat.{ℕ, ◌+◌, ◌≤◌}
use native.Mathlib.Omega.{arith}
use Rattle.maker.specs.Walk.{Walk, size, cycles, ending}
use Rattle.maker.specs.Walkable.{Walkable}
use Rattle.maker.specs.Walkable.Look.{last}
use Rattle.maker.specs.Making.{branch_at}
use Rattle.maker.specs.Making.Outcome.{ended}
use Rattle.maker.proofs.Guided.{guided, runs}
use Rattle.maker.proofs.Guided.Next.{moved}
use Rattle.maker.proofs.Choices.{Lawful, Holds, follow}
use Rattle.maker.proofs.Sound.{walk_is}

module _ {S : Type 0} (M : Walkable S) (L : Lawful M) (limit nest : ℕ) (s z : S) (p : Walk) (e : branch_at M limit nest false 1 0 s ≡ ended p z) where
  pub same_cycles : (t : List ℕ) → Holds t (1 + size p) p 1 1 → (c : ℕ → ℕ) → ((i : ℕ) → c i ≤ 1)
      → runs M t (1 + size p) c (cycles p) 0 (guided s 1 0 []) ≡ moved (guided z (ending p 1 1) 0 [])
  same_cycles t h c b = follow M L t (1 + size p) c b p 1 1 s z 0 [] (walk_is M L limit nest false 1 0 s p z (omega arith) e).walks h

  pub ends_last : M.look z ≡ last
  ends_last = (walk_is M L limit nest false 1 0 s p z (omega arith) e).stands

  pub few_nodes : 1 + size p ≤ 511
  few_nodes = (walk_is M L limit nest false 1 0 s p z (omega arith) e).room
