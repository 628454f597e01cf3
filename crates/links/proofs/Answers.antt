-- What each return of check answers by the definitions. Assumes nothing.
use mathlib.Core.Path.{◌≡◌}
use mathlib.Core.Bool.{true, false}
use Prim.Native.Nat.{ℕ, ◌<◌, ◌≤◌}
use borrow.Author.Tests.{lt-ltb, le-ltb, le-leb, lt-leb}
use Rattle.word.specs.Refusal.{refuse}
use Rattle.machine.specs.Machine.{Machine, wrong_sizes}
use Rattle.links.specs.Check.{bad_address, bad_node, checked_as, check_of}

module _ (x : Machine) where
  pub check_sizes : wrong_sizes x ≡ true → checked_as 10 0 ≡ check_of x
  unfolding refuse
  check_sizes w = rw w

  module _ (w : wrong_sizes x ≡ false) (a : ℕ) (e : a ≡ bad_address x) where
    pub check_code : a < x.state.k → checked_as 7 a ≡ check_of x
    unfolding refuse
    check_code h = rw (w, ← e, lt-ltb a x.state.k h)

    module _ (h : x.state.k ≤ a) (v : ℕ) (f : v ≡ bad_node x) where
      pub check_node_lem : v ≤ x.state.n → checked_as 8 v ≡ check_of x
      unfolding refuse
      check_node_lem k = rw (w, ← e, le-ltb a x.state.k h, ← f, le-leb v x.state.n k)

      pub check_good : x.state.n < v → checked_as 0 0 ≡ check_of x
      unfolding refuse
      check_good k = rw (w, ← e, le-ltb a x.state.k h, ← f, lt-leb v x.state.n k)
