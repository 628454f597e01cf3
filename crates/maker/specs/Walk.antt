-- A walk through both branches of every qif, as a tree, and what follows from the tree alone: its counts, and the table that it
-- draws (document 02, #107). No machine is mentioned.
use Rattle.std.specs.Prelude.{ℕ, ◌+◌, ◌-◌, max, List, set}
use Rattle.step.specs.Table.{table_words, fc, lc, cf, cl, nx, pr, w}

-- Nothing yet; a walk and one cycle more; a walk and then a qif whose branches walked a and b, each up to its fiq.
pub data Walk : Type 0 where
  begin : Walk
  step : Walk → Walk
  fork : Walk → Walk → Walk → Walk

-- ---- nodes made: at a qif the two first children and the next node, beside those of the branches

unfoldable pub size : Walk → ℕ
size begin = 0
size (step p) = size p
size (fork p a b) = size p + (3 + (size a + size b))

abbrev pub fork_size : Walk → Walk → ℕ
fork_size a b = 3 + (size a + size b)

-- ---- cycles walked, waits apart: a qif's own is one for both branches, its fiq's one in each

unfoldable pub used : Walk → ℕ
used begin = 0
used (step p) = used p + 1
used (fork p a b) = used p + (3 + (used a + used b))

abbrev pub fork_used : Walk → Walk → ℕ
fork_used a b = 3 + (used a + used b)

-- ---- cycles for any choice of coins, waits included: at a qif its own, its fiq's and those of the longer branch

unfoldable pub cycles : Walk → ℕ
cycles begin = 0
cycles (step p) = cycles p + 1
cycles (fork p a b) = cycles p + (2 + max (cycles a) (cycles b))

abbrev pub fork_cycles : Walk → Walk → ℕ
fork_cycles a b = 2 + max (cycles a) (cycles b)

-- what a lacks against b, inner waits included
abbrev pub lack : Walk → Walk → ℕ
lack a b = cycles b - cycles a

-- ---- the node reached, from node v with n nodes made: each qif leads to the node that it makes last

unfoldable pub ending : Walk → ℕ → ℕ → ℕ
ending begin v n = v
ending (step p) v n = ending p v n
ending (fork p a b) v n = n + size p + fork_size a b

-- ---- the table

-- word j of node v written
unfoldable pub put : List ℕ → ℕ → ℕ → ℕ → List ℕ
put t v j x = set t (table_words (v - 1) + j) x

-- link f of v to u, and link g of u back to v
unfoldable pub pair : List ℕ → ℕ → ℕ → ℕ → ℕ → List ℕ
pair t v f u g = put (put t v f u) u g v

-- at node v, after both branches: a and b the first children, e and f the last, m the next; x and y the waits of a and b
unfoldable pub linked : ℕ → ℕ → ℕ → ℕ → ℕ → ℕ → ℕ → ℕ → List ℕ → List ℕ
linked v a b e f m x y t =
    put (put (pair (pair (pair (pair (pair t v (fc 0) a cf) v (fc 1) b cf) v (lc 0) e cl) v (lc 1) f cl) v nx m pr) a w x) b w y

-- the links of a qif at v, with n nodes made before it, once its branches have drawn theirs
abbrev pub fork_linked : ℕ → ℕ → Walk → Walk → List ℕ → List ℕ
fork_linked v n a b t =
    linked v (n + 1) (n + 2) (ending a (n + 1) (n + 2)) (ending b (n + 2) (n + 2 + size a)) (n + fork_size a b) (lack a b) (lack b a) t

-- from node v with n nodes made: branch 0 goes from the first new node, branch 1 from the second
unfoldable pub drawn : Walk → ℕ → ℕ → List ℕ → List ℕ
drawn begin v n t = t
drawn (step p) v n t = drawn p v n t
drawn (fork p a b) v n t =
    fork_linked (ending p v n) (n + size p) a b
    (drawn b (n + size p + 2) (n + size p + 2 + size a) (drawn a (n + size p + 1) (n + size p + 2) (drawn p v n t)))

-- the same of a qif alone
abbrev pub fork_drawn : ℕ → ℕ → Walk → Walk → List ℕ → List ℕ
fork_drawn v n a b t = fork_linked v n a b (drawn b (n + 2) (n + 2 + size a) (drawn a (n + 1) (n + 2) t))
