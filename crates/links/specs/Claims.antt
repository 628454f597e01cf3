-- What the check says, whole and node by node (document 01, "Image"; document 02, #105).
use Rattle.std.specs.Prelude.{ℕ, ◌+◌, ◌-◌, ◌*◌, ◌<◌, ◌≤◌, ◌≡◌, true, false, ◌↔◌, ◌⊎◌, List, [], ◌∷◌, ◌++◌, map, length, get_or, set, replicate}
use Rattle.qins.specs.Decode.{is_instruction}
use Rattle.step.specs.View.{sized}
use Rattle.step.specs.Table.{node_words, fc, lc, cf, cl, nx, pr}
use Rattle.machine.specs.Machine.{with_status, zeros, Machine, machine_of, left_as, wrong_sizes}
use Rattle.links.specs.Check.{checked_as, check_of, check_node_of}

-- ---- before the nodes

-- a is the lowest code address that holds no instruction
pub record FirstBadWord (x : Machine) (a : ℕ) : Type 0 where
  pub code : a < x.state.k
  pub bad : is_instruction (get_or x.memory a 0) ≡ false
  pub lower : (b : ℕ) → b < a → is_instruction (get_or x.memory b 0) ≡ true

-- the sizes are in order, and every code word is an instruction
pub record InOrder (x : Machine) : Type 0 where
  pub sizes : wrong_sizes x ≡ false
  pub code : (a : ℕ) → a < x.state.k → is_instruction (get_or x.memory a 0) ≡ true

-- Claim: the whole check gives 10 exactly for wrong sizes, 7 and a exactly where they are right and a is the lowest bad code
-- word; any other answer is given exactly where all is in order up to the nodes
pub record BeforeNodes : Type 0 where
  pub sizes : (x : Machine) → (check_of x ≡ checked_as 10 0) ↔ (wrong_sizes x ≡ true)
  pub words : (x : Machine) (a : ℕ) → (check_of x ≡ checked_as 7 a) ↔ (wrong_sizes x ≡ false) × FirstBadWord x a
  pub passed : (x : Machine) → ((check_of x).refusal ≡ 10 → ⊥) × ((check_of x).refusal ≡ 7 → ⊥) ↔ InOrder x

-- ---- node by node

-- the call on p gives 8, and on every lower node 0
pub record FirstBadNode (x : Machine) (p : ℕ) : Type 0 where
  pub bad : check_node_of x p ≡ 8
  pub lower : (v : ℕ) → 0 < v → v < p → check_node_of x v ≡ 0

-- Claim: with all in order up to the nodes, the whole check gives 8 and p exactly where the call on p gives 8 and on every lower
-- node 0, and it gives 0 exactly where the call on every node does
pub record NodeByNode : Type 0 where
  pub bad : (x : Machine) (p : ℕ) → InOrder x → (check_of x ≡ checked_as 8 p) ↔ FirstBadNode x p
  pub good : (x : Machine) → InOrder x → (check_of x ≡ checked_as 0 0) ↔ ((v : ℕ) → 0 < v → v ≤ x.state.n → check_node_of x v ≡ 0)

-- ---- one node

-- Claim: the call gives 10 exactly for wrong sizes, and 17 exactly where they are right and the node is not 1 to N
pub record BeforeLinks : Type 0 where
  pub sizes : (x : Machine) (v : ℕ) → (check_node_of x v ≡ 10) ↔ (wrong_sizes x ≡ true)
  pub outside : (x : Machine) (v : ℕ) → (check_node_of x v ≡ 17) ↔ (wrong_sizes x ≡ false) × ((0 < v) × (v ≤ x.state.n) → ⊥)

-- Claim: it is the same whatever the words of the memory are
abbrev pub AnyWords : Type 0
AnyWords = (x : Machine) (v : ℕ) (mem : List ℕ) → length x.memory ≡ length mem → check_node_of x v ≡ check_node_of (left_as x x.state mem) v

-- ---- the links of a node, as they stand in the lent table

-- word j of node v
abbrev pub word_of : List ℕ → ℕ → ℕ → ℕ
word_of table v j = get_or table (node_words * (v - 1) + j) 0

-- u is 1 to n, and word g or word h of node u is v
abbrev pub LeadsBack : List ℕ → ℕ → ℕ → ℕ → ℕ → ℕ → Type 0
LeadsBack table n v u g h = ((0 < u) × (u ≤ n)) × ((word_of table u g ≡ v) ⊎ (word_of table u h ≡ v))

-- link j of node v is 0, or paired by g or h
abbrev pub Paired : List ℕ → ℕ → ℕ → ℕ → ℕ → ℕ → Type 0
Paired table n v j g h = (word_of table v j ≡ 0) ⊎ LeadsBack table n v (word_of table v j) g h

abbrev pub ChildrenPaired : List ℕ → ℕ → ℕ → ℕ → Type 0
ChildrenPaired table n v x = Paired table n v (fc x) cf cf × Paired table n v (lc x) cl cl

abbrev pub AllPaired : List ℕ → ℕ → ℕ → Type 0
AllPaired table n v =
    ChildrenPaired table n v 0
    × (ChildrenPaired table n v 1
    × (Paired table n v nx pr pr
    × (Paired table n v pr nx nx
    × (Paired table n v cf (fc 0) (fc 1)
    × Paired table n v cl (lc 0) (lc 1)))))

-- Claim: with sizes in order, the call on a node 1 to N gives 0 exactly where all its links are 0 or paired, and else 8
pub record OnLinks : Type 0 where
  pub good : (x : Machine) (v : ℕ) → wrong_sizes x ≡ false → 0 < v → v ≤ x.state.n
      → (check_node_of x v ≡ 0) ↔ AllPaired x.table x.state.n v
  pub bad : (x : Machine) (v : ℕ) → wrong_sizes x ≡ false → 0 < v → v ≤ x.state.n
      → (check_node_of x v ≡ 8) ↔ (AllPaired x.table x.state.n v → ⊥)

-- ---- the pairing rules, worked out: the answer on node 1 of two nodes, with a code word that is no instruction

abbrev pub on_first : List ℕ → ℕ
on_first table =
    check_node_of (machine_of (with_status zeros (sized 1 1 2)) (0 ∷ []) table) 1

-- a node's words, by their index, and a node of which word j is v and every other 0
abbrev pub indices : List ℕ
indices = 0 ∷ 1 ∷ 2 ∷ 3 ∷ 4 ∷ 5 ∷ 6 ∷ 7 ∷ 8 ∷ []

abbrev pub only : ℕ → ℕ → List ℕ
only j v = set (replicate node_words 0) j v

-- Claim: where word j of node 1 is 2 and word g of node 2 is 1, these are the answers, a row for each j and a column for each g, in the order
-- fc0 fc1 lc0 lc1 cf cl nx pr w: each link returns by its inverses and by nothing else, and w is no link
abbrev pub Pairing : Type 0
Pairing =
    map (λ (j : ℕ). map (λ (g : ℕ). on_first (only j 2 ++ only g 1)) indices) indices
    ≡ (8 ∷ 8 ∷ 8 ∷ 8 ∷ 0 ∷ 8 ∷ 8 ∷ 8 ∷ 8 ∷ [])
    ∷ (8 ∷ 8 ∷ 8 ∷ 8 ∷ 0 ∷ 8 ∷ 8 ∷ 8 ∷ 8 ∷ [])
    ∷ (8 ∷ 8 ∷ 8 ∷ 8 ∷ 8 ∷ 0 ∷ 8 ∷ 8 ∷ 8 ∷ [])
    ∷ (8 ∷ 8 ∷ 8 ∷ 8 ∷ 8 ∷ 0 ∷ 8 ∷ 8 ∷ 8 ∷ [])
    ∷ (0 ∷ 0 ∷ 8 ∷ 8 ∷ 8 ∷ 8 ∷ 8 ∷ 8 ∷ 8 ∷ [])
    ∷ (8 ∷ 8 ∷ 0 ∷ 0 ∷ 8 ∷ 8 ∷ 8 ∷ 8 ∷ 8 ∷ [])
    ∷ (8 ∷ 8 ∷ 8 ∷ 8 ∷ 8 ∷ 8 ∷ 8 ∷ 0 ∷ 8 ∷ [])
    ∷ (8 ∷ 8 ∷ 8 ∷ 8 ∷ 8 ∷ 8 ∷ 0 ∷ 8 ∷ 8 ∷ [])
    ∷ (0 ∷ 0 ∷ 0 ∷ 0 ∷ 0 ∷ 0 ∷ 0 ∷ 0 ∷ 0 ∷ [])
    ∷ []

-- Claim: nor does a link return that leads to node 2, whose words all lead elsewhere, or to node 3, which is above N, though words
-- follow after the table that would all lead back
pub record Astray : Type 0 where
  pub elsewhere : map (λ (j : ℕ). on_first (only j 2 ++ replicate node_words 2)) indices ≡ 8 ∷ 8 ∷ 8 ∷ 8 ∷ 8 ∷ 8 ∷ 8 ∷ 8 ∷ 0 ∷ []
  pub above : map (λ (j : ℕ). on_first (only j 3 ++ replicate node_words 0 ++ replicate node_words 1)) indices
      ≡ 8 ∷ 8 ∷ 8 ∷ 8 ∷ 8 ∷ 8 ∷ 8 ∷ 8 ∷ 0 ∷ []
