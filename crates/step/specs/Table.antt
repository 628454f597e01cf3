-- The qif table: nodes 1 to N of nine words, and links that must return.
use Rattle.std.specs.Prelude.{ℕ, ◌+◌, ◌-◌, ◌*◌, Bool, ◌&&◌, List, eqb, ltb, leb, get_or}
use Rattle.word.specs.Word.{pick}

-- the words of a node
abbrev pub node_words : ℕ
node_words = 9

-- and of n nodes
abbrev pub table_words : ℕ → ℕ
table_words n = node_words * n

-- a node's words: fc0 fc1 lc0 lc1 cf cl nx pr w; fc and lc by the coin
abbrev pub fc : ℕ → ℕ
fc x = x

abbrev pub lc : ℕ → ℕ
lc x = 2 + x

abbrev pub cf : ℕ
cf = 4

abbrev pub cl : ℕ
cl = 5

abbrev pub nx : ℕ
nx = 6

abbrev pub pr : ℕ
pr = 7

abbrev pub w : ℕ
w = 8

abbrev pub is_node : ℕ → ℕ → Bool
is_node n v = ltb 0 v && leb v n

-- word j of node v, 0 where v is none of the n nodes
unfoldable pub link : List ℕ → ℕ → ℕ → ℕ → ℕ
link t n v j = pick (is_node n v) (get_or t (table_words (v - 1) + j) 0) 0

-- v and u are nodes, link f of v is u, and link g of u is v
unfoldable pub paired : List ℕ → ℕ → ℕ → ℕ → ℕ → ℕ → Bool
paired t n v f u g = is_node n v && (is_node n u && (eqb (link t n v f) u && eqb (link t n u g) v))
