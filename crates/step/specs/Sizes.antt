-- The sizes (document 01, "State"): M is 1 to 8,192 words, K is 1 to M, and N is 0 to 511 nodes.
use Rattle.std.specs.Prelude.{ℕ, Bool, not, ◌&&◌, List, ltb, leb, length}
use Rattle.step.specs.Table.{table_words}
use Rattle.step.specs.declared.Status.{Status}

abbrev pub max_words : ℕ
max_words = 8192

abbrev pub max_nodes : ℕ
max_nodes = 511

unfoldable pub in_range : Status → Bool
in_range at = ltb 0 at.k && (leb at.k at.m && (leb at.m max_words && leb at.n max_nodes))

-- a words of memory and b of table are enough
abbrev pub is_enough : Status → ℕ → ℕ → Bool
is_enough at a b = leb at.m a && leb (table_words at.n) b

-- refusal 10: sizes out of range, or the memory l or the table t too short
unfoldable pub bad_sizes : Status → List ℕ → List ℕ → Bool
bad_sizes at l t = not (in_range at && is_enough at (length l) (length t))
