-- What an instruction sees: the registers, the status beside them, and the memory's M words.
use Rattle.std.specs.Prelude.{ℕ, ◌^◌, ◌<◌, ◌≡◌, List, length, get_or, set, take}
use Rattle.step.specs.Table.{table_words}
use Rattle.step.specs.declared.Status.{Status}
use Rattle.step.specs.declared.Seen.{Seen}
use Rattle.step.specs.declared.table.Nodes.{Nodes}
use Rattle.step.specs.declared.Direction.{Direction}
use Rattle.step.specs.declared.Direction.TheVariants.{Forward, Back}

pub record View : Type 0 where
  pub at : Status
  pub regs : List ℕ
  pub memory : List ℕ

-- register a, 0 where there is none
abbrev pub reg : View → ℕ → ℕ
reg s a = get_or s.regs a 0

-- the view with another word in register a
abbrev pub with_reg : View → ℕ → ℕ → View
with_reg s a v = record { at = s.at; regs = set s.regs a v; memory = s.memory }

-- the status of these sizes, at no node and with no wait
abbrev pub sized : ℕ → ℕ → ℕ → Status
sized k m n = record { qifv = 0; qifw = 0; k = k; m = m; n = n }

-- the status with another node and wait count
abbrev pub with_node : Status → ℕ → ℕ → Status
with_node at u j = record { qifv = u; qifw = j; k = at.k; m = at.m; n = at.n }

-- and with a table of another n nodes
abbrev pub with_nodes : Status → ℕ → Status
with_nodes at n = record { qifv = at.qifv; qifw = at.qifw; k = at.k; m = at.m; n = n }

-- the view at node v of n, with wait count j
abbrev pub placed : ℕ → ℕ → ℕ → View → View
placed n v j s = record { at = with_node (with_nodes s.at n) v j; regs = s.regs; memory = s.memory }

-- the first M lent words, and the first 9 N, are all that counts
abbrev pub seen : Status → List ℕ → List ℕ → View
seen at regs mem = record { at = at; regs = regs; memory = take at.m mem }

abbrev pub nodes : Status → List ℕ → List ℕ
nodes at table = take (table_words at.n) table

-- the view that is lent, and the links beside it
abbrev pub view_in : Seen → View
view_in s = seen s.at s.regs.now s.mem.now

abbrev pub links_in : Seen → List ℕ
links_in s = nodes s.at s.table.now

-- the words of a table of nodes that count
abbrev pub words_in : Nodes → List ℕ
words_in t = take (table_words t.n) t.words.now

-- The bounds that the laws ask for and the types give: sixteen registers, and words of 32 bits.
-- Each call proves them of its own arguments.
abbrev pub Words : List ℕ → Type 0
Words l = (a : ℕ) → get_or l a 0 < 2 ^ 32

pub record Bounds (s : View) : Type 0 where
  pub sixteen : length s.regs ≡ 16
  pub regs : Words s.regs
  pub words : Words s.memory

abbrev pub flip : Direction → Direction
flip Forward = Back
flip Back = Forward

-- a forward, b back
abbrev pub by_way : {A : Type 0} → Direction → A → A → A
by_way Forward a b = a
by_way Back a b = b
