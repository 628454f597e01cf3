-- Operations, which instruction words stand for. A register is given by its number.
use Rattle.std.specs.Prelude.{ℕ}

-- What an operation xors, adds, subtracts, or takes for an address.
pub data Source : Type 0 where
  -- the number
  Imm : ℕ → Source
  -- the register's word, its negation, its complement
  Reg : ℕ → Source
  Negated : ℕ → Source
  Complement : ℕ → Source
  -- of two registers
  Sum : ℕ → ℕ → Source
  Product : ℕ → ℕ → Source
  Quotient : ℕ → ℕ → Source
  -- 1 or 0
  Equal : ℕ → ℕ → Source
  Less : ℕ → ℕ → Source
  -- the number where the register is 0, or is not, else 0
  IfZero : ℕ → ℕ → Source
  IfNonzero : ℕ → ℕ → Source
  -- the register's bit 0
  Bit : ℕ → Source

-- Several instructions share an operation: bra, bez and bnz xor a source into br, uni 1 and unib 1 xor one into a register,
-- swbr is a swap with br.
pub data Op : Type 0 where
  -- no instruction
  None : Op
  Start : Op
  Finish : Op
  -- the source into the register
  Xor : ℕ → Source → Op
  Add : ℕ → Source → Op
  Sub : ℕ → Source → Op
  Neg : ℕ → Op
  -- two registers exchanged, or their bits 0
  Swap : ℕ → ℕ → Op
  SwapBits : ℕ → ℕ → Op
  -- the word at the second register's address xored into the first
  Fetch : ℕ → ℕ → Op
  -- the register exchanged with the word at the source
  Exchange : ℕ → Source → Op
  -- by the coin in the register
  Qif : ℕ → Op
  Fiq : ℕ → Op
