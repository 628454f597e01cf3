-- What is claimed of signed words and of the quotient (document 01, "Effects"; document 02, #108). Proved in proofs/Less.
use Rattle.std.specs.Prelude.{◌≡◌, ℕ, ◌+◌, ◌*◌, ◌/◌, ◌^◌, ◌<◌, ◌≤◌, true, ◌↔◌, pos, ◌+ℤ◌, nat_lt}
use Rattle.std.specs.Int.{w32}
use Rattle.std.proofs.Common.{to_z}
use Rattle.word.specs.Word.{add_word, div_word, signed, is_less}

-- by how much a word is above its signed value: 2 ^ 32 where its top bit is 1, else 0
abbrev pub wrap : ℕ → ℕ
wrap a = a / 2 ^ 31 * 2 ^ 32

-- a - wrap a < b - wrap b, without a number below 0
abbrev pub Below : ℕ → ℕ → Type 0
Below a b = a + wrap b < b + wrap a

-- Claim: of a word, the signed value, which is the number that the kit has for these bits
pub record Signed (a : ℕ) : Type 0 where
  pub value : signed a +ℤ pos (wrap a) ≡ pos a
  pub bits : signed a ≡ to_z w32 a

abbrev pub SignedWords : Type 0
SignedWords = (a : ℕ) → a < 2 ^ 32 → Signed a

-- Claim: of two words
pub record Compared (a b : ℕ) : Type 0 where
  pub less : (is_less a b ≡ true) ↔ Below a b
  -- with their top bits flipped the words are in that order
  pub flipped : is_less a b ≡ nat_lt (add_word a (2 ^ 31)) (add_word b (2 ^ 31))
  -- words with one signed value are one word, so that equal has no second rule
  pub equal : signed a ≡ signed b → a ≡ b

abbrev pub ComparedWords : Type 0
ComparedWords = (a b : ℕ) → a < 2 ^ 32 → b < 2 ^ 32 → Compared a b

-- q is how often b goes into a
abbrev pub IsQuotient : ℕ → ℕ → ℕ → Type 0
IsQuotient a b q = (q * b ≤ a) × (a < (q + 1) * b)

-- Claim: the quotient is that of the words as they stand
abbrev pub Divides : Type 0
Divides = (a b q : ℕ) → IsQuotient a b q → div_word a b ≡ q
