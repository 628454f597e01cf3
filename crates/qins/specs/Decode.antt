-- Instruction words (document 01, "Instruction words"): the operation that each word stands for.
use Rattle.std.specs.Prelude.{ℕ, ◌*◌, ◌/◌, ◌%◌, ◌≡◌, Bool, not, ◌&&◌, eqb, ltb}
use Rattle.word.specs.Word.{pick, add_word}
use Rattle.qins.specs.Op.{Op}
use Rattle.qins.specs.declared.Fields.{Fields}
use Rattle.qins.specs.Op.Op.{None, Start, Finish, Xor, Add, Sub, Neg, Swap, SwapBits, Fetch, Exchange, Qif, Fiq}
use Rattle.qins.specs.Op.Source.{Imm, Reg, Negated, Complement, Sum, Product, Quotient, Equal, Less, IfZero, IfNonzero, Bit}

-- ---- the fields of a word

-- bits 31-24
abbrev pub opcode : ℕ → ℕ
opcode w = w / 16777216

-- bits 23-20
abbrev pub reg1 : ℕ → ℕ
reg1 w = w / 1048576 % 16

-- bits 19-16
abbrev pub reg2 : ℕ → ℕ
reg2 w = w / 65536 % 16

-- bits 15-0: the immediate of type I, reg3 and para of type O
abbrev pub low : ℕ → ℕ
low w = w % 65536

-- f are the fields of w
abbrev pub IsFields : ℕ → Fields → Type 0
IsFields w f = f ≡ record { o = opcode w; a = reg1 w; b = reg2 w; i = low w }

-- the low half's bits 15-12
abbrev pub reg3 : ℕ → ℕ
reg3 i = i / 4096

-- the low half is zero
abbrev pub bare : ℕ → Bool
bare i = eqb i 0

-- the low half has para p in its bits 11-8, and zeros beside it
abbrev pub para : ℕ → ℕ → Bool
para i p = eqb i (256 * p)

-- the same with reg3 beside it
abbrev pub para3 : ℕ → ℕ → Bool
para3 i p = eqb (i % 4096) (256 * p)

-- a 16-bit immediate with its sign extended to 32 bits
unfoldable pub extended : ℕ → ℕ
extended i = pick (ltb i 32768) i (add_word i 4294901760)

-- ---- which registers a word may name: br (1) never, pc (0) only where it is read, all different

-- no register
abbrev pub names_none : ℕ → ℕ → Bool
names_none a b = eqb a 0 && eqb b 0

-- a
abbrev pub names_one : ℕ → ℕ → Bool
names_one a b = ltb 1 a && eqb b 0

-- a, changed, and b, read
abbrev pub names_two : ℕ → ℕ → Bool
names_two a b = ltb 1 a && (not (eqb b 1) && not (eqb b a))

-- a and b, both not pc
abbrev pub names_both : ℕ → ℕ → Bool
names_both a b = names_two a b && ltb 1 b

-- a, changed, and b and c, read
abbrev pub names_three : ℕ → ℕ → ℕ → Bool
names_three a b c = names_two a b && (names_two a c && not (eqb c b))

-- ---- the table, a line an opcode and para

-- the operation where the opcode o is k and the test holds, else the rest
unfoldable pub line : ℕ → ℕ → Bool → Op → Op → Op
line o k test op rest = pick (eqb o k && test) op rest

-- by the opcode o, the registers a and b, and the low half i
-- in order: ld xori addi subi bra bez bnz; ldr fetr swap xor add sub; neg swbr qif fiq; start finish; uni unib ari arib
unfoldable pub operation : ℕ → ℕ → ℕ → ℕ → Op
operation o a b i =
    line o 1 (names_one a b) (Exchange a (Imm i))
    (line o 2 (names_one a b) (Xor a (Imm i))
    (line o 3 (names_one a b) (Add a (Imm i))
    (line o 4 (names_one a b) (Sub a (Imm i))
    (line o 5 (names_none a b) (Xor 1 (Imm (extended i)))
    (line o 6 (names_one a b) (Xor 1 (IfZero a (extended i)))
    (line o 7 (names_one a b) (Xor 1 (IfNonzero a (extended i)))
    (line o 16 (bare i && names_two a b) (Exchange a (Reg b))
    (line o 17 (bare i && names_two a b) (Fetch a b)
    (line o 18 (bare i && names_both a b) (Swap a b)
    (line o 19 (bare i && names_two a b) (Xor a (Reg b))
    (line o 20 (bare i && names_two a b) (Add a (Reg b))
    (line o 21 (bare i && names_two a b) (Sub a (Reg b))
    (line o 22 (bare i && names_one a b) (Neg a)
    (line o 23 (bare i && names_one a b) (Swap a 1)
    (line o 24 (bare i && names_one a b) (Qif a)
    (line o 25 (bare i && names_one a b) (Fiq a)
    (line o 26 (bare i && names_none a b) Start
    (line o 27 (bare i && names_none a b) Finish
    (line o 32 (para i 1 && names_one a b) (Xor a (Imm 1))
    (line o 33 (para i 1 && names_both a b) (Xor b (Bit a))
    (line o 33 (para i 2 && names_both a b) (SwapBits a b)
    (line o 34 (para i 1 && names_two a b) (Xor a (Negated b))
    (line o 34 (para i 2 && names_two a b) (Xor a (Complement b))
    (line o 35 (para3 i 1 && names_three a b (reg3 i)) (Xor a (Sum b (reg3 i)))
    (line o 35 (para3 i 2 && names_three a b (reg3 i)) (Xor a (Product b (reg3 i)))
    (line o 35 (para3 i 3 && names_three a b (reg3 i)) (Xor a (Quotient b (reg3 i)))
    (line o 35 (para3 i 4 && names_three a b (reg3 i)) (Xor a (Equal b (reg3 i)))
    (line o 35 (para3 i 5 && names_three a b (reg3 i)) (Xor a (Less b (reg3 i)))
    None))))))))))))))))))))))))))))

unfoldable pub decode : ℕ → Op
decode w = operation (opcode w) (reg1 w) (reg2 w) (low w)

-- the one word of start, and of finish: the opcode, and zeros
abbrev pub start_word : ℕ
start_word = 436207616

abbrev pub finish_word : ℕ
finish_word = 452984832

-- 0 no instruction, 1 start, 2 finish, 3 any other
abbrev pub kind : Op → ℕ
kind None = 0
kind Start = 1
kind Finish = 2
kind (Xor a v) = 3
kind (Add a v) = 3
kind (Sub a v) = 3
kind (Neg a) = 3
kind (Swap a b) = 3
kind (SwapBits a b) = 3
kind (Fetch a b) = 3
kind (Exchange a v) = 3
kind (Qif a) = 3
kind (Fiq a) = 3

abbrev pub is_instruction : ℕ → Bool
is_instruction w = not (eqb (kind (decode w)) 0)

-- Claim: start and finish are these words and no other
pub record OneWord : Type 0 where
  pub start : (w : ℕ) → eqb w start_word ≡ eqb (kind (decode w)) 1
  pub finish : (w : ℕ) → eqb w finish_word ≡ eqb (kind (decode w)) 2
