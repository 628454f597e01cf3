-- What one instruction does at a fixed pc, either way (document 01, "Effects", "A forward turn", "A back turn").
use Rattle.std.specs.Prelude.{ℕ, ◌+◌, ◌-◌, ◌%◌, Bool, not, ◌&&◌, List, eqb, ltb, leb, get_or, set, Result, Ok, Err, Option, Some, None}
use Rattle.std.specs.Int.Bits.{bit_xor}
use Rattle.word.specs.Word.{pick, add_word, sub_word, mul_word, div_word, complement, with_bit, is_less}
use Rattle.word.specs.Refusal.{refuse}
use Rattle.word.specs.declared.refusals.Refusal.{Refusal}
use Rattle.word.specs.declared.refusals.Refusal.TheVariants.{Instruction, Waiting, Address, Coin, Node}
use Rattle.qins.specs.Op.{Op, Source}
use Rattle.qins.specs.Op.Op.{Start, Finish, Xor, Add, Sub, Neg, Swap, SwapBits, Fetch, Exchange, Qif, Fiq}
use Rattle.qins.specs.Op.Source.{Imm, Reg, Negated, Complement, Sum, Product, Quotient, Equal, Less, IfZero, IfNonzero, Bit}
use Rattle.step.specs.View.{View, reg, with_node, flip}
use Rattle.step.specs.Table.{fc, lc, cf, cl, nx, pr, w, link, paired}
use Rattle.step.specs.declared.Status.{Status}
use Rattle.step.specs.declared.Direction.{Direction}
use Rattle.step.specs.declared.Direction.TheVariants.{Forward, Back}
use Rattle.step.specs.declared.Access.{Access}
use Rattle.step.specs.declared.Effect.{Effect}
use Rattle.step.specs.declared.Effect.TheVariants.{Nothing, Write, WriteTwo, SwapWord, SetNode}
use Rattle.step.specs.declared.Store.{Store}

-- what a word would do, or why it is refused
abbrev pub Attempt : Type 0
Attempt = Result Effect Refusal

-- ---- an effect, performed: its operands are read already

-- the registers after it
abbrev pub written : Effect → List ℕ → List ℕ → List ℕ
written Nothing l m = l
written (Write a v) l m = set l a v
written (WriteTwo a v b x) l m = set (set l a v) b x
written (SwapWord a i) l m = set l a (get_or m i 0)
written (SetNode u j) l m = l

-- the memory word that it stores, if it stores one
abbrev pub store_of : Effect → List ℕ → Option Store
store_of Nothing l = None
store_of (Write a v) l = None
store_of (WriteTwo a v b x) l = None
store_of (SwapWord a i) l = Some (record { address = i; value = get_or l a 0 })
store_of (SetNode u j) l = None

abbrev pub store_in : Option Store → List ℕ → List ℕ
store_in None m = m
store_in (Some s) m = set m s.address s.value

-- the memory after it
abbrev pub stored : Effect → List ℕ → List ℕ → List ℕ
stored e l m = store_in (store_of e l) m

-- the node and the wait count after it
abbrev pub marked : Effect → Status → Status
marked Nothing at = at
marked (Write a v) at = at
marked (WriteTwo a v b x) at = at
marked (SwapWord a i) at = at
marked (SetNode u j) at = with_node at u j

abbrev pub performed : Effect → View → View
performed e s =
    record { at = marked e s.at; regs = written e s.regs s.memory; memory = stored e s.regs s.memory }

-- ---- operands

-- a source's value, by the registers
unfoldable pub value : Source → List ℕ → ℕ
value (Imm i) l = i
value (Reg a) l = get_or l a 0
value (Negated a) l = sub_word 0 (get_or l a 0)
value (Complement a) l = complement (get_or l a 0)
value (Sum a b) l = add_word (get_or l a 0) (get_or l b 0)
value (Product a b) l = mul_word (get_or l a 0) (get_or l b 0)
value (Quotient a b) l = div_word (get_or l a 0) (get_or l b 0)
value (Equal a b) l = pick (eqb (get_or l a 0) (get_or l b 0)) 1 0
value (Less a b) l = pick (is_less (get_or l a 0) (get_or l b 0)) 1 0
value (IfZero a i) l = pick (eqb (get_or l a 0) 0) i 0
value (IfNonzero a i) l = pick (eqb (get_or l a 0) 0) 0 i
value (Bit a) l = get_or l a 0 % 2

-- x plus v, or less v on the way back
abbrev pub shifted : Direction → ℕ → ℕ → ℕ
shifted Forward x v = add_word x v
shifted Back x v = sub_word x v

-- ---- refusals, each by its number

-- 14 while waiting
abbrev pub is_ready : Status → Bool
is_ready at = eqb at.qifw 0

abbrev pub when_ready : Status → Attempt → Attempt
when_ready at rest = refuse (not (is_ready at)) (Err Waiting) rest

-- 15 by the kind of access: a copy may read any address below M, an exchange stays in K to M-1
abbrev pub is_allowed : Access → Status → ℕ → Bool
is_allowed Access.Copy at i = ltb i at.m
is_allowed Access.Exchange at i = leb at.k i && ltb i at.m

abbrev pub when_allowed : Access → Status → ℕ → Attempt → Attempt
when_allowed x at i rest = refuse (not (is_allowed x at i)) (Err Address) rest

-- 16 for a coin that is neither 0 nor 1
abbrev pub is_coin : ℕ → Bool
is_coin x = leb x 1

abbrev pub when_coin : ℕ → Attempt → Attempt
when_coin x rest = refuse (not (is_coin x)) (Err Coin) rest

-- ---- qif, waiting and fiq, over the table t, with coin x

module _ (t : List ℕ) where
  -- qif: from v to u, its first child
  unfoldable pub enter : Status → ℕ → ℕ → Attempt
  enter at x u = refuse (not (paired t at.n at.qifv (fc x) u cf)) (Err Node) (Ok (SetNode u (link t at.n u w)))

  -- the present node is v's first child, and the wait count is at most its w
  unfoldable pub child : Status → ℕ → ℕ → Attempt → Attempt
  child at x v rest =
      refuse (not (paired t at.n v (fc x) at.qifv cf)) (Err Node)
      (refuse (ltb (link t at.n at.qifv w) at.qifw) (Err Waiting) rest)

  unfoldable pub qif : Direction → Status → ℕ → Attempt
  qif Forward at x =
      pick (is_ready at)
      (enter at x (link t at.n at.qifv (fc x)))
      (child at x (link t at.n at.qifv cf) (Ok (SetNode at.qifv (at.qifw - 1))))
  qif Back at x =
      child at x (link t at.n at.qifv cf)
      (Ok (pick (ltb at.qifw (link t at.n at.qifv w)) (SetNode at.qifv (at.qifw + 1)) (SetNode (link t at.n at.qifv cf) 0)))

  -- fiq: v is p's last child and u is next to p; it leads to the node y, one of the two
  unfoldable pub pass : Status → ℕ → ℕ → ℕ → ℕ → ℕ → Attempt
  pass at x v p u y =
      refuse (not (paired t at.n p (lc x) v cl && paired t at.n p nx u pr)) (Err Node) (Ok (SetNode y at.qifw))

  unfoldable pub fiq : Direction → Status → ℕ → Attempt
  fiq Forward at x =
      let p = link t at.n at.qifv cl in
      let u = link t at.n p nx in
      pass at x at.qifv p u u
  fiq Back at x =
      let p = link t at.n at.qifv pr in
      let v = link t at.n p (lc x) in
      pass at x v p at.qifv v

  -- ---- an operation: its effect, or its refusal in the order 13, 14, 15, 16, 17, 14

  unfoldable pub attempt : Direction → Op → View → Attempt
  attempt d Op.None s = Err Instruction
  attempt d Start s = when_ready s.at (Ok Nothing)
  attempt d Finish s = when_ready s.at (Ok Nothing)
  attempt d (Xor a v) s = when_ready s.at (Ok (Write a (bit_xor (reg s a) (value v s.regs))))
  attempt d (Add a v) s = when_ready s.at (Ok (Write a (shifted d (reg s a) (value v s.regs))))
  attempt d (Sub a v) s = when_ready s.at (Ok (Write a (shifted (flip d) (reg s a) (value v s.regs))))
  attempt d (Neg a) s = when_ready s.at (Ok (Write a (sub_word 0 (reg s a))))
  attempt d (Swap a b) s = when_ready s.at (Ok (WriteTwo a (reg s b) b (reg s a)))
  attempt d (SwapBits a b) s = when_ready s.at (Ok (WriteTwo a (with_bit (reg s a) (reg s b)) b (with_bit (reg s b) (reg s a))))
  attempt d (Fetch a b) s = when_ready s.at (when_allowed Access.Copy s.at (reg s b) (Ok (Write a (bit_xor (reg s a) (get_or s.memory (reg s b) 0)))))
  attempt d (Exchange a v) s = when_ready s.at (when_allowed Access.Exchange s.at (value v s.regs) (Ok (SwapWord a (value v s.regs))))
  attempt d (Qif a) s = when_coin (reg s a) (qif d s.at (reg s a))
  attempt d (Fiq a) s = when_ready s.at (when_coin (reg s a) (fiq d s.at (reg s a)))
