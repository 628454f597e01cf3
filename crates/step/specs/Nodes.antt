-- An operation by whether it is a qif, a fiq or any other.
use Rattle.std.specs.Prelude.{ℕ, Bool, true, false}
use Rattle.qins.specs.Op.{Op}
use Rattle.qins.specs.Op.Op.{None, Start, Finish, Xor, Add, Sub, Neg, Swap, SwapBits, Fetch, Exchange, Qif, Fiq}

-- by the register of a qif, by that of a fiq, or the answer for any other operation
abbrev pub by_node : {A : Type 0} → Op → (ℕ → A) → (ℕ → A) → A → A
by_node None q f x = x
by_node Start q f x = x
by_node Finish q f x = x
by_node (Xor a v) q f x = x
by_node (Add a v) q f x = x
by_node (Sub a v) q f x = x
by_node (Neg a) q f x = x
by_node (Swap a b) q f x = x
by_node (SwapBits a b) q f x = x
by_node (Fetch a b) q f x = x
by_node (Exchange a v) q f x = x
by_node (Qif a) q f x = q a
by_node (Fiq a) q f x = f a

-- a qif or a fiq: no other operation sets the node
abbrev pub sets_node : Op → Bool
sets_node o = by_node o (λ a. true) (λ a. true) false
