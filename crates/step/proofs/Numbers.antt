-- By which number an operation is refused: 13 where there is none, else a higher one. Assumes nothing.
use mathlib.Core.Path.{◌≡◌, refl}
use mathlib.Core.Bool.{Bool, true, false}
use mathlib.Core.List.{List}
use Prim.Native.Nat.{ℕ, ◌<◌}
use native.Mathlib.Omega.{arith}
use lib.Dec.{eqb}
use borrow.Author.Tests.{ne_eqb}
use Rattle.word.specs.Word.{pick}
use Rattle.qins.specs.Op.{Op}
use Rattle.qins.specs.Op.Op.{None, Start, Finish, Xor, Add, Sub, Neg, Swap, SwapBits, Fetch, Exchange, Qif, Fiq}
use Rattle.qins.specs.Decode.{kind}
use Rattle.step.specs.View.{View}
use Rattle.word.specs.Refusal.{refuse}
use Rattle.step.specs.Step.{child, enter, qif, pass, fiq, attempt}
use Rattle.word.specs.Refusal.{number_of, number}
use Rattle.step.specs.declared.Status.{Status}
use Rattle.step.specs.declared.Direction.{Direction}
use Rattle.step.specs.declared.Direction.TheVariants.{Forward, Back}
use Rattle.step.specs.Step.{Attempt}
use Rattle.std.specs.Prelude.{Err, Ok}
use Rattle.word.specs.declared.refusals.Refusal.TheVariants.{Instruction, Waiting, Address, Coin, Node}
use Rattle.word.specs.declared.refusals.Refusal.{Refusal}

-- refused, if at all, by a number above k
abbrev pub Above : ℕ → Attempt → Type 0
Above k (Err n) = k < number_of n
Above k (Ok e) = Unit {0}

pub above : (k : ℕ) (b : Bool) (n : Refusal) (x : Attempt) → k < number_of n → Above k x → Above k (refuse b (Err n) x)
unfolding refuse
above k true n x h g = h
above k false n x h g = g

-- refused by 13, or if at all by a higher number
abbrev Numbered : Bool → Attempt → Type 0
Numbered true x = x ≡ Err Instruction
Numbered false x = Above 13 x

picked : (b : Bool) (x y : Attempt) → Above 13 x → Above 13 y → Above 13 (pick b x y)
picked true x y g h = g
picked false x y g h = h

later : (b : Bool) (n : Refusal) (x : Attempt) → 13 < number_of n → Above 13 x → Above 13 (refuse b (Err n) x)
later = above 13

module _ (t : List ℕ) where
  qif_numbered : (d : Direction) (at : Status) (x : ℕ) → Above 13 (qif t d at x)
  unfolding qif child enter
  qif_numbered Forward at x = picked (eqb at.qifw 0) _ _ (later _ Node _ (omega arith) tt) (later _ Node _ (omega arith) (later _ Waiting _ (omega arith) tt))
  qif_numbered Back at x = later _ Node _ (omega arith) (later _ Waiting _ (omega arith) tt)

  fiq_numbered : (d : Direction) (at : Status) (x : ℕ) → Above 13 (fiq t d at x)
  unfolding fiq pass
  fiq_numbered Forward at x = later _ Node _ (omega arith) tt
  fiq_numbered Back at x = later _ Node _ (omega arith) tt

  numbered : (d : Direction) (op : Op) (s : View) → Numbered (eqb (kind op) 0) (attempt t d op s)
  unfolding attempt
  numbered d None s = refl
  numbered d Start s = later _ Waiting _ (omega arith) tt
  numbered d Finish s = later _ Waiting _ (omega arith) tt
  numbered d (Xor a v) s = later _ Waiting _ (omega arith) tt
  numbered d (Add a v) s = later _ Waiting _ (omega arith) tt
  numbered d (Sub a v) s = later _ Waiting _ (omega arith) tt
  numbered d (Neg a) s = later _ Waiting _ (omega arith) tt
  numbered d (Swap a b) s = later _ Waiting _ (omega arith) tt
  numbered d (SwapBits a b) s = later _ Waiting _ (omega arith) tt
  numbered d (Fetch a b) s = later _ Waiting _ (omega arith) (later _ Address _ (omega arith) tt)
  numbered d (Exchange a v) s = later _ Waiting _ (omega arith) (later _ Address _ (omega arith) tt)
  numbered d (Qif a) s = later _ Coin _ (omega arith) (qif_numbered d s.at _)
  numbered d (Fiq a) s = later _ Waiting _ (omega arith) (later _ Coin _ (omega arith) (fiq_numbered d s.at _))

  -- 0 is no refusal's number
  pub attempt_above : (d : Direction) (op : Op) (s : View) → Above 0 (attempt t d op s)
  attempt_above d op s = go (eqb (kind op) 0) (attempt t d op s) (numbered d op s)
    where
      go : (b : Bool) (x : Attempt) → Numbered b x → Above 0 x
      go true x h = rw h (omega arith)
      go false (Err n) h = omega arith
      go false (Ok e) h = tt

  -- and 13 is that of no operation
  pub attempt_13 : (d : Direction) (op : Op) (s : View) → eqb (number (attempt t d op s)) 13 ≡ eqb (kind op) 0
  attempt_13 d op s = go (eqb (kind op) 0) (attempt t d op s) (numbered d op s)
    where
      go : (b : Bool) (x : Attempt) → Numbered b x → eqb (number x) 13 ≡ b
      go true x h = rw h refl
      go false (Err n) h = ne_eqb (number_of n) 13 (omega arith)
      go false (Ok e) h = refl
