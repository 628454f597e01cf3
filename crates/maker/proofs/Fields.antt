-- The kind of a word, by its fields. Assumes nothing.
use mathlib.Core.Path.{◌≡◌, refl, sym, ap, ap₂, ◌∙◌}
use mathlib.Core.Bool.{Bool, true, false, ◌&&◌, ◌||◌}
use Prim.Native.Nat.{ℕ}
use lib.Dec.{eqb}
use borrow.Author.Tests.{eqb-true, ne_eqb}
use Rattle.word.specs.Word.{pick}
use Rattle.word.proofs.Words.{and_true}
use Rattle.qins.specs.Op.{Op}
use Rattle.qins.specs.Op.Op.{None, Start}
use Rattle.qins.specs.Decode.{opcode, reg1, reg2, low, bare, names_one, line, operation, decode, is_instruction}
use Rattle.maker.specs.declared.Kind.{Kind}
use Rattle.maker.specs.declared.Kind.TheVariants.{Plain, Opens, Closes}
use Rattle.maker.specs.Idle.{idle_op, kind_of}

-- by the opcode, reg1, and whether the word names it alone
abbrev pub kind_by : ℕ → ℕ → Bool → Kind
kind_by o a test = pick (eqb o 24 && test) (Opens a) (pick (eqb o 25 && test) (Closes a) Plain)

line_kind : (o k : ℕ) (test : Bool) (op rest : Op) → kind_of (line o k test op rest) ≡ pick (eqb o k && test) (kind_of op) (kind_of rest)
unfolding line
line_kind o k test op rest = go (eqb o k && test)
  where
    go : (b : Bool) → kind_of (pick b op rest) ≡ pick b (kind_of op) (kind_of rest)
    go true = refl
    go false = refl

-- a plain line, before those of qif and fiq and after them
before : (o k : ℕ) (test : Bool) (op rest : Op) (a : ℕ) (t : Bool) → kind_by k a t ≡ Plain → kind_of op ≡ Plain → kind_of rest ≡ kind_by o a t
    → kind_of (line o k test op rest) ≡ kind_by o a t
before o k test op rest a t x h g = line_kind o k test op rest ∙ go (eqb o k && test) refl
  where
    go : (b : Bool) → (eqb o k && test) ≡ b → pick b (kind_of op) (kind_of rest) ≡ kind_by o a t
    go true e = h ∙ (sym x ∙ ap (λ (i : ℕ). kind_by i a t) (sym (eqb-true o k (and_true (eqb o k) test e).0)))
    go false e = g

behind : (o k : ℕ) (test : Bool) (op rest : Op) → kind_of op ≡ Plain → kind_of rest ≡ Plain → kind_of (line o k test op rest) ≡ Plain
behind o k test op rest h g = line_kind o k test op rest ∙ go (eqb o k && test)
  where
    go : (b : Bool) → pick b (kind_of op) (kind_of rest) ≡ Plain
    go true = h
    go false = g

module _ (o a b i : ℕ) where
  abbrev t : Bool
  t = bare i && names_one a b

  operation_kind : kind_of (operation o a b i) ≡ kind_by o a (bare i && names_one a b)
  unfolding operation
  operation_kind =
      before _ 1 _ _ _ a t refl refl (before _ 2 _ _ _ a t refl refl (before _ 3 _ _ _ a t refl refl (before _ 4 _ _ _ a t refl refl
      (before _ 5 _ _ _ a t refl refl (before _ 6 _ _ _ a t refl refl (before _ 7 _ _ _ a t refl refl (before _ 16 _ _ _ a t refl refl
      (before _ 17 _ _ _ a t refl refl (before _ 18 _ _ _ a t refl refl (before _ 19 _ _ _ a t refl refl (before _ 20 _ _ _ a t refl refl
      (before _ 21 _ _ _ a t refl refl (before _ 22 _ _ _ a t refl refl (before _ 23 _ _ _ a t refl refl
      (line_kind _ 24 _ _ _ ∙ ap (λ (k : Kind). pick (eqb o 24 && t) (Opens a) k)
      (line_kind _ 25 _ _ _ ∙ ap (λ (k : Kind). pick (eqb o 25 && t) (Closes a) k)
      (behind _ 26 _ _ _ refl (behind _ 27 _ _ _ refl (behind _ 32 _ _ _ refl (behind _ 33 _ _ _ refl (behind _ 33 _ _ _ refl
      (behind _ 34 _ _ _ refl (behind _ 34 _ _ _ refl (behind _ 35 _ _ _ refl (behind _ 35 _ _ _ refl (behind _ 35 _ _ _ refl
      (behind _ 35 _ _ _ refl (behind _ 35 _ _ _ refl refl))))))))))))))))))))))))))))

pub decode_kind : (w : ℕ) → kind_of (decode w) ≡ kind_by (opcode w) (reg1 w) (bare (low w) && names_one (reg1 w) (reg2 w))
unfolding decode
decode_kind w = operation_kind (opcode w) (reg1 w) (reg2 w) (low w)

-- a gate is of the same kind as it idles
pub idle_kind : (w : ℕ) → kind_of (idle_op w) ≡ kind_of (decode w)
unfolding idle_op
idle_kind w = go (eqb (opcode w) 32) (eqb (opcode w) 33) refl refl
  where
    t : Bool
    t = bare (low w) && names_one (reg1 w) (reg2 w)

    still : (b : Bool) → kind_of (pick b Start None) ≡ Plain
    still true = refl
    still false = refl

    gate : (k : ℕ) → eqb (opcode w) k ≡ true → kind_by k (reg1 w) t ≡ Plain → kind_of (pick (is_instruction w) Start None) ≡ kind_of (decode w)
    gate k e x =
        still (is_instruction w) ∙ sym (decode_kind w ∙ (ap (λ (i : ℕ). kind_by i (reg1 w) t) (eqb-true (opcode w) k e) ∙ x))

    go : (x y : Bool) → eqb (opcode w) 32 ≡ x → eqb (opcode w) 33 ≡ y → kind_of (pick (x || y) (pick (is_instruction w) Start None) (decode w)) ≡ kind_of (decode w)
    go true y e f = gate 32 e refl
    go false true e f = gate 33 f refl
    go false false e f = refl

-- ---- as the code finds it: t tells whether the word names reg1 alone

pub kind_is : (w o : ℕ) (t u : Bool) → u ≡ (bare (low w) && names_one (reg1 w) (reg2 w)) → opcode w ≡ o → u ≡ t → kind_by o (reg1 w) t ≡ kind_of (idle_op w)
kind_is w o t u h e f = ap₂ (λ (i : ℕ) (b : Bool). kind_by i (reg1 w) b) (sym e) (sym f ∙ h) ∙ sym (idle_kind w ∙ decode_kind w)

pub not_alone : (o a : ℕ) → Plain ≡ kind_by o a false
not_alone o a = go (eqb o 24) (eqb o 25)
  where
    go : (x y : Bool) → Plain ≡ pick (x && false) (Opens a) (pick (y && false) (Closes a) Plain)
    go true true = refl
    go true false = refl
    go false true = refl
    go false false = refl

pub other : (o a : ℕ) → ¬ (o ≡ 24) → ¬ (o ≡ 25) → Plain ≡ kind_by o a true
other o a n m = rw (ne_eqb o 24 n, ne_eqb o 25 m)
