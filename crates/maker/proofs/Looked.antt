-- What the look at a word says of it. Assumes nothing.
use mathlib.Core.Path.{◌≡◌, refl, subst}
use mathlib.Core.Bool.{Bool, true, false, not}
use mathlib.Core.List.{[]}
use Prim.Native.Nat.{ℕ}
use Rattle.word.specs.Word.{pick}
use Rattle.word.specs.Refusal.{refuse}
use Rattle.qins.specs.Op.Op.{Qif, Fiq}
use Rattle.step.specs.Step.{Attempt}
use Rattle.std.specs.Prelude.{Err, Ok}
use Rattle.step.specs.declared.Direction.TheVariants.{Forward}
use Rattle.step.specs.declared.Effect.{Effect}
use Rattle.step.specs.View.{View, placed}
use Rattle.step.specs.Step.{performed, attempt}
use Rattle.machine.specs.Turn.{pc, is_code, finishes, landed, to}
use Rattle.maker.specs.declared.Kind.{Kind}
use Rattle.maker.specs.declared.Kind.TheVariants.{Plain, Opens, Closes}
use Rattle.maker.specs.Walkable.{Look}
use Rattle.maker.specs.Walkable.Look.{halts, last, goes, forks, joins}
use Rattle.maker.proofs.Effects.{kind_of_shape, Fine, plain_effect, landed_effect}
use Rattle.maker.specs.Claims.{is_one_of, walk_refusals}
use Rattle.maker.specs.Idle.{op_at, kind_of, is_before_start, is_register, led_to, look_by, look_at}

-- ---- a qif, a fiq, or a word that leads on to z by the effect e

pub record AtQif (s : View) : Type 0 where
  pub a : ℕ
  pub op : op_at s ≡ Qif a
  pub named : is_register s a ≡ true
  pub code : is_code s.at (pc s) ≡ true
  pub runs : finishes s.memory (pc s) ≡ false
  pub free : is_before_start s ≡ false

pub record AtFiq (s : View) : Type 0 where
  pub a : ℕ
  pub op : op_at s ≡ Fiq a
  pub named : is_register s a ≡ true
  pub code : is_code s.at (pc s) ≡ true
  pub runs : finishes s.memory (pc s) ≡ false

pub record AtPlain (s z : View) : Type 0 where
  pub plain : kind_of (op_at s) ≡ Plain
  pub e : Effect
  pub does : landed Forward (placed 0 0 0 s) (attempt [] Forward (op_at s) (placed 0 0 0 s)) ≡ Ok e
  pub code : is_code s.at (pc s) ≡ true
  pub runs : finishes s.memory (pc s) ≡ false
  pub next : to Forward (performed e (placed 0 0 0 s)) ≡ z

abbrev Says : View → Look View → Type 0
Says s (halts k) = is_one_of k walk_refusals ≡ true
Says s last = (is_code s.at (pc s) ≡ true) × (finishes s.memory (pc s) ≡ true)
Says s (goes z) = AtPlain s z
Says s forks = AtQif s
Says s joins = AtFiq s

module _ (s : View) (code : is_code s.at (pc s) ≡ true) (runs : finishes s.memory (pc s) ≡ false) where
  by_effect : kind_of (op_at s) ≡ Plain → (x : Attempt)
      → landed Forward (placed 0 0 0 s) (attempt [] Forward (op_at s) (placed 0 0 0 s)) ≡ x → Fine x → Says s (led_to (placed 0 0 0 s) x)
  by_effect p (Err n) d f = f
  by_effect p (Ok e) d f = record { plain = p; e = e; does = d; code = code; runs = runs; next = refl }

  by_qif : (a : ℕ) → op_at s ≡ Qif a → (x y : Bool) → is_register s a ≡ x → is_before_start s ≡ y → Says s (refuse (not x) (halts 13) (refuse y (halts 18) forks))
  unfolding refuse
  by_qif a q true true h k = refl
  by_qif a q true false h k = record { a = a; op = q; named = h; code = code; runs = runs; free = k }
  by_qif a q false y h k = refl

  by_fiq : (a : ℕ) → op_at s ≡ Fiq a → (x : Bool) → is_register s a ≡ x → Says s (refuse (not x) (halts 13) joins)
  unfolding refuse
  by_fiq a q true h = record { a = a; op = q; named = h; code = code; runs = runs }
  by_fiq a q false h = refl

  by_kind : (k : Kind) → kind_of (op_at s) ≡ k → Says s (look_by k (op_at s) (placed 0 0 0 s))
  by_kind Plain q = by_effect q _ refl (landed_effect (placed 0 0 0 s) _ (plain_effect (op_at s) q s))
  by_kind (Opens a) q = by_qif a (kind_of_shape (op_at s) _ q) (is_register s a) (is_before_start s) refl refl
  by_kind (Closes a) q = by_fiq a (kind_of_shape (op_at s) _ q) (is_register s a) refl

by_tests : (s : View) (x y : Bool) → is_code s.at (pc s) ≡ x → finishes s.memory (pc s) ≡ y
    → Says s (refuse (not x) (halts 11) (pick y last (look_by (kind_of (op_at s)) (op_at s) (placed 0 0 0 s))))
unfolding refuse
by_tests s true true p q = (p, q)
by_tests s true false p q = by_kind s p q (kind_of (op_at s)) refl
by_tests s false y p q = refl

says : (s : View) → Says s (look_at s)
unfolding look_at
says s = by_tests s (is_code s.at (pc s)) (finishes s.memory (pc s)) refl refl

pub at_qif : (s : View) → look_at s ≡ forks → AtQif s
at_qif s e = subst (Says s) e (says s)

pub at_fiq : (s : View) → look_at s ≡ joins → AtFiq s
at_fiq s e = subst (Says s) e (says s)

pub at_plain : (s z : View) → look_at s ≡ goes z → AtPlain s z
at_plain s z e = subst (Says s) e (says s)

pub last_is : (s : View) → look_at s ≡ last → (is_code s.at (pc s) ≡ true) × (finishes s.memory (pc s) ≡ true)
last_is s e = subst (Says s) e (says s)

pub halt_is : (s : View) (k : ℕ) → look_at s ≡ halts k → is_one_of k walk_refusals ≡ true
halt_is s k e = subst (Says s) e (says s)

-- ---- and back

pub is_qif : (s : View) → AtQif s → look_at s ≡ forks
unfolding look_at refuse
is_qif s h = rw (h.code, h.runs, h.op, h.named, h.free)
