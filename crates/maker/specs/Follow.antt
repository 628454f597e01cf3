-- The machine's turns over a finished table: uni and unib idle, the position still, the coin of each qif chosen, its register set
-- at the qif and restored at its fiq (document 02, #107).
use Rattle.std.specs.Prelude.{ℕ, zero, suc, false, List, [], ◌∷◌, eqb}
use Rattle.word.specs.Word.{pick}
use Rattle.word.specs.Refusal.{number_of}
use Rattle.step.specs.declared.Direction.TheVariants.{Forward}
use Rattle.step.specs.Step.{Attempt}
use Rattle.std.specs.Prelude.{Err, Ok}
use Rattle.step.specs.View.{View, reg, with_reg}
use Rattle.step.specs.Step.{attempt}
use Rattle.machine.specs.Turn.{planned_by, turned}
use Rattle.maker.specs.declared.Kind.{Kind}
use Rattle.maker.specs.declared.Kind.TheVariants.{Plain, Opens, Closes}
use Rattle.maker.specs.Idle.{op_at, kind_of}

-- what a turn forward would do, away from the last position, with the idle operation at pc
abbrev pub idled : List ℕ → View → Attempt
idled t s = attempt t Forward (op_at s) s

abbrev pub planned_idle : List ℕ → View → Attempt
planned_idle t s = planned_by (idled t) t Forward false s

-- a coin register, and the word that it had before its qif
pub record Saved : Type 0 where
  pub register : ℕ
  pub word : ℕ

abbrev pub saved : View → ℕ → Saved
saved s a = record { register = a; word = reg s a }

-- what is turned, and what is to be restored, of the qif begun last first
pub record Walker : Type 0 where
  pub view : View
  pub begun : List Saved

pub data Went : Type 0 where
  halted : ℕ → Went
  went : Walker → Went

abbrev pub walker : View → List Saved → Walker
walker s l = record { view = s; begun = l }

-- a turn from s, refused or made, and what is then done with the view after it
abbrev pub by_turn : Attempt → View → (View → Walker) → Went
by_turn (Err e) s f = halted (number_of e)
by_turn (Ok e) s f = went (f (turned Forward (Ok e) s))

abbrev pub turn_then : List ℕ → View → (View → Walker) → Went
turn_then t s f = by_turn (planned_idle t s) s f

abbrev pub leaving : List ℕ → View → List Saved → Went
leaving t s [] = halted 17
leaving t s (x ∷ l) = turn_then t s (λ z. walker (with_reg z x.register x.word) l)

-- with coin x where a qif begins; a qif that waits goes on with its own
abbrev pub cycle_by : List ℕ → ℕ → Kind → View → List Saved → Went
cycle_by t x Plain s l = turn_then t s (λ z. walker z l)
cycle_by t x (Opens a) s l =
    pick (eqb s.at.qifw 0)
    (turn_then t (with_reg s a x) (λ z. walker z (saved s a ∷ l)))
    (turn_then t s (λ z. walker z l))
cycle_by t x (Closes a) s l = leaving t s l

unfoldable pub cycle : List ℕ → ℕ → Walker → Went
cycle t x g = cycle_by t x (kind_of (op_at g.view)) g.view g.begun

unfoldable pub by_went : Went → (Walker → Went) → Went
by_went (halted n) f = halted n
by_went (went g) f = f g

-- k cycles, the first of them number i, with the coins c
unfoldable pub follows : List ℕ → (ℕ → ℕ) → ℕ → ℕ → Walker → Went
follows t c zero i g = went g
follows t c (suc k) i g = by_went (cycle t (c i) g) (follows t c k (suc i))
