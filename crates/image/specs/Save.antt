-- Save (document 01, "Image"; document 02, #104).
use Rattle.std.specs.Prelude.{ℕ, ◌≡◌, List, ◌++◌, eqb, ltb, length, drop}
use Rattle.word.specs.Word.{pick}
use Rattle.word.specs.Refusal.{refuse}
use Rattle.step.specs.View.{Words}
use Rattle.machine.specs.Machine.{Machine, state_of, wrong_sizes, Bounded}
use Rattle.image.specs.Format.{newest, back_of, tail_words, image}

-- 10, as in a turn, then 9
abbrev pub save_of : Machine → List ℕ → ℕ
save_of x out =
    refuse (wrong_sizes x) 10
    (refuse (ltb (length out) (back_of newest x.state)) 9
    0)

-- the output at exit: the image at its front and the rest as it was, or untouched
abbrev pub out_after_save : Machine → List ℕ → List ℕ
out_after_save x out = pick (eqb (save_of x out) 0) (image newest (state_of x) ++ drop (back_of newest x.state) out) out

-- The bounds that the claims ask for and the types give: those of a turn, and words of 32 bits for the rest of what is saved.
pub record SaveBounds (x : Machine) : Type 0 where
  pub turn : Bounded x
  pub tail : Words (tail_words newest x.state)
  pub links : Words (state_of x).links

-- What a save of x promises of its answer a, and the bounds of its arguments, before it writes; and then of the output at exit.
pub record SaveDecided (x : Machine) (out : List ℕ) (a : ℕ) : Type 0 where
  pub answer : a ≡ save_of x out
  pub bounds : SaveBounds x

pub record SavePromise (x : Machine) (out : List ℕ) (a : ℕ) (out' : List ℕ) : Type 0 where
  pub decided : SaveDecided x out a
  pub output : out' ≡ out_after_save x out
