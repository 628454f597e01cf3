-- What an accepted load answers by the definitions: cited by nothing, and named in docs/PORT.md. Assumes nothing.
use mathlib.Core.Path.{◌≡◌, sym, ap, ◌∙◌}
use mathlib.Core.List.{List}
use Prim.Native.Nat.{ℕ, ◌-◌, ◌*◌}
use lib.ListN.{length, drop}
use borrow.Rule.Slice.PartMut.{mid_of}
use Rattle.step.specs.Table.{table_words}
use Rattle.machine.specs.Machine.{Machine, machine_of}
use Rattle.image.specs.declared.trailer.Trailer.{Trailer}
use Rattle.image.specs.Format.{trailer_of}
use Rattle.image.specs.Load.{load_refusal, start_of, filled, load_of, LoadPromise}
use Rattle.image.proofs.Parts.{all_left}

-- t is what the trailer was read to say
module _ (s mem table : List ℕ) {t : Trailer} (e : t ≡ trailer_of s) {n : ℕ} (f : n ≡ load_refusal t s mem table) where
  promised : {x : Machine} → x ≡ load_of t s mem table → LoadPromise s mem table n x
  promised m = record { refusal = f ∙ ap (λ (t : Trailer). load_refusal t s mem table) e; machine = m ∙ ap (λ (t : Trailer). load_of t s mem table) e }

  -- a and w are the first memory byte's place and the table's words as load found them
  pub load_accepts : {a w : ℕ} {mem' table' : List ℕ} → n ≡ 0 → a ≡ start_of t s → w ≡ table_words t.state.n
      → mem' ≡ filled t.state.m (mid_of a (length s - a) s) mem
      → table' ≡ filled w (drop (4 * t.state.m) (mid_of a (length s - a) s)) table
      → LoadPromise s mem table n (machine_of t.state mem' table')
  load_accepts {a = a} z k w g h =
      let l = sym f ∙ z in
      let i = all_left a s in
      promised (rw (g, h, l, i, w, k))
