-- Lists of words of 32 bits, and the bounds of what save is passed, from what its types give. Assumes nothing.
use Prim.Native.Nat.{ℕ, zero, suc, ◌/◌, ◌%◌, ◌^◌, ◌<◌}
use mathlib.Core.Path.{◌≡◌}
use mathlib.Core.List.{List, [], ◌∷◌, ◌++◌}
use lib.Dec.{lit<}
use lib.IntN.{ℤ}
use lib.ListN.{length, get_or}
use mir.Syntax.{w32, w64}
use mir.Val.{Fits, SFits, of_z}
use Rattle.word.proofs.Bits.{low_fits, high_fits}
use Rattle.step.specs.Table.{table_words}
use Rattle.step.specs.View.{Words}
use Rattle.machine.specs.Machine.{Machine}
use Rattle.machine.proofs.Given.{words_take, given_bounds}
use Rattle.image.specs.Format.{position_words, further}
use Rattle.image.specs.Save.{SaveBounds}

words_nil : Words []
words_nil a = lit< tt

pub words_cons : (x : ℕ) (l : List ℕ) → x < 2 ^ 32 → Words l → Words (x ∷ l)
words_cons x l h k zero = h
words_cons x l h k (suc a) = k a

pub words_append : (l m : List ℕ) → Words l → Words m → Words (l ++ m)
words_append [] m h k = k
words_append (x ∷ l) m h k = words_cons x (l ++ m) (h 0) (words_append l m (λ a. h (suc a)) k)

position_words_lem : (p : ℤ) → SFits w64 p → Words (position_words p)
position_words_lem p f =
    let high = of_z w64 p / 2 ^ 32 in
    words_cons (of_z w64 p % 2 ^ 32) (high ∷ []) (low_fits p) (words_cons high [] (high_fits p f) words_nil)

pub save_bounds : (x : Machine) → (let r = x.state in
    length r.regs ≡ 16 → ((a : ℕ) → Fits w32 (get_or r.regs a 0)) → Fits w32 r.qifv → Fits w32 r.qifw
    → ((a : ℕ) → Fits w32 (get_or x.memory a 0)) → ((a : ℕ) → Fits w32 (get_or x.table a 0)) → SFits w64 r.position → SaveBounds x)
save_bounds x n f v w g h p =
    let r = x.state in
    record {
      turn = given_bounds x n f g p;
      tail = words_cons r.qifv (r.qifw ∷ further r) v.fits (words_cons r.qifw (further r) w.fits (position_words_lem r.position p));
      links = words_take (table_words r.n) x.table (λ a. (h a).fits);
    }
