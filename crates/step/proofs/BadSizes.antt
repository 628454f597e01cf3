-- What refusal 10 tests: what right sizes tell, and what leaves the test alone. Assumes nothing.
use mathlib.Core.Path.{◌≡◌}
use mathlib.Core.Bool.{true, false}
use mathlib.Core.List.{List}
use Prim.Native.Nat.{ℕ, ◌<◌, ◌≤◌}
use lib.Dec.{ltb, leb}
use lib.ListN.{length}
use borrow.Author.Tests.{leb-true, ltb-true, not-false}
use Rattle.word.proofs.Words.{and_true}
use Rattle.step.specs.Table.{table_words}
use Rattle.step.specs.Sizes.{max_words, max_nodes, in_range, bad_sizes}
use Rattle.step.specs.declared.Status.{Status}
use Rattle.step.proofs.Sized.{SameSizes}

-- K, M and N within their limits, and a memory l and a table t that are long enough
pub record RightSizes (at : Status) (l t : List ℕ) : Type 0 where
  pub range : in_range at ≡ true
  pub some : 0 < at.k
  pub code : at.k ≤ at.m
  pub words : at.m ≤ max_words
  pub nodes : at.n ≤ max_nodes
  pub memory : at.m ≤ length l
  pub links : table_words at.n ≤ length t

pub bad_sizes_right : (at : Status) (l t : List ℕ) → bad_sizes at l t ≡ false → RightSizes at l t
unfolding bad_sizes in_range
bad_sizes_right at l t h =
    let (range, enough) = and_true (in_range at) _ (not-false _ h) in
    let (some, a) = and_true (ltb 0 at.k) _ range in
    let (code, b) = and_true (leb at.k at.m) _ a in
    let (words, nodes) = and_true (leb at.m max_words) (leb at.n max_nodes) b in
    let (memory, links) = and_true (leb at.m (length l)) (leb (table_words at.n) (length t)) enough in
    record {
      range = range;
      some = ltb-true _ _ some;
      code = leb-true _ _ code;
      words = leb-true _ _ words;
      nodes = leb-true _ _ nodes;
      memory = leb-true _ _ memory;
      links = leb-true _ _ links;
    }

pub bad_sizes_same : (t : List ℕ) (at at' : Status) (l l' : List ℕ) → SameSizes at at' → length l' ≡ length l → bad_sizes at' l' t ≡ bad_sizes at l t
unfolding bad_sizes in_range
bad_sizes_same t at at' l l' z e = rw (z.k, z.m, z.n, e)
