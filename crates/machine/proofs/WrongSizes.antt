-- What right sizes of a machine tell of its lent words. Assumes nothing.
use mathlib.Core.Path.{◌≡◌}
use mathlib.Core.Bool.{false}
use native.Mathlib.Omega.{arith}
use lib.ListN.{length-take}
use Rattle.step.specs.Table.{table_words}
use Rattle.step.proofs.BadSizes.{RightSizes, bad_sizes_right}
use Rattle.machine.specs.Machine.{status_of, Machine, state_of, wrong_sizes}

pub wrong_sizes_right : (x : Machine) → wrong_sizes x ≡ false → RightSizes (status_of x.state) x.memory x.table
wrong_sizes_right x h =
    let r = x.state in
    let s = bad_sizes_right (status_of r) (state_of x).words (state_of x).links h in
    record {
      range = s.range;
      some = s.some;
      code = s.code;
      words = s.words;
      nodes = s.nodes;
      memory = omega (arith, s.memory, length-take r.m x.memory);
      links = omega (arith, s.links, length-take (table_words r.n) x.table);
    }
