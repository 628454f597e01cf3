-- The machine that a bench is with lent words, what the sample call counts on it, and what a load on it promises.
use Rattle.std.specs.Prelude.{ℕ, ◌≡◌, List, eqb}
use Rattle.word.specs.Word.{pick}
use Rattle.machine.specs.Machine.{Machine, machine_of}
use Rattle.machine.specs.Lent.{Lent, at_entry, at_exit}
use Rattle.wheel.specs.Wheel.{Counts}
use Rattle.image.specs.Load.{LoadPromise}
use Rattle.image.specs.declared.Loaded.{Loaded}
use Rattle.session.specs.declared.Bench.{Bench}
use Rattle.session.specs.declared.Sampled.{Sampled}

-- the bench that is lent to a call, as a contract names it: `b.old` at entry and `b.new` at exit, or `b.now` where the call only looks
abbrev pub LentBench : Type 0
LentBench = Bench

-- the machine as a call finds it, and as it leaves it
abbrev pub bench_at_entry : LentBench → Lent → Lent → Machine
bench_at_entry b mem table = at_entry b.state mem table

abbrev pub bench_at_exit : LentBench → Lent → Lent → Machine
bench_at_exit b mem table = at_exit b.state mem table

abbrev pub counts_in : Sampled → Counts
counts_in s = record { forward = s.forward; back = s.back; refused = s.refused; last = s.last; refusal = s.refusal }

-- What a load on the bench x promises, which gives the answer a and leaves the bench y: a is what load by value answers, and the
-- bench has the record of a if the load is accepted, else its own.
pub record BenchLoadPromise (file : List ℕ) (x : Machine) (a : Loaded) (y : Machine) : Type 0 where
  pub load : LoadPromise file x.memory x.table a.refusal (machine_of a.state y.memory y.table)
  pub bench : y.state ≡ pick (eqb a.refusal 0) a.state x.state
