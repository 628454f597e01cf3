-- A load on the bench. Assumes nothing.
use mathlib.Core.Path.{◌≡◌, sym, ap, ◌∙◌, subst₂}
use mathlib.Core.Logic.{◌≢◌}
use mathlib.Core.List.{List}
use Prim.Native.Nat.{ℕ}
use borrow.Author.Tests.{ne_eqb}
use Rattle.machine.specs.declared.Record.{Record}
use Rattle.machine.specs.Machine.{Machine, machine_of}
use Rattle.image.specs.Load.{LoadPromise}
use Rattle.image.specs.declared.Loaded.{Loaded}
use Rattle.image.proofs.RoundTrip.{refused_loads}
use Rattle.session.specs.Bench.{BenchLoadPromise}
use Rattle.session.specs.Claims.{BenchLoads}

-- the promise says which record the bench has
pub load_kept : {file : List ℕ} {x y : Machine} {a : Loaded} → BenchLoadPromise file x a y → a.refusal ≢ 0 → y.state ≡ x.state
load_kept {a = a} p e = p.bench ∙ rw (ne_eqb a.refusal 0 e)

load_taken : {file : List ℕ} {x y : Machine} {a : Loaded} → BenchLoadPromise file x a y → a.refusal ≡ 0 → y.state ≡ a.state
load_taken {a = a} p e = p.bench ∙ rw e

pub bench_loads : BenchLoads
bench_loads =
    record {
      refused = λ file x y a p e.
          let z = refused_loads file x.memory x.table a.refusal _ p.load e in
          ((λ i. machine_of (load_kept p e i) (z i).memory (z i).table), ap (λ (u : Machine). u.state) z);
      accepted = λ file x y a p e.
          subst₂ (λ (n : ℕ) (r : Record). LoadPromise file x.memory x.table n (machine_of r y.memory y.table)) e (sym (load_taken p e)) p.load;
    }
