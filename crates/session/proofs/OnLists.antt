-- A call on the bench is a call of a list, since it is the call by value. Assumes nothing.
use mathlib.Core.Path.{refl, sym, subst}
use Rattle.machine.specs.declared.Record.{Record}
use Rattle.machine.specs.Machine.{machine_of}
use Rattle.lists.specs.Lists.{Call}
use Rattle.lists.specs.Lists.Call.{single, batch, samples, reads, refused_load}
use Rattle.lists.specs.Lists.Reading.{preview, save, check, check_node}
use Rattle.session.specs.Bench.{counts_in}
use Rattle.session.specs.Claims.{RecordIsAll, OnLists}
use Rattle.session.proofs.Loads.{load_kept}

pub on_lists : OnLists
on_lists x y =
    record {
      turn = λ d r h. single d x y r h;
      batch = λ d n r h. batch d n x y r.turns r.refusal h;
      samples = λ given l r h. samples given l x y (counts_in r) h;
      load = λ file r h e.
          subst (λ (s : Record). Call x 0 0 (machine_of s y.memory y.table)) (sym (load_kept h e))
          (refused_load file x (machine_of r.state y.memory y.table) r.refusal h.load e);
      preview = λ d r h. reads x (preview d r h);
      save = λ out out' r h. reads x (save out out' r h);
      check = λ r h. reads x (check r h);
      check_node = λ node r h. reads x (check_node node r h);
    }

pub record_is_all : RecordIsAll
record_is_all b = refl
