use Rattle.std.proofs.Common.{◌≡◌}
use Rattle.machine.specs.Machine.{machine_of, Bounded}
use Rattle.wheel.specs.Samples.{byte_of}
use Rattle.wheel.specs.Wheel.{wheel_of, follow_of}
use Rattle.wheel.proofs.Loop.{Loop}
use Rattle.wheel.proofs.Wheeled.take_all.Given as goal

abbrev pub invariant-loop-byte : goal.invariant-loop-byte
invariant-loop-byte l =
    record {
      bounds : Bounded (machine_of l.initial.self.state l.initial.mem l.table);
      at : l.self.last ≡ byte_of l.last;
      loop : Loop l.samples (follow_of l.given l.samples (machine_of l.initial.self.state l.initial.mem l.table)) (wheel_of 0 l.self (machine_of l.self.state l.mem l.table)) l.byte-index;
    }
