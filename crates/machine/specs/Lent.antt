-- The machine that a call works on, in the words of its contract: a record, with the memory and the table that are lent to the call.
use Rattle.std.specs.Prelude.{List, ℕ}
use Rattle.machine.specs.declared.Record.{Record}
use Rattle.machine.specs.Machine.{Machine, machine_of}

-- lent words, as a contract names them: `x.old` at entry and `x.new` at exit, or `x.now` where the call only reads them
abbrev pub Lent : Type 0
Lent = List ℕ

-- as the call finds it
abbrev pub at_entry : Record → Lent → Lent → Machine
at_entry r mem table = machine_of r mem table

-- and as it leaves it
abbrev pub at_exit : Record → Lent → Lent → Machine
at_exit r mem table = machine_of r mem table
