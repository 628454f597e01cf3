use Rattle.std.proofs.Common.{rules, []}
use Rattle.machine.specs.Machine.{machine_of}
use Rattle.machine.proofs.Given.{given_bounds}
use Rattle.wheel.proofs.follow.Goals as goal

pub take_all-ended-requires-clause-bounds : goal.take_all-ended-requires-clause-bounds
take_all-ended-requires-clause-bounds c = given_bounds (machine_of c.args.r [] []) (search rules) (λ a. search rules) (λ a. search rules) (search rules)
