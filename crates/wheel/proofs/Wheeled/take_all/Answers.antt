use Rattle.std.proofs.Common.{rules, ◌≡◌, ◌∙◌, ap, sym, refl, arith}
use Rattle.word.specs.Refusal.{number, number_of}
use Rattle.word.proofs.Refusal.{number_above}
use Rattle.machine.specs.Machine.{machine_of}
use Rattle.wheel.specs.Wheel.{Counts}
use Rattle.wheel.proofs.Loop.{refused, begin, done, stopped, again, with_memory}
use Rattle.wheel.proofs.Wheeled.take_all.Goals as goal

pub returns-in_err-last : goal.returns-in_err-last
returns-in_err-last c =
    let g = c.args in
    let x = machine_of g.self.now.state g.mem.now g.table.now in
    let n : number c.from_residual.result ≡ 20 = search rules in
    record {
      left = rw n (refused g.samples.now x c.requires.start c.in_err-last.ensures.1);
      bounds = with_memory x c.requires.bounds c.type_inv.mem;
    }

pub loop-byte-init : goal.loop-byte-init
loop-byte-init c =
    let g = c.args in
    let x = machine_of g.self.now.state g.mem.now g.table.now in
    record {
      bounds = with_memory x c.requires.bounds c.type_inv.mem;
      at = ap (λ (a : Counts). a.last) c.requires.start ∙ sym c.in_ok-last.ensures;
      loop = begin g.samples.now x c.requires.start c.in_ok-last.last c.in_ok-last.ensures;
    }

pub returns-in_err-last-2 : goal.returns-in_err-last-2
returns-in_err-last-2 c =
    let n : number c.from_residual-in_err-last-2.result ≡ number_of c.in_err-last-2.field-0.0 = search rules in
    record {
      left = rw n (stopped c.loop-byte.invariant.loop c.loop-byte-test.true c.in_err-last-2.ensures.taken (λ z. omega (arith, number_above c.in_err-last-2.field-0.0)));
      bounds = c.loop-byte.invariant.bounds;
    }

pub loop-byte-preserved : goal.loop-byte-preserved
loop-byte-preserved c =
    record {
      bounds = c.loop-byte.invariant.bounds;
      at = c.in_ok-last-2.ensures.ok;
      loop = again c.loop-byte.invariant.loop c.loop-byte-test.true c.in_ok-last-2.ensures.taken refl;
    }

pub returns : goal.returns
returns c = record { left = done c.loop-byte.invariant.loop c.loop-byte-test.false; bounds = c.loop-byte.invariant.bounds }
