use Rattle.maker.proofs.Copies.{copied_none, copied_more, copied_all}
use native.Mathlib.Omega.{arith}
use Rattle.maker.proofs.copy.Goals as goal

pub loop-i-init : goal.loop-i-init
loop-i-init c = copied_none c.args.from.now c.args.to.now

pub loop-i-preserved : goal.loop-i-preserved
loop-i-preserved c =
    copied_more c.args.from.now c.args.to.now c.loop-i.to c.loop-i.i (omega (arith, c.loop-i-test.true, c.loop-i.auto.to)) c.loop-i.invariant

pub returns : goal.returns
returns c = copied_all c.args.from.now c.args.to.now c.loop-i.to c.loop-i.i c.requires c.loop-i-test.false c.loop-i.invariant
