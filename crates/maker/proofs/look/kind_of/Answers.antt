use mathlib.Core.Path.{◌≡◌, refl, ap, ◌∙◌}
use mathlib.Core.Bool.{Bool, true, false, ◌&&◌}
use borrow.Author.Rules.{rules}
use Rattle.qins.specs.Decode.{opcode, reg1, reg2, low, bare, names_one}
use Rattle.maker.proofs.Fields.{kind_is, not_alone, other}
use Rattle.maker.proofs.look.kind_of.Goals.{After-alone}
use Rattle.maker.proofs.look.kind_of.Goals as goal

-- whether the word names one register alone
alone_is : (c : After-alone) → c.alone.result ≡ (bare (low c.args.w) && names_one (reg1 c.args.w) (reg2 c.args.w))
alone_is c = rw c.from-f.ensures at (c.alone.ensures ∙ ap (λ (b : Bool). bare c.from-f.result.i && b) c.names_one.ensures)

pub returns-then-not-alone : goal.returns-then-not-alone
returns-then-not-alone c =
    let w = c.args.w in
    not_alone (opcode w) (reg1 w) ∙ kind_is w (opcode w) false _ (alone_is (goal.at.returns-then-not-alone c).After-alone) refl c.if-not-alone.true

pub returns-in-24 : goal.returns-in-24
returns-in-24 c =
    rw c.from-f.ensures (kind_is c.args.w 24 true _ (alone_is (goal.at.returns-in-24 c).After-alone) (rw c.from-f.ensures at c.in-24.is) c.if-not-alone.false)

pub returns-in-25 : goal.returns-in-25
returns-in-25 c =
    rw c.from-f.ensures (kind_is c.args.w 25 true _ (alone_is (goal.at.returns-in-25 c).After-alone) (rw c.from-f.ensures at c.in-25.is) c.if-not-alone.false)

pub returns-in_default : goal.returns-in_default
returns-in_default c =
    let w = c.args.w in
    other (opcode w) (reg1 w) (search rules) (search rules) ∙ kind_is w (opcode w) true _ (alone_is (goal.at.returns-in_default c).After-alone) refl c.if-not-alone.false
