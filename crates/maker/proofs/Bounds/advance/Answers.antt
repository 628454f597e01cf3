-- What stands at pc: the tests of the code are those of the look.
use mathlib.Core.Bool.{true, false}
use mathlib.Core.Path.{◌≡◌, refl, sym, ap, ◌∙◌}
use Prim.Native.Nat.{ℕ}
use lib.ListN.{get_or}
use borrow.Author.Rules.{rules}
use borrow.Author.Tests.{ne_eqb}
use Rattle.qins.specs.Decode.{finish_word}
use Rattle.maker.specs.Idle.{idle_op, kind_of, plain}
use Rattle.maker.specs.Parts.{view_at}
use Rattle.maker.proofs.Fields.{idle_kind}
use Rattle.maker.proofs.Stepped.{seen_as, look_out, look_last, look_qif, look_fiq, look_plain}
use Rattle.maker.proofs.Bounds.advance.Goals.{After-kind_of}
use Rattle.maker.proofs.Bounds.advance.Goals as goal

-- the word at pc is not finish, and its kind is what the code finds
runs : (c : After-kind_of) → ¬ (get_or c.args.mem.now (get_or c.args.regs 0 0) 0 ≡ finish_word)
runs c = λ e. c.if-w-eq-FINISH.false (c.look-w.ensures ∙ e)

kind_is : (c : After-kind_of) → kind_of (idle_op (get_or c.args.mem.now (get_or c.args.regs 0 0) 0)) ≡ c.kind_of.result
kind_is c = ap (λ (i : ℕ). kind_of (idle_op i)) (sym c.look-w.ensures) ∙ sym c.kind_of.ensures

pub returns-then-self-pc : goal.returns-then-self-pc
returns-then-self-pc c =
    let g = c.args in look_out g.self.k g.self.m g.regs g.mem.now c.if-self-pc.true

pub returns-then-w-eq-FINISH : goal.returns-then-w-eq-FINISH
returns-then-w-eq-FINISH c =
    let g = c.args in (look_last g.self.k g.self.m g.regs g.mem.now c.if-self-pc.false (sym c.look-w.ensures ∙ c.if-w-eq-FINISH.true), refl)

pub returns-in-Opens : goal.returns-in-Opens
returns-in-Opens c =
    let g = c.args in
    let k = (goal.at.returns-in-Opens c).After-kind_of in
    look_qif g.self.k g.self.m g.regs g.mem.now c.if-self-pc.false (runs k) _ (search rules) (kind_is k ∙ c.in-Opens.is) true (sym c.is_before_start.ensures ∙ c.if-is_before_start.true)

pub returns-in-Opens-2 : goal.returns-in-Opens-2
returns-in-Opens-2 c =
    let g = c.args in
    let k = (goal.at.returns-in-Opens-2 c).After-kind_of in
    (look_qif g.self.k g.self.m g.regs g.mem.now c.if-self-pc.false (runs k) _ (search rules) (kind_is k ∙ c.in-Opens.is) false (sym c.is_before_start.ensures ∙ c.if-is_before_start.false), refl)

pub returns-in-Closes : goal.returns-in-Closes
returns-in-Closes c =
    let g = c.args in
    let k = (goal.at.returns-in-Closes c).After-kind_of in
    (look_fiq g.self.k g.self.m g.regs g.mem.now c.if-self-pc.false (runs k) _ (search rules) (kind_is k ∙ c.in-Closes.is), refl)

pub plain_turn-requires : goal.plain_turn-requires
plain_turn-requires c =
    let k = (goal.at.plain_turn-requires c).After-kind_of in
    (c.requires, sym c.look-w.ensures, (c.if-self-pc.false, ne_eqb _ _ (runs k), sym (idle_kind _) ∙ (kind_is k ∙ c.in-Plain.is)))

pub returns-in-Plain : goal.returns-in-Plain
returns-in-Plain c =
    let g = c.args in
    let k = (goal.at.returns-in-Plain c).After-kind_of in
    seen_as g.self.k g.self.m g.mem.now c.plain_turn.new.mem c.plain_turn.result
    (ap (λ (i : ℕ). plain (idle_op i) (view_at g.self.k g.self.m g.regs g.mem.now)) c.look-w.ensures
    ∙ sym (look_plain g.self.k g.self.m g.regs g.mem.now c.if-self-pc.false (runs k) (kind_is k ∙ c.in-Plain.is))) c.plain_turn.ensures
