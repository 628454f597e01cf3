-- The proof of the cycle of calls {branch, fork}: 2 nest + 1 and 2 nest fall.
use mathlib.Core.Path.{refl, sym, ◌∙◌}
use native.Mathlib.Omega.{arith}
use native.Mathlib.Nat.{pos_of_ne-zero}
use lib.ListN.{length}
use borrow.Author.Tests.{ltb-false}
use Rattle.std.proofs.lemmas.Result.{err_from_is_err_and}
use Rattle.maker.proofs.Rooms.{fits, deeper}
use Rattle.maker.proofs.Loops.{going, halted, finished_in, finished, joined, joined_out, limited, small, goes_on, fork_out, falls as fork-falls, fits as fork-fits, forks_on}
use Rattle.maker.proofs.Forking.{opened, closed, none, shut, refused₀, shut₀, refused₁, shut₁, short, differ, done}
use Rattle.maker.proofs.Bounds.+branch_fork.Goals as goal

-- ---- a branch

pub branch-loop-regs-init : goal.branch-loop-regs-init
branch-loop-regs-init t c =
    let g = c.args in
    (going g.self.k g.self.m g.self.limit g.nest g.inside g.from.node g.from.nodes g.from.used g.from.regs g.mem.now g.table.now, refl)

pub branch-returns-in_err-advance : goal.branch-returns-in_err-advance
branch-returns-in_err-advance t c =
    let p = err_from_is_err_and c.from_residual.result c.from_residual.ensures.1 in
    rw (p.1, p.2) (halted c.loop-regs.invariant.0 c.in_err-advance.field-0.0 _ _ c.in_err-advance.ensures)

pub branch-returns-in-Last : goal.branch-returns-in-Last
branch-returns-in-Last t c = finished_in c.loop-regs.invariant.0 _ _ _ (rw c.in-Last.is at c.in_ok-advance.ensures) c.if-inside.true

pub branch-returns-in-Last-2 : goal.branch-returns-in-Last-2
branch-returns-in-Last-2 t c = finished c.loop-regs.invariant.0 _ (rw c.in-Last-2.is at c.in_ok-advance.ensures) c.if-inside.false

pub branch-returns-in-Goes : goal.branch-returns-in-Goes
branch-returns-in-Goes t c = limited c.loop-regs.invariant.0 _ _ _ _ (rw c.in-Goes.is at c.in_ok-advance.ensures) c.if-self-at.true

pub branch-overflow_add-at-in-Goes-2 : goal.branch-overflow_add-at-in-Goes-2
branch-overflow_add-at-in-Goes-2 t c = record { fits = omega (arith, small c.loop-regs.invariant.0, c.if-self-at.false) }

pub branch-loop-regs-preserved-in-Goes-2 : goal.branch-loop-regs-preserved-in-Goes-2
branch-loop-regs-preserved-in-Goes-2 t c =
    (goes_on c.loop-regs.invariant.0 _ _ (rw c.in-Goes.is at c.in_ok-advance.ensures) c.if-self-at.false c.advance.auto.mem, c.loop-regs.invariant.1)

pub branch-returns-in_err-after-in-Forks : goal.branch-returns-in_err-after-in-Forks
branch-returns-in_err-after-in-Forks t c =
    let p = err_from_is_err_and c.from_residual-in_err-after-in-Forks.result c.from_residual-in_err-after-in-Forks.ensures.1 in
    rw (p.1, p.2) (fork_out c.loop-regs.invariant.0 _ (rw c.in-Forks.is at c.in_ok-advance.ensures) c.in_err-after-in-Forks.field-0.0 _ _ _ _ c.in_err-after-in-Forks.ensures)

pub branch-overflow_add-at-in-Forks : goal.branch-overflow_add-at-in-Forks
branch-overflow_add-at-in-Forks t c =
    record { fits = omega (arith, fork-fits c.loop-regs.invariant.0 _ (rw c.in-Forks.is at c.in_ok-advance.ensures) _ _ _ c.in_ok-after-in-Forks.ensures) }

pub branch-loop-regs-smaller : goal.branch-loop-regs-smaller
branch-loop-regs-smaller t c =
    fork-falls c.loop-regs.invariant.0 _ (rw c.in-Forks.is at c.in_ok-advance.ensures) _ _ _ c.in_ok-after-in-Forks.ensures

pub branch-loop-regs-preserved : goal.branch-loop-regs-preserved
branch-loop-regs-preserved t c =
    (forks_on c.loop-regs.invariant.0 _ (rw c.in-Forks.is at c.in_ok-advance.ensures) _ _ _ c.in_ok-after-in-Forks.ensures c.fork.auto.table (c.fork.auto.mem ∙ c.advance.auto.mem), c.fork.auto.scratch ∙ c.loop-regs.invariant.1)

pub branch-returns-in-Joins : goal.branch-returns-in-Joins
branch-returns-in-Joins t c = joined c.loop-regs.invariant.0 _ (rw c.in-Joins.is at c.in_ok-advance.ensures) c.if-inside-2.true

pub branch-returns-in-Joins-2 : goal.branch-returns-in-Joins-2
branch-returns-in-Joins-2 t c = joined_out c.loop-regs.invariant.0 _ _ _ (rw c.in-Joins-2.is at c.in_ok-advance.ensures) c.if-inside-2.false

-- ---- a qif

pub fork-returns-then-nest-eq0 : goal.fork-returns-then-nest-eq0
fork-returns-then-nest-eq0 t c =
    let g = c.args in
    none g.self.k g.self.m g.self.limit g.nest g.from g.mem.now g.table.now _ _ c.if-nest-eq0.true

pub fork-returns-in_err-check_qif : goal.fork-returns-in_err-check_qif
fork-returns-in_err-check_qif t c =
    let g = c.args in
    let p = err_from_is_err_and c.from_residual.result c.from_residual.ensures.1 in
    rw (p.1, p.2) (shut g.self.k g.self.m g.self.limit g.nest g.from g.mem.now g.table.now c.if-nest-eq0.false c.in_err-check_qif.field-0.0 _ _ c.in_err-check_qif.ensures)

pub fork-split_at_mut-saved-requires : goal.fork-split_at_mut-saved-requires
fork-split_at_mut-saved-requires t c =
    let g = c.args in omega (arith, fits g.nest g.self.m (length g.scratch.now) c.if-nest-eq0.false c.requires.1, c.requires.0)

pub fork-overflow_add-one : goal.fork-overflow_add-one
fork-overflow_add-one t c = record { fits = omega (arith, opened c.args.self.limit _ _ (sym c.in_ok-check_qif.ensures)) }

pub fork-overflow_add-one-2 : goal.fork-overflow_add-one-2
fork-overflow_add-one-2 t c = record { fits = omega (arith, opened c.args.self.limit _ _ (sym c.in_ok-check_qif.ensures)) }

pub fork-overflow_add-one-3 : goal.fork-overflow_add-one-3
fork-overflow_add-one-3 t c = record { fits = omega (arith, opened c.args.self.limit _ _ (sym c.in_ok-check_qif.ensures)) }

pub fork-branch-self-requires : goal.fork-branch-self-requires
fork-branch-self-requires t c =
    let g = c.args in (
      omega (arith, c.decreases, pos_of_ne-zero c.if-nest-eq0.false),
      (c.requires.0, deeper g.nest g.self.m (length g.scratch.now) _ c.if-nest-eq0.false c.requires.1 (omega (arith, c.split_at_mut-saved.ensures.back_len, c.requires.0))),
    )

pub fork-returns-in_err-first : goal.fork-returns-in_err-first
fork-returns-in_err-first t c =
    let g = c.args in
    let p = err_from_is_err_and c.from_residual-in_err-first.result c.from_residual-in_err-first.ensures.1 in
    let f = rw (c.enter-regs.ensures, c.coin_at-c.ensures) at c.in_err-first.ensures in
    rw (p.1, p.2) (refused₀ g.self.k g.self.m g.self.limit g.nest g.from g.mem.now g.table.now c.if-nest-eq0.false (sym c.in_ok-check_qif.ensures) c.in_err-first.field-0.0 _ _ _ _ f)

pub fork-returns-in_err-check_fiq : goal.fork-returns-in_err-check_fiq
fork-returns-in_err-check_fiq t c =
    let g = c.args in
    let p = err_from_is_err_and c.from_residual-in_err-check_fiq.result c.from_residual-in_err-check_fiq.ensures.1 in
    let f = rw (c.enter-regs.ensures, c.coin_at-c.ensures) at c.in_ok-first.ensures in
    rw (p.1, p.2) (shut₀ g.self.k g.self.m g.self.limit g.nest g.from g.mem.now g.table.now c.if-nest-eq0.false (sym c.in_ok-check_qif.ensures) c.in_ok-first.first c.branch-self.new.table c.branch-self.new.mem f c.in_err-check_fiq.field-0.0 _ _ (rw c.coin_at-c.ensures at c.in_err-check_fiq.ensures))

pub fork-overflow_add-two : goal.fork-overflow_add-two
fork-overflow_add-two t c =
    record { fits = omega (arith, closed _ _ c.args.self.limit _ _ _ _ _ _ (sym c.in_ok-check_fiq.ensures)) }

pub fork-branch-self-requires-2 : goal.fork-branch-self-requires-2
fork-branch-self-requires-2 t c =
    let g = c.args in (
      omega (arith, c.decreases, pos_of_ne-zero c.if-nest-eq0.false),
      (
        c.swap_with_slice.ensures.len ∙ (c.branch-self.auto.mem ∙ c.requires.0),
        deeper g.nest g.self.m (length g.scratch.now) _ c.if-nest-eq0.false c.requires.1 (omega (arith, c.branch-self.auto.scratch, c.split_at_mut-saved.ensures.back_len, c.requires.0)),
      ),
    )

pub fork-returns-in_err-second : goal.fork-returns-in_err-second
fork-returns-in_err-second t c =
    let g = c.args in
    let p = err_from_is_err_and c.from_residual-in_err-second.result c.from_residual-in_err-second.ensures.1 in
    let f = rw (c.enter-regs.ensures, c.coin_at-c.ensures) at c.in_ok-first.ensures in
    let shut-0 = rw c.coin_at-c.ensures at c.in_ok-check_fiq.ensures in
    let f₁ = rw (c.enter-regs-2.ensures, c.coin_at-c.ensures) at c.in_err-second.ensures in
    rw (p.1, p.2) (refused₁ g.self.k g.self.m g.self.limit g.nest g.from g.mem.now g.table.now c.if-nest-eq0.false (sym c.in_ok-check_qif.ensures) c.in_ok-first.first c.branch-self.new.table c.branch-self.new.mem f (sym shut-0) c.swap_with_slice.new.self (c.swap_with_slice.ensures.after ∙ c.copy.ensures) c.in_err-second.field-0.0 _ _ _ _ f₁)

pub fork-returns-in_err-check_fiq-2 : goal.fork-returns-in_err-check_fiq-2
fork-returns-in_err-check_fiq-2 t c =
    let g = c.args in
    let p = err_from_is_err_and c.from_residual-in_err-check_fiq-2.result c.from_residual-in_err-check_fiq-2.ensures.1 in
    let f = rw (c.enter-regs.ensures, c.coin_at-c.ensures) at c.in_ok-first.ensures in
    let shut-0 = rw c.coin_at-c.ensures at c.in_ok-check_fiq.ensures in
    let f₁ = rw (c.enter-regs-2.ensures, c.coin_at-c.ensures) at c.in_ok-second.ensures in
    rw (p.1, p.2) (shut₁ g.self.k g.self.m g.self.limit g.nest g.from g.mem.now g.table.now c.if-nest-eq0.false (sym c.in_ok-check_qif.ensures) c.in_ok-first.first c.branch-self.new.table c.branch-self.new.mem f (sym shut-0) c.swap_with_slice.new.self (c.swap_with_slice.ensures.after ∙ c.copy.ensures) c.in_ok-second.second c.branch-self-2.new.table c.branch-self-2.new.mem f₁ c.in_err-check_fiq-2.field-0.0 _ _ (rw c.coin_at-c.ensures at c.in_err-check_fiq-2.ensures))

pub fork-returns-then-not-agree : goal.fork-returns-then-not-agree
fork-returns-then-not-agree t c =
    let g = c.args in
    let f = rw (c.enter-regs.ensures, c.coin_at-c.ensures) at c.in_ok-first.ensures in
    let shut-0 = rw c.coin_at-c.ensures at c.in_ok-check_fiq.ensures in
    let f₁ = rw (c.enter-regs-2.ensures, c.coin_at-c.ensures) at c.in_ok-second.ensures in
    let shut-1 = rw c.coin_at-c.ensures at c.in_ok-check_fiq-2.ensures in
    let was = rw c.coin_at-c.ensures at c.look-old.ensures in
    let told = rw (c.coin_at-c.ensures, c.swap_with_slice.ensures.other_after) at c.agree.ensures in
    differ g.self.k g.self.m g.self.limit g.nest g.from g.mem.now g.table.now c.if-nest-eq0.false (sym c.in_ok-check_qif.ensures) c.in_ok-first.first c.branch-self.new.table c.branch-self.new.mem f (sym shut-0) c.swap_with_slice.new.self (c.swap_with_slice.ensures.after ∙ c.copy.ensures) c.in_ok-second.second c.branch-self-2.new.table c.branch-self-2.new.mem f₁ (sym shut-1) c.look-old.result was _ _ (sym told ∙ c.if-not-agree.true)

pub fork-join-requires : goal.fork-join-requires
fork-join-requires t c =
    let g = c.args in
    let f = rw (c.enter-regs.ensures, c.coin_at-c.ensures) at c.in_ok-first.ensures in
    let shut-0 = rw c.coin_at-c.ensures at c.in_ok-check_fiq.ensures in
    let f₁ = rw (c.enter-regs-2.ensures, c.coin_at-c.ensures) at c.in_ok-second.ensures in
    let few = opened g.self.limit _ _ (sym c.in_ok-check_qif.ensures) in
    let some = closed _ _ g.self.limit _ _ _ _ _ _ (sym c.in_ok-check_fiq-2.ensures) in (
      few.1,
      ltb-false 510 _ some.1,
      omega (arith, some.0),
      short g.self.k g.self.m g.self.limit g.nest g.from g.mem.now g.table.now c.if-nest-eq0.false (sym c.in_ok-check_qif.ensures) c.in_ok-first.first c.branch-self.new.table c.branch-self.new.mem f (sym shut-0) c.swap_with_slice.new.self (c.swap_with_slice.ensures.after ∙ c.copy.ensures) c.in_ok-second.second c.branch-self-2.new.table c.branch-self-2.new.mem f₁,
    )

pub fork-returns : goal.fork-returns
fork-returns t c =
    let g = c.args in
    let f = rw (c.enter-regs.ensures, c.coin_at-c.ensures) at c.in_ok-first.ensures in
    let shut-0 = rw c.coin_at-c.ensures at c.in_ok-check_fiq.ensures in
    let f₁ = rw (c.enter-regs-2.ensures, c.coin_at-c.ensures) at c.in_ok-second.ensures in
    let shut-1 = rw c.coin_at-c.ensures at c.in_ok-check_fiq-2.ensures in
    let was = rw c.coin_at-c.ensures at c.look-old.ensures in
    let told = rw (c.coin_at-c.ensures, c.swap_with_slice.ensures.other_after) at c.agree.ensures in
    let to = rw (c.leave.ensures, c.coin_at-c.ensures) at c.join.ensures.0 in
    rw to (done g.self.k g.self.m g.self.limit g.nest g.from g.mem.now g.table.now c.if-nest-eq0.false (sym c.in_ok-check_qif.ensures) c.in_ok-first.first c.branch-self.new.table c.branch-self.new.mem f (sym shut-0) c.swap_with_slice.new.self (c.swap_with_slice.ensures.after ∙ c.copy.ensures) c.in_ok-second.second c.branch-self-2.new.table c.branch-self-2.new.mem f₁ (sym shut-1) c.look-old.result was _ (sym told ∙ c.if-not-agree.false) c.join.ensures.1)
