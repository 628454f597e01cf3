-- The whole walk: memory and table are put in order around the walk of the outermost branch.
use native.Mathlib.Omega.{arith}
use mathlib.Core.Path.{sym, ap, ◌∙◌}
use Prim.Native.Nat.{ℕ, ◌-◌}
use lib.ListN.{length, replicate}
use Rattle.machine.specs.declared.Record.{Record}
use Rattle.maker.specs.Make.{walk_over, made_as}
use Rattle.maker.proofs.Rooms.{as_long, room_eight}
use Rattle.maker.proofs.Wholes.{refused_made, ended_made}
use Rattle.maker.proofs.walk_whole.Goals as goal

pub branch-walked-requires : goal.branch-walked-requires
branch-walked-requires c =
    let m = length c.args.mem.now in
    let s = length c.args.scratch.now in
    (c.requires.0.3, as_long 8 m (s - m) _ _ (sym c.requires.0.3) (omega (arith, c.split_at_mut-saved.ensures.back_len)) (room_eight m s (omega (arith, c.requires.1, c.requires.0.3))))

pub returns-in_Ok-walked : goal.returns-in_Ok-walked
returns-in_Ok-walked c =
    let g = c.args in
    let m = ended_made g.r g.r.k g.r.m (walk_over g.r g.limit g.mem.now) c.fill.new.self c.branch-walked.new.table c.branch-walked.new.mem c.in_Ok-walked.end c.in_Ok-walked.ensures
    (c.fill.ensures.after (λ y e. e) ∙ ap (λ (n : ℕ). replicate n 0) c.requires.2) in
    (ap (λ (s : Record). made_as 0 c.in_Ok-walked.end.cycles s) c.at_node_one.ensures ∙ m.0, m.1, c.copy-2.ensures ∙ c.copy.ensures)

pub returns-in_Err-walked : goal.returns-in_Err-walked
returns-in_Err-walked c =
    let g = c.args in
    let m = refused_made g.r g.r.k g.r.m (walk_over g.r g.limit g.mem.now) c.fill.new.self c.branch-walked.new.table c.branch-walked.new.mem c.in_Err-walked.refusal c.in_Err-walked.ensures in (
      m.0,
      c.fill-in_Err-walked.ensures.after (λ y e. e) ∙ (ap (λ (n : ℕ). replicate n 0) (c.branch-walked.auto.table ∙ c.fill.ensures.len ∙ c.requires.2) ∙ m.1),
      c.copy-2.ensures ∙ c.copy.ensures,
    )
