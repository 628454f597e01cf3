-- What an accepted turn leaves, by the effect that its word has. Assumes nothing.
use mathlib.Core.Path.{◌≡◌, sym, ap, ◌∙◌}
use mathlib.Core.List.{List}
use Prim.Native.Nat.{ℕ}
use Rattle.step.specs.declared.Direction.{Direction}
use Rattle.step.specs.declared.Effect.{Effect}
use Rattle.step.specs.Step.{Attempt}
use Rattle.std.specs.Prelude.{Ok}
use Rattle.step.specs.View.{View}
use Rattle.step.specs.Step.{store_of, store_in, performed}
use Rattle.machine.specs.Turn.{to, executed, turned}
use Rattle.machine.specs.Position.{is_last, advanced, position_after}
use Rattle.machine.specs.Preview.{planned_store}
use Rattle.machine.specs.Machine.{updated, Machine, left_as, state_of, view_of, Bounded}
use Rattle.machine.specs.Calls.{plan_of, refusal, next, found}
use Rattle.machine.specs.declared.Record.{Record}
use Rattle.machine.proofs.Sure.{made, landed_attempt, judged_attempt}
use Rattle.machine.proofs.Shown.{turn_leaves}

abbrev pub after_effect : Direction → Machine → Effect → Machine
after_effect d x e =
    let s = performed e (found d x) in
    left_as x (updated x.state (advanced d 1 x.state.position) s.at (to d s).regs) (store_in (store_of e (found d x).regs) x.memory)

-- e is the only effect that the word at pc can have
pub effected : (d : Direction) (x : Machine) → Bounded x → refusal d x ≡ 0 → (e : Effect)
    → ((f : Effect) → executed (state_of x).links d (found d x) ≡ Ok f → ◌≡◌ {A = Attempt} (Ok e) (Ok f)) → next d x ≡ after_effect d x e
effected d x g h e only =
    λ j. left_as x (answered (plan_is j)) (((turn_leaves x d g.view).memory ∙ ap (λ (a : Attempt). store_in (planned_store a s) x.memory) plan_is) j)
  where
    t : List ℕ
    t = (state_of x).links

    s : View
    s = found d x

    plan_is : plan_of d x ≡ Ok e
    plan_is =
        let m = made t d (is_last d x.state.position) (view_of x) h in
        m.is ∙ sym (only m.effect (landed_attempt d s _ (judged_attempt t d _ _ s _ m.is)))

    answered : Attempt → Record
    answered a = updated x.state (position_after d a x.state.position) (turned d a (view_of x)).at (turned d a (view_of x)).regs
