use Rattle.std.proofs.Common.{ap, subst}
use Rattle.thumb_code.specs.Machine.{State, step}
use Rattle.armv6m_machine.specs.Steps.{IsStep}
use Rattle.armv6m_machine.proofs.TurnSteps.{at_pc_step, fault_leaves}
use Rattle.armv6m_machine.proofs.machine.Machine.step.Goals as goal

pub returns-in-Ok-clause-step : goal.returns-in-Ok-clause-step
returns-in-Ok-clause-step c =
    let v = c.self.view_is in
    let after : State = record { registers = c.execute_at_pc.new.registers; memory = c.execute_at_pc.new.memory } in
    let P : State → Type 0 = λ s. IsStep (step s) c.execute_at_pc.result s after in
    subst P v (at_pc_step (record { registers = c.self.inside.registers; memory = c.self.inside.memory }) c.in-Ok.found.0 c.in-Ok.found.1 c.execute_at_pc.result c.execute_at_pc.new.registers c.execute_at_pc.new.memory
    (rw (← v) at c.in-Ok.ensures.value) c.in-Ok.ensures.instruction.1 c.execute_at_pc.ensures.row)

pub returns-in-Ok-clause-again : goal.returns-in-Ok-clause-again
returns-in-Ok-clause-again c =
    let after : State = record { registers = c.execute_at_pc.new.registers; memory = c.execute_at_pc.new.memory } in
    λ f. ap (λ s. step s) (fault_leaves (step c.args.self.now) c.execute_at_pc.result c.args.self.now after (returns-in-Ok-clause-step c) f)
