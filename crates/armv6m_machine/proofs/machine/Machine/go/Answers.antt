use Rattle.std.proofs.Common.{◌≡◌, ◌+◌, suc, subst, arith}
use Rattle.thumb_code.specs.Machine.{step}
use Rattle.armv6m_machine.specs.declared.faults.Turn.{Turn}
use Rattle.armv6m_machine.specs.declared.faults.Turn.TheVariants.{Went}
use Rattle.armv6m_machine.specs.Steps.{IsStep}
use Rattle.armv6m_machine.specs.Stretches.{GoOn}
use Rattle.armv6m_machine.proofs.machine.Machine.go.Goals as goal

pub loop-before-preserved : goal.loop-before-preserved
loop-before-preserved c =
    let i = c.loop-before.invariant in
    let old = c.loop-before.self in
    let new = c.step.new.self in
    let went : IsStep (step old) Went old new = subst (λ (t : Turn). IsStep (step old) t old new) c.in-Went.is c.step.ensures.step in
    let count : suc c.loop-before.before ≡ c.loop-before.before + 1 = omega arith in
    (subst (λ n. GoOn n c.args.self.now new) count (old, i.0, went), c.if-before-most.true, λ f. c.step.ensures.flags (i.2 f))
