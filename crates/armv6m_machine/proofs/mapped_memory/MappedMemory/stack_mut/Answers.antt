use Rattle.std.proofs.Common.{rules, refl, ap}
use Rattle.armv6m_machine.specs.Lending.{with_stack}
use Rattle.armv6m_machine.proofs.mapped_memory.MappedMemory.stack_mut.Goals as goal

pub returns : goal.returns
returns c =
    let v = c.self.view_is in
    let n = c.self.invariant.2 in
    ((refl, (λ w. rw n (ap (λ s. with_stack s w) v))), record { writes_back = tt; value = search rules; size = search rules })
