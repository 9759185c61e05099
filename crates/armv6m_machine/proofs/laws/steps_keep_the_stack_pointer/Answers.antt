use Rattle.armv6m_machine.proofs.StackPointer.{steps_keep}
use Rattle.armv6m_machine.proofs.laws.steps_keep_the_stack_pointer.Goals as goal

pub returns : goal.returns
returns c = steps_keep
