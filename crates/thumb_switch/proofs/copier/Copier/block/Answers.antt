use Rattle.thumb_switch.proofs.copier.Copier.block.Goals as goal

pub returns-clause-blocked : goal.returns-clause-blocked
returns-clause-blocked c key t e f = c.block.ensures.routine c.self.invariant key t e f
