use Rattle.thumb_code.proofs.decoding.miscellaneous.Goals as goal

pub returns-in-2-clause-same : goal.returns-in-2-clause-same
returns-in-2-clause-same c = rw c.in-2.is c.extends.ensures.same
