use Rattle.std.proofs.Common.{[], rules}
use Rattle.class_radio.proofs.run.close_all.Goals as goal

pub returns-in-Err-clause-closes : goal.returns-in-Err-clause-closes
returns-in-Err-clause-closes g c seen = (let p = c.in-Err.ensures seen c.requires.led in (p.part, p.failed))

pub returns-in-Err-clause-later : goal.returns-in-Err-clause-later
returns-in-Err-clause-later g c = (let p = c.in-Err.ensures [] c.requires.led in p.later)

pub returns-in-Ok-clause-closes : goal.returns-in-Ok-clause-closes
returns-in-Ok-clause-closes g c seen = (let p = c.in-Ok.ensures seen c.requires.led in (p.took, search rules, search rules))

pub returns-in-Ok-clause-later : goal.returns-in-Ok-clause-later
returns-in-Ok-clause-later g c = (let p = c.in-Ok.ensures [] c.requires.led in p.later)
