use Rattle.std.proofs.Common.{arith}
use Rattle.std.proofs.lemmas.Grind.{common_steps}
use Rattle.type_check.proofs.nodes.make_seen.Goals as goal

pub returns-in-None-clause-found : goal.returns-in-None-clause-found
returns-in-None-clause-found c = let h = c.made.ensures c.args.context.now.known.now in grind (arith, common_steps, h)

pub returns-in-Some-clause-found : goal.returns-in-Some-clause-found
returns-in-Some-clause-found c = let h = c.made.ensures c.args.context.now.known.now in grind (arith, common_steps, h)

pub returns-in-Some-clause-seen : goal.returns-in-Some-clause-seen
returns-in-Some-clause-seen c = let h = c.made.ensures c.args.context.now.known.now in grind (arith, common_steps, h)
