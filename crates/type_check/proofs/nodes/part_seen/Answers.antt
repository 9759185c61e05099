use Rattle.std.proofs.Common.{arith}
use Rattle.std.proofs.lemmas.Grind.{common_steps}
use Rattle.type_check.proofs.nodes.part_seen.Goals as goal

pub returns-in_err-own-clause-found : goal.returns-in_err-own-clause-found
returns-in_err-own-clause-found c = let h = c.is_callee.ensures c.args.context.now.known.now in grind (arith, common_steps, h)

pub returns-else-not-is_callee-clause-found : goal.returns-else-not-is_callee-clause-found
returns-else-not-is_callee-clause-found c = let h = c.is_callee.ensures c.args.context.now.known.now in grind (arith, common_steps, h)
