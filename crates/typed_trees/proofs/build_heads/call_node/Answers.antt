use Rattle.std.proofs.Common.{rules}
use Rattle.sts_syntax.proofs.Laws.{typed_call_tree}
use Rattle.typed_trees.proofs.build_heads.call_node.Goals as goal

pub returns : goal.returns
returns c = let k = typed_call_tree c.args.ty c.args.callee c.args.args in search (rules, k)
