use Rattle.std.proofs.Common.{rules}
use Rattle.sts_syntax.proofs.Laws.{typed_make_tree}
use Rattle.typed_trees.proofs.build_heads.head_node.Goals as goal

pub returns-in-Make : goal.returns-in-Make
returns-in-Make c = let k = typed_make_tree c.object.result c.in-Make.class c.args.args in search (rules, k)
