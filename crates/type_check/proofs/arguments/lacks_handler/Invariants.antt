use Rattle.std.proofs.Common.{◌≡◌, drop, map}
use Rattle.sts_syntax.specs.BoardViews.{board_parameter}
use Rattle.sts_syntax.specs.Views.{trees}
use Rattle.type_derive.specs.Nodes as node
use Rattle.type_derive.specs.Scopes.{place}
use Rattle.type_check.proofs.arguments.lacks_handler.Given as goal

abbrev pub invariant-loop-i : goal.invariant-loop-i
invariant-loop-i l =
    node.lacks_handler l.context.tables.now l.context.known.now (place l.scope) (map board_parameter (drop l.i l.takes)) (trees (drop l.i l.args))
    ≡ node.lacks_handler l.context.tables.now l.context.known.now (place l.scope) (map board_parameter l.takes) (trees l.args)
