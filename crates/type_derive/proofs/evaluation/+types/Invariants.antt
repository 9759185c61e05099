use Rattle.std.proofs.Common.{◌≡◌, drop, map}
use Rattle.std.specs.Prelude.{◌&&◌}
use Rattle.sts_syntax.specs.BoardViews.{board_parameter}
use Rattle.sts_syntax.specs.Views.{trees}
use Rattle.type_derive.specs.Scopes.{place}
use Rattle.type_derive.specs.Typing.{types_of, are_given}
use Rattle.type_derive.proofs.Going.{typed_go, typed_go_to}
use Rattle.type_derive.proofs.evaluation.+types.Given as goal

abbrev pub invariant-list_type-loop-i : goal.invariant-list_type-loop-i
invariant-list_type-loop-i l =
    (l.fits && typed_go_to l.context.known.now.classes l.s (types_of l.context.tables.now l.context.known.now (place l.scope) (trees (drop l.i l.all))))
    ≡ typed_go_to l.context.known.now.classes l.s (types_of l.context.tables.now l.context.known.now (place l.scope) (trees (drop 1 l.all)))

abbrev pub invariant-called_type-loop-i : goal.invariant-called_type-loop-i
invariant-called_type-loop-i l =
    (l.fits && typed_go l.context.known.now.classes (types_of l.context.tables.now l.context.known.now (place l.scope) (trees (drop l.i l.args))) (drop l.i l.takes))
    ≡ typed_go l.context.known.now.classes (types_of l.context.tables.now l.context.known.now (place l.scope) (trees l.args)) l.takes

abbrev pub invariant-board_type-loop-i : goal.invariant-board_type-loop-i
invariant-board_type-loop-i l =
    (l.fits && are_given l.context.tables.now l.context.known.now (place l.scope) (map board_parameter (drop l.i l.takes)) (trees (drop l.i l.args)))
    ≡ are_given l.context.tables.now l.context.known.now (place l.scope) (map board_parameter l.takes) (trees l.args)
