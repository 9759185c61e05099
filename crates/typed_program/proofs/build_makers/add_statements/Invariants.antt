use Rattle.std.proofs.Common.{drop}
use Rattle.sts_syntax.specs.Views.{statements}
use Rattle.typed_trees.specs.Sites as s
use Rattle.typed_program.specs.Wholes as w
use Rattle.typed_trees.proofs.Laws.{StatementsGo}
use Rattle.typed_program.proofs.build_makers.add_statements.Given as goal

abbrev pub invariant-loop-i : goal.invariant-loop-i
invariant-loop-i l =
    StatementsGo l.plan l.initial.builder (w.behind_made l.plan (s.site l.initial.site) (w.typed_list l.initial.made) (statements l.all)) l.builder (s.site l.site) (drop l.i l.all) l.made
