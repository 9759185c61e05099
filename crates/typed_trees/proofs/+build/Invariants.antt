use Rattle.std.proofs.Common.{drop}
use Rattle.sts_syntax.specs.Trees as t
use Rattle.sts_syntax.specs.TypedViews.{typed_trees}
use Rattle.sts_syntax.specs.Views.{declarations, statements, trees}
use Rattle.typed_trees.specs.Calls as call
use Rattle.typed_trees.specs.Fits.{NumbersFit}
use Rattle.typed_trees.specs.Grown.{Grown}
use Rattle.typed_trees.specs.Sites as s
use Rattle.typed_trees.proofs.GivenTrees.{ArgumentsGo}
use Rattle.typed_trees.proofs.Runs.{StatementsGo, NamesGo, NamesEnd}
use Rattle.typed_trees.proofs.+build.Given as goal

abbrev pub invariant-build_locals::build_locals-loop-i : goal.invariant-build_locals::build_locals-loop-i
invariant-build_locals::build_locals-loop-i l = record {
  go : NamesGo l.plan l.fixed l.initial.builder (s.locals_made l.plan (s.site l.initial.site) l.fixed (declarations l.each)) l.builder (s.site l.site) (drop l.i l.each) l.made;
  here : NumbersFit l.initial.builder (s.locals_made l.plan (s.site l.initial.site) l.fixed (declarations l.each) l.initial.builder.local l.initial.builder.function)
      → NamesEnd l.plan l.fixed l.builder (s.site l.site) (drop l.i l.each) (s.behind l.plan l.initial.builder.local (s.site l.initial.site) (t.Let 0 l.fixed (declarations l.each)));
  grown : Grown (s.site l.initial.site) (s.site l.site);
}

abbrev pub invariant-build_statements::build_statements-loop-i : goal.invariant-build_statements::build_statements-loop-i
invariant-build_statements::build_statements-loop-i l = record {
  go : StatementsGo l.plan l.initial.builder (s.statements_made l.plan (s.site l.initial.site) (statements l.all)) l.builder (s.site l.site) (drop l.i l.all) l.made;
  here : Grown (s.site l.initial.site) (s.site l.site);
}

abbrev pub invariant-build_calls::build_arguments-loop-i : goal.invariant-build_calls::build_arguments-loop-i
invariant-build_calls::build_arguments-loop-i l =
    ArgumentsGo l.plan (s.site l.site) (call.places l.takes) l.initial.builder (call.behind_made l.plan (s.site l.site) (call.places l.takes) (typed_trees l.initial.all) (trees l.args)) l.builder l.i (drop l.i l.args) l.all
