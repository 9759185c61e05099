use Rattle.std.proofs.Common.{◌∙◌}
use Rattle.sts_syntax.specs.Types.{value_type, value_types}
use Rattle.sts_syntax.specs.TypedViews.{typed_statements}
use Rattle.sts_syntax.specs.Views.{statements}
use Rattle.typed_trees.specs.Sites as s
use Rattle.typed_trees.proofs.Functions.{routine_built}
use Rattle.typed_trees.proofs.build_functions.build_function.Goals as goal

pub returns-clause-own : goal.returns-clause-own
returns-clause-own c =
    let p = c.args.plan.now in
    let made = c.nothing_built-builder.ensures in
    (routine_built p (value_types c.args.params) (value_type c.args.gives) (s.statements_made p (s.site c.args.site.now) (statements c.args.all.now)) c.args.n c.nothing_built-builder.result c.build_statements.new.builder
    (typed_statements c.in_ok-stmts.stmts) made.local (made.function ∙ c.one_more.ensures) made.locals made.routines c.in_ok-stmts.ensures.built c.requires.fits).0

pub returns-clause-inner : goal.returns-clause-inner
returns-clause-inner c =
    let p = c.args.plan.now in
    let made = c.nothing_built-builder.ensures in
    (routine_built p (value_types c.args.params) (value_type c.args.gives) (s.statements_made p (s.site c.args.site.now) (statements c.args.all.now)) c.args.n c.nothing_built-builder.result c.build_statements.new.builder
    (typed_statements c.in_ok-stmts.stmts) made.local (made.function ∙ c.one_more.ensures) made.locals made.routines c.in_ok-stmts.ensures.built c.requires.fits).1.0
