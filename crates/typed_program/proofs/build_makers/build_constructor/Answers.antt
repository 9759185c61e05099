use Rattle.std.proofs.Common.{ap, ◌∙◌}
use Rattle.sts_syntax.specs.Types.{Object, value_types}
use Rattle.sts_syntax.specs.TypedViews.{typed_statements}
use Rattle.sts_syntax.specs.Views.{statements}
use Rattle.sts_scope.specs.Lookup.{base_of}
use Rattle.typed_trees.specs.Sites as s
use Rattle.typed_trees.proofs.Laws.{routine_built, routine_of}
use Rattle.typed_program.specs.Wholes as w
use Rattle.typed_program.proofs.build_makers.build_constructor.Goals as goal

pub returns-clause-own : goal.returns-clause-own
returns-clause-own c =
    let p = c.args.plan.now in
    let parts = c.args.parts.now in
    let made = c.nothing_built-builder.ensures in
    ap (λ v. routine_of (value_types c.args.params) (value_types c.build_made.new.builder.locals) v (typed_statements c.in_ok-stmts.stmts)) c.object.ensures
    ∙ (routine_built p (value_types c.args.params) (Object parts.class) (w.maker_statements p (s.site c.args.site.now) (base_of p.known.now.classes parts.class) (w.initials_of p parts) (statements c.args.all.now)) c.args.n
    c.nothing_built-builder.result c.build_made.new.builder (typed_statements c.in_ok-stmts.stmts)
    made.local (made.function ∙ c.one_more.ensures) made.locals made.routines c.in_ok-stmts.ensures c.requires.fits).0

pub returns-clause-inner : goal.returns-clause-inner
returns-clause-inner c =
    let p = c.args.plan.now in
    let parts = c.args.parts.now in
    let made = c.nothing_built-builder.ensures in
    (routine_built p (value_types c.args.params) (Object parts.class) (w.maker_statements p (s.site c.args.site.now) (base_of p.known.now.classes parts.class) (w.initials_of p parts) (statements c.args.all.now)) c.args.n
    c.nothing_built-builder.result c.build_made.new.builder (typed_statements c.in_ok-stmts.stmts)
    made.local (made.function ∙ c.one_more.ensures) made.locals made.routines c.in_ok-stmts.ensures c.requires.fits).1.0
