use Rattle.sts_syntax.specs.TypedViews.{optional_typed_tree}
use Rattle.typed_trees.specs.Sites as s
use Rattle.typed_program.proofs.Initials.{field_built}
use Rattle.typed_program.proofs.build_initials.build_field.Goals as goal

pub returns-clause-first : goal.returns-clause-first
returns-clause-first c =
    let made = c.nothing_built-builder.ensures in
    (field_built c.args.plan.now c.args.class c.args.n c.args.a.now (s.site c.outer_site-site.result) c.nothing_built-builder.result c.build_first.new.builder (optional_typed_tree c.in_ok-first.first)
    c.outer_site-site.ensures made.local made.function made.routines c.in_ok-first.ensures c.requires.functions).0

pub returns-clause-inner : goal.returns-clause-inner
returns-clause-inner c =
    let made = c.nothing_built-builder.ensures in
    (field_built c.args.plan.now c.args.class c.args.n c.args.a.now (s.site c.outer_site-site.result) c.nothing_built-builder.result c.build_first.new.builder (optional_typed_tree c.in_ok-first.first)
    c.outer_site-site.ensures made.local made.function made.routines c.in_ok-first.ensures c.requires.functions).1
