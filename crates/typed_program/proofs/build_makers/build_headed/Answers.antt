use Rattle.std.proofs.Common.{List, ◌∷◌, [], ◌++◌, ap, ◌∙◌, subst}
use Rattle.sts_syntax.specs.declared.typed.TypedStmt.{TypedStmt}
use Rattle.sts_syntax.specs.TypedTrees.{TypedStatement}
use Rattle.sts_syntax.specs.TypedViews.{typed_statement, typed_statements}
use Rattle.sts_syntax.specs.Views.{statements}
use Rattle.typed_trees.specs.Sites as s
use Rattle.typed_trees.specs.Steps.{IsBuilt}
use Rattle.typed_program.specs.Wholes as w
use Rattle.typed_program.proofs.build_makers.build_headed.Goals as goal

pub returns : goal.returns
returns c =
    let l = c.args.plan.now in
    let st = s.site c.args.site.now in
    let b0 = c.args.builder.now in
    let b1 = c.add_statements.new.builder in
    let headed = c.in_ok-add_statement.ensures ∙ ap (λ (xs : List TypedStmt). w.typed_list xs ++ typed_statement c.args.head ∷ []) c.new-made.ensures in
    let first = c.in_ok-add_initials.ensures ∙ ap (λ (xs : List TypedStatement). xs ++ w.initials_of l c.args.parts.now) headed in
    subst (λ (q : List TypedStatement). IsBuilt b0 b1 (w.behind_made l st q (statements c.args.rest.now)) (typed_statements c.add_statements.new.made)) first c.in_ok-add_statements.ensures
