use Rattle.std.proofs.Common.{List, [], sym, ap, ◌∙◌, Option}
use Rattle.sts_syntax.specs.declared.trees.Body.{out-Body}
use Rattle.sts_syntax.specs.declared.trees.Param.{Param}
use Rattle.sts_syntax.specs.declared.trees.Stmt.{Stmt}
use Rattle.sts_syntax.specs.Views.{parameters, statements, optional_annotation}
use Rattle.sts_syntax.proofs.Laws.{routine_parts}
use Rattle.sts_scope.specs.declared.kinds.StaticType.{StaticType}
use Rattle.type_derive.specs.Nodes as node
use Rattle.type_derive.specs.Scopes.{place}
use Rattle.typed_trees.specs.Sites as s
use Rattle.typed_trees.specs.Steps as step
use Rattle.typed_trees.proofs.Blocks.{site_is}
use Rattle.typed_trees.proofs.build_blocks.handler_site.Goals as goal

pub returns : goal.returns
returns c =
    let body = out-Body c.args.body.now in
    let w = c.args.plan.now in
    let p = place c.args.site.now.scope in
    let t = w.tables.now in
    let n = s.naming w in
    let k = w.known.now in
    let ps = parameters body.params in
    let gs = optional_annotation body.gives in
    let result = c.in-Ok.ensures.ok ∙ ap (λ (xs : List Param). node.handler_result t n k p (parameters xs) gs (statements c.as_slice-all.result.now)) c.as_slice-params.ensures
    ∙ ap (λ (xs : List Stmt). node.handler_result t n k p ps gs (statements xs)) c.as_slice-all.ensures in
    let within = c.in_ok-scope.ensures ∙ ap (λ (xs : List Param). node.handler_within n p (parameters xs) c.in-Ok.gives) c.as_slice-params.ensures
    ∙ ap (λ (g : Option StaticType). node.handler_within n p ps g) result in
    site_is (place c.in_ok-scope.scope) (node.handler_place t n k p ps gs (statements body.stmts)) c.new.result [] within c.new.ensures
    ∙ sym (ap (step.handler_site w (s.site c.args.site.now)) (routine_parts c.args.body.now))
