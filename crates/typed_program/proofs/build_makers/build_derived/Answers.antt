use Rattle.std.proofs.Common.{List, ◌∷◌, ◌-◌, length, take, drop, sym, ap, ◌∙◌, subst}
use Rattle.sts_syntax.specs.declared.trees.Stmt.{Stmt}
use Rattle.sts_syntax.specs.TypedTrees.{TypedStatement, TypedStatements}
use Rattle.sts_syntax.specs.TypedViews.{typed_statement, typed_statements, typed_trees}
use Rattle.sts_syntax.specs.Views.{trees, statement, statements}
use Rattle.sts_scope.specs.declared.kinds.StaticType.{StaticType}
use Rattle.type_derive.specs.inner.Filling.{Making}
use Rattle.typed_trees.specs.Sites as s
use Rattle.typed_trees.specs.Steps.{IsBuilt}
use Rattle.typed_program.specs.Wholes as w
use Rattle.typed_program.proofs.Before.{headed_made}
use Rattle.std.specs.Prelude.{Some}
use Rattle.typed_program.proofs.Constructors.{without_any, without_head, with_head, headed_is, statements_first, statements_none, rest_is}
use Rattle.typed_program.proofs.build_makers.build_derived.Goals as goal

pub returns-in_ok-made-in-empty : goal.returns-in_ok-made-in-empty
returns-in_ok-made-in-empty c =
    let l = c.args.plan.now in
    let st = s.site c.args.site.now in
    let inits = w.initials_of l c.args.parts.now in
    let none = statements_none c.args.all.now c.in-empty.len_below in
    let e = ap (w.behind_made l st inits) none ∙ sym (without_any l st c.args.base inits) ∙ ap (w.maker_statements l st (Some c.args.base) inits) (sym none) in
    subst (λ (f : Making TypedStatements). IsBuilt c.args.builder.now c.build_plain.new.builder f (typed_statements c.in_ok-made-in-empty.made)) e c.in_ok-made-in-empty.ensures

pub returns-in_ok-made-in-None : goal.returns-in_ok-made-in-None
returns-in_ok-made-in-None c =
    let l = c.args.plan.now in
    let st = s.site c.args.site.now in
    let all = c.args.all.now in
    let inits = w.initials_of l c.args.parts.now in
    let first = statements_first all c.first-item.result c.in-len1-up.len_at_least c.first-item.is in
    let e = ap (w.behind_made l st inits) first ∙ sym (without_head l st c.args.base inits (statement c.first-item.result) (statements (drop 1 all)) (sym c.in-None.ensures))
    ∙ ap (w.maker_statements l st (Some c.args.base) inits) (sym first) in
    subst (λ (f : Making TypedStatements). IsBuilt c.args.builder.now c.build_plain-in-None.new.builder f (typed_statements c.in_ok-made-in-None.made)) e c.in_ok-made-in-None.ensures

pub returns-in_ok-made-in-Some : goal.returns-in_ok-made-in-Some
returns-in_ok-made-in-Some c =
    let l = c.args.plan.now in
    let st = s.site c.args.site.now in
    let all = c.args.all.now in
    let b0 = c.args.builder.now in
    let b1 = c.build_given.new.builder in
    let b2 = c.build_headed.new.builder in
    let inits = w.initials_of l c.args.parts.now in
    let h = c.in-Some.head in
    let ys = typed_trees c.in_ok-args-in-Some.args in
    let made = typed_statements c.in_ok-made-in-Some.made in
    let given = subst (λ (us : List StaticType). IsBuilt b0 b1 (s.given_made l st us (trees h.args.now)) ys) c.maker_takes-takes.ensures c.in_ok-args-in-Some.ensures in
    let called = ap (λ (x : TypedStatement). x ∷ inits) c.super_called-call.ensures in
    let headed = headed_is l st c.args.base inits (trees h.args.now) (statements (take (length all - 1) (drop 1 all))) b0 b1 b2 ys (typed_statement c.super_called-call.result ∷ inits) made
    called given c.in_ok-made-in-Some.ensures in
    let first = statements_first all c.first-item.result c.in-len1-up.len_at_least c.first-item.is in
    let e = ap (λ (xs : List Stmt). headed_made l st c.args.base inits (trees h.args.now) (statements xs)) (rest_is all)
    ∙ sym (with_head l st c.args.base inits (statement c.first-item.result) (statements (drop 1 all)) (record { at = h.at; args = trees h.args.now }) (sym c.in-Some.ensures))
    ∙ ap (w.maker_statements l st (Some c.args.base) inits) (sym first) in
    subst (λ (f : Making TypedStatements). IsBuilt b0 b2 f made) e headed
