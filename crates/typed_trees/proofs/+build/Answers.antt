use Rattle.std.proofs.Common.{◌≡◌, ◌+◌, ◌-◌, ◌^◌, ◌++◌, ◌∷◌, [], ◌<◌, ◌≤◌, min, length, List, refl, sym, ap, ◌∙◌, subst, arith, append-nil, rules}
use Rattle.std.specs.Prelude.{IfOk, OnOk, Ok, Err, Option, Some, None, true, ℕ}
use Rattle.std.proofs.lemmas.Result.{IfOk-weaker, IfOk-from_err}
use Rattle.sts_syntax.specs.declared.trees.Binding.{Binding, out-Binding}
use Rattle.sts_syntax.specs.declared.trees.Stmt.{Stmt}
use Rattle.sts_syntax.specs.declared.typed.TypedExpr.{TypedExpr}
use Rattle.sts_syntax.specs.declared.trees.Form.TheVariants as form
use Rattle.sts_syntax.specs.Trees as u
use Rattle.sts_syntax.specs.Trees.{Member}
use Rattle.sts_syntax.specs.Types as v
use Rattle.sts_syntax.specs.Types.{value_types}
use Rattle.sts_syntax.specs.declared.typed.Spot.TheVariants.{Local}
use Rattle.sts_scope.specs.Places.{inner, with}
use Rattle.sts_scope.specs.Rules as rule
use Rattle.sts_syntax.specs.TypedTrees as e
use Rattle.sts_syntax.specs.TypedTrees.{TypedDeclaration, TypedStatements}
use Rattle.sts_syntax.specs.TypedViews.{optional_typed_tree, typed_declarations, typed_tree, typed_trees, typed_statement, typed_statements, typed_routine, typed_routines}
use Rattle.sts_syntax.specs.Views.{tree, trees, optional_expression, optional_annotation, declaration, declarations, statement, statements, routine, node_tree}
use Rattle.type_derive.specs.inner.Filled as b
use Rattle.type_derive.specs.inner.Filling.{Making, pure, ◌>=>◌, a_local}
use Rattle.type_derive.specs.Returns as derive
use Rattle.type_derive.specs.Scopes.{place}
use Rattle.typed_numbers.specs.Building.{numbering_of}
use Rattle.typed_trees.specs.declared.build_nodes.Part.{Part}
use Rattle.typed_trees.specs.declared.build_operators.Operator.TheVariants as o
use Rattle.typed_trees.specs.Calls as call
use Rattle.typed_trees.specs.Fits.{NumbersFit}
use Rattle.typed_trees.specs.Grown.{Grown}
use Rattle.typed_trees.specs.Sites as s
use Rattle.typed_trees.specs.Steps as steps
use Rattle.typed_trees.specs.Steps.{IsBuilt}
use Rattle.typed_trees.proofs.Blocks.{grown_not, grown_is, grown_on_ok, grown_further, grown_block, grown_behind, site_closed, site_is, site_of}
use Rattle.typed_trees.proofs.GivenTrees.{arguments_begin, arguments_step, arguments_end}
use Rattle.typed_trees.proofs.Passed.{head_built, no_object, none_built}
use Rattle.typed_numbers.proofs.Laws.{block_is, let_is, items_is, make_is, super_call_is, call_is}
use Rattle.sts_syntax.proofs.Laws.{declaration_parts}
use Rattle.typed_trees.proofs.Functions.{routine_built, routine_of}
use Rattle.typed_trees.proofs.Forms.{if_only_is, if_else_is, while_is, do_while_is, for_is, for_first_is, for_of_is, return_is, plain_is, of_two, of_three, optional_is, turns_is, three_locals, from_ok, value_built, first_built}
use Rattle.typed_trees.proofs.Pieces.{fits_first, one_made, then, then_if, stays, last, via, drop_all}
use Rattle.sts_scope.specs.Entries.{written_kind}
use Rattle.typed_trees.proofs.Runs.{body_is, bound_is, NamesGo, StatementsGo, names_step, names_here, names_end, statements_step, statements_end}
use Rattle.sts_syntax.specs.declared.trees.Expr.{Expr}
use Rattle.typed_trees.proofs.Leaves.{num_built, num_kind, text_built, text_kind, truth_built, truth_kind, null_built, null_kind, this_built, this_kind, name_built, name_kind, constant_built, constant_noted, handler_built, handler_kind, handler_joined}
use Rattle.typed_trees.proofs.Operators.{last_built, unary_built, unary_kind, bump_built, bump_kind, read_built, read_kind, binary_is, both_is, either_is, item_is, set_is, two_built, two_kind, choice_built, choice_kind}
use Rattle.typed_trees.proofs.Targets.{constant_kept, member_set}
use Rattle.typed_trees.proofs.+build.Goals as goal

pub build_locals::build_initial-returns-in_ok-noted-in-Some-clause-kind : goal.build_locals::build_initial-returns-in_ok-noted-in-Some-clause-kind
build_locals::build_initial-returns-in_ok-noted-in-Some-clause-kind t c =
    let p = c.args.plan.now in
    let q = place c.args.site.now.scope in
    let first = tree c.in-Some.e in
    let shape = optional_annotation c.args.shape.now in
    c.bound_kind-kind.ensures ∙ ap (λ w. steps.bound_kind shape w first c.in_ok-noted-in-Some.noted.kind) c.written_kind-written.ensures
    ∙ ap (λ k. steps.bound_kind shape (written_kind (s.naming p) shape) first k) (c.in_ok-noted-in-Some.ensures.kind ∙ ap (λ w. s.tree_kind p (s.site c.args.site.now) w first) c.written_kind-written.ensures)
    ∙ bound_is p (s.site c.args.site.now) shape first
    ∙ sym (ap (λ o. derive.bound p.tables.now (s.naming p) p.known.now q shape (optional_expression o)) c.in-Some.is)

pub build_locals::build_locals-loop-i-init : goal.build_locals::build_locals-loop-i-init
build_locals::build_locals-loop-i-init t c =
    let p = c.args.plan.now in
    let st = s.site c.args.site.now in
    let b = c.args.builder.now in
    record {
      go = subst (λ z. NamesGo p c.args.fixed b (s.locals_made p st c.args.fixed (declarations c.args.each.now)) b st c.args.each.now z) (sym c.new-made.ensures) (λ d ys given. given);
      here = λ fits. (fits, refl);
      grown = grown_not st;
    }

pub build_locals::build_locals-loop-i-preserved : goal.build_locals::build_locals-loop-i-preserved
build_locals::build_locals-loop-i-preserved t c =
    let p = c.args.plan.now in
    let fixed = c.args.fixed in
    let xs = c.args.each.now in
    let i = c.loop-i.i in
    let lt : i < length xs = omega arith in
    let st = s.site c.loop-i.site in
    let st' = s.site c.build_local.new.site in
    let b0 = c.args.builder.now in
    let whole = s.locals_made p (s.site c.args.site.now) fixed (declarations xs) in
    let a = u.Let 0 fixed (declarations (c.index-each-i.result ∷ [])) in
    record {
      go = names_step p fixed xs i c.index-each-i.result st st' b0 c.loop-i.builder c.build_local.new.builder whole c.loop-i.made c.push.new.self c.in_ok-a.a lt c.index-each-i.is c.in_ok-push.ensures.ok c.in_ok-a.ensures.site c.in_ok-a.ensures.built c.loop-i.invariant.go;
      here = λ fits. names_here p fixed xs i c.index-each-i.result st st' c.loop-i.builder c.build_local.new.builder c.in_ok-a.a _ lt c.index-each-i.is c.in_ok-a.ensures.site c.in_ok-a.ensures.built (c.loop-i.invariant.here fits);
      grown = grown_further (s.site c.args.site.now) st st' c.loop-i.invariant.grown (grown_is st (s.behind p c.loop-i.builder.local st a) st' (grown_behind p.tables.now (s.naming p) p.known.now (numbering_of p.numbers.now) c.loop-i.builder.local st a) c.in_ok-a.ensures.site);
    }

pub build_locals::build_locals-returns-clause-built : goal.build_locals::build_locals-returns-clause-built
build_locals::build_locals-returns-clause-built t c =
    let p = c.args.plan.now in
    let fixed = c.args.fixed in
    let xs = c.args.each.now in
    let le : length xs ≤ c.loop-i.i = omega arith in
    names_end p fixed xs c.loop-i.i (s.site c.loop-i.site) c.args.builder.now c.loop-i.builder (s.locals_made p (s.site c.args.site.now) fixed (declarations xs)) c.loop-i.made le c.loop-i.invariant.go

pub build_locals::build_locals-returns-clause-site : goal.build_locals::build_locals-returns-clause-site
build_locals::build_locals-returns-clause-site t c = λ fits.
    let p = c.args.plan.now in
    let xs = c.args.each.now in
    let le : length xs ≤ c.loop-i.i = omega arith in
    let st = s.site c.loop-i.site in
    site_is st.place st.place st.spots (st.spots ++ []) refl (sym (append-nil st.spots))
    ∙ ap (λ (zs : List Binding). s.behind p c.loop-i.builder.local st (u.Let 0 c.args.fixed (declarations zs))) (sym (drop_all xs c.loop-i.i le)) ∙ (c.loop-i.invariant.here fits).1

pub build_locals::build_locals-returns-clause-grown : goal.build_locals::build_locals-returns-clause-grown
build_locals::build_locals-returns-clause-grown t c = c.loop-i.invariant.grown

pub build_statements::build_branch-returns-clause-site : goal.build_statements::build_branch-returns-clause-site
build_statements::build_branch-returns-clause-site t c =
    let P = s.site c.args.site.now in
    let B = s.site c.begin-around.new.site in
    let Q = s.site c.build_statement.new.site in
    let G : Grown P Q = grown_further P B Q (grown_is P (b.in_block P) B (grown_block P) c.begin-around.ensures.site) c.in_ok-made.ensures.grown in
    let same : s.site c.end.new.site ≡ P = site_closed P Q (s.site c.end.new.site) c.begin-around.result.scope.locals c.begin-around.result.scope.block c.begin-around.result.spots G c.end.ensures.place c.end.ensures.spots
    c.begin-around.ensures.locals c.begin-around.ensures.block c.begin-around.ensures.spots in
    elim c.boxed.result as (λ r. OnOk r (s.site c.end.new.site ≡ P)) [ Ok v ↦ same | Err w ↦ tt ]

pub build_statements::build_statement-returns-in_ok-all-in-Block-clause-built : goal.build_statements::build_statement-returns-in_ok-all-in-Block-clause-built
unfolding s.statement_made s.statements_made
build_statements::build_statement-returns-in_ok-all-in-Block-clause-built t c =
    let p = c.args.plan.now in
    let S = s.site c.args.site.now in
    let b0 = c.args.builder.now in
    let b1 = c.build_statements.new.builder in
    let all = typed_statements c.in_ok-all-in-Block.all in
    let h = c.in_ok-all-in-Block.ensures in
    let is = block_is c.args.a.now c.in-Block.all c.in-Block.is in
    let made = s.statements_made p (b.in_block S) (statements c.in-Block.all) in
    let inner : IsBuilt b0 b1 made all =
    via b0 b1 (s.statements_made p (s.site c.begin-around.new.site) (statements c.as_slice.result.now)) made all all
    (ap (λ z. s.statements_made p z (statements c.as_slice.result.now)) c.begin-around.ensures.site ∙ ap (λ (xs : List Stmt). s.statements_made p (b.in_block S) (statements xs)) c.as_slice.ensures)
    refl h.built in
    via b0 b1 (s.statement_made p S (u.Block c.args.a.now.at (statements c.in-Block.all))) (s.statement_made p S (statement c.args.a.now)) (e.Block all) (typed_statement c.block_of.result)
    (sym (ap (s.statement_made p S) is)) (sym c.block_of.ensures) (last b0 b1 made (λ xs. e.Block xs) all inner)

pub build_statements::build_statement-returns-in_ok-each-in-Let-clause-built : goal.build_statements::build_statement-returns-in_ok-each-in-Let-clause-built
unfolding s.statement_made s.locals_made
build_statements::build_statement-returns-in_ok-each-in-Let-clause-built t c =
    let p = c.args.plan.now in
    let S = s.site c.args.site.now in
    let b0 = c.args.builder.now in
    let b1 = c.build_locals.new.builder in
    let fixed = c.in-Let.fixed in
    let each = typed_declarations c.in_ok-each-in-Let.each in
    let is = let_is c.args.a.now fixed c.in-Let.each c.in-Let.is in
    let made = s.locals_made p S fixed (declarations c.in-Let.each) in
    let inner : IsBuilt b0 b1 made each =
    via b0 b1 (s.locals_made p S fixed (declarations c.as_slice-in-Let.result.now)) made each each
    (ap (λ (xs : List Binding). s.locals_made p S fixed (declarations xs)) c.as_slice-in-Let.ensures) refl c.in_ok-each-in-Let.ensures.built in
    via b0 b1 (s.statement_made p S (u.Let c.args.a.now.at fixed (declarations c.in-Let.each))) (s.statement_made p S (statement c.args.a.now)) (e.Let fixed each) (e.Let fixed each)
    (sym (ap (s.statement_made p S) is)) refl (last b0 b1 made (λ ds. e.Let fixed ds) each inner)

pub build_statements::build_statement-returns-in_ok-each-in-Let-clause-site : goal.build_statements::build_statement-returns-in_ok-each-in-Let-clause-site
unfolding s.statement_made s.locals_made
build_statements::build_statement-returns-in_ok-each-in-Let-clause-site t c = λ fits.
    let p = c.args.plan.now in
    let S = s.site c.args.site.now in
    let b0 = c.args.builder.now in
    let m = b0.local in
    let n = b0.function in
    let fixed = c.in-Let.fixed in
    let is = let_is c.args.a.now fixed c.in-Let.each c.in-Let.is in
    let whole : NumbersFit b0 ((s.locals_made p S fixed (declarations c.in-Let.each) >=> λ ds. pure (e.Let fixed ds)) m n) = subst (λ z. NumbersFit b0 (s.statement_made p S z m n)) is fits in
    let names = fits_first b0 (s.locals_made p S fixed (declarations c.in-Let.each)) (λ ds. pure (e.Let fixed ds)) whole in
    let each = subst (λ (xs : List Binding). NumbersFit b0 (s.locals_made p S fixed (declarations xs) m n)) (sym c.as_slice-in-Let.ensures) names in
    c.in_ok-each-in-Let.ensures.site each ∙ ap (λ (xs : List Binding). s.behind p m S (u.Let 0 fixed (declarations xs))) c.as_slice-in-Let.ensures
    ∙ sym (ap (s.behind p m S) is)

pub build_statements::build_if-returns-in-None-clause-built : goal.build_statements::build_if-returns-in-None-clause-built
unfolding s.statement_made s.tree_made
build_statements::build_if-returns-in-None-clause-built t c =
    let p = c.args.plan.now in
    let S = s.site c.args.site.now in
    let b0 = c.args.builder.now in
    let a = c.args.a.now in
    let b1 = c.build_tree.new.builder in
    let b2 = c.build_branch.new.builder in
    let h = c.in_ok-test-in-If.ensures in
    let q = typed_tree c.in_ok-test-in-If.test.tree in
    let x = typed_statement c.in_ok-test-in-If-2.a.value in
    let body = s.statement_made p (b.in_block S) (statement c.in-If.a.value) in
    let branch : IsBuilt b1 b2 body x = via b1 b2 (s.statement_made p (b.in_block S) (statement c.deref.result.now)) body x x (ap (λ (z : Stmt). s.statement_made p (b.in_block S) (statement z)) c.deref.ensures) refl
    (from_ok c.build_branch.result c.in_ok-test-in-If-2.a (λ r. IsBuilt b1 b2 (s.statement_made p (b.in_block S) (statement c.deref.result.now)) (typed_statement r.value)) c.in_ok-test-in-If-2.ensures.other c.build_branch.ensures.built) in
    let is = if_only_is a c.in-If.test c.in-If.a (c.in-If.is ∙ ap (λ o. form.If c.in-If.test c.in-If.a o) c.in-None.is) in
    via b0 b2 (s.statement_made p S (u.IfOnly a.at (tree c.in-If.test) (statement c.in-If.a.value))) (s.statement_made p S (statement a)) (e.IfOnly q x) (e.IfOnly (typed_tree c.in_ok-test-in-If-2.test) x)
    (sym (ap (s.statement_made p S) is)) (sym (ap (λ (z : TypedExpr). e.IfOnly (typed_tree z) x) c.in_ok-test-in-If-2.ensures.kept))
    (of_two b0 b1 b2 (s.tree_made p S None (tree c.in-If.test)) body (λ y z. e.IfOnly y z) q x h.built branch)

pub build_statements::build_if-returns-in_ok-test-in-Some-clause-built : goal.build_statements::build_if-returns-in_ok-test-in-Some-clause-built
unfolding s.statement_made s.tree_made
build_statements::build_if-returns-in_ok-test-in-Some-clause-built t c =
    let p = c.args.plan.now in
    let S = s.site c.args.site.now in
    let b0 = c.args.builder.now in
    let a = c.args.a.now in
    let b1 = c.build_tree.new.builder in
    let b2 = c.build_branch.new.builder in
    let b3 = c.build_branch-in-Some.new.builder in
    let h = c.in_ok-test-in-If.ensures in
    let q = typed_tree c.in_ok-test-in-If.test.tree in
    let x = typed_statement c.in_ok-test-in-If-2.a.value in
    let y = typed_statement c.in_ok-test-in-Some.b.value in
    let body = s.statement_made p (b.in_block S) (statement c.in-If.a.value) in
    let other = s.statement_made p (b.in_block S) (statement c.in-Some.b.value) in
    let T = c.build_branch.ensures.site in
    let S1 : s.site c.build_branch.new.site ≡ S = from_ok c.build_branch.result c.in_ok-test-in-If-2.a (λ r. s.site c.build_branch.new.site ≡ S) c.in_ok-test-in-If-2.ensures.other T in
    let branch : IsBuilt b1 b2 body x = via b1 b2 (s.statement_made p (b.in_block S) (statement c.deref.result.now)) body x x (ap (λ (z : Stmt). s.statement_made p (b.in_block S) (statement z)) c.deref.ensures) refl
    (from_ok c.build_branch.result c.in_ok-test-in-If-2.a (λ r. IsBuilt b1 b2 (s.statement_made p (b.in_block S) (statement c.deref.result.now)) (typed_statement r.value)) c.in_ok-test-in-If-2.ensures.other c.build_branch.ensures.built) in
    let third : IsBuilt b2 b3 other y =
    via b2 b3 (s.statement_made p (b.in_block (s.site c.build_branch.new.site)) (statement c.deref-in-Some.result.now)) other y y
    (ap (λ z. s.statement_made p (b.in_block z) (statement c.deref-in-Some.result.now)) S1 ∙ ap (λ (z : Stmt). s.statement_made p (b.in_block S) (statement z)) c.deref-in-Some.ensures) refl
    (from_ok c.build_branch-in-Some.result c.in_ok-test-in-Some.b (λ r. IsBuilt b2 b3 (s.statement_made p (b.in_block (s.site c.build_branch.new.site)) (statement c.deref-in-Some.result.now)) (typed_statement r.value)) c.in_ok-test-in-Some.ensures.other c.build_branch-in-Some.ensures.built) in
    let is = if_else_is a c.in-If.test c.in-If.a c.in-Some.b (c.in-If.is ∙ ap (λ o. form.If c.in-If.test c.in-If.a o) c.in-Some.is) in
    let k1 = ap (λ w. w.0) c.in_ok-test-in-Some.ensures.kept ∙ c.in_ok-test-in-If-2.ensures.kept in
    let k2 = ap (λ w. w.1) c.in_ok-test-in-Some.ensures.kept in
    via b0 b3 (s.statement_made p S (u.IfElse a.at (tree c.in-If.test) (statement c.in-If.a.value) (statement c.in-Some.b.value))) (s.statement_made p S (statement a))
    (e.IfElse q x y) (e.IfElse (typed_tree c.in_ok-test-in-Some.test) (typed_statement c.in_ok-test-in-Some.a.value) y)
    (sym (ap (s.statement_made p S) is)) (sym (ap (λ z. e.IfElse (typed_tree z) (typed_statement c.in_ok-test-in-Some.a.value) y) k1 ∙ ap (λ z. e.IfElse q (typed_statement z.value) y) k2))
    (of_three b0 b1 b2 b3 (s.tree_made p S None (tree c.in-If.test)) body other (λ k l m. e.IfElse k l m) q x y h.built branch third)

pub build_statements::build_while-returns-in_ok-test-in-While-2-clause-built : goal.build_statements::build_while-returns-in_ok-test-in-While-2-clause-built
unfolding s.statement_made s.tree_made
build_statements::build_while-returns-in_ok-test-in-While-2-clause-built t c =
    let p = c.args.plan.now in
    let S = s.site c.args.site.now in
    let b0 = c.args.builder.now in
    let a = c.args.a.now in
    let b1 = c.build_tree.new.builder in
    let b2 = c.build_branch.new.builder in
    let h = c.in_ok-test-in-While.ensures in
    let q = typed_tree c.in_ok-test-in-While.test.tree in
    let x = typed_statement c.in_ok-test-in-While-2.a.value in
    let body = s.statement_made p (b.in_block S) (statement c.in-While.a.value) in
    let branch : IsBuilt b1 b2 body x = via b1 b2 (s.statement_made p (b.in_block S) (statement c.deref.result.now)) body x x (ap (λ (z : Stmt). s.statement_made p (b.in_block S) (statement z)) c.deref.ensures) refl
    (from_ok c.build_branch.result c.in_ok-test-in-While-2.a (λ r. IsBuilt b1 b2 (s.statement_made p (b.in_block S) (statement c.deref.result.now)) (typed_statement r.value)) c.in_ok-test-in-While-2.ensures.other c.build_branch.ensures.built) in
    let is = while_is a c.in-While.test c.in-While.a c.in-While.is in
    via b0 b2 (s.statement_made p S (u.While a.at (tree c.in-While.test) (statement c.in-While.a.value))) (s.statement_made p S (statement a)) (e.While q x) (e.While (typed_tree c.in_ok-test-in-While-2.test) x)
    (sym (ap (s.statement_made p S) is)) (sym (ap (λ (z : TypedExpr). e.While (typed_tree z) x) c.in_ok-test-in-While-2.ensures.kept))
    (of_two b0 b1 b2 (s.tree_made p S None (tree c.in-While.test)) body (λ y z. e.While y z) q x h.built branch)

pub build_statements::build_while-returns-in_ok-a-in-DoWhile-2-clause-built : goal.build_statements::build_while-returns-in_ok-a-in-DoWhile-2-clause-built
unfolding s.statement_made s.tree_made
build_statements::build_while-returns-in_ok-a-in-DoWhile-2-clause-built t c =
    let p = c.args.plan.now in
    let S = s.site c.args.site.now in
    let b0 = c.args.builder.now in
    let a = c.args.a.now in
    let b1 = c.build_branch-in-DoWhile.new.builder in
    let b2 = c.build_tree-in-DoWhile.new.builder in
    let x = typed_statement c.in_ok-a-in-DoWhile.a.value in
    let q = typed_tree c.in_ok-a-in-DoWhile-2.test.tree in
    let body = s.statement_made p (b.in_block S) (statement c.in-DoWhile.a.value) in
    let st = s.site c.build_branch-in-DoWhile.new.site in
    let f0 = s.tree_made p st None (tree c.in-DoWhile.test) in
    let f = s.tree_made p S None (tree c.in-DoWhile.test) in
    let branch : IsBuilt b0 b1 body x = via b0 b1 (s.statement_made p (b.in_block S) (statement c.deref-in-DoWhile.result.now)) body x x (ap (λ (z : Stmt). s.statement_made p (b.in_block S) (statement z)) c.deref-in-DoWhile.ensures) refl
    c.in_ok-a-in-DoWhile.ensures.built in
    let o = c.in_ok-a-in-DoWhile-2.ensures.other in
    let T = c.in_ok-a-in-DoWhile-2.test in
    let R = c.build_tree-in-DoWhile.result in
    let h = c.build_tree-in-DoWhile.ensures in
    let tests : IsBuilt b1 b2 f0 q = from_ok R T (λ r. IsBuilt b1 b2 f0 (typed_tree r.tree)) o h.built in
    let is = do_while_is a c.in-DoWhile.a c.in-DoWhile.test c.in-DoWhile.is in
    via b0 b2 (s.statement_made p S (u.DoWhile a.at (statement c.in-DoWhile.a.value) (tree c.in-DoWhile.test))) (s.statement_made p S (statement a)) (e.DoWhile x q) (e.DoWhile (typed_statement c.in_ok-a-in-DoWhile-2.a.value) q)
    (sym (ap (s.statement_made p S) is)) (sym (ap (λ z. e.DoWhile (typed_statement z.value) q) c.in_ok-a-in-DoWhile-2.ensures.kept))
    (of_two b0 b1 b2 body f (λ y z. e.DoWhile y z) x q branch (via b1 b2 f0 f q q (ap (λ z. s.tree_made p z None (tree c.in-DoWhile.test)) c.in_ok-a-in-DoWhile.ensures.site) refl tests))

pub build_statements::build_for-returns-in_ok-turns-in-None-clause-built : goal.build_statements::build_for-returns-in_ok-turns-in-None-clause-built
unfolding s.statement_made steps.turns_of s.optional_made
build_statements::build_for-returns-in_ok-turns-in-None-clause-built t c =
    let p = c.args.plan.now in
    let S = s.site c.args.site.now in
    let b0 = c.args.builder.now in
    let a = c.args.a.now in
    let b1 = c.build_turns.new.builder in
    let t1 = optional_expression c.in-For.field-1 in
    let t2 = optional_expression c.in-For.field-2 in
    let st = s.site c.begin-around.new.site in
    let r = c.in_ok-turns-in-None.turns in
    let y = e.For e.omitted (optional_typed_tree r.test) (optional_typed_tree r.step) (typed_statement r.body.value) in
    let is = for_is a c.in-For.field-1 c.in-For.field-2 c.in-For.field-3 (c.in-For.is ∙ ap (λ o. form.For o c.in-For.field-1 c.in-For.field-2 c.in-For.field-3) c.in-None.is) in
    let A = statement c.in-For.field-3.value in
    let turns : IsBuilt b0 b1 (steps.turns_of p (b.in_block S) e.omitted t1 t2 A) y =
    via b0 b1 (steps.turns_made p st e.omitted (statement a)) (steps.turns_of p (b.in_block S) e.omitted t1 t2 A) y y
    (ap (λ z. steps.turns_made p z e.omitted (statement a)) c.begin-around.ensures.site
    ∙ turns_is p (b.in_block S) e.omitted a None c.in-For.field-1 c.in-For.field-2 c.in-For.field-3 (c.in-For.is ∙ ap (λ o. form.For o c.in-For.field-1 c.in-For.field-2 c.in-For.field-3) c.in-None.is))
    refl (c.in_ok-turns-in-None.ensures.built e.omitted) in
    via b0 b1 (s.statement_made p S (u.For a.at u.omitted t1 t2 A)) (s.statement_made p S (statement a)) y y (sym (ap (s.statement_made p S) is)) refl
    (then b0 b0 b1 (pure e.omitted) (λ f. steps.turns_of p (b.in_block S) f t1 t2 A) e.omitted y (stays b0 e.omitted) turns)

pub build_statements::build_for-returns-in_ok-first-in-Some-3-clause-built : goal.build_statements::build_for-returns-in_ok-first-in-Some-3-clause-built
unfolding s.statement_made steps.turns_of s.optional_made
build_statements::build_for-returns-in_ok-first-in-Some-3-clause-built t c =
    let p = c.args.plan.now in
    let S = s.site c.args.site.now in
    let b0 = c.args.builder.now in
    let a = c.args.a.now in
    let b1 = c.build_statement.new.builder in
    let b2 = c.build_turns-in-Some.new.builder in
    let t1 = optional_expression c.in-For.field-1 in
    let t2 = optional_expression c.in-For.field-2 in
    let I = b.in_block S in
    let B = s.site c.begin-around.new.site in
    let inside = s.site c.build_statement.new.site in
    let F = statement c.in-Some.first.value in
    let A = statement c.in-For.field-3.value in
    let F1 = statement c.deref.result.now in
    let eF : F1 ≡ F = ap statement c.deref.ensures in
    let isF = c.in-For.is ∙ ap (λ o. form.For o c.in-For.field-1 c.in-For.field-2 c.in-For.field-3) c.in-Some.is in
    let eB = c.begin-around.ensures.site in
    let fx = typed_statement c.in_ok-first-in-Some.first in
    let r = c.in_ok-first-in-Some-3.turns in
    let y = e.For (e.written fx) (optional_typed_tree r.test) (optional_typed_tree r.step) (typed_statement r.body.value) in
    let made1 : IsBuilt b0 b1 (s.statement_made p I F) fx =
    via b0 b1 (s.statement_made p B F1) (s.statement_made p I F) fx fx (ap (λ z. s.statement_made p z F1) eB ∙ ap (λ z. s.statement_made p I z) eF) refl c.in_ok-first-in-Some.ensures.built in
    let m = b0.local in
    let n = b0.function in
    let eI : NumbersFit b0 (s.statement_made p I F m n) → inside ≡ s.behind p m I F =
    λ fits. c.in_ok-first-in-Some.ensures.site (subst (λ z. NumbersFit b0 (s.statement_made p z F1 m n)) (sym eB) (subst (λ z. NumbersFit b0 (s.statement_made p I z m n)) (sym eF) fits)) ∙ ap (λ z. s.behind p m z F1) eB ∙ ap (λ z. s.behind p m I z) eF in
    let turns1 : IsBuilt b1 b2 (steps.turns_made p inside (e.written fx) (statement a)) y =
    from_ok c.build_turns-in-Some.result r (λ k. (f : e.OptionalTypedStatement) → IsBuilt b1 b2 (steps.turns_made p inside f (statement a)) (e.For f (optional_typed_tree k.test) (optional_typed_tree k.step) (typed_statement k.body.value)))
    c.in_ok-first-in-Some-3.ensures.other c.build_turns-in-Some.ensures.built (e.written fx) in
    let turns2 : inside ≡ s.behind p m I F → IsBuilt b1 b2 (steps.turns_of p (s.behind p m I F) (e.written fx) t1 t2 A) y =
    λ here. via b1 b2 (steps.turns_made p inside (e.written fx) (statement a)) (steps.turns_of p (s.behind p m I F) (e.written fx) t1 t2 A) y y
    (ap (λ z. steps.turns_made p z (e.written fx) (statement a)) here ∙ turns_is p (s.behind p m I F) (e.written fx) a (Some c.in-Some.first) c.in-For.field-1 c.in-For.field-2 c.in-For.field-3 isF) refl turns1 in
    let opening : IsBuilt b0 b1 (s.statement_made p I F >=> λ x. pure (e.written x)) (e.written fx) = last b0 b1 (s.statement_made p I F) (λ x. e.written x) fx made1 in
    let all : IsBuilt b0 b2 (s.statement_made p S (u.For a.at (u.written F) t1 t2 A)) y =
    then_if b0 b1 b2 (s.statement_made p I F >=> λ x. pure (e.written x)) (λ f. steps.turns_of p (s.behind p m I F) f t1 t2 A) (e.written fx) y opening
    (λ fits. turns2 (eI (fits_first b0 (s.statement_made p I F) (λ x. pure (e.written x)) fits))) in
    let is = for_first_is a c.in-Some.first c.in-For.field-1 c.in-For.field-2 c.in-For.field-3 (c.in-For.is ∙ ap (λ o. form.For o c.in-For.field-1 c.in-For.field-2 c.in-For.field-3) c.in-Some.is) in
    let kept = ap (λ z. typed_statement z.value) c.in_ok-first-in-Some-3.ensures.kept ∙ ap typed_statement c.in_ok-first-in-Some-2.ensures in
    via b0 b2 (s.statement_made p S (u.For a.at (u.written F) t1 t2 A)) (s.statement_made p S (statement a)) y
    (e.For (e.written (typed_statement c.in_ok-first-in-Some-3.first.value)) (optional_typed_tree r.test) (optional_typed_tree r.step) (typed_statement r.body.value))
    (sym (ap (s.statement_made p S) is)) (sym (ap (λ z. e.For (e.written z) (optional_typed_tree r.test) (optional_typed_tree r.step) (typed_statement r.body.value)) kept)) all

pub build_statements::build_for-returns-in_ok-first-in-Some-3-clause-site : goal.build_statements::build_for-returns-in_ok-first-in-Some-3-clause-site
build_statements::build_for-returns-in_ok-first-in-Some-3-clause-site t c =
    let p = c.args.plan.now in
    let S = s.site c.args.site.now in
    let b0 = c.args.builder.now in
    let a = c.args.a.now in
    let m = b0.local in
    let B = s.site c.begin-around.new.site in
    let Q = s.site c.build_statement.new.site in
    let R = s.site c.build_turns-in-Some.new.site in
    let Z = s.site c.end-in-Some.new.site in
    let r = c.in_ok-first-in-Some-3.turns in
    let same : R ≡ Q = from_ok c.build_turns-in-Some.result r (λ k. R ≡ Q) c.in_ok-first-in-Some-3.ensures.other c.build_turns-in-Some.ensures.site in
    let G : Grown S R = grown_is S Q R (grown_further S B Q (grown_is S (b.in_block S) B (grown_block S) c.begin-around.ensures.site) c.in_ok-first-in-Some.ensures.grown) same in
    let around = c.begin-around.result in
    let is = for_first_is a c.in-Some.first c.in-For.field-1 c.in-For.field-2 c.in-For.field-3 (c.in-For.is ∙ ap (λ o. form.For o c.in-For.field-1 c.in-For.field-2 c.in-For.field-3) c.in-Some.is) in
    site_closed S R Z around.scope.locals around.scope.block around.spots G c.end-in-Some.ensures.place c.end-in-Some.ensures.spots
    c.begin-around.ensures.locals c.begin-around.ensures.block c.begin-around.ensures.spots
    ∙ site_is S.place S.place S.spots (S.spots ++ []) refl (sym (append-nil S.spots)) ∙ sym (ap (s.behind p m S) is)

pub build_statements::build_for_of-returns-clause-built : goal.build_statements::build_for_of-returns-clause-built
unfolding s.statement_made s.tree_made s.tree_kind
build_statements::build_for_of-returns-clause-built t c =
    let p = c.args.plan.now in
    let S = s.site c.args.site.now in
    let b0 = c.args.builder.now in
    let a = c.args.a.now in
    let b1 = c.build_tree.new.builder in
    let b2 = c.add_loop.new.builder in
    let b3 = c.build_branch.new.builder in
    let fixed = c.in-ForOf.fixed in
    let x = c.in-ForOf.name in
    let L = tree c.in-ForOf.list in
    let A = statement c.in-ForOf.body.value in
    let A1 = statement c.deref.result.now in
    let h = c.in_ok-list-in-ForOf.ensures in
    let l = typed_tree c.in_ok-list-in-ForOf.list.tree in
    let y = typed_statement c.in_ok-list-in-ForOf-4.body.value in
    let kind = c.items_of-kind.result in
    let items = derive.items_of (s.tree_kind p S None L) in
    let ek : kind ≡ items = c.items_of-kind.ensures ∙ ap (λ k. derive.items_of k) h.kind in
    let o2 = c.in_ok-list-in-ForOf-2.ensures.other in
    let i = c.in_ok-list-in-ForOf-2.local in
    let Ra = c.add_loop.result in
    let number : i ≡ b1.local = from_ok Ra i (λ z. z ≡ b1.local) o2 c.add_loop.ensures.number in
    let w = s.noted items in
    let hl : value_types b2.locals ≡ value_types b1.locals ++ w ∷ v.ListOf w ∷ v.Number ∷ [] =
    from_ok Ra i (λ z. value_types b2.locals ≡ value_types b1.locals ++ s.noted kind ∷ v.ListOf (s.noted kind) ∷ v.Number ∷ []) o2 c.add_loop.ensures.locals
    ∙ ap (λ k. value_types b1.locals ++ s.noted k ∷ v.ListOf (s.noted k) ∷ v.Number ∷ []) ek in
    let hr : typed_routines b2.routines ≡ typed_routines b1.routines = ap typed_routines (from_ok Ra i (λ z. b2.routines ≡ b1.routines) o2 c.add_loop.ensures.routines) in
    let hm : b1.local + 3 < 2 ^ 32 → b2.local ≡ b1.local + 3 =
    λ few. (let three : b2.local ≡ min (b1.local + 3) (2 ^ 32 - 1) = from_ok Ra i (λ z. b2.local ≡ min (b1.local + 3) (2 ^ 32 - 1)) o2 c.add_loop.ensures.local in omega (arith, few, three)) in
    let hf : b2.function ≡ b1.function = from_ok Ra i (λ z. b2.function ≡ b1.function) o2 c.add_loop.ensures.function in
    let B = s.site c.begin-around.new.site in
    let D = s.site c.declare_local.new.site in
    let o3 = c.in_ok-list-in-ForOf-3.ensures.other in
    let known = c.in_ok-list-in-ForOf-3._known in
    let P : D.place ≡ with B.place x kind fixed = from_ok c.declare_local.result known (λ z. D.place ≡ with B.place x kind fixed) o3 c.declare_local.ensures.place in
    let Q : D.spots ≡ B.spots ++ Local b0.local ∷ [] = from_ok c.declare_local.result known (λ z. D.spots ≡ B.spots ++ Local b0.local ∷ []) o3 c.declare_local.ensures.spots in
    let eB = c.begin-around.ensures.site in
    let inside = site_of (inner (derive.looped p.tables.now p.known.now S.place fixed x L)) (S.spots ++ Local b0.local ∷ []) in
    let P2 = P ∙ ap (λ k. with B.place x k fixed) ek ∙ ap (λ (z : b.Site). with z.place x items fixed) eB in
    let Q2 = Q ∙ ap (λ (z : b.Site). z.spots ++ Local b0.local ∷ []) eB in
    let eD : b.in_block D ≡ inside = ap b.in_block (site_is D.place (derive.looped p.tables.now p.known.now S.place fixed x L) D.spots (S.spots ++ Local b0.local ∷ []) P2 Q2) in
    let body1 : IsBuilt b2 b3 (s.statement_made p (b.in_block D) A1) y =
    from_ok c.build_branch.result c.in_ok-list-in-ForOf-4.body (λ r. IsBuilt b2 b3 (s.statement_made p (b.in_block D) A1) (typed_statement r.value)) c.in_ok-list-in-ForOf-4.ensures.other c.build_branch.ensures.built in
    let body : IsBuilt b2 b3 (s.statement_made p inside A) y =
    via b2 b3 (s.statement_made p (b.in_block D) A1) (s.statement_made p inside A) y y (ap (λ z. s.statement_made p z A1) eD ∙ ap (λ (z : Stmt). s.statement_made p inside (statement z)) c.deref.ensures) refl body1 in
    let z0 = e.ForOf fixed (Local b1.local) l y in
    let tail : e.TypedTree → Making e.TypedStatement =
    λ k. a_local w (λ i. i) >=> λ i. a_local (v.ListOf w) (λ j. j) >=> λ j. a_local v.Number (λ j. j) >=> λ j. s.statement_made p inside A >=> λ q. pure (e.ForOf fixed (Local i) k q) in
    let rest : IsBuilt b1 b3 (tail l) z0 = three_locals b1 b2 b3 w (v.ListOf w) v.Number (λ j. s.statement_made p inside A >=> λ q. pure (e.ForOf fixed (Local j) l q)) z0 hl hr hm hf
    (last b2 b3 (s.statement_made p inside A) (λ q. e.ForOf fixed (Local b1.local) l q) y body) in
    let all : IsBuilt b0 b3 (s.statement_made p S (u.ForOf a.at fixed x L A)) z0 =
    then b0 b1 b3 (s.tree_made p S None L) tail
    l z0 h.built rest in
    let is = for_of_is a fixed x c.in-ForOf.list c.in-ForOf.body c.in-ForOf.is in
    let kept = c.in_ok-list-in-ForOf-4.ensures.kept ∙ c.in_ok-list-in-ForOf-3.ensures.kept ∙ c.in_ok-list-in-ForOf-2.ensures.kept in
    via b0 b3 (s.statement_made p S (u.ForOf a.at fixed x L A)) (s.statement_made p S (statement a)) z0 (e.ForOf fixed (Local i) (typed_tree c.in_ok-list-in-ForOf-4.list) y)
    (sym (ap (s.statement_made p S) is)) (sym (ap (λ j. e.ForOf fixed (Local j) (typed_tree c.in_ok-list-in-ForOf-4.list) y) number ∙ ap (λ (q : TypedExpr). e.ForOf fixed (Local b1.local) (typed_tree q) y) kept)) all

pub build_statements::build_statement-returns-in_ok-value-in-Return-clause-built : goal.build_statements::build_statement-returns-in_ok-value-in-Return-clause-built
unfolding s.statement_made s.value_made
build_statements::build_statement-returns-in_ok-value-in-Return-clause-built t c =
    let p = c.args.plan.now in
    let S = s.site c.args.site.now in
    let b0 = c.args.builder.now in
    let a = c.args.a.now in
    let b1 = c.build_value.new.builder in
    let v = optional_expression c.in-Return.value in
    let r = optional_typed_tree c.in_ok-value-in-Return.value in
    via b0 b1 (s.statement_made p S (u.Return a.at v)) (s.statement_made p S (statement a)) (e.Return r) (e.Return r) (sym (ap (s.statement_made p S) (return_is a c.in-Return.value c.in-Return.is))) refl
    (last b0 b1 (s.value_made p S S.place.gives v) (λ x. e.Return x) r c.in_ok-value-in-Return.ensures)

pub build_statements::build_statement-returns-in_ok-e-in-Plain-clause-built : goal.build_statements::build_statement-returns-in_ok-e-in-Plain-clause-built
unfolding s.statement_made s.tree_made
build_statements::build_statement-returns-in_ok-e-in-Plain-clause-built t c =
    let p = c.args.plan.now in
    let S = s.site c.args.site.now in
    let b0 = c.args.builder.now in
    let a = c.args.a.now in
    let b1 = c.build_tree.new.builder in
    let v = tree c.in-Plain.e in
    let r = typed_tree c.in_ok-e-in-Plain.e.tree in
    let h = c.in_ok-e-in-Plain.ensures in
    via b0 b1 (s.statement_made p S (u.Plain a.at v)) (s.statement_made p S (statement a)) (e.Plain r) (e.Plain r) (sym (ap (s.statement_made p S) (plain_is a c.in-Plain.e c.in-Plain.is))) refl
    (last b0 b1 (s.tree_made p S None v) (λ x. e.Plain x) r h.built)

pub build_statements::build_statements-loop-i-init : goal.build_statements::build_statements-loop-i-init
build_statements::build_statements-loop-i-init t c =
    let p = c.args.plan.now in
    let st = s.site c.args.site.now in
    let B = c.args.builder.now in
    record {
      go = subst (λ z. StatementsGo p B (s.statements_made p st (statements c.args.all.now)) B st c.args.all.now z) (sym c.new-made.ensures) (λ d ys given. given);
      here = grown_not st;
    }

pub build_statements::build_statements-loop-i-preserved : goal.build_statements::build_statements-loop-i-preserved
build_statements::build_statements-loop-i-preserved t c =
    let p = c.args.plan.now in
    let xs = c.args.all.now in
    let i = c.loop-i.i in
    let lt : i < length xs = omega arith in
    let first = s.site c.args.site.now in
    let st = s.site c.loop-i.site in
    let st' = s.site c.build_statement.new.site in
    let whole = s.statements_made p first (statements xs) in
    record {
      go = statements_step p xs i c.index-all-i.result st st' c.args.builder.now c.loop-i.builder c.build_statement.new.builder whole c.loop-i.made c.push.new.self c.in_ok-a.a lt c.index-all-i.is c.in_ok-push.ensures.ok c.in_ok-a.ensures.site c.in_ok-a.ensures.built c.loop-i.invariant.go;
      here = grown_further first st st' c.loop-i.invariant.here c.in_ok-a.ensures.grown;
    }

pub build_statements::build_statements-returns-clause-built : goal.build_statements::build_statements-returns-clause-built
build_statements::build_statements-returns-clause-built t c =
    let p = c.args.plan.now in
    let xs = c.args.all.now in
    let le : length xs ≤ c.loop-i.i = omega arith in
    (statements_end p xs c.loop-i.i (s.site c.loop-i.site) c.args.builder.now c.loop-i.builder (s.statements_made p (s.site c.args.site.now) (statements xs)) c.loop-i.made le c.loop-i.invariant.go)

pub build_statements::build_statements-returns-clause-site : goal.build_statements::build_statements-returns-clause-site
build_statements::build_statements-returns-clause-site t c =
    site_closed (s.site c.args.site.now) (s.site c.loop-i.site) (s.site c.end.new.site) c.mark-around.result.scope.locals c.mark-around.result.scope.block c.mark-around.result.spots c.loop-i.invariant.here c.end.ensures.place c.end.ensures.spots
    c.mark-around.ensures.locals c.mark-around.ensures.block c.mark-around.ensures.spots

pub build_statements::build_turns-returns-clause-built : goal.build_statements::build_turns-returns-clause-built
unfolding steps.turns_of
build_statements::build_turns-returns-clause-built t c = λ first.
    let p = c.args.plan.now in
    let S = s.site c.args.site.now in
    let b0 = c.args.builder.now in
    let b1 = c.build_value.new.builder in
    let b2 = c.build_value-2.new.builder in
    let b3 = c.build_branch.new.builder in
    let t1 = optional_expression c.in-For.test in
    let t2 = optional_expression c.in-For.step in
    let A = statement c.in-For.a.value in
    let A1 = statement c.deref.result.now in
    let is = turns_is p S first c.args.all.now c.in-For.field-0 c.in-For.test c.in-For.step c.in-For.a c.in-For.is in
    let x = optional_typed_tree c.in_ok-test.test in
    let y = optional_typed_tree c.in_ok-test-2.step in
    let z = typed_statement c.in_ok-test-3.body.value in
    let one : IsBuilt b0 b1 (s.optional_made p S t1) x = via b0 b1 (s.value_made p S None t1) (s.optional_made p S t1) x x (optional_is p S t1) refl c.in_ok-test.ensures in
    let two : IsBuilt b1 b2 (s.optional_made p S t2) y = via b1 b2 (s.value_made p S None t2) (s.optional_made p S t2) y y (optional_is p S t2) refl
    (from_ok c.build_value-2.result c.in_ok-test-2.step (λ r. IsBuilt b1 b2 (s.value_made p S None t2) (optional_typed_tree r)) c.in_ok-test-2.ensures.other c.build_value-2.ensures) in
    let three : IsBuilt b2 b3 (s.statement_made p (b.in_block S) A) z =
    via b2 b3 (s.statement_made p (b.in_block S) A1) (s.statement_made p (b.in_block S) A) z z (ap (λ (w : Stmt). s.statement_made p (b.in_block S) (statement w)) c.deref.ensures) refl
    (from_ok c.build_branch.result c.in_ok-test-3.body (λ r. IsBuilt b2 b3 (s.statement_made p (b.in_block S) A1) (typed_statement r.value)) c.in_ok-test-3.ensures.other c.build_branch.ensures.built) in
    let k1 = ap (λ w. w.0) c.in_ok-test-3.ensures.kept ∙ c.in_ok-test-2.ensures.kept in
    let k2 = ap (λ w. w.1) c.in_ok-test-3.ensures.kept in
    via b0 b3 (steps.turns_of p S first t1 t2 A) (steps.turns_made p S first (statement c.args.all.now)) (e.For first x y z) (e.For first (optional_typed_tree c.in_ok-test-3.test) (optional_typed_tree c.in_ok-test-3.step) z) (sym is)
    (sym (ap (λ w. e.For first (optional_typed_tree w) (optional_typed_tree c.in_ok-test-3.step) z) k1 ∙ ap (λ w. e.For first x (optional_typed_tree w) z) k2))
    (of_three b0 b1 b2 b3 (s.optional_made p S t1) (s.optional_made p S t2) (s.statement_made p (b.in_block S) A) (λ q i k. e.For first q i k) x y z one two three)

pub build_calls::build_arguments-loop-i-init : goal.build_calls::build_arguments-loop-i-init
build_calls::build_arguments-loop-i-init t c = arguments_begin c.args.plan.now (s.site c.args.site.now) (call.places c.args.takes) c.args.args.now c.args.builder.now c.args.first

pub build_calls::build_arguments-loop-i-preserved : goal.build_calls::build_arguments-loop-i-preserved
build_calls::build_arguments-loop-i-preserved t c =
    let p = c.args.plan.now in
    let st = s.site c.args.site.now in
    let q = call.places c.args.takes in
    let xs = c.args.args.now in
    let lt : c.loop-i.i < length xs = omega arith in
    arguments_step p st q xs c.loop-i.i c.index-args-i.result c.args.builder.now c.loop-i.builder c.build_argument.new.builder (call.behind_made p st q (typed_trees c.args.first) (trees xs)) c.loop-i.all c.push.new.self c.in_ok-x.x
    lt c.index-args-i.is c.in_ok-push.ensures.ok c.in_ok-x.ensures c.loop-i.invariant

pub build_calls::build_arguments-returns : goal.build_calls::build_arguments-returns
build_calls::build_arguments-returns t c =
    let p = c.args.plan.now in
    let st = s.site c.args.site.now in
    let q = call.places c.args.takes in
    let xs = c.args.args.now in
    let le : length xs ≤ c.loop-i.i = omega arith in
    arguments_end p st q xs c.loop-i.i c.args.builder.now c.loop-i.builder (call.behind_made p st q (typed_trees c.args.first) (trees xs)) c.loop-i.all le c.loop-i.invariant

pub build_calls::build_object-returns-else-wanted : goal.build_calls::build_object-returns-else-wanted
unfolding call.object_made
build_calls::build_object-returns-else-wanted t c =
    let p = c.args.plan.now in
    let st = s.site c.args.site.now in
    let b0 = c.args.builder.now in
    via b0 b0 (pure e.none) (call.object_made p st c.args.wanted (tree c.args.f.now)) e.none (typed_trees c.new-all.result) (ap (λ w. call.object_made p st w (tree c.args.f.now)) (sym c.if-wanted.false)) (sym (ap typed_trees c.new-all.ensures))
    (stays b0 e.none)

pub build_calls::build_object-returns-in_default : goal.build_calls::build_object-returns-in_default
build_calls::build_object-returns-in_default t c =
    let p = c.args.plan.now in
    let st = s.site c.args.site.now in
    let b0 = c.args.builder.now in
    let f = c.args.f.now in
    via b0 b0 (pure e.none) (call.object_made p st c.args.wanted (tree f)) e.none (typed_trees c.new-all.result)
    (sym (no_object p st f c.in_default.not-Member) ∙ ap (λ w. call.object_made p st w (tree f)) (sym c.if-wanted.true)) (sym (ap typed_trees c.new-all.ensures))
    (stays b0 e.none)

pub build_calls::build_object-returns-in_ok-push-in-Member : goal.build_calls::build_object-returns-in_ok-push-in-Member
unfolding call.object_made
build_calls::build_object-returns-in_ok-push-in-Member t c =
    let p = c.args.plan.now in
    let st = s.site c.args.site.now in
    let b0 = c.args.builder.now in
    let b1 = c.build_tree.new.builder in
    let h = c.in_ok-x-in-Member.ensures in
    let x = typed_tree c.in_ok-x-in-Member.x.tree in
    let f = tree c.args.f.now in
    let a = tree c.in-Member.a.value in
    let node : f ≡ Member c.args.f.now.at a c.in-Member.field-1 = ap (node_tree c.args.f.now.at) c.in-Member.is in
    let object : IsBuilt b0 b1 (s.tree_made p st None a) x = via b0 b1 (s.tree_made p st None (tree c.deref.result.now)) (s.tree_made p st None a) x x (ap (λ (z : Expr). s.tree_made p st None (tree z)) c.deref.ensures) refl
    h.built in
    via b0 b1 (call.object_made p st true (Member c.args.f.now.at a c.in-Member.field-1)) (call.object_made p st c.args.wanted f) (e.more x e.none) (typed_trees c.push.new.self)
    (ap (λ z. call.object_made p st true z) (sym node) ∙ ap (λ w. call.object_made p st w f) (sym c.if-wanted.true))
    (sym (ap typed_trees (c.in_ok-push-in-Member.ensures.ok ∙ ap (λ (q : List TypedExpr). q ++ c.in_ok-x-in-Member.x.tree ∷ []) c.new-all.ensures)))
    (last b0 b1 (s.tree_made p st None a) (λ y. e.more y e.none) x object)

pub build_calls::build_passed-returns-in-Items : goal.build_calls::build_passed-returns-in-Items
unfolding call.passed_made
build_calls::build_passed-returns-in-Items t c =
    let p = c.args.plan.now in
    let st = s.site c.args.site.now in
    let node = items_is c.args.e.now c.in-Items.args c.in-Items.is in
    let takes = c.takes_of-takes.ensures in
    subst (λ (f : Making e.TypedTrees). IfOk c.build_arguments.result (λ r. IsBuilt c.args.builder.now c.build_arguments.new.builder f (typed_trees r)))
    (ap (λ q. call.behind_made p st q (typed_trees c.new-none.result) (trees c.as_slice.result.now)) takes
    ∙ ap (λ (ys : List TypedExpr). call.behind_made p st (call.head_places p c.args.head) (typed_trees ys) (trees c.as_slice.result.now)) c.new-none.ensures
    ∙ ap (λ (xs : List Expr). call.behind_made p st (call.head_places p c.args.head) e.none (trees xs)) c.as_slice.ensures
    ∙ sym (ap (call.passed_made p st c.args.head) node)) c.build_arguments.ensures

pub build_calls::build_passed-returns-in-Make : goal.build_calls::build_passed-returns-in-Make
unfolding call.passed_made
build_calls::build_passed-returns-in-Make t c =
    let p = c.args.plan.now in
    let st = s.site c.args.site.now in
    let node = make_is c.args.e.now c.in-Make.field-0 c.in-Make.args c.in-Make.is in
    let takes = c.takes_of-takes.ensures in
    subst (λ (f : Making e.TypedTrees). IfOk c.build_arguments-in-Make.result (λ r. IsBuilt c.args.builder.now c.build_arguments-in-Make.new.builder f (typed_trees r)))
    (ap (λ q. call.behind_made p st q (typed_trees c.new-none.result) (trees c.as_slice-in-Make.result.now)) takes
    ∙ ap (λ (ys : List TypedExpr). call.behind_made p st (call.head_places p c.args.head) (typed_trees ys) (trees c.as_slice-in-Make.result.now)) c.new-none.ensures
    ∙ ap (λ (xs : List Expr). call.behind_made p st (call.head_places p c.args.head) e.none (trees xs)) c.as_slice-in-Make.ensures
    ∙ sym (ap (call.passed_made p st c.args.head) node)) c.build_arguments-in-Make.ensures

pub build_calls::build_passed-returns-in-SuperCall : goal.build_calls::build_passed-returns-in-SuperCall
unfolding call.passed_made
build_calls::build_passed-returns-in-SuperCall t c =
    let p = c.args.plan.now in
    let st = s.site c.args.site.now in
    let node = super_call_is c.args.e.now c.in-SuperCall.field-0 c.in-SuperCall.args c.in-SuperCall.is in
    let takes = c.takes_of-takes.ensures in
    subst (λ (f : Making e.TypedTrees). IfOk c.build_arguments-in-SuperCall.result (λ r. IsBuilt c.args.builder.now c.build_arguments-in-SuperCall.new.builder f (typed_trees r)))
    (ap (λ q. call.behind_made p st q (typed_trees c.new-none.result) (trees c.as_slice-in-SuperCall.result.now)) takes
    ∙ ap (λ (ys : List TypedExpr). call.behind_made p st (call.head_places p c.args.head) (typed_trees ys) (trees c.as_slice-in-SuperCall.result.now)) c.new-none.ensures
    ∙ ap (λ (xs : List Expr). call.behind_made p st (call.head_places p c.args.head) e.none (trees xs)) c.as_slice-in-SuperCall.ensures
    ∙ sym (ap (call.passed_made p st c.args.head) node)) c.build_arguments-in-SuperCall.ensures

pub build_calls::build_passed-returns-in_ok-object-in-Call : goal.build_calls::build_passed-returns-in_ok-object-in-Call
unfolding call.passed_made
build_calls::build_passed-returns-in_ok-object-in-Call t c =
    let p = c.args.plan.now in
    let st = s.site c.args.site.now in
    let b0 = c.args.builder.now in
    let b1 = c.build_object.new.builder in
    let b2 = c.build_arguments-in-Call.new.builder in
    let h = c.args.head in
    let f = tree c.in-Call.f.value in
    let args = trees c.in-Call.args in
    let ys = typed_trees c.in_ok-object-in-Call.object in
    let node = call_is c.args.e.now c.in-Call.f c.in-Call.args c.in-Call.is in
    let object : IsBuilt b0 b1 (call.object_made p st (call.has_object h) f) ys =
    via b0 b1 (call.object_made p st c.has_object.result (tree c.deref.result.now)) (call.object_made p st (call.has_object h) f) ys ys
    (ap (λ w. call.object_made p st w (tree c.deref.result.now)) c.has_object.ensures ∙ ap (λ (z : Expr). call.object_made p st (call.has_object h) (tree z)) c.deref.ensures) refl c.in_ok-object-in-Call.ensures in
    let list : call.behind_made p st (call.places c.takes_of-takes.result) ys (trees c.as_slice-in-Call.result.now) ≡ call.behind_made p st (call.head_places p h) ys args =
    ap (λ q. call.behind_made p st q ys (trees c.as_slice-in-Call.result.now)) c.takes_of-takes.ensures ∙ ap (λ (xs : List Expr). call.behind_made p st (call.head_places p h) ys (trees xs)) c.as_slice-in-Call.ensures in
    IfOk-weaker c.build_arguments-in-Call.result _ _
    (λ r built. via b0 b2 (call.passed_made p st h (u.Call c.args.e.now.at f args)) (call.passed_made p st h (tree c.args.e.now)) (typed_trees r) (typed_trees r) (sym (ap (call.passed_made p st h) node)) refl
    (then b0 b1 b2 (call.object_made p st (call.has_object h) f) (λ zs. call.behind_made p st (call.head_places p h) zs args) ys (typed_trees r) object
    (via b1 b2 (call.behind_made p st (call.places c.takes_of-takes.result) ys (trees c.as_slice-in-Call.result.now)) (call.behind_made p st (call.head_places p h) ys args) (typed_trees r) (typed_trees r) list refl built)))
    c.build_arguments-in-Call.ensures

pub build_statements::build_branch-returns-in_err-made-clause-built : goal.build_statements::build_branch-returns-in_err-made-clause-built
build_statements::build_branch-returns-in_err-made-clause-built t c = IfOk-from_err c.from_residual.result _ c.from_residual.ensures.0

pub build_statements::build_branch-returns-in_err-made-clause-site : goal.build_statements::build_branch-returns-in_err-made-clause-site
build_statements::build_branch-returns-in_err-made-clause-site t c = IfOk-from_err c.from_residual.result _ c.from_residual.ensures.0

pub build_statements::build_turns-returns-in_err-test-clause-built : goal.build_statements::build_turns-returns-in_err-test-clause-built
build_statements::build_turns-returns-in_err-test-clause-built t c = IfOk-from_err c.from_residual.result _ c.from_residual.ensures.0

pub build_statements::build_turns-returns-in_err-test-clause-site : goal.build_statements::build_turns-returns-in_err-test-clause-site
build_statements::build_turns-returns-in_err-test-clause-site t c = IfOk-from_err c.from_residual.result _ c.from_residual.ensures.0

pub build_statements::build_turns-returns-in_err-test-2-clause-built : goal.build_statements::build_turns-returns-in_err-test-2-clause-built
build_statements::build_turns-returns-in_err-test-2-clause-built t c = IfOk-from_err c.from_residual-in_err-test-2.result _ c.from_residual-in_err-test-2.ensures.0

pub build_statements::build_turns-returns-in_err-test-2-clause-site : goal.build_statements::build_turns-returns-in_err-test-2-clause-site
build_statements::build_turns-returns-in_err-test-2-clause-site t c = IfOk-from_err c.from_residual-in_err-test-2.result _ c.from_residual-in_err-test-2.ensures.0

pub build_statements::build_turns-returns-in_err-test-3-clause-built : goal.build_statements::build_turns-returns-in_err-test-3-clause-built
build_statements::build_turns-returns-in_err-test-3-clause-built t c = IfOk-from_err c.from_residual-in_err-test-3.result _ c.from_residual-in_err-test-3.ensures.0

pub build_statements::build_turns-returns-in_err-test-3-clause-site : goal.build_statements::build_turns-returns-in_err-test-3-clause-site
build_statements::build_turns-returns-in_err-test-3-clause-site t c = IfOk-from_err c.from_residual-in_err-test-3.result _ c.from_residual-in_err-test-3.ensures.0

pub build_statements::build_if-returns-in_err-test-in-If-clause-built : goal.build_statements::build_if-returns-in_err-test-in-If-clause-built
build_statements::build_if-returns-in_err-test-in-If-clause-built t c = IfOk-from_err c.from_residual.result _ c.from_residual.ensures.0

pub build_statements::build_if-returns-in_err-test-in-If-clause-site : goal.build_statements::build_if-returns-in_err-test-in-If-clause-site
build_statements::build_if-returns-in_err-test-in-If-clause-site t c = IfOk-from_err c.from_residual.result _ c.from_residual.ensures.0

pub build_statements::build_if-returns-in_err-test-in-If-2-clause-built : goal.build_statements::build_if-returns-in_err-test-in-If-2-clause-built
build_statements::build_if-returns-in_err-test-in-If-2-clause-built t c = IfOk-from_err c.from_residual-in_err-test-in-If-2.result _ c.from_residual-in_err-test-in-If-2.ensures.0

pub build_statements::build_if-returns-in_err-test-in-If-2-clause-site : goal.build_statements::build_if-returns-in_err-test-in-If-2-clause-site
build_statements::build_if-returns-in_err-test-in-If-2-clause-site t c = IfOk-from_err c.from_residual-in_err-test-in-If-2.result _ c.from_residual-in_err-test-in-If-2.ensures.0

pub build_statements::build_if-returns-in_err-test-in-Some-clause-built : goal.build_statements::build_if-returns-in_err-test-in-Some-clause-built
build_statements::build_if-returns-in_err-test-in-Some-clause-built t c = IfOk-from_err c.from_residual-in_err-test-in-Some.result _ c.from_residual-in_err-test-in-Some.ensures.0

pub build_statements::build_if-returns-in_err-test-in-Some-clause-site : goal.build_statements::build_if-returns-in_err-test-in-Some-clause-site
build_statements::build_if-returns-in_err-test-in-Some-clause-site t c = IfOk-from_err c.from_residual-in_err-test-in-Some.result _ c.from_residual-in_err-test-in-Some.ensures.0

pub build_statements::build_while-returns-in_err-test-in-While-clause-built : goal.build_statements::build_while-returns-in_err-test-in-While-clause-built
build_statements::build_while-returns-in_err-test-in-While-clause-built t c = IfOk-from_err c.from_residual.result _ c.from_residual.ensures.0

pub build_statements::build_while-returns-in_err-test-in-While-clause-site : goal.build_statements::build_while-returns-in_err-test-in-While-clause-site
build_statements::build_while-returns-in_err-test-in-While-clause-site t c = IfOk-from_err c.from_residual.result _ c.from_residual.ensures.0

pub build_statements::build_while-returns-in_err-test-in-While-2-clause-built : goal.build_statements::build_while-returns-in_err-test-in-While-2-clause-built
build_statements::build_while-returns-in_err-test-in-While-2-clause-built t c = IfOk-from_err c.from_residual-in_err-test-in-While-2.result _ c.from_residual-in_err-test-in-While-2.ensures.0

pub build_statements::build_while-returns-in_err-test-in-While-2-clause-site : goal.build_statements::build_while-returns-in_err-test-in-While-2-clause-site
build_statements::build_while-returns-in_err-test-in-While-2-clause-site t c = IfOk-from_err c.from_residual-in_err-test-in-While-2.result _ c.from_residual-in_err-test-in-While-2.ensures.0

pub build_statements::build_while-returns-in_err-a-in-DoWhile-clause-built : goal.build_statements::build_while-returns-in_err-a-in-DoWhile-clause-built
build_statements::build_while-returns-in_err-a-in-DoWhile-clause-built t c = IfOk-from_err c.from_residual-in_err-a-in-DoWhile.result _ c.from_residual-in_err-a-in-DoWhile.ensures.0

pub build_statements::build_while-returns-in_err-a-in-DoWhile-clause-site : goal.build_statements::build_while-returns-in_err-a-in-DoWhile-clause-site
build_statements::build_while-returns-in_err-a-in-DoWhile-clause-site t c = IfOk-from_err c.from_residual-in_err-a-in-DoWhile.result _ c.from_residual-in_err-a-in-DoWhile.ensures.0

pub build_statements::build_while-returns-in_err-a-in-DoWhile-2-clause-built : goal.build_statements::build_while-returns-in_err-a-in-DoWhile-2-clause-built
build_statements::build_while-returns-in_err-a-in-DoWhile-2-clause-built t c = IfOk-from_err c.from_residual-in_err-a-in-DoWhile-2.result _ c.from_residual-in_err-a-in-DoWhile-2.ensures.0

pub build_statements::build_while-returns-in_err-a-in-DoWhile-2-clause-site : goal.build_statements::build_while-returns-in_err-a-in-DoWhile-2-clause-site
build_statements::build_while-returns-in_err-a-in-DoWhile-2-clause-site t c = IfOk-from_err c.from_residual-in_err-a-in-DoWhile-2.result _ c.from_residual-in_err-a-in-DoWhile-2.ensures.0

pub build_statements::build_for-returns-in_err-turns-in-None-clause-built : goal.build_statements::build_for-returns-in_err-turns-in-None-clause-built
build_statements::build_for-returns-in_err-turns-in-None-clause-built t c = IfOk-from_err c.from_residual.result _ c.from_residual.ensures.0

pub build_statements::build_for-returns-in_err-turns-in-None-clause-site : goal.build_statements::build_for-returns-in_err-turns-in-None-clause-site
build_statements::build_for-returns-in_err-turns-in-None-clause-site t c = IfOk-from_err c.from_residual.result _ c.from_residual.ensures.0

pub build_statements::build_for-returns-in_err-first-in-Some-clause-built : goal.build_statements::build_for-returns-in_err-first-in-Some-clause-built
build_statements::build_for-returns-in_err-first-in-Some-clause-built t c = IfOk-from_err c.from_residual-in_err-first-in-Some.result _ c.from_residual-in_err-first-in-Some.ensures.0

pub build_statements::build_for-returns-in_err-first-in-Some-clause-site : goal.build_statements::build_for-returns-in_err-first-in-Some-clause-site
build_statements::build_for-returns-in_err-first-in-Some-clause-site t c = IfOk-from_err c.from_residual-in_err-first-in-Some.result _ c.from_residual-in_err-first-in-Some.ensures.0

pub build_statements::build_for-returns-in_err-first-in-Some-2-clause-built : goal.build_statements::build_for-returns-in_err-first-in-Some-2-clause-built
build_statements::build_for-returns-in_err-first-in-Some-2-clause-built t c = IfOk-from_err c.from_residual-in_err-first-in-Some-2.result _ c.from_residual-in_err-first-in-Some-2.ensures.0

pub build_statements::build_for-returns-in_err-first-in-Some-2-clause-site : goal.build_statements::build_for-returns-in_err-first-in-Some-2-clause-site
build_statements::build_for-returns-in_err-first-in-Some-2-clause-site t c = IfOk-from_err c.from_residual-in_err-first-in-Some-2.result _ c.from_residual-in_err-first-in-Some-2.ensures.0

pub build_statements::build_for-returns-in_err-first-in-Some-3-clause-built : goal.build_statements::build_for-returns-in_err-first-in-Some-3-clause-built
build_statements::build_for-returns-in_err-first-in-Some-3-clause-built t c = IfOk-from_err c.from_residual-in_err-first-in-Some-3.result _ c.from_residual-in_err-first-in-Some-3.ensures.0

pub build_statements::build_for-returns-in_err-first-in-Some-3-clause-site : goal.build_statements::build_for-returns-in_err-first-in-Some-3-clause-site
build_statements::build_for-returns-in_err-first-in-Some-3-clause-site t c = IfOk-from_err c.from_residual-in_err-first-in-Some-3.result _ c.from_residual-in_err-first-in-Some-3.ensures.0

pub build_statements::build_for_of-returns-in_err-list-in-ForOf-clause-built : goal.build_statements::build_for_of-returns-in_err-list-in-ForOf-clause-built
build_statements::build_for_of-returns-in_err-list-in-ForOf-clause-built t c = IfOk-from_err c.from_residual.result _ c.from_residual.ensures.0

pub build_statements::build_for_of-returns-in_err-list-in-ForOf-clause-site : goal.build_statements::build_for_of-returns-in_err-list-in-ForOf-clause-site
build_statements::build_for_of-returns-in_err-list-in-ForOf-clause-site t c = IfOk-from_err c.from_residual.result _ c.from_residual.ensures.0

pub build_statements::build_for_of-returns-in_err-list-in-ForOf-2-clause-built : goal.build_statements::build_for_of-returns-in_err-list-in-ForOf-2-clause-built
build_statements::build_for_of-returns-in_err-list-in-ForOf-2-clause-built t c = IfOk-from_err c.from_residual-in_err-list-in-ForOf-2.result _ c.from_residual-in_err-list-in-ForOf-2.ensures.0

pub build_statements::build_for_of-returns-in_err-list-in-ForOf-2-clause-site : goal.build_statements::build_for_of-returns-in_err-list-in-ForOf-2-clause-site
build_statements::build_for_of-returns-in_err-list-in-ForOf-2-clause-site t c = IfOk-from_err c.from_residual-in_err-list-in-ForOf-2.result _ c.from_residual-in_err-list-in-ForOf-2.ensures.0

pub build_statements::build_for_of-returns-in_err-list-in-ForOf-3-clause-built : goal.build_statements::build_for_of-returns-in_err-list-in-ForOf-3-clause-built
build_statements::build_for_of-returns-in_err-list-in-ForOf-3-clause-built t c = IfOk-from_err c.from_residual-in_err-list-in-ForOf-3.result _ c.from_residual-in_err-list-in-ForOf-3.ensures.0

pub build_statements::build_for_of-returns-in_err-list-in-ForOf-3-clause-site : goal.build_statements::build_for_of-returns-in_err-list-in-ForOf-3-clause-site
build_statements::build_for_of-returns-in_err-list-in-ForOf-3-clause-site t c = IfOk-from_err c.from_residual-in_err-list-in-ForOf-3.result _ c.from_residual-in_err-list-in-ForOf-3.ensures.0

pub build_statements::build_for_of-returns-in_err-list-in-ForOf-4-clause-built : goal.build_statements::build_for_of-returns-in_err-list-in-ForOf-4-clause-built
build_statements::build_for_of-returns-in_err-list-in-ForOf-4-clause-built t c = IfOk-from_err c.from_residual-in_err-list-in-ForOf-4.result _ c.from_residual-in_err-list-in-ForOf-4.ensures.0

pub build_statements::build_for_of-returns-in_err-list-in-ForOf-4-clause-site : goal.build_statements::build_for_of-returns-in_err-list-in-ForOf-4-clause-site
build_statements::build_for_of-returns-in_err-list-in-ForOf-4-clause-site t c = IfOk-from_err c.from_residual-in_err-list-in-ForOf-4.result _ c.from_residual-in_err-list-in-ForOf-4.ensures.0

pub build_statements::build_statement-returns-in_err-all-in-Block-clause-built : goal.build_statements::build_statement-returns-in_err-all-in-Block-clause-built
build_statements::build_statement-returns-in_err-all-in-Block-clause-built t c = IfOk-from_err c.from_residual.result _ c.from_residual.ensures.0

pub build_statements::build_statement-returns-in_err-all-in-Block-clause-site : goal.build_statements::build_statement-returns-in_err-all-in-Block-clause-site
build_statements::build_statement-returns-in_err-all-in-Block-clause-site t c = IfOk-from_err c.from_residual.result _ c.from_residual.ensures.0

pub build_statements::build_statement-returns-in_err-each-in-Let-clause-built : goal.build_statements::build_statement-returns-in_err-each-in-Let-clause-built
build_statements::build_statement-returns-in_err-each-in-Let-clause-built t c = IfOk-from_err c.from_residual-in_err-each-in-Let.result _ c.from_residual-in_err-each-in-Let.ensures.0

pub build_statements::build_statement-returns-in_err-each-in-Let-clause-site : goal.build_statements::build_statement-returns-in_err-each-in-Let-clause-site
build_statements::build_statement-returns-in_err-each-in-Let-clause-site t c = IfOk-from_err c.from_residual-in_err-each-in-Let.result _ c.from_residual-in_err-each-in-Let.ensures.0

pub build_statements::build_statement-returns-in_err-value-in-Return-clause-built : goal.build_statements::build_statement-returns-in_err-value-in-Return-clause-built
build_statements::build_statement-returns-in_err-value-in-Return-clause-built t c = IfOk-from_err c.from_residual-in_err-value-in-Return.result _ c.from_residual-in_err-value-in-Return.ensures.0

pub build_statements::build_statement-returns-in_err-value-in-Return-clause-site : goal.build_statements::build_statement-returns-in_err-value-in-Return-clause-site
build_statements::build_statement-returns-in_err-value-in-Return-clause-site t c = IfOk-from_err c.from_residual-in_err-value-in-Return.result _ c.from_residual-in_err-value-in-Return.ensures.0

pub build_statements::build_statement-returns-in_err-e-in-Plain-clause-built : goal.build_statements::build_statement-returns-in_err-e-in-Plain-clause-built
build_statements::build_statement-returns-in_err-e-in-Plain-clause-built t c = IfOk-from_err c.from_residual-in_err-e-in-Plain.result _ c.from_residual-in_err-e-in-Plain.ensures.0

pub build_statements::build_statement-returns-in_err-e-in-Plain-clause-site : goal.build_statements::build_statement-returns-in_err-e-in-Plain-clause-site
build_statements::build_statement-returns-in_err-e-in-Plain-clause-site t c = IfOk-from_err c.from_residual-in_err-e-in-Plain.result _ c.from_residual-in_err-e-in-Plain.ensures.0

pub build_statements::build_statements-returns-in_err-a-clause-built : goal.build_statements::build_statements-returns-in_err-a-clause-built
build_statements::build_statements-returns-in_err-a-clause-built t c = IfOk-from_err c.from_residual.result _ c.from_residual.ensures.0

pub build_statements::build_statements-returns-in_err-a-clause-site : goal.build_statements::build_statements-returns-in_err-a-clause-site
build_statements::build_statements-returns-in_err-a-clause-site t c = IfOk-from_err c.from_residual.result _ c.from_residual.ensures.0

pub build_statements::build_statements-returns-in_err-push-clause-built : goal.build_statements::build_statements-returns-in_err-push-clause-built
build_statements::build_statements-returns-in_err-push-clause-built t c = IfOk-from_err c.from_residual-in_err-push.result _ c.from_residual-in_err-push.ensures.0

pub build_statements::build_statements-returns-in_err-push-clause-site : goal.build_statements::build_statements-returns-in_err-push-clause-site
build_statements::build_statements-returns-in_err-push-clause-site t c = IfOk-from_err c.from_residual-in_err-push.result _ c.from_residual-in_err-push.ensures.0

pub build_calls::build_argument-returns-in_err-x-in-Built : goal.build_calls::build_argument-returns-in_err-x-in-Built
build_calls::build_argument-returns-in_err-x-in-Built t c = IfOk-from_err c.from_residual.result _ c.from_residual.ensures.0

pub build_calls::build_arguments-returns-in_err-x : goal.build_calls::build_arguments-returns-in_err-x
build_calls::build_arguments-returns-in_err-x t c = IfOk-from_err c.from_residual.result _ c.from_residual.ensures.0

pub build_calls::build_arguments-returns-in_err-push : goal.build_calls::build_arguments-returns-in_err-push
build_calls::build_arguments-returns-in_err-push t c = IfOk-from_err c.from_residual-in_err-push.result _ c.from_residual-in_err-push.ensures.0

pub build_calls::build_object-returns-in_err-x-in-Member : goal.build_calls::build_object-returns-in_err-x-in-Member
build_calls::build_object-returns-in_err-x-in-Member t c = IfOk-from_err c.from_residual.result _ c.from_residual.ensures.0

pub build_calls::build_object-returns-in_err-push-in-Member : goal.build_calls::build_object-returns-in_err-push-in-Member
build_calls::build_object-returns-in_err-push-in-Member t c = IfOk-from_err c.from_residual-in_err-push-in-Member.result _ c.from_residual-in_err-push-in-Member.ensures.0

pub build_calls::build_passed-returns-in_err-object-in-Call : goal.build_calls::build_passed-returns-in_err-object-in-Call
build_calls::build_passed-returns-in_err-object-in-Call t c = IfOk-from_err c.from_residual.result _ c.from_residual.ensures.0

pub build_locals::build_value-returns-in_err-e-in-Some : goal.build_locals::build_value-returns-in_err-e-in-Some
build_locals::build_value-returns-in_err-e-in-Some t c = IfOk-from_err c.from_residual.result _ c.from_residual.ensures.0

pub build_locals::build_initial-returns-in_err-noted-in-Some-clause-built : goal.build_locals::build_initial-returns-in_err-noted-in-Some-clause-built
build_locals::build_initial-returns-in_err-noted-in-Some-clause-built t c = IfOk-from_err c.from_residual.result _ c.from_residual.ensures.0

pub build_locals::build_initial-returns-in_err-noted-in-Some-clause-kind : goal.build_locals::build_initial-returns-in_err-noted-in-Some-clause-kind
build_locals::build_initial-returns-in_err-noted-in-Some-clause-kind t c = IfOk-from_err c.from_residual.result _ c.from_residual.ensures.0

pub build_locals::build_local-returns-in_err-initial-clause-built : goal.build_locals::build_local-returns-in_err-initial-clause-built
build_locals::build_local-returns-in_err-initial-clause-built t c = IfOk-from_err c.from_residual.result _ c.from_residual.ensures.0

pub build_locals::build_local-returns-in_err-initial-clause-site : goal.build_locals::build_local-returns-in_err-initial-clause-site
build_locals::build_local-returns-in_err-initial-clause-site t c = IfOk-from_err c.from_residual.result _ c.from_residual.ensures.0

pub build_locals::build_local-returns-in_err-first-clause-built : goal.build_locals::build_local-returns-in_err-first-clause-built
build_locals::build_local-returns-in_err-first-clause-built t c = IfOk-from_err c.from_residual-in_err-first.result _ c.from_residual-in_err-first.ensures.0

pub build_locals::build_local-returns-in_err-first-clause-site : goal.build_locals::build_local-returns-in_err-first-clause-site
build_locals::build_local-returns-in_err-first-clause-site t c = IfOk-from_err c.from_residual-in_err-first.result _ c.from_residual-in_err-first.ensures.0

pub build_locals::build_local-returns-in_err-first-2-clause-built : goal.build_locals::build_local-returns-in_err-first-2-clause-built
build_locals::build_local-returns-in_err-first-2-clause-built t c = IfOk-from_err c.from_residual-in_err-first-2.result _ c.from_residual-in_err-first-2.ensures.0

pub build_locals::build_local-returns-in_err-first-2-clause-site : goal.build_locals::build_local-returns-in_err-first-2-clause-site
build_locals::build_local-returns-in_err-first-2-clause-site t c = IfOk-from_err c.from_residual-in_err-first-2.result _ c.from_residual-in_err-first-2.ensures.0

pub build_locals::build_locals-returns-in_err-a-clause-built : goal.build_locals::build_locals-returns-in_err-a-clause-built
build_locals::build_locals-returns-in_err-a-clause-built t c = IfOk-from_err c.from_residual.result _ c.from_residual.ensures.0

pub build_locals::build_locals-returns-in_err-a-clause-site : goal.build_locals::build_locals-returns-in_err-a-clause-site
build_locals::build_locals-returns-in_err-a-clause-site t c = IfOk-from_err c.from_residual.result _ c.from_residual.ensures.0

pub build_locals::build_locals-returns-in_err-push-clause-built : goal.build_locals::build_locals-returns-in_err-push-clause-built
build_locals::build_locals-returns-in_err-push-clause-built t c = IfOk-from_err c.from_residual-in_err-push.result _ c.from_residual-in_err-push.ensures.0

pub build_locals::build_locals-returns-in_err-push-clause-site : goal.build_locals::build_locals-returns-in_err-push-clause-site
build_locals::build_locals-returns-in_err-push-clause-site t c = IfOk-from_err c.from_residual-in_err-push.result _ c.from_residual-in_err-push.ensures.0

pub build_routines::build_inner-returns-in_err-stmts-clause-own : goal.build_routines::build_inner-returns-in_err-stmts-clause-own
build_routines::build_inner-returns-in_err-stmts-clause-own t c = IfOk-from_err c.from_residual.result _ c.from_residual.ensures.0

pub build_routines::build_inner-returns-in_err-stmts-clause-inner : goal.build_routines::build_inner-returns-in_err-stmts-clause-inner
build_routines::build_inner-returns-in_err-stmts-clause-inner t c = IfOk-from_err c.from_residual.result _ c.from_residual.ensures.0

pub build_routines::build_inner-returns-in_err-stmts-clause-behind : goal.build_routines::build_inner-returns-in_err-stmts-clause-behind
build_routines::build_inner-returns-in_err-stmts-clause-behind t c = IfOk-from_err c.from_residual.result _ c.from_residual.ensures.0

pub build_trees::build_tree-returns-in-Num-clause-built : goal.build_trees::build_tree-returns-in-Num-clause-built
build_trees::build_tree-returns-in-Num-clause-built t c = let h : typed_tree c.number_leaf.result.tree ≡ e.Num v.Number c.in-Num.v = search rules in num_built c.args.plan.now (s.site c.args.site.now) c.args.given c.args.e.now c.in-Num.v c.args.builder.now (typed_tree c.number_leaf.result.tree) c.in-Num.is h

pub build_trees::build_tree-returns-in-Num-clause-kind : goal.build_trees::build_tree-returns-in-Num-clause-kind
build_trees::build_tree-returns-in-Num-clause-kind t c = num_kind c.args.plan.now (s.site c.args.site.now) c.args.given c.args.e.now c.in-Num.v c.number_leaf.result.kind c.in-Num.is c.number_leaf.ensures.kind

pub build_trees::build_tree-returns-in-Text-clause-built : goal.build_trees::build_tree-returns-in-Text-clause-built
build_trees::build_tree-returns-in-Text-clause-built t c = text_built c.args.plan.now (s.site c.args.site.now) c.args.given c.args.e.now c.in-Text.v c.args.builder.now (typed_tree c.text_leaf.result.tree) c.in-Text.is c.text_leaf.ensures.tree

pub build_trees::build_tree-returns-in-Text-clause-kind : goal.build_trees::build_tree-returns-in-Text-clause-kind
build_trees::build_tree-returns-in-Text-clause-kind t c = text_kind c.args.plan.now (s.site c.args.site.now) c.args.given c.args.e.now c.in-Text.v c.text_leaf.result.kind c.in-Text.is c.text_leaf.ensures.kind

pub build_trees::build_tree-returns-in-Truth-clause-built : goal.build_trees::build_tree-returns-in-Truth-clause-built
build_trees::build_tree-returns-in-Truth-clause-built t c = truth_built c.args.plan.now (s.site c.args.site.now) c.args.given c.args.e.now c.in-Truth.v c.args.builder.now (typed_tree c.truth_leaf.result.tree) c.in-Truth.is c.truth_leaf.ensures.tree

pub build_trees::build_tree-returns-in-Truth-clause-kind : goal.build_trees::build_tree-returns-in-Truth-clause-kind
build_trees::build_tree-returns-in-Truth-clause-kind t c = truth_kind c.args.plan.now (s.site c.args.site.now) c.args.given c.args.e.now c.in-Truth.v c.truth_leaf.result.kind c.in-Truth.is c.truth_leaf.ensures.kind

pub build_trees::build_tree-returns-in-Null-clause-built : goal.build_trees::build_tree-returns-in-Null-clause-built
build_trees::build_tree-returns-in-Null-clause-built t c = null_built c.args.plan.now (s.site c.args.site.now) c.args.given c.args.e.now c.args.builder.now (typed_tree c.null_leaf.result.tree) c.in-Null.is c.null_leaf.ensures.tree

pub build_trees::build_tree-returns-in-Null-clause-kind : goal.build_trees::build_tree-returns-in-Null-clause-kind
build_trees::build_tree-returns-in-Null-clause-kind t c = null_kind c.args.plan.now (s.site c.args.site.now) c.args.given c.args.e.now c.null_leaf.result.kind c.in-Null.is c.null_leaf.ensures.kind

pub build_trees::build_tree-returns-in-This-clause-built : goal.build_trees::build_tree-returns-in-This-clause-built
build_trees::build_tree-returns-in-This-clause-built t c = this_built c.args.plan.now (s.site c.args.site.now) c.args.given c.args.e.now c.args.builder.now (typed_tree c.this_leaf.result.tree) c.in-This.is c.this_leaf.ensures.tree

pub build_trees::build_tree-returns-in-This-clause-kind : goal.build_trees::build_tree-returns-in-This-clause-kind
build_trees::build_tree-returns-in-This-clause-kind t c = this_kind c.args.plan.now (s.site c.args.site.now) c.args.given c.args.e.now c.this_leaf.result.kind c.in-This.is c.this_leaf.ensures.kind

pub build_trees::build_tree-returns-in-Name-clause-built : goal.build_trees::build_tree-returns-in-Name-clause-built
build_trees::build_tree-returns-in-Name-clause-built t c = name_built c.args.plan.now (s.site c.args.site.now) c.args.given c.args.e.now c.in-Name.x c.args.builder.now (typed_tree c.name_leaf.result.tree) c.in-Name.is c.name_leaf.ensures.tree

pub build_trees::build_tree-returns-in-Name-clause-kind : goal.build_trees::build_tree-returns-in-Name-clause-kind
build_trees::build_tree-returns-in-Name-clause-kind t c = name_kind c.args.plan.now (s.site c.args.site.now) c.args.given c.args.e.now c.in-Name.x c.name_leaf.result.kind c.in-Name.is c.name_leaf.ensures.kind

pub build_trees::build_tree-returns-in_ok-x-in-Unary-clause-built : goal.build_trees::build_tree-returns-in_ok-x-in-Unary-clause-built
build_trees::build_tree-returns-in_ok-x-in-Unary-clause-built t c = unary_built c.args.plan.now (s.site c.args.site.now) c.args.given c.args.e.now c.in-Unary.op c.in-Unary.a c.deref.result.now c.args.builder.now c.build_part.new.builder c.in_ok-x-in-Unary.x (typed_tree c.prefix_of.result.tree) c.in-Unary.is c.deref.ensures c.in_ok-x-in-Unary.ensures.kind c.prefix_of.ensures.tree c.in_ok-x-in-Unary.ensures.built

pub build_trees::build_tree-returns-in_ok-x-in-Unary-clause-kind : goal.build_trees::build_tree-returns-in_ok-x-in-Unary-clause-kind
build_trees::build_tree-returns-in_ok-x-in-Unary-clause-kind t c = unary_kind c.args.plan.now (s.site c.args.site.now) c.args.given c.args.e.now c.in-Unary.op c.in-Unary.a c.deref.result.now c.in_ok-x-in-Unary.x.kind c.prefix_of.result.kind c.in-Unary.is c.deref.ensures c.in_ok-x-in-Unary.ensures.kind c.prefix_of.ensures.kind

pub build_trees::build_tree-returns-in_err-x-in-Unary-clause-built : goal.build_trees::build_tree-returns-in_err-x-in-Unary-clause-built
build_trees::build_tree-returns-in_err-x-in-Unary-clause-built t c = IfOk-from_err c.from_residual.result _ c.from_residual.ensures.0

pub build_trees::build_tree-returns-in_err-x-in-Unary-clause-kind : goal.build_trees::build_tree-returns-in_err-x-in-Unary-clause-kind
build_trees::build_tree-returns-in_err-x-in-Unary-clause-kind t c = IfOk-from_err c.from_residual.result _ c.from_residual.ensures.0

pub build_trees::build_tree-returns-in_ok-x-in-Binary-clause-built : goal.build_trees::build_tree-returns-in_ok-x-in-Binary-clause-built
build_trees::build_tree-returns-in_ok-x-in-Binary-clause-built t c = IfOk-weaker c.build_last.result _ _ (λ r h. two_built c.args.plan.now (s.site c.args.site.now) c.args.given (o.Binary c.in-Binary.op) (tree c.args.e.now) (tree c.deref-in-Binary.result.now) (tree c.deref-in-Binary-2.result.now) c.args.builder.now c.build_part-in-Binary.new.builder c.build_last.new.builder c.in_ok-x-in-Binary.x.kind (typed_tree c.in_ok-x-in-Binary.x.tree.value) (typed_tree r.tree) (binary_is c.args.plan.now (s.site c.args.site.now) c.args.given c.args.e.now c.in-Binary.op c.in-Binary.a c.in-Binary.b c.deref-in-Binary.result.now c.deref-in-Binary-2.result.now c.in-Binary.is c.deref-in-Binary.ensures c.deref-in-Binary-2.ensures) c.in_ok-x-in-Binary.ensures.kind c.in_ok-x-in-Binary.ensures.built h) c.build_last.ensures.built

pub build_trees::build_tree-returns-in_ok-x-in-Binary-clause-kind : goal.build_trees::build_tree-returns-in_ok-x-in-Binary-clause-kind
build_trees::build_tree-returns-in_ok-x-in-Binary-clause-kind t c = IfOk-weaker c.build_last.result _ _ (λ r h. two_kind c.args.plan.now (s.site c.args.site.now) c.args.given (o.Binary c.in-Binary.op) (tree c.args.e.now) (tree c.deref-in-Binary.result.now) (tree c.deref-in-Binary-2.result.now) c.in_ok-x-in-Binary.x.kind r.kind (binary_is c.args.plan.now (s.site c.args.site.now) c.args.given c.args.e.now c.in-Binary.op c.in-Binary.a c.in-Binary.b c.deref-in-Binary.result.now c.deref-in-Binary-2.result.now c.in-Binary.is c.deref-in-Binary.ensures c.deref-in-Binary-2.ensures) c.in_ok-x-in-Binary.ensures.kind h) c.build_last.ensures.kind

pub build_trees::build_tree-returns-in_err-x-in-Binary-clause-built : goal.build_trees::build_tree-returns-in_err-x-in-Binary-clause-built
build_trees::build_tree-returns-in_err-x-in-Binary-clause-built t c = IfOk-from_err c.from_residual-in_err-x-in-Binary.result _ c.from_residual-in_err-x-in-Binary.ensures.0

pub build_trees::build_tree-returns-in_err-x-in-Binary-clause-kind : goal.build_trees::build_tree-returns-in_err-x-in-Binary-clause-kind
build_trees::build_tree-returns-in_err-x-in-Binary-clause-kind t c = IfOk-from_err c.from_residual-in_err-x-in-Binary.result _ c.from_residual-in_err-x-in-Binary.ensures.0

pub build_trees::build_tree-returns-in_ok-x-in-Both-clause-built : goal.build_trees::build_tree-returns-in_ok-x-in-Both-clause-built
build_trees::build_tree-returns-in_ok-x-in-Both-clause-built t c = IfOk-weaker c.build_last-in-Both.result _ _ (λ r h. two_built c.args.plan.now (s.site c.args.site.now) c.args.given o.Both (tree c.args.e.now) (tree c.deref-in-Both.result.now) (tree c.deref-in-Both-2.result.now) c.args.builder.now c.build_part-in-Both.new.builder c.build_last-in-Both.new.builder c.in_ok-x-in-Both.x.kind (typed_tree c.in_ok-x-in-Both.x.tree.value) (typed_tree r.tree) (both_is c.args.plan.now (s.site c.args.site.now) c.args.given c.args.e.now c.in-Both.a c.in-Both.b c.deref-in-Both.result.now c.deref-in-Both-2.result.now c.in-Both.is c.deref-in-Both.ensures c.deref-in-Both-2.ensures) c.in_ok-x-in-Both.ensures.kind c.in_ok-x-in-Both.ensures.built h) c.build_last-in-Both.ensures.built

pub build_trees::build_tree-returns-in_ok-x-in-Both-clause-kind : goal.build_trees::build_tree-returns-in_ok-x-in-Both-clause-kind
build_trees::build_tree-returns-in_ok-x-in-Both-clause-kind t c = IfOk-weaker c.build_last-in-Both.result _ _ (λ r h. two_kind c.args.plan.now (s.site c.args.site.now) c.args.given o.Both (tree c.args.e.now) (tree c.deref-in-Both.result.now) (tree c.deref-in-Both-2.result.now) c.in_ok-x-in-Both.x.kind r.kind (both_is c.args.plan.now (s.site c.args.site.now) c.args.given c.args.e.now c.in-Both.a c.in-Both.b c.deref-in-Both.result.now c.deref-in-Both-2.result.now c.in-Both.is c.deref-in-Both.ensures c.deref-in-Both-2.ensures) c.in_ok-x-in-Both.ensures.kind h) c.build_last-in-Both.ensures.kind

pub build_trees::build_tree-returns-in_err-x-in-Both-clause-built : goal.build_trees::build_tree-returns-in_err-x-in-Both-clause-built
build_trees::build_tree-returns-in_err-x-in-Both-clause-built t c = IfOk-from_err c.from_residual-in_err-x-in-Both.result _ c.from_residual-in_err-x-in-Both.ensures.0

pub build_trees::build_tree-returns-in_err-x-in-Both-clause-kind : goal.build_trees::build_tree-returns-in_err-x-in-Both-clause-kind
build_trees::build_tree-returns-in_err-x-in-Both-clause-kind t c = IfOk-from_err c.from_residual-in_err-x-in-Both.result _ c.from_residual-in_err-x-in-Both.ensures.0

pub build_trees::build_tree-returns-in_ok-x-in-Either-clause-built : goal.build_trees::build_tree-returns-in_ok-x-in-Either-clause-built
build_trees::build_tree-returns-in_ok-x-in-Either-clause-built t c = IfOk-weaker c.build_last-in-Either.result _ _ (λ r h. two_built c.args.plan.now (s.site c.args.site.now) c.args.given o.Either (tree c.args.e.now) (tree c.deref-in-Either.result.now) (tree c.deref-in-Either-2.result.now) c.args.builder.now c.build_part-in-Either.new.builder c.build_last-in-Either.new.builder c.in_ok-x-in-Either.x.kind (typed_tree c.in_ok-x-in-Either.x.tree.value) (typed_tree r.tree) (either_is c.args.plan.now (s.site c.args.site.now) c.args.given c.args.e.now c.in-Either.a c.in-Either.b c.deref-in-Either.result.now c.deref-in-Either-2.result.now c.in-Either.is c.deref-in-Either.ensures c.deref-in-Either-2.ensures) c.in_ok-x-in-Either.ensures.kind c.in_ok-x-in-Either.ensures.built h) c.build_last-in-Either.ensures.built

pub build_trees::build_tree-returns-in_ok-x-in-Either-clause-kind : goal.build_trees::build_tree-returns-in_ok-x-in-Either-clause-kind
build_trees::build_tree-returns-in_ok-x-in-Either-clause-kind t c = IfOk-weaker c.build_last-in-Either.result _ _ (λ r h. two_kind c.args.plan.now (s.site c.args.site.now) c.args.given o.Either (tree c.args.e.now) (tree c.deref-in-Either.result.now) (tree c.deref-in-Either-2.result.now) c.in_ok-x-in-Either.x.kind r.kind (either_is c.args.plan.now (s.site c.args.site.now) c.args.given c.args.e.now c.in-Either.a c.in-Either.b c.deref-in-Either.result.now c.deref-in-Either-2.result.now c.in-Either.is c.deref-in-Either.ensures c.deref-in-Either-2.ensures) c.in_ok-x-in-Either.ensures.kind h) c.build_last-in-Either.ensures.kind

pub build_trees::build_tree-returns-in_err-x-in-Either-clause-built : goal.build_trees::build_tree-returns-in_err-x-in-Either-clause-built
build_trees::build_tree-returns-in_err-x-in-Either-clause-built t c = IfOk-from_err c.from_residual-in_err-x-in-Either.result _ c.from_residual-in_err-x-in-Either.ensures.0

pub build_trees::build_tree-returns-in_err-x-in-Either-clause-kind : goal.build_trees::build_tree-returns-in_err-x-in-Either-clause-kind
build_trees::build_tree-returns-in_err-x-in-Either-clause-kind t c = IfOk-from_err c.from_residual-in_err-x-in-Either.result _ c.from_residual-in_err-x-in-Either.ensures.0

pub build_trees::build_tree-returns-in_ok-x-in-Item-clause-built : goal.build_trees::build_tree-returns-in_ok-x-in-Item-clause-built
build_trees::build_tree-returns-in_ok-x-in-Item-clause-built t c = IfOk-weaker c.build_last-in-Item.result _ _ (λ r h. two_built c.args.plan.now (s.site c.args.site.now) c.args.given o.Item (tree c.args.e.now) (tree c.deref-in-Item.result.now) (tree c.deref-in-Item-2.result.now) c.args.builder.now c.build_part-in-Item.new.builder c.build_last-in-Item.new.builder c.in_ok-x-in-Item.x.kind (typed_tree c.in_ok-x-in-Item.x.tree.value) (typed_tree r.tree) (item_is c.args.plan.now (s.site c.args.site.now) c.args.given c.args.e.now c.in-Item.a c.in-Item.b c.deref-in-Item.result.now c.deref-in-Item-2.result.now c.in-Item.is c.deref-in-Item.ensures c.deref-in-Item-2.ensures) c.in_ok-x-in-Item.ensures.kind c.in_ok-x-in-Item.ensures.built h) c.build_last-in-Item.ensures.built

pub build_trees::build_tree-returns-in_ok-x-in-Item-clause-kind : goal.build_trees::build_tree-returns-in_ok-x-in-Item-clause-kind
build_trees::build_tree-returns-in_ok-x-in-Item-clause-kind t c = IfOk-weaker c.build_last-in-Item.result _ _ (λ r h. two_kind c.args.plan.now (s.site c.args.site.now) c.args.given o.Item (tree c.args.e.now) (tree c.deref-in-Item.result.now) (tree c.deref-in-Item-2.result.now) c.in_ok-x-in-Item.x.kind r.kind (item_is c.args.plan.now (s.site c.args.site.now) c.args.given c.args.e.now c.in-Item.a c.in-Item.b c.deref-in-Item.result.now c.deref-in-Item-2.result.now c.in-Item.is c.deref-in-Item.ensures c.deref-in-Item-2.ensures) c.in_ok-x-in-Item.ensures.kind h) c.build_last-in-Item.ensures.kind

pub build_trees::build_tree-returns-in_err-x-in-Item-clause-built : goal.build_trees::build_tree-returns-in_err-x-in-Item-clause-built
build_trees::build_tree-returns-in_err-x-in-Item-clause-built t c = IfOk-from_err c.from_residual-in_err-x-in-Item.result _ c.from_residual-in_err-x-in-Item.ensures.0

pub build_trees::build_tree-returns-in_err-x-in-Item-clause-kind : goal.build_trees::build_tree-returns-in_err-x-in-Item-clause-kind
build_trees::build_tree-returns-in_err-x-in-Item-clause-kind t c = IfOk-from_err c.from_residual-in_err-x-in-Item.result _ c.from_residual-in_err-x-in-Item.ensures.0

pub build_trees::build_tree-returns-in_ok-x-in-Set-clause-built : goal.build_trees::build_tree-returns-in_ok-x-in-Set-clause-built
build_trees::build_tree-returns-in_ok-x-in-Set-clause-built t c = IfOk-weaker c.build_last-in-Set.result _ _ (λ r h. two_built c.args.plan.now (s.site c.args.site.now) c.args.given (o.Set c.in-Set.op c.in_ok-x-in-Set.x.can) (tree c.args.e.now) (tree c.deref-in-Set.result.now) (tree c.deref-in-Set-2.result.now) c.args.builder.now c.build_target.new.builder c.build_last-in-Set.new.builder c.in_ok-x-in-Set.x.part.kind (typed_tree c.in_ok-x-in-Set.x.part.tree.value) (typed_tree r.tree) (set_is c.args.plan.now (s.site c.args.site.now) c.args.given c.args.e.now c.in-Set.op c.in-Set.a c.in-Set.b c.deref-in-Set.result.now c.deref-in-Set.result.now c.deref-in-Set-2.result.now c.in_ok-x-in-Set.x.can c.in-Set.is c.deref-in-Set.ensures c.deref-in-Set.ensures c.deref-in-Set-2.ensures c.in_ok-x-in-Set.ensures.can) c.in_ok-x-in-Set.ensures.kind c.in_ok-x-in-Set.ensures.built h) c.build_last-in-Set.ensures.built

pub build_trees::build_tree-returns-in_ok-x-in-Set-clause-kind : goal.build_trees::build_tree-returns-in_ok-x-in-Set-clause-kind
build_trees::build_tree-returns-in_ok-x-in-Set-clause-kind t c = IfOk-weaker c.build_last-in-Set.result _ _ (λ r h. two_kind c.args.plan.now (s.site c.args.site.now) c.args.given (o.Set c.in-Set.op c.in_ok-x-in-Set.x.can) (tree c.args.e.now) (tree c.deref-in-Set.result.now) (tree c.deref-in-Set-2.result.now) c.in_ok-x-in-Set.x.part.kind r.kind (set_is c.args.plan.now (s.site c.args.site.now) c.args.given c.args.e.now c.in-Set.op c.in-Set.a c.in-Set.b c.deref-in-Set.result.now c.deref-in-Set.result.now c.deref-in-Set-2.result.now c.in_ok-x-in-Set.x.can c.in-Set.is c.deref-in-Set.ensures c.deref-in-Set.ensures c.deref-in-Set-2.ensures c.in_ok-x-in-Set.ensures.can) c.in_ok-x-in-Set.ensures.kind h) c.build_last-in-Set.ensures.kind

pub build_trees::build_tree-returns-in_err-x-in-Set-clause-built : goal.build_trees::build_tree-returns-in_err-x-in-Set-clause-built
build_trees::build_tree-returns-in_err-x-in-Set-clause-built t c = IfOk-from_err c.from_residual-in_err-x-in-Set.result _ c.from_residual-in_err-x-in-Set.ensures.0

pub build_trees::build_tree-returns-in_err-x-in-Set-clause-kind : goal.build_trees::build_tree-returns-in_err-x-in-Set-clause-kind
build_trees::build_tree-returns-in_err-x-in-Set-clause-kind t c = IfOk-from_err c.from_residual-in_err-x-in-Set.result _ c.from_residual-in_err-x-in-Set.ensures.0

pub build_trees::build_tree-returns-in_ok-test-in-Choice-2-clause-built : goal.build_trees::build_tree-returns-in_ok-test-in-Choice-2-clause-built
build_trees::build_tree-returns-in_ok-test-in-Choice-2-clause-built t c =
    let k = c.in_ok-test-in-Choice-2.ensures.kept in let q = c.args.plan.now in let st = (s.site c.args.site.now) in let R = c.build_part-in-Choice-2.result in let X = c.in_ok-test-in-Choice-2.x in let o2 = c.in_ok-test-in-Choice-2.ensures.other in
    IfOk-weaker c.build_last-in-Choice.result _ _ (λ r h. choice_built q st c.args.given c.args.e.now c.in-Choice.q c.in-Choice.a c.in-Choice.b c.deref-in-Choice.result.now c.deref-in-Choice-2.result.now c.deref-in-Choice-3.result.now c.args.builder.now c.build_part-in-Choice.new.builder c.build_part-in-Choice-2.new.builder c.build_last-in-Choice.new.builder c.in_ok-test-in-Choice-2.test X.kind (typed_tree X.tree.value) (typed_tree r.tree)
    c.in-Choice.is c.deref-in-Choice.ensures c.deref-in-Choice-2.ensures c.deref-in-Choice-3.ensures (ap (λ (z : Part). z.kind) k ∙ c.in_ok-test-in-Choice.ensures.kind) (from_ok R X (λ z. z.kind ≡ s.tree_kind q st None (tree c.deref-in-Choice-2.result.now)) o2 c.build_part-in-Choice-2.ensures.kind)
    (subst (λ (z : Part). IsBuilt c.args.builder.now c.build_part-in-Choice.new.builder (s.tree_made q st None (tree c.deref-in-Choice.result.now)) (typed_tree z.tree.value)) (sym k) c.in_ok-test-in-Choice.ensures.built)
    (from_ok R X (λ z. IsBuilt c.build_part-in-Choice.new.builder c.build_part-in-Choice-2.new.builder (s.tree_made q st None (tree c.deref-in-Choice-2.result.now)) (typed_tree z.tree.value)) o2 c.build_part-in-Choice-2.ensures.built) h) c.build_last-in-Choice.ensures.built

pub build_trees::build_tree-returns-in_ok-test-in-Choice-2-clause-kind : goal.build_trees::build_tree-returns-in_ok-test-in-Choice-2-clause-kind
build_trees::build_tree-returns-in_ok-test-in-Choice-2-clause-kind t c =
    let k = c.in_ok-test-in-Choice-2.ensures.kept in let q = c.args.plan.now in let st = (s.site c.args.site.now) in let R = c.build_part-in-Choice-2.result in let X = c.in_ok-test-in-Choice-2.x in let o2 = c.in_ok-test-in-Choice-2.ensures.other in
    IfOk-weaker c.build_last-in-Choice.result _ _ (λ r h. choice_kind q st c.args.given c.args.e.now c.in-Choice.q c.in-Choice.a c.in-Choice.b c.deref-in-Choice.result.now c.deref-in-Choice-2.result.now c.deref-in-Choice-3.result.now c.in_ok-test-in-Choice-2.test X.kind r.kind c.in-Choice.is c.deref-in-Choice.ensures c.deref-in-Choice-2.ensures c.deref-in-Choice-3.ensures (ap (λ (z : Part). z.kind) k ∙ c.in_ok-test-in-Choice.ensures.kind) (from_ok R X (λ z. z.kind ≡ s.tree_kind q st None (tree c.deref-in-Choice-2.result.now)) o2 c.build_part-in-Choice-2.ensures.kind) h) c.build_last-in-Choice.ensures.kind

pub build_trees::build_tree-returns-in_err-test-in-Choice-clause-built : goal.build_trees::build_tree-returns-in_err-test-in-Choice-clause-built
build_trees::build_tree-returns-in_err-test-in-Choice-clause-built t c = IfOk-from_err c.from_residual-in_err-test-in-Choice.result _ c.from_residual-in_err-test-in-Choice.ensures.0

pub build_trees::build_tree-returns-in_err-test-in-Choice-clause-kind : goal.build_trees::build_tree-returns-in_err-test-in-Choice-clause-kind
build_trees::build_tree-returns-in_err-test-in-Choice-clause-kind t c = IfOk-from_err c.from_residual-in_err-test-in-Choice.result _ c.from_residual-in_err-test-in-Choice.ensures.0

pub build_trees::build_tree-returns-in_err-test-in-Choice-2-clause-built : goal.build_trees::build_tree-returns-in_err-test-in-Choice-2-clause-built
build_trees::build_tree-returns-in_err-test-in-Choice-2-clause-built t c = IfOk-from_err c.from_residual-in_err-test-in-Choice-2.result _ c.from_residual-in_err-test-in-Choice-2.ensures.0

pub build_trees::build_tree-returns-in_err-test-in-Choice-2-clause-kind : goal.build_trees::build_tree-returns-in_err-test-in-Choice-2-clause-kind
build_trees::build_tree-returns-in_err-test-in-Choice-2-clause-kind t c = IfOk-from_err c.from_residual-in_err-test-in-Choice-2.result _ c.from_residual-in_err-test-in-Choice-2.ensures.0

pub build_trees::build_tree-returns-in_ok-x-in-Bump-clause-built : goal.build_trees::build_tree-returns-in_ok-x-in-Bump-clause-built
build_trees::build_tree-returns-in_ok-x-in-Bump-clause-built t c = let h : typed_tree c.bump_of.result.tree ≡ e.Bump v.Number (typed_tree c.in_ok-x-in-Bump.x.part.tree.value) c.in-Bump.by c.in-Bump.late = search rules in bump_built c.args.plan.now (s.site c.args.site.now) c.args.given c.args.e.now c.in-Bump.target c.in-Bump.by c.in-Bump.late c.deref-in-Bump.result.now c.args.builder.now c.build_target-in-Bump.new.builder c.in_ok-x-in-Bump.x.part (typed_tree c.bump_of.result.tree) c.in-Bump.is c.deref-in-Bump.ensures h c.in_ok-x-in-Bump.ensures.built

pub build_trees::build_tree-returns-in_ok-x-in-Bump-clause-kind : goal.build_trees::build_tree-returns-in_ok-x-in-Bump-clause-kind
build_trees::build_tree-returns-in_ok-x-in-Bump-clause-kind t c = bump_kind c.args.plan.now (s.site c.args.site.now) c.args.given c.args.e.now c.in-Bump.target c.in-Bump.by c.in-Bump.late c.deref-in-Bump.result.now c.deref-in-Bump.result.now c.in_ok-x-in-Bump.x.part.kind c.bump_of.result.kind c.in_ok-x-in-Bump.x.can c.in-Bump.is c.deref-in-Bump.ensures c.deref-in-Bump.ensures c.in_ok-x-in-Bump.ensures.kind c.in_ok-x-in-Bump.ensures.can c.bump_of.ensures.kind

pub build_trees::build_tree-returns-in_err-x-in-Bump-clause-built : goal.build_trees::build_tree-returns-in_err-x-in-Bump-clause-built
build_trees::build_tree-returns-in_err-x-in-Bump-clause-built t c = IfOk-from_err c.from_residual-in_err-x-in-Bump.result _ c.from_residual-in_err-x-in-Bump.ensures.0

pub build_trees::build_tree-returns-in_err-x-in-Bump-clause-kind : goal.build_trees::build_tree-returns-in_err-x-in-Bump-clause-kind
build_trees::build_tree-returns-in_err-x-in-Bump-clause-kind t c = IfOk-from_err c.from_residual-in_err-x-in-Bump.result _ c.from_residual-in_err-x-in-Bump.ensures.0

pub build_targets::build_member-returns-in-Some-clause-built : goal.build_targets::build_member-returns-in-Some-clause-built
build_targets::build_member-returns-in-Some-clause-built t c =
    let h : typed_tree c.number_leaf.result.tree ≡ e.Num v.Number c.in-Some.z = search rules in
    constant_built c.args.plan.now (s.site c.args.site.now) c.args.given c.args.e.now c.in-Member.a c.in-Member.m c.deref.result.now c.in-Some.z c.args.builder.now (typed_tree c.number_leaf.result.tree) c.in-Member.is c.deref.ensures (sym c.constant.ensures ∙ c.in-Some.is) h

pub build_targets::build_member-returns-in-Some-clause-kind : goal.build_targets::build_member-returns-in-Some-clause-kind
build_targets::build_member-returns-in-Some-clause-kind t c =
    constant_noted c.args.plan.now (s.site c.args.site.now) c.args.given c.args.e.now c.in-Member.a c.in-Member.m c.deref.result.now c.in-Some.z c.number_leaf.result.kind c.in-Member.is c.deref.ensures (sym c.constant.ensures ∙ c.in-Some.is) c.number_leaf.ensures.kind

pub build_targets::build_member-returns-in-Some-clause-can : goal.build_targets::build_member-returns-in-Some-clause-can
build_targets::build_member-returns-in-Some-clause-can t c =
    constant_kept c.args.plan.now (s.site c.args.site.now) c.args.e.now c.in-Member.a c.in-Member.m c.deref.result.now c.in-Some.z c.in-Member.is c.deref.ensures (sym c.constant.ensures ∙ c.in-Some.is)

pub build_targets::build_member-returns-in_ok-read-in-None-clause-built : goal.build_targets::build_member-returns-in_ok-read-in-None-clause-built
build_targets::build_member-returns-in_ok-read-in-None-clause-built t c =
    read_built c.args.plan.now (s.site c.args.site.now) c.args.given c.args.e.now c.in-Member.a c.in-Member.m c.deref-in-None.result.now c.deref.result.now c.args.builder.now c.build_part.new.builder c.in_ok-x-in-None.x (typed_tree c.in_ok-read-in-None.read.tree)
    c.in-Member.is c.deref-in-None.ensures c.deref.ensures (sym c.constant.ensures ∙ c.in-None.is) c.in_ok-x-in-None.ensures.kind c.in_ok-read-in-None.ensures.tree c.in_ok-x-in-None.ensures.built

pub build_targets::build_member-returns-in_ok-read-in-None-clause-kind : goal.build_targets::build_member-returns-in_ok-read-in-None-clause-kind
build_targets::build_member-returns-in_ok-read-in-None-clause-kind t c =
    read_kind c.args.plan.now (s.site c.args.site.now) c.args.given c.args.e.now c.in-Member.a c.in-Member.m c.deref-in-None.result.now c.deref.result.now c.in_ok-x-in-None.x.kind c.in_ok-read-in-None.read.kind
    c.in-Member.is c.deref-in-None.ensures c.deref.ensures (sym c.constant.ensures ∙ c.in-None.is) c.in_ok-x-in-None.ensures.kind c.in_ok-read-in-None.ensures.kind

pub build_targets::build_member-returns-in_ok-read-in-None-clause-can : goal.build_targets::build_member-returns-in_ok-read-in-None-clause-can
build_targets::build_member-returns-in_ok-read-in-None-clause-can t c =
    member_set c.args.plan.now (s.site c.args.site.now) c.args.e.now c.in-Member.a c.in-Member.m c.deref.result.now c.deref-in-None.result.now c.in_ok-x-in-None.x.kind c.part_settable-can.result
    c.in-Member.is c.deref.ensures c.deref-in-None.ensures (sym c.constant.ensures ∙ c.in-None.is) c.in_ok-x-in-None.ensures.kind (c.part_settable-can.ensures ∙ ap rule.part_settable c.part_behind.ensures)

pub build_targets::build_member-returns-in_err-x-in-None-clause-built : goal.build_targets::build_member-returns-in_err-x-in-None-clause-built
build_targets::build_member-returns-in_err-x-in-None-clause-built t c = IfOk-from_err c.from_residual.result _ c.from_residual.ensures.0

pub build_targets::build_member-returns-in_err-read-in-None-clause-built : goal.build_targets::build_member-returns-in_err-read-in-None-clause-built
build_targets::build_member-returns-in_err-read-in-None-clause-built t c = IfOk-from_err c.from_residual-in_err-read-in-None.result _ c.from_residual-in_err-read-in-None.ensures.0

pub build_targets::build_member-returns-in_err-x-in-None-clause-kind : goal.build_targets::build_member-returns-in_err-x-in-None-clause-kind
build_targets::build_member-returns-in_err-x-in-None-clause-kind t c = IfOk-from_err c.from_residual.result _ c.from_residual.ensures.0

pub build_targets::build_member-returns-in_err-read-in-None-clause-kind : goal.build_targets::build_member-returns-in_err-read-in-None-clause-kind
build_targets::build_member-returns-in_err-read-in-None-clause-kind t c = IfOk-from_err c.from_residual-in_err-read-in-None.result _ c.from_residual-in_err-read-in-None.ensures.0

pub build_targets::build_member-returns-in_err-x-in-None-clause-can : goal.build_targets::build_member-returns-in_err-x-in-None-clause-can
build_targets::build_member-returns-in_err-x-in-None-clause-can t c = IfOk-from_err c.from_residual.result _ c.from_residual.ensures.0

pub build_targets::build_member-returns-in_err-read-in-None-clause-can : goal.build_targets::build_member-returns-in_err-read-in-None-clause-can
build_targets::build_member-returns-in_err-read-in-None-clause-can t c = IfOk-from_err c.from_residual-in_err-read-in-None.result _ c.from_residual-in_err-read-in-None.ensures.0

pub build_trees::build_tree-returns-in-Handler-clause-built : goal.build_trees::build_tree-returns-in-Handler-clause-built
build_trees::build_tree-returns-in-Handler-clause-built t c = IfOk-weaker c.build_handler.result _ _ (λ r h. handler_built c.args.plan.now (s.site c.args.site.now) c.args.given c.args.e.now c.in-Handler.body c.deref-in-Handler.result.now c.args.builder.now c.build_handler.new.builder (typed_tree r.tree) c.in-Handler.is c.deref-in-Handler.ensures h) c.build_handler.ensures.built

pub build_trees::build_tree-returns-in-Handler-clause-kind : goal.build_trees::build_tree-returns-in-Handler-clause-kind
build_trees::build_tree-returns-in-Handler-clause-kind t c = IfOk-weaker c.build_handler.result _ _ (λ r h. handler_kind c.args.plan.now (s.site c.args.site.now) c.args.given c.args.e.now c.in-Handler.body r.kind c.in-Handler.is h) c.build_handler.ensures.kind

pub build_operators::build_part-returns-in_err-x-clause-built : goal.build_operators::build_part-returns-in_err-x-clause-built
build_operators::build_part-returns-in_err-x-clause-built t c = IfOk-from_err c.from_residual.result _ c.from_residual.ensures.0

pub build_operators::build_part-returns-in_err-boxed-clause-built : goal.build_operators::build_part-returns-in_err-boxed-clause-built
build_operators::build_part-returns-in_err-boxed-clause-built t c = IfOk-from_err c.from_residual-in_err-boxed.result _ c.from_residual-in_err-boxed.ensures.0

pub build_operators::build_part-returns-in_err-x-clause-kind : goal.build_operators::build_part-returns-in_err-x-clause-kind
build_operators::build_part-returns-in_err-x-clause-kind t c = IfOk-from_err c.from_residual.result _ c.from_residual.ensures.0

pub build_operators::build_part-returns-in_err-boxed-clause-kind : goal.build_operators::build_part-returns-in_err-boxed-clause-kind
build_operators::build_part-returns-in_err-boxed-clause-kind t c = IfOk-from_err c.from_residual-in_err-boxed.result _ c.from_residual-in_err-boxed.ensures.0

pub build_operators::build_last-returns-in_err-operator-clause-built : goal.build_operators::build_last-returns-in_err-operator-clause-built
build_operators::build_last-returns-in_err-operator-clause-built t c = IfOk-from_err c.from_residual.result _ c.from_residual.ensures.0

pub build_operators::build_last-returns-in_err-operator-clause-kind : goal.build_operators::build_last-returns-in_err-operator-clause-kind
build_operators::build_last-returns-in_err-operator-clause-kind t c = IfOk-from_err c.from_residual.result _ c.from_residual.ensures.0

pub build_operators::build_last-returns-clause-built : goal.build_operators::build_last-returns-clause-built
build_operators::build_last-returns-clause-built t c = last_built c.args.plan.now (s.site c.args.site.now) c.args.operator c.in_ok-operator.operator c.args.x c.in_ok-operator.x c.in_ok-operator.y c.last_given-given.result (tree c.args.b.now) c.args.builder.now c.build_part.new.builder (typed_tree c.operation_of.result.tree) (ap (λ w. w.0) c.in_ok-operator.ensures.kept) (ap (λ w. w.1) c.in_ok-operator.ensures.kept) c.last_given-given.ensures
    (from_ok c.build_part.result c.in_ok-operator.y (λ z. z.kind ≡ s.tree_kind c.args.plan.now (s.site c.args.site.now) c.last_given-given.result (tree c.args.b.now)) c.in_ok-operator.ensures.other c.build_part.ensures.kind)
    (from_ok c.build_part.result c.in_ok-operator.y (λ z. IsBuilt c.args.builder.now c.build_part.new.builder (s.tree_made c.args.plan.now (s.site c.args.site.now) c.last_given-given.result (tree c.args.b.now)) (typed_tree z.tree.value)) c.in_ok-operator.ensures.other c.build_part.ensures.built) c.operation_of.ensures.tree

pub build_calls::build_call-returns-in_err-list-clause-built : goal.build_calls::build_call-returns-in_err-list-clause-built
build_calls::build_call-returns-in_err-list-clause-built t c = IfOk-from_err c.from_residual.result _ c.from_residual.ensures.0

pub build_calls::build_call-returns-in_err-args-in-Some-clause-built : goal.build_calls::build_call-returns-in_err-args-in-Some-clause-built
build_calls::build_call-returns-in_err-args-in-Some-clause-built t c = IfOk-from_err c.from_residual-in_err-args-in-Some.result _ c.from_residual-in_err-args-in-Some.ensures.0

pub build_calls::build_call-returns-in_err-list-clause-kind : goal.build_calls::build_call-returns-in_err-list-clause-kind
build_calls::build_call-returns-in_err-list-clause-kind t c = IfOk-from_err c.from_residual.result _ c.from_residual.ensures.0

pub build_calls::build_call-returns-in_err-args-in-Some-clause-kind : goal.build_calls::build_call-returns-in_err-args-in-Some-clause-kind
build_calls::build_call-returns-in_err-args-in-Some-clause-kind t c = IfOk-from_err c.from_residual-in_err-args-in-Some.result _ c.from_residual-in_err-args-in-Some.ensures.0

pub build_calls::build_call-returns-in-None-clause-built : goal.build_calls::build_call-returns-in-None-clause-built
build_calls::build_call-returns-in-None-clause-built t c = none_built c.args.plan.now (s.site c.args.site.now) c.args.given (tree c.args.e.now) c.args.builder.now (typed_tree c.amiss.result) (sym c.in_ok-list.ensures.head ∙ c.in-None.is) c.requires.list c.amiss.ensures

pub build_calls::build_call-returns-in-None-clause-kind : goal.build_calls::build_call-returns-in-None-clause-kind
build_calls::build_call-returns-in-None-clause-kind t c = c.in_ok-list.ensures.kind

pub build_calls::build_call-returns-in_ok-args-in-Some-clause-built : goal.build_calls::build_call-returns-in_ok-args-in-Some-clause-built
build_calls::build_call-returns-in_ok-args-in-Some-clause-built t c =
    IfOk-weaker c.noted_list.result _ _ (λ r h. head_built c.args.plan.now (s.site c.args.site.now) c.args.given (tree c.args.e.now) c.in-Some.head (v.value_type c.in_ok-list.list.ty) c.args.builder.now c.build_passed.new.builder (typed_trees c.in_ok-args-in-Some.args) (typed_tree r.tree)
    (sym c.in_ok-list.ensures.head ∙ c.in-Some.is) c.requires.list (c.in_ok-list.ensures.noted ∙ ap (λ k. call.type_noted c.args.given k (tree c.args.e.now)) c.in_ok-list.ensures.kind) h c.in_ok-args-in-Some.ensures) c.noted_list.ensures.tree

pub build_calls::build_call-returns-in_ok-args-in-Some-clause-kind : goal.build_calls::build_call-returns-in_ok-args-in-Some-clause-kind
build_calls::build_call-returns-in_ok-args-in-Some-clause-kind t c = IfOk-weaker c.noted_list.result _ _ (λ r h. h ∙ c.in_ok-list.ensures.kind) c.noted_list.ensures.kind

pub build_locals::build_value-returns-in_ok-e-in-Some : goal.build_locals::build_value-returns-in_ok-e-in-Some
build_locals::build_value-returns-in_ok-e-in-Some t c = value_built c.args.plan.now (s.site c.args.site.now) c.args.given c.args.e.now c.in-Some.e c.args.builder.now c.build_tree.new.builder (typed_tree c.in_ok-e-in-Some.e.tree) c.in-Some.is c.in_ok-e-in-Some.ensures.built

pub build_locals::build_initial-returns-in_ok-noted-in-Some-clause-built : goal.build_locals::build_initial-returns-in_ok-noted-in-Some-clause-built
build_locals::build_initial-returns-in_ok-noted-in-Some-clause-built t c = first_built c.args.plan.now (s.site c.args.site.now) (optional_annotation c.args.shape.now) c.args.first.now c.in-Some.e c.written_kind-written.result c.args.builder.now c.build_tree.new.builder (typed_tree c.in_ok-noted-in-Some.noted.tree) c.in-Some.is c.written_kind-written.ensures c.in_ok-noted-in-Some.ensures.built

pub build_routines::build_handler-returns-in_err-inner-clause-built : goal.build_routines::build_handler-returns-in_err-inner-clause-built
build_routines::build_handler-returns-in_err-inner-clause-built t c = IfOk-from_err c.from_residual.result _ c.from_residual.ensures.0

pub build_routines::build_handler-returns-in_err-add-clause-built : goal.build_routines::build_handler-returns-in_err-add-clause-built
build_routines::build_handler-returns-in_err-add-clause-built t c = IfOk-from_err c.from_residual-in_err-add.result _ c.from_residual-in_err-add.ensures.0

pub build_routines::build_handler-returns-in_err-inner-clause-kind : goal.build_routines::build_handler-returns-in_err-inner-clause-kind
build_routines::build_handler-returns-in_err-inner-clause-kind t c = IfOk-from_err c.from_residual.result _ c.from_residual.ensures.0

pub build_routines::build_handler-returns-in_err-add-clause-kind : goal.build_routines::build_handler-returns-in_err-add-clause-kind
build_routines::build_handler-returns-in_err-add-clause-kind t c = IfOk-from_err c.from_residual-in_err-add.result _ c.from_residual-in_err-add.ensures.0

pub build_routines::build_handler-returns-clause-built : goal.build_routines::build_handler-returns-clause-built
build_routines::build_handler-returns-clause-built t c = handler_joined c.args.plan.now (s.site c.args.site.now) (routine c.args.body.now) c.args.builder.now (record c.args.builder.now { routines = c.add.new.routines; function = c.in_ok-inner.inner.behind }) (typed_routine c.in_ok-inner.inner.function.own) (typed_routines c.in_ok-inner.inner.function.inner) (typed_tree c.noted.result.tree) c.noted.ensures.tree c.in_ok-inner.ensures.own c.in_ok-inner.ensures.inner refl c.in_ok-add.ensures refl c.in_ok-inner.ensures.behind

pub build_statements::build_body-returns : goal.build_statements::build_body-returns
build_statements::build_body-returns t c =
    subst (λ (f : Making TypedStatements). IfOk c.build_statements.result (λ r. IsBuilt c.args.builder.now c.build_statements.new.builder f (typed_statements r)))
    (body_is c.args.plan.now (s.site c.args.site.now) (s.site c.in_ok-inside.inside) c.args.body.now c.as_slice.result.now c.in_ok-inside.ensures c.as_slice.ensures) c.build_statements.ensures.built

pub build_statements::build_body-returns-in_err-inside : goal.build_statements::build_body-returns-in_err-inside
build_statements::build_body-returns-in_err-inside t c = IfOk-from_err c.from_residual.result _ c.from_residual.ensures.0

pub build_locals::build_value-returns-in-None : goal.build_locals::build_value-returns-in-None
unfolding s.value_made
build_locals::build_value-returns-in-None t c =
    let p = c.args.plan.now in
    let S = s.site c.args.site.now in
    let b0 = c.args.builder.now in
    via b0 b0 (pure None) (s.value_made p S c.args.given (optional_expression c.args.e.now)) None None (sym (ap (λ (o : Option Expr). s.value_made p S c.args.given (optional_expression o)) c.in-None.is)) refl (stays b0 None)

pub build_locals::build_initial-returns-in-None-clause-built : goal.build_locals::build_initial-returns-in-None-clause-built
unfolding s.first_made
build_locals::build_initial-returns-in-None-clause-built t c =
    let p = c.args.plan.now in
    let S = s.site c.args.site.now in
    let b0 = c.args.builder.now in
    let shape = optional_annotation c.args.shape.now in
    via b0 b0 (pure None) (s.first_made p S shape (optional_expression c.args.first.now)) None None (sym (ap (λ (o : Option Expr). s.first_made p S shape (optional_expression o)) c.in-None.is)) refl (stays b0 None)

pub build_locals::build_local-returns-clause-built : goal.build_locals::build_local-returns-clause-built
unfolding steps.local_made s.first_made
build_locals::build_local-returns-clause-built t c =
    let p = c.args.plan.now in
    let S = s.site c.args.site.now in
    let a : Binding = c.args.a.now in
    let b0 = c.args.builder.now in
    let b1 = c.build_initial.new.builder in
    let b2 = c.add_local.new.builder in
    let shape = optional_annotation (out-Binding a).shape in
    let first = optional_expression (out-Binding a).first in
    let h = c.in_ok-initial.ensures in
    let x = optional_typed_tree c.in_ok-initial.initial.first in
    let i = c.in_ok-first.local in
    let R = c.add_local.result in
    let o = c.in_ok-first.ensures.other in
    let of = derive.bound p.tables.now (s.naming p) p.known.now S.place shape first in
    let number : i ≡ b1.local = from_ok R i (λ z. z ≡ b1.local) o c.add_local.ensures.number in
    let locals : value_types b2.locals ≡ value_types b1.locals ++ s.noted of ∷ [] =
    from_ok R i (λ z. value_types b2.locals ≡ value_types b1.locals ++ s.noted c.in_ok-initial.initial.kind ∷ []) o c.add_local.ensures.locals ∙ ap (λ k. value_types b1.locals ++ s.noted k ∷ []) h.kind in
    let routines : typed_routines b2.routines ≡ typed_routines b1.routines = ap typed_routines (from_ok R i (λ z. b2.routines ≡ b1.routines) o c.add_local.ensures.routines) in
    let local : b2.local ≡ min (b1.local + 1) (2 ^ 32 - 1) = from_ok R i (λ z. b2.local ≡ min (b1.local + 1) (2 ^ 32 - 1)) o c.add_local.ensures.local in
    let function : b2.function ≡ b1.function = from_ok R i (λ z. b2.function ≡ b1.function) o c.add_local.ensures.function in
    let make : Option e.TypedTree → ℕ → TypedDeclaration = λ y j. record { name = Local j; first = y } in
    let all : IsBuilt b0 b2 (s.first_made p S shape first >=> λ y. a_local (s.noted of) (make y)) (make x i) =
    then b0 b1 b2 (s.first_made p S shape first) (λ y. a_local (s.noted of) (make y)) x (make x i) h.built (one_made b1 b2 (s.noted of) (make x) i number locals routines local function) in
    via b0 b2 (s.first_made p S shape first >=> λ y. a_local (s.noted of) (make y)) (steps.local_made p S (declaration a)) (make x i) (make (optional_typed_tree c.in_ok-first-2.first) i)
    (sym (ap (steps.local_made p S) (declaration_parts a))) (sym (ap (λ z. make (optional_typed_tree z) i) (c.in_ok-first-2.ensures.kept ∙ c.in_ok-first.ensures.kept))) all

pub build_routines::build_inner-returns-clause-own : goal.build_routines::build_inner-returns-clause-own
build_routines::build_inner-returns-clause-own t c = λ fits.
    let p = c.args.plan.now in
    let made = c.nothing_built-builder.ensures in
    ap (λ us. routine_of us (value_types c.build_body.new.builder.locals) v.Nothing (typed_statements c.in_ok-stmts.stmts)) (ap value_types c.new.ensures)
    ∙ (routine_built p [] v.Nothing (s.body_made p (s.site c.args.site.now) (routine c.args.body.now)) c.args.n c.nothing_built-builder.result c.build_body.new.builder (typed_statements c.in_ok-stmts.stmts)
    made.local (made.function ∙ c.one_more.ensures) made.locals made.routines c.in_ok-stmts.ensures fits).0

pub build_routines::build_inner-returns-clause-inner : goal.build_routines::build_inner-returns-clause-inner
build_routines::build_inner-returns-clause-inner t c = λ fits.
    let p = c.args.plan.now in
    let made = c.nothing_built-builder.ensures in
    (routine_built p [] v.Nothing (s.body_made p (s.site c.args.site.now) (routine c.args.body.now)) c.args.n c.nothing_built-builder.result c.build_body.new.builder (typed_statements c.in_ok-stmts.stmts)
    made.local (made.function ∙ c.one_more.ensures) made.locals made.routines c.in_ok-stmts.ensures fits).1.0

pub build_routines::build_inner-returns-clause-behind : goal.build_routines::build_inner-returns-clause-behind
build_routines::build_inner-returns-clause-behind t c = λ fits.
    let p = c.args.plan.now in
    let made = c.nothing_built-builder.ensures in
    (routine_built p [] v.Nothing (s.body_made p (s.site c.args.site.now) (routine c.args.body.now)) c.args.n c.nothing_built-builder.result c.build_body.new.builder (typed_statements c.in_ok-stmts.stmts)
    made.local (made.function ∙ c.one_more.ensures) made.locals made.routines c.in_ok-stmts.ensures fits).1.1

pub build_statements::build_statement-returns-in_ok-all-in-Block-clause-grown : goal.build_statements::build_statement-returns-in_ok-all-in-Block-clause-grown
build_statements::build_statement-returns-in_ok-all-in-Block-clause-grown t c =
    let S = s.site c.args.site.now in
    let Q = s.site c.build_statements.new.site in
    let Z = s.site c.end.new.site in
    let around = c.begin-around.result in
    let h = c.begin-around.ensures in
    let G : Grown S Q = grown_is S (b.in_block S) Q (grown_block S) (c.in_ok-all-in-Block.ensures.site ∙ h.site) in
    grown_is S S Z (grown_not S) (site_closed S Q Z around.scope.locals around.scope.block around.spots G c.end.ensures.place c.end.ensures.spots h.locals h.block h.spots)

pub build_statements::build_statement-returns-in-If-clause-grown : goal.build_statements::build_statement-returns-in-If-clause-grown
build_statements::build_statement-returns-in-If-clause-grown t c = grown_on_ok c.args.plan.now c.args.builder.now.local (s.site c.args.site.now) (s.site c.build_if.new.site) (statement c.args.a.now) c.build_if.result c.build_if.ensures.site

pub build_statements::build_statement-returns-in-While-clause-grown : goal.build_statements::build_statement-returns-in-While-clause-grown
build_statements::build_statement-returns-in-While-clause-grown t c = grown_on_ok c.args.plan.now c.args.builder.now.local (s.site c.args.site.now) (s.site c.build_while.new.site) (statement c.args.a.now) c.build_while.result c.build_while.ensures.site

pub build_statements::build_statement-returns-in-For-clause-grown : goal.build_statements::build_statement-returns-in-For-clause-grown
build_statements::build_statement-returns-in-For-clause-grown t c = grown_on_ok c.args.plan.now c.args.builder.now.local (s.site c.args.site.now) (s.site c.build_for.new.site) (statement c.args.a.now) c.build_for.result c.build_for.ensures.site

pub build_statements::build_statement-returns-in-ForOf-clause-grown : goal.build_statements::build_statement-returns-in-ForOf-clause-grown
build_statements::build_statement-returns-in-ForOf-clause-grown t c = grown_on_ok c.args.plan.now c.args.builder.now.local (s.site c.args.site.now) (s.site c.build_for_of.new.site) (statement c.args.a.now) c.build_for_of.result c.build_for_of.ensures.site

pub build_statements::build_statement-returns-in_ok-value-in-Return-clause-grown : goal.build_statements::build_statement-returns-in_ok-value-in-Return-clause-grown
build_statements::build_statement-returns-in_ok-value-in-Return-clause-grown t c = grown_not (s.site c.args.site.now)

pub build_statements::build_statement-returns-in-Break-clause-grown : goal.build_statements::build_statement-returns-in-Break-clause-grown
build_statements::build_statement-returns-in-Break-clause-grown t c = grown_not (s.site c.args.site.now)

pub build_statements::build_statement-returns-in-Continue-clause-grown : goal.build_statements::build_statement-returns-in-Continue-clause-grown
build_statements::build_statement-returns-in-Continue-clause-grown t c = grown_not (s.site c.args.site.now)

pub build_statements::build_statement-returns-in_ok-e-in-Plain-clause-grown : goal.build_statements::build_statement-returns-in_ok-e-in-Plain-clause-grown
build_statements::build_statement-returns-in_ok-e-in-Plain-clause-grown t c = grown_not (s.site c.args.site.now)

pub build_statements::build_statement-returns-in-Empty-clause-grown : goal.build_statements::build_statement-returns-in-Empty-clause-grown
build_statements::build_statement-returns-in-Empty-clause-grown t c = grown_not (s.site c.args.site.now)
