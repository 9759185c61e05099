use Rattle.std.proofs.Common.{◌≡◌, ◌+◌, ◌*◌, ◌++◌, drop}
use Rattle.sts_syntax.specs.Nesting.{nesting, deepest_tree, optional_nesting, statement_nesting, deepest_statement, optional_statement_nesting, declaration_nesting, deepest_declaration, routine_nesting}
use Rattle.sts_syntax.specs.Trees as t
use Rattle.sts_syntax.specs.Views.{tree, trees, statement, statements, declaration, declarations, routine, optional_expression}
use Rattle.type_derive.specs.Scopes.{place, Extends}
use Rattle.type_check.specs.Bounds.{optional_boxed}
use Rattle.type_check.specs.Contexts.{failures, kinds_of, taken, statements_failure, declarations_failure, all_declared}
use Rattle.type_check.proofs.failure.+walk.Given as goal

abbrev pub invariant-kinds_of-loop-i : goal.invariant-kinds_of-loop-i
invariant-kinds_of-loop-i l = record {
  found : failures l.context (place l.scope) (drop l.i (taken l.fn.board)) (trees (drop l.i l.all)) ≡ failures l.context (place l.scope) (drop l.from (taken l.fn.board)) (trees (drop l.from l.all));
  kinds : l.kinds ++ kinds_of l.context (place l.scope) (drop l.i (taken l.fn.board)) (trees (drop l.i l.all)) ≡ kinds_of l.context (place l.scope) (drop l.from (taken l.fn.board)) (trees (drop l.from l.all));
}

abbrev pub invariant-statements-loop-i : goal.invariant-statements-loop-i
invariant-statements-loop-i l = record {
  found : statements_failure l.context (place l.scope) (statements (drop l.i l.all)) ≡ statements_failure l.context (place l.fn.scope) (statements l.all);
  here : Extends (place l.fn.scope) (place l.scope);
}

abbrev pub invariant-declarations_failure-loop-i : goal.invariant-declarations_failure-loop-i
invariant-declarations_failure-loop-i l = record {
  found : declarations_failure l.context (place l.scope) l.fixed (declarations (drop l.i l.each)) ≡ declarations_failure l.context (place l.fn.scope) l.fixed (declarations l.each);
  here : all_declared l.context (place l.scope) l.fixed (declarations (drop l.i l.each)) ≡ all_declared l.context (place l.fn.scope) l.fixed (declarations l.each);
}

abbrev pub decreases-expression : goal.decreases-expression
decreases-expression l = 8 * nesting (tree l.e.now) + 7

abbrev pub decreases-unary : goal.decreases-unary
decreases-unary l = 8 * nesting (t.Unary l.at l.op (tree l.a.now)) + 6

abbrev pub decreases-binary : goal.decreases-binary
decreases-binary l = 8 * nesting (t.Binary l.at l.op (tree l.a.now) (tree l.b.now)) + 6

abbrev pub decreases-joined : goal.decreases-joined
decreases-joined l = 8 * nesting (t.Both l.at (tree l.a.now) (tree l.b.now)) + 6

abbrev pub decreases-item : goal.decreases-item
decreases-item l = 8 * nesting (t.Item l.at (tree l.a.now) (tree l.i.now)) + 6

abbrev pub decreases-choice : goal.decreases-choice
decreases-choice l = 8 * nesting (t.Choice l.at (tree l.q.now) (tree l.a.now) (tree l.b.now)) + 6

abbrev pub decreases-setting : goal.decreases-setting
decreases-setting l = 8 * nesting (t.Set l.at l.op (tree l.x.now) (tree l.a.now)) + 6

abbrev pub decreases-bumping : goal.decreases-bumping
decreases-bumping l = 8 * nesting (t.Bump l.at (tree l.x.now) l.by l.late) + 6

abbrev pub decreases-member : goal.decreases-member
decreases-member l = 8 * nesting (t.Member l.e.now.at (tree l.a.now) l.m) + 6

abbrev pub decreases-serving : goal.decreases-serving
decreases-serving l = 8 * nesting (t.Handler l.at (routine l.body.now)) + 6

abbrev pub decreases-kinds_of : goal.decreases-kinds_of
decreases-kinds_of l = 8 * deepest_tree (trees l.all.now) + 8

abbrev pub decreases-items : goal.decreases-items
decreases-items l = 8 * nesting (t.Items l.at (trees l.all.now)) + 6

abbrev pub decreases-call : goal.decreases-call
decreases-call l = 8 * nesting (t.Call l.at (tree l.f.now) (trees l.args.now)) + 6

abbrev pub decreases-super_call : goal.decreases-super_call
decreases-super_call l = 8 * nesting (t.SuperCall l.at l.m (trees l.args.now)) + 6

abbrev pub decreases-make : goal.decreases-make
decreases-make l = 8 * nesting (t.Make l.at l.x (trees l.args.now)) + 6

abbrev pub decreases-handler : goal.decreases-handler
decreases-handler l = 8 * routine_nesting (routine l.body.now) + 9

abbrev pub decreases-statements : goal.decreases-statements
decreases-statements l = 8 * deepest_statement (statements l.all.now) + 8

abbrev pub decreases-nested : goal.decreases-nested
decreases-nested l = 8 * statement_nesting (statement l.s.now) + 8

abbrev pub decreases-block : goal.decreases-block
decreases-block l = 8 * deepest_statement (statements l.all.now) + 9

abbrev pub decreases-statement : goal.decreases-statement
decreases-statement l = 8 * statement_nesting (statement l.s.now) + 7

abbrev pub decreases-tested : goal.decreases-tested
decreases-tested l = 8 * statement_nesting (t.IfOnly l.at (tree l.test.now) (statement l.a.now)) + 6

abbrev pub decreases-if_else : goal.decreases-if_else
decreases-if_else l = 8 * statement_nesting (t.IfElse l.at (tree l.test.now) (statement l.a.now) (statement l.b.now)) + 6

abbrev pub decreases-do_while : goal.decreases-do_while
decreases-do_while l = 8 * statement_nesting (t.DoWhile l.at (statement l.a.now) (tree l.test.now)) + 6

abbrev pub decreases-for_loop : goal.decreases-for_loop
decreases-for_loop l = 8 * statement_nesting (t.For l.at (optional_boxed l.turns.first.now) (optional_expression l.turns.test.now) (optional_expression l.turns.step.now) (statement l.a.now)) + 6

abbrev pub decreases-first_of : goal.decreases-first_of
decreases-first_of l = 8 * optional_statement_nesting (optional_boxed l.first.now) + 8

abbrev pub decreases-optional : goal.decreases-optional
decreases-optional l = 8 * optional_nesting (optional_expression l.e.now) + 8

abbrev pub decreases-for_of : goal.decreases-for_of
decreases-for_of l = 8 * statement_nesting (t.ForOf l.at l.each.fixed l.each.name (tree l.each.list.now) (statement l.a.now)) + 6

abbrev pub decreases-returned : goal.decreases-returned
decreases-returned l = 8 * nesting (tree l.e.now) + 8

abbrev pub decreases-initial : goal.decreases-initial
decreases-initial l = 8 * optional_nesting (optional_expression l.first.now) + 8

abbrev pub decreases-declaration_failure : goal.decreases-declaration_failure
decreases-declaration_failure l = 8 * declaration_nesting (declaration l.b.now) + 8

abbrev pub decreases-declarations_failure : goal.decreases-declarations_failure
decreases-declarations_failure l = 8 * deepest_declaration (declarations l.each.now) + 9
