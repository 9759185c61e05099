use Rattle.std.proofs.Common.{List, ap, arith}
use Rattle.sts_syntax.specs.declared.trees.Expr.{Expr}
use Rattle.sts_syntax.specs.declared.trees.Stmt.{Stmt}
use Rattle.sts_syntax.specs.declared.trees.Binding.{Binding}
use Rattle.sts_syntax.specs.declared.trees.Body.{Body, out-Body}
use Rattle.sts_syntax.specs.Views.{tree, trees, statement, statements, declarations}
use Rattle.sts_syntax.proofs.Laws.{routine_parts}
use Rattle.sts_scope.specs.Handlers as h
use Rattle.typed_numbers.proofs.Listed.{call_is, super_call_is, make_is, items_is, handler_is, block_is, let_is, for_parts}
use Rattle.typed_numbers.proofs.handler_counts.+handlers.Goals as goal

pub handlers-returns-in-Call : goal.handlers-returns-in-Call
handlers-returns-in-Call t c =
    let e = ap h.handlers (call_is c.args.e.now c.in-Call.f c.in-Call.args c.in-Call.is) in
    let a = ap (λ (xs : List Expr). h.handlers_of (trees xs)) c.as_slice.ensures in
    let d = ap (λ (x : Expr). h.handlers (tree x)) c.deref-in-Call.ensures in
    omega (arith, e, a, d, c.handlers-in-Call.ensures, c.handlers_of.ensures)

pub handlers-returns-in-Handler : goal.handlers-returns-in-Handler
handlers-returns-in-Handler t c =
    let e = ap h.handlers (handler_is c.args.e.now c.in-Handler.body c.in-Handler.is) in
    let b = ap h.routine_handlers (routine_parts c.in-Handler.body.value) in
    let a = ap (λ (xs : List Stmt). h.statements_handlers (statements xs)) c.as_slice-in-Handler.ensures in
    let d = ap (λ (x : Body). h.statements_handlers (statements (out-Body x).stmts)) c.deref-in-Handler.ensures in
    omega (arith, e, b, a, d, c.saturating_add.ensures, c.statements_handlers.ensures)

pub handlers-returns-in-SuperCall : goal.handlers-returns-in-SuperCall
handlers-returns-in-SuperCall t c =
    let e = ap h.handlers (super_call_is c.args.e.now c.in-SuperCall.field-0 c.in-SuperCall.args c.in-SuperCall.is) in
    let a = ap (λ (xs : List Expr). h.handlers_of (trees xs)) c.as_slice-in-SuperCall.ensures in
    omega (arith, e, a, c.handlers_of-in-SuperCall.ensures)

pub handlers-returns-in-Make : goal.handlers-returns-in-Make
handlers-returns-in-Make t c =
    let e = ap h.handlers (make_is c.args.e.now c.in-Make.field-0 c.in-Make.args c.in-Make.is) in
    let a = ap (λ (xs : List Expr). h.handlers_of (trees xs)) c.as_slice-in-Make.ensures in
    omega (arith, e, a, c.handlers_of-in-Make.ensures)

pub handlers-returns-in-Items : goal.handlers-returns-in-Items
handlers-returns-in-Items t c =
    let e = ap h.handlers (items_is c.args.e.now c.in-Items.items c.in-Items.is) in
    let a = ap (λ (xs : List Expr). h.handlers_of (trees xs)) c.as_slice-in-Items.ensures in
    omega (arith, e, a, c.handlers_of-in-Items.ensures)

pub statement_count-returns-in-Block : goal.statement_count-returns-in-Block
statement_count-returns-in-Block t c =
    let e = ap h.statement_handlers (block_is c.args.s.now c.in-Block.all c.in-Block.is) in
    let a = ap (λ (xs : List Stmt). h.statements_handlers (statements xs)) c.as_slice.ensures in
    omega (arith, e, a, c.statements_handlers.ensures)

pub statement_count-returns-in-Let : goal.statement_count-returns-in-Let
statement_count-returns-in-Let t c =
    let e = ap h.statement_handlers (let_is c.args.s.now c.in-Let.fixed c.in-Let.each c.in-Let.is) in
    let a = ap (λ (xs : List Binding). h.declarations_handlers (declarations xs)) c.as_slice-in-Let.ensures in
    omega (arith, e, a, c.declarations_handlers.ensures)

pub statement_count-returns-in-For : goal.statement_count-returns-in-For
statement_count-returns-in-For t c =
    let v = c.in-For in
    let e = for_parts c.args.s.now v.first v.test v.step v.a v.is in
    let d = ap (λ (x : Stmt). h.statement_handlers (statement x)) c.deref-in-For.ensures in
    omega (arith, e, d, c.first_count.ensures, c.optional_handlers-count.ensures, c.optional_handlers.ensures, c.statement_count-in-For.ensures)
