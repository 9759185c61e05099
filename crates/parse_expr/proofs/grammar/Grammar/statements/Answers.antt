use Rattle.std.proofs.Common.{◌≡◌, ◌-◌, sym, ◌∙◌, ap, subst, arith}
use Rattle.sts_syntax.specs.Trees.{Statements}
use Rattle.sts_syntax.specs.Views.{statements}
use Rattle.sts_grammar.specs.Found.{Found, ◌>>=◌}
use Rattle.sts_syntax.specs.Trees.{Statement}
use Rattle.sts_grammar.specs.ReadExpressions.{read_statements, put_statement}
use Rattle.parse_expr.specs.Gives.{source, nested, Fails, read_of}
use Rattle.std.proofs.lemmas.Result.{IfOk-from_err}
use Rattle.parse_expr.specs.declared.reader.Unread.TheVariants.{NoMemory}
use Rattle.parse_expr.proofs.Turns.{handed}
use Rattle.parse_expr.proofs.Loops.{statements_closed, statements_open, statements_fail, statements_over}
use Rattle.parse_expr.proofs.OneMore.{statements_more, statements_deepest}
use Rattle.parse_expr.proofs.grammar.Grammar.statements.Goals as goal

pub returns-then-is_mark-clause-reads : goal.returns-then-is_mark-clause-reads
returns-then-is_mark-clause-reads g c =
    let r = c.args.self.now.reader in
    let read = (nested r c.args.self.now.room).stmt c.args.in_function c.args.in_loop in
    c.loop-left.invariant.reads
    ∙ statements_closed (source r) read c.loop-left.left (statements c.loop-left.item) c.loop-left.next c.loop-left-test.true (sym c.is_mark.ensures.value ∙ c.if-is_mark.true)

pub returns-in_err-a-clause-reads : goal.returns-in_err-a-clause-reads
returns-in_err-a-clause-reads g c =
    let r = c.args.self.now.reader in
    let read = (nested r c.args.self.now.room).stmt c.args.in_function c.args.in_loop in
    let why = c.in_err-a.field-0.0 in
    handed (read_of statements) c.from_residual.result why _ c.from_residual.ensures.1
    (subst (λ (x : Found Statements). Fails why x) (sym c.loop-left.invariant.reads) (statements_fail (source r) read c.loop-left.left (statements c.loop-left.item) c.loop-left.next why c.loop-left-test.true (sym c.is_mark.ensures.value ∙ c.if-is_mark.false) c.in_err-a.ensures.reads))

pub returns-clause-reads : goal.returns-clause-reads
returns-clause-reads g c =
    let r = c.args.self.now.reader in
    let read = (nested r c.args.self.now.room).stmt c.args.in_function c.args.in_loop in
    let over : c.loop-left.left ≡ 0 = omega (arith, c.loop-left-test.false) in
    c.loop-left.invariant.reads ∙ statements_over (source r) read c.loop-left.left (statements c.loop-left.item) c.loop-left.next over

pub loop-left-preserved : goal.loop-left-preserved
loop-left-preserved g c =
    let r = c.args.self.now.reader in
    let s = source r in
    let read = (nested r c.args.self.now.room).stmt c.args.in_function c.args.in_loop in
    let old = c.loop-left.item in
    let a = c.in_ok-a.a in
    let n = c.loop-left.left in
    let more = statements_more old c.push.new.self a.item c.in_ok-push.ensures.ok in
    record {
      reads =
          c.loop-left.invariant.reads
          ∙ statements_open s read n (statements old) c.loop-left.next c.loop-left-test.true (sym c.is_mark.ensures.value ∙ c.if-is_mark.false)
          ∙ ap (λ (x : Found Statement). x >>= λ b. read_statements s read (n - 1) (put_statement (statements old) b.0) b.1) c.in_ok-a.ensures.reads
          ∙ ap (λ (z : Statements). read_statements s read (n - 1) z a.end) (sym more);
      weighed = statements_deepest old c.push.new.self a.item a.nesting c.loop-left.nesting c.max-nesting.result c.in_ok-push.ensures.ok c.in_ok-a.ensures.nesting c.loop-left.invariant.weighed c.max-nesting.ensures;
      fits = omega (arith, c.max-nesting.ensures, c.in_ok-a.ensures.fits, c.loop-left.invariant.fits);
    }

pub returns-in_err-a-clause-nesting : goal.returns-in_err-a-clause-nesting
returns-in_err-a-clause-nesting g c = IfOk-from_err c.from_residual.result _ c.from_residual.ensures.0

pub returns-in_err-a-clause-fits : goal.returns-in_err-a-clause-fits
returns-in_err-a-clause-fits g c = IfOk-from_err c.from_residual.result _ c.from_residual.ensures.0

pub returns-in_err-push-clause-reads : goal.returns-in_err-push-clause-reads
returns-in_err-push-clause-reads g c = handed (read_of statements) c.from_residual-in_err-push.result NoMemory _ c.from_residual-in_err-push.ensures.1 tt

pub returns-in_err-push-clause-nesting : goal.returns-in_err-push-clause-nesting
returns-in_err-push-clause-nesting g c = IfOk-from_err c.from_residual-in_err-push.result _ c.from_residual-in_err-push.ensures.0

pub returns-in_err-push-clause-fits : goal.returns-in_err-push-clause-fits
returns-in_err-push-clause-fits g c = IfOk-from_err c.from_residual-in_err-push.result _ c.from_residual-in_err-push.ensures.0
