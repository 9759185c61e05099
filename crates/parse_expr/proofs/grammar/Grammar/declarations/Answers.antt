use Rattle.std.proofs.Common.{◌≡◌, ◌+◌, ◌-◌, sym, ◌∙◌, ap, subst, arith}
use Rattle.std.specs.Prelude.{Some, true, false}
use Rattle.sts_syntax.specs.Trees.{Declarations}
use Rattle.sts_syntax.specs.Views.{declaration, declarations}
use Rattle.sts_grammar.specs.ReadStatements.{read_declarations, read_let}
use Rattle.sts_grammar.specs.Found.{Found}
use Rattle.parse_expr.specs.Gives.{source, nested, Fails, read_of}
use Rattle.std.proofs.lemmas.Result.{IfOk-from_err}
use Rattle.parse_expr.specs.declared.reader.Unread.TheVariants.{NoMemory}
use Rattle.parse_expr.proofs.Turns.{handed}
use Rattle.parse_expr.proofs.Loops.{declarations_next, declarations_fail, declarations_over}
use Rattle.parse_expr.proofs.OneMore.{declarations_more, declarations_deepest}
use Rattle.parse_expr.proofs.grammar.Grammar.declarations.Goals as goal

pub returns-then-not-is_mark-clause-reads : goal.returns-then-not-is_mark-clause-reads
unfolding read_let
returns-then-not-is_mark-clause-reads g c =
    let r = c.args.self.now.reader in
    let read = (nested r c.args.self.now.room).expr 1 in
    let old = c.loop-left.item in
    let a = c.in_ok-a.a in
    c.loop-left.invariant.reads
    ∙ declarations_next (source r) read c.args.fixed c.loop-left.left (declarations old) c.loop-left.next (declaration a.item, a.end) false c.loop-left-test.true c.in_ok-a.ensures.reads (sym c.is_mark.ensures.value ∙ c.if-not-is_mark.true)
    ∙ ap (λ (z : Declarations). Some (z, a.end)) (sym (declarations_more old c.push.new.self a.item c.in_ok-push.ensures.ok))

pub returns-then-not-is_mark-clause-nesting : goal.returns-then-not-is_mark-clause-nesting
returns-then-not-is_mark-clause-nesting g c =
    declarations_deepest c.loop-left.item c.push.new.self c.in_ok-a.a.item c.in_ok-a.a.nesting c.loop-left.nesting c.max-nesting.result c.in_ok-push.ensures.ok c.in_ok-a.ensures.nesting c.loop-left.invariant.weighed c.max-nesting.ensures

pub returns-in_err-a-clause-reads : goal.returns-in_err-a-clause-reads
unfolding read_let
returns-in_err-a-clause-reads g c =
    let r = c.args.self.now.reader in
    let read = (nested r c.args.self.now.room).expr 1 in
    let why = c.in_err-a.field-0.0 in
    handed (read_of declarations) c.from_residual.result why _ c.from_residual.ensures.1
    (subst (λ (x : Found Declarations). Fails why x) (sym c.loop-left.invariant.reads) (declarations_fail (source r) read c.args.fixed c.loop-left.left (declarations c.loop-left.item) c.loop-left.next why c.loop-left-test.true c.in_err-a.ensures.reads))

pub returns-clause-reads : goal.returns-clause-reads
unfolding read_let
returns-clause-reads g c =
    let r = c.args.self.now.reader in
    let read = (nested r c.args.self.now.room).expr 1 in
    let over : c.loop-left.left ≡ 0 = omega (arith, c.loop-left-test.false) in
    c.loop-left.invariant.reads ∙ declarations_over (source r) read c.args.fixed c.loop-left.left (declarations c.loop-left.item) c.loop-left.next over

pub loop-left-preserved : goal.loop-left-preserved
loop-left-preserved g c =
    let r = c.args.self.now.reader in
    let s = source r in
    let read = (nested r c.args.self.now.room).expr 1 in
    let old = c.loop-left.item in
    let a = c.in_ok-a.a in
    let n = c.loop-left.left in
    record {
      reads =
          c.loop-left.invariant.reads
          ∙ declarations_next s read c.args.fixed n (declarations old) c.loop-left.next (declaration a.item, a.end) true c.loop-left-test.true c.in_ok-a.ensures.reads (sym c.is_mark.ensures.value ∙ c.if-not-is_mark.false)
          ∙ ap (λ (z : Declarations). read_declarations s read c.args.fixed (n - 1) z (a.end + 1)) (sym (declarations_more old c.push.new.self a.item c.in_ok-push.ensures.ok));
      weighed = declarations_deepest old c.push.new.self a.item a.nesting c.loop-left.nesting c.max-nesting.result c.in_ok-push.ensures.ok c.in_ok-a.ensures.nesting c.loop-left.invariant.weighed c.max-nesting.ensures;
      fits = omega (arith, c.max-nesting.ensures, c.in_ok-a.ensures.fits, c.loop-left.invariant.fits);
    }

pub returns-in_err-a-clause-nesting : goal.returns-in_err-a-clause-nesting
returns-in_err-a-clause-nesting g c = IfOk-from_err c.from_residual.result _ c.from_residual.ensures.0

pub returns-in_err-a-clause-fits : goal.returns-in_err-a-clause-fits
returns-in_err-a-clause-fits g c = IfOk-from_err c.from_residual.result _ c.from_residual.ensures.0

pub returns-in_err-push-clause-reads : goal.returns-in_err-push-clause-reads
unfolding read_let
returns-in_err-push-clause-reads g c = handed (read_of declarations) c.from_residual-in_err-push.result NoMemory _ c.from_residual-in_err-push.ensures.1 tt

pub returns-in_err-push-clause-nesting : goal.returns-in_err-push-clause-nesting
returns-in_err-push-clause-nesting g c = IfOk-from_err c.from_residual-in_err-push.result _ c.from_residual-in_err-push.ensures.0

pub returns-in_err-push-clause-fits : goal.returns-in_err-push-clause-fits
returns-in_err-push-clause-fits g c = IfOk-from_err c.from_residual-in_err-push.result _ c.from_residual-in_err-push.ensures.0
