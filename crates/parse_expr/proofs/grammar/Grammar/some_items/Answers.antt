use Rattle.std.proofs.Common.{◌≡◌, ◌+◌, ◌-◌, sym, ◌∙◌, ap, subst, arith}
use Rattle.std.specs.Prelude.{Some}
use Rattle.sts_syntax.specs.Trees.{Trees}
use Rattle.sts_syntax.specs.Views.{tree, trees}
use Rattle.sts_grammar.specs.Found.{Found, when}
use Rattle.sts_grammar.specs.ReadExpressions.{read_items, put}
use Rattle.parse_expr.specs.Gives.{source, nested, Fails, read_of}
use Rattle.std.proofs.lemmas.Result.{IfOk-from_err}
use Rattle.parse_expr.specs.declared.reader.Unread.TheVariants.{NoMemory}
use Rattle.parse_expr.proofs.Turns.{handed}
use Rattle.parse_expr.proofs.Loops.{items_closed, items_open, items_fail, items_over}
use Rattle.parse_expr.proofs.OneMore.{trees_more, trees_deepest}
use Rattle.parse_expr.proofs.grammar.Grammar.some_items.Goals as goal

pub returns-in_err-a-clause-reads : goal.returns-in_err-a-clause-reads
returns-in_err-a-clause-reads g c =
    let r = c.args.self.now.reader in
    let read = (nested r c.args.self.now.room).expr 1 in
    let why = c.in_err-a.field-0.0 in
    handed (read_of trees) c.from_residual.result why _ c.from_residual.ensures.1
    (subst (λ (x : Found Trees). Fails why x) (sym c.loop-left.invariant.reads) (items_fail (source r) c.args.square read c.loop-left.left (trees c.loop-left.item) c.loop-left.next why c.loop-left-test.true c.in_err-a.ensures.reads))

pub returns-then-closes-clause-reads : goal.returns-then-closes-clause-reads
returns-then-closes-clause-reads g c =
    let s = source c.args.self.now.reader in
    let read = (nested c.args.self.now.reader c.args.self.now.room).expr 1 in
    let old = c.loop-left.item in
    let more = trees_more old c.push.new.self c.in_ok-a.a.item c.in_ok-push.ensures.ok in
    c.loop-left.invariant.reads
    ∙ items_closed s c.args.square read c.loop-left.left (trees old) c.loop-left.next (tree c.in_ok-a.a.item, c.in_ok-a.a.end) c.loop-left-test.true c.in_ok-a.ensures.reads (sym c.closes.ensures.value ∙ c.if-closes.true)
    ∙ ap (λ (z : Trees). Some (z, c.in_ok-a.a.end + 1)) (sym more)

pub returns-then-closes-clause-nesting : goal.returns-then-closes-clause-nesting
returns-then-closes-clause-nesting g c =
    trees_deepest c.loop-left.item c.push.new.self c.in_ok-a.a.item c.in_ok-a.a.nesting c.loop-left.nesting c.max-nesting.result c.in_ok-push.ensures.ok c.in_ok-a.ensures.nesting c.loop-left.invariant.weighed c.max-nesting.ensures

pub returns-then-not-is_mark-clause-reads : goal.returns-then-not-is_mark-clause-reads
returns-then-not-is_mark-clause-reads g c =
    let s = source c.args.self.now.reader in
    let read = (nested c.args.self.now.reader c.args.self.now.room).expr 1 in
    let old = c.loop-left.item in
    let a = c.in_ok-a.a in
    c.loop-left.invariant.reads
    ∙ items_open s c.args.square read c.loop-left.left (trees old) c.loop-left.next (tree a.item, a.end) c.loop-left-test.true c.in_ok-a.ensures.reads (sym c.closes.ensures.value ∙ c.if-closes.false)
    ∙ ap (λ t. when t (read_items s c.args.square read (c.loop-left.left - 1) (put (trees old) (tree a.item)) (a.end + 1))) (sym c.is_mark.ensures.value ∙ c.if-not-is_mark.true)

pub returns-clause-reads : goal.returns-clause-reads
returns-clause-reads g c =
    let s = source c.args.self.now.reader in
    let read = (nested c.args.self.now.reader c.args.self.now.room).expr 1 in
    let over : c.loop-left.left ≡ 0 = omega (arith, c.loop-left-test.false) in
    c.loop-left.invariant.reads ∙ items_over s c.args.square read c.loop-left.left (trees c.loop-left.item) c.loop-left.next over

pub loop-left-preserved : goal.loop-left-preserved
loop-left-preserved g c =
    let s = source c.args.self.now.reader in
    let read = (nested c.args.self.now.reader c.args.self.now.room).expr 1 in
    let old = c.loop-left.item in
    let a = c.in_ok-a.a in
    let n = c.loop-left.left in
    let more = trees_more old c.push.new.self a.item c.in_ok-push.ensures.ok in
    record {
      reads =
          c.loop-left.invariant.reads
          ∙ items_open s c.args.square read n (trees old) c.loop-left.next (tree a.item, a.end) c.loop-left-test.true c.in_ok-a.ensures.reads (sym c.closes.ensures.value ∙ c.if-closes.false)
          ∙ ap (λ t. when t (read_items s c.args.square read (n - 1) (put (trees old) (tree a.item)) (a.end + 1))) (sym c.is_mark.ensures.value ∙ c.if-not-is_mark.false)
          ∙ ap (λ (z : Trees). read_items s c.args.square read (n - 1) z (a.end + 1)) (sym more);
      weighed = trees_deepest old c.push.new.self a.item a.nesting c.loop-left.nesting c.max-nesting.result c.in_ok-push.ensures.ok c.in_ok-a.ensures.nesting c.loop-left.invariant.weighed c.max-nesting.ensures;
      fits = omega (arith, c.max-nesting.ensures, c.in_ok-a.ensures.fits, c.loop-left.invariant.fits);
    }

pub returns-in_err-a-clause-nesting : goal.returns-in_err-a-clause-nesting
returns-in_err-a-clause-nesting g c = IfOk-from_err c.from_residual.result _ c.from_residual.ensures.0

pub returns-in_err-a-clause-fits : goal.returns-in_err-a-clause-fits
returns-in_err-a-clause-fits g c = IfOk-from_err c.from_residual.result _ c.from_residual.ensures.0

pub returns-in_err-push-clause-reads : goal.returns-in_err-push-clause-reads
returns-in_err-push-clause-reads g c = handed (read_of trees) c.from_residual-in_err-push.result NoMemory _ c.from_residual-in_err-push.ensures.1 tt

pub returns-in_err-push-clause-nesting : goal.returns-in_err-push-clause-nesting
returns-in_err-push-clause-nesting g c = IfOk-from_err c.from_residual-in_err-push.result _ c.from_residual-in_err-push.ensures.0

pub returns-in_err-push-clause-fits : goal.returns-in_err-push-clause-fits
returns-in_err-push-clause-fits g c = IfOk-from_err c.from_residual-in_err-push.result _ c.from_residual-in_err-push.ensures.0
