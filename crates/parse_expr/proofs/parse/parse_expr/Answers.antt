use Rattle.std.proofs.Common.{subst, arith}
use Rattle.sts_syntax.specs.Views.{tree}
use Rattle.sts_grammar.proofs.Laws.{ends_by_length, ends_by_none}
use Rattle.sts_grammar.specs.Longest.{NoExpression}
use Rattle.parse_expr.specs.declared.reader.Unread.{Unread}
use Rattle.sts_grammar.specs.Texts as texts
use Rattle.sts_grammar.specs.Limits.{most_nesting}
use Rattle.parse_expr.specs.Answers.{UnreadFor}
use Rattle.parse_expr.proofs.Longest.{NoneAt, is_longest, one_less, refused_at}
use Rattle.parse_expr.proofs.parse.parse_expr.Goals as goal

pub loop-upto-init : goal.loop-upto-init
loop-upto-init c = record {
  all = λ e j h fit. omega (arith, ends_by_length (texts.source c.args.tokens.now c.args.tables.now) most_nesting c.args.from e j h fit);
  within = omega arith;
}

pub returns-in-Ok-clause-longest : goal.returns-in-Ok-clause-longest
returns-in-Ok-clause-longest c =
    is_longest (texts.source c.args.tokens.now c.args.tables.now) c.args.from c.loop-upto.upto (tree c.in-Ok.e.item) c.in-Ok.e.end c.loop-upto.invariant.all c.in-Ok.ensures.found

pub loop-upto-preserved : goal.loop-upto-preserved
loop-upto-preserved c =
    let none = subst (λ (u : Unread). UnreadFor (NoneAt (texts.source c.args.tokens.now c.args.tables.now) c.args.from c.loop-upto.upto) u) c.in-Err-Syntax.field-0-is c.in-Err-Syntax.ensures.none in
    record {
      all = one_less (texts.source c.args.tokens.now c.args.tables.now) c.args.from c.loop-upto.upto c.loop-upto.invariant.all none;
      within = omega arith;
    }

pub returns-clause-refused : goal.returns-clause-refused
returns-clause-refused c =
    let s = texts.source c.args.tokens.now c.args.tables.now in
    refused_at s (NoExpression s c.args.from) c.refusal.result
    (ends_by_none s most_nesting c.args.from c.loop-upto.upto c.loop-upto-test.false c.loop-upto.invariant.all) (c.refusal.ensures (omega arith))
