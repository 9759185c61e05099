use Rattle.std.proofs.Common.{arith}
use Rattle.sts_syntax.specs.Views.{statement}
use Rattle.sts_grammar.specs.Longest.{NoStatement}
use Rattle.sts_grammar.specs.Texts as texts
use Rattle.parse_expr.proofs.Longest.{is_longest_statement, refused_by, unread_statement}
use Rattle.parse_expr.proofs.parse.parse_stmt.Goals as goal

pub returns-in-Ok-clause-longest : goal.returns-in-Ok-clause-longest
returns-in-Ok-clause-longest c =
    is_longest_statement (texts.source c.args.tokens.now c.args.tables.now) c.args.in_function c.args.in_loop c.args.from (statement c.in-Ok.a.item) c.in-Ok.a.end c.in-Ok.ensures.reads

pub returns-in-Err-clause-refused : goal.returns-in-Err-clause-refused
returns-in-Err-clause-refused c =
    let s = texts.source c.args.tokens.now c.args.tables.now in
    refused_by s (NoStatement s c.args.in_function c.args.in_loop c.args.from) c.in-Err.unread c.refusal.result (omega arith) c.refusal.ensures
    (unread_statement s c.args.in_function c.args.in_loop c.args.from c.in-Err.unread c.in-Err.ensures.reads)
