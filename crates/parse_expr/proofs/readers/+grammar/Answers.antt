use Rattle.std.proofs.Common.{sym, subst, arith}
use Rattle.sts_syntax.specs.Trees.{Tree, Statement}
use Rattle.sts_syntax.specs.Views.{tree, statement}
use Rattle.sts_grammar.specs.Found.{Found}
use Rattle.parse_expr.specs.Gives.{source, Gives, read_of}
use Rattle.parse_expr.proofs.Turns.{expression_none, expression_at, statement_none, statement_whole}
use Rattle.parse_expr.proofs.readers.+grammar.Goals as goal

pub expression-returns-then-room-eq0-clause-reads : goal.expression-returns-then-room-eq0-clause-reads
expression-returns-then-room-eq0-clause-reads t c = expression_none (source c.args.reader) c.args.reader.upto c.args.room c.args.level c.args.at (omega arith)

pub expression-returns-clause-reads : goal.expression-returns-clause-reads
expression-returns-clause-reads t c =
    subst (λ (x : Found Tree). Gives (read_of tree) c.operand.result x)
    (sym (expression_at (source c.args.reader) c.args.reader.upto c.args.room c.args.level c.args.at (omega arith))) c.operand.ensures.reads

pub statement-returns-then-room-eq0-clause-reads : goal.statement-returns-then-room-eq0-clause-reads
statement-returns-then-room-eq0-clause-reads t c = statement_none (source c.args.reader) c.args.room c.args.in_function c.args.in_loop c.args.at (omega arith)

pub statement-returns-clause-reads : goal.statement-returns-clause-reads
statement-returns-clause-reads t c =
    subst (λ (x : Found Statement). Gives (read_of statement) c.any_statement.result x)
    (statement_whole (source c.args.reader) (source c.whole.result) c.whole.result.upto c.args.room c.args.in_function c.args.in_loop c.args.at
    c.whole.ensures.source c.whole.ensures.upto (omega arith)) c.any_statement.ensures.reads
