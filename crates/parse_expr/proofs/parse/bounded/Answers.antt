use Rattle.std.proofs.Common.{◌≡◌, ◌-◌}
use Rattle.std.specs.Prelude.{false}
use Rattle.sts_grammar.specs.Source.{kind}
use Rattle.sts_grammar.specs.Texts as texts
use Rattle.parse_expr.specs.Lasts.{may_be_last}
use Rattle.parse_expr.proofs.Longest.{none_by_last}
use Rattle.parse_expr.proofs.parse.bounded.Goals as goal

pub returns-then-not-may_be_last-clause-none : goal.returns-then-not-may_be_last-clause-none
returns-then-not-may_be_last-clause-none c =
    let s = texts.source c.args.tokens.now c.args.tables.now in
    let last : may_be_last (kind (texts.source c.args.tokens.now c.args.tables.now) (c.args.upto - 1)) ≡ false = cc in
    none_by_last s c.args.from c.args.upto last
