use Rattle.std.proofs.Common.{rules, [], length}
use Rattle.sts_grammar.specs.Limits.{part_nesting}
use Rattle.sts_grammar.specs.Texts.{source}
use Rattle.sts_grammar.specs.ReadUnits.{read_parts}
use Rattle.sts_syntax.specs.Programs.{top_levels}
use Rattle.parse_unit.proofs.Programs.{what_is_read, nothing_is_read, syntax_none}
use Rattle.parse_unit.proofs.whole.parse.Goals as goal

pub returns-in-Ok : goal.returns-in-Ok
returns-in-Ok c = (search rules, what_is_read (source c.args.tokens.now c.args.tables.now) (top_levels c.in-Ok.items) c.in-Ok.ensures)

pub returns-in-Err-Syntax : goal.returns-in-Err-Syntax
returns-in-Err-Syntax c = (search rules, nothing_is_read (source c.args.tokens.now c.args.tables.now) (syntax_none c.in-Err-Syntax.field-0 c.in-Err-Syntax.at (read_parts (source c.args.tokens.now c.args.tables.now) part_nesting (length c.args.tokens.now) [] 0) c.in-Err-Syntax.field-0-is c.in-Err-Syntax.ensures), c.place_of.ensures)
