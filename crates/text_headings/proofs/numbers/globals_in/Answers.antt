use Rattle.std.proofs.Common.{sym, ◌∙◌}
use Rattle.sts_scope.proofs.Laws.{let_count}
use Rattle.text_headings.proofs.numbers.globals_in.Goals as goal

pub returns-in-Let : goal.returns-in-Let
returns-in-Let c = c.len.ensures ∙ sym (let_count c.args.s.now c.in-Let.fixed c.in-Let.each c.in-Let.is)
