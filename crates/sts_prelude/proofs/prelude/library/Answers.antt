use Rattle.sts_prelude.proofs.Refusals.{never_refused, is_library}
use Rattle.sts_prelude.proofs.prelude.library.Goals as goal

pub unreachable-requires : goal.unreachable-requires
unreachable-requires c = never_refused c.in-Err-Program.field-0 c.in-Err-Program.field-0-0 c.in-Err-Program.field-0-1 c.in-Err-Program.field-0-is c.in-Err-Program.ensures.refused

pub returns-in-Ok-clause-library : goal.returns-in-Ok-clause-library
returns-in-Ok-clause-library c =
    is_library c.args.tables.now c.tokens.new.tables c.in-Ok.all c.library_of.result c.in-Ok.ensures.tokens c.in-Ok.ensures.in_order c.in-Ok.ensures.names_distinct
    c.in-Ok.ensures.texts_distinct c.library_of.ensures
