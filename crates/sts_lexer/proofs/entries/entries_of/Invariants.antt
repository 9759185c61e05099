use Rattle.std.proofs.Common.{take}
use Rattle.sts_lexer.specs.Entries.{Indexes}
use Rattle.sts_lexer.proofs.entries.entries_of.Given as goal

abbrev pub invariant-loop-entry : goal.invariant-loop-entry
invariant-loop-entry l = Indexes l.entries (take l.entry l.strings)
