use Rattle.std.proofs.Common.{◌≡◌, ◌+◌, ◌++◌, drop, length}
use Rattle.sts_scope.specs.Scopes.{is_global, names_of}
use Rattle.typed_numbers.specs.Building.{globals_from}
use Rattle.typed_numbers.proofs.member_names.globals_before.Given as goal

-- what is counted, and what is left to count, is the whole
abbrev pub invariant-loop-entry : goal.invariant-loop-entry
invariant-loop-entry l = record {
  all : l.all ++ globals_from l.count (drop l.entry-index l.entries) ≡ globals_from 0 l.entries;
  count : l.count + length (names_of is_global (drop l.entry-index l.entries)) ≡ length (names_of is_global l.entries);
}
