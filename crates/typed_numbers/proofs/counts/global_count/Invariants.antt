use Rattle.std.proofs.Common.{◌≡◌, ◌≤◌, ◌+◌, drop, length}
use Rattle.sts_scope.specs.Scopes.{is_global, names_of}
use Rattle.typed_numbers.proofs.counts.global_count.Given as goal

-- what is counted, and what is left to count, is the whole
abbrev pub invariant-loop-entry : goal.invariant-loop-entry
invariant-loop-entry l = record {
  all : l.count + length (names_of is_global (drop l.entry-index l.entries)) ≡ length (names_of is_global l.entries);
  few : l.count ≤ l.entry-index;
}
