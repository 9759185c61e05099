use Rattle.std.proofs.Common.{◌≡◌, ◌+◌, ◌++◌, drop}
use Rattle.sts_syntax.specs.Programs.{top_levels}
use Rattle.sts_scope.specs.Handlers as h
use Rattle.sts_scope.specs.Numbers as number
use Rattle.typed_numbers.proofs.routine_numbers.Numbers.add_items.Given as goal

-- what is added, and what is left to add, is the whole
abbrev pub invariant-loop-item : goal.invariant-loop-item
invariant-loop-item l = record {
  routines : l.self.routines ++ number.numbers_from l.at (top_levels (drop l.item-index l.items)) ≡ l.initial.self.routines ++ number.numbers_from l.from (top_levels l.items);
  makers : l.self.makers ++ number.makers_from l.at (top_levels (drop l.item-index l.items)) ≡ l.initial.self.makers ++ number.makers_from l.from (top_levels l.items);
  behind : l.at + h.all_routines (top_levels (drop l.item-index l.items)) ≡ l.from + h.all_routines (top_levels l.items);
}
