use Rattle.std.proofs.Common.{◌≡◌, ◌≤◌, ◌+◌, ◌-◌, ◌^◌, drop}
use Rattle.std.specs.Prelude.{min}
use Rattle.sts_syntax.specs.Views.{trees, declarations, statements}
use Rattle.sts_scope.specs.Handlers as h
use Rattle.typed_numbers.proofs.handler_counts.+handlers.Given as goal

-- what is counted, and what is left to count, is the whole, up to the last number
abbrev pub invariant-handlers_of-loop-e : goal.invariant-handlers_of-loop-e
invariant-handlers_of-loop-e l = record {
  all : min (l.count + h.handlers_of (trees (drop l.e-index l.all))) (2 ^ 32 - 1) ≡ min (l.from + h.handlers_of (trees l.all)) (2 ^ 32 - 1);
  few : l.count ≤ 2 ^ 32 - 1;
}

abbrev pub invariant-declarations_handlers-loop-a : goal.invariant-declarations_handlers-loop-a
invariant-declarations_handlers-loop-a l = record {
  all : min (l.count + h.declarations_handlers (declarations (drop l.a-index l.all))) (2 ^ 32 - 1) ≡ min (l.from + h.declarations_handlers (declarations l.all)) (2 ^ 32 - 1);
  few : l.count ≤ 2 ^ 32 - 1;
}

abbrev pub invariant-statements_handlers-loop-s : goal.invariant-statements_handlers-loop-s
invariant-statements_handlers-loop-s l = record {
  all : min (l.count + h.statements_handlers (statements (drop l.s-index l.all))) (2 ^ 32 - 1) ≡ min (l.from + h.statements_handlers (statements l.all)) (2 ^ 32 - 1);
  few : l.count ≤ 2 ^ 32 - 1;
}
