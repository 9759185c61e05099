use Rattle.std.proofs.Common.{◌≡◌, ◌-◌, length}
use Rattle.sts_scope.specs.Lookup as look
use Rattle.sts_scope.proofs.symbol_table.SymbolTable.member.Given as goal

abbrev pub invariant-loop : goal.invariant-loop
invariant-loop l = look.member_from l.self l.classes (length l.classes - l.counter) l.at l.x ≡ look.member_number l.self l.classes l.initial.at l.x
