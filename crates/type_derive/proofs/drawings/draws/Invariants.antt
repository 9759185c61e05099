use Rattle.std.proofs.Common.{◌≡◌, ◌+◌, ◌≤◌, drop, length}
use Rattle.std.specs.Prelude.{◌&&◌}
use Rattle.std.specs.List.{list_all}
use Rattle.type_derive.specs.Typing as typing
use Rattle.type_derive.proofs.drawings.draws.Given as goal

abbrev pub invariant-loop-i : goal.invariant-loop-i
invariant-loop-i l = record {
  few : l.count ≤ l.i;
  many : l.count + length (typing.drawn (drop l.i l.bytes)) ≡ length (typing.drawn l.bytes);
  all : (l.fits && list_all typing.is_dot_or_hash (typing.drawn (drop l.i l.bytes))) ≡ list_all typing.is_dot_or_hash (typing.drawn l.bytes);
}
