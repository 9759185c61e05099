use Rattle.std.proofs.Common.{◌≡◌, ◌++◌, map, drop}
use Rattle.std.specs.List.{AllByRecursion}
use Rattle.thumb_layout.specs.Cells.{laid}
use Rattle.sts_whole.specs.Building.{IsLayable}
use Rattle.sts_whole.specs.Compiled.{bodies_of}
use Rattle.sts_whole.proofs.building.lay_all.Given as goal

abbrev pub invariant-loop-function : goal.invariant-loop-function
invariant-loop-function l = record {
  all : l.all ++ map laid (bodies_of (drop l.function-index l.placed)) ≡ map laid (bodies_of l.placed);
  layable : AllByRecursion IsLayable (drop l.function-index l.placed);
}
