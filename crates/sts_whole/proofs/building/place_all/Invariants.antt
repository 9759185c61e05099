use Rattle.std.proofs.Common.{◌≡◌, ◌++◌, drop, map}
use Rattle.std.specs.List.{AllByRecursion}
use Rattle.sts_whole.specs.Building.{IsPlaceable, HasSoundPlaces}
use Rattle.sts_whole.specs.Compiled.{functions_of, with_chosen_places}
use Rattle.sts_whole.proofs.building.place_all.Given as goal

abbrev pub invariant-loop-function : goal.invariant-loop-function
invariant-loop-function l = record {
  all : functions_of l.all.items ++ drop l.function-index l.functions ≡ l.functions;
  sound : AllByRecursion HasSoundPlaces l.all.items;
  chosen : l.all.items ++ map with_chosen_places (drop l.function-index l.functions) ≡ map with_chosen_places l.functions;
  placeable : AllByRecursion IsPlaceable (drop l.function-index l.functions);
}
