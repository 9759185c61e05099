-- What can be built.
use Rattle.std.specs.Prelude.{ℕ, ◌<◌, List, length}
use Rattle.std.specs.List.{AllByRecursion}
use Rattle.sts_syntax.specs.TypedTrees.{TypedProgram}
use Rattle.sts_syntax.specs.Nodes.{NamesTexts}
use Rattle.sts_syntax.specs.WellTypedPrograms.{IsWellTyped, IsProgramWithinLimits}

-- what is asked of a program with its texts: it is well typed, within the limits, and names only texts that are there, which are bytes
pub record IsBuildable (P : TypedProgram) (texts : List (List ℕ)) : Type 0 where
  pub typed : IsWellTyped P
  pub limits : IsProgramWithinLimits P texts
  pub named : NamesTexts (length texts) P
  pub bytes : AllByRecursion (AllByRecursion (λ b. b < 256)) texts
