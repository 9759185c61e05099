-- The definitions of functions and methods, over what the builder knows.
use Rattle.std.specs.Prelude.{ℕ, Bool, Option, List}
use Rattle.sts_syntax.specs.Types.{ValueType}
use Rattle.sts_syntax.specs.Trees.{Parameter, Routine}
use Rattle.sts_syntax.specs.TypedTrees.{TypedStatements, TypedRoutine}
use Rattle.sts_scope.specs.declared.kinds.StaticType.{StaticType}
use Rattle.sts_scope.specs.declared.known.This.{This}
use Rattle.type_derive.specs.inner.Filled as b
use Rattle.type_derive.specs.Making.{Made}
use Rattle.type_derive.specs.inner.Filling.{Making}
use Rattle.typed_numbers.specs.Building.{numbering_of}
use Rattle.typed_trees.specs.declared.build_places.Plan.{Plan}
use Rattle.typed_trees.specs.Sites.{naming}

abbrev pub class_result : Plan → Option StaticType → ValueType
class_result l = b.class_result l.tables.now (naming l) l.known.now (numbering_of l.numbers.now)

abbrev pub function_made : Plan → Bool → ℕ → Option StaticType → Routine → List TypedRoutine
function_made l = b.function_made l.tables.now (naming l) l.known.now (numbering_of l.numbers.now)

abbrev pub method_made : Plan → ℕ → ℕ → Option StaticType → Routine → List TypedRoutine
method_made l = b.method_made l.tables.now (naming l) l.known.now (numbering_of l.numbers.now)

abbrev pub site_of : Plan → This → Option StaticType → Bool → ℕ → List Parameter → b.Site
site_of l = b.site l.tables.now (naming l) l.known.now (numbering_of l.numbers.now)

-- a function, whose statements are made so
abbrev pub routine : Plan → List ValueType → ValueType → Making TypedStatements → ℕ → Made TypedRoutine
routine l = b.routine l.tables.now (naming l) l.known.now (numbering_of l.numbers.now)
