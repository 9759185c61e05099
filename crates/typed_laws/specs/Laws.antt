-- Laws of failures and types.
use Rattle.std.specs.Prelude.{◌≡◌, List, Option, Some, None, IsSome}
use Rattle.sts_base.specs.declared.tables.Tables.{Tables}
use Rattle.sts_syntax.specs.Trees.{Tree}
use Rattle.sts_syntax.specs.Programs.{Program}
use Rattle.sts_syntax.specs.TypedTrees.{TypedProgram}
use Rattle.sts_syntax.specs.WellTypedPrograms.{IsWellTyped, IsProgramWithinLimits}
use Rattle.sts_scope.specs.declared.kinds.StaticType.{StaticType}
use Rattle.sts_scope.specs.declared.known.Known.{Known}
use Rattle.sts_scope.specs.Entries.{Naming}
use Rattle.sts_scope.specs.Places.{NameScope}
use Rattle.type_derive.specs.declared.roles.Role.{Role}
use Rattle.type_derive.specs.declared.roles.Role.TheVariants.{Free, Given, Called, Served}
use Rattle.type_derive.specs.Typing.{type_of}
use Rattle.type_derive.specs.Nodes.{failure}
use Rattle.typed_laws.specs.Formed.{IsFormedProgram}
use Rattle.type_derive.specs.Derived.{AreDerived}
use Rattle.typed_laws.specs.Accepted.{IsAccepted, typed, text_failure}
use Rattle.typed_laws.specs.Libraries.{IsLibrary}
use Rattle.typed_laws.specs.OwnFunctions.{FunctionsAreDeclared}

-- a place that reads what stands there
abbrev pub IsRead : Role → Type 0
IsRead Free = Unit {0}
IsRead Given = Unit {0}
IsRead Called = ⊥
IsRead Served = ⊥

-- an expression without a failure has a type, where it is read
abbrev pub HasTypes : Type 0
HasTypes =
    (tables : Tables) (names : Naming) (k : Known) (p : NameScope) (r : Role) (e : Tree) → IsRead r
    → failure tables names k p r e ≡ None → IsSome (type_of tables k p r e)

-- The typed program of an accepted text is well typed and within the counted limits, where the text has a tree as the grammar gives it, behind a library of functions
-- that have no failure.
abbrev pub AcceptedIsWellTyped : Type 0
AcceptedIsWellTyped = (tables : Tables) (library text : Program) (P : TypedProgram) → IsFormedProgram text
    → ((kinds : List (Option StaticType)) → AreDerived tables library text kinds → IsLibrary tables library text kinds)
    → IsAccepted tables library text P → IsWellTyped P × IsProgramWithinLimits P tables.texts

-- In the typed program of a text without a failure, with the types that its declarations have, the function at the number of a declaration is the typed function of this declaration.
abbrev pub FunctionsAreTheirs : Type 0
FunctionsAreTheirs =
    (tables : Tables) (library text : Program) (kinds : List (Option StaticType)) (P : TypedProgram)
    → IsFormedProgram text → AreDerived tables library text kinds → IsLibrary tables library text kinds
    → text_failure tables library text kinds ≡ None → typed tables library text kinds ≡ Some P
    → FunctionsAreDeclared tables library text kinds P
