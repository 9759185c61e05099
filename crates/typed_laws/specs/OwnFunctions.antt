-- Which functions of a typed program are those of a declaration.
use Rattle.std.specs.Prelude.{◌≡◌, ℕ, suc, Bool, true, false, nat_lt, Option, Some, None, List, [], ◌∷◌, ◌++◌, length, slice_get}
use Rattle.sts_base.specs.declared.tables.Tables.{Tables}
use Rattle.sts_syntax.specs.TypedTrees.{TypedStatements, TypedRoutine, TypedProgram}
use Rattle.sts_syntax.specs.TypeRules.{HasRoutine}
use Rattle.sts_syntax.specs.Trees.{Statement, Let, Declarations, ended, next, Routine}
use Rattle.sts_syntax.specs.Programs.{ClassMember, Field, Method, Constructor, TopLevel, Class, Function, Main, Program}
use Rattle.sts_scope.specs.declared.kinds.StaticType.{StaticType}
use Rattle.sts_scope.specs.declared.entries.Owner.{Owner}
use Rattle.sts_scope.specs.declared.entries.Owner.TheVariants as o
use Rattle.sts_scope.specs.declared.entries.DeclarationKind.{DeclarationKind}
use Rattle.sts_scope.specs.declared.entries.DeclarationKind.TheVariants as sort
use Rattle.sts_scope.specs.declared.entries.Entry.{Entry}
use Rattle.sts_scope.specs.declared.known.Known.{Known}
use Rattle.sts_scope.specs.Entries.{Naming, routine_entry}
use Rattle.sts_scope.specs.Handlers.{all_routines}
use Rattle.sts_scope.specs.Numbers.{Numbering, numbering, routine_number}
use Rattle.sts_scope.specs.Rules.{kind_at}
use Rattle.sts_scope.specs.Scopes.{all_names, library_classes}
use Rattle.type_derive.specs.Derived.{known}
use Rattle.typed_laws.specs.Accepted.{main_routine}
use Rattle.type_derive.specs.Functions.{function_made, method_made}
use Rattle.typed_laws.specs.Programs.{items_made}
use Rattle.type_derive.specs.Making.{Made}

-- What each declaration of a program does, in text order: a function and a method have their statements, a class, a field and a global have none.
abbrev pub global_routines : Declarations → List (Option Routine)
global_routines ended = []
global_routines (next a rest) = None ∷ global_routines rest

abbrev pub main_routines : Statement → List (Option Routine)
main_routines (Let at fixed each) = global_routines each
main_routines _ = []

abbrev pub own_routines : List ClassMember → List (Option Routine)
own_routines [] = []
own_routines (Field a ∷ rest) = None ∷ own_routines rest
own_routines (Method x r ∷ rest) = Some r ∷ own_routines rest
own_routines (Constructor r ∷ rest) = own_routines rest

abbrev pub routines_in : TopLevel → List (Option Routine)
routines_in (Class at x base base_at members) = None ∷ own_routines members
routines_in (Function x r) = Some r ∷ []
routines_in (Main a) = main_routines a

abbrev pub declared_routines : Program → List (Option Routine)
declared_routines [] = []
declared_routines (i ∷ rest) = routines_in i ++ declared_routines rest

-- these functions stand in a program one behind the other, from a number on
abbrev pub StandFrom : TypedProgram → ℕ → List TypedRoutine → Type 0
StandFrom P n [] = Unit {0}
StandFrom P n (r ∷ rest) = HasRoutine P n r × StandFrom P (suc n) rest

-- The typed function of a routine that is the whole text's or a class's, and behind it those of the function expressions in it. The library's know the library's names alone.
abbrev pub own_functions : Tables → Naming → Known → Numbering → Owner → (library : Bool) → ℕ → Option StaticType
    → Routine → Option (List TypedRoutine)
own_functions tables names k numbers o.Whole library n result r =
    function_made tables names k numbers library n result r
own_functions tables names k numbers (o.Class c) library n result r = method_made tables names k numbers c n result r

abbrev pub is_function_or_method : DeclarationKind → Bool
is_function_or_method sort.Function = true
is_function_or_method sort.Method = true
is_function_or_method _ = false

-- A declaration without a routine is no function and no method. With one it is this routine's, by its place and what it takes; and at the declaration's number stands the
-- typed function of the routine.
abbrev pub HasItsFunction : Tables → Naming → Known → Numbering → TypedProgram → (library : Bool) → (d : ℕ) → Entry
    → (n : ℕ) → Option Routine → Type 0
HasItsFunction tables names k numbers P library d a n None = is_function_or_method a.sort ≡ false
HasItsFunction tables names k numbers P library d a n (Some r) =
    (a ≡ routine_entry names a.owner a.name a.sort r) × (own : List TypedRoutine)
    × (own_functions tables names k numbers a.owner library n (kind_at k d) r ≡ Some own) × StandFrom P n own

-- In the typed program of a text behind a library each declaration has its function, and the main program is the last one.
pub record FunctionsAreDeclared (tables : Tables) (library text : Program)
    (kinds : List (Option StaticType)) (P : TypedProgram) : Type 0 where
  pub as_many : length (declared_routines (library ++ text)) ≡ length (known library text kinds).entries
  pub each : (d : ℕ) (a : Entry) (does : Option Routine) → slice_get (known library text kinds).entries d ≡ Some a
      → slice_get (declared_routines (library ++ text)) d ≡ Some does
      → HasItsFunction tables (all_names library text) (known library text kinds) (numbering (library ++ text))
      P (nat_lt d (known library text kinds).library) d a (routine_number (numbering (library ++ text)) d) does
  pub last : P.main ≡ all_routines (library ++ text)
  pub made : Made TypedStatements
  pub made_of : items_made tables (all_names library text) (known library text kinds) (numbering (library ++ text))
      (library_classes library text) (known library text kinds).library 0 (all_routines library) text ≡ Some made
  pub main : HasRoutine P (all_routines (library ++ text)) (main_routine made)
