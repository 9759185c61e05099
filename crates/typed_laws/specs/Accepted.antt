-- What `check` answers: the typed program of a text without a failure, else its first failure.
use Rattle.std.specs.Prelude.{◌≡◌, ℕ, ◌+◌, Option, Some, None, List, [], ◌∷◌, ◌++◌, length}
use Rattle.sts_base.specs.declared.refused.Code.TheVariants.{OverLimit}
use Rattle.sts_base.specs.declared.tables.Tables.{Tables}
use Rattle.sts_syntax.specs.Programs.{Program}
use Rattle.sts_syntax.specs.TypedTrees.{TypedProgram}
use Rattle.sts_syntax.specs.TypedTrees as e
use Rattle.sts_syntax.specs.Types as t
use Rattle.sts_scope.specs.Failures.{Failure, ◌then◌, unless}
use Rattle.sts_scope.specs.Handlers.{all_routines}
use Rattle.sts_scope.specs.Numbers.{numbering}
use Rattle.sts_scope.specs.Scopes.{all_names, library_classes, heading_refusal}
use Rattle.typed_limits.specs.Limits.{program_fits}
use Rattle.type_derive.specs.Typing.{◌>>=◌}
use Rattle.type_derive.specs.Derived.{TypeTable, known, AreDerived}
use Rattle.type_derive.specs.Passes.{all_overrides, nodes_failure}
use Rattle.type_derive.specs.Making.{Made}
use Rattle.typed_laws.specs.Programs.{items_made, library_made, class_entries, global_types}

-- The typed program, where all is there that is looked for: the library's functions, then those of the text, the main program last.
abbrev pub main_routine : Made e.TypedStatements → e.TypedRoutine
main_routine made = record { params = []; locals = made.locals; gives = t.Nothing; all = made.it }

abbrev pub typed : Tables → Program → Program → TypeTable → Option TypedProgram
typed tables library text kinds =
    let names = all_names library text in
    let k = known library text kinds in
    let numbers = numbering (library ++ text) in
    library_made tables names k numbers 0 0 library
    >>= λ first. items_made tables names k numbers (library_classes library text) k.library 0 (all_routines library) text
    >>= λ made. class_entries k numbers 0 k.classes
    >>= λ classes. global_types k 0 k.entries >>= λ globals. Some (record {
      classes = classes;
      functions = first ++ made.routines ++ main_routine made ∷ [];
      globals = globals;
      main = length first + length made.routines;
    })

-- the first failure of headings, overriding methods and nodes
abbrev pub text_failure : Tables → Program → Program → TypeTable → Option Failure
text_failure tables library text kinds =
    let names = all_names library text in
    let k = known library text kinds in
    let c = library_classes library text in
    heading_refusal tables.names library text then all_overrides k names c k.library text
    then nodes_failure tables names k c k.library text

-- a counted limit that is passed has no place of its own
abbrev pub limits_failure : List (List ℕ) → TypedProgram → Option Failure
limits_failure texts p = unless (program_fits texts p) OverLimit 0

-- the first failure of a text: the counted limits are those of its typed program
abbrev pub refusal : Tables → Program → Program → TypeTable → Option Failure
refusal tables library text kinds =
    text_failure tables library text kinds
    then (typed tables library text kinds >>= λ p. limits_failure tables.texts p)

-- a text is accepted, as this typed program
abbrev pub IsAccepted : Tables → Program → Program → TypedProgram → Type 0
IsAccepted tables library text p =
    (kinds : TypeTable) × AreDerived tables library text kinds
    × (refusal tables library text kinds ≡ None) × (typed tables library text kinds ≡ Some p)

-- a text is refused, with this failure
abbrev pub IsRefused : Tables → Program → Program → Failure → Type 0
IsRefused tables library text f =
    (kinds : TypeTable) × AreDerived tables library text kinds
    × (refusal tables library text kinds ≡ Some f)
