-- What the code builds of any text, and with what failure it refuses it: the filled program stands for the typed one.
use Rattle.std.specs.Prelude.{◌≡◌, ◌+◌, Option, Some, None, [], ◌∷◌, ◌++◌, length}
use Rattle.sts_base.specs.declared.tables.Tables.{Tables}
use Rattle.sts_syntax.specs.Programs.{Program}
use Rattle.sts_syntax.specs.TypedTrees.{TypedProgram}
use Rattle.sts_scope.specs.Failures.{Failure, ◌then◌}
use Rattle.sts_scope.specs.Handlers.{all_routines}
use Rattle.sts_scope.specs.Numbers.{numbering}
use Rattle.sts_scope.specs.Scopes.{all_names, library_classes}
use Rattle.type_derive.specs.Derived.{known, AreDerived, TypeTable}
use Rattle.typed_laws.specs.Accepted.{main_routine, text_failure, limits_failure}
use Rattle.typed_laws.specs.inner.FilledPrograms.{items_made, library_made, class_entries, global_types}

abbrev pub filled_program : Tables → Program → Program → TypeTable → TypedProgram
filled_program tables library text kinds =
    let names = all_names library text in
    let k = known library text kinds in
    let numbers = numbering (library ++ text) in
    let first = library_made tables names k numbers 0 0 library in
    let made = items_made tables names k numbers (library_classes library text) k.library 0 (all_routines library) text
    in
    record {
      classes = class_entries tables names k numbers 0 k.classes;
      functions = first ++ made.routines ++ main_routine made ∷ [];
      globals = global_types tables names k numbers 0 k.entries;
      main = length first + length made.routines;
    }

-- the first failure of all passes, where the counted limits are those of the filled program
abbrev pub filled_refusal : Tables → Program → Program → TypeTable → Option Failure
filled_refusal tables library text kinds =
    text_failure tables library text kinds then limits_failure tables.texts (filled_program tables library text kinds)

-- a text is accepted, as this filled program
abbrev pub IsFilled : Tables → Program → Program → TypedProgram → Type 0
IsFilled tables library text p =
    (kinds : TypeTable) × AreDerived tables library text kinds
    × (filled_refusal tables library text kinds ≡ None) × (p ≡ filled_program tables library text kinds)

-- a text is refused, with this failure
abbrev pub IsUnfilled : Tables → Program → Program → Failure → Type 0
IsUnfilled tables library text f =
    (kinds : TypeTable) × AreDerived tables library text kinds
    × (filled_refusal tables library text kinds ≡ Some f)
