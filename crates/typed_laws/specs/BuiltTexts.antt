-- A text without a failure is built, and it is what is filled in.
use Rattle.std.specs.Prelude.{◌≡◌, Some, None}
use Rattle.sts_base.specs.declared.tables.Tables.{Tables}
use Rattle.sts_syntax.specs.Programs.{Program}
use Rattle.type_derive.specs.Derived.{AreDerived, TypeTable}
use Rattle.typed_laws.specs.Accepted.{typed, text_failure, refusal}
use Rattle.typed_laws.specs.Libraries.{IsLibrary}
use Rattle.typed_laws.specs.inner.FilledTexts.{filled_program, filled_refusal}

-- Behind a library a text without a failure of headings, overriding methods and nodes has a typed program, whether or not it passes a counted limit: the filled one.
abbrev pub TextsAreBuilt : Type 0
TextsAreBuilt =
    (tables : Tables) (library text : Program) (kinds : TypeTable) → AreDerived tables library text kinds
    → IsLibrary tables library text kinds → text_failure tables library text kinds ≡ None
    → typed tables library text kinds ≡ Some (filled_program tables library text kinds)

-- A text's first failure is the one that is found where the program is filled.
abbrev pub RefusalsAreFound : Type 0
RefusalsAreFound =
    (tables : Tables) (library text : Program) (kinds : TypeTable) → AreDerived tables library text kinds
    → IsLibrary tables library text kinds
    → refusal tables library text kinds ≡ filled_refusal tables library text kinds
