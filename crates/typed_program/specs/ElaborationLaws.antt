-- The law of elaborated texts: the text fails by its first failure, and where there is none it becomes the program that
-- is made of it.
use Rattle.std.specs.Prelude.{◌≡◌, ◌↔◌, ℕ, Some, None, List, Ok, Err}
use Rattle.sts_base.specs.declared.tables.Tables.{Tables}
use Rattle.sts_lexer.specs.declared.token.Token.{Token}
use Rattle.sts_syntax.specs.Programs.{Program}
use Rattle.sts_syntax.specs.TypedTrees.{TypedProgram}
use Rattle.sts_scope.specs.Failures.{Failure}
use Rattle.type_derive.specs.Derived.{AreDerived, TypeTable}
use Rattle.typed_laws.specs.Accepted.{typed, refusal, IsAccepted, IsRefused}
use Rattle.typed_laws.specs.Libraries.{IsLibrary}
use Rattle.typed_program.specs.Accepting.{ReadsText}
use Rattle.typed_program.specs.ElaboratedTexts.{elab_text, BecomesProgram, FailsBy}

pub record AgreesOnText (tables : Tables) (library text : Program) (kinds : TypeTable) : Type 0 where
  pub fails : (f : Failure) → (elab_text tables library text kinds ≡ Err f) ↔ (refusal tables library text kinds ≡ Some f)
  pub gives : (P : TypedProgram) → (elab_text tables library text kinds ≡ Ok P)
      ↔ ((refusal tables library text kinds ≡ None) × (typed tables library text kinds ≡ Some P))

abbrev pub ElaborationAgreesOnTexts : Type 0
ElaborationAgreesOnTexts =
    (tables : Tables) (library text : Program) (kinds : TypeTable) → AreDerived tables library text kinds
    → IsLibrary tables library text kinds → AgreesOnText tables library text kinds

-- After the library of the prelude a text becomes the program that is made of it, and it fails by its first failure.
pub record AgreesOnReadTexts : Type 0 where
  pub becomes : (text : List ℕ) (tables : Tables) (library : Program) (tokens : List Token) (program : Program)
      (P : TypedProgram) → ReadsText text tables library tokens
      → BecomesProgram tables library program P ↔ IsAccepted tables library program P
  pub fails : (text : List ℕ) (tables : Tables) (library : Program) (tokens : List Token) (program : Program)
      (f : Failure) → ReadsText text tables library tokens
      → FailsBy tables library program f ↔ IsRefused tables library program f
