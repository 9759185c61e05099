-- After the library of the prelude a text becomes what is made of it, and fails by its first failure.
use Rattle.std.proofs.Common.{List}
use Rattle.sts_base.specs.declared.tables.Tables.{Tables}
use Rattle.sts_lexer.specs.declared.token.Token.{Token}
use Rattle.sts_scope.specs.Failures.{Failure}
use Rattle.sts_syntax.specs.Programs.{Program}
use Rattle.type_derive.specs.Derived.{AreDerived, TypeTable}
use Rattle.typed_laws.specs.LibraryLaws.{PreludeIsLibrary, LibraryLeavesFirst}
use Rattle.typed_program.specs.Accepting.{ReadsText}
use Rattle.typed_program.specs.ElaborationLaws.{AgreesOnText, ElaborationAgreesOnTexts, AgreesOnReadTexts}
use Rattle.typed_program.proofs.FilledTexts.{library_before}

pub on_read : LibraryLeavesFirst → PreludeIsLibrary → ElaborationAgreesOnTexts → AgreesOnReadTexts
on_read leaves prelude agree = record {
  becomes = λ text tables library tokens program P read.
      let said : (kinds : TypeTable) → AreDerived tables library program kinds → AgreesOnText tables library program kinds =
      λ kinds derived. agree tables library program kinds derived (library_before leaves prelude text tables library tokens read program kinds derived) in (
        λ (kinds, derived, is). let (none, made) = ((said kinds derived).gives P).0 is in (kinds, derived, none, made),
        λ (kinds, derived, none, made). (kinds, derived, ((said kinds derived).gives P).1 (none, made)),
      );
  fails = λ text tables library tokens program f read.
      let said : (kinds : TypeTable) → AreDerived tables library program kinds → AgreesOnText tables library program kinds =
      λ kinds derived. agree tables library program kinds derived (library_before leaves prelude text tables library tokens read program kinds derived) in (
        λ (kinds, derived, is). (kinds, derived, ((said kinds derived).fails f).0 is),
        λ (kinds, derived, is). (kinds, derived, ((said kinds derived).fails f).1 is),
      );
}
