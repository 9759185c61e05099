-- Behind the library of the prelude what is filled in is what is typed.
use Rattle.std.proofs.Common.{◌≡◌, ℕ, List, ◌++◌, Option, Some, None, refl, sym, ap, ◌∙◌, subst}
use Rattle.sts_base.specs.declared.tables.Tables.{Tables}
use Rattle.sts_lexer.specs.declared.token.Token.{Token}
use Rattle.sts_prelude.specs.Library as l
use Rattle.sts_scope.specs.Failures.{Failure, ◌then◌}
use Rattle.sts_syntax.specs.Programs.{Program}
use Rattle.sts_syntax.specs.TypedTrees.{TypedProgram}
use Rattle.type_derive.specs.Derived.{AreDerived, TypeTable}
use Rattle.typed_laws.specs.Accepted.{text_failure, limits_failure}
use Rattle.typed_laws.specs.Libraries.{IsLibrary}
use Rattle.typed_laws.specs.inner.FilledTexts.{filled_program, filled_refusal, IsFilled, IsUnfilled}
use Rattle.typed_laws.specs.BuiltTexts.{TextsAreBuilt, RefusalsAreFound}
use Rattle.typed_laws.specs.LibraryLaws.{first, PreludeIsLibrary, LibraryLeavesFirst}
use Rattle.typed_program.specs.Accepting.{ReadsText}
use Rattle.typed_program.specs.Checking.{FilledIsTyped}
use Rattle.typed_program.specs.ElaborationLaws.{AgreesOnReadTexts}
use Rattle.typed_program.proofs.LibraryBehind.{Behind, behind, begin}

pub first_none : (x y : Option Failure) → (x then y) ≡ None → x ≡ None
first_none None y h = refl
first_none (Some f) y h = h

-- what stands before a text that is read is a library
pub library_before : LibraryLeavesFirst → PreludeIsLibrary → (text : List ℕ) (tables : Tables) (library : Program) (tokens : List Token) → ReadsText text tables library tokens
    → (program : Program) (kinds : TypeTable) → AreDerived tables library program kinds → IsLibrary tables library program kinds
library_before leaves prelude text tables library tokens read program kinds derived =
    let b : Behind text tables library tokens = behind leaves text tables library tokens read in
    let names = b.read.more_names in
    let texts = b.read.more_texts in
    let whole : tables ≡ record { names = first.names ++ names.0; texts = first.texts ++ texts.0 } = begin tables names texts in
    let L : Program = l.library b.own in
    let Goes : Tables → Program → Type 0 = λ t p. AreDerived t p program kinds → IsLibrary t p program kinds in
    let own : Goes (record { names = first.names ++ names.0; texts = first.texts ++ texts.0 }) L = λ d. prelude b.own names.0 texts.0 program kinds b.first_names b.first_texts b.own_read d in
    let here : Goes tables library = subst (λ (p : Program). Goes tables p) (sym b.library_is) (subst (λ (t : Tables). Goes t L) (sym whole) own) in
    here derived

pub filled_typed : LibraryLeavesFirst → PreludeIsLibrary → TextsAreBuilt → RefusalsAreFound → AgreesOnReadTexts → FilledIsTyped
filled_typed leaves prelude built found agree = record {
  accepted = λ text tables library tokens program P read h.
      let (kinds, derived, none, is) = h in
      let ok = library_before leaves prelude text tables library tokens read program kinds derived in
      let no_failure : text_failure tables library program kinds ≡ None = first_none (text_failure tables library program kinds) (limits_failure tables.texts (filled_program tables library program kinds)) none in
      (agree.becomes text tables library tokens program P read).1 (kinds, derived, found tables library program kinds derived ok ∙ none, built tables library program kinds derived ok no_failure ∙ ap (λ (p : TypedProgram). Some p) (sym is));
  refused = λ text tables library tokens program f read h.
      let (kinds, derived, is) = h in
      let ok = library_before leaves prelude text tables library tokens read program kinds derived in
      (agree.fails text tables library tokens program f read).1 (kinds, derived, found tables library program kinds derived ok ∙ is);
}
