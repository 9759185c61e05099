-- The typed program of an accepted text can be built.
use Rattle.std.proofs.Common.{◌≡◌, ◌≤◌, ℕ, zero, suc, List, length, take, Option, Some, None, All, sym, ◌∙◌, subst, arith}
use Rattle.std.proofs.lemmas.Option.{same_Some}
use Rattle.sts_base.specs.declared.tables.Tables.{Tables}
use Rattle.sts_lexer.specs.Laws.{SpellingsStay}
use Rattle.sts_lexer.specs.Tokens.{IsTokenization}
use Rattle.sts_syntax.specs.BoardTable.{library_size}
use Rattle.sts_syntax.specs.Nodes.{NamesTexts}
use Rattle.sts_syntax.specs.Programs.{Program}
use Rattle.sts_syntax.specs.TypedTrees.{TypedProgram}
use Rattle.sts_syntax.specs.Weights.{routines_weight}
use Rattle.sts_scope.specs.declared.kinds.StaticType.{StaticType}
use Rattle.type_derive.specs.Derived.{AreDerived}
use Rattle.typed_laws.specs.Accepted.{IsAccepted, text_failure, typed, limits_failure}
use Rattle.typed_laws.specs.inner.FilledTexts.{filled_program}
use Rattle.typed_laws.specs.Libraries.{IsLibrary}
use Rattle.typed_laws.specs.Formed.{TextsBelow}
use Rattle.sts_prelude.specs.Library as l
use Rattle.sts_prelude.specs.Spelled.{TextSpellsLibrary}
use Rattle.sts_prelude.specs.declared.text.TheConstants.{LIBRARY}
use Rattle.typed_laws.proofs.Laws.{program_formed, program_texts_below, typed_names}
use Rattle.typed_laws.specs.LibraryLaws.{first, PreludeIsLibrary, LibraryLeavesFirst, TypedLibraryIsLight}
use Rattle.typed_laws.specs.Laws.{AcceptedIsWellTyped}
use Rattle.typed_laws.specs.BuiltTexts.{TextsAreBuilt}
use Rattle.sts_scope.specs.Failures.{Failure}
use Rattle.type_derive.specs.Typing.{◌>>=◌}
use Rattle.typed_program.proofs.FilledTexts.{first_none}
use Rattle.typed_program.specs.Accepting.{Accepts}
use Rattle.typed_program.specs.ElaborationLaws.{AgreesOnReadTexts}
use Rattle.typed_laws.specs.Buildable.{IsBuildable}
use Rattle.typed_program.proofs.LibraryBehind.{Behind, behind, begin}
use Rattle.typed_program.proofs.TextBytes.{Bytes, texts_are_bytes}

-- the laws below
pub record Laws : Type 0 where
  pub stay : SpellingsStay
  pub spells : TextSpellsLibrary
  pub leaves : LibraryLeavesFirst
  pub prelude : PreludeIsLibrary
  pub light : TypedLibraryIsLight
  pub built : TextsAreBuilt
  pub well_typed : AcceptedIsWellTyped
  pub elaborated : AgreesOnReadTexts

line_end : All Bytes first.texts
line_end zero d h = (omega arith, (omega arith, tt))
line_end (suc n) d h = absurd (omega (arith, h))

abbrev IsLight : Tables → Program → Program → Type 0
IsLight tables library text = (kinds : List (Option StaticType)) → AreDerived tables library text kinds → routines_weight (take library_size (filled_program tables library text kinds).functions) ≤ 600

abbrev IsLibraryBefore : Tables → Program → Program → Type 0
IsLibraryBefore tables library text = (kinds : List (Option StaticType)) → AreDerived tables library text kinds → IsLibrary tables library text kinds

pub buildable : Laws → (text : List ℕ) (tables : Tables) (P : TypedProgram) → Accepts text tables P → IsBuildable P tables.texts × (routines_weight (take library_size P.functions) ≤ 600)
buildable laws text tables P h =
    let b : Behind text tables h.library h.tokens = behind laws.leaves text tables h.library h.tokens h.read in
    let L : Program = l.library b.own in
    let accepted : IsAccepted tables L h.program P = subst (λ (p : Program). IsAccepted tables p h.program P) b.library_is ((laws.elaborated.becomes text tables h.library h.tokens h.program P h.read).0 h.accepted) in
    let names = b.read.more_names in
    let texts = b.read.more_texts in
    let whole = begin tables names texts in
    let before : IsLibraryBefore tables L h.program =
    subst (λ (t : Tables). IsLibraryBefore t L h.program) (sym whole) (λ kinds derived. laws.prelude b.own names.0 texts.0 h.program kinds b.first_names b.first_texts b.own_read derived) in
    let light : IsLight tables L h.program =
    subst (λ (t : Tables). IsLight t L h.program) (sym whole) (λ kinds derived. laws.light b.own names.0 texts.0 h.program kinds b.first_names b.first_texts b.own_read derived) in
    let own : IsTokenization tables LIBRARY.now b.own = laws.stay.tokens first tables LIBRARY.now b.own names texts b.own_read in
    let library_below : TextsBelow (length tables.texts) L =
    program_texts_below tables LIBRARY.now b.own L own (laws.spells.spelled tables b.own b.read.names b.read.texts own) in
    let text_below : TextsBelow (length tables.texts) h.program = program_texts_below tables text h.tokens h.program b.read.tokens h.spelled in
    let sound = laws.well_typed tables L h.program P (program_formed tables text h.tokens h.program b.read.tokens h.spelled) before accepted in
    let limits : Option TypedProgram → Option Failure = λ z. z >>= λ p. limits_failure tables.texts p in
    let none : text_failure tables L h.program accepted.0 ≡ None = first_none (text_failure tables L h.program accepted.0) (limits (typed tables L h.program accepted.0)) accepted.2 in
    let is : P ≡ filled_program tables L h.program accepted.0 = same_Some P (filled_program tables L h.program accepted.0) (sym accepted.3 ∙ laws.built tables L h.program accepted.0 accepted.1 (before accepted.0 accepted.1) none) in (
      record {
        typed = sound.0;
        limits = sound.1;
        named = subst (λ (p : TypedProgram). NamesTexts (length tables.texts) p) (sym is) (typed_names (length tables.texts) tables L h.program accepted.0 library_below text_below);
        bytes = texts_are_bytes text tables h.tokens first.texts b.read.tokens b.read.in_order.texts texts line_end;
      },
      subst (λ (p : TypedProgram). routines_weight (take library_size p.functions) ≤ 600) (sym is) (light accepted.0 accepted.1),
    )
