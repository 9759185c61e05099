-- The four parts together, and that the tokens of the library's text are those that were computed.
use Rattle.std.proofs.Common.{◌≡◌, ◌≤◌, ◌<◌, ℕ, take, List, ◌++◌, Option, refl, sym, ◌∙◌, subst, arith}
use Rattle.std.specs.Prelude.{IsSome}
use Rattle.sts_base.specs.Distinct.{IsDistinct}
use Rattle.sts_base.specs.declared.tables.Tables.{Tables}
use Rattle.sts_lexer.specs.Tokens.{IsTokenization}
use Rattle.sts_lexer.specs.declared.token.Token.{Token}
use Rattle.sts_syntax.specs.BoardTable.{library_size}
use Rattle.sts_syntax.specs.Programs.{Program}
use Rattle.sts_syntax.specs.Weights.{routines_weight}
use Rattle.sts_scope.specs.declared.kinds.StaticType.{StaticType}
use Rattle.sts_scope.specs.Rules.{kind_at}
use Rattle.type_derive.specs.Derived.{known, AreDerived}
use Rattle.typed_laws.specs.inner.FilledTexts.{filled_program}
use Rattle.typed_laws.specs.Libraries.{IsLibrary}
use Rattle.sts_grammar.specs.Laws.{OneProgram}
use Rattle.sts_grammar.specs.Texts.{no_entries}
use Rattle.sts_prelude.specs.Library as l
use Rattle.sts_prelude.specs.Spelled as spelled
use Rattle.sts_prelude.specs.declared.text.TheConstants.{LIBRARY}
use Rattle.sts_prelude.proofs.Laws.{own, own_tokens, own_tokenized, moved, tokens_by, own_tokens_are}
use Rattle.typed_laws.specs.LibraryLaws.{first}
use Rattle.typed_laws.proofs.Prelude.{L, T, k, formed, each_typed, no_failure}
use Rattle.typed_laws.proofs.Prelude.{names as names_of}
use Rattle.typed_laws.proofs.BuiltPrograms.{library_there}
use Rattle.typed_laws.proofs.LibraryRows.{N, made, rows}
use Rattle.typed_laws.proofs.Weights.{light}
use Rattle.typed_laws.proofs.First.{library_first}

unmoved : tokens_by (moved own.names own.names) (moved own.texts own.texts) ≡ own_tokens
unmoved = refl

computed : (names texts : List (List ℕ)) (text : Program) (kinds : List (Option StaticType)) → AreDerived (record { names = own.names ++ names; texts = own.texts ++ texts }) L text kinds
    → IsLibrary (record { names = own.names ++ names; texts = own.texts ++ texts }) L text kinds
computed names texts text kinds derived = record {
  functions = tt;
  formed = formed;
  no_failure = no_failure names texts text kinds derived;
  routines = made names texts text kinds derived;
  built = library_there (T names texts text kinds) (names_of names texts text kinds) (k names texts text kinds) (N names texts text kinds) 0 0 L tt (no_failure names texts text kinds derived)
      (λ i low high. each_typed names texts text kinds derived i (omega (arith, high)));
  rows = rows names texts text kinds derived;
}

pub prelude_so : (tokens : List Token) (names texts : List (List ℕ)) (text : Program) (kinds : List (Option StaticType)) → IsDistinct first.names → IsDistinct first.texts
    → IsTokenization first LIBRARY.now tokens → AreDerived (record { names = first.names ++ names; texts = first.texts ++ texts }) (l.library tokens) text kinds
    → IsLibrary (record { names = first.names ++ names; texts = first.texts ++ texts }) (l.library tokens) text kinds
prelude_so tokens names texts text kinds n x read derived =
    let is : tokens ≡ own_tokens = own_tokens_are own tokens n x read ∙ unmoved in
    subst (λ (ts : List Token). IsLibrary (record { names = first.names ++ names; texts = first.texts ++ texts }) (l.library ts) text kinds) (sym is)
    (computed names texts text kinds
    (subst (λ (ts : List Token). AreDerived (record { names = first.names ++ names; texts = first.texts ++ texts }) (l.library ts) text kinds) is derived))

pub leaves_first : (one : OneProgram) (new : Tables) (program : Program) → IsDistinct new.names → IsDistinct new.texts → spelled.IsLibraryTree no_entries new program
    → (new ≡ first) × (tokens : List Token) × IsTokenization first LIBRARY.now tokens × (program ≡ l.library tokens)
leaves_first one new program names texts h = let is = library_first one new program names texts h in (is.0, own_tokens, own_tokenized, is.1)

pub functions_typed : (tokens : List Token) (names texts : List (List ℕ)) (text : Program) (kinds : List (Option StaticType)) → IsDistinct first.names → IsDistinct first.texts
    → IsTokenization first LIBRARY.now tokens → AreDerived (record { names = first.names ++ names; texts = first.texts ++ texts }) (l.library tokens) text kinds
    → (d : ℕ) → d < (known (l.library tokens) text kinds).library → IsSome (kind_at (known (l.library tokens) text kinds) d)
functions_typed tokens names texts text kinds n x read derived =
    let is : tokens ≡ own_tokens = own_tokens_are own tokens n x read ∙ unmoved in
    subst (λ (ts : List Token). (d : ℕ) → d < (known (l.library ts) text kinds).library → IsSome (kind_at (known (l.library ts) text kinds) d)) (sym is)
    (λ d near. each_typed names texts text kinds
    (subst (λ (ts : List Token). AreDerived (record { names = first.names ++ names; texts = first.texts ++ texts }) (l.library ts) text kinds) is derived) d near)

pub typed_light : (tokens : List Token) (names texts : List (List ℕ)) (text : Program) (kinds : List (Option StaticType)) → IsDistinct first.names → IsDistinct first.texts
    → IsTokenization first LIBRARY.now tokens → AreDerived (record { names = first.names ++ names; texts = first.texts ++ texts }) (l.library tokens) text kinds
    → routines_weight (take library_size (filled_program (record { names = first.names ++ names; texts = first.texts ++ texts }) (l.library tokens) text kinds).functions) ≤ 600
typed_light tokens names texts text kinds n x read derived =
    let is : tokens ≡ own_tokens = own_tokens_are own tokens n x read ∙ unmoved in
    subst (λ (ts : List Token). routines_weight (take library_size (filled_program (record { names = first.names ++ names; texts = first.texts ++ texts }) (l.library ts) text kinds).functions) ≤ 600) (sym is)
    (light names texts text kinds
    (subst (λ (ts : List Token). AreDerived (record { names = first.names ++ names; texts = first.texts ++ texts }) (l.library ts) text kinds) is derived))
