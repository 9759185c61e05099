-- A text that has tokens is accepted or refused.
use Rattle.std.proofs.Common.{◌≡◌, ◌<◌, ◌≤◌, ◌⊎◌, ◌++◌, ℕ, zero, suc, List, [], ◌∷◌, length, Option, Some, None, slice_get, inl, inr, refl, sym, subst, arith}
use Rattle.std.proofs.lemmas.Bool.{cases_lt}
use Rattle.sts_base.specs.declared.refused.Code.{Code}
use Rattle.sts_base.specs.declared.refused.Code.TheVariants as code
use Rattle.sts_base.specs.declared.tables.Tables.{Tables}
use Rattle.sts_lexer.specs.declared.token.Token.{Token}
use Rattle.sts_syntax.specs.Programs.{Program}
use Rattle.sts_syntax.specs.TypedTrees.{TypedProgram}
use Rattle.sts_scope.specs.declared.kinds.StaticType.{StaticType}
use Rattle.sts_scope.specs.Failures.{Failure}
use Rattle.sts_grammar.specs.Brackets.{open_at}
use Rattle.sts_grammar.specs.Deep.{NoneDeepBefore, NoneDeep, IsFirstDeep}
use Rattle.sts_grammar.specs.Limits.{most_open}
use Rattle.sts_grammar.specs.Laws.{ProgramIsRead}
use Rattle.sts_grammar.specs.ReadUnits.{read_program}
use Rattle.sts_grammar.specs.Texts.{source, BeginsToken}
use Rattle.sts_grammar.specs.Units.{IsProgram}
use Rattle.type_derive.specs.Derived.{AreDerived}
use Rattle.type_derive.specs.Laws.{DerivedTypesExist}
use Rattle.typed_laws.specs.inner.FilledTexts.{filled_program, filled_refusal}
use Rattle.typed_program.specs.Checking.{FilledIsTyped}
use Rattle.typed_program.specs.Accepting.{ReadsText, Accepts, IsRefusedFor}
use Rattle.sts_lexer.specs.Laws.{SomeReading}
use Rattle.typed_laws.specs.LibraryLaws.{first, LibraryIsRead}
use Rattle.typed_program.specs.Laws.{OneAnswer, SomeAnswer, TextHasOneAnswer}

token_there : (tokens : List Token) (n : ℕ) → n < length tokens → (token : Token) × (slice_get tokens n ≡ Some token)
token_there [] n lt = absurd (omega (arith, lt))
token_there (token ∷ tokens) zero lt = (token, refl)
token_there (token ∷ tokens) (suc n) lt = token_there tokens n (omega (arith, lt))

-- in none of some tokens too many brackets are open, or there is a first such token
more_none : (tokens : List Token) (n : ℕ) → NoneDeepBefore tokens n → open_at tokens n ≤ most_open → NoneDeepBefore tokens (suc n)
more_none tokens n none here i lt =
    elim (cases_lt i n) [
      | inl less ↦ none i less
      | inr more ↦ (let same : n ≡ i = omega (arith, lt, more) in subst (λ k. open_at tokens k ≤ most_open) same here)
    ]

deep_or_not : (tokens : List Token) (n : ℕ) → n ≤ length tokens → NoneDeepBefore tokens n ⊎ ((place : ℕ) × IsFirstDeep tokens place)
deep_or_not tokens zero within = inl (λ i lt. absurd (omega (arith, lt)))
deep_or_not tokens (suc n) within = next (deep_or_not tokens n (omega (arith, within)))
  where
    next : NoneDeepBefore tokens n ⊎ ((place : ℕ) × IsFirstDeep tokens place) → NoneDeepBefore tokens (suc n) ⊎ ((place : ℕ) × IsFirstDeep tokens place)
    next (inr deep) = inr deep
    next (inl none) =
        elim (cases_lt most_open (open_at tokens n)) [
          | inl deep ↦
              (let t = token_there tokens n (omega (arith, within)) in
              inr (t.0.span.from, record { at = n; token = t.0; is = t.1; deep = deep; first = none; begins = refl }))
          | inr here ↦ inl (more_none tokens n none here)
        ]

-- a text's first token begins somewhere
first_begins : (front : List Token) (finish : Token) → (place : ℕ) × BeginsToken (front ++ finish ∷ []) place
first_begins [] finish = (finish.span.from, record { at = 0; token = finish; is = refl; begins = refl })
first_begins (token ∷ front) finish = (token.span.from, record { at = 0; token = token; is = refl; begins = refl })

module _ (reading : ProgramIsRead) (types : DerivedTypesExist) (typed_so : FilledIsTyped) (text : List ℕ) (tables : Tables) (library : Program) (tokens : List Token) (read : ReadsText text tables library tokens) where
  abbrev Answer : Type 0
  Answer = ((P : TypedProgram) × Accepts text tables P) ⊎ ((why : Code) × (at : ℕ) × IsRefusedFor text why at)

  module _ (shallow : NoneDeep tokens) where
    module _ (program : Program) (spelled : IsProgram (source tokens tables) program) where
      by_refusal : (kinds : List (Option StaticType)) → AreDerived tables library program kinds → (found : Option Failure) → filled_refusal tables library program kinds ≡ found → Answer
      by_refusal kinds derived None e =
          inl (
            filled_program tables library program kinds,
            record { library = library; tokens = tokens; read = read; shallow = shallow; program = program; spelled = spelled; accepted = typed_so.accepted text tables library tokens program (filled_program tables library program kinds) read (kinds, derived, e, refl) },
          )
      by_refusal kinds derived (Some fault) e =
          inr (
            fault.code,
            fault.at,
            inr (inr (record { tables = tables; library = library; tokens = tokens; read = read; shallow = shallow; program = program; spelled = spelled; refused = typed_so.refused text tables library tokens program fault read (kinds, derived, e) })),
          )

      program_answer : Answer
      program_answer = (let k = types tables library program in by_refusal k.0 k.1 (filled_refusal tables library program k.0) refl)

    by_tree : (found : Option Program) → read_program (source tokens tables) ≡ found → Answer
    by_tree (Some program) e = program_answer program (reading.read (source tokens tables) program e)
    by_tree None e =
        (let t = read.tokenization in
        let begins : (place : ℕ) × BeginsToken tokens place = subst (λ all. (place : ℕ) × BeginsToken all place) (sym t.all_is) (first_begins t.front t.finish) in
        inr (
          code.Syntax,
          begins.0,
          inr (inl (record { tables = tables; library = library; tokens = tokens; read = read; refused = (shallow, reading.unread (source tokens tables) e, begins.1) })),
        ))

  by_deep : NoneDeep tokens ⊎ ((place : ℕ) × IsFirstDeep tokens place) → Answer
  by_deep (inl shallow) = by_tree shallow (read_program (source tokens tables)) refl
  by_deep (inr deep) = inr (code.TooDeep, deep.0, inr (inl (record { tables = tables; library = library; tokens = tokens; read = read; refused = deep.1 })))

  answered : Answer
  answered = by_deep (deep_or_not tokens (length tokens) (omega arith))

pub some_answer : ProgramIsRead → DerivedTypesExist → FilledIsTyped → SomeAnswer
some_answer reading types typed_so = λ text tables library tokens read. answered reading types typed_so text tables library tokens read

-- the library is read first, and then the text behind it, which has tokens or is refused for want of them
pub has_one : LibraryIsRead → SomeReading → SomeAnswer → OneAnswer → TextHasOneAnswer
has_one library reading answer one = record { some = each; one = one }
  where
    each : (text : List ℕ) → ((tables : Tables) × (P : TypedProgram) × Accepts text tables P) ⊎ ((code : Code) × (at : ℕ) × IsRefusedFor text code at)
    each text =
        elim (reading first text library.names library.texts) [
          | inr refused ↦ inr (refused.0, refused.1, inl refused.2)
          | inl found ↦
              (let tables = found.0 in
              let read = found.2 in
              let behind : ReadsText text tables library.program found.1 = record {
                first = first;
                library_is = library.read;
                tokenization = read.tokens;
                in_order = read.in_order;
                names = read.more_names;
                texts = read.more_texts;
                names_distinct = read.names;
                texts_distinct = read.texts;
              } in
              elim (answer text tables library.program found.1 behind) [ inl accepted ↦ inl (tables, accepted.0, accepted.1) | inr refused ↦ inr refused ])
        ]
