-- A text isn't both accepted and refused, and each only in one way.
use Rattle.std.proofs.Common.{◌≡◌, ◌≢◌, ℕ, List, Option, Some, None, slice_get, refl, sym, ap, ◌∙◌, subst, inl, inr, arith}
use Rattle.std.proofs.lemmas.List.{ext_get_or}
use Rattle.std.proofs.lemmas.Bool.{cases_lt}
use Rattle.std.proofs.lemmas.Option.{slice_get_within, same_Some}
use Rattle.sts_base.specs.declared.refused.Code.{Code}
use Rattle.sts_base.specs.declared.refused.Code.TheVariants as code
use Rattle.sts_base.specs.declared.tables.Tables.{Tables}
use Rattle.sts_lexer.specs.declared.token.Token.{Token}
use Rattle.sts_lexer.specs.Laws.{OneReading}
use Rattle.sts_lexer.proofs.Laws.{tokens_or_refusal}
use Rattle.sts_syntax.specs.Programs.{Program}
use Rattle.sts_syntax.specs.TypedTrees.{TypedProgram}
use Rattle.sts_grammar.specs.Deep.{NoneDeep, IsFirstDeep}
use Rattle.sts_grammar.specs.Laws.{OneProgram}
use Rattle.sts_grammar.specs.Source.{Source}
use Rattle.sts_grammar.specs.Texts.{source}
use Rattle.sts_grammar.specs.Texts as grammar
use Rattle.sts_grammar.specs.Units.{IsProgram}
use Rattle.sts_scope.specs.declared.kinds.StaticType.{StaticType}
use Rattle.sts_scope.specs.Failures.{Failure}
use Rattle.type_derive.specs.Derived.{AreDerived, derivation}
use Rattle.type_derive.specs.Laws.{IsOne}
use Rattle.typed_laws.specs.LibraryLaws.{LibraryLeavesFirst}
use Rattle.typed_program.specs.Accepting.{Accepts, IsRefusedFor, TokensAreRefused, RefusesProgram}
use Rattle.typed_program.specs.ElaboratedTexts.{elab_text, BecomesProgram, FailsBy}
use Rattle.typed_program.specs.Laws.{OneAnswer}
use Rattle.typed_program.proofs.LibraryBehind.{AreOne, one_reading}
use Rattle.typed_program.proofs.Saying.{ok_is, err_is, not_ok}

not_deep : (tokens : List Token) (at : ℕ) → NoneDeep tokens → IsFirstDeep tokens at → ⊥
not_deep tokens at none h = absurd (omega (arith, h.deep, none h.at (slice_get_within tokens h.at h.token h.is)))

not_refused : (s : Source) (p : Program) (why : Code) (at : ℕ) → NoneDeep s.tokens → IsProgram s p → grammar.RefusesSource s why at → ⊥
not_refused s p code.TooDeep at shallow spelled r = not_deep s.tokens at shallow r
not_refused s p code.Syntax at shallow spelled r = r.1 p spelled
not_refused s p other at shallow spelled r = r

-- the first token in too many brackets is one
deep_same : (tokens : List Token) (at at' : ℕ) → IsFirstDeep tokens at → IsFirstDeep tokens at' → at ≡ at'
deep_same tokens at at' h j =
    elim (cases_lt h.at j.at) [
      | inl before ↦ absurd (omega (arith, h.deep, j.first h.at before))
      | inr after ↦
          elim (cases_lt j.at h.at) [
            | inl before ↦ absurd (omega (arith, j.deep, h.first j.at before))
            | inr other ↦
                let same : h.at ≡ j.at = omega arith in
                let here : slice_get tokens j.at ≡ Some h.token = subst (λ (i : ℕ). slice_get tokens i ≡ Some h.token) same h.is in
                h.begins ∙ (ap (λ (t : Token). t.span.from) (same_Some h.token j.token (sym here ∙ j.is)) ∙ sym j.begins)
          ]
    ]

refusal_same : (s : Source) (why why' : Code) (at at' : ℕ) → grammar.RefusesSource s why at → grammar.RefusesSource s why' at' → (why ≡ why') × (why ≢ code.Syntax → at ≡ at')
refusal_same s code.TooDeep code.TooDeep at at' h j = (refl, λ other. deep_same s.tokens at at' h j)
refusal_same s code.TooDeep code.Syntax at at' h j = absurd (not_deep s.tokens at j.0 h)
refusal_same s code.TooDeep other at at' h j = absurd j
refusal_same s code.Syntax code.TooDeep at at' h j = absurd (not_deep s.tokens at' h.0 j)
refusal_same s code.Syntax code.Syntax at at' h j = (refl, λ other. absurd (other refl))
refusal_same s code.Syntax other at at' h j = absurd j
refusal_same s other why' at at' h j = absurd h

-- the types of declarations are determined
types_same : IsOne → (tables : Tables) (library text : Program) (xs ys : List (Option StaticType)) → AreDerived tables library text xs → AreDerived tables library text ys → xs ≡ ys
types_same one tables library text xs ys h j =
    let size = h.each ∙ sym j.each in
    ext_get_or None xs ys size (λ d lt. one (derivation tables library text) xs ys size h.least j.least d)

module _ (reading : OneReading) (leaves : LibraryLeavesFirst) (one : IsOne) (program : OneProgram) where
  accepted_same : (tables : Tables) (library text : Program) (P P' : TypedProgram) → BecomesProgram tables library text P → BecomesProgram tables library text P' → P ≡ P'
  accepted_same tables library text P P' h j =
      ok_is P P' (sym h.2 ∙ (ap (λ (kinds : List (Option StaticType)). elab_text tables library text kinds) (types_same one tables library text h.0 j.0 h.1 j.1) ∙ j.2))

  accepted_refused : (tables : Tables) (library text : Program) (P : TypedProgram) (f : Failure) → BecomesProgram tables library text P → FailsBy tables library text f → ⊥
  accepted_refused tables library text P f h r =
      not_ok f P (sym r.2 ∙ (ap (λ (kinds : List (Option StaticType)). elab_text tables library text kinds) (sym (types_same one tables library text h.0 r.0 h.1 r.1)) ∙ h.2))

  tokens_refused : (text : List ℕ) (tables : Tables) (P : TypedProgram) (why : Code) (at : ℕ) → Accepts text tables P → TokensAreRefused text why at → ⊥
  tokens_refused text tables P why at h r =
      let same = one_reading leaves text r.tables tables r.library h.library r.tokens h.tokens r.read h.read in
      not_refused (source h.tokens tables) h.program why at h.shallow h.spelled
      (subst (λ (t : Tables). grammar.RefusesSource (source h.tokens t) why at) same.tables_same
      (subst (λ (ts : List Token). grammar.RefusesSource (source ts r.tables) why at) same.tokens_same r.refused))

  -- two programs of one text are one
  spelled_same : (tables tables' : Tables) (library library' : Program) (tokens tokens' : List Token) (p p' : Program) → AreOne tables tables' library library' tokens tokens'
      → IsProgram (source tokens tables) p → IsProgram (source tokens' tables') p' → p ≡ p'
  spelled_same tables tables' library library' tokens tokens' p p' same h j =
      program.one (source tokens' tables') p p'
      (subst (λ (t : Tables). IsProgram (source tokens' t) p) same.tables_same (subst (λ (ts : List Token). IsProgram (source ts tables) p) same.tokens_same h)).spelled
      j.spelled

  program_refused : (text : List ℕ) (tables : Tables) (P : TypedProgram) (why : Code) (at : ℕ) → Accepts text tables P → RefusesProgram text why at → ⊥
  program_refused text tables P why at h r =
      let f : Failure = record { code = why; at = at } in
      let same = one_reading leaves text r.tables tables r.library h.library r.tokens h.tokens r.read h.read in
      let trees = spelled_same r.tables tables r.library h.library r.tokens h.tokens r.program h.program same r.spelled h.spelled in
      accepted_refused tables h.library h.program P f h.accepted
      (subst (λ (t : Tables). FailsBy t h.library h.program f) same.tables_same
      (subst (λ (p : Program). FailsBy r.tables p h.program f) same.library_same
      (subst (λ (p : Program). FailsBy r.tables r.library p f) trees r.refused)))

  never_both : (text : List ℕ) (tables : Tables) (P : TypedProgram) (why : Code) (at : ℕ) → Accepts text tables P → IsRefusedFor text why at → ⊥
  never_both text tables P why at h (inl r) = tokens_or_refusal tables text h.tokens why at h.read.tokenization r
  never_both text tables P why at h (inr (inl r)) = tokens_refused text tables P why at h r
  never_both text tables P why at h (inr (inr r)) = program_refused text tables P why at h r

  one_program : (text : List ℕ) (tables tables' : Tables) (P P' : TypedProgram) → Accepts text tables P → Accepts text tables' P' → (tables ≡ tables') × (P ≡ P')
  one_program text tables tables' P P' h j =
      let same = one_reading leaves text tables tables' h.library j.library h.tokens j.tokens h.read j.read in
      let trees = spelled_same tables tables' h.library j.library h.tokens j.tokens h.program j.program same h.spelled j.spelled in (
        same.tables_same,
        accepted_same tables' j.library j.program P P'
            (subst (λ (t : Tables). BecomesProgram t j.library j.program P) same.tables_same
            (subst (λ (p : Program). BecomesProgram tables p j.program P) same.library_same
            (subst (λ (p : Program). BecomesProgram tables h.library p P) trees h.accepted)))
            j.accepted,
      )

  failure_same : (tables : Tables) (library text : Program) (f g : Failure) → FailsBy tables library text f → FailsBy tables library text g → f ≡ g
  failure_same tables library text f g h j =
      err_is f g (sym h.2 ∙ (ap (λ (kinds : List (Option StaticType)). elab_text tables library text kinds) (types_same one tables library text h.0 j.0 h.1 j.1) ∙ j.2))

  both_tokens : (text : List ℕ) (why why' : Code) (at at' : ℕ) → TokensAreRefused text why at → TokensAreRefused text why' at' → (why ≡ why') × (why ≢ code.Syntax → at ≡ at')
  both_tokens text why why' at at' h j =
      let same = one_reading leaves text h.tables j.tables h.library j.library h.tokens j.tokens h.read j.read in
      refusal_same (source j.tokens j.tables) why why' at at'
      (subst (λ (t : Tables). grammar.RefusesSource (source j.tokens t) why at) same.tables_same
      (subst (λ (ts : List Token). grammar.RefusesSource (source ts h.tables) why at) same.tokens_same h.refused))
      j.refused

  tokens_program : (text : List ℕ) (why why' : Code) (at at' : ℕ) → TokensAreRefused text why at → RefusesProgram text why' at' → ⊥
  tokens_program text why why' at at' h j =
      let same = one_reading leaves text h.tables j.tables h.library j.library h.tokens j.tokens h.read j.read in
      not_refused (source j.tokens j.tables) j.program why at j.shallow j.spelled
      (subst (λ (t : Tables). grammar.RefusesSource (source j.tokens t) why at) same.tables_same
      (subst (λ (ts : List Token). grammar.RefusesSource (source ts h.tables) why at) same.tokens_same h.refused))

  both_programs : (text : List ℕ) (why why' : Code) (at at' : ℕ) → RefusesProgram text why at → RefusesProgram text why' at' → (why ≡ why') × (at ≡ at')
  both_programs text why why' at at' h j =
      let f : Failure = record { code = why; at = at } in
      let g : Failure = record { code = why'; at = at' } in
      let same = one_reading leaves text h.tables j.tables h.library j.library h.tokens j.tokens h.read j.read in
      let trees = spelled_same h.tables j.tables h.library j.library h.tokens j.tokens h.program j.program same h.spelled j.spelled in
      let one : f ≡ g =
      failure_same j.tables j.library j.program f g
      (subst (λ (t : Tables). FailsBy t j.library j.program f) same.tables_same
      (subst (λ (p : Program). FailsBy h.tables p j.program f) same.library_same
      (subst (λ (p : Program). FailsBy h.tables h.library p f) trees h.refused)))
      j.refused in
      (ap (λ (x : Failure). x.code) one, ap (λ (x : Failure). x.at) one)

  one_refusal : (text : List ℕ) (why why' : Code) (at at' : ℕ) → IsRefusedFor text why at → IsRefusedFor text why' at' → (why ≡ why') × (why ≢ code.Syntax → at ≡ at')
  one_refusal text why why' at at' (inl h) (inl j) = let same = reading.refusal text why why' at at' h j in (same.0, λ other. same.1)
  one_refusal text why why' at at' (inl h) (inr (inl j)) = absurd (tokens_or_refusal j.tables text j.tokens why at j.read.tokenization h)
  one_refusal text why why' at at' (inl h) (inr (inr j)) = absurd (tokens_or_refusal j.tables text j.tokens why at j.read.tokenization h)
  one_refusal text why why' at at' (inr (inl h)) (inl j) = absurd (tokens_or_refusal h.tables text h.tokens why' at' h.read.tokenization j)
  one_refusal text why why' at at' (inr (inl h)) (inr (inl j)) = both_tokens text why why' at at' h j
  one_refusal text why why' at at' (inr (inl h)) (inr (inr j)) = absurd (tokens_program text why why' at at' h j)
  one_refusal text why why' at at' (inr (inr h)) (inl j) = absurd (tokens_or_refusal h.tables text h.tokens why' at' h.read.tokenization j)
  one_refusal text why why' at at' (inr (inr h)) (inr (inl j)) = absurd (tokens_program text why' why at' at j h)
  one_refusal text why why' at at' (inr (inr h)) (inr (inr j)) = let same = both_programs text why why' at at' h j in (same.0, λ other. same.1)

  pub answers : OneAnswer
  answers = record { either = never_both; program = one_program; refusal = one_refusal }
