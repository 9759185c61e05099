-- The place of a refusal is one of the text.
use Rattle.std.proofs.Common.{◌≡◌, ℕ, zero, suc, ◌<◌, ◌≤◌, List, [], ◌∷◌, ◌++◌, length, ap, subst, arith, inl, inr, refl}
use Rattle.std.specs.Prelude.{Option, Some, None, slice_get}
use Rattle.sts_base.specs.declared.tables.Tables.{Tables}
use Rattle.sts_base.specs.declared.refused.Code.{Code}
use Rattle.sts_base.specs.declared.refused.Code.TheVariants as code
use Rattle.sts_lexer.specs.declared.token.Token.{Token}
use Rattle.sts_lexer.specs.Spaces.{start_of}
use Rattle.sts_lexer.specs.Tokens.{AreTokens, IsTokenization}
use Rattle.sts_lexer.specs.Refusals.{IsRefusal}
use Rattle.sts_lexer.proofs.Laws.{spells_within}
use Rattle.sts_grammar.specs.Source.{place_of}
use Rattle.sts_grammar.specs.Texts.{source}
use Rattle.sts_grammar.specs.Texts as grammar
use Rattle.sts_scope.specs.Failures.{Failure}
use Rattle.typed_program.specs.Accepting.{IsRefusedFor, RefusesProgram}
use Rattle.typed_program.specs.ElaborationLaws.{AgreesOnReadTexts}
use Rattle.typed_program.proofs.NodePlaces.{ProgramAt}
use Rattle.typed_program.proofs.SpelledPlaces.{parts}
use Rattle.typed_program.proofs.PassPlaces.{refusal_in}

-- a place of a text, small enough for its line and column
abbrev Within : List ℕ → ℕ → Type 0
Within text at = (at ≤ length text) × (at < 4294967295)

-- each token stands in the text
token_within : (tables : Tables) (text : List ℕ) (front : List Token) (i stop : ℕ) (finish token : Token) (n : ℕ) → AreTokens tables text i front stop
    → finish.span.from ≡ length text → slice_get (front ++ finish ∷ []) n ≡ Some token → token.span.from ≤ length text
token_within tables text [] i stop finish token zero r f h =
    let same : finish ≡ token = cc in
    let at : finish.span.from ≡ token.span.from = ap (λ (t : Token). t.span.from) same in omega (arith, f, at)
token_within tables text [] i stop finish token (suc n) r f h = absurd (let e : ◌≡◌ {A = Option Token} None (Some token) = h in cc)
token_within tables text (first ∷ rest) i stop finish token zero r f h =
    let same : first ≡ token = cc in
    let at : first.span.from ≡ token.span.from = ap (λ (t : Token). t.span.from) same in
    let reads = r.0.reads in
    omega (arith, at, spells_within text reads.lexeme first.span.from first.span.upto reads.spelled)
token_within tables text (first ∷ rest) i stop finish token (suc n) r f h = token_within tables text rest first.span.upto stop finish token n r.1 f h

token_place : (tables : Tables) (text : List ℕ) (tokens : List Token) (n at : ℕ) (token : Token) → IsTokenization tables text tokens
    → slice_get tokens n ≡ Some token → at ≡ token.span.from → Within text at
token_place tables text tokens n at token t h e =
    let here : slice_get (t.front ++ t.finish ∷ []) n ≡ Some token = subst (λ x. slice_get x n ≡ Some token) t.all_is h in
    let within : token.span.from ≤ length text = token_within tables text t.front (start_of text) t.stop t.finish token n t.read t.ends.from here in
    (omega (arith, within, e), omega (arith, within, e, t.short))

-- so does the place of the token of each number
found_place : (tables : Tables) (text : List ℕ) (tokens : List Token) (i : ℕ) (found : Option Token) → IsTokenization tables text tokens → slice_get tokens i ≡ found → Within text (place_of found)
found_place tables text tokens i None t e = (omega arith, omega arith)
found_place tables text tokens i (Some token) t e = token_place tables text tokens i token.span.from token t e (let same : token.span.from ≡ token.span.from = omega arith in same)

lexed_within : (text : List ℕ) (why : Code) (at : ℕ) → IsRefusal text why at → Within text at
lexed_within text code.TextTooLong at r = (omega (arith, r.1), omega (arith, r.1))
lexed_within text code.NotUtf8 at r = (omega (arith, r.1.short), omega (arith, r.0, r.1.short))
lexed_within text other at r = let here : at < length text = r.2.stuck.here in (omega (arith, here), omega (arith, here, r.0))

parsed_within : (text : List ℕ) (tables : Tables) (tokens : List Token) (why : Code) (at : ℕ) → IsTokenization tables text tokens → grammar.RefusesSource (source tokens tables) why at → Within text at
parsed_within text tables tokens code.TooDeep at t r = token_place tables text tokens r.at at r.token t r.is r.begins
parsed_within text tables tokens code.Syntax at t r = token_place tables text tokens r.2.at at r.2.token t r.2.is r.2.begins
parsed_within text tables tokens other at t r = absurd r

typed_within : AgreesOnReadTexts → (text : List ℕ) (why : Code) (at : ℕ) → RefusesProgram text why at → Within text at
typed_within agree text why at r =
    let f : Failure = record { code = why; at = at } in
    let h = (agree.fails text r.tables r.library r.tokens r.program f r.read).0 r.refused in
    let t = r.read.tokenization in
    let s = source r.tokens r.tables in
    let start : Within text 0 = (omega arith, omega arith) in
    let tree : ProgramAt (Within text) r.program = parts (Within text) s (λ i. found_place r.tables text r.tokens i (slice_get r.tokens i) t refl) start r.program 0 r.spelled.spelled in
    (refusal_in (Within text) r.tables r.library r.program h.0 start tree).place f h.2

pub refusal_within : AgreesOnReadTexts → (text : List ℕ) (why : Code) (at : ℕ) → IsRefusedFor text why at → Within text at
refusal_within agree text why at (inl r) = lexed_within text why at r
refusal_within agree text why at (inr (inl r)) = parsed_within text r.tables r.tokens why at r.read.tokenization r.refused
refusal_within agree text why at (inr (inr r)) = typed_within agree text why at r
