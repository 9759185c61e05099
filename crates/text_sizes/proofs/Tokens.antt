-- Each token takes a byte of its text.
use Rattle.std.proofs.Common.{◌≡◌, ℕ, ◌+◌, ◌≤◌, List, [], ◌∷◌, ◌++◌, length, ap, ◌∙◌, arith, length-append, inl, inr}
use Rattle.sts_base.specs.declared.tables.Tables.{Tables}
use Rattle.sts_lexer.specs.Bytes.{most_bytes}
use Rattle.sts_lexer.specs.Spaces.{IsSpace, IsGap, start_of}
use Rattle.sts_lexer.specs.Tokens.{IsNext, AreTokens, IsTokenization}
use Rattle.sts_lexer.specs.declared.token.Token.{Token}
use Rattle.sts_lexer.proofs.Laws.{spells_within}

space_after : (text : List ℕ) (i j : ℕ) → IsSpace text i j → i ≤ j
space_after text i j (inl h) = omega (arith, h.1)
space_after text i j (inr (inl h)) = omega (arith, h.after)
space_after text i j (inr (inr h)) = omega (arith, h.after, h.ends)

gap_after : (text : List ℕ) (i : ℕ) (places : List ℕ) (j : ℕ) → IsGap text i places j → i ≤ j
gap_after text i [] j h = omega (arith, h)
gap_after text i (next ∷ places) j h = (let a = space_after text i next h.0 in let b = gap_after text next places j h.1 in omega (arith, a, b))

token_after : (tables : Tables) (text : List ℕ) (i : ℕ) (token : Token) → IsNext tables text i token → i + 1 ≤ token.span.upto
token_after tables text i token h =
    let a = gap_after text i h.places token.span.from h.gap in
    let b = spells_within text h.reads.lexeme token.span.from token.span.upto h.reads.spelled in
    omega (arith, a, b.0)

tokens_after : (tables : Tables) (text : List ℕ) (i : ℕ) (all : List Token) (j : ℕ) → AreTokens tables text i all j → i + length all ≤ j
tokens_after tables text i [] j h = omega (arith, h)
tokens_after tables text i (token ∷ rest) j h =
    let a = token_after tables text i token h.0 in
    let b = tokens_after tables text token.span.upto rest j h.1 in
    omega (arith, a, b)

-- a text has a token for each byte at most, and the last one
pub few_tokens : (tables : Tables) (text : List ℕ) (all : List Token) → IsTokenization tables text all → length all ≤ length text + 1
few_tokens tables text all h =
    let front = tokens_after tables text (start_of text) h.front h.stop h.read in
    let left = gap_after text h.stop h.ends.places (length text) h.ends.gap in
    let both = length-append h.front (h.finish ∷ []) in
    let is = ap (λ (xs : List Token). length xs) h.all_is in
    omega (arith, front, left, both, is)

pub most_tokens : (tables : Tables) (text : List ℕ) (all : List Token) → IsTokenization tables text all → length all ≤ most_bytes + 1
most_tokens tables text all h = (let few = few_tokens tables text all h in omega (arith, few, h.short))
