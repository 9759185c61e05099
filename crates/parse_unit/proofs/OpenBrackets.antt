-- Counting open brackets from token to token.
use Rattle.std.proofs.Common.{◌≡◌, ℕ, ◌+◌, ◌<◌, ◌≤◌, ◌++◌, List, [], ◌∷◌, length, take, refl, sym, ap, ◌∙◌, subst, arith, inl, inr, ◌⊎◌, slice_index_or}
use Rattle.std.proofs.lemmas.Bool.{cases_lt}
use Rattle.std.proofs.lemmas.List.{take_more}
use Rattle.std.proofs.lemmas.Option.{slice_get-get_or}
use Rattle.sts_lexer.specs.declared.token.Token.{Token}
use Rattle.sts_grammar.specs.Limits.{most_open}
use Rattle.sts_grammar.specs.Brackets.{open_behind, open_after, open_at}
use Rattle.sts_grammar.specs.Deep.{NoneDeepBefore, NoneDeep, IsFirstDeep}

open_after-append : (n : ℕ) (xs : List Token) (t : Token) → open_after n (xs ++ t ∷ []) ≡ open_behind (open_after n xs) t.kind
open_after-append n [] t = refl
open_after-append n (x ∷ xs) t = open_after-append (open_behind n x.kind) xs t

open_at-is : (xs : List Token) (i : ℕ) (d : Token) → i < length xs → open_at xs i ≡ open_behind (open_after 0 (take i xs)) (slice_index_or xs i d).kind
open_at-is xs i d h = ap (open_after 0) (take_more xs i d h) ∙ open_after-append 0 (take i xs) (slice_index_or xs i d)

-- so far no token stands in too many brackets, and so many are open
pub record SoFar (tokens : List Token) (count at : ℕ) : Type 0 where
  pub counted : count ≡ open_after 0 (take at tokens)
  pub none : NoneDeepBefore tokens at
  pub small : count ≤ most_open

pub at_first : (tokens : List Token) → SoFar tokens 0 0
at_first tokens = record { counted = refl; none = λ i h. absurd (omega arith); small = omega arith }

before_or_at : (tokens : List Token) (at i : ℕ) → NoneDeepBefore tokens at → open_at tokens at ≤ most_open → (i < at) ⊎ (at ≤ i) → i < at + 1 → open_at tokens i ≤ most_open
before_or_at tokens at i before here (inl h) less = before i h
before_or_at tokens at i before here (inr h) less = let e : at ≡ i = omega arith in subst (λ z. open_at tokens z ≤ most_open) e here

pub one_more : (tokens : List Token) (count count' at : ℕ) (d : Token) → SoFar tokens count at → at < length tokens → count' ≡ open_behind count (slice_index_or tokens at d).kind → count' ≤ most_open → SoFar tokens count' (at + 1)
one_more tokens count count' at d so inside is small =
    let same : count' ≡ open_at tokens at = is ∙ ap (λ z. open_behind z (slice_index_or tokens at d).kind) so.counted ∙ sym (open_at-is tokens at d inside) in
    record { counted = same; none = λ i less. before_or_at tokens at i so.none (subst (λ z. z ≤ most_open) same small) (cases_lt i at) less; small = small }

pub too_many : (tokens : List Token) (count count' at : ℕ) (d : Token) → SoFar tokens count at → at < length tokens → count' ≡ open_behind count (slice_index_or tokens at d).kind → most_open < count' → IsFirstDeep tokens (slice_index_or tokens at d).span.from
too_many tokens count count' at d so inside is many =
    let same : count' ≡ open_at tokens at = is ∙ ap (λ z. open_behind z (slice_index_or tokens at d).kind) so.counted ∙ sym (open_at-is tokens at d inside) in
    record {
      at = at;
      token = slice_index_or tokens at d;
      is = slice_get-get_or tokens at d inside;
      deep = subst (λ z. most_open < z) same many;
      first = so.none;
      begins = refl;
    }

-- The same of a loop over the items of the list.
pub first_many : (tokens items : List Token) (count count' at : ℕ) (d : Token) → items ≡ tokens → SoFar tokens count at → at < length items → count' ≡ open_behind count (slice_index_or items at d).kind → most_open < count' → IsFirstDeep tokens (slice_index_or items at d).span.from
first_many tokens items count count' at d e so inside is many =
    subst (λ xs. IsFirstDeep tokens (slice_index_or xs at d).span.from) (sym e)
    (too_many tokens count count' at d so (subst (λ xs. at < length xs) e inside) (subst (λ xs. count' ≡ open_behind count (slice_index_or xs at d).kind) e is) many)

pub still_few : (tokens items : List Token) (count count' at : ℕ) (d : Token) → items ≡ tokens → SoFar tokens count at → at < length items → count' ≡ open_behind count (slice_index_or items at d).kind → count' ≤ most_open → SoFar tokens count' (at + 1)
still_few tokens items count count' at d e so inside is small =
    one_more tokens count count' at d so (subst (λ xs. at < length xs) e inside) (subst (λ xs. count' ≡ open_behind count (slice_index_or xs at d).kind) e is) small

pub all_few : (tokens items : List Token) (count at : ℕ) → items ≡ tokens → SoFar tokens count at → length items ≤ at → NoneDeep tokens
all_few tokens items count at e so over = λ i less. so.none i (let past : length tokens ≤ at = subst (λ xs. length xs ≤ at) e over in omega arith)
