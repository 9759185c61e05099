-- One tree, and the longest: whatever is spelled twice is read twice.
use Rattle.std.proofs.Common.{◌≡◌, ℕ, zero, suc, ◌+◌, ◌-◌, ◌<◌, ◌≤◌, length, sym, ap, ◌∙◌, subst, arith, inl, inr, le-ltb}
use Rattle.std.specs.Prelude.{max, Bool, Some, None, if◌then◌else◌}
use Rattle.std.proofs.lemmas.Bool.{cases_lt}
use Rattle.std.specs.Option.{option_or}
use Rattle.sts_syntax.specs.Trees.{Tree, Statement}
use Rattle.sts_syntax.specs.Nesting.{nesting, statement_nesting}
use Rattle.sts_grammar.specs.Precedence.{assignment_level}
use Rattle.sts_grammar.specs.Limits.{most_nesting}
use Rattle.sts_grammar.specs.Source.{Source}
use Rattle.sts_grammar.specs.Ends.{binds}
use Rattle.sts_grammar.specs.Spells.{IsBare, IsStatement, IsExpression, IsWholeExpression}
use Rattle.sts_grammar.specs.Longest.{IsLongestExpression, NoExpression, IsLongestStatement, NoStatement}
use Rattle.sts_grammar.specs.Found.{Found}
use Rattle.sts_grammar.specs.ReadExpressions.{binds_before}
use Rattle.sts_grammar.specs.Reading.{expression, statement, longest_expression}
use Rattle.sts_grammar.proofs.Tokens.{never, both_are}
use Rattle.sts_grammar.proofs.Spans.{Within, operand_spans, bare_spans}
use Rattle.sts_grammar.proofs.Levels.{binds_inside, binds_le}
use Rattle.sts_grammar.proofs.Complete.{complete_expr, complete_stmt}
use Rattle.sts_grammar.proofs.Sound.{sound_expression, sound_statement}

-- nothing binds where the tokens that are taken end
binds_at_end : (s : Source) (upto : ℕ) → binds_before s upto upto ≡ 0
binds_at_end s upto = ap (λ x. if x then binds s upto else 0) (le-ltb upto upto (omega arith))

-- An expression is read with its end as the bound.
pub read_to_end : (s : Source) (room : ℕ) (e : Tree) (i j : ℕ) → IsExpression s e i j → nesting e ≤ room → expression s j room 1 i ≡ Some (e, j)
read_to_end s room e i j h fit = complete_expr s j room 1 e i j h fit (omega arith) (omega (arith, binds_at_end s j))

-- A whole expression is read, whatever the bound behind it.
pub read_whole : (s : Source) (upto room : ℕ) (e : Tree) (i j : ℕ) → IsWholeExpression s e i j → nesting e ≤ room → j ≤ upto → expression s upto room 1 i ≡ Some (e, j)
read_whole s upto room e i j h fit le =
    let z : binds s j ≡ 0 = h.1 in complete_expr s upto room 1 e i j h.0 fit le (omega (arith, binds_le s upto j))

pub one_between : (s : Source) (i j : ℕ) (e e' : Tree) → IsExpression s e i j → IsExpression s e' i j → e ≡ e'
one_between s i j e e' h h' =
    let a = read_to_end s (max (nesting e) (nesting e')) e i j h (omega arith) in
    let b = read_to_end s (max (nesting e) (nesting e')) e' i j h' (omega arith) in
    let p = both_are e j e' j (sym a ∙ b) in p.0

pub one_whole : (s : Source) (i : ℕ) (e : Tree) (j : ℕ) (e' : Tree) (j' : ℕ) → IsWholeExpression s e i j → IsWholeExpression s e' i j' → (e ≡ e') × (j ≡ j')
one_whole s i e j e' j' h h' =
    let a = read_whole s (max j j') (max (nesting e) (nesting e')) e i j h (omega arith) (omega arith) in
    let b = read_whole s (max j j') (max (nesting e) (nesting e')) e' i j' h' (omega arith) (omega arith) in
    both_are e j e' j' (sym a ∙ b)

pub one_statement : (s : Source) (f l : Bool) (i : ℕ) (a : Statement) (j : ℕ) (a' : Statement) (j' : ℕ) → IsStatement s f l a i j → IsStatement s f l a' i j' → (a ≡ a') × (j ≡ j')
one_statement s f l i a j a' j' h h' =
    let x = complete_stmt s (max (statement_nesting a) (statement_nesting a')) f l a i j h (omega arith) in
    let y = complete_stmt s (max (statement_nesting a) (statement_nesting a')) f l a' i j' h' (omega arith) in
    both_are a j a' j' (sym x ∙ y)

-- The longest.

-- Where nothing before a bound goes on with an expression, no other one from there ends behind it and up to that bound.
pub none_longer : (s : Source) (upto i : ℕ) (e : Tree) (j : ℕ) → IsExpression s e i j → binds_before s upto j ≡ 0 → (other : Tree) (end : ℕ) → IsExpression s other i end → end ≤ upto → end ≤ j
none_longer s upto i e j h z other end g le =
    elim (cases_lt j end) [
      | inl lt ↦ (
          let here : binds_before s end j ≡ 0 = binds_inside s end j lt ∙ sym (binds_inside s upto j (omega arith)) ∙ z in
          let a : expression s end (max (nesting e) (nesting other)) 1 i ≡ Some (e, j) =
          complete_expr s end (max (nesting e) (nesting other)) 1 e i j h (omega arith) (omega arith) (omega arith) in
          let b : expression s end (max (nesting e) (nesting other)) 1 i ≡ Some (other, end) =
          read_to_end s (max (nesting e) (nesting other)) other i end g (omega arith) in
          let p = both_are e j other end (sym a ∙ b) in
          let same : j ≡ end = p.1 in omega arith)
      | inr ge ↦ ge
    ]

-- Every expression from i ends at most there, so long as its nesting is within a limit.
abbrev pub EndsBy : Source → (room i upto : ℕ) → Type 0
EndsBy s room i upto = (e : Tree) (j : ℕ) → IsExpression s e i j → nesting e ≤ room → j ≤ upto

-- at first: all end within the tokens
pub ends_by_length : (s : Source) (room i : ℕ) → EndsBy s room i (length s.tokens)
ends_by_length s room i e j h fit = let x : Within s i j = operand_spans s 1 e (IsBare s e) (bare_spans s e) i j h in x.inside

-- where nothing is read with that bound, one before it will do
pub ends_by_less : (s : Source) (room i upto : ℕ) → expression s upto room 1 i ≡ None → EndsBy s room i upto → EndsBy s room i (upto - 1)
ends_by_less s room i upto none all e j h fit =
    let le : j ≤ upto = all e j h fit in
    elim (cases_lt j upto) [
      | inl lt ↦ omega arith
      | inr ge ↦ (
          let same : j ≡ upto = omega arith in
          let read : expression s upto room 1 i ≡ Some (e, upto) =
          read_to_end s room e i upto (subst (λ z. IsExpression s e i z) same h) fit in
          never (e, upto) (sym none ∙ read))
    ]

-- where the bound has come down to i, there is none
pub ends_by_none : (s : Source) (room i upto : ℕ) → upto ≤ i → EndsBy s room i upto → (e : Tree) (j : ℕ) → IsExpression s e i j → nesting e ≤ room → ⊥
ends_by_none s room i upto le all e j h fit =
    let x : Within s i j = operand_spans s 1 e (IsBare s e) (bare_spans s e) i j h in
    let less : i < j = x.less in
    let within : j ≤ upto = all e j h fit in omega arith

-- An expression that nothing before the bound goes on with is the longest, if all end by the bound.
pub longest_by : (s : Source) (room i upto : ℕ) (e : Tree) (j : ℕ) → IsExpression s e i j → binds_before s upto j ≡ 0 → EndsBy s room i upto → (other : Tree) (end : ℕ) → IsExpression s other i end → nesting other ≤ room → end ≤ j
longest_by s room i upto e j h z all other end g fit = none_longer s upto i e j h z other end g (all other end g fit)

-- Where no statement is read, there is none.
pub no_statement : (s : Source) (f l : Bool) (i : ℕ) → statement s most_nesting f l i ≡ None → NoStatement s f l i
no_statement s f l i none a j h fit = never (a, j) (sym none ∙ complete_stmt s most_nesting f l a i j h fit)

pub one_longest : (s : Source) (i : ℕ) (e : Tree) (j : ℕ) (e' : Tree) (j' : ℕ) → IsLongestExpression s i e j → IsLongestExpression s i e' j' → (e ≡ e') × (j ≡ j')
one_longest s i e j e' j' h h' =
    let up : j' ≤ j = h.longest e' j' h'.spelled h'.nested in
    let down : j ≤ j' = h'.longest e j h.spelled h.nested in
    let same : j ≡ j' = omega arith in
    (one_between s i j' e e' (subst (λ z. IsExpression s e i z) same h.spelled) h'.spelled, same)

longest_if : (s : Source) (i upto : ℕ) (e : Tree) (j : ℕ) → EndsBy s most_nesting i upto → expression s upto most_nesting assignment_level i ≡ Some (e, j) → IsLongestExpression s i e j
longest_if s i upto e j all h =
    let r = sound_expression s upto most_nesting assignment_level i e j h (omega arith) (omega arith) in
    let stops : binds_before s upto j < 1 = r.2 in
    record { spelled = r.0; nested = r.1; longest = longest_by s most_nesting i upto e j r.0 (omega arith) all }

longest_step : (s : Source) (i n : ℕ) (r : Found Tree) (other : Found Tree) (e : Tree) (j : ℕ) → expression s (n + 1) most_nesting assignment_level i ≡ r → EndsBy s most_nesting i (n + 1) → (EndsBy s most_nesting i n → other ≡ Some (e, j) → IsLongestExpression s i e j) → option_or r other ≡ Some (e, j) → IsLongestExpression s i e j
longest_step s i n (Some x) other e j q all go h = longest_if s i (n + 1) e j all (q ∙ h)
longest_step s i n None other e j q all go h =
    let back : n + 1 - 1 ≡ n = omega arith in go (subst (EndsBy s most_nesting i) back (ends_by_less s most_nesting i (n + 1) q all)) h

longest_sound : (s : Source) (i n : ℕ) (e : Tree) (j : ℕ) → EndsBy s most_nesting i n → longest_expression s n i ≡ Some (e, j) → IsLongestExpression s i e j
unfolding longest_expression
longest_sound s i zero e j all h = never (e, j) h
longest_sound s i (suc n) e j all h =
    let one : suc n ≡ n + 1 = omega arith in
    longest_step s i n (expression s (suc n) most_nesting assignment_level i) (longest_expression s n i) e j (ap (λ z. expression s z most_nesting assignment_level i) (sym one)) (subst (EndsBy s most_nesting i) one all) (λ less g. longest_sound s i n e j less g) h

none_step : (s : Source) (i n : ℕ) (r : Found Tree) (other : Found Tree) → expression s (n + 1) most_nesting assignment_level i ≡ r → EndsBy s most_nesting i (n + 1) → (EndsBy s most_nesting i n → other ≡ None → NoExpression s i) → option_or r other ≡ None → NoExpression s i
none_step s i n (Some x) other q all go h = never x (sym h)
none_step s i n None other q all go h =
    let back : n + 1 - 1 ≡ n = omega arith in go (subst (EndsBy s most_nesting i) back (ends_by_less s most_nesting i (n + 1) q all)) h

none_sound : (s : Source) (i n : ℕ) → EndsBy s most_nesting i n → longest_expression s n i ≡ None → NoExpression s i
unfolding longest_expression
none_sound s i zero all h = ends_by_none s most_nesting i 0 (omega arith) all
none_sound s i (suc n) all h =
    let one : suc n ≡ n + 1 = omega arith in
    none_step s i n (expression s (suc n) most_nesting assignment_level i) (longest_expression s n i) (ap (λ z. expression s z most_nesting assignment_level i) (sym one)) (subst (EndsBy s most_nesting i) one all) (λ less g. none_sound s i n less g) h

-- What the loop over bounds finds is the longest expression, and where it finds nothing there is none.
pub longest_read : (s : Source) (i : ℕ) (e : Tree) (j : ℕ) → longest_expression s (length s.tokens) i ≡ Some (e, j) → IsLongestExpression s i e j
longest_read s i e j h = longest_sound s i (length s.tokens) e j (ends_by_length s most_nesting i) h

pub none_read : (s : Source) (i : ℕ) → longest_expression s (length s.tokens) i ≡ None → NoExpression s i
none_read s i h = none_sound s i (length s.tokens) (ends_by_length s most_nesting i) h

-- A statement that is read is the longest.
pub longest_statement : (s : Source) (f l : Bool) (i : ℕ) (a : Statement) (j : ℕ) → statement s most_nesting f l i ≡ Some (a, j) → IsLongestStatement s f l i a j
longest_statement s f l i a j h =
    let r = sound_statement s most_nesting f l i a j h in record {
      spelled = r.0;
      nested = r.1;
      longest = λ other end g fit. let same = one_statement s f l i other end a j g r.0 in let e : end ≡ j = same.1 in omega arith;
    }
