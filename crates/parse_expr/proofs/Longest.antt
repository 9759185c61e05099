-- The longest expression and statement, by what reading finds.
use Rattle.std.proofs.Common.{◌≡◌, ℕ, ◌-◌, ◌<◌, ◌≤◌, sym, subst, length, arith, inl, inr}
use Rattle.std.specs.Prelude.{Bool, true, false, Some, None}
use Rattle.std.proofs.lemmas.Bool.{cases_lt}
use Rattle.sts_syntax.specs.Trees.{Tree, Statement}
use Rattle.sts_syntax.specs.Nesting.{nesting}
use Rattle.sts_grammar.specs.Precedence.{assignment_level}
use Rattle.sts_grammar.specs.Limits.{most_nesting}
use Rattle.sts_grammar.specs.Source.{Source, kind}
use Rattle.sts_grammar.specs.ReadExpressions.{binds_before}
use Rattle.sts_grammar.specs.Spells.{IsExpression}
use Rattle.sts_grammar.specs.Longest.{IsLongestExpression, IsLongestStatement, NoStatement}
use Rattle.sts_grammar.specs.Reading.{expression, statement}
use Rattle.sts_grammar.proofs.Laws.{EndsBy, longest_by, one_statement, read_to_end, no_statement}
use Rattle.sts_grammar.proofs.Laws.{sound_expression, sound_statement}
use Rattle.sts_base.specs.declared.refused.Refused.{Refused}
use Rattle.sts_base.specs.declared.refused.Refused.TheVariants as refused
use Rattle.parse_expr.specs.declared.reader.Unread.{Unread}
use Rattle.parse_expr.specs.declared.reader.Unread.TheVariants.{Syntax, NoMemory}
use Rattle.parse_expr.specs.Answers.{IsSyntaxAt, RefusedFor, IsRefusal, UnreadFor}
use Rattle.parse_expr.specs.Gives.{Fails}
use Rattle.parse_expr.specs.Lasts.{may_be_last}
use Rattle.parse_expr.proofs.Lasts.{operand_last}

-- no expression within the limit stands from i up to n
abbrev pub NoneAt : Source → (i n : ℕ) → Type 0
NoneAt s i n = (e : Tree) → IsExpression s e i n → nesting e ≤ most_nesting → ⊥

pub none_by_last : (s : Source) (i n : ℕ) → may_be_last (kind s (n - 1)) ≡ false → NoneAt s i n
none_by_last s i n h e g fit = let t : may_be_last (kind s (n - 1)) ≡ true = operand_last s assignment_level e i n g in cc

pub none_by_reading : (s : Source) (i n : ℕ) → expression s n most_nesting assignment_level i ≡ None → NoneAt s i n
none_by_reading s i n h e g fit = let t : expression s n most_nesting assignment_level i ≡ Some (e, n) = read_to_end s most_nesting e i n g fit in cc

pub one_less : (s : Source) (i n : ℕ) → EndsBy s most_nesting i n → NoneAt s i n → EndsBy s most_nesting i (n - 1)
one_less s i n all none e j h fit =
    let le : j ≤ n = all e j h fit in
    elim (cases_lt j n) [
      | inl less ↦ omega arith
      | inr more ↦ let same : j ≡ n = omega arith in absurd (none e (subst (λ (k : ℕ). IsExpression s e i k) same h) fit)
    ]

pub is_longest : (s : Source) (i upto : ℕ) (e : Tree) (j : ℕ) → EndsBy s most_nesting i upto → expression s upto most_nesting assignment_level i ≡ Some (e, j) → IsLongestExpression s i e j
is_longest s i upto e j all read =
    let r = sound_expression s upto most_nesting assignment_level i e j read (omega arith) (omega arith) in
    let stops : binds_before s upto j ≡ 0 = let less : binds_before s upto j < 1 = r.2 in omega arith in
    record { spelled = r.0; nested = r.1; longest = longest_by s most_nesting i upto e j r.0 stops all }

pub is_longest_statement : (s : Source) (f l : Bool) (i : ℕ) (a : Statement) (j : ℕ) → statement s most_nesting f l i ≡ Some (a, j) → IsLongestStatement s f l i a j
is_longest_statement s f l i a j read =
    let r = sound_statement s most_nesting f l i a j read in
    record {
      spelled = r.0;
      nested = r.1;
      longest = λ other end g fit. let same : j ≡ end = (one_statement s f l i a j other end r.0 g).1 in omega arith;
    }

pub refused_at : (s : Source) (Fact : Type 0) (why : Refused) → Fact → IsSyntaxAt s why → RefusedFor s Fact why
refused_at s Fact refused.NoMemory fact h = tt
refused_at s Fact (refused.Program code at) fact h = (fact, h)

pub refused_by : (s : Source) (Fact : Type 0) (unread : Unread) (why : Refused) → 0 < length s.tokens → IsRefusal s unread why → UnreadFor Fact unread → RefusedFor s Fact why
refused_by s Fact (Syntax at) why some h fact = refused_at s Fact why fact (h some)
refused_by s Fact NoMemory why some h fact = subst (λ (w : Refused). RefusedFor s Fact w) (sym h) tt

pub unread_statement : (s : Source) (f l : Bool) (i : ℕ) (unread : Unread) → Fails unread (statement s most_nesting f l i) → UnreadFor (NoStatement s f l i) unread
unread_statement s f l i (Syntax at) h = no_statement s f l i h
unread_statement s f l i NoMemory h = tt
