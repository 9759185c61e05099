use Rattle.std.proofs.Common.{◌≡◌, ℕ, List, subst}
use Rattle.std.specs.Prelude.{Some, slice_get}
use Rattle.std.proofs.lemmas.Option.{MatchOption-at_some, MatchOption-at_none}
use Rattle.sts_lexer.specs.Lexemes.{quoted}
use Rattle.sts_lexer.proofs.Bodies.{quoted_within}
use Rattle.sts_lexer.proofs.Lexing.{quoted_longest, no_quoted}
use Rattle.sts_lexer.proofs.kinds.text_at.Goals as goal

pub returns-in_default-clause-none : goal.returns-in_default-clause-none
returns-in_default-clause-none c =
    no_quoted c.args.text.now c.args.at c.requires.opens (MatchOption-at_none _ _ c.in_default.is c.in_ok-value.ensures.none)

pub returns-clause-reads : goal.returns-clause-reads
returns-clause-reads c =
    let text = c.args.text.now in
    let here = MatchOption-at_some _ _ _ c.in-Some.is c.in_ok-value.ensures.some in
    record {
      lexeme = quoted c.in-Some.value;
      spelled = here;
      longest = quoted_longest text c.in-Some.value c.args.at c.in-Some.end here;
      is = subst (λ (x : List ℕ). slice_get c.entry_of.new.strings c.in_ok-entry.entry ≡ Some x) c.as_slice.ensures c.in_ok-entry.ensures.entry;
    }

pub returns-clause-within : goal.returns-clause-within
returns-clause-within c =
    quoted_within c.args.text.now c.in-Some.value c.args.at c.in-Some.end (MatchOption-at_some _ _ _ c.in-Some.is c.in_ok-value.ensures.some)
