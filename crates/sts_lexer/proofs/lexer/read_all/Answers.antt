use Rattle.std.proofs.Common.{◌≡◌, ◌++◌, ◌∷◌, [], ℕ, List, sym, subst, arith}
use Rattle.std.specs.Prelude.{Ok, Some}
use Rattle.std.proofs.lemmas.Option.{MatchOption-at_some, MatchOption-at_none}
use Rattle.sts_lexer.specs.Spaces.{start_of}
use Rattle.sts_lexer.specs.Lexemes.{Lexeme, Spells}
use Rattle.sts_lexer.specs.Tokens.{AreTokens}
use Rattle.sts_lexer.specs.declared.token.Token.{Token}
use Rattle.sts_lexer.specs.Uses.{NumbersInOrder, NumbersOne}
use Rattle.sts_lexer.proofs.Growing.{numbers_more, numbers_finish, extends_on, tokens_stay, tokens_more}
use Rattle.sts_lexer.proofs.Steps.{mapped, at_ok, on_ok, finish_of, next_of, refusal_of}
use Rattle.sts_lexer.proofs.lexer.read_all.Goals as goal

pub returns-then-from-text-clause-tokens : goal.returns-then-from-text-clause-tokens
returns-then-from-text-clause-tokens c =
    let text = c.args.text.now in
    let token = c.make_token.result in
    let before = c.reading.invariant in
    let pushed : c.push.result ≡ Ok c.in_ok-map_err.field-0 = mapped c.push.result c.map_err.result _ _ c.map_err.ensures.cases c.map_err.ensures.variant c.in_ok-map_err.was in
    record {
      short = c.requires.short;
      utf8 = c.requires.utf8;
      front = c.reading.all;
      stop = c.reading.at;
      read = before.read;
      finish = token;
      ends = finish_of text c.reading.at c.gap_end-from.result token c.has_break-broken.result c.make_token.ensures.kind c.make_token.ensures.from
          c.make_token.ensures.upto c.make_token.ensures.broken c.if-from-text.true c.gap_end-from.ensures.gap.0 c.gap_end-from.ensures.gap.1 c.has_break-broken.ensures;
      all_is = on_ok c.push.result _ _ pushed c.push.ensures.ok;
    }

pub returns-then-from-text-clause-in_order : goal.returns-then-from-text-clause-in_order
returns-then-from-text-clause-in_order c =
    let pushed : c.push.result ≡ Ok c.in_ok-map_err.field-0 = mapped c.push.result c.map_err.result _ _ c.map_err.ensures.cases c.map_err.ensures.variant c.in_ok-map_err.was in
    subst (λ (x : List Token). NumbersInOrder c.args.tables.now c.reading.tables x) (sym (on_ok c.push.result _ _ pushed c.push.ensures.ok))
    (numbers_finish c.args.tables.now c.reading.tables c.reading.all c.make_token.result c.make_token.ensures.kind c.reading.invariant.in_order)

pub returns-in_default-clause-refused : goal.returns-in_default-clause-refused
returns-in_default-clause-refused c =
    let text = c.args.text.now in
    let from = c.gap_end-from.result in
    let before = c.reading.invariant in
    let found : c.kind_at.result ≡ Ok c.in_ok-found.found =
    mapped c.kind_at.result c.map_err-in-reading.result _ _ c.map_err-in-reading.ensures.cases c.map_err-in-reading.ensures.variant c.in_ok-found.was in
    let none : (lexeme : Lexeme) (end : ℕ) → Spells text lexeme from end → ⊥ =
    MatchOption-at_none _ _ c.in_default.is (at_ok c.kind_at.result _ c.in_ok-found.found found c.kind_at.ensures.none) in
    refusal_of text c.cause.result from c.requires.short c.requires.utf8 (record {
      tables = c.reading.tables;
      front = c.reading.all;
      i = c.reading.at;
      read = before.read;
      places = c.gap_end-from.ensures.gap.0;
      gap = c.gap_end-from.ensures.gap.1;
      stuck = record {
        here = omega (arith, c.gap_end-from.ensures.within, c.if-from-text.false);
        no_space = c.gap_end-from.ensures.ends;
        no_lexeme = none;
      };
      by = c.cause.ensures;
    })

pub reading-preserved : goal.reading-preserved
reading-preserved c =
    let text = c.args.text.now in
    let from = c.gap_end-from.result in
    let old = c.reading.tables in
    let new = c.kind_at.new.tables in
    let token = c.make_token-in-reading.result in
    let before = c.reading.invariant in
    let found : c.kind_at.result ≡ Ok c.in_ok-found.found =
    mapped c.kind_at.result c.map_err-in-reading.result _ _ c.map_err-in-reading.ensures.cases c.map_err-in-reading.ensures.variant c.in_ok-found.was in
    let pushed : c.push-in-reading.result ≡ Ok c.in_ok-map_err-2.field-0 =
    mapped c.push-in-reading.result c.map_err-in-reading-2.result _ _ c.map_err-in-reading-2.ensures.cases c.map_err-in-reading-2.ensures.variant c.in_ok-map_err-2.was in
    let reads = MatchOption-at_some _ _ _ c.in-Some.is (at_ok c.kind_at.result _ c.in_ok-found.found found c.kind_at.ensures.reads) in
    let ends = MatchOption-at_some _ _ _ c.in-Some.is (at_ok c.kind_at.result _ c.in_ok-found.found found c.kind_at.ensures.within) in
    let taken : NumbersOne old new (Some (c.in-Some.kind, c.in-Some.upto)) =
    subst (λ x. NumbersOne old new x) c.in-Some.is (at_ok c.kind_at.result _ c.in_ok-found.found found c.kind_at.ensures.in_order) in
    let grew = c.kind_at.ensures.grew in
    let made = c.make_token-in-reading.ensures in
    let next = next_of new text c.reading.at from c.in-Some.upto c.in-Some.kind token c.has_break-broken.result made.kind made.from made.upto made.broken
    c.gap_end-from.ensures.gap.0 c.gap_end-from.ensures.gap.1 c.has_break-broken.ensures reads in
    let more = tokens_more new text (start_of text) c.reading.at c.reading.all token (tokens_stay old new text (start_of text) c.reading.at c.reading.all grew.names grew.texts before.read) next in
    record {
      within = ends.1;
      read = subst (λ (x : List Token). AreTokens new text (start_of text) x c.in-Some.upto) (sym (on_ok c.push-in-reading.result _ _ pushed c.push-in-reading.ensures.ok))
          (subst (λ (x : ℕ). AreTokens new text (start_of text) (c.reading.all ++ token ∷ []) x) made.upto more);
      indexed = on_ok c.kind_at.result _ _ found c.kind_at.ensures.indexed;
      names = extends_on _ _ _ before.names grew.names;
      texts = extends_on _ _ _ before.texts grew.texts;
      few_names = omega (arith, grew.few_names, before.few_names, ends.0, c.gap_end-from.ensures.after);
      in_order = subst (λ (x : List Token). NumbersInOrder c.args.tables.now new x) (sym (on_ok c.push-in-reading.result _ _ pushed c.push-in-reading.ensures.ok))
          (numbers_more c.args.tables.now old new c.reading.all token c.in-Some.kind c.in-Some.upto made.kind before.in_order taken);
      few_texts = omega (arith, grew.few_texts, before.few_texts, ends.0, c.gap_end-from.ensures.after);
    }
