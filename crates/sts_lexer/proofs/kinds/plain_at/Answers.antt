use Rattle.std.proofs.Common.{sym, ◌∙◌, refl}
use Rattle.sts_lexer.specs.Lexemes.{number, mark}
use Rattle.sts_lexer.proofs.Digits.{if_none, converted, number_fits}
use Rattle.sts_lexer.proofs.Lexing.{number_longest, no_number, mark_longest, no_mark}
use Rattle.sts_lexer.proofs.kinds.plain_at.Goals as goal

pub returns-in_err-value-clause-none : goal.returns-in_err-value-clause-none
returns-in_err-value-clause-none c =
    if_none c.from_residual.result _ (no_number c.args.text.now c.args.at (sym c.is_ascii_digit.ensures.value ∙ c.if-is_ascii_digit.true) c.in_err-value.ensures.none)

pub returns-then-is_ascii_digit-clause-reads : goal.returns-then-is_ascii_digit-clause-reads
returns-then-is_ascii_digit-clause-reads c = λ tables.
    let text = c.args.text.now in
    let value = c.in_ok-value.value in
    let here = c.in_ok-value.ensures.some in
    record {
      lexeme = number value;
      spelled = here;
      longest = number_longest text value c.args.at c.in_ok-value.end here;
      is = converted value c.cast_signed.result (number_fits text value c.args.at c.in_ok-value.end here) c.cast_signed.ensures;
    }

pub returns-in_err-mark-clause-none : goal.returns-in_err-mark-clause-none
returns-in_err-mark-clause-none c =
    if_none c.from_residual-in_err-mark.result _
    (no_mark c.args.text.now c.args.at c.requires.no_name (sym c.is_ascii_digit.ensures.value ∙ c.if-is_ascii_digit.false) c.requires.no_quote
    (λ which end h. c.in_err-mark.ensures.none which end h.0))

pub returns-clause-reads : goal.returns-clause-reads
returns-clause-reads c = λ tables.
    let text = c.args.text.now in
    let which = c.in_ok-mark.mark in
    let here = c.in_ok-mark.ensures in
    let clear = sym c.opens_comment.ensures ∙ c.if-opens_comment.false in
    record {
      lexeme = mark which;
      spelled = (here.some, clear);
      longest = mark_longest text which c.args.at c.in_ok-mark.end (here.some, clear) here.longest;
      is = refl;
    }
