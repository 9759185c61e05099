use Rattle.std.proofs.Common.{◌<◌, ◌^◌, List, ℕ, sym, subst, ◌∙◌}
use Rattle.std.specs.Prelude.{SomeIff}
use Rattle.std.specs.Str.Parse.{digits_value, ParsesUnsigned}
use Rattle.sts_lexer.proofs.Digits.{digits_utf8, parsed, ok_part, err_part}
use Rattle.sts_lexer.proofs.numbers.value_of.Goals as goal

pub returns-in_err-text : goal.returns-in_err-text
returns-in_err-text c =
    let digits = c.args.digits.now in
    let err = err_part c.from_utf8.result _ _ c.from_utf8.ensures.cases (sym c.ok.ensures.value ∙ c.in_err-text.was) in
    absurd (err.1.0 (digits_utf8 c.args.radix digits c.requires.sixteen c.requires.digits))

pub returns : goal.returns
returns c =
    let digits = c.args.digits.now in
    let ok = ok_part c.from_utf8.result _ _ c.from_utf8.ensures.cases c.in_ok-text.text (sym c.ok.ensures.value ∙ c.in_ok-text.was) in
    let parses : ParsesUnsigned 32 c.args.radix digits c.from_str_radix.result =
    subst (λ (x : List ℕ). ParsesUnsigned 32 c.args.radix x c.from_str_radix.result) ok.0 c.from_str_radix.ensures.value in
    subst (λ r. SomeIff r (digits_value c.args.radix digits < 2 ^ 32) (digits_value c.args.radix digits)) (sym c.ok-2.ensures.value)
    (parsed c.args.radix digits c.from_str_radix.result parses c.requires.sixteen c.requires.some c.requires.digits)
