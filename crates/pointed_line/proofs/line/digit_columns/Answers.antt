use Rattle.std.proofs.Common.{◌∙◌, sym, ap, ◌*◌, encode_utf8}
use Rattle.pointed_line.proofs.Digits.{length-digits}
use Rattle.pointed_line.proofs.line.digit_columns.Goals as goal

pub returns-clause-value : goal.returns-clause-value
returns-clause-value c = ap (λ n. 4 * n) c.len_utf8.ensures.len ∙ sym (length-digits (encode_utf8 c.args.character))
