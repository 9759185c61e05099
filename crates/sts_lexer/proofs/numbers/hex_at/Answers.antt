use Rattle.std.proofs.Common.{◌≡◌, ◌+◌, ℕ, sym, subst, ◌∙◌, arith}
use Rattle.std.specs.Prelude.{slice_index, IsTrue}
use Rattle.std.proofs.lemmas.Bool.{false≢true}
use Rattle.sts_lexer.specs.Lexemes.{ends_number}
use Rattle.sts_lexer.proofs.Digits.{digits_between, hex_value, hex_end}
use Rattle.sts_lexer.proofs.numbers.hex_at.Goals as goal
use Rattle.sts_lexer.proofs.numbers.hex_at.Goals.{else-from-end-via-then-from-end+else-may_end, else-from-end-via-else-from-end}

pub value_of-requires-clause-digits : goal.value_of-requires-clause-digits
value_of-requires-clause-digits c =
    digits_between 16 c.args.text.now (c.args.at + 2) c.run_end-end.result (λ k from below. hex_value (slice_index c.args.text.now k) (c.run_end-end.ensures.each k from below))

pub returns-else-from-end-clause-none : goal.returns-else-from-end-clause-none
returns-else-from-end-clause-none c = λ value end hex is.
    let text = c.args.text.now in
    let run = c.run_end-end.ensures in
    let same : end ≡ c.run_end-end.result = hex_end text (c.args.at + 2) c.run_end-end.result end run.within run.each run.ends run.after hex.2 is.ends in
    elim c.else-from-end.branch [
      | else-from-end-via-then-from-end+else-may_end w ↦
          false≢true (sym w.if-may_end.false ∙ (w.may_end.ensures ∙ subst (λ (x : ℕ). IsTrue (ends_number (slice_index text x))) same is.ends))
      | else-from-end-via-else-from-end w ↦ absurd (omega (arith, same, hex.2.0, w.if-from-end.false))
    ]
