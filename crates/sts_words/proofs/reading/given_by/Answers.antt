use Rattle.std.proofs.Common.{◌∷◌, ◌∙◌, ap, sym}
use Rattle.std.specs.Prelude.{None, map, string_bytes, option_and_then}
use Rattle.std.specs.Option.{option_map}
use Rattle.sts_words.specs.Words.{asked_by}
use Rattle.sts_words.specs.Views.{said_view}
use Rattle.sts_words.proofs.Parts.{more-said, awaiting-none, nothing-left}
use Rattle.sts_words.proofs.Spelled.{is-asked}
use Rattle.sts_words.proofs.reading.given_by.Goals as goal

pub returns-in_err-so_far-clause-said : goal.returns-in_err-so_far-clause-said
returns-in_err-so_far-clause-said c command =
    is-asked (command ∷ map string_bytes c.args.words.now) _ (ap (option_and_then (asked_by command))
    (ap (option_map said_view) c.from_residual.ensures
    ∙ more-said string_bytes c.args.words.now c.loop-word.word-index c.word-item.result c.as_str.result.now (said_view c.loop-word.so_far.0) c.loop-word.so_far.1 _ None
    c.loop-word-test.true c.word-item.is c.as_str.ensures.value c.loop-word.invariant.said
    (sym (ap (option_map (λ after. (said_view after.0, after.1))) c.in_err-so_far.was) ∙ c.with_word.ensures.next)))

pub loop-word-preserved : goal.loop-word-preserved
loop-word-preserved c = record {
  said = more-said string_bytes c.args.words.now c.loop-word.word-index c.word-item.result c.as_str.result.now (said_view c.loop-word.so_far.0) c.loop-word.so_far.1 _ _
      c.loop-word-test.true c.word-item.is c.as_str.ensures.value c.loop-word.invariant.said
      (sym (ap (option_map (λ after. (said_view after.0, after.1))) c.in_ok-so_far.was) ∙ c.with_word.ensures.next);
  range = c.in_ok-so_far.ensures.range c.loop-word.invariant.range;
}

pub returns-then-so_far-clause-said : goal.returns-then-so_far-clause-said
returns-then-so_far-clause-said c command =
    is-asked (command ∷ map string_bytes c.args.words.now) _ (ap (option_and_then (asked_by command))
    (awaiting-none string_bytes c.args.words.now c.loop-word.word-index (said_view c.loop-word.so_far.0) c.loop-word.so_far.1 _ c.loop-word-test.false c.if-so_far.true
    c.loop-word.invariant.said))

pub returns-else-so_far-clause-said : goal.returns-else-so_far-clause-said
returns-else-so_far-clause-said c command =
    is-asked (command ∷ map string_bytes c.args.words.now) _ (ap (option_and_then (asked_by command))
    (nothing-left string_bytes c.args.words.now c.loop-word.word-index (said_view c.loop-word.so_far.0) c.loop-word.so_far.1 _ c.loop-word-test.false c.if-so_far.false
    c.loop-word.invariant.said))
