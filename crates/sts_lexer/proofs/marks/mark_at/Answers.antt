use Rattle.std.proofs.Common.{◌≡◌, ℕ, ◌+◌, ◌-◌, ◌≤◌, ◌<◌, List, length, take, drop, get_or, refl, sym, ap, ◌∙◌, subst, arith}
use Rattle.std.proofs.lemmas.List.{take_rest}
use Rattle.std.proofs.lemmas.Option.{slice_get-get_or}
use Rattle.std.specs.Prelude.{IsTrue, slice_index}
use Rattle.std.specs.Str.{bytes_eq}
use Rattle.sts_lexer.specs.Bytes.{Stands}
use Rattle.sts_lexer.specs.Marks.{mark_bytes}
use Rattle.sts_lexer.specs.inner.{marks_beginning}
use Rattle.sts_lexer.specs.declared.marks.Mark.{Mark}
use Rattle.sts_lexer.specs.declared.marks.Mark.TheVariants.{OpenBrace}
use Rattle.sts_lexer.proofs.Beginnings.{IsAmong, mark_among}
use Rattle.sts_lexer.proofs.LongestMark.{none_more, longest_of, stands_from}
use Rattle.sts_lexer.proofs.MarkTable.{falls, beginnings_fall}
use Rattle.sts_lexer.proofs.marks.mark_at.Goals as goal

-- the test of the rest of the text, which code takes by its length
rest_is : (text bytes : List ℕ) (at : ℕ) → bytes_eq bytes (take (length bytes) (take (length text - at) (drop at text))) ≡ bytes_eq bytes (take (length bytes) (drop at text))
rest_is text bytes at = ap (λ rest. bytes_eq bytes (take (length bytes) rest)) (take_rest text at)

-- a mark that stands is among those that were taken by the byte there
among : (marks : List Mark) (text : List ℕ) (at byte : ℕ) → marks ≡ marks_beginning byte → byte ≡ slice_index text at
    → (mark : Mark) (end : ℕ) → Stands text (mark_bytes mark) at end → IsAmong mark marks
among marks text at byte listed here mark end stands =
    subst (λ (x : List Mark). IsAmong mark x) (sym (listed ∙ ap marks_beginning here)) (mark_among text at end mark stands)

pub loop-mark-preserved : goal.loop-mark-preserved
loop-mark-preserved c =
    let text = c.args.text.now in
    let bytes = c.spelling-bytes.result.now in
    none_more c.marks_beginning-marks.result.now c.loop-mark.mark-index c.args.at text bytes OpenBrace c.spelling-bytes.ensures
    (sym (rest_is text bytes c.args.at) ∙ (sym c.starts_with.ensures.value ∙ c.if-starts_with.false)) c.loop-mark.invariant

pub returns-then-starts_with-clause-some : goal.returns-then-starts_with-clause-some
returns-then-starts_with-clause-some c =
    let text = c.args.text.now in
    let bytes = c.spelling-bytes.result.now in
    let stands = stands_from text bytes c.args.at (sym (rest_is text bytes c.args.at) ∙ (sym c.starts_with.ensures.value ∙ c.if-starts_with.true)) in
    (stands.0 ∙ c.spelling-bytes.ensures, ap (λ (x : List ℕ). c.args.at + length x) c.spelling-bytes.ensures)

pub returns-then-starts_with-clause-longest : goal.returns-then-starts_with-clause-longest
returns-then-starts_with-clause-longest c = λ mark end stands.
    let marks : List Mark = c.marks_beginning-marks.result.now in
    let place = c.loop-mark.mark-index in
    let this : Mark = get_or marks place OpenBrace in
    let (k, below, there) = among marks c.args.text.now c.args.at _ c.marks_beginning-marks.ensures refl mark end stands in
    let falling : IsTrue (falls marks) = subst (λ (x : List Mark). IsTrue (falls x)) (sym c.marks_beginning-marks.ensures) (beginnings_fall (slice_index c.args.text.now c.args.at)) in
    let most : end ≤ c.args.at + length (mark_bytes this) =
    longest_of marks falling c.args.text.now place c.args.at this (slice_get-get_or marks place OpenBrace c.loop-mark-test.true) c.loop-mark.invariant k mark end there stands in
    subst (λ (x : List ℕ). end ≤ c.args.at + length x) (sym c.spelling-bytes.ensures) most

pub returns-clause-none : goal.returns-clause-none
returns-clause-none c = λ mark end stands.
    let (k, below, there) = among c.marks_beginning-marks.result.now c.args.text.now c.args.at _ c.marks_beginning-marks.ensures refl mark end stands in
    c.loop-mark.invariant k mark end (omega (arith, below, c.loop-mark-test.false)) there stands
