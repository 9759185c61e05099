use Rattle.std.proofs.Common.{◌≡◌, ◌==◌, false, length, sym, ◌∙◌}
use Rattle.std.proofs.lemmas.Bool.{eqb-true}
use Rattle.std.proofs.lemmas.Result.{err_from_is_err_and}
use Rattle.hex_image.specs.Records.{full_lines}
use Rattle.hex_image.specs.Reading.{behind_lines}
use Rattle.hex_image.specs.Reader.{seen}
use Rattle.hex_image.proofs.LoopLemmas.{line_refused, line_taken, lines_done}
use Rattle.hex_image.proofs.reading.take_lines.Goals as goal

pub returns-in_err-take_line : goal.returns-in_err-take_line
returns-in_err-take_line c =
    let p = err_from_is_err_and c.from_residual.result c.from_residual.ensures.1 in
    let full : (length c.first_line.result.0.now == 0) ≡ false = sym c.is_empty-in-loop-rest.ensures ∙ c.if-not-is_empty.true in
    rw (p.1, p.2) (line_refused c.in_err-take_line.field-0.0 (seen c.loop-rest.reader) c.loop-rest.rest.now c.first_line.result.0.now c.first_line.result.1.now
    (behind_lines (seen c.args.reader.now) (full_lines c.args.text.now)) c.first_line.ensures.line full (c.in_err-take_line.ensures) c.loop-rest.invariant)

pub loop-rest-preserved-in_ok-take_line : goal.loop-rest-preserved-in_ok-take_line
loop-rest-preserved-in_ok-take_line c =
    let full : (length c.first_line.result.0.now == 0) ≡ false = sym c.is_empty-in-loop-rest.ensures ∙ c.if-not-is_empty.true in
    line_taken (seen c.loop-rest.reader) (seen c.take_line.new.reader) c.loop-rest.rest.now c.first_line.result.0.now c.first_line.result.1.now
    (behind_lines (seen c.args.reader.now) (full_lines c.args.text.now)) c.first_line.ensures.line full (c.in_ok-take_line.ensures) c.loop-rest.invariant

pub returns : goal.returns
returns c =
    lines_done (seen c.loop-rest.reader) c.loop-rest.rest.now (behind_lines (seen c.args.reader.now) (full_lines c.args.text.now))
    (eqb-true (length c.loop-rest.rest.now) 0 (sym c.is_empty.ensures ∙ c.loop-rest-test.false)) c.loop-rest.invariant
