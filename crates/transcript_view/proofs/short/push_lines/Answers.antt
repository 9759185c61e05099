use Rattle.std.proofs.Common.{◌∙◌, sym, ap, ◌++◌, take, arith}
use Rattle.view_forms.specs.Parts.{lines_in}
use Rattle.view_forms.specs.Rows.{text_of_rows}
use Rattle.transcript_view.proofs.Fewer.{some-left, next-rest, next-taken, row-more}
use Rattle.transcript_view.proofs.short.push_lines.Goals as goal

pub first_line-requires : goal.first_line-requires
first_line-requires c = some-left c.loop.left.now c.loop.counter (lines_in c.args.text.now) c.loop.invariant.rest (omega (arith, c.loop-test.true, c.requires))

pub loop-preserved : goal.loop-preserved
loop-preserved c =
    let here = sym c.loop.invariant.rest ∙ c.first_line.ensures.parts in
    let line = c.first_line.result.0.now in
    let rest = lines_in c.first_line.result.1.now in
    let L = lines_in c.args.text.now in
    record {
      rest = next-rest c.loop.counter L line rest here;
      rows = row-more c.args.out.now.items c.loop.out.items c.push_row.new.out.items line (take c.loop.counter L) c.loop.invariant.rows c.in_ok-push_row.ensures
          ∙ ap (λ t. c.args.out.now.items ++ text_of_rows t) (sym (next-taken c.loop.counter L line rest here));
    }
