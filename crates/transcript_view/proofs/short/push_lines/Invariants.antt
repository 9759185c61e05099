use Rattle.std.proofs.Common.{◌≡◌, ◌++◌, take, drop}
use Rattle.view_forms.specs.Parts.{lines_in}
use Rattle.view_forms.specs.Rows.{text_of_rows}
use Rattle.transcript_view.proofs.short.push_lines.Given as goal

abbrev pub invariant-loop : goal.invariant-loop
invariant-loop l = record {
  rest : lines_in l.left ≡ drop l.counter (lines_in l.text);
  rows : l.out.items ≡ l.fn.out.items ++ text_of_rows (take l.counter (lines_in l.text));
}
