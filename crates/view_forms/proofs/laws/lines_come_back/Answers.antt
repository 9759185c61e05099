use Rattle.std.proofs.Common.{max, ◌/◌}
use Rattle.view_forms.proofs.Rows.{view-back}
use Rattle.view_forms.proofs.laws.lines_come_back.Goals as goal

pub returns : goal.returns
returns c notes below width input h = view-back notes below (max (width / 13) 1) input h
