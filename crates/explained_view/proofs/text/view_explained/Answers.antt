use Rattle.std.proofs.Common.{[]}
use Rattle.tool_io.proofs.Laws.{part-nothing}
use Rattle.explained_view.proofs.text.view_explained.Goals as goal

pub returns-in-Err-clause-part : goal.returns-in-Err-clause-part
returns-in-Err-clause-part g c = ([], [], part-nothing _ _)
