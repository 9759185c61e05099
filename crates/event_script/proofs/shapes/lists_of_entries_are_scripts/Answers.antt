use Rattle.std.proofs.Common.{◌∙◌, ap, Some}
use Rattle.board_world.specs.Limits.{end_limit}
use Rattle.event_script.specs.Form.{script_with, entries_of}
use Rattle.event_script.proofs.Soundness.{within-limit}
use Rattle.event_script.proofs.shapes.lists_of_entries_are_scripts.Goals as goal

pub returns : goal.returns
returns c end events entries h k = ap (λ o. script_with o (entries_of events)) (within-limit end_limit end h) ∙ ap (script_with (Some end)) k
