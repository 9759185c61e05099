use Rattle.event_script.proofs.Members.{entry-members, script-members}
use Rattle.event_script.proofs.shapes.members_are_exact.Goals as goal

pub returns-clause-entries : goal.returns-clause-entries
returns-clause-entries c d e h = entry-members d e h

pub returns-clause-scripts : goal.returns-clause-scripts
returns-clause-scripts c d s h = script-members d s h
