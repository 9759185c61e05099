use Rattle.arrival_file.proofs.Members.{arrival-members, list-members}
use Rattle.arrival_file.proofs.shapes.members_are_exact.Goals as goal

pub returns-clause-rows : goal.returns-clause-rows
returns-clause-rows c d a h = arrival-members d a h

pub returns-clause-lists : goal.returns-clause-lists
returns-clause-lists c d arrivals h = list-members d arrivals h
