use Rattle.class_file.proofs.Members.{names-members, loss-members, class-members}
use Rattle.class_file.proofs.shapes.members_are_exact.Goals as goal

pub returns-clause-names : goal.returns-clause-names
returns-clause-names c d n h = names-members d n h

pub returns-clause-losses : goal.returns-clause-losses
returns-clause-losses c d l h = loss-members d l h

pub returns-clause-classes : goal.returns-clause-classes
returns-clause-classes c d k h = class-members d k h
