use Rattle.class_steps.proofs.Same.{same_whole, same_text}
use Rattle.class_steps.proofs.texts.one_class_text.Goals as goal

pub returns-clause-one : goal.returns-clause-one
returns-clause-one g c C budget text other order h k = same_text C budget text other order h k

pub returns-clause-whole : goal.returns-clause-whole
returns-clause-whole g c C budget more text other order h k = same_whole C budget more text other order h k
