use Rattle.thumb_layout.proofs.Fixing.{fixes_called, fixes_named, fixes_apart}
use Rattle.thumb_layout.proofs.theorems.fixes_are_what_is_open.Goals as goal

pub returns-clause-calls : goal.returns-clause-calls
returns-clause-calls c = fixes_called

pub returns-clause-addresses : goal.returns-clause-addresses
returns-clause-addresses c = fixes_named

pub returns-clause-apart : goal.returns-clause-apart
returns-clause-apart c = fixes_apart
