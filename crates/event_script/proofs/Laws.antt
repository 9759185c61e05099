-- The lemmas that proofs of other crates cite.

-- what is known of whatever is read: of what passes a test, of whole numbers, of acts, and of each item of a list
pub use Rattle.event_script.proofs.Soundness.{IsFine, only-some, whole-some, act-some}
pub use Rattle.event_script.proofs.Lists.{list-some}
-- numbers within their limits are read
pub use Rattle.event_script.proofs.Soundness.{within-limit}
-- which members an object has: what is read is there, and as many members as names are exactly those
pub use Rattle.event_script.proofs.Members.{whole-there, text-there, list-there, two, three, four, Known, known}
pub use Rattle.event_script.proofs.Exactly.{exactly, distinct}
