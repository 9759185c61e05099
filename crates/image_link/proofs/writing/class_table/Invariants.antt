use Rattle.std.proofs.Common.{◌≡◌, ◌++◌, drop}
use Rattle.image_link.specs.Image.{class_table, slot_words}
use Rattle.image_link.specs.inner.{as_addresses}
use Rattle.image_link.proofs.writing.class_table.Given as goal

-- what is put, and what is left to put, is the whole
abbrev pub invariant-loop-function : goal.invariant-loop-function
invariant-loop-function l = l.bytes.items ++ slot_words (as_addresses l.addresses) (drop l.function-index l.class.slots) ≡ class_table (as_addresses l.addresses) l.class
