-- The laws that other crates cite.

-- words with their sign
pub use Rattle.arena_values.proofs.Addresses.{which}
pub use Rattle.arena_values.proofs.Signs.{signed_low, signed_high, index_is, null_is, negative_is}
pub use Rattle.arena_values.proofs.Numbers.{Reads, word_is, sum_reads, answer_reads, fitting_word, fits_read}
-- what the words show of an operation: the definitions, and each operation that changes no allocation
pub use Rattle.arena_values.proofs.Showing.{IsNull, Header, PastItems, NoItem, ClassSeen, SeesClass, FieldSeen, SeesField, ItemSeen, SeesItem, LengthSeen, SeesLength, FieldChanged, ChangesField, ItemChanged, ChangesItem, ItemPopped, PopsItem, PushesAs}
pub use Rattle.arena_values.proofs.Seen.{sees_class, sees_field, changes_field, sees_item, changes_item, sees_length, pops, sees_global, changes_global}
-- new objects and arrays, and how a run begins
pub use Rattle.arena_values.proofs.Making.{shows_object, shows_array, shows_nothing}
-- the service that puts a value behind an array's items
pub use Rattle.arena_values.proofs.Pushing.{pushes_as}
-- the words of operators and conditions
pub use Rattle.arena_values.proofs.Operators.{compared, shifted_by, operated, prefix_word}
pub use Rattle.arena_values.proofs.Comparing.{Tells, words_tell, words_equal, words_unequal, words_below}
pub use Rattle.arena_values.proofs.Equal.{AreWords, same_words, is_small}
pub use Rattle.arena_values.proofs.Operating.{Leaves, applied_leaves, applied_before_leaves, more_leaves, less_leaves, decided_is}
