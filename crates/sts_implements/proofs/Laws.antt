-- The laws that proofs of other crates cite.

-- runs in which nothing arrives
pub use Rattle.sts_implements.proofs.Plain.{plainly, plain_faultless}
-- outcomes that agree, and the turns that go on from them
pub use Rattle.sts_implements.proofs.Agreeing.{Agree, after_matches, agree_then, agree_same}
-- each operation, over the source's heap and over what lowered code has of it
pub use Rattle.sts_implements.proofs.Agreeing.{IsForgotten, AreRows, ArePushed, ArePopped, object_agrees, array_agrees, read_field_agrees, write_field_agrees, read_item_agrees, write_item_agrees, pushed_agrees, popped_agrees, length_agrees, next_item_agrees, new_agrees, open_agrees, write_global_agrees}
-- the passes together
pub use Rattle.sts_implements.proofs.Passes.{passes_implement}
