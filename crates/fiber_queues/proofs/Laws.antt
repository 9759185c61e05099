-- The laws that proofs of other crates cite.

-- the first who passes a test, and those who are left; where none passes, all are left
pub use Rattle.fiber_queues.proofs.Chosen.{chosen-split, left-without_first, none-chosen, first-none, without-all, left-all}
-- those who pass, where something stands for each key
pub use Rattle.fiber_queues.proofs.ChosenKeys.{chosen-keyed, left-keyed, first-keyed, without-keyed}
-- calls on keys, and on what stands for them
pub use Rattle.fiber_queues.proofs.Calls.{same_lists, meant-called, meant-after, least-keyed, woken-all, Stayed, stayed}
-- how often a key stands in lists, and what stands for the keys of lists; also where some are woken by an event
pub use Rattle.fiber_queues.proofs.Keys.{how_often-append, how_often-same, how_often-other, how_often-parted, how_often-listed, length-listed, map-each, map-same, keyed-same, meant-same, meant-woken}
