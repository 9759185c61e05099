-- The laws that proofs of other crates cite.

-- entries of a log behind entries
pub use Rattle.board_ports.proofs.History.{logs_then}
-- a history: before any move, a word more, a word for each byte more, a port that settles, an unplug more, and what it leaves in the places
pub use Rattle.board_ports.proofs.History.{follows_first, follows_word, follows_bytes, follows_settle, follows_unplug, places_after}
-- what is left in the places, where the devices then settle
pub use Rattle.board_ports.proofs.History.{places_settled}
-- what is left in the places, where its entries and unplugs are told otherwise
pub use Rattle.board_ports.proofs.History.{places_as}
