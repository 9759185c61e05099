-- The lemmas that other crates cite.
-- one word in front of others
pub use Rattle.sts_words.proofs.Parts.{one-word, all-said}
-- the reader as a function on lists
pub use Rattle.sts_words.proofs.Reader.{said_with, order_of, next}
-- what words that are equal to a text, or begin with one, are
pub use Rattle.sts_words.proofs.Spelled.{same-text, joined-text, Plain, name-plain, is-asked, asked-is, some-asked, one-asked}

-- what words ask for is what the reader gives, and is one
