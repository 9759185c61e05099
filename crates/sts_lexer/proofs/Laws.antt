-- The lemmas that proofs of other crates cite.
pub use Rattle.sts_lexer.proofs.Numbering.{slice_get_left}
-- a lexeme ends within the text
pub use Rattle.sts_lexer.proofs.Lexing.{spells_within}
-- a text's tokens by given tables are one list, by other tables they differ in entries alone, and a text that has tokens isn't refused
pub use Rattle.sts_lexer.proofs.Unique.{tokens_same, next_lexeme, next_alike, IsOver, finish_over, finish_same, stop_same}
pub use Rattle.sts_lexer.proofs.Refusing.{tokens_or_refusal}
-- over given tables they are numbered in one way
pub use Rattle.sts_lexer.proofs.SameNumbers.{one_numbering}
-- a word is known by its bytes
pub use Rattle.sts_lexer.proofs.WordTable.{same_word}
-- a test of tokens against a text
pub use Rattle.sts_lexer.proofs.Checked.{is_tokenized, tokenized, finish_behind}
