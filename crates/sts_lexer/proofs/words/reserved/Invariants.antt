use Rattle.std.proofs.Common.{◌≡◌, ◌≢◌, ℕ, ◌<◌, slice_get, Some}
use Rattle.sts_lexer.specs.Words.{word_bytes}
use Rattle.sts_lexer.specs.declared.words.Word.{Word}
use Rattle.sts_lexer.proofs.words.reserved.Given as goal

abbrev pub invariant-loop-word : goal.invariant-loop-word
invariant-loop-word l = (k : ℕ) (word : Word) → k < l.word-index → slice_get l.words k ≡ Some word → l.bytes ≢ word_bytes word
