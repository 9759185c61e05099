use Rattle.std.proofs.Common.{◌≡◌, drop}
use Rattle.std.specs.Prelude.{false, map, string_bytes}
use Rattle.sts_words.specs.Orders.{HasBudget}
use Rattle.sts_words.specs.Views.{said_view}
use Rattle.sts_words.proofs.Reader.{said_with}
use Rattle.sts_words.specs.Words.{nothing}
use Rattle.sts_words.proofs.reading.given_by.Given as goal

-- what is said, with the words that are left, is what all the words say
abbrev pub invariant-loop-word : goal.invariant-loop-word
invariant-loop-word l = record {
  said : said_with (said_view l.so_far.0) l.so_far.1 (map string_bytes (drop l.word-index l.words)) ≡ said_with nothing false (map string_bytes l.words);
  range : HasBudget l.so_far.0.budget;
}
