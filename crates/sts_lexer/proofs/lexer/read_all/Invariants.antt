use Rattle.std.proofs.Common.{◌-◌, ◌+◌, ◌≤◌, length}
use Rattle.sts_lexer.specs.Spaces.{start_of}
use Rattle.sts_lexer.specs.Tokens.{AreTokens}
use Rattle.sts_lexer.specs.Tables.{Extends}
use Rattle.sts_lexer.specs.Entries.{IsIndexed}
use Rattle.sts_lexer.specs.Uses.{NumbersInOrder}
use Rattle.sts_lexer.proofs.lexer.read_all.Given as goal

abbrev pub invariant-reading : goal.invariant-reading
invariant-reading l = record {
  within : l.at ≤ length l.text;
  read : AreTokens l.tables l.text (start_of l.text) l.all l.at;
  indexed : IsIndexed l.tables l.index;
  names : Extends l.initial.tables.names l.tables.names;
  texts : Extends l.initial.tables.texts l.tables.texts;
  few_names : length l.tables.names ≤ length l.initial.tables.names + l.at;
  in_order : NumbersInOrder l.initial.tables l.tables l.all;
  few_texts : length l.tables.texts ≤ length l.initial.tables.texts + l.at;
}

abbrev pub decreases-reading : goal.decreases-reading
decreases-reading l = length l.text - l.at
