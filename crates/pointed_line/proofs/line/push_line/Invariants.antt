use Rattle.std.proofs.Common.{◌≡◌, ◌++◌, ◌<◌, IsUtf8, string_bytes, chars}
use Rattle.std.specs.Str.Iter.{chars_rest}
use Rattle.pointed_line.specs.Columns.{stop, written_from, as_shown}
use Rattle.pointed_line.proofs.line.push_line.Given as goal

abbrev pub invariant-loop-character : goal.invariant-loop-character
invariant-loop-character l =
    IsUtf8 (chars_rest l.character-iterator)
    × ((l.behind < stop)
    × (string_bytes l.out ++ written_from as_shown l.behind (chars (chars_rest l.character-iterator)) ≡ string_bytes l.fn.out ++ written_from as_shown 0 (chars l.text)))
