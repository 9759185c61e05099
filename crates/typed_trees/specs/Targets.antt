-- Targets that are members.
use Rattle.std.specs.Prelude.{Bool, true, false}
use Rattle.sts_syntax.specs.Trees.{Tree, Member}

abbrev pub is_member : Tree → Bool
is_member (Member at a m) = true
is_member _ = false
