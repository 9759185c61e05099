use Rattle.std.proofs.Common.{◌≡◌, ◌-◌, drop, length}
use Rattle.type_derive.specs.inner.Filled as b
use Rattle.type_derive.specs.Typing as typing
use Rattle.typed_trees.proofs.build_arguments.frame_of.Given as goal

-- what lies behind is drawn
abbrev pub invariant-loop-i : goal.invariant-loop-i
invariant-loop-i l = l.frame ≡ b.frame_of (typing.drawn (drop (length l.bytes - l.i) l.bytes))
