use Rattle.std.proofs.Common.{◌≡◌, drop, map}
use Rattle.sts_syntax.specs.BoardTable.{constant_among, constant_named}
use Rattle.sts_syntax.specs.BoardViews.{constant_of}
use Rattle.sts_syntax.proofs.board_rows.board_constant.Given as goal

abbrev pub invariant-loop-constant : goal.invariant-loop-constant
invariant-loop-constant l = constant_among (map constant_of (drop l.constant-index l.constant-items)) l.space l.name ≡ constant_named l.space l.name
