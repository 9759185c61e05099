-- What a class that was read keeps to.
use Rattle.std.specs.Prelude.{◌≤◌, length, All}
use Rattle.std.specs.Str.{IsUtf8}
use Rattle.board_world.specs.Limits.{end_limit}
use Rattle.class_file.specs.declared.class.Names.{Names}
use Rattle.class_file.specs.declared.class.Loss.{Loss}
use Rattle.class_file.specs.declared.class.ClassFile.{ClassFile}
use Rattle.class_file.specs.Limits.{board_limit, last_board, loss_limit}

-- both names of a board are UTF-8
abbrev pub AreTexts : Names → Type 0
AreTexts n = IsUtf8 n.program × IsUtf8 n.script

-- the moment of a loss is at most the latest end, and its boards are at most the last one
abbrev pub IsSmall : Loss → Type 0
IsSmall l = (l.at ≤ end_limit) × (l.«from» ≤ last_board) × (l.to ≤ last_board)

pub record IsWithinForm (c : ClassFile) : Type 0 where
  pub end : c.end ≤ end_limit
  pub some : 1 ≤ length c.boards
  pub few : length c.boards ≤ board_limit
  pub losses : length c.lose ≤ loss_limit
  pub small : All IsSmall c.lose
