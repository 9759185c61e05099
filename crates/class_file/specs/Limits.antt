-- What the form of a class sets.
use Rattle.std.specs.Prelude.{ℕ}

-- boards of a class
abbrev pub board_limit : ℕ
board_limit = 8

-- the last board; the first is 0
abbrev pub last_board : ℕ
last_board = 7

-- losses
abbrev pub loss_limit : ℕ
loss_limit = 4096
