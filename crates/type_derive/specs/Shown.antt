-- What the code's word for what is called stands for.
use Rattle.std.specs.Prelude.{Bool, false, Option, Some, None, List, [], ◌∷◌, map, if◌then◌else◌}
use Rattle.sts_base.specs.declared.tables.Tables.{Tables}
use Rattle.sts_syntax.specs.BoardTable as board
use Rattle.sts_syntax.specs.BoardTable.{BoardParameter, row_of}
use Rattle.sts_syntax.specs.BoardViews.{board_parameter}
use Rattle.sts_syntax.specs.declared.board_calls.BoardCall.{BoardCall}
use Rattle.sts_syntax.specs.Trees.{Tree, Trees}
use Rattle.sts_scope.specs.declared.kinds.StaticType.{StaticType}
use Rattle.sts_scope.specs.declared.entries.ClassHead.{ClassHead}
use Rattle.sts_scope.specs.declared.known.Known.{Known}
use Rattle.sts_scope.specs.Kinds.{nothing, object}
use Rattle.sts_scope.specs.Places.{NameScope}
use Rattle.sts_scope.specs.Rules.{takes_at, kind_at, maker_takes_of, goes}
use Rattle.type_derive.specs.declared.roles.Role.TheVariants.{Given}
use Rattle.type_derive.specs.declared.callees.Called.{Called}
use Rattle.type_derive.specs.declared.callees.Called.TheVariants as c
use Rattle.type_derive.specs.Typing.{Callee, callee, type_of, fits, is_routine, is_drawing, board_kind, are_given}
use Rattle.type_derive.specs.declared.boards.BoardTakes as rust

abbrev pub shown : Known → Called → Callee
shown k (c.Routine d) = callee (takes_at k.entries d) (kind_at k d)
shown k (c.Push t) = callee (t ∷ []) (Some nothing)
shown k (c.Pop t) = callee [] (Some t)
shown k (c.Maker n) = callee (maker_takes_of k.classes n) (Some (object n))

abbrev pub all_shown : Known → Option Called → Option Callee
all_shown k None = None
all_shown k (Some called) = Some (shown k called)

-- what a call of the board takes and gives
pub record BoardRow : Type 0 where
  pub takes : List BoardParameter
  pub gives : StaticType

abbrev pub row_shown : rust.BoardTakes → BoardRow
row_shown row = record { takes = map board_parameter row.takes.now; gives = row.gives }

abbrev pub row_called : BoardCall → BoardRow
row_called call = record { takes = (row_of call).takes; gives = board_kind (row_of call).gives }

-- a value goes where a type is given, if it has a type itself
abbrev pub goes_some : List ClassHead → Option StaticType → StaticType → Bool
goes_some classes None t = false
goes_some classes (Some s) t = goes classes s t

-- it goes to the first of some types
abbrev pub goes_first : List ClassHead → Option StaticType → List StaticType → Bool
goes_first classes s [] = false
goes_first classes s (t ∷ ts) = goes_some classes s t

-- an argument of a call of the board fits
abbrev pub fits_board : Tables → Known → NameScope → BoardParameter → Tree → Bool
fits_board tables k p (board.Of u) a = fits k (type_of tables k p Given a) (Some (board_kind u))
fits_board tables k p board.Handler a = is_routine tables k p a
fits_board tables k p board.Drawing a = is_drawing tables a

abbrev pub fits_some : Tables → Known → NameScope → Option BoardParameter → Tree → Bool
fits_some tables k p None a = false
fits_some tables k p (Some q) a = fits_board tables k p q a

-- what a call of the board gives, if it is one and its arguments fit
abbrev pub board_given : Tables → Known → NameScope → Option BoardRow → Trees → Option StaticType
board_given tables k p None args = None
board_given tables k p (Some row) args = if are_given tables k p row.takes args then Some row.gives else None
