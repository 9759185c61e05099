-- What the code's words for a row of the board's interface stand for.
use Rattle.std.specs.Prelude.{pos, map, codes}
use Rattle.sts_syntax.specs.declared.board_rows.BoardParameter as p
use Rattle.sts_syntax.specs.declared.board_rows.BoardParameter.TheVariants as pv
use Rattle.sts_syntax.specs.declared.board_rows.ServicePlace as s
use Rattle.sts_syntax.specs.declared.board_rows.ServicePlace.TheVariants as sv
use Rattle.sts_syntax.specs.declared.board_rows.BoardAction as a
use Rattle.sts_syntax.specs.declared.board_rows.BoardAction.TheVariants as av
use Rattle.sts_syntax.specs.declared.board_rows.BoardConstant as c
use Rattle.sts_syntax.specs.declared.board_rows.BoardConstant.TheVariants as cv
use Rattle.sts_syntax.specs.BoardTable.{BoardParameter, Handler, Drawing, number, text, ServicePlace, Written, Always, BoardAction, Service, Library, Repeats, BoardConstant, constant}

abbrev pub board_parameter : p.BoardParameter → BoardParameter
board_parameter pv.Number = number
board_parameter pv.Text = text
board_parameter pv.Handler = Handler
board_parameter pv.Drawing = Drawing

abbrev pub service_place : s.ServicePlace → ServicePlace
service_place sv.Written = Written
service_place (sv.Always n) = Always n

abbrev pub board_action : a.BoardAction → BoardAction
board_action (av.Service number places) = Service number (map service_place places.now)
board_action (av.Library function) = Library function
board_action av.Repeats = Repeats

abbrev pub constant_of : c.BoardConstant → BoardConstant
constant_of cv.ButtonA = constant (codes "Button") (codes "A") (pos 1)
constant_of cv.ButtonB = constant (codes "Button") (codes "B") (pos 2)
constant_of cv.PinP0 = constant (codes "DigitalPin") (codes "P0") (pos 0)
constant_of cv.PinP1 = constant (codes "DigitalPin") (codes "P1") (pos 1)
constant_of cv.PinP2 = constant (codes "DigitalPin") (codes "P2") (pos 2)
constant_of cv.Reentrant = constant (codes "EventFlags") (codes "Reentrant") (pos 8)
constant_of cv.QueueIfBusy = constant (codes "EventFlags") (codes "QueueIfBusy") (pos 16)
constant_of cv.DropIfBusy = constant (codes "EventFlags") (codes "DropIfBusy") (pos 32)
