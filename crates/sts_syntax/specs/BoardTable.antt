-- The board's interface: one row for each of its calls, and its constants. Names, types, measures, the meaning of programs and
-- their code all read this table.
use Rattle.std.specs.Prelude.{ℕ, ℤ, pos, Bool, true, false, ◌&&◌, if◌then◌else◌, ◌==◌, Option, Some, None, List, [], ◌∷◌, codes}
use Rattle.board_services.specs.declared.numbers.TheConstants.{PANIC, PAUSE, WAIT, SPAWN, LISTEN, RAISE, TIME, EVENT_VALUE, BUTTON, PLOT, SHOW, WRITE_NUMBER, WRITE_TEXT, WRITE_PIN, SEND, TEXT_GLYPH, NUMBER_GLYPH, LISTEN_IN_MODE, RAISE_NOW}
use Rattle.sts_syntax.specs.declared.board_calls.BoardCall.{BoardCall}
use Rattle.sts_syntax.specs.declared.board_calls.BoardCall.TheVariants.{Pause, Forever, ShowLeds, ShowNumber, ShowString, ClearScreen, Unplot, Plot, Toggle, OnButtonPressed, ButtonIsPressed, RunningTime, InBackground, OnEvent, OnEventFlags, RaiseEvent, RaiseNow, WaitForEvent, EventValue, Panic, WriteNumber, WriteString, WriteLine, DigitalWritePin, SendNumber, Abs, Min, Max, Show, NumberGlyph, TextGlyph}
use Rattle.sts_syntax.specs.Types as t
use Rattle.sts_syntax.specs.Types.{ValueType}

-- What a call takes at one of its places: a value of a type, a handler, or a text literal that draws a frame.
pub data BoardParameter : Type 0 where
  Of : (type : ValueType) → BoardParameter
  Handler : BoardParameter
  Drawing : BoardParameter

-- What stands at a place of a service: the next written argument, or always the same number.
pub data ServicePlace : Type 0 where
  Written : ServicePlace
  Always : (n : ℤ) → ServicePlace

-- What a call is: the service of a number, with what stands at its places; the library's function of its name with `$` before it,
-- by that function's number; or the start of an activity that calls the handler again and again.
pub data BoardAction : Type 0 where
  Service : (number : ℕ) (places : List ServicePlace) → BoardAction
  Library : (function : ℕ) → BoardAction
  Repeats : BoardAction

pub record BoardRow : Type 0 where
  pub space : List ℕ  -- before the dot; the library's own calls have none
  pub name : List ℕ
  pub takes : List BoardParameter
  pub gives : ValueType
  pub action : BoardAction

abbrev pub row : List ℕ → List ℕ → List BoardParameter → ValueType → BoardAction → BoardRow
row space name takes gives action = record { space = space; name = name; takes = takes; gives = gives; action = action }

abbrev pub number : BoardParameter
number = Of t.Number

abbrev pub text : BoardParameter
text = Of t.Text

-- places that are all written
abbrev pub one_written : List ServicePlace
one_written = Written ∷ []

abbrev pub two_written : List ServicePlace
two_written = Written ∷ one_written

-- the table
abbrev pub row_of : BoardCall → BoardRow
row_of Pause = row (codes "basic") (codes "pause") (number ∷ []) t.Nothing (Service PAUSE one_written)
row_of Forever = row (codes "basic") (codes "forever") (Handler ∷ []) t.Nothing Repeats
row_of ShowLeds = row (codes "basic") (codes "showLeds") (Drawing ∷ []) t.Nothing (Library 0)
row_of ShowNumber = row (codes "basic") (codes "showNumber") (number ∷ []) t.Nothing (Library 1)
row_of ShowString = row (codes "basic") (codes "showString") (text ∷ []) t.Nothing (Library 2)
row_of ClearScreen = row (codes "basic") (codes "clearScreen") [] t.Nothing (Service SHOW (Always (pos 0) ∷ []))
row_of Unplot = row (codes "led") (codes "unplot") (number ∷ number ∷ []) t.Nothing (Service PLOT (Written ∷ Written ∷ Always (pos 0) ∷ []))
row_of Plot = row (codes "led") (codes "plot") (number ∷ number ∷ []) t.Nothing (Service PLOT (Written ∷ Written ∷ Always (pos 1) ∷ []))
row_of Toggle = row (codes "led") (codes "toggle") (number ∷ number ∷ []) t.Nothing (Service PLOT (Written ∷ Written ∷ Always (pos 2) ∷ []))
row_of OnButtonPressed = row (codes "input") (codes "onButtonPressed") (number ∷ Handler ∷ []) t.Nothing (Service LISTEN (Written ∷ Always (pos 3) ∷ Written ∷ []))
row_of ButtonIsPressed = row (codes "input") (codes "buttonIsPressed") (number ∷ []) t.Boolean (Service BUTTON one_written)
row_of RunningTime = row (codes "input") (codes "runningTime") [] t.Number (Service TIME [])
row_of InBackground = row (codes "control") (codes "inBackground") (Handler ∷ []) t.Nothing (Service SPAWN one_written)
row_of OnEvent = row (codes "control") (codes "onEvent") (number ∷ number ∷ Handler ∷ []) t.Nothing (Service LISTEN (Written ∷ two_written))
row_of OnEventFlags = row (codes "control") (codes "onEventFlags") (number ∷ number ∷ Handler ∷ number ∷ []) t.Nothing (Service LISTEN_IN_MODE (Written ∷ Written ∷ two_written))
row_of RaiseEvent = row (codes "control") (codes "raiseEvent") (number ∷ number ∷ []) t.Nothing (Service RAISE two_written)
row_of RaiseNow = row (codes "control") (codes "raiseNow") (number ∷ number ∷ []) t.Nothing (Service RAISE_NOW two_written)
row_of WaitForEvent = row (codes "control") (codes "waitForEvent") (number ∷ number ∷ []) t.Nothing (Service WAIT two_written)
row_of EventValue = row (codes "control") (codes "eventValue") [] t.Number (Service EVENT_VALUE [])
row_of Panic = row (codes "control") (codes "panic") (number ∷ []) t.Nothing (Service PANIC one_written)
row_of WriteNumber = row (codes "serial") (codes "writeNumber") (number ∷ []) t.Nothing (Service WRITE_NUMBER one_written)
row_of WriteString = row (codes "serial") (codes "writeString") (text ∷ []) t.Nothing (Service WRITE_TEXT one_written)
row_of WriteLine = row (codes "serial") (codes "writeLine") (text ∷ []) t.Nothing (Library 3)
row_of DigitalWritePin = row (codes "pins") (codes "digitalWritePin") (number ∷ number ∷ []) t.Nothing (Service WRITE_PIN two_written)
row_of SendNumber = row (codes "radio") (codes "sendNumber") (number ∷ []) t.Nothing (Service SEND one_written)
row_of Abs = row (codes "Math") (codes "abs") (number ∷ []) t.Number (Library 4)
row_of Min = row (codes "Math") (codes "min") (number ∷ number ∷ []) t.Number (Library 5)
row_of Max = row (codes "Math") (codes "max") (number ∷ number ∷ []) t.Number (Library 6)
row_of Show = row [] (codes "$show") (number ∷ []) t.Nothing (Service SHOW one_written)
row_of NumberGlyph = row [] (codes "$numberGlyph") (number ∷ number ∷ []) t.Number (Service NUMBER_GLYPH two_written)
row_of TextGlyph = row [] (codes "$textGlyph") (text ∷ number ∷ []) t.Number (Service TEXT_GLYPH two_written)

-- all calls
abbrev pub board_calls : List BoardCall
board_calls =
    Pause ∷ Forever ∷ ShowLeds ∷ ShowNumber ∷ ShowString ∷ ClearScreen ∷ Unplot ∷ Plot ∷ Toggle ∷ OnButtonPressed
    ∷ ButtonIsPressed ∷ RunningTime ∷ InBackground ∷ OnEvent ∷ OnEventFlags ∷ RaiseEvent ∷ RaiseNow ∷ WaitForEvent
    ∷ EventValue ∷ Panic ∷ WriteNumber ∷ WriteString ∷ WriteLine ∷ DigitalWritePin ∷ SendNumber ∷ Abs ∷ Min ∷ Max
    ∷ Show ∷ NumberGlyph ∷ TextGlyph ∷ []

-- how many functions the library has; they are the first ones of each program
abbrev pub library_size : ℕ
library_size = 7

pub record BoardConstant : Type 0 where
  pub space : List ℕ
  pub name : List ℕ
  pub value : ℤ

abbrev pub constant : List ℕ → List ℕ → ℤ → BoardConstant
constant space name value = record { space = space; name = name; value = value }

-- the constants
abbrev pub board_constants : List BoardConstant
board_constants =
    constant (codes "Button") (codes "A") (pos 1) ∷ constant (codes "Button") (codes "B") (pos 2)
    ∷ constant (codes "DigitalPin") (codes "P0") (pos 0) ∷ constant (codes "DigitalPin") (codes "P1") (pos 1)
    ∷ constant (codes "DigitalPin") (codes "P2") (pos 2)
    ∷ constant (codes "EventFlags") (codes "Reentrant") (pos 8)
    ∷ constant (codes "EventFlags") (codes "QueueIfBusy") (pos 16)
    ∷ constant (codes "EventFlags") (codes "DropIfBusy") (pos 32) ∷ []

-- whether two texts have the same bytes
abbrev pub same_bytes : List ℕ → List ℕ → Bool
same_bytes [] [] = true
same_bytes [] (c ∷ cs) = false
same_bytes (b ∷ bs) [] = false
same_bytes (b ∷ bs) (c ∷ cs) = b == c && same_bytes bs cs

-- the call of a space and a name
abbrev pub call_among : List BoardCall → List ℕ → List ℕ → Option BoardCall
call_among [] space name = None
call_among (c ∷ rest) space name =
    if same_bytes (row_of c).space space && same_bytes (row_of c).name name then Some c else call_among rest space name

abbrev pub call_named : List ℕ → List ℕ → Option BoardCall
call_named space name = call_among board_calls space name

-- the value of a constant
abbrev pub constant_among : List BoardConstant → List ℕ → List ℕ → Option ℤ
constant_among [] space name = None
constant_among (c ∷ rest) space name =
    if same_bytes c.space space && same_bytes c.name name then Some c.value else constant_among rest space name

abbrev pub constant_named : List ℕ → List ℕ → Option ℤ
constant_named space name = constant_among board_constants space name

-- What is made of the written arguments of a service, with what is made of its numbers between them.
abbrev pub placed : {X : Type 0} → (ℤ → X) → List ServicePlace → List X → List X
placed of [] xs = xs
placed of (Written ∷ ps) [] = placed of ps []
placed of (Written ∷ ps) (x ∷ xs) = x ∷ placed of ps xs
placed of (Always n ∷ ps) xs = of n ∷ placed of ps xs

-- the same for what a call does
abbrev pub arranged : {X : Type 0} → (ℤ → X) → BoardAction → List X → List X
arranged of (Service n places) xs = placed of places xs
arranged of (Library function) xs = xs
arranged of Repeats xs = xs
