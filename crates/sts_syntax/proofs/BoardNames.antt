-- Each call and each constant of the board's interface is found by its name.
use Rattle.std.proofs.Common.{◌≡◌, Some, refl}
use Rattle.sts_syntax.specs.declared.board_calls.BoardCall.{BoardCall}
use Rattle.sts_syntax.specs.declared.board_calls.BoardCall.TheVariants.{Pause, Forever, ShowLeds, ShowNumber, ShowString, ClearScreen, Unplot, Plot, Toggle, OnButtonPressed, ButtonIsPressed, RunningTime, InBackground, OnEvent, OnEventFlags, RaiseEvent, RaiseNow, WaitForEvent, EventValue, Panic, WriteNumber, WriteString, WriteLine, DigitalWritePin, SendNumber, Abs, Min, Max, Show, NumberGlyph, TextGlyph}
use Rattle.sts_syntax.specs.BoardTable.{row_of, call_named}

pub call_is_found : (call : BoardCall) → call_named (row_of call).space (row_of call).name ≡ Some call
call_is_found Pause = refl
call_is_found Forever = refl
call_is_found ShowLeds = refl
call_is_found ShowNumber = refl
call_is_found ShowString = refl
call_is_found ClearScreen = refl
call_is_found Unplot = refl
call_is_found Plot = refl
call_is_found Toggle = refl
call_is_found OnButtonPressed = refl
call_is_found ButtonIsPressed = refl
call_is_found RunningTime = refl
call_is_found InBackground = refl
call_is_found OnEvent = refl
call_is_found OnEventFlags = refl
call_is_found RaiseEvent = refl
call_is_found RaiseNow = refl
call_is_found WaitForEvent = refl
call_is_found EventValue = refl
call_is_found Panic = refl
call_is_found WriteNumber = refl
call_is_found WriteString = refl
call_is_found WriteLine = refl
call_is_found DigitalWritePin = refl
call_is_found SendNumber = refl
call_is_found Abs = refl
call_is_found Min = refl
call_is_found Max = refl
call_is_found Show = refl
call_is_found NumberGlyph = refl
call_is_found TextGlyph = refl
