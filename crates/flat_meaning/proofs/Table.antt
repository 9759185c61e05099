-- The services that answer are those of the board's calls that have a value.
use Rattle.std.proofs.Common.{refl}
use Rattle.sts_syntax.specs.declared.board_calls.BoardCall.{BoardCall}
use Rattle.sts_syntax.specs.declared.board_calls.BoardCall.TheVariants as b
use Rattle.sts_syntax.specs.BoardTable.{row_of}
use Rattle.flat_meaning.specs.Operators.{IsAnswered}

pub answered : (call : BoardCall) → IsAnswered (row_of call).action (row_of call).gives
answered b.Pause = refl
answered b.Forever = tt
answered b.ShowLeds = tt
answered b.ShowNumber = tt
answered b.ShowString = tt
answered b.ClearScreen = refl
answered b.Unplot = refl
answered b.Plot = refl
answered b.Toggle = refl
answered b.OnButtonPressed = refl
answered b.ButtonIsPressed = refl
answered b.RunningTime = refl
answered b.InBackground = refl
answered b.OnEvent = refl
answered b.OnEventFlags = refl
answered b.RaiseEvent = refl
answered b.RaiseNow = refl
answered b.WaitForEvent = refl
answered b.EventValue = refl
answered b.Panic = refl
answered b.WriteNumber = refl
answered b.WriteString = refl
answered b.WriteLine = tt
answered b.DigitalWritePin = refl
answered b.SendNumber = refl
answered b.Abs = tt
answered b.Min = tt
answered b.Max = tt
answered b.Show = refl
answered b.NumberGlyph = refl
answered b.TextGlyph = refl
