-- Lines with a lead before each.
use Rattle.std.proofs.Common.{◌≡◌, ℕ, List, [], ◌++◌, Option, refl, sym, append_assoc}
use Rattle.board_world.specs.Observations.{ByteList}
use Rattle.board_world.specs.Transcript.{lines}
use Rattle.tool_io.specs.Putting.{TookPart}
use Rattle.board_outside.specs.declared.output.Output.{Output}
use Rattle.board_outside.specs.declared.output.Output.TheVariants.{Nothing, Frame, Number, Text, Pin, Radio}
use Rattle.board_outside.specs.Moves.{seen_of}
use Rattle.board_outside.specs.Outputs.{moves_of}
use Rattle.board_outside.specs.Cuts.{TookInto}
use Rattle.board_run.specs.Advancing.{led_lines, lead_before}

pub led_told : (lead : ByteList) (flash : List ℕ) (now : ℕ) (output : Output) → lead_before lead output ++ lines (seen_of (moves_of flash now output)) ≡ led_lines lead (seen_of (moves_of flash now output))
led_told lead flash now Nothing = refl
led_told lead flash now (Frame frame) = sym (append_assoc lead _ [])
led_told lead flash now (Number number) = sym (append_assoc lead _ [])
led_told lead flash now (Text at) = sym (append_assoc lead _ [])
led_told lead flash now (Pin pin level) = sym (append_assoc lead _ [])
led_told lead flash now (Radio number) = sym (append_assoc lead _ [])

-- a part that was taken stands behind nothing
pub into_part : {a b : Option (List ℕ)} (text : ByteList) → TookPart a b text → TookInto a b [] text
into_part text p = record { told = λ had e. p.told had e }
