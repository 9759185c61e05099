-- What an instruction shows, as a move of the run.
use Rattle.std.specs.Prelude.{◌≡◌, ℕ, List, [], ◌∷◌}
use Rattle.board_world.specs.Observations.{Observation, Show, Serial, Pin as PinSeen, Radio as RadioSeen}
use Rattle.board_world.specs.Transcript.{decimal_text}
use Rattle.bank_model.specs.Texts.{text_at}
use Rattle.board_outside.specs.declared.output.Output.{Output}
use Rattle.board_outside.specs.declared.output.Output.TheVariants.{Nothing, Frame, Number, Text, Pin, Radio}
use Rattle.board_outside.specs.Moves.{Move, Seen}

-- the moves that an instruction's output is, with this flash, at a moment
abbrev pub moves_of : List ℕ → ℕ → Output → List Move
moves_of flash now Nothing = []
moves_of flash now (Frame frame) = Seen (Show now frame) ∷ []
moves_of flash now (Number number) = Seen (Serial now (decimal_text number)) ∷ []
moves_of flash now (Text at) = Seen (Serial now (text_at flash at)) ∷ []
moves_of flash now (Pin pin level) = Seen (PinSeen now pin level) ∷ []
moves_of flash now (Radio number) = Seen (RadioSeen now number) ∷ []

-- Something is seen.
abbrev pub IsSeen : List ℕ → ℕ → Output → Type 0
IsSeen flash now output = (o : Observation) × (moves_of flash now output ≡ Seen o ∷ [])
