-- What a run's moves are at the ports.
use Rattle.std.specs.Prelude.{ℕ, ◌+◌, ◌*◌, List, [], ◌∷◌, ◌++◌, Option}
use Rattle.std.specs.Int.{cast_unsigned, w32}
use Rattle.board_world.specs.Observations.{Observation, Show, Serial, Pin, Radio}
use Rattle.board_ports.specs.Account.{Account}
use Rattle.board_ports.specs.History.{PortMove, Word, Unplug, words_sent, PlacesAfter, entries_at, unplugged_at}
use Rattle.board_outside.specs.Moves.{Move, Seen, Unplugged}

-- The display is at port 0, the serial port at 1, the pins at 2, and radio at 3.
abbrev pub display_port : ℕ
display_port = 0

abbrev pub serial_port : ℕ
serial_port = 1

abbrev pub pin_port : ℕ
pin_port = 2

abbrev pub radio_port : ℕ
radio_port = 3

-- The words of an observation: the frame; a word for each byte; twice the pin, plus its level; the number as a word.
abbrev pub words_of : Observation → List PortMove
words_of (Show at frame) = Word display_port at frame ∷ []
words_of (Serial at bytes) = words_sent serial_port at bytes
words_of (Pin at pin level) = Word pin_port at (2 * pin + level) ∷ []
words_of (Radio at number) = Word radio_port at (cast_unsigned w32 number) ∷ []

abbrev pub port_moves : List Move → List PortMove
port_moves [] = []
port_moves (Seen o ∷ ms) = words_of o ++ port_moves ms
port_moves (Unplugged port ∷ ms) = Unplug port ∷ port_moves ms

-- What these moves leave of the devices.
abbrev pub DevicesAfter : {B : Type 0} → (B → Account) → List Move → List (Option B) → List (Option B) → Type 0
DevicesAfter account moves old new =
    PlacesAfter account (entries_at (port_moves moves)) (unplugged_at (port_moves moves)) old new
