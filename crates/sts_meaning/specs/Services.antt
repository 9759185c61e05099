-- What a service of the board asks of the world, by its number and its arguments. Code that was made of a program asks by the same table.
use Rattle.std.specs.Prelude.{ℕ, zero, suc, ℤ, pos, if◌then◌else◌, ◌==◌, List, [], ◌∷◌}
use Rattle.board_services.specs.declared.numbers.TheConstants.{PANIC, PAUSE, WAIT, SPAWN, LISTEN, RAISE, TIME, EVENT_VALUE, BUTTON, PLOT, SHOW, WRITE_NUMBER, WRITE_TEXT, WRITE_PIN, SEND, TEXT_GLYPH, NUMBER_GLYPH, LISTEN_IN_MODE, RAISE_NOW}
use Rattle.board_world.specs.declared.events.Event.{Event}
use Rattle.board_world.specs.declared.events.Listener.{Listener}
use Rattle.board_world.specs.declared.requests.Request.{Request}
use Rattle.board_world.specs.declared.requests.Request.TheVariants.{Pause, Wait, Spawn, Listen, Raise, RaiseNow, Plot, Show, WriteNumber, WriteText, PinWrite, Radio, Time, EventValue, Button, TextGlyph, NumberGlyph, Panic}
use Rattle.board_world.specs.Rules.{queues_if_busy}
use Rattle.board_world.specs.Panics.{null_panic}
use Rattle.sts_meaning.specs.Values.{Value, Whole, Text, Code, Outcome, Gives, Breaks, Stuck, then_gives, whole}

-- the number of a text; null is a panic
abbrev pub text : Value → Outcome ℕ
text (Text n) = Gives n
text (Whole (pos zero)) = Breaks null_panic
text v = Stuck

abbrev pub code : Value → Outcome ℕ
code (Code f) = Gives f
code v = Stuck

-- the mode of a plot
abbrev pub mode : Value → Outcome ℕ
mode (Whole (pos zero)) = Gives 0
mode (Whole (pos (suc zero))) = Gives 1
mode (Whole (pos (suc (suc zero)))) = Gives 2
mode v = Stuck

abbrev pub event : ℤ → ℤ → Event
event source value = record { source = source; value = value }

abbrev pub listener : ℤ → ℤ → ℕ → ℤ → Listener
listener source value handler mode = record { source = source; value = value; handler = handler; mode = mode }

-- requests of so many arguments; stuck with more or fewer
abbrev pub with_none : Request → List Value → Outcome Request
with_none r [] = Gives r
with_none r (a ∷ rest) = Stuck

abbrev pub with_one : (Value → Outcome Request) → List Value → Outcome Request
with_one r (a ∷ []) = r a
with_one r _ = Stuck

abbrev pub with_two : (Value → Value → Outcome Request) → List Value → Outcome Request
with_two r [] = Stuck
with_two r (a ∷ rest) = with_one (r a) rest

abbrev pub with_three : (Value → Value → Value → Outcome Request) → List Value → Outcome Request
with_three r [] = Stuck
with_three r (a ∷ rest) = with_two (r a) rest

abbrev pub with_four : (Value → Value → Value → Value → Outcome Request) → List Value → Outcome Request
with_four r [] = Stuck
with_four r (a ∷ rest) = with_three (r a) rest

-- of one number, of two, and of an event
abbrev pub of_one : (ℤ → Request) → Value → Outcome Request
of_one r a = then_gives (whole a) (λ x. Gives (r x))

abbrev pub of_two : (ℤ → ℤ → Request) → Value → Value → Outcome Request
of_two r a b = then_gives (whole a) (λ x. then_gives (whole b) (λ y. Gives (r x y)))

abbrev pub of_event : (Event → Request) → Value → Value → Outcome Request
of_event r a b = of_two (λ x y. r (event x y)) a b

abbrev pub of_listener : Value → Value → Value → Value → Outcome Request
of_listener s v h m =
    then_gives (whole s) (λ s. then_gives (whole v)
    (λ v. then_gives (code h) (λ h. then_gives (whole m) (λ m. Gives (Listen (listener s v h m))))))

-- the request of a service; stuck at every other number
abbrev pub requested : ℕ → List Value → Outcome Request
requested service args =
    if service == PANIC then with_one (of_one Panic) args
    else if service == PAUSE then with_one (of_one Pause) args
    else if service == WAIT then with_two (of_event Wait) args
    else if service == SPAWN then with_one (λ h. then_gives (code h) (λ f. Gives (Spawn f))) args
    else if service == LISTEN then with_three (λ s v h. of_listener s v h (Whole queues_if_busy)) args
    else if service == RAISE then with_two (of_event Raise) args
    else if service == TIME then with_none Time args
    else if service == EVENT_VALUE then with_none EventValue args
    else if service == BUTTON then with_one (of_one Button) args
    else if service == PLOT then with_three (λ a b m.
    then_gives (whole a) (λ x. then_gives (whole b) (λ y. then_gives (mode m) (λ m. Gives (Plot x y m))))) args
    else if service == SHOW then with_one (of_one Show) args
    else if service == WRITE_NUMBER then with_one (of_one WriteNumber) args
    else if service == WRITE_TEXT then with_one (λ a. then_gives (text a) (λ t. Gives (WriteText t))) args
    else if service == WRITE_PIN then with_two (of_two PinWrite) args
    else if service == SEND then with_one (of_one Radio) args
    else if service == TEXT_GLYPH
    then with_two (λ a i. then_gives (text a) (λ t. then_gives (whole i) (λ i. Gives (TextGlyph t i)))) args
    else if service == NUMBER_GLYPH then with_two (of_two NumberGlyph) args
    else if service == LISTEN_IN_MODE then with_four of_listener args
    else if service == RAISE_NOW then with_two (of_event RaiseNow) args
    else Stuck
