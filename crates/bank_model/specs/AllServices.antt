-- All services, for which a fiber asks by SVC with their number.
use Rattle.std.specs.Prelude.{ℕ, ◌+◌, ◌-◌, ◌%◌, ◌^◌, ◌==◌, nat_lt, ℤ, pos, negsuc, List, if◌then◌else◌, int_rem}
use Rattle.std.specs.Int.{cast_signed, cast_unsigned, int_wrapping_div, w32}
use Rattle.std.specs.Ordering.{int_eq}
use Rattle.board_services.specs.declared.numbers.TheConstants.{END, PANIC, PAUSE, WAIT, SPAWN, LISTEN, RAISE, TIME, EVENT_VALUE, BUTTON, PLOT, SHOW, WRITE_NUMBER, WRITE_TEXT, WRITE_PIN, SEND, TEXT_GLYPH, NUMBER_GLYPH, ALLOCATE, PUSH, DIVIDE, REMAINDER, LISTEN_IN_MODE, RAISE_NOW}
use Rattle.thumb_code.specs.Faults.{bad_service, not_thumb}
use Rattle.thumb_code.specs.RegisterFile.{low, put_low, is_odd}
use Rattle.board_world.specs.declared.events.Event.{Event}
use Rattle.board_world.specs.declared.events.Listener.{Listener}
use Rattle.board_world.specs.Rules.{queues_if_busy}
use Rattle.board_world.specs.Panics.{null_panic}
use Rattle.board_world.specs.Observations.{ByteList}
use Rattle.board_world.specs.Transcript.{decimal_text}
use Rattle.board_world.specs.Kinds.{Question, Raises, Plots, Displays, Writes, Sets, Sends, Time, Value, Pressed, Turn, Goes, Asks, Takes, Pauses, Waits, Spawns, Listens, RaisesNow, Ends, Panics, Faults}
use Rattle.bank_model.specs.Fibers.{Fiber, Shared, begins_again, begins_above}
use Rattle.bank_model.specs.Texts.{is_text, text_at, glyph_at}
use Rattle.bank_model.specs.Arrays.{behind_words, is_array, is_full, room_of, grown_room, stored, moved}

-- An argument is one of R0 to R3: as a word, and as a signed number.
abbrev pub word_argument : Fiber → ℕ → ℕ
word_argument f k = low f.registers k

abbrev pub argument : Fiber → ℕ → ℤ
argument f k = cast_signed w32 (word_argument f k)

-- An answer comes in R0, and nothing else of the fiber changes.
abbrev pub answered_word : Fiber → ℕ → Fiber
answered_word f word = record f { registers = put_low f.registers 0 word }

abbrev pub answered : Fiber → ℤ → Fiber
answered f number = answered_word f (cast_unsigned w32 number)

-- The word of a number modulo 2^32.
abbrev pub number_word : ℤ → ℕ
number_word (pos n) = n % 2 ^ 32
number_word (negsuc n) = 2 ^ 32 - 1 - n % 2 ^ 32

-- The event of R0 and R1.
abbrev pub asked_event : Fiber → Event
asked_event f = record { source = argument f 0; value = argument f 1 }

-- The listener of R0 and R1, with its handler at R2, and this mode.
abbrev pub asked_listener : Fiber → ℤ → Listener
asked_listener f mode = record { source = argument f 0; value = argument f 1; handler = word_argument f 2; mode = mode }

-- A question without an answer, and one whose answer comes in R0, modulo 2^32.
abbrev pub tells : Question → Fiber → Shared → Turn Fiber Shared
tells question f s = Asks question (λ answer. (f, s))

abbrev pub asks : Question → Fiber → Shared → Turn Fiber Shared
asks question f s = Asks question (λ answer. (answered_word f (number_word answer), s))

-- An address of code has bit 0 set, or else it is the fault NotThumb.
abbrev pub with_code : ℕ → ℕ → Turn Fiber Shared → Turn Fiber Shared
with_code at code turn = if is_odd code then turn else Faults not_thumb at

-- The quotient, truncated toward zero and then through ToInt32 (ECMA-262, 6.1.6.1.5 and 7.1.6): so -2^31 / -1 is -2^31. Where the divisor is 0 it is 0.
abbrev pub quotient : ℤ → ℤ → ℤ
quotient dividend divisor = if int_eq divisor (pos 0) then pos 0 else int_wrapping_div w32 dividend divisor

-- The remainder, which has the dividend's sign (ECMA-262, 6.1.6.1.6). Where the divisor is 0 it is 0.
abbrev pub remainder : ℤ → ℤ → ℤ
remainder dividend divisor = if int_eq divisor (pos 0) then pos 0 else int_rem dividend divisor

-- Something that is null is a panic, and is tried first.
abbrev pub unless_null : ℕ → Turn Fiber Shared → Turn Fiber Shared
unless_null address turn = if address == 0 then Panics null_panic else turn

-- What is done with the text at R0. One that isn't sound is BadService.
abbrev pub with_text : List ℕ → ℕ → Fiber → (ByteList → Turn Fiber Shared) → Turn Fiber Shared
with_text flash at f turn =
    unless_null (word_argument f 0)
    (if is_text flash (word_argument f 0) then turn (text_at flash (word_argument f 0)) else Faults bad_service at)

-- R0 words of the arena are used, and R0 becomes the address of the first. They aren't cleared. No words is BadService.
abbrev pub allocates : ℕ → Fiber → Shared → Turn Fiber Shared
allocates at f s =
    if word_argument f 0 == 0 then Faults bad_service at
    else Takes (word_argument f 0)
    (λ used. (answered_word f (behind_words used), record s { used = used + word_argument f 0 }))

-- R1 is put behind the items of the array at R0. Where there is no room for it, the array moves to more room behind the used words. One
-- that isn't sound is BadService.
abbrev pub pushes : ℕ → Fiber → Shared → Turn Fiber Shared
pushes at f s =
    let array = word_argument f 0 in let item = word_argument f 1 in
    let grown = grown_room (room_of s.arena array) in
    unless_null array
    (if is_array s.arena s.used array then
    (if is_full s.arena array
    then Takes grown
    (λ used. (f, record s { arena = moved s.arena array item (behind_words used); used = used + grown }))
    else Goes f (record s { arena = stored s.arena array item }))
    else Faults bad_service at)

-- What a fiber does by asking for the service of a number, at an instruction's address.
abbrev pub service : List ℕ → ℕ → ℕ → Fiber → Shared → Turn Fiber Shared
service flash at number f s =
    if number == END then Ends (begins_again flash f) s
    else if number == PANIC then Panics (word_argument f 0 % 256)
    else if number == PAUSE then Pauses (argument f 0) f s
    else if number == WAIT then Waits (asked_event f) f s
    else if number == SPAWN then with_code at (word_argument f 0) (Spawns (word_argument f 0) f s)
    else if number == LISTEN then with_code at (word_argument f 2) (Listens (asked_listener f queues_if_busy) f s)
    else if number == RAISE then tells (Raises (asked_event f)) f s
    else if number == TIME then asks Time f s
    else if number == EVENT_VALUE then asks Value f s
    else if number == BUTTON then asks (Pressed (argument f 0)) f s
    else if number == PLOT
    then (if nat_lt (word_argument f 2) 3 then tells (Plots (argument f 0) (argument f 1) (word_argument f 2)) f s
    else Faults bad_service at)
    else if number == SHOW then tells (Displays (word_argument f 0 % 2 ^ 25)) f s
    else if number == WRITE_NUMBER then tells (Writes (decimal_text (argument f 0))) f s
    else if number == WRITE_TEXT then with_text flash at f (λ bytes. tells (Writes bytes) f s)
    else if number == WRITE_PIN then tells (Sets (argument f 0) (argument f 1)) f s
    else if number == SEND then tells (Sends (argument f 0)) f s
    else if number == TEXT_GLYPH
    then with_text flash at f (λ bytes. Goes (answered f (glyph_at bytes (word_argument f 1))) s)
    else if number == NUMBER_GLYPH then Goes (answered f (glyph_at (decimal_text (argument f 0)) (word_argument f 1))) s
    else if number == ALLOCATE then allocates at f s
    else if number == PUSH then pushes at f s
    else if number == DIVIDE then Goes (answered f (quotient (argument f 0) (argument f 1))) s
    else if number == REMAINDER then Goes (answered f (remainder (argument f 0) (argument f 1))) s
    else if number == LISTEN_IN_MODE
    then with_code at (word_argument f 2) (Listens (asked_listener f (argument f 3)) f s)
    else if number == RAISE_NOW then RaisesNow (asked_event f) (begins_above flash f) f s
    else Faults bad_service at
