-- Small programs whose transcripts are known.
use Rattle.std.specs.Prelude.{ℕ, zero, suc, ◌+◌, ℤ, pos, negsuc, List, [], ◌∷◌, ◌++◌}
use Rattle.board_world.specs.declared.requests.Request.TheVariants.{Pause, Wait, Spawn, Listen, Raise, RaiseNow, Plot, Show, WriteNumber, PinWrite, Radio, Time, EventValue, Button, Allocate, Panic}
use Rattle.board_world.specs.Observations.{ByteList}
use Rattle.board_world.specs.Board.{Board, Entry, Down, Up, Unplug, event, transcript_of, stats_of}
use Rattle.board_world.specs.World.{start}
use Rattle.board_world.specs.Runs.{run}
use Rattle.world_rows.specs.Clerks.{Task, Ask, Tell, Keep, Recall, Become, Routine, clerks}

-- the board after n steps of a program on a script
abbrev pub after : ℕ → List Routine → ℕ → List Entry → Board
after n program until script = (run (clerks program) n (start (clerks program) 0 (pos 0) until script)).board

-- what is written in n steps; without a script it is empty and ends at 1000 ms
abbrev pub written : ℕ → List Routine → ByteList
written n program = transcript_of (after n program 1000 [])

abbrev pub written_on : ℕ → List Routine → ℕ → List Entry → ByteList
written_on n program until script = transcript_of (after n program until script)

-- the ports that were unplugged, each with the number of observations before it
abbrev pub unplugged_on : ℕ → List Routine → ℕ → List Entry → List (ℕ × ℕ)
unplugged_on n program until script = (after n program until script).unplugged

-- the line of statistics
abbrev pub counted : ℕ → List Routine → ByteList
counted n program = stats_of (after n program 1000 [])

-- short forms of tasks
abbrev pub write : ℕ → Task
write n = Ask (WriteNumber (pos n))

abbrev pub pause : ℕ → Task
pause n = Ask (Pause (pos n))

abbrev pub raise : ℕ → ℕ → Task
raise source value = Ask (Raise (event source value))

abbrev pub raise_now : ℕ → ℕ → Task
raise_now source value = Ask (RaiseNow (event source value))

abbrev pub wait_for : ℕ → ℕ → Task
wait_for source value = Ask (Wait (event source value))

-- listeners queue while they are busy (16) unless a mode is said
abbrev pub listen_in : ℕ → ℕ → ℕ → ℕ → Task
listen_in mode source value handler =
    Ask (Listen (record { source = pos source; value = pos value; handler = handler; mode = pos mode }))

abbrev pub listen : ℕ → ℕ → ℕ → Task
listen = listen_in 16

abbrev pub times : ℕ → Task → List Task
times zero t = []
times (suc n) t = t ∷ times n t

-- the values from 1 to n are raised in order
abbrev pub raises : ℕ → ℕ → List Task
raises source zero = []
raises source (suc n) = raises source n ++ raise source (suc n) ∷ []

abbrev pub routine : ℕ → List Task → Routine
routine frame tasks = record { frame = frame; tasks = tasks }

abbrev pub at_time : ℕ → ℕ → Entry
at_time t button = record { at = t; act = Down button }

abbrev pub up_at : ℕ → ℕ → Entry
up_at t button = record { at = t; act = Up button }

abbrev pub unplug_at : ℕ → ℕ → Entry
unplug_at t port = record { at = t; act = Unplug port }

-- a light toggled every 20 ms
abbrev pub blinking : List Routine
blinking = routine 6 (Ask (Spawn 1) ∷ []) ∷ routine 6 (Ask (Plot (pos 0) (pos 0) 2) ∷ pause 20 ∷ Become 1 ∷ []) ∷ []

-- two handlers of one event, of which the first one pauses
abbrev pub two_handlers : List Routine
two_handlers =
    routine 6 (listen 50 1 1 ∷ listen 50 1 2 ∷ raise 50 1 ∷ [])
    ∷ routine 6 (pause 5 ∷ write 1 ∷ []) ∷ routine 6 (write 2 ∷ []) ∷ []

-- the time behind a pause of so many milliseconds
abbrev pub pauser : ℤ → List Routine
pauser time = routine 6 (Ask (Pause time) ∷ Ask Time ∷ Tell ∷ []) ∷ []

abbrev pub shortest_pause : List Routine
shortest_pause = pauser (pos 0)

-- n activities that wait for ever, then a handler
abbrev pub seats_taken : ℕ → List Routine
seats_taken n =
    routine 8 (times n (Ask (Spawn 1)) ++ (listen 61 1 2 ∷ raise 61 1 ∷ []))
    ∷ routine 7 (wait_for 60 1 ∷ []) ∷ routine 6 (write 7 ∷ []) ∷ []

-- n events for a handler that tells their values
abbrev pub many_events : ℕ → List Routine
many_events n = routine 8 (listen 70 0 1 ∷ raises 70 n) ∷ routine 6 (Ask EventValue ∷ Tell ∷ []) ∷ []

-- n events for a handler that pauses, in a mode
abbrev pub busy_handler : ℕ → ℕ → List Routine
busy_handler mode n =
    routine 8 (listen_in mode 50 0 1 ∷ raises 50 n) ∷ routine 6 (pause 5 ∷ Ask EventValue ∷ Tell ∷ []) ∷ []

-- a handler runs before its raiser goes on, n times
abbrev pub at_once : ℕ → List Routine
at_once n = routine 6 (listen 80 1 1 ∷ go n) ∷ routine 6 (write 1 ∷ pause 5 ∷ write 2 ∷ []) ∷ []
  where
    go : ℕ → List Task
    go zero = []
    go (suc n) = raise_now 80 1 ∷ write 9 ∷ go n

-- a handler that raises its own event at once
abbrev pub endless_raisers : List Routine
endless_raisers = routine 9 (listen_in 8 81 1 1 ∷ raise_now 81 1 ∷ []) ∷ routine 7 (raise_now 81 1 ∷ []) ∷ []

-- two sleepers of one moment: the second one went to sleep first
abbrev pub two_sleepers : List Routine
two_sleepers =
    routine 6 (Ask (Spawn 1) ∷ Ask (Spawn 2) ∷ [])
    ∷ routine 6 (pause 2 ∷ pause 3 ∷ write 1 ∷ []) ∷ routine 6 (pause 5 ∷ write 2 ∷ []) ∷ []

-- a waiter and a listener of one event, the waiter there first
abbrev pub waiter_and_listener : List Routine
waiter_and_listener =
    routine 6 (Ask (Spawn 1) ∷ pause 1 ∷ listen 50 1 2 ∷ raise 50 1 ∷ [])
    ∷ routine 6 (wait_for 50 0 ∷ write 1 ∷ []) ∷ routine 6 (write 2 ∷ []) ∷ []

-- a handler that tells what button A does
abbrev pub button_teller : List Routine
button_teller = routine 6 (listen 1 0 1 ∷ []) ∷ routine 6 (Ask EventValue ∷ Tell ∷ []) ∷ []

-- a handler of the press of button A
abbrev pub press_teller : List Routine
press_teller = routine 6 (listen 1 1 1 ∷ []) ∷ routine 6 (write 1 ∷ []) ∷ []

-- a handler of the click of button A
abbrev pub click_teller : List Routine
click_teller = routine 6 (listen 1 3 1 ∷ []) ∷ routine 6 (write 1 ∷ []) ∷ []

-- button A is pressed at a moment, and let go so much later
abbrev pub press : ℕ → ℕ → List Entry
press t held = at_time t 1 ∷ up_at (t + held) 1 ∷ []

-- a sleeper and an event of the script at one moment
abbrev pub sleeper_and_press : List Routine
sleeper_and_press = routine 6 (listen 1 1 1 ∷ pause 10 ∷ write 2 ∷ []) ∷ routine 6 (write 1 ∷ []) ∷ []

-- a pause, and a number behind it
abbrev pub late_writer : ℕ → List Routine
late_writer t = routine 6 (pause t ∷ write 1 ∷ []) ∷ []

-- pins and radio
abbrev pub sender : List Routine
sender =
    routine 6
    (Ask (PinWrite (pos 0) (pos 5)) ∷ Ask (PinWrite (pos 20) (pos 0)) ∷ Ask (PinWrite (pos 21) (pos 1))
    ∷ Ask (Radio (negsuc 6)) ∷ [])
    ∷ []

-- a waiter and a listener of an event that is raised at once
abbrev pub waiter_at_once : List Routine
waiter_at_once =
    routine 6 (Ask (Spawn 1) ∷ pause 1 ∷ listen 80 1 2 ∷ raise_now 80 1 ∷ write 9 ∷ [])
    ∷ routine 6 (wait_for 80 1 ∷ write 1 ∷ []) ∷ routine 6 (write 2 ∷ []) ∷ []

-- n listeners
abbrev pub many_listeners : ℕ → List Routine
many_listeners n = routine 6 (times n (listen 50 1 1)) ∷ routine 6 [] ∷ []

-- the whole arena, and a word more
abbrev pub greedy : List Routine
greedy = routine 6 (Ask (Allocate 2816) ∷ Tell ∷ Ask (Allocate 1) ∷ []) ∷ []

-- how many words were taken before the second take, kept and recalled
abbrev pub keeper : List Routine
keeper = routine 6 (Ask (Allocate 3) ∷ Ask (Allocate 4) ∷ Keep ∷ Ask Time ∷ Recall ∷ Tell ∷ []) ∷ []

abbrev pub panicker : ℤ → List Routine
panicker code = routine 6 (Ask (Panic code) ∷ []) ∷ []

-- one change of the picture among requests that change nothing
abbrev pub plotter : List Routine
plotter =
    routine 6
    (Ask (Plot (pos 5) (pos 0) 1) ∷ Ask (Plot (pos 0) (pos 0) 1) ∷ Ask (Plot (pos 0) (pos 0) 1)
    ∷ Ask (Show (pos 33554433)) ∷ Ask (Plot (pos 0) (negsuc 0) 2) ∷ [])
    ∷ []

-- it tells after 15 ms whether button A is down
abbrev pub button_asker : List Routine
button_asker = routine 6 (pause 15 ∷ Ask (Button (pos 1)) ∷ Tell ∷ []) ∷ []

-- it tells before there is an answer
abbrev pub hasty : List Routine
hasty = routine 6 (Tell ∷ []) ∷ []

-- a handler that tells what button B does
abbrev pub button_b_teller : List Routine
button_b_teller = routine 6 (listen 2 0 1 ∷ []) ∷ routine 6 (Ask EventValue ∷ Tell ∷ []) ∷ []

-- it tells after 15 ms whether buttons B, A and 3 are down
abbrev pub buttons_asker : List Routine
buttons_asker =
    routine 6
    (pause 15 ∷ Ask (Button (pos 2)) ∷ Tell ∷ Ask (Button (pos 1)) ∷ Tell ∷ Ask (Button (pos 3)) ∷ Tell ∷ []) ∷ []

-- the event's value of an activity that no event started
abbrev pub value_teller : List Routine
value_teller = routine 6 (Ask EventValue ∷ Tell ∷ []) ∷ []

-- a listener of any event, and two events
abbrev pub any_listener : List Routine
any_listener = routine 6 (listen 0 0 1 ∷ raise 50 7 ∷ raise 60 8 ∷ []) ∷ routine 6 (Ask EventValue ∷ Tell ∷ []) ∷ []

-- a handler that registers a listener of the event that started it
abbrev pub late_listener : List Routine
late_listener =
    routine 6 (listen 50 1 1 ∷ raise 50 1 ∷ []) ∷ routine 6 (listen 50 1 2 ∷ []) ∷ routine 6 (write 2 ∷ []) ∷ []

-- n activities that end, and n more
abbrev pub seats_given_back : ℕ → List Routine
seats_given_back n = routine 8 (times n (Ask (Spawn 1)) ++ (pause 1 ∷ times n (Ask (Spawn 1)))) ∷ routine 6 [] ∷ []

-- n activities and main wait for ever, and a handler pauses
abbrev pub handler_without_seat : ℕ → List Routine
handler_without_seat n =
    routine 8 (times n (Ask (Spawn 1)) ++ (listen 61 1 2 ∷ raise 61 1 ∷ wait_for 62 1 ∷ []))
    ∷ routine 7 (wait_for 60 1 ∷ []) ∷ routine 6 (pause 5 ∷ write 7 ∷ []) ∷ []
