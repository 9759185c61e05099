-- How much of each thing there can be.
use Rattle.std.specs.Prelude.{ℕ}

-- activities that hold a seat at once
abbrev pub seat_limit : ℕ
seat_limit = 24

-- listeners
abbrev pub listener_limit : ℕ
listener_limit = 32

-- events that are queued
abbrev pub queue_limit : ℕ
queue_limit = 32

-- events that a busy listener holds
abbrev pub held_limit : ℕ
held_limit = 10

-- activities that are suspended by raising at once
abbrev pub raiser_limit : ℕ
raiser_limit = 32

-- words of the arena
abbrev pub arena_limit : ℕ
arena_limit = 2816

-- words of an activity's depth
abbrev pub depth_limit : ℕ
depth_limit = 960

-- milliseconds: a button that is let go before has made a click, and then a long one
abbrev pub click_limit : ℕ
click_limit = 1000

-- pins, from 0 on
abbrev pub pin_limit : ℕ
pin_limit = 21

-- milliseconds: the latest end of a script
abbrev pub end_limit : ℕ
end_limit = 1073741824

-- the last port; the first is 0
abbrev pub last_port : ℕ
last_port = 3
