-- The codes of the panics that no program asks for: the world makes some (arena, seat, listener, raiser), and steps of activities the others (depth, index, null).
use Rattle.std.specs.Prelude.{ℕ}

-- more words of the arena would be used than there are
abbrev pub arena_panic : ℕ
arena_panic = 20

-- a seat is needed, and all are taken
abbrev pub seat_panic : ℕ
seat_panic = 101

-- an activity would be deeper than it may be
abbrev pub depth_panic : ℕ
depth_panic = 102

-- a listener is registered, and all stand
abbrev pub listener_panic : ℕ
listener_panic = 103

-- an array's index is out of range, or an empty array is to give its last item
abbrev pub index_panic : ℕ
index_panic = 104

-- something is used through null
abbrev pub null_panic : ℕ
null_panic = 105

-- a handler would begin by raising at once, and as many raisers as may be are suspended
abbrev pub raiser_panic : ℕ
raiser_panic = 106
