-- What a push to an array comes to.
use Rattle.std.specs.Prelude.{◌≡◌, ℕ, ◌+◌, ◌%◌, ◌<◌, ◌≤◌, List, nat_le, if◌then◌else◌}
use Rattle.thumb_code.specs.Map.{arena_at, stack_at}
use Rattle.thumb_code.specs.Machine.{State}
use Rattle.board_world.specs.Limits.{arena_limit}
use Rattle.bank_model.specs.Arrays.{behind_words, is_array, is_full, room_of, grown_room, stored, moved}
use Rattle.arena_heap.specs.declared.arena.Pushed.{Pushed}
use Rattle.arena_heap.specs.declared.arena.Pushed.TheVariants.{Done, Full, Bad}

-- The machine with other words of the arena.
abbrev pub with_arena : State → List ℕ → State
with_arena s words = record s { memory = record s.memory { arena = words } }

-- A word of the arena begins there.
pub record IsArenaWord (at : ℕ) : Type 0 where
  pub aligned : at % 4 ≡ 0
  pub low : arena_at ≤ at
  pub high : at < stack_at

-- The arena behind the push, and how many of its words are used then; the growth doesn't fit; or no array stands there.
pub data Pushing : Type 0 where
  Pushes : (words : List ℕ) (used : ℕ) → Pushing
  Overflows : Pushing
  Refuses : Pushing

-- A push of an item to the array at an address.
abbrev pub pushing : List ℕ → ℕ → ℕ → ℕ → Pushing
pushing words used array item =
    if is_array words used array then
    (if is_full words array then
    (if nat_le (used + grown_room (room_of words array)) arena_limit
    then Pushes (moved words array item (behind_words used)) (used + grown_room (room_of words array))
    else Overflows)
    else Pushes (stored words array item) used)
    else Refuses

-- The answer, and the machine and the count of used words behind the push.
abbrev pub IsPushed : Pushing → Pushed → State → State → ℕ → ℕ → Type 0
IsPushed (Pushes words used) Done old new before after = (new ≡ with_arena old words) × (after ≡ used)
IsPushed Overflows Full old new before after = (new ≡ old) × (after ≡ before)
IsPushed Refuses Bad old new before after = (new ≡ old) × (after ≡ before)
IsPushed _ _ old new before after = ⊥
