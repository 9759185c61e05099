-- Words of the arena, and arrays in it: four words, one of the compiler's, then the length, the room, and the address of the items.
use Rattle.std.specs.Prelude.{ℕ, zero, suc, ◌+◌, ◌*◌, ◌%◌, max, [], ◌∷◌, ◌++◌, List, Bool, true, ◌&&◌, ◌==◌, nat_le, if◌then◌else◌, slice_set}
use Rattle.thumb_code.specs.Map.{arena_at, place, word_in}

-- The address behind so many words of the arena.
abbrev pub behind_words : ℕ → ℕ
behind_words words = arena_at + 4 * words

-- So many words from an address on are among the used ones, and the address is a multiple of 4.
abbrev pub are_used : ℕ → ℕ → ℕ → Bool
are_used used at words = at % 4 == 0 && (nat_le arena_at at && nat_le (at + 4 * words) (behind_words used))

-- The arena with a word put at an address.
abbrev pub put_word : List ℕ → ℕ → ℕ → List ℕ
put_word arena at w = slice_set arena (place arena_at at) w

-- The arena with words put one behind the other, from an address on.
abbrev pub put_words : List ℕ → ℕ → List ℕ → List ℕ
put_words arena at [] = arena
put_words arena at (w ∷ ws) = put_words (put_word arena at w) (at + 4) ws

-- So many words of the arena from an address on.
abbrev pub words_from : List ℕ → ℕ → ℕ → List ℕ
words_from arena zero at = []
words_from arena (suc n) at = word_in arena arena_at at ∷ words_from arena n (at + 4)

-- The length, the room and the address of the items stand in the header behind its first word.
abbrev pub length_of : List ℕ → ℕ → ℕ
length_of arena array = word_in arena arena_at (array + 4)

abbrev pub room_of : List ℕ → ℕ → ℕ
room_of arena array = word_in arena arena_at (array + 8)

abbrev pub items_at : List ℕ → ℕ → ℕ
items_at arena array = word_in arena arena_at (array + 12)

-- An array stands there, where so many words are used: its header is among them, and its items where it has room; and it isn't longer
-- than its room.
abbrev pub is_array : List ℕ → ℕ → ℕ → Bool
is_array arena used array =
    are_used used array 4
    && ((if room_of arena array == 0 then true else are_used used (items_at arena array) (room_of arena array))
    && nat_le (length_of arena array) (room_of arena array))

-- It has no room for one more item.
abbrev pub is_full : List ℕ → ℕ → Bool
is_full arena array = length_of arena array == room_of arena array

-- The room to which a full array moves, and so many words that takes.
abbrev pub grown_room : ℕ → ℕ
grown_room room = max 4 (2 * room)

-- The items, in order.
abbrev pub items_of : List ℕ → ℕ → List ℕ
items_of arena array = words_from arena (length_of arena array) (items_at arena array)

-- The arena behind a push to an array that isn't full: the item is put behind the others, and then the length is written.
abbrev pub stored : List ℕ → ℕ → ℕ → List ℕ
stored arena array item =
    put_word (put_word arena (items_at arena array + 4 * length_of arena array) item) (array + 4)
    (length_of arena array + 1)

-- The arena behind a push to a full one, which moves to an address: the items and the new one are put there, and then the length, the
-- room and the address are written.
abbrev pub moved : List ℕ → ℕ → ℕ → ℕ → List ℕ
moved arena array item to =
    put_words (put_words arena to (items_of arena array ++ item ∷ [])) (array + 4)
    ((length_of arena array + 1) ∷ (grown_room (room_of arena array) ∷ (to ∷ [])))
