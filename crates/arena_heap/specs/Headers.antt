-- The header of an array.
use Rattle.std.specs.Prelude.{◌≡◌, ℕ, ◌+◌, ◌*◌, ◌%◌, ◌<◌, ◌≤◌, List}
use Rattle.thumb_code.specs.Map.{arena_at}
use Rattle.bank_model.specs.Arrays.{length_of, room_of, items_at}
use Rattle.arena_heap.specs.declared.arrays.Header.{Header}

-- This stands in the header of the array at an address.
pub record IsHeader (words : List ℕ) (array : ℕ) (h : Header) : Type 0 where
  pub length : h.length ≡ length_of words array
  pub room : h.room ≡ room_of words array
  pub items : h.items ≡ items_at words array

-- The header and the items are in the arena below an address, and there is room for the items.
pub record FitsArena (end array : ℕ) (h : Header) : Type 0 where
  pub aligned : array % 4 ≡ 0
  pub low : arena_at ≤ array
  pub high : array + 16 ≤ end
  pub within : h.length ≤ h.room
  pub items_aligned : 0 < h.room → h.items % 4 ≡ 0
  pub items_low : 0 < h.room → arena_at ≤ h.items
  pub items_high : 0 < h.room → h.items + 4 * h.room ≤ end
