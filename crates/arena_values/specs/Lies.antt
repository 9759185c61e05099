-- How the words of globals and arena show a heap.
use Rattle.std.specs.Prelude.{◌≡◌, ℕ, ◌+◌, ◌<◌, ◌≤◌, List, [], ◌∷◌, length, Some, slice_index}
use Rattle.thumb_code.specs.Map.{arena_words}
use Rattle.bank_model.specs.Arrays.{behind_words}
use Rattle.sts_meaning.specs.Values.{Value}
use Rattle.sts_meaning.specs.Heaps.{CellOf, Fields, Items, HeapOf}

-- words from k on, n of them, are among the used ones and belong to the object or array m
pub record Owned (owner : ℕ → ℕ) (used m k n : ℕ) : Type 0 where
  pub within : k + n ≤ used
  pub mine : (i : ℕ) → i < n → owner (k + i) ≡ m

-- Is v w: the word w stands for the value v; class_word: the word for a class
module _ (Is : Value → ℕ → Type 0) (class_word : ℕ → ℕ) where
  -- each value stands, from word k on
  abbrev pub Stand : List Value → List ℕ → ℕ → Type 0
  Stand [] words k = Unit {0}
  Stand (v ∷ vs) words k = Is v (slice_index words k) × Stand vs words (k + 1)

  -- an object at its number: its class, then its fields
  pub record LiesObject (owner : ℕ → ℕ) (used : ℕ) (arena : List ℕ) (m class : ℕ) (fields : List Value) : Type 0 where
    pub owned : Owned owner used m m (1 + length fields)
    pub table : slice_index arena m ≡ class_word class
    pub values : Stand fields arena (m + 1)

  -- An array at its number: a word of the compiler's, length, room, the items' address; and from there its room, somewhere behind the header.
  pub record LiesArray (owner : ℕ → ℕ) (used : ℕ) (arena : List ℕ) (m room : ℕ) (items : List Value) : Type 0 where
    pub at : ℕ
    pub owned : Owned owner used m m 4
    pub behind : m + 4 ≤ at
    pub owned_room : Owned owner used m at room
    pub length_is : slice_index arena (m + 1) ≡ length items
    pub room_is : slice_index arena (m + 2) ≡ room
    pub at_is : slice_index arena (m + 3) ≡ behind_words at
    pub fits : length items ≤ room
    pub values : Stand items arena at

  abbrev pub LiesCell : {N : Type 0} → (ℕ → ℕ) → ℕ → List ℕ → ℕ → CellOf N → Type 0
  LiesCell owner used arena m (Fields class fields) = LiesObject owner used arena m class fields
  LiesCell owner used arena m (Items item room items) = LiesArray owner used arena m room items

  -- Every object and array lies in the used words, and a word belongs to at most one. Words that a grown array has left stay its own. The
  -- words that aren't used are 0.
  pub record Lies {N : Type 0} (h : HeapOf N) (used : ℕ) (arena : List ℕ) : Type 0 where
    pub owner : ℕ → ℕ
    pub within : used ≤ arena_words
    pub size : length arena ≡ arena_words
    pub each : (m : ℕ) (c : CellOf N) → h.cells m ≡ Some c → LiesCell owner used arena m c
    pub rest : (k : ℕ) → used ≤ k → slice_index arena k ≡ 0

  -- the 256 words of globals and the arena show a heap
  pub record Shows {N : Type 0} (h : HeapOf N) (used : ℕ) (globals arena : List ℕ) : Type 0 where
    pub size : length globals ≡ 256
    pub fits : length h.globals ≤ 256
    pub values : Stand h.globals globals 0
    pub lies : Lies h used arena
