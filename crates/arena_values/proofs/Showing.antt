-- What the words show of an operation on a heap: where it gives something, so do the words; and where it is a panic, they show why.
use Rattle.std.specs.Prelude.{◌≡◌, ℕ, zero, suc, ◌+◌, ◌<◌, ◌≤◌, ◌⊎◌, List, slice_index, slice_set}
use Rattle.thumb_code.specs.Map.{arena_words}
use Rattle.board_world.specs.Panics.{null_panic, index_panic}
use Rattle.board_world.specs.Kinds.{Turn, Goes, Takes, Panics}
use Rattle.bank_model.specs.Fibers.{Fiber, Shared}
use Rattle.bank_model.specs.Arrays.{behind_words}
use Rattle.sts_meaning.specs.Values.{Value, Outcome, Gives, Breaks, Stuck}
use Rattle.sts_meaning.specs.Heaps.{HeapOf}
use Rattle.arena_values.specs.Lies.{Shows}

-- null
abbrev pub IsNull : ℕ → ℕ → Type 0
IsNull w code = (w ≡ 0) × (code ≡ null_panic)

-- an array's header: its length, and the address of its items, which stand behind so many words and behind the header
pub record Header (arena : List ℕ) (w count first : ℕ) : Type 0 where
  pub array : ℕ
  pub at : w ≡ behind_words array
  pub within : array + 4 ≤ arena_words
  pub count_is : slice_index arena (array + 1) ≡ count
  pub few : count ≤ arena_words
  pub first_is : slice_index arena (array + 3) ≡ behind_words first
  pub behind : array + 4 ≤ first
  pub room : first + count ≤ arena_words

-- an index that isn't below the length, without its sign
pub record PastItems (arena : List ℕ) (w i code : ℕ) : Type 0 where
  pub count : ℕ
  pub first : ℕ
  pub header : Header arena w count first
  pub past : count ≤ i
  pub code_is : code ≡ index_panic

-- an empty array
pub record NoItem (arena : List ℕ) (w code : ℕ) : Type 0 where
  pub first : ℕ
  pub header : Header arena w 0 first
  pub code_is : code ≡ index_panic

module _ (Is : Value → ℕ → Type 0) (class_word : ℕ → ℕ) where
  module _ {N : Type 0} (used : ℕ) (globals arena : List ℕ) where
    -- the heap is shown behind a word that is stored for a value at a place of the arena
    abbrev pub Stores : HeapOf N → Value → ℕ → Type 0
    Stores h v k = (x : ℕ) → Is v x → Shows Is class_word h used globals (slice_set arena k x)

  module _ (arena : List ℕ) where
    -- an object's class, at its first word
    pub record ClassSeen (w class : ℕ) : Type 0 where
      pub object : ℕ
      pub at : w ≡ behind_words object
      pub within : object < arena_words
      pub table : slice_index arena object ≡ class_word class

    abbrev pub SeesClass : {X : Type 0} → ℕ → Outcome (ℕ × X) → Type 0
    SeesClass w (Gives c) = ClassSeen w c.0
    SeesClass w (Breaks code) = IsNull w code
    SeesClass w Stuck = Unit {0}

    -- a field's value, behind the class
    pub record FieldSeen (w f : ℕ) (v : Value) : Type 0 where
      pub object : ℕ
      pub at : w ≡ behind_words object
      pub within : object + 1 + f < arena_words
      pub shows : Is v (slice_index arena (object + 1 + f))

    abbrev pub SeesField : ℕ → ℕ → Outcome Value → Type 0
    SeesField w f (Gives v) = FieldSeen w f v
    SeesField w f (Breaks code) = IsNull w code
    SeesField w f Stuck = Unit {0}

    pub record ItemSeen (w i : ℕ) (v : Value) : Type 0 where
      pub count : ℕ
      pub first : ℕ
      pub header : Header arena w count first
      pub below : i < count
      pub shows : Is v (slice_index arena (first + i))

    abbrev pub SeesItem : ℕ → ℕ → Outcome Value → Type 0
    SeesItem w i (Gives v) = ItemSeen w i v
    SeesItem w i (Breaks code) = IsNull w code ⊎ PastItems arena w i code
    SeesItem w i Stuck = Unit {0}

    pub record LengthSeen (w : ℕ) (v : Value) : Type 0 where
      pub count : ℕ
      pub first : ℕ
      pub header : Header arena w count first
      pub shows : Is v count

    abbrev pub SeesLength : ℕ → Outcome Value → Type 0
    SeesLength w (Gives v) = LengthSeen w v
    SeesLength w (Breaks code) = IsNull w code
    SeesLength w Stuck = Unit {0}

    module _ {N : Type 0} (used : ℕ) (globals : List ℕ) where
      pub record FieldChanged (w f : ℕ) (v : Value) (h : HeapOf N) : Type 0 where
        pub object : ℕ
        pub at : w ≡ behind_words object
        pub within : object + 1 + f < arena_words
        pub stores : Stores used globals arena h v (object + 1 + f)

      abbrev pub ChangesField : ℕ → ℕ → Value → Outcome (HeapOf N) → Type 0
      ChangesField w f v (Gives h) = FieldChanged w f v h
      ChangesField w f v (Breaks code) = IsNull w code
      ChangesField w f v Stuck = Unit {0}

      pub record ItemChanged (w i : ℕ) (v : Value) (h : HeapOf N) : Type 0 where
        pub count : ℕ
        pub first : ℕ
        pub header : Header arena w count first
        pub below : i < count
        pub stores : Stores used globals arena h v (first + i)

      abbrev pub ChangesItem : ℕ → ℕ → Value → Outcome (HeapOf N) → Type 0
      ChangesItem w i v (Gives h) = ItemChanged w i v h
      ChangesItem w i v (Breaks code) = IsNull w code ⊎ PastItems arena w i code
      ChangesItem w i v Stuck = Unit {0}

      -- the last item is given, and the length is one less
      pub record ItemPopped (w : ℕ) (v : Value) (h : HeapOf N) : Type 0 where
        pub less : ℕ
        pub first : ℕ
        pub header : Header arena w (less + 1) first
        pub shows : Is v (slice_index arena (first + less))
        pub changed : Shows Is class_word h used globals (slice_set arena (header.array + 1) less)

      abbrev pub PopsItem : ℕ → Outcome (Value × HeapOf N) → Type 0
      PopsItem w (Gives x) = ItemPopped w x.0 x.1
      PopsItem w (Breaks code) = IsNull w code ⊎ NoItem arena w code
      PopsItem w Stuck = Unit {0}

  -- The turn of the service that puts a value behind an array's items: it goes on, or takes the words to which the array moves. The arena shows the heap then.
  abbrev pub PushedBy : {N : Type 0} → Fiber → Shared → ℕ → HeapOf N → Turn Fiber Shared → Type 0
  PushedBy f t zero h u =
      (arena : List ℕ) × (u ≡ Goes f (record t { arena = arena })) × Shows Is class_word h t.used t.globals arena
  PushedBy f t (suc n) h u =
      (arena : ℕ → List ℕ) × (u ≡ Takes (suc n) (λ used. (f, record t { arena = arena used; used = used + suc n })))
      × (t.used + suc n ≤ arena_words → Shows Is class_word h (t.used + suc n) t.globals (arena t.used))

  abbrev pub PushesAs : {N : Type 0} → Fiber → Shared → Outcome (ℕ × HeapOf N) → Turn Fiber Shared → Type 0
  PushesAs f t (Gives x) u = PushedBy f t x.0 x.1 u
  PushesAs f t (Breaks code) u = u ≡ Panics code
  PushesAs f t Stuck u = Unit {0}
