-- The service that puts a value behind an array's items does what the push of the heap does.
use Rattle.std.proofs.Common.{zero, suc, ◌≡◌, ◌≢◌, ℕ, ◌+◌, ◌*◌, ◌<◌, ◌≤◌, ⊎_elim, List, [], ◌∷◌, ◌++◌, length, Option, Some, None, Bool, true, false, if◌then◌else◌, nat_lt, nat_le, ◌==◌, ◌&&◌, ◌%◌, refl, sym, ap, ◌∙◌, subst, arith, slice_set, slice_index}
use Rattle.std.specs.Prelude.{pos, negsuc}
use Rattle.thumb_code.specs.Faults.{bad_service}
use Rattle.thumb_code.specs.Map.{arena_at, arena_words, place}
use Rattle.board_world.specs.Kinds.{Turn, Goes, Takes, Panics, Faults}
use Rattle.bank_model.specs.Fibers.{Fiber, Shared}
use Rattle.bank_model.specs.Arrays.{behind_words, are_used, is_array, is_full, length_of, room_of, items_at, grown_room, stored, moved, put_words, words_from}
use Rattle.bank_model.specs.AllServices.{word_argument, pushes, unless_null}
use Rattle.sts_meaning.specs.Values.{Value, Whole, Object, Text, Code, Gives, then_gives}
use Rattle.sts_meaning.specs.Heaps.{CellOf, Fields, Items, HeapOf, RowOf, with_cell, items_of, put_items, growth, wider, pushed}
use Rattle.arena_values.specs.Lies.{Stand, Lies, Shows}
use Rattle.arena_values.proofs.Showing.{PushedBy, PushesAs}
use Rattle.arena_values.proofs.Signs.{null_is}
use Rattle.arena_values.proofs.Addresses.{which, place_behind, put_length, put_before, put_behind, put_at, read_length, read_at, more_front, more_last}
use Rattle.arena_values.proofs.Arrays.{adds_item, grows_array}
use Rattle.arena_values.proofs.Standing.{more_length}
use Rattle.arena_values.proofs.Seen.{Means}

are_used_is : (used k n : ℕ) → k + n ≤ used → are_used used (behind_words k) n ≡ true
are_used_is used k n l =
    let a : (behind_words k % 4 == 0) ≡ true = grind arith in
    let b : nat_le arena_at (behind_words k) ≡ true = grind arith in
    let c : nat_le (behind_words k + 4 * n) (behind_words used) ≡ true = grind arith in
    rw a (rw b (rw c refl))

-- an array's header, as the service reads it
record Read (arena : List ℕ) (n at len room : ℕ) : Type 0 where
  length_is : length_of arena (behind_words n) ≡ len
  room_is : room_of arena (behind_words n) ≡ room
  items_is : items_at arena (behind_words n) ≡ behind_words at

is_array_is : (arena : List ℕ) (used n at len room : ℕ) → Read arena n at len room → n + 4 ≤ used → at + room ≤ used → len ≤ room → is_array arena used (behind_words n) ≡ true
is_array_is arena used n at len room r l m k =
    let a = are_used_is used n 4 l in
    let b : are_used used (items_at arena (behind_words n)) (room_of arena (behind_words n)) ≡ true = (λ i. are_used used (r.items_is i) (r.room_is i)) ∙ are_used_is used at room m in
    let c : nat_le (length_of arena (behind_words n)) (room_of arena (behind_words n)) ≡ true = (λ i. nat_le (r.length_is i) (r.room_is i)) ∙ (let q : nat_le len room ≡ true = grind arith in q) in
    rw a (rw b (rw c (by (room_of arena (behind_words n) == 0))))
  where
    by : (b : Bool) → ((if b then true else true) && true) ≡ true
    by true = refl
    by false = refl

-- what is stored where there is room
stored_is : (arena : List ℕ) (n at len room x : ℕ) → Read arena n at len room → stored arena (behind_words n) x ≡ slice_set (slice_set arena (at + len) x) (n + 1) (len + 1)
stored_is arena n at len room x r =
    let p : place arena_at (items_at arena (behind_words n) + 4 * length_of arena (behind_words n)) ≡ at + len = (λ i. place arena_at (r.items_is i + 4 * r.length_is i)) ∙ place_behind at len in
    let q : place arena_at (behind_words n + 4) ≡ n + 1 = place_behind n 1 in
    λ i. slice_set (slice_set arena (p i) x) (q i) (r.length_is i + 1)

-- what the arena is where there is none
moved_to : (arena : List ℕ) (n at len room x used : ℕ) → List ℕ
moved_to arena n at len room x used =
    put_words (put_words arena (behind_words used) (words_from arena len (behind_words at) ++ x ∷ [])) (behind_words (n + 1)) ((len + 1) ∷ (grown_room room ∷ (behind_words used ∷ [])))

moved_is : (arena : List ℕ) (n at len room x used : ℕ) → Read arena n at len room → moved arena (behind_words n) x (behind_words used) ≡ moved_to arena n at len room x used
unfolding moved_to
moved_is arena n at len room x used r =
    let q : behind_words n + 4 ≡ behind_words (n + 1) = omega arith in
    λ i. put_words (put_words arena (behind_words used) (words_from arena (r.length_is i) (r.items_is i) ++ x ∷ [])) (q i) ((r.length_is i + 1) ∷ (grown_room (r.room_is i) ∷ (behind_words used ∷ [])))

record Moved (arena : List ℕ) (n at len room x used : ℕ) (arena' : List ℕ) : Type 0 where
  size : length arena' ≡ length arena
  stays : (k : ℕ) → k < used → k ≢ n + 1 → k ≢ n + 2 → k ≢ n + 3 → slice_index arena' k ≡ slice_index arena k
  rest : (k : ℕ) → used + grown_room room ≤ k → slice_index arena' k ≡ slice_index arena k
  copied : (i : ℕ) → i < len → slice_index arena' (used + i) ≡ slice_index arena (at + i)
  last : slice_index arena' (used + len) ≡ x
  length_is : slice_index arena' (n + 1) ≡ len + 1
  room_is : slice_index arena' (n + 2) ≡ grown_room room
  items_is : slice_index arena' (n + 3) ≡ behind_words used

moved_shows : (arena : List ℕ) (n at len room x used : ℕ) → n + 4 ≤ used → len < grown_room room → used + grown_room room ≤ length arena → Moved arena n at len room x used (moved_to arena n at len room x used)
unfolding moved_to
moved_shows arena n at len room x used l m f =
    let copies = words_from arena len (behind_words at) in
    let size : length copies ≡ len = read_length arena len (behind_words at) in
    let xs = copies ++ x ∷ [] in
    let long : length xs ≡ len + 1 = more_length copies x ∙ ap (λ k. k + 1) size in
    let a1 = put_words arena (behind_words used) xs in
    let z1 = put_length arena used xs in
    let hs = (len + 1) ∷ (grown_room room ∷ (behind_words used ∷ [])) in
    let a2 = put_words a1 (behind_words (n + 1)) hs in
    let behind : (k : ℕ) → n + 4 ≤ k → slice_index a2 k ≡ slice_index a1 k = λ k q. put_behind a1 (n + 1) hs k (omega arith) in
    record {
      size = put_length a1 (n + 1) hs ∙ z1;
      stays = λ k q d e g.
          ⊎_elim (λ s. put_before a1 (n + 1) hs k s) (λ s. behind k (omega arith)) (which k (n + 1))
          ∙ put_before arena used xs k q;
      rest = λ k q. behind k (omega arith) ∙ put_behind arena used xs k (omega arith);
      copied = λ i q. behind (used + i) (omega arith) ∙ (put_at arena used xs i (omega arith) (omega arith) ∙ (more_front copies x i (omega arith) ∙ read_at arena len at i q));
      last = behind (used + len) (omega arith) ∙ (put_at arena used xs len (omega arith) (omega arith) ∙ (ap (slice_index xs) (sym size) ∙ more_last copies x));
      length_is = ap (slice_index a2) (omega arith) ∙ put_at a1 (n + 1) hs 0 (omega arith) (omega arith);
      room_is = ap (slice_index a2) (omega arith) ∙ put_at a1 (n + 1) hs 1 (omega arith) (omega arith);
      items_is = ap (slice_index a2) (omega arith) ∙ put_at a1 (n + 1) hs 2 (omega arith) (omega arith);
    }

-- the service's turn, by the array's address
turn : Fiber → Shared → ℕ → ℕ → Turn Fiber Shared
turn f t at array =
    unless_null array
    (if is_array t.arena t.used array then
    (if is_full t.arena array
    then Takes (grown_room (room_of t.arena array)) (λ used. (f, record t { arena = moved t.arena array (word_argument f 1) (behind_words used); used = used + grown_room (room_of t.arena array) }))
    else Goes f (record t { arena = stored t.arena array (word_argument f 1) }))
    else Faults bad_service at)

turn_is : (f : Fiber) (t : Shared) (at array : ℕ) → word_argument f 0 ≡ array → pushes at f t ≡ turn f t at array
unfolding turn
turn_is f t at array e = ap (turn f t at) e

module _ (f : Fiber) (t : Shared) (at n first len room : ℕ) (read : Read t.arena n first len room) (sound : is_array t.arena t.used (behind_words n) ≡ true) where
  there : (behind_words n == 0) ≡ false
  there = grind arith

  full_is : is_full t.arena (behind_words n) ≡ (len == room)
  full_is = λ i. (read.length_is i) == (read.room_is i)

  goes : len < room → turn f t at (behind_words n) ≡ Goes f (record t { arena = stored t.arena (behind_words n) (word_argument f 1) })
  unfolding turn
  goes l =
      let e : (len == room) ≡ false = grind arith in
      let a = there in let b = sound in let c = full_is ∙ e in
      rw a (rw b (rw c refl))

  takes : len ≡ room → turn f t at (behind_words n) ≡ Takes (grown_room room) (λ used. (f, record t { arena = moved t.arena (behind_words n) (word_argument f 1) (behind_words used); used = used + grown_room room }))
  unfolding turn
  takes q =
      let e : (len == room) ≡ true = grind arith in
      let a = there in let b = sound in let c = full_is ∙ e in
      let r = read.room_is in
      rw a (rw b (rw c (ap (λ k. Takes (grown_room k) (λ used. (f, record t { arena = moved t.arena (behind_words n) (word_argument f 1) (behind_words used); used = used + grown_room k }))) r)))

module _ (IsText IsCode : ℕ → ℕ → Type 0) (class_word : ℕ → ℕ) where
  abbrev Word : Value → ℕ → Type 0
  Word v w = Means IsText IsCode class_word v w

  module _ {N : Type 0} where
    taking : (f : Fiber) (t : Shared) (k : ℕ) (h : HeapOf N) (u : Turn Fiber Shared) → 0 < k → (arena : ℕ → List ℕ) → u ≡ Takes k (λ used. (f, record t { arena = arena used; used = used + k }))
        → (t.used + k ≤ arena_words → Shows Word class_word h (t.used + k) t.globals (arena t.used)) → PushedBy Word class_word f t k h u
    taking f t zero h u l arena e s = absurd (omega arith)
    taking f t (suc k) h u l arena e s = (arena, e, s)

    module _ (h : HeapOf N) (f : Fiber) (t : Shared) (at : ℕ) (s : Shows Word class_word h t.used t.globals t.arena) where
      shown : (h' : HeapOf N) (used' : ℕ) (arena' : List ℕ) → h'.globals ≡ h.globals → Lies Word class_word h' used' arena' → Shows Word class_word h' used' t.globals arena'
      shown h' used' arena' e l = record {
        size = s.size;
        fits = subst (λ (gs : List Value). length gs ≤ 256) (sym e) s.fits;
        values = subst (λ (gs : List Value). Stand Word class_word gs t.globals 0) (sym e) s.values;
        lies = l;
      }

      module _ (n : ℕ) (item : N) (room : ℕ) (items : List Value) (g : h.cells n ≡ Some (Items item room items)) (v : Value) (w : word_argument f 0 ≡ behind_words n) (m : Word v (word_argument f 1)) where
        abbrev row : RowOf N
        row = record { item = item; room = room; items = items }

        abbrev first : ℕ
        first = ((s.lies).each n (Items item room items) g).at

        read : Read t.arena n first (length items) room
        read =
            let y = (s.lies).each n (Items item room items) g in
            record {
              length_is = ap (slice_index t.arena) (place_behind n 1) ∙ y.length_is;
              room_is = ap (slice_index t.arena) (place_behind n 2) ∙ y.room_is;
              items_is = ap (slice_index t.arena) (place_behind n 3) ∙ y.at_is;
            }

        sound : is_array t.arena t.used (behind_words n) ≡ true
        sound =
            let y = (s.lies).each n (Items item room items) g in
            is_array_is t.arena t.used n first (length items) room read (y.owned).within (y.owned_room).within y.fits

        -- where there is room, and where there is none
        by : (b : Bool) → nat_lt (length items) room ≡ b
            → PushedBy Word class_word f t (if b then 0 else grown_room room) (put_items (Object n) (if b then row else record { item = item; room = grown_room room; items = items }) (items ++ v ∷ []) h) (pushes at f t)
        by true e =
            let l : length items < room = grind arith in
            let x = word_argument f 1 in (
              stored t.arena (behind_words n) x,
              turn_is f t at (behind_words n) w ∙ goes f t at n first (length items) room read sound l,
              shown _ t.used (stored t.arena (behind_words n) x) refl
                  (subst (λ a. Lies Word class_word (with_cell n (Items item room (items ++ v ∷ [])) h) t.used a) (sym (stored_is t.arena n first (length items) room x read)) (adds_item Word class_word h t.used n item room x t.arena items v g l m s.lies)),
            )
        by false e =
            let y = (s.lies).each n (Items item room items) g in
            let a = y.fits in
            let q : length items ≡ room = grind arith in
            let x = word_argument f 1 in
            let o = (y.owned).within in let z = (s.lies).size in
            taking f t (grown_room room) (put_items (Object n) (record { item = item; room = grown_room room; items = items }) (items ++ v ∷ []) h) (pushes at f t) (omega arith) (λ used. moved t.arena (behind_words n) x (behind_words used))
            (turn_is f t at (behind_words n) w ∙ takes f t at n first (length items) room read sound q)
            (λ fits.
            let b = moved_shows t.arena n first (length items) room x t.used o (omega arith) (omega arith) in
            shown _ (t.used + grown_room room) _ refl
            (subst (λ a. Lies Word class_word (with_cell n (Items item (grown_room room) (items ++ v ∷ [])) h) (t.used + grown_room room) a) (sym (moved_is t.arena n first (length items) room x t.used read))
            (grows_array Word class_word h t.used n item room (grown_room room) x t.arena (moved_to t.arena n first (length items) room x t.used) items v g (omega arith) fits (b.size ∙ z) m s.lies b.stays b.rest b.copied b.last b.length_is b.room_is b.items_is)))

      null_turn : word_argument f 0 ≡ 0 → pushes at f t ≡ Panics 105
      null_turn e = rw e refl

      pub pushes_as : (a v : Value) → Word a (word_argument f 0) → Word v (word_argument f 1) → PushesAs Word class_word f t (pushed h a v) (pushes at f t)
      pushes_as (Object n) v i m = found (h.cells n) refl
        where
          found : (c : Option (CellOf N)) → h.cells n ≡ c → PushesAs Word class_word f t (then_gives (items_of c) (λ r. Gives (growth r, put_items (Object n) (wider r) (r.items ++ v ∷ []) h))) (pushes at f t)
          found None q = tt
          found (Some (Fields class fields)) q = tt
          found (Some (Items item room items)) q = by n item room items q v i.0 m (nat_lt (length items) room) refl
      pushes_as (Whole (pos zero)) v i m = null_turn (null_is _ i.0 i.1)
      pushes_as (Whole (pos (suc n))) v i m = tt
      pushes_as (Whole (negsuc n)) v i m = tt
      pushes_as (Text k) v i m = tt
      pushes_as (Code k) v i m = tt
