-- Each operation over lowered code's heap gives what it gives over the source's, stuck to stuck: no types are needed.
use Rattle.std.proofs.Common.{◌≡◌, ℕ, zero, suc, pos, negsuc, Bool, true, false, if◌then◌else◌, nat_lt, List, [], ◌∷◌, ◌++◌, length, Option, Some, None, refl, ap, ◌∙◌, subst}
use Rattle.std.specs.Prelude.{nat_eq, slice_set}
use Rattle.std.proofs.Math.Path.{fun_ext}
use Rattle.board_world.specs.Kinds.{Kind, Turn}
use Rattle.board_world.specs.Simulation.{Ties, Matches}
use Rattle.sts_syntax.specs.Measures.{wider_room}
use Rattle.sts_syntax.specs.TypeRules.{entry}
use Rattle.sts_syntax.specs.Types.{ValueType}
use Rattle.sts_meaning.specs.Values.{Value, Whole, Object, Text, Code, Outcome, Gives, Breaks, Stuck, then_gives, there, with_entry}
use Rattle.sts_meaning.specs.Heaps.{CellOf, Fields, Items, Cell, Heap, FlatHeap, RowOf, with_cell, write_global, fields_of, object_at, items_of, array_at, number_of, put_fields, put_items, read_field, write_field, item_at, read_item, write_item, length_at, wider, pushed, last, shorter, popped, next_at, next_item}
use Rattle.sts_meaning.specs.Frames.{after}
use Rattle.sts_implements.specs.Forgotten.{Nothing, forget_cell, forget_at, forget}

-- two outcomes agree: also where both are stuck
abbrev pub Agree : {X Y : Type 0} → (X → Y → Type 0) → Outcome X → Outcome Y → Type 0
Agree R (Gives x) (Gives y) = R x y
Agree R (Breaks c) (Breaks d) = c ≡ d
Agree R Stuck Stuck = Unit {0}
Agree R o p = ⊥

module _ {A S C D : Type 0} (K : Kind A S) (L : Kind C D) (T : Ties A S C D) where
  -- turns that go on from outcomes that agree match, also where they are stuck
  pub after_matches : {X Y : Type 0} (R : X → Y → Type 0) (used : ℕ) (s : S) (t : D) (o : Outcome X) (p : Outcome Y) (f : X → Turn A S) (g : Y → Turn C D)
      → Agree R o p → ((x : X) (y : Y) → R x y → Matches K L T used s t (f x) (g y)) → Matches K L T used s t (after o f) (after p g)
  after_matches R used s t (Gives x) (Gives y) f g h k = k x y h
  after_matches R used s t (Breaks c) (Breaks d) f g h k = h
  after_matches R used s t Stuck Stuck f g h k = (refl, refl)
  after_matches R used s t _ _ f g h k = absurd h

pub agree_then : {X Y Z W : Type 0} (R : X → Y → Type 0) (Q : Z → W → Type 0) (o : Outcome X) (p : Outcome Y) (f : X → Outcome Z) (g : Y → Outcome W) → Agree R o p → ((x : X) (y : Y) → R x y → Agree Q (f x) (g y)) → Agree Q (then_gives o f) (then_gives p g)
agree_then R Q (Gives x) (Gives y) f g h k = k x y h
agree_then R Q (Breaks c) (Breaks d) f g h k = h
agree_then R Q Stuck Stuck f g h k = tt
agree_then R Q _ _ f g h k = absurd h

pub agree_same : {X : Type 0} (o : Outcome X) → Agree (λ x y. x ≡ y) o o
agree_same (Gives x) = refl
agree_same (Breaks c) = refl
agree_same Stuck = tt

-- a changed cell is forgotten as the cell that it is
forget_with : (n : ℕ) (c : Cell) (h : Heap) → forget (with_cell n c h) ≡ with_cell n (forget_cell c) (forget h)
forget_with n c h =
    ap (λ (cells : ℕ → Option (CellOf Nothing)). record { globals = h.globals; cells = cells })
    (fun_ext {f = λ m. forget_at (with_entry n (Some c) h.cells m)} {g = with_entry n (Some (forget_cell c)) (λ m. forget_at (h.cells m))} (λ m. by_test m (nat_eq m n)))
  where
    by_test : (m : ℕ) (b : Bool) → forget_at (if b then Some c else h.cells m) ≡ (if b then Some (forget_cell c) else forget_at (h.cells m))
    by_test m true = refl
    by_test m false = refl

-- rows of the two heaps
pub record AreRows (r : RowOf ValueType) (q : RowOf Nothing) : Type 0 where
  pub room : r.room ≡ q.room
  pub items : r.items ≡ q.items

abbrev pub IsForgotten : Heap → FlatHeap → Type 0
IsForgotten h g = forget h ≡ g

pub object_agrees : (h : Heap) (v : Value) → Agree (λ x y. x ≡ y) (object_at h v) (object_at (forget h) v)
object_agrees h (Object n) = by_cell (h.cells n)
  where
    by_cell : (o : Option Cell) → Agree (λ x y. x ≡ y) (fields_of o) (fields_of (forget_at o))
    by_cell None = tt
    by_cell (Some (Fields c vs)) = refl
    by_cell (Some (Items u room vs)) = tt
object_agrees h (Whole (pos zero)) = refl
object_agrees h (Whole (pos (suc n))) = tt
object_agrees h (Whole (negsuc n)) = tt
object_agrees h (Text n) = tt
object_agrees h (Code n) = tt

pub array_agrees : (h : Heap) (v : Value) → Agree AreRows (array_at h v) (array_at (forget h) v)
array_agrees h (Object n) = by_cell (h.cells n)
  where
    by_cell : (o : Option Cell) → Agree AreRows (items_of o) (items_of (forget_at o))
    by_cell None = tt
    by_cell (Some (Fields c vs)) = tt
    by_cell (Some (Items u room vs)) = record { room = refl; items = refl }
array_agrees h (Whole (pos zero)) = refl
array_agrees h (Whole (pos (suc n))) = tt
array_agrees h (Whole (negsuc n)) = tt
array_agrees h (Text n) = tt
array_agrees h (Code n) = tt

same_outcome : {X : Type 0} (o p : Outcome X) → o ≡ p → Agree (λ x y. x ≡ y) o p
same_outcome o p e = subst (λ q. Agree (λ x y. x ≡ y) o q) e (agree_same o)

-- each operation, over the source's heap and over what flat code has of it
pub read_field_agrees : (h : Heap) (o : Value) (f : ℕ) → Agree (λ x y. x ≡ y) (read_field h o f) (read_field (forget h) o f)
read_field_agrees h o f = agree_then (λ x y. x ≡ y) (λ x y. x ≡ y) (object_at h o) (object_at (forget h) o) _ _ (object_agrees h o) (λ x y e. same_outcome _ _ (ap (λ (z : ℕ × List Value). there (entry z.1 f)) e))

pub write_field_agrees : (h : Heap) (o v : Value) (f : ℕ) → Agree IsForgotten (write_field h o f v) (write_field (forget h) o f v)
write_field_agrees h o v f =
    agree_then (λ x y. x ≡ y) IsForgotten (object_at h o) (object_at (forget h) o) _ _ (object_agrees h o)
    (λ x y e. subst (λ (z : ℕ × List Value). Agree IsForgotten (then_gives (there (entry x.1 f)) (λ old. Gives (put_fields o x.0 (slice_set x.1 f v) h))) (then_gives (there (entry z.1 f)) (λ old. Gives (put_fields o z.0 (slice_set z.1 f v) (forget h))))) e
    (agree_then (λ a b. a ≡ b) IsForgotten (there (entry x.1 f)) (there (entry x.1 f)) _ _ (agree_same (there (entry x.1 f))) (λ a b q. forget_with (number_of o) (Fields x.0 (slice_set x.1 f v)) h)))

pub read_item_agrees : (h : Heap) (a i : Value) → Agree (λ x y. x ≡ y) (read_item h a i) (read_item (forget h) a i)
read_item_agrees h a i =
    agree_then AreRows (λ x y. x ≡ y) (array_at h a) (array_at (forget h) a) _ _ (array_agrees h a)
    (λ r q e. same_outcome _ _ (ap (λ (vs : List Value). then_gives (item_at vs i) (λ x. Gives x.1)) e.items))

put_agrees : (h : Heap) (a : Value) (r : RowOf ValueType) (q : RowOf Nothing) (vs ws : List Value) → r.room ≡ q.room → vs ≡ ws → IsForgotten (put_items a r vs h) (put_items a q ws (forget h))
put_agrees h a r q vs ws e d =
    forget_with (number_of a) (Items r.item r.room vs) h
    ∙ ap (λ (room : ℕ). with_cell (number_of a) (Items tt room vs) (forget h)) e ∙ ap (λ (xs : List Value). with_cell (number_of a) (Items tt q.room xs) (forget h)) d

pub write_item_agrees : (h : Heap) (a i v : Value) → Agree IsForgotten (write_item h a i v) (write_item (forget h) a i v)
write_item_agrees h a i v =
    agree_then AreRows IsForgotten (array_at h a) (array_at (forget h) a) _ _ (array_agrees h a)
    (λ r q e. agree_then (λ x y. x ≡ y) IsForgotten (item_at r.items i) (item_at q.items i) _ _ (same_outcome _ _ (ap (λ (vs : List Value). item_at vs i) e.items))
    (λ x y d. put_agrees h a r q (slice_set r.items x.0 v) (slice_set q.items y.0 v) e.room (ap (λ (vs : List Value). slice_set vs x.0 v) e.items ∙ ap (λ (z : ℕ × Value). slice_set q.items z.0 v) d)))

-- the words that a push takes, and the heap behind it
pub record ArePushed (x : ℕ × Heap) (y : ℕ × FlatHeap) : Type 0 where
  pub words : x.0 ≡ y.0
  pub heap : IsForgotten x.1 y.1

pub pushed_agrees : (h : Heap) (a v : Value) → Agree ArePushed (pushed h a v) (pushed (forget h) a v)
pushed_agrees h a v =
    agree_then AreRows ArePushed (array_at h a) (array_at (forget h) a) _ _ (array_agrees h a)
    (λ r q e. (let room = e.room in let items = e.items in
    record { words = rw (room, items) refl; heap = put_agrees h a (wider r) (wider q) (r.items ++ v ∷ []) (q.items ++ v ∷ []) (wider_rooms r q e) (ap (λ (vs : List Value). vs ++ v ∷ []) items) }))
  where
    wider_if : (b : Bool) (r : RowOf ValueType) (q : RowOf Nothing) → r.room ≡ q.room → (if b then r else record { item = r.item; room = wider_room r.room; items = r.items }).room ≡ (if b then q else record { item = q.item; room = wider_room q.room; items = q.items }).room
    wider_if true r q e = e
    wider_if false r q e = ap wider_room e

    wider_rooms : (r : RowOf ValueType) (q : RowOf Nothing) → AreRows r q → (wider r).room ≡ (wider q).room
    wider_rooms r q e =
        (let test : nat_lt (length r.items) r.room ≡ nat_lt (length q.items) q.room = (let room = e.room in let items = e.items in rw (room, items) refl) in
        wider_if (nat_lt (length r.items) r.room) r q e.room ∙ ap (λ (b : Bool). (if b then q else record { item = q.item; room = wider_room q.room; items = q.items }).room) test)

pub length_agrees : (h : Heap) (a : Value) → Agree (λ x y. x ≡ y) (length_at h a) (length_at (forget h) a)
length_agrees h a = agree_then AreRows (λ x y. x ≡ y) (array_at h a) (array_at (forget h) a) _ _ (array_agrees h a) (λ r q e. ap (λ (vs : List Value). Whole (pos (length vs))) e.items)

pub next_item_agrees : (h : Heap) (a i : Value) → Agree (λ x y. x ≡ y) (next_item h a i) (next_item (forget h) a i)
next_item_agrees h a i =
    agree_then AreRows (λ x y. x ≡ y) (array_at h a) (array_at (forget h) a) _ _ (array_agrees h a) (λ r q e. same_outcome _ _ (ap (λ (vs : List Value). next_at vs i) e.items))

-- an object is made: the heaps agree behind it
pub new_agrees : (h : Heap) (at c : ℕ) (fields : List Value) → IsForgotten (with_cell at (Fields c fields) h) (with_cell at (Fields c fields) (forget h))
new_agrees h at c fields = forget_with at (Fields c fields) h

pub open_agrees : (h : Heap) (at : ℕ) (u : ValueType) (room : ℕ) → IsForgotten (with_cell at (Items u room []) h) (with_cell at (Items tt room []) (forget h))
open_agrees h at u room = forget_with at (Items u room []) h

-- an array without its last item, and that item
pub record ArePopped (x : Value × Heap) (y : Value × FlatHeap) : Type 0 where
  pub item : x.0 ≡ y.0
  pub heap : IsForgotten x.1 y.1

pub popped_agrees : (h : Heap) (a : Value) → Agree ArePopped (popped h a) (popped (forget h) a)
popped_agrees h a =
    agree_then AreRows ArePopped (array_at h a) (array_at (forget h) a) _ _ (array_agrees h a)
    (λ r q e. subst (λ (vs : List Value). Agree ArePopped (shorter h a r (last r.items)) (shorter (forget h) a q (last vs))) e.items (by_last r q e.room (last r.items)))
  where
    by_last : (r : RowOf ValueType) (q : RowOf Nothing) → r.room ≡ q.room → (o : Option (Value × List Value)) → Agree ArePopped (shorter h a r o) (shorter (forget h) a q o)
    by_last r q e None = refl
    by_last r q e (Some x) = record { item = refl; heap = put_agrees h a r q x.1 x.1 e refl }

-- a global is set
pub write_global_agrees : (h : Heap) (g : ℕ) (v : Value) → Agree IsForgotten (write_global h g v) (write_global (forget h) g v)
write_global_agrees h g v =
    agree_then (λ x y. x ≡ y) IsForgotten (there (entry h.globals g)) (there (entry h.globals g)) _ _ (agree_same (there (entry h.globals g))) (λ x y e. refl)
