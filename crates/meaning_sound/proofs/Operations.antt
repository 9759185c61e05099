-- Operations on typed values aren't stuck, and give typed values.
use Rattle.std.proofs.Common.{◌≡◌, ℕ, zero, suc, ◌+◌, inl, inr, ℤ, pos, negsuc, Bool, true, false, not, if◌then◌else◌, nat_lt, List, [], ◌∷◌, ◌++◌, length, Option, Some, None, refl, ap, sym, ◌∙◌, subst, arith}
use Rattle.std.specs.Prelude.{slice_set, option_map}
use Rattle.std.specs.Ordering.{int_eq}
use Rattle.board_world.specs.Simulation.{Paired}
use Rattle.sts_syntax.specs.declared.typed.Spot.{Spot}
use Rattle.sts_syntax.specs.declared.typed.Spot.TheVariants.{Param, Local, Global}
use Rattle.sts_syntax.specs.Types as t
use Rattle.sts_syntax.specs.Types.{ValueType}
use Rattle.sts_syntax.specs.TypedTrees.{TypedRoutine, ClassEntry, TypedProgram}
use Rattle.sts_syntax.specs.Measures.{wider_room}
use Rattle.sts_syntax.specs.TypeRules.{entry, IsOneOf, arithmetic_operators, order_operators, equality_operators, number_prefixes, Prefixes, AreCompared, Works, HasClass, HasRoutine, Climbs, IsBelow, HasField, HasMethod}
use Rattle.sts_syntax.specs.WellTyped.{Setting}
use Rattle.sts_syntax.specs.WellTypedPrograms.{IsWellTyped}
use Rattle.sts_meaning.specs.Values.{Value, Whole, Object, Text, Code, default, truth, Outcome, Gives, there, same, applied, applied_before, Bumped, bumped, decided}
use Rattle.sts_meaning.specs.Heaps.{Cell, Fields, Items, Heap, fields_of, object_at, RowOf, items_of, array_at, number_of, read_field, write_field, found, item_at, read_item, write_item, length_at, growth, wider, pushed, behind, last, shorter, popped, next_at, next_item}
use Rattle.sts_meaning.specs.Frames.{Names, named}
use Rattle.sts_meaning.specs.Steps.{method}
use Rattle.meaning_sound.specs.Sorts.{OfClass, OfItems, shape, Well, Is}
use Rattle.meaning_sound.specs.Fits.{IsStored}
use Rattle.meaning_sound.specs.Kept.{Every, IsCell, IsHeap, AreNamed}
use Rattle.meaning_sound.proofs.Lists.{some_same, paired_entry, paired_changed, every_entry, every_changed, every_append}
use Rattle.meaning_sound.proofs.Growth.{goes_is, Changed, cell_changed, then_well}

abbrev Both : (Value → Type 0) → Option (Value × List Value) → Type 0
Both Q None = Unit {0}
Both Q (Some x) = Q x.0 × Every Q x.1

there_well : {X : Type 0} (Q : X → Type 0) (o : Option X) (x : X) → o ≡ Some x → Q x → Well Q (there o)
there_well Q o x e q = subst (λ p. Well Q (there p)) (sym e) q

-- what holds of each of some numbers holds of one of them
abbrev OfEach : (ℕ → Type 0) → List ℕ → Type 0
OfEach Q [] = Unit {0}
OfEach Q (n ∷ ns) = Q n × OfEach Q ns

of_one : (Q : ℕ → Type 0) (ns : List ℕ) (n : ℕ) → OfEach Q ns → IsOneOf n ns → Q n
of_one Q [] n all h = absurd h
of_one Q (m ∷ ms) n all (inl e) = subst Q (sym e) all.0
of_one Q (m ∷ ms) n all (inr h) = of_one Q ms n all.1 h

-- each operator has its row
abbrev GivesNumber : ℕ → Type 0
GivesNumber op = (x y : ℤ) → (n : ℤ) × (applied op (Whole x) (Whole y) ≡ Gives (Whole n))

arithmetic_gives : (op : ℕ) → IsOneOf op arithmetic_operators → GivesNumber op
arithmetic_gives op h =
    of_one GivesNumber arithmetic_operators op
    ((λ x y. (_, refl)), ((λ x y. (_, refl)), ((λ x y. (_, refl)), ((λ x y. (_, refl)), ((λ x y. (_, refl)), ((λ x y. (_, refl)), ((λ x y. (_, refl)), ((λ x y. (_, refl)), ((λ x y. (_, refl)), ((λ x y. (_, refl)), ((λ x y. (_, refl)), tt))))))))))) h

abbrev GivesTruth : ℕ → Type 0
GivesTruth op = (x y : ℤ) → (b : Bool) × (applied op (Whole x) (Whole y) ≡ Gives (truth b))

order_gives : (op : ℕ) → IsOneOf op order_operators → GivesTruth op
order_gives op h = of_one GivesTruth order_operators op ((λ x y. (_, refl)), ((λ x y. (_, refl)), ((λ x y. (_, refl)), ((λ x y. (_, refl)), tt)))) h

abbrev PrefixGives : ℕ → Type 0
PrefixGives op = (x : ℤ) → (n : ℤ) × (applied_before op (Whole x) ≡ Gives (Whole n))

prefix_gives : (op : ℕ) → IsOneOf op number_prefixes → PrefixGives op
prefix_gives op h = of_one PrefixGives number_prefixes op ((λ x. (_, refl)), ((λ x. (_, refl)), ((λ x. (_, refl)), tt))) h

abbrev Any : {X : Type 0} → X → Type 0
Any x = Unit {0}

module _ (P : TypedProgram) where
  -- numbers and truth values are whole
  pub number_whole : (h : Heap) (v : Value) → Is P h t.Number v → (n : ℤ) × (v ≡ Whole n)
  number_whole h (Whole n) p = (n, refl)
  number_whole h (Object n) p = cc
  number_whole h (Text n) p = cc
  number_whole h (Code n) p = cc

  pub truth_whole : (h : Heap) (v : Value) → Is P h t.Boolean v → (n : ℤ) × (v ≡ Whole n)
  truth_whole h (Whole n) p = (n, refl)
  truth_whole h (Object n) p = cc
  truth_whole h (Text n) p = cc
  truth_whole h (Code n) p = cc

  truth_is : (h : Heap) (b : Bool) → Is P h t.Boolean (truth b)
  truth_is h true = tt
  truth_is h false = tt

  -- values of one type can be compared
  abbrev Null_or_object : Value → Type 0
  Null_or_object (Object n) = Unit {0}
  Null_or_object v = v ≡ default

  abbrev Null_or_text : Value → Type 0
  Null_or_text (Text n) = Unit {0}
  Null_or_text v = v ≡ default

  same_objects : (x y : Value) → Null_or_object x → Null_or_object y → Well Any (same x y)
  same_objects (Object m) (Object n) p q = tt
  same_objects (Object m) y p q = subst (λ (z : Value). Well Any (same (Object m) z)) (sym q) tt
  same_objects x (Object n) p q = subst (λ (z : Value). Well Any (same z (Object n))) (sym p) tt
  same_objects x y p q = subst (λ (z : Value). Well Any (same z y)) (sym p) (subst (λ (z : Value). Well Any (same default z)) (sym q) tt)

  same_texts : (x y : Value) → Null_or_text x → Null_or_text y → Well Any (same x y)
  same_texts (Text m) (Text n) p q = tt
  same_texts (Text m) y p q = subst (λ (z : Value). Well Any (same (Text m) z)) (sym q) tt
  same_texts x (Text n) p q = subst (λ (z : Value). Well Any (same z (Text n))) (sym p) tt
  same_texts x y p q = subst (λ (z : Value). Well Any (same z y)) (sym p) (subst (λ (z : Value). Well Any (same default z)) (sym q) tt)

  same_wholes : (x y : Value) → ((n : ℤ) × (x ≡ Whole n)) → ((n : ℤ) × (y ≡ Whole n)) → Well Any (same x y)
  same_wholes x y p q = subst (λ (z : Value). Well Any (same z y)) (sym p.1) (subst (λ (z : Value). Well Any (same (Whole p.0) z)) (sym q.1) tt)

  object_null : (h : Heap) (c : ℕ) (x : Value) → Is P h (t.Object c) x → Null_or_object x
  object_null h c (Object n) p = tt
  object_null h c (Whole n) p = p
  object_null h c (Text n) p = p
  object_null h c (Code n) p = p

  list_null : (h : Heap) (u : ValueType) (x : Value) → Is P h (t.ListOf u) x → Null_or_object x
  list_null h u (Object n) p = tt
  list_null h u (Whole n) p = p
  list_null h u (Text n) p = p
  list_null h u (Code n) p = p

  text_null : (h : Heap) (x : Value) → Is P h t.Text x → Null_or_text x
  text_null h (Text n) p = tt
  text_null h (Whole n) p = p
  text_null h (Object n) p = p
  text_null h (Code n) p = p

  same_defaults : (x y : Value) → x ≡ default → y ≡ default → Well Any (same x y)
  same_defaults x y p q = same_wholes x y (pos 0, p) (pos 0, q)

  same_well : (h : Heap) (u : ValueType) (x y : Value) → Is P h u x → Is P h u y → Well Any (same x y)
  same_well h t.Number x y p q = same_wholes x y (number_whole h x p) (number_whole h y q)
  same_well h t.Boolean x y p q = same_wholes x y (truth_whole h x p) (truth_whole h y q)
  same_well h t.Text x y p q = same_texts x y (text_null h x p) (text_null h y q)
  same_well h t.Nothing x y p q = same_defaults x y p q
  same_well h (t.Object c) x y p q = same_objects x y (object_null h c x p) (object_null h c y q)
  same_well h (t.ListOf u) x y p q = same_objects x y (list_null h u x p) (list_null h u y q)
  same_well h t.NullType x y p q = same_defaults x y p q

  compared_well : (h : Heap) (u v : ValueType) (x y : Value) → AreCompared P u v → Is P h u x → Is P h v y → Well Any (same x y)
  compared_well h u v x y (not_nothing, inl g) p q = same_well h v x y (goes_is P h u v x g p) q
  compared_well h u v x y (not_nothing, inr g) p q = same_well h u x y p (goes_is P h v u y g q)

  abbrev TellsEqual : ℕ → Type 0
  TellsEqual op = (h : Heap) (x y : Value) → Well Any (same x y) → Well (Is P h t.Boolean) (applied op x y)

  equality_tells : (op : ℕ) → IsOneOf op equality_operators → TellsEqual op
  equality_tells op k =
      of_one TellsEqual equality_operators op (
        (λ h x y w. then_well Any (Is P h t.Boolean) (same x y) _ w (λ b _. truth_is h b)),
        ((λ h x y w. then_well Any (Is P h t.Boolean) (same x y) _ w (λ b _. truth_is h (not b))), tt),
      ) k

  as_type : (h : Heap) (u v : ValueType) (x : Value) → u ≡ v → Is P h u x → Is P h v x
  as_type h u v x e p = subst (λ (w : ValueType). Is P h w x) e p

  at_type : (h : Heap) (u v : ValueType) (o : Outcome Value) → u ≡ v → Well (Is P h u) o → Well (Is P h v) o
  at_type h u v o e p = subst (λ (w : ValueType). Well (Is P h w) o) e p

  of_wholes : (Q : Value → Type 0) (op : ℕ) (x y : Value) (m n : ℤ) → x ≡ Whole m → y ≡ Whole n → Well Q (applied op (Whole m) (Whole n)) → Well Q (applied op x y)
  of_wholes Q op x y m n p q w = subst (λ (z : Value). Well Q (applied op z y)) (sym p) (subst (λ (z : Value). Well Q (applied op (Whole m) z)) (sym q) w)

  pub applied_well : (h : Heap) (op : ℕ) (u v w : ValueType) (x y : Value) → Works P op u v w → Is P h u x → Is P h v y → Well (Is P h w) (applied op x y)
  applied_well h op u v w x y (inl k) p q =
      (let a = number_whole h x (as_type h u t.Number x k.1 p) in let b = number_whole h y (as_type h v t.Number y k.2 q) in
      let g = arithmetic_gives op k.0 a.0 b.0 in
      at_type h t.Number w (applied op x y) (sym k.3) (of_wholes (Is P h t.Number) op x y a.0 b.0 a.1 b.1 (subst (λ (o : Outcome Value). Well (Is P h t.Number) o) (sym g.1) tt)))
  applied_well h op u v w x y (inr (inl k)) p q =
      (let a = number_whole h x (as_type h u t.Number x k.1 p) in let b = number_whole h y (as_type h v t.Number y k.2 q) in
      let g = order_gives op k.0 a.0 b.0 in
      at_type h t.Boolean w (applied op x y) (sym k.3) (of_wholes (Is P h t.Boolean) op x y a.0 b.0 a.1 b.1 (subst (λ (o : Outcome Value). Well (Is P h t.Boolean) o) (sym g.1) (truth_is h g.0))))
  applied_well h op u v w x y (inr (inr k)) p q =
      at_type h t.Boolean w (applied op x y) (sym k.2) (equality_tells op k.0 h x y (compared_well h u v x y k.1 p q))

  pub applied_before_well : (h : Heap) (op : ℕ) (u w : ValueType) (x : Value) → Prefixes op u w → Is P h u x → Well (Is P h w) (applied_before op x)
  applied_before_well h op u w x (inl k) p =
      (let a = number_whole h x (as_type h u t.Number x k.1 p) in let g = prefix_gives op k.0 a.0 in
      at_type h t.Number w (applied_before op x) (sym k.2) (subst (λ (z : Value). Well (Is P h t.Number) (applied_before op z)) (sym a.1) (subst (λ (o : Outcome Value). Well (Is P h t.Number) o) (sym g.1) tt)))
  applied_before_well h op u w x (inr k) p =
      (let a = truth_whole h x (as_type h u t.Boolean x k.1 p) in
      at_type h t.Boolean w (applied_before op x) (sym k.2) (subst (λ (z : Value). Well (Is P h t.Boolean) (applied_before op z)) (sym a.1)
      (subst (λ (o : ℕ). Well (Is P h t.Boolean) (applied_before o (Whole a.0))) (sym k.0) (truth_is h (int_eq a.0 (pos 0))))))

  -- a number and the one behind it are numbers
  pub record AreBumped (h : Heap) (b : Bumped) : Type 0 where
    pub new : Is P h t.Number b.new
    pub given : Is P h t.Number b.given

  pub bumped_well : (h : Heap) (d : ℤ) (late : Bool) (v : Value) → Is P h t.Number v → Well (AreBumped h) (bumped d late v)
  bumped_well h d true (Whole n) p = record { new = tt; given = tt }
  bumped_well h d false (Whole n) p = record { new = tt; given = tt }
  bumped_well h d late (Object n) p = cc
  bumped_well h d late (Text n) p = cc
  bumped_well h d late (Code n) p = cc

  pub decided_well : (h : Heap) (v : Value) → Is P h t.Boolean v → Well Any (decided v)
  decided_well h (Whole n) p = tt
  decided_well h (Object n) p = cc
  decided_well h (Text n) p = cc
  decided_well h (Code n) p = cc

  -- an object that was found
  pub record IsFound (h : Heap) (c : ℕ) (v : Value) (x : ℕ × List Value) : Type 0 where
    pub below : IsBelow P x.0 c
    pub class : ClassEntry
    pub has : HasClass P x.0 class
    pub fields : Paired (Is P h) class.fields x.1
    pub at : h.cells (number_of v) ≡ Some (Fields x.0 x.1)

  pub object_well : (used : ℕ) (h : Heap) (c : ℕ) (v : Value) → IsHeap P used h → Is P h (t.Object c) v → Well (IsFound h c v) (object_at h v)
  object_well used h c (Object n) heap p = at_cell p.1.0 p.1.1 p.1.2
    where
      at_cell : (x : Cell) → h.cells n ≡ Some x → shape x ≡ OfClass p.0 → Well (IsFound h c (Object n)) (fields_of (h.cells n))
      at_cell (Fields d vs) e s =
          (let fine : IsCell P h (Fields d vs) = (heap.cells n (Fields d vs) e).1 in
          let same : p.0 ≡ d = cc in
          subst (λ (o : Option Cell). Well (IsFound h c (Object n)) (fields_of o)) (sym e)
          (record { below = subst (λ (k : ℕ). IsBelow P k c) same p.2; class = fine.0; has = fine.1; fields = fine.2; at = e }))
      at_cell (Items u room vs) e s = cc
  object_well used h c (Whole (pos zero)) heap p = tt
  object_well used h c v heap p = cc

  -- an array that was found
  pub record IsRow (h : Heap) (u : ValueType) (v : Value) (r : RowOf ValueType) : Type 0 where
    pub item : r.item ≡ u
    pub items : Every (Is P h r.item) r.items
    pub at : h.cells (number_of v) ≡ Some (Items r.item r.room r.items)

  pub array_well : (used : ℕ) (h : Heap) (u : ValueType) (v : Value) → IsHeap P used h → Is P h (t.ListOf u) v → Well (IsRow h u v) (array_at h v)
  array_well used h u (Object n) heap p = at_cell p.0 p.1 p.2
    where
      at_cell : (x : Cell) → h.cells n ≡ Some x → shape x ≡ OfItems u → Well (IsRow h u (Object n)) (items_of (h.cells n))
      at_cell (Items w room vs) e s =
          (let fine : IsCell P h (Items w room vs) = (heap.cells n (Items w room vs) e).1 in
          subst (λ (o : Option Cell). Well (IsRow h u (Object n)) (items_of o)) (sym e)
          (record { item = cc; items = fine; at = e }))
      at_cell (Fields d vs) e s = cc
  array_well used h u (Whole (pos zero)) heap p = tt
  array_well used h u v heap p = cc

  module _ (good : IsWellTyped P) where
    -- a class has the fields and methods of those above it
    pub field_below : (n d c f : ℕ) (u : ValueType) → Climbs P n d c → HasField P c f u → HasField P d f u
    field_below zero d c f u k h = subst (λ (x : ℕ). HasField P x f u) (sym k) h
    field_below (suc n) d c f u k h = (good.classes d k.0 k.2).fields k.1 f u k.3 (field_below n k.1 c f u k.4 h)

    pub method_below : (n d c s : ℕ) (params : List ValueType) (u : ValueType) → Climbs P n d c → HasMethod P c s params u → HasMethod P d s params u
    method_below zero d c s params u k h = subst (λ (x : ℕ). HasMethod P x s params u) (sym k) h
    method_below (suc n) d c s params u k h = (good.classes d k.0 k.2).methods k.1 s params u k.3 (method_below n k.1 c s params u k.4 h)

    found_field : (h : Heap) (c f : ℕ) (u : ValueType) (v : Value) (x : ℕ × List Value) → IsFound h c v x → HasField P c f u → (o : Value) × (entry x.1 f ≡ Some o) × Is P h u o
    found_field h c f u v x q k =
        (let i = field_below q.below.0 x.0 c f u q.below.1 k in
        let same : i.0 ≡ q.class = some_same (entry P.classes x.0) i.0 q.class i.1 q.has in
        paired_entry (Is P h) q.class.fields x.1 f u q.fields (subst (λ (z : ClassEntry). entry z.fields f ≡ Some u) same i.2))

    pub read_field_well : (used : ℕ) (h : Heap) (c f : ℕ) (u : ValueType) (v : Value) → IsHeap P used h → Is P h (t.Object c) v → HasField P c f u → Well (Is P h u) (read_field h v f)
    read_field_well used h c f u v heap p k =
        then_well (IsFound h c v) (Is P h u) (object_at h v) (λ x. there (entry x.1 f)) (object_well used h c v heap p)
        (λ x q. (let o = found_field h c f u v x q k in there_well (Is P h u) (entry x.1 f) o.0 o.1 o.2))

    pub write_field_well : (used : ℕ) (h : Heap) (c f : ℕ) (u : ValueType) (o v : Value) → IsHeap P used h → Is P h (t.Object c) o → HasField P c f u → Is P h u v → Well (Changed P used h) (write_field h o f v)
    write_field_well used h c f u o v heap p k w =
        then_well (IsFound h c o) (Changed P used h) (object_at h o) _ (object_well used h c o heap p)
        (λ x q. (let i = field_below q.below.0 x.0 c f u q.below.1 k in
        let same : i.0 ≡ q.class = some_same (entry P.classes x.0) i.0 q.class i.1 q.has in
        let old = found_field h c f u o x q k in
        then_well {Y = Heap} (λ z. Unit {0}) (Changed P used h) (there (entry x.1 f)) _ (there_well (λ z. Unit {0}) (entry x.1 f) old.0 old.1 tt)
        (λ z _. cell_changed P used used h (number_of o) (Fields x.0 (slice_set x.1 f v)) (Fields x.0 x.1) heap (omega arith) q.at refl
        (q.class, q.has, paired_changed (Is P h) q.class.fields x.1 f u v q.fields (subst (λ (z : ClassEntry). entry z.fields f ≡ Some u) same i.2) w))))

    -- the method that is found in a slot
    pub record IsFoundMethod (h : Heap) (params : List ValueType) (u : ValueType) (o : Value) (f : ℕ) : Type 0 where
      pub routine : TypedRoutine
      pub has : HasRoutine P f routine
      pub class : ℕ
      pub params' : routine.params ≡ t.Object class ∷ params
      pub gives : routine.gives ≡ u
      pub receiver : Is P h (t.Object class) o

    below_is : (h : Heap) (c d e : ℕ) (o : Value) (vs : List Value) → h.cells (number_of o) ≡ Some (Fields d vs) → IsBelow P d e → Is P h (t.Object c) o → Is P h (t.Object e) o
    below_is h c d e (Object n) vs at b p = (d, (Fields d vs, at, refl), b)
    below_is h c d e (Whole n) vs at b p = p
    below_is h c d e (Text n) vs at b p = p
    below_is h c d e (Code n) vs at b p = p

    pub method_well : (used : ℕ) (h : Heap) (c s : ℕ) (params : List ValueType) (u : ValueType) (o : Value) → IsHeap P used h → Is P h (t.Object c) o → HasMethod P c s params u
        → Well (IsFoundMethod h params u o) (method P [] h o s)
    method_well used h c s params u o heap p k =
        then_well (IsFound h c o) (IsFoundMethod h params u o) (object_at h o) _ (object_well used h c o heap p)
        (λ x q. (let m = method_below q.below.0 x.0 c s params u q.below.1 k in
        let i = m.4 in
        then_well {Y = ℕ} (λ z. z ≡ m.0) (IsFoundMethod h params u o) (there (entry P.classes x.0)) _ (there_well (λ z. z ≡ m.0) (entry P.classes x.0) m.0 m.2 refl)
        (λ z e. there_well (IsFoundMethod h params u o) (entry z.slots s) m.1 (ap (λ (y : ClassEntry). entry y.slots s) e ∙ m.3)
        (record { routine = i.0; has = i.2; class = i.1; params' = i.3; gives = i.5; receiver = below_is h c x.0 i.1 o x.1 q.at i.4 p }))))

  -- items
  found_well : (h : Heap) (w : ValueType) (items : List Value) (i : ℕ) → Every (Is P h w) items → Well (λ (x : ℕ × Value). Is P h w x.1) (found i (entry items i))
  found_well h w items i every = by_entry (entry items i) refl
    where
      by_entry : (o : Option Value) → entry items i ≡ o → Well (λ (x : ℕ × Value). Is P h w x.1) (found i o)
      by_entry None e = tt
      by_entry (Some v) e = every_entry (Is P h w) items i v every e

  item_well : (h : Heap) (w : ValueType) (items : List Value) (i : Value) → Every (Is P h w) items → Is P h t.Number i → Well (λ (x : ℕ × Value). Is P h w x.1) (item_at items i)
  item_well h w items (Whole (pos n)) every p = found_well h w items n every
  item_well h w items (Whole (negsuc n)) every p = tt
  item_well h w items v every p = cc

  pub read_item_well : (used : ℕ) (h : Heap) (u : ValueType) (a i : Value) → IsHeap P used h → Is P h (t.ListOf u) a → Is P h t.Number i → Well (Is P h u) (read_item h a i)
  read_item_well used h u a i heap p q =
      then_well (IsRow h u a) (Is P h u) (array_at h a) _ (array_well used h u a heap p)
      (λ r k. then_well (λ (x : ℕ × Value). Is P h r.item x.1) (Is P h u) (item_at r.items i) _ (item_well h r.item r.items i k.items q)
      (λ x z. subst (λ (w : ValueType). Is P h w x.1) k.item z))

  pub write_item_well : (used : ℕ) (h : Heap) (u : ValueType) (a i v : Value) → IsHeap P used h → Is P h (t.ListOf u) a → Is P h t.Number i → Is P h u v → Well (Changed P used h) (write_item h a i v)
  write_item_well used h u a i v heap p q w =
      then_well (IsRow h u a) (Changed P used h) (array_at h a) _ (array_well used h u a heap p)
      (λ r k. then_well (λ (x : ℕ × Value). Is P h r.item x.1) (Changed P used h) (item_at r.items i) _ (item_well h r.item r.items i k.items q)
      (λ x z. cell_changed P used used h (number_of a) (Items r.item r.room (slice_set r.items x.0 v)) (Items r.item r.room r.items) heap (omega arith) k.at refl
      (every_changed (Is P h r.item) r.items x.0 v k.items (subst (λ (y : ValueType). Is P h y v) (sym k.item) w))))

  pub length_well : (used : ℕ) (h : Heap) (u : ValueType) (a : Value) → IsHeap P used h → Is P h (t.ListOf u) a → Well (Is P h t.Number) (length_at h a)
  length_well used h u a heap p = then_well (IsRow h u a) (Is P h t.Number) (array_at h a) _ (array_well used h u a heap p) (λ r k. tt)

  wider_item : (r : RowOf ValueType) → (wider r).item ≡ r.item
  wider_item r = by_test (nat_lt (length r.items) r.room)
    where
      by_test : (b : Bool) → (if b then r else record { item = r.item; room = wider_room r.room; items = r.items }).item ≡ r.item
      by_test true = refl
      by_test false = refl

  pub pushed_well : (used : ℕ) (h : Heap) (u : ValueType) (a v : Value) → IsHeap P used h → Is P h (t.ListOf u) a → Is P h u v → Well (λ (x : ℕ × Heap). Changed P (used + x.0) h x.1) (pushed h a v)
  pushed_well used h u a v heap p w =
      then_well (IsRow h u a) (λ (x : ℕ × Heap). Changed P (used + x.0) h x.1) (array_at h a) _ (array_well used h u a heap p)
      (λ r k. (let same : (wider r).item ≡ r.item = wider_item r in
      cell_changed P used (used + growth r) h (number_of a) (Items (wider r).item (wider r).room (r.items ++ v ∷ [])) (Items r.item r.room r.items) heap (omega arith) k.at (ap OfItems (sym same))
      (subst (λ (y : ValueType). Every (Is P h y) (r.items ++ v ∷ [])) (sym same) (every_append (Is P h r.item) r.items v k.items (subst (λ (y : ValueType). Is P h y v) (sym k.item) w)))))

  -- an array without its last item
  last_is : (Q : Value → Type 0) (vs : List Value) → Every Q vs → (o : Option (Value × List Value)) → last vs ≡ o → Both Q o
  last_is Q [] every None e = tt
  last_is Q [] every (Some x) e = cc
  last_is Q (v ∷ vs) every o e = subst (λ p. Both Q p) e (by_last (last vs) (last_is Q vs every.1 (last vs) refl))
    where
      by_last : (p : Option (Value × List Value)) → Both Q p → Both Q (behind v p)
      by_last None b = (every.0, tt)
      by_last (Some x) b = (b.0, (every.0, b.1))

  pub popped_well : (used : ℕ) (h : Heap) (u : ValueType) (a : Value) → IsHeap P used h → Is P h (t.ListOf u) a → Well (λ (x : Value × Heap). Is P h u x.0 × Changed P used h x.1) (popped h a)
  popped_well used h u a heap p =
      then_well (IsRow h u a) (λ (x : Value × Heap). Is P h u x.0 × Changed P used h x.1) (array_at h a) _ (array_well used h u a heap p) (λ r k. by_last r k (last r.items) (last_is (Is P h r.item) r.items k.items (last r.items) refl))
    where
      by_last : (r : RowOf ValueType) → IsRow h u a r → (o : Option (Value × List Value)) → Both (Is P h r.item) o → Well (λ (x : Value × Heap). Is P h u x.0 × Changed P used h x.1) (shorter h a r o)
      by_last r k None b = tt
      by_last r k (Some x) b =
          (subst (λ (w : ValueType). Is P h w x.0) k.item b.0, cell_changed P used used h (number_of a) (Items r.item r.room x.1) (Items r.item r.room r.items) heap (omega arith) k.at refl b.1)

  -- the next item, if there is one
  abbrev pub IsNext : Heap → ValueType → Option (ℕ × Value) → Type 0
  IsNext h u None = Unit {0}
  IsNext h u (Some x) = Is P h u x.1

  next_well : (h : Heap) (w : ValueType) (items : List Value) (i : Value) → Every (Is P h w) items → Is P h t.Number i → Well (IsNext h w) (next_at items i)
  next_well h w items (Whole (pos n)) every p = by_entry (entry items n) refl
    where
      by_entry : (o : Option Value) → entry items n ≡ o → IsNext h w (option_map (λ v. (n, v)) o)
      by_entry None e = tt
      by_entry (Some v) e = every_entry (Is P h w) items n v every e
  next_well h w items (Whole (negsuc n)) every p = tt
  next_well h w items v every p = cc

  pub next_item_well : (used : ℕ) (h : Heap) (u : ValueType) (a i : Value) → IsHeap P used h → Is P h (t.ListOf u) a → Is P h t.Number i → Well (IsNext h u) (next_item h a i)
  next_item_well used h u a i heap p q =
      then_well (IsRow h u a) (IsNext h u) (array_at h a) _ (array_well used h u a heap p)
      (λ r k. subst (λ (w : ValueType). Well (IsNext h w) (next_at r.items i)) k.item (next_well h r.item r.items i k.items q))

  -- names
  pub named_well : (used : ℕ) (h : Heap) (S : Setting) (n : Names) (x : Spot) (u : ValueType) → IsHeap P used h → AreNamed P h S.routine n → IsStored P S x u → Well (Is P h u) (named h n x)
  named_well used h S n (Param i) u heap names has = names.params i u has
  named_well used h S n (Local i) u heap names has = names.locals i u has
  named_well used h S n (Global g) u heap names has =
      (let q = paired_entry (Is P h) P.globals h.globals g u heap.globals has in there_well (Is P h u) (entry h.globals g) q.0 q.1 q.2)
