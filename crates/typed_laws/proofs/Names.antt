-- What names and members stand for, and that expressions have types that values have.
use Rattle.std.proofs.Common.{◌≡◌, ℕ, refl, sym, subst, Bool, true, false, ◌&&◌, ◌||◌, ◌==◌, Option, Some, None, List, [], ◌∷◌, inl, inr}
use Rattle.std.specs.Prelude.{ℤ, is_some, nat_le, nat_lt, if◌then◌else◌, codes}
use Rattle.sts_base.specs.declared.tables.Tables.{Tables}
use Rattle.sts_syntax.specs.Types as t
use Rattle.sts_syntax.specs.Types.{ValueType}
use Rattle.sts_syntax.specs.BoardTable.{row_of}
use Rattle.sts_syntax.specs.declared.board_calls.BoardCall.{BoardCall}
use Rattle.sts_syntax.specs.Trees.{Tree, Num, Text, Truth, Null, This, Name, Unary, Binary, Both, Either, Choice, Set, Bump, Member, Item, Call, SuperCall, Make, Items, Handler, none, more}
use Rattle.sts_scope.specs.declared.kinds.StaticType.{StaticType}
use Rattle.sts_scope.specs.declared.entries.Owner.TheVariants as o
use Rattle.sts_scope.specs.declared.entries.DeclarationKind.{DeclarationKind}
use Rattle.sts_scope.specs.declared.entries.DeclarationKind.TheVariants as sort
use Rattle.sts_scope.specs.declared.known.Known.{Known}
use Rattle.sts_scope.specs.declared.known.Found.{Found}
use Rattle.sts_scope.specs.declared.known.Found.TheVariants as found
use Rattle.sts_scope.specs.declared.known.Part.{Part}
use Rattle.sts_scope.specs.declared.known.Part.TheVariants as part
use Rattle.sts_scope.specs.declared.known.This.{This as Self}
use Rattle.sts_scope.specs.declared.known.This.TheVariants as this
use Rattle.sts_scope.specs.Kinds.{number, boolean, nothing, null, object, array, array_of, most_brackets, item, same, is_array, class_of, takes_null}
use Rattle.sts_scope.specs.Lookup.{entry_number, sort_of, member_number}
use Rattle.sts_scope.specs.Places.{NameScope, is_hidden, last_named, found_among, found_around, whole_found, sort_found, entry_found}
use Rattle.sts_scope.specs.Rules.{local_kind, name_kind, this_kind, kind_at, takes_at, is_spelled, array_part, member_part, object_part, class_part, part_of, part_kind, call_kind, all_go, maker_takes_of, operate, prefix, joined, common, choose, assign, counted, element, items_type, comparable, below, goes, all_go_to, is_arithmetic, is_order, is_equality}
use Rattle.type_derive.specs.declared.roles.Role.TheVariants.{Free, Given}
use Rattle.type_derive.specs.Typing.{◌>>=◌, Callee, callee, board_kind, finds, space_of, space, constant_of, board_callee, named_callee, part_callee, callee_of, super_method, made, called, type_of, types_of, are_given, settable}
use Rattle.typed_laws.proofs.Stands.{IsProper}
use Rattle.typed_laws.proofs.OneNode.{if_cases, if_gives, if_some}

pub record Is {A : Type 0} (o : Option A) : Type 0 where
  pub it : A
  pub is : o ≡ Some it

pub bind_some : {A B : Type 0} (a : Option A) (f : A → Option B) (r : B) → (a >>= f) ≡ Some r → (x : A) × (a ≡ Some x) × (f x ≡ Some r)
bind_some {A} {B} None f r h = cc
bind_some {A} {B} (Some x) f r h = (x, refl, h)

pub some_is : {A : Type 0} (x y : A) → Some x ≡ Some y → x ≡ y
some_is {A} x y h = cc

-- an `if` that gives its second or its first
pub either_some : {A : Type 0} (P : A → Type 0) (x : Bool) (a c : Option A) (r : A) → ((s : A) → a ≡ Some s → P s) → ((s : A) → c ≡ Some s → P s) → (if x then a else c) ≡ Some r → P r
either_some {A} P true a c r f g h = f r h
either_some {A} P false a c r f g h = g r h

fixed_some : {A : Type 0} (P : A → Type 0) (x : Bool) (a r : A) → P a → (if x then Some a else None) ≡ Some r → P r
fixed_some {A} P true a r p h = let q : a ≡ r = some_is a r h in subst P q p
fixed_some {A} P false a r p h = cc

-- what a call has that has a type: what is called, and arguments that go there
call_parts : (k : Known) (takes : List StaticType) (gives : Option StaticType) (us : List StaticType) (u : StaticType) → call_kind k.classes takes gives us ≡ Some u → (all_go k.classes us takes ≡ true) × (gives ≡ Some u)
unfolding call_kind
call_parts k takes gives us u h = elim (if_cases (all_go k.classes us takes) gives None u h) [ inl q ↦ q | inr q ↦ (let z : None ≡ Some u = q.1 in cc) ]

pub called_parts : (tables : Tables) (k : Known) (d : Option Callee) (ts : Option (List StaticType)) (u : StaticType) → called k d ts ≡ Some u
    → (x : Callee) × (us : List StaticType) × (d ≡ Some x) × (ts ≡ Some us) × (all_go k.classes us x.takes ≡ true) × (x.gives ≡ Some u)
called_parts tables k d ts u h =
    let (x, q, h1) = bind_some d (λ x. ts >>= λ us. call_kind k.classes x.takes x.gives us) u h in
    let (us, r, h2) = bind_some ts (λ us. call_kind k.classes x.takes x.gives us) u h1 in
    let (a, b) = call_parts k x.takes x.gives us u h2 in
    (x, us, q, r, a, b)

module _ (tables : Tables) (k : Known) (p : NameScope) where
  -- a name before a part of the board's interface has no type
  unknown_space : (x : ℕ) (f : Found) (s : List ℕ) → space_of tables x f ≡ Some s → name_kind k p f ≡ None
  unknown_space x found.Unknown s h = refl
  unknown_space x (found.Local i) s h = cc
  unknown_space x found.Captured s h = cc
  unknown_space x (found.Global d) s h = cc
  unknown_space x (found.Function d) s h = cc
  unknown_space x (found.Class c) s h = cc

  pub space_valueless : (a : Tree) (s : List ℕ) → space tables k p a ≡ Some s → type_of tables k p Free a ≡ None
  space_valueless (Name at x) s h = unknown_space x (finds tables k p x) s h
  space_valueless (Num at n) s h = cc
  space_valueless (Text at n) s h = cc
  space_valueless (Truth at b) s h = cc
  space_valueless (Null at) s h = cc
  space_valueless (This at) s h = cc
  space_valueless (Unary at op a) s h = cc
  space_valueless (Binary at op a b) s h = cc
  space_valueless (Both at a b) s h = cc
  space_valueless (Either at a b) s h = cc
  space_valueless (Choice at c a b) s h = cc
  space_valueless (Set at op x a) s h = cc
  space_valueless (Bump at x by late) s h = cc
  space_valueless (Member at a m) s h = cc
  space_valueless (Item at a i) s h = cc
  space_valueless (Items at items) s h = cc
  space_valueless (Call at f args) s h = cc
  space_valueless (SuperCall at m args) s h = cc
  space_valueless (Make at x args) s h = cc
  space_valueless (Handler at body) s h = cc

module _ (k : Known) where
  -- a global, a function and a class are declared so
  abbrev pub Real : NameScope → Found → Type 0
  Real p (found.Local i) = Unit {0}
  Real p found.Captured = Unit {0}
  Real p (found.Global d) = (fixed : Bool) × (sort_of k.entries d ≡ Some (sort.Global fixed))
  Real p (found.Function d) = sort_of k.entries d ≡ Some sort.Function
  Real p (found.Class c) = (d : ℕ) × (sort_of k.entries d ≡ Some (sort.Class c))
  Real p found.Unknown = Unit {0}

  module _ (p : NameScope) where
    entry_real : (d : ℕ) (s : DeclarationKind) → sort_of k.entries d ≡ Some s → Real p (entry_found d s)
    entry_real d (sort.Global fixed) h = (fixed, h)
    entry_real d sort.Function h = h
    entry_real d (sort.Class c) h = (d, h)
    entry_real d sort.Field h = tt
    entry_real d sort.Method h = tt

    sort_real : (d : ℕ) (s : Option DeclarationKind) → sort_of k.entries d ≡ s → Real p (sort_found d s)
    sort_real d None h = tt
    sort_real d (Some s) h = entry_real d s h

    if_real : (x : Bool) (f g : Found) → (x ≡ true → Real p f) → (x ≡ false → Real p g) → Real p (if x then f else g)
    if_real true f g a b = a refl
    if_real false f g a b = b refl

    whole_real : (library : Bool) (d : Option ℕ) → Real p (whole_found k library d)
    whole_real library None = tt
    whole_real library (Some d) = if_real (library && nat_le k.library d) found.Unknown (sort_found d (sort_of k.entries d)) (λ e. tt) (λ e. sort_real d (sort_of k.entries d) refl)

    around_real : (x : ℕ) (around : Bool) → Real p (found_around k p x around)
    around_real x true = tt
    around_real x false = whole_real p.library (entry_number k.entries o.Whole x)

    among_real : (x : ℕ) (i : Option ℕ) → Real p (found_among k p x i)
    among_real x (Some i) = tt
    among_real x None = around_real x (is_some (last_named p.around x))

  pub real : (tables : Tables) (p : NameScope) (x : ℕ) → Real p (finds tables k p x)
  real tables p x = if_real p (is_hidden tables.names p x) found.Unknown (found_among k p x (last_named p.locals x)) (λ e. tt) (λ e. among_real p x (last_named p.locals x))

  -- what stands behind a dot
  abbrev pub HasPart : StaticType → ℕ → Part → Type 0
  HasPart u m (part.Field d) = (c : ℕ) × (class_of u ≡ Some c) × (class_part k (Some c) m ≡ part.Field d)
  HasPart u m (part.Method d) = (c : ℕ) × (class_of u ≡ Some c) × (class_part k (Some c) m ≡ part.Method d)
  HasPart u m part.Length = is_array u ≡ true
  HasPart u m (part.Push v) = (is_array u ≡ true) × (v ≡ item u)
  HasPart u m (part.Pop v) = (is_array u ≡ true) × (v ≡ item u)
  HasPart u m part.Missing = Unit {0}

  if_part : (u : StaticType) (m : ℕ) (x : Bool) (f g : Part) → HasPart u m f → HasPart u m g → HasPart u m (if x then f else g)
  if_part u m true f g a b = a
  if_part u m false f g a b = b

  class_has : (u : StaticType) (m c : ℕ) (f : Part) → class_of u ≡ Some c → class_part k (Some c) m ≡ f → (f ≡ part.Length → ⊥) → ((v : StaticType) → f ≡ part.Push v → ⊥) → ((v : StaticType) → f ≡ part.Pop v → ⊥) → HasPart u m f
  class_has u m c (part.Field d) q r x y z = (c, q, r)
  class_has u m c (part.Method d) q r x y z = (c, q, r)
  class_has u m c part.Length q r x y z = absurd (x refl)
  class_has u m c (part.Push v) q r x y z = absurd (y v refl)
  class_has u m c (part.Pop v) q r x y z = absurd (z v refl)
  class_has u m c part.Missing q r x y z = tt

  abbrev IsOfClass : Part → Type 0
  IsOfClass (part.Field d) = Unit {0}
  IsOfClass (part.Method d) = Unit {0}
  IsOfClass part.Missing = Unit {0}
  IsOfClass part.Length = ⊥
  IsOfClass (part.Push v) = ⊥
  IsOfClass (part.Pop v) = ⊥

  member_of : (d : ℕ) (s : Option DeclarationKind) → IsOfClass (member_part d s)
  member_of d (Some sort.Field) = tt
  member_of d (Some sort.Method) = tt
  member_of d (Some sort.Function) = tt
  member_of d (Some (sort.Class c)) = tt
  member_of d (Some (sort.Global fixed)) = tt
  member_of d None = tt

  object_of : (d : Option ℕ) → IsOfClass (object_part k d)
  object_of None = tt
  object_of (Some d) = member_of d (sort_of k.entries d)

  class_is : (u : StaticType) (m c : ℕ) (f : Part) → class_of u ≡ Some c → class_part k (Some c) m ≡ f → IsOfClass f → HasPart u m f
  class_is u m c f q r i = class_has u m c f q r (λ e. subst IsOfClass e i) (λ v e. subst IsOfClass e i) (λ v e. subst IsOfClass e i)

  class_parts : (u : StaticType) (m : ℕ) (c : Option ℕ) → class_of u ≡ c → HasPart u m (class_part k c m)
  class_parts u m None q = tt
  class_parts u m (Some c) q = class_is u m c (class_part k (Some c) m) q refl (object_of (member_number k.entries k.classes c m))

  array_parts : (spellings : List (List ℕ)) (u : StaticType) (m : ℕ) → is_array u ≡ true → HasPart u m (array_part spellings (item u) m)
  array_parts spellings u m h =
      if_part u m (is_spelled spellings m (codes "length")) part.Length _ h
      (if_part u m (is_spelled spellings m (codes "push")) (part.Push (item u)) _ (h, refl)
      (if_part u m (is_spelled spellings m (codes "pop")) (part.Pop (item u)) part.Missing (h, refl) tt))

  parts_of : (spellings : List (List ℕ)) (u : StaticType) (m : ℕ) (x : Bool) → is_array u ≡ x → HasPart u m (if x then array_part spellings (item u) m else class_part k (class_of u) m)
  parts_of spellings u m true q = array_parts spellings u m q
  parts_of spellings u m false q = class_parts u m (class_of u) refl

  pub has_part : (spellings : List (List ℕ)) (u : StaticType) (m : ℕ) → HasPart u m (part_of spellings k u m)
  unfolding part_of
  has_part spellings u m = parts_of spellings u m (is_array u) refl

pub board_proper : (v : ValueType) → IsProper (board_kind v)
board_proper t.Number = refl
board_proper t.Boolean = refl
board_proper t.Text = refl
board_proper t.Nothing = refl
board_proper (t.Object c) = refl
board_proper (t.ListOf u) = refl
board_proper t.NullType = refl

module _ (tables : Tables) (k : Known) (kinds_proper : (d : ℕ) (u : StaticType) → kind_at k d ≡ Some u → IsProper u) where
  abbrev pub AreProper : NameScope → Type 0
  AreProper p = (i : ℕ) (u : StaticType) → local_kind p.locals i ≡ Some u → IsProper u

  works_proper : (op : ℕ) (s u w : StaticType) → operate k.classes op s u ≡ Some w → IsProper w
  unfolding operate
  works_proper op s u w h =
      either_some IsProper (is_equality op) (if comparable k.classes s u then Some boolean else None) (if same s number && same u number then (if is_arithmetic op then Some number else if is_order op then Some boolean else None) else None) w
      (λ r e. fixed_some IsProper (comparable k.classes s u) boolean r refl e)
      (λ r e. either_some IsProper (same s number && same u number) (if is_arithmetic op then Some number else if is_order op then Some boolean else None) None r
      (λ r e. either_some IsProper (is_arithmetic op) (Some number) (if is_order op then Some boolean else None) r (λ r e. subst IsProper (some_is number r e) refl) (λ r e. fixed_some IsProper (is_order op) boolean r refl e) e)
      (λ r e. cc) e) h

  prefix_proper : (op : ℕ) (s w : StaticType) → prefix op s ≡ Some w → IsProper w
  unfolding prefix
  prefix_proper op s w h =
      either_some IsProper (op == 3) (if same s boolean then Some boolean else None) (if (op == 1 || op == 2 || op == 4) && same s number then Some number else None) w
      (λ r e. fixed_some IsProper (same s boolean) boolean r refl e)
      (λ r e. fixed_some IsProper ((op == 1 || op == 2 || op == 4) && same s number) number r refl e) h

  joined_proper : (s u w : StaticType) → joined s u ≡ Some w → IsProper w
  unfolding joined
  joined_proper s u w h = fixed_some IsProper (same s boolean && same u boolean) boolean w refl h

  choose_proper : (q s u w : StaticType) → IsProper s → IsProper u → choose k.classes q s u ≡ Some w → IsProper w
  unfolding choose common
  choose_proper q s u w a c h =
      either_some IsProper (same q boolean) (common k.classes s u) None w
      (λ r e. either_some IsProper (same s u || below k.classes u s || (same u null && takes_null s)) (Some s) (if below k.classes s u || (same s null && takes_null u) then Some u else None) r
      (λ r e. subst IsProper (some_is s r e) a) (λ r e. fixed_some IsProper (below k.classes s u || (same s null && takes_null u)) u r c e) e)
      (λ r e. cc) h

  assign_operated : (op : ℕ) (o : Option StaticType) (u w : StaticType) → IsProper u → elim o [ None ↦ None | Some v ↦ if same v u then Some u else None ] ≡ Some w → IsProper w
  assign_operated op None u w a h = cc
  assign_operated op (Some v) u w a h = fixed_some IsProper (same v u) u w a h

  assign_proper : (op : Option ℕ) (u s w : StaticType) → IsProper u → assign k.classes op u s ≡ Some w → IsProper w
  unfolding assign
  assign_proper None u s w a h = let (e, f) = if_some (goes k.classes s u) u w h in subst IsProper f a
  assign_proper (Some op) u s w a h = assign_operated op (operate k.classes op u s) u w a h

  counted_proper : (s w : StaticType) → counted s ≡ Some w → IsProper w
  unfolding counted
  counted_proper s w h = fixed_some IsProper (same s number) number w refl h

  element_proper : (a i w : StaticType) → IsProper a → element a i ≡ Some w → IsProper w
  unfolding element
  element_proper a i w p h = fixed_some IsProper (is_array a && same i number) (item a) w p h

  items_proper : (u w : StaticType) (us : List StaticType) → IsProper u → items_type k.classes u us ≡ Some w → IsProper w
  unfolding items_type
  items_proper u w us p h =
      let (e, f) = if_gives (all_go_to k.classes u us) (array_of u) w h in
      subst IsProper (if_some (nat_lt u.depth most_brackets) (array u) w f).1 p

  call_proper : (takes : List StaticType) (gives : Option StaticType) (us : List StaticType) (w : StaticType) → ((v : StaticType) → gives ≡ Some v → IsProper v) → call_kind k.classes takes gives us ≡ Some w → IsProper w
  unfolding call_kind
  call_proper takes gives us w p h = either_some IsProper (all_go k.classes us takes) gives None w p (λ r e. cc) h

  found_proper : (p : NameScope) (f : Found) (u : StaticType) → AreProper p → name_kind k p f ≡ Some u → IsProper u
  found_proper p (found.Local i) u a h = a i u h
  found_proper p (found.Global d) u a h = kinds_proper d u h
  found_proper p found.Captured u a h = cc
  found_proper p (found.Function d) u a h = cc
  found_proper p (found.Class c) u a h = cc
  found_proper p found.Unknown u a h = cc

  this_proper : (self : Self) (u : StaticType) → this_kind self ≡ Some u → IsProper u
  this_proper (this.Object c) u h = subst IsProper (some_is (object c) u h) refl
  this_proper (this.Hidden c) u h = cc
  this_proper this.Nowhere u h = cc

  part_proper : (f : Part) (u : StaticType) → part_kind k f ≡ Some u → IsProper u
  part_proper (part.Field d) u h = kinds_proper d u h
  part_proper (part.Method d) u h = cc
  part_proper part.Length u h = subst IsProper (some_is number u h) refl
  part_proper (part.Push v) u h = cc
  part_proper (part.Pop v) u h = cc
  part_proper part.Missing u h = cc

  -- what a callee takes and gives
  pub record AllProper (c : Callee) : Type 0 where
    pub gives : (u : StaticType) → c.gives ≡ Some u → IsProper u

  named_proper : (f : Found) (c : Callee) → named_callee k f ≡ Some c → AllProper c
  named_proper (found.Function d) c h = let q : callee (takes_at k.entries d) (kind_at k d) ≡ c = some_is _ _ h in subst AllProper q (record { gives = λ u e. kinds_proper d u e })
  named_proper (found.Local i) c h = cc
  named_proper (found.Global d) c h = cc
  named_proper found.Captured c h = cc
  named_proper (found.Class i) c h = cc
  named_proper found.Unknown c h = cc

  member_callee_proper : (u : StaticType) (m : ℕ) (f : Part) (c : Callee) → IsProper u → HasPart k u m f → part_callee k f ≡ Some c → AllProper c
  member_callee_proper u m (part.Method d) c p has h = let q : callee (takes_at k.entries d) (kind_at k d) ≡ c = some_is _ _ h in subst AllProper q (record { gives = λ v e. kinds_proper d v e })
  member_callee_proper u m (part.Push v) c p has h = let q : callee (v ∷ []) (Some nothing) ≡ c = some_is _ _ h in subst AllProper q (record { gives = λ w e. subst IsProper (some_is nothing w e) refl })
  member_callee_proper u m (part.Pop v) c p has h =
      let q : callee [] (Some v) ≡ c = some_is _ _ h in
      let r : IsProper v = subst IsProper (sym has.1) p in
      subst AllProper q (record { gives = λ w e. subst IsProper (some_is v w e) r })
  member_callee_proper u m (part.Field d) c p has h = cc
  member_callee_proper u m part.Length c p has h = cc
  member_callee_proper u m part.Missing c p has h = cc

  constant_proper : (z : Option ℤ) (o : Option StaticType) (u : StaticType) → ((v : StaticType) → o ≡ Some v → IsProper v) → elim z [ Some y ↦ Some number | None ↦ o ] ≡ Some u → IsProper u
  constant_proper (Some y) o u f h = subst IsProper (some_is number u h) refl
  constant_proper None o u f h = f u h

  board_call_proper : (b : Option BoardCall) (given : BoardCall → Bool) (o : Option StaticType) (u : StaticType) → ((v : StaticType) → o ≡ Some v → IsProper v)
      → elim b [ Some call ↦ if given call then Some (board_kind (row_of call).gives) else None | None ↦ o ] ≡ Some u → IsProper u
  board_call_proper (Some call) given o u f h = fixed_some IsProper (given call) (board_kind (row_of call).gives) u (board_proper (row_of call).gives) h
  board_call_proper None given o u f h = f u h

  called_proper : (d : Option Callee) (us : Option (List StaticType)) (u : StaticType) → ((c : Callee) → d ≡ Some c → AllProper c) → called k d us ≡ Some u → IsProper u
  called_proper d us u f h =
      let (c, q, h1) = bind_some d (λ c. us >>= λ vs. call_kind k.classes c.takes c.gives vs) u h in
      let (vs, r, h2) = bind_some us (λ vs. call_kind k.classes c.takes c.gives vs) u h1 in
      call_proper c.takes c.gives vs u (f c q).gives h2

  super_proper : (d : Option ℕ) (c : Callee) → (d >>= λ i. Some (callee (takes_at k.entries i) (kind_at k i))) ≡ Some c → AllProper c
  super_proper None c h = cc
  super_proper (Some i) c h = let q : callee (takes_at k.entries i) (kind_at k i) ≡ c = some_is _ _ h in subst AllProper q (record { gives = λ u e. kinds_proper i u e })

  made_proper : (f : Found) (c : Callee) → made k f ≡ Some c → AllProper c
  made_proper (found.Class i) c h = let q : callee (maker_takes_of k.classes i) (Some (object i)) ≡ c = some_is _ _ h in subst AllProper q (record { gives = λ u e. subst IsProper (some_is (object i) u e) refl })
  made_proper (found.Local i) c h = cc
  made_proper (found.Global d) c h = cc
  made_proper found.Captured c h = cc
  made_proper (found.Function d) c h = cc
  made_proper found.Unknown c h = cc

  module _ (p : NameScope) (a : AreProper p) where
    mutual
      -- an expression whose place gives it no type has one that values have
      pub proper : (e : Tree) (u : StaticType) → type_of tables k p Free e ≡ Some u → IsProper u
      proper (Num at n) u h = subst IsProper (some_is _ u h) refl
      proper (Text at n) u h = subst IsProper (some_is _ u h) refl
      proper (Truth at x) u h = subst IsProper (some_is _ u h) refl
      proper (Null at) u h = subst IsProper (some_is _ u h) refl
      proper (This at) u h = this_proper p.this u h
      proper (Name at x) u h = found_proper p (finds tables k p x) u a h
      proper (Unary at op e) u h = let (s, q, h1) = bind_some (type_of tables k p Free e) (λ s. prefix op s) u h in prefix_proper op s u h1
      proper (Binary at op e f) u h =
          let (s, q, h1) = bind_some (type_of tables k p Free e) (λ s. type_of tables k p Free f >>= λ v. operate k.classes op s v) u h in
          let (v, r, h2) = bind_some (type_of tables k p Free f) (λ v. operate k.classes op s v) u h1 in works_proper op s v u h2
      proper (Both at e f) u h =
          let (s, q, h1) = bind_some (type_of tables k p Free e) (λ s. type_of tables k p Free f >>= λ v. joined s v) u h in
          let (v, r, h2) = bind_some (type_of tables k p Free f) (λ v. joined s v) u h1 in joined_proper s v u h2
      proper (Either at e f) u h =
          let (s, q, h1) = bind_some (type_of tables k p Free e) (λ s. type_of tables k p Free f >>= λ v. joined s v) u h in
          let (v, r, h2) = bind_some (type_of tables k p Free f) (λ v. joined s v) u h1 in joined_proper s v u h2
      proper (Choice at c e f) u h =
          let (z, g, h0) = bind_some (type_of tables k p Free c) (λ z. type_of tables k p Free e >>= λ s. type_of tables k p Free f >>= λ v. choose k.classes z s v) u h in
          let (s, q, h1) = bind_some (type_of tables k p Free e) (λ s. type_of tables k p Free f >>= λ v. choose k.classes z s v) u h0 in
          let (v, r, h2) = bind_some (type_of tables k p Free f) (λ v. choose k.classes z s v) u h1 in
          choose_proper z s v u (proper e s q) (proper f v r) h2
      proper (Set at op x e) u h =
          let (v, q, h1) = bind_some (type_of tables k p Free x) (λ v. type_of tables k p Given e >>= λ s. if settable tables k p x then assign k.classes op v s else None) u h in
          let (s, r, h2) = bind_some (type_of tables k p Given e) (λ s. if settable tables k p x then assign k.classes op v s else None) u h1 in
          either_some IsProper (settable tables k p x) (assign k.classes op v s) None u (λ w e. assign_proper op v s w (proper x v q) e) (λ w e. cc) h2
      proper (Bump at x by late) u h =
          let (v, q, h1) = bind_some (type_of tables k p Free x) (λ v. if settable tables k p x then counted v else None) u h in
          either_some IsProper (settable tables k p x) (counted v) None u (λ w e. counted_proper v w e) (λ w e. cc) h1
      proper (Member at e m) u h =
          constant_proper (constant_of tables k p e m) (type_of tables k p Free e >>= λ v. part_kind k (part_of tables.names k v m)) u
          (λ w g. let (v, q, h1) = bind_some (type_of tables k p Free e) (λ v. part_kind k (part_of tables.names k v m)) w g in part_proper (part_of tables.names k v m) w h1) h
      proper (Item at e i) u h =
          let (s, q, h1) = bind_some (type_of tables k p Free e) (λ s. type_of tables k p Free i >>= λ v. element s v) u h in
          let (v, r, h2) = bind_some (type_of tables k p Free i) (λ v. element s v) u h1 in element_proper s v u (proper e s q) h2
      proper (Items at none) u h = cc
      proper (Items at (more e rest)) u h =
          let (s, q, h1) = bind_some (type_of tables k p Free e) (λ s. types_of tables k p rest >>= λ us. items_type k.classes s us) u h in
          let (us, r, h2) = bind_some (types_of tables k p rest) (λ us. items_type k.classes s us) u h1 in items_proper s u us (proper e s q) h2
      proper (Call at f args) u h =
          board_call_proper (board_callee tables k p f) (λ call. are_given tables k p (row_of call).takes args) (called k (callee_of tables k p f) (types_of tables k p args)) u
          (λ w g. called_proper (callee_of tables k p f) (types_of tables k p args) w (λ c q. callee_proper f c q) g) h
      proper (SuperCall at None args) u h = cc
      proper (SuperCall at (Some m) args) u h =
          called_proper (super_method k p.this m >>= λ d. Some (callee (takes_at k.entries d) (kind_at k d))) (types_of tables k p args) u (λ c q. super_proper (super_method k p.this m) c q) h
      proper (Make at x args) u h = called_proper (made k (finds tables k p x)) (types_of tables k p args) u (λ c q. made_proper (finds tables k p x) c q) h
      proper (Handler at body) u h = cc

      pub callee_proper : (f : Tree) (c : Callee) → callee_of tables k p f ≡ Some c → AllProper c
      callee_proper (Name at x) c h = named_proper (finds tables k p x) c h
      callee_proper (Member at e m) c h =
          let (u, q, h1) = bind_some (type_of tables k p Free e) (λ u. part_callee k (part_of tables.names k u m)) c h in
          member_callee_proper u m (part_of tables.names k u m) c (proper e u q) (has_part k tables.names u m) h1
      callee_proper (Num at n) c h = cc
      callee_proper (Text at n) c h = cc
      callee_proper (Truth at x) c h = cc
      callee_proper (Null at) c h = cc
      callee_proper (This at) c h = cc
      callee_proper (Unary at op e) c h = cc
      callee_proper (Binary at op e f) c h = cc
      callee_proper (Both at e f) c h = cc
      callee_proper (Either at e f) c h = cc
      callee_proper (Choice at q e f) c h = cc
      callee_proper (Set at op x e) c h = cc
      callee_proper (Bump at x by late) c h = cc
      callee_proper (Item at e i) c h = cc
      callee_proper (Items at items) c h = cc
      callee_proper (Call at f args) c h = cc
      callee_proper (SuperCall at m args) c h = cc
      callee_proper (Make at x args) c h = cc
      callee_proper (Handler at body) c h = cc
