-- Facts of single nodes: what the rules look for is there, and what the place of an expression does with it.
use Rattle.std.proofs.Common.{◌≡◌, ℕ, zero, suc, ◌+◌, refl, ap, Bool, true, false, ◌&&◌, Option, Some, None, List, [], ◌∷◌, ◌++◌, length, arith}
use Rattle.std.specs.Prelude.{ℤ, slice_get, codes, if◌then◌else◌}
use Rattle.std.specs.Option.{option_map}
use Rattle.std.proofs.lemmas.List.{length-append}
use Rattle.sts_base.specs.declared.tables.Tables.{Tables}
use Rattle.sts_base.specs.declared.refused.Code.TheVariants.{UnknownName}
use Rattle.sts_syntax.specs.declared.typed.Spot.{Spot}
use Rattle.sts_syntax.specs.declared.typed.Spot.TheVariants.{Global}
use Rattle.sts_syntax.specs.declared.typed.Callee.{Callee as Target}
use Rattle.sts_syntax.specs.declared.typed.Callee.TheVariants as c
use Rattle.sts_syntax.specs.Annotations.{Annotation}
use Rattle.sts_syntax.specs.Types.{ValueType}
use Rattle.sts_syntax.specs.TypedTrees as e
use Rattle.sts_syntax.specs.TypedTrees.{TypedTree}
use Rattle.sts_syntax.specs.declared.board_calls.BoardCall.{BoardCall}
use Rattle.sts_syntax.specs.Trees.{Parameter, Tree, Name, Member, Statement, Let, Declarations, ended, next, Declare}
use Rattle.sts_scope.specs.declared.kinds.StaticType.{StaticType}
use Rattle.sts_scope.specs.declared.entries.ClassHead.{ClassHead}
use Rattle.sts_scope.specs.declared.known.Known.{Known}
use Rattle.sts_scope.specs.declared.known.Local.{Local as Scoped}
use Rattle.sts_scope.specs.declared.known.Found.{Found}
use Rattle.sts_scope.specs.declared.known.Found.TheVariants as found
use Rattle.sts_scope.specs.declared.known.Part.{Part}
use Rattle.sts_scope.specs.declared.known.Part.TheVariants as part
use Rattle.sts_scope.specs.Kinds.{is_array, item, class_of}
use Rattle.sts_scope.specs.Entries.{Naming, kind_of}
use Rattle.sts_scope.specs.Failures.{Failure, ◌then◌, own}
use Rattle.sts_scope.specs.Headings.{written_failure, type_name_failure}
use Rattle.sts_scope.specs.Numbers.{global_number, place_among, field_names, slot_names}
use Rattle.sts_scope.specs.Places.{NameScope}
use Rattle.sts_scope.specs.Rules.{local_kind, name_kind, takes_at, is_spelled, array_part, class_part, part_of, part_kind, serves, all_go}
use Rattle.type_derive.specs.declared.roles.Role.TheVariants.{Free}
use Rattle.type_derive.specs.Typing.{◌>>=◌, Callee, finds, space, space_of, constant_of, board_callee, part_callee, type_of}
use Rattle.type_derive.specs.Returns.{bound, declared, all_declared, parameter_locals}
use Rattle.type_derive.specs.Built.{Site, spots_from, spot_of, member_read, part_target, part_takes, behind_statement}
use Rattle.type_derive.specs.Functions.{parameter_spots}

-- each local in scope has its spot
abbrev pub Even : Site → Type 0
Even s = length s.spots ≡ length s.place.locals

local_there : (ls : List Scoped) (ss : List Spot) (i : ℕ) (u : StaticType) → length ss ≡ length ls → local_kind ls i ≡ Some u → (x : Spot) × (slice_get ss i ≡ Some x)
local_there [] ss i u h is = cc
local_there (l ∷ ls) [] i u h is = absurd (omega (arith, h))
local_there (l ∷ ls) (s ∷ ss) zero u h is = (s, refl)
local_there (l ∷ ls) (s ∷ ss) (suc i) u h is = local_there ls ss i u (omega (arith, h)) is

pub spot_there : (k : Known) (s : Site) (f : Found) (u : StaticType) → Even s → name_kind k s.place f ≡ Some u → (x : Spot) × (spot_of k s.spots f ≡ Some x)
spot_there k s (found.Local i) u even is = local_there s.place.locals s.spots i u even is
spot_there k s (found.Global d) u even is = (Global (global_number k d), refl)
spot_there k s found.Captured u even is = cc
spot_there k s (found.Function d) u even is = cc
spot_there k s (found.Class d) u even is = cc
spot_there k s found.Unknown u even is = cc

-- what a part of the board's interface stands behind has no type
found_unknown : (tables : Tables) (k : Known) (p : NameScope) (x : ℕ) (f : Found) (y : List ℕ) → space_of tables x f ≡ Some y → name_kind k p f ≡ None
found_unknown tables k p x found.Unknown y h = refl
found_unknown tables k p x found.Captured y h = cc
found_unknown tables k p x (found.Local i) y h = cc
found_unknown tables k p x (found.Global d) y h = cc
found_unknown tables k p x (found.Function d) y h = cc
found_unknown tables k p x (found.Class d) y h = cc

space_untyped : (tables : Tables) (k : Known) (p : NameScope) (a : Tree) (y : List ℕ) → space tables k p a ≡ Some y → type_of tables k p Free a ≡ None
space_untyped tables k p (Name at x) y h = found_unknown tables k p x (finds tables k p x) y h
space_untyped tables k p a y h = cc

bound_there : {A B : Type 0} (o : Option A) (f : A → Option B) (b : B) → (o >>= f) ≡ Some b → (a : A) × (o ≡ Some a)
bound_there {A} {B} (Some a) f b h = (a, refl)
bound_there {A} {B} None f b h = cc

pub constant_untyped : (tables : Tables) (k : Known) (p : NameScope) (a : Tree) (m : ℕ) (z : ℤ) → constant_of tables k p a m ≡ Some z → type_of tables k p Free a ≡ None
constant_untyped tables k p a m z h = let (y, is) = bound_there (space tables k p a) _ z h in space_untyped tables k p a y is

pub board_untyped : (tables : Tables) (k : Known) (p : NameScope) (at : ℕ) (a : Tree) (m : ℕ) (call : BoardCall) → board_callee tables k p (Member at a m) ≡ Some call
    → type_of tables k p Free a ≡ None
board_untyped tables k p at a m call h = let (y, is) = bound_there (space tables k p a) _ call h in space_untyped tables k p a y is

abbrev takes_of : List StaticType → Option Callee → List StaticType
takes_of none None = none
takes_of none (Some d) = d.takes

-- what stands behind a dot: a field and a method are an object's
module _ (k : Known) where
  abbrev pub HasPart : StaticType → Part → Type 0
  HasPart u (part.Field d) = (c : ℕ) × (class_of u ≡ Some c)
  HasPart u (part.Method d) = (c : ℕ) × (class_of u ≡ Some c)
  HasPart u _ = Unit {0}

  if_part : (u : StaticType) (x : Bool) (f g : Part) → HasPart u f → HasPart u g → HasPart u (if x then f else g)
  if_part u true f g a b = a
  if_part u false f g a b = b

  of_class : (u : StaticType) (c : ℕ) (f : Part) → class_of u ≡ Some c → HasPart u f
  of_class u c (part.Field d) h = (c, h)
  of_class u c (part.Method d) h = (c, h)
  of_class u c part.Length h = tt
  of_class u c (part.Push v) h = tt
  of_class u c (part.Pop v) h = tt
  of_class u c part.Missing h = tt

  class_parts : (u : StaticType) (m : ℕ) (c : Option ℕ) → class_of u ≡ c → HasPart u (class_part k c m)
  class_parts u m None q = tt
  class_parts u m (Some c) q = of_class u c (class_part k (Some c) m) q

  array_parts : (spellings : List (List ℕ)) (u : StaticType) (m : ℕ) → HasPart u (array_part spellings (item u) m)
  array_parts spellings u m =
      if_part u (is_spelled spellings m (codes "length")) part.Length _ tt
      (if_part u (is_spelled spellings m (codes "push")) (part.Push (item u)) _ tt
      (if_part u (is_spelled spellings m (codes "pop")) (part.Pop (item u)) part.Missing tt tt))

  pub has_part : (spellings : List (List ℕ)) (u : StaticType) (m : ℕ) → HasPart u (part_of spellings k u m)
  unfolding part_of
  has_part spellings u m = if_part u (is_array u) _ _ (array_parts spellings u m) (class_parts u m (class_of u) refl)

  pub read_there : (u : ValueType) (v : StaticType) (m : ℕ) (f : Part) (x : TypedTree) (kind : StaticType) → HasPart v f → part_kind k f ≡ Some kind
      → (y : TypedTree) × (member_read k u v m f x ≡ Some y)
  read_there u v m (part.Field d) x kind (c, is) h =
      (e.Field u x (place_among (field_names k c) m), ap (option_map (λ (class : ℕ). e.Field u x (place_among (field_names k class) m))) is)
  read_there u v m part.Length x kind has h = (e.Length u x, refl)
  read_there u v m (part.Method d) x kind has h = cc
  read_there u v m (part.Push t) x kind has h = cc
  read_there u v m (part.Pop t) x kind has h = cc
  read_there u v m part.Missing x kind has h = cc

  pub target_there : (v : StaticType) (m : ℕ) (f : Part) (d : Callee) → HasPart v f → part_callee k f ≡ Some d
      → (y : Target) × (part_target k v m f ≡ Some y) × (part_takes k f ≡ d.takes)
  target_there v m (part.Method d) x (a, is) h =
      (c.Slot (place_among (slot_names k a) m), ap (option_map (λ (class : ℕ). c.Slot (place_among (slot_names k class) m))) is, ap (takes_of (takes_at k.entries d)) h)
  target_there v m (part.Push t) x has h = (c.Push, refl, ap (takes_of (t ∷ [])) h)
  target_there v m (part.Pop t) x has h = (c.Pop, refl, ap (takes_of []) h)
  target_there v m (part.Field d) x has h = cc
  target_there v m part.Length x has h = cc
  target_there v m part.Missing x has h = cc

second_true : (x y : Bool) → (x && y) ≡ true → y ≡ true
second_true true y h = h
second_true false y h = cc

second_none : (F G : Option Failure) → (F then G) ≡ None → G ≡ None
second_none None G h = h
second_none (Some f) G h = cc

own_there : {A : Type 0} (o : Option A) (at : ℕ) → own o UnknownName at ≡ None → (a : A) × (o ≡ Some a)
own_there {A} (Some a) at h = (a, refl)
own_there {A} None at h = cc

-- arguments that go each to a type
pub go_more : (classes : List ClassHead) (s t : StaticType) (ss ts : List StaticType) → all_go classes (s ∷ ss) (t ∷ ts) ≡ true → all_go classes ss ts ≡ true
unfolding all_go
go_more classes s t ss ts h = second_true _ (all_go classes ss ts) h

pub go_no_more : (classes : List ClassHead) (s : StaticType) (ss : List StaticType) → all_go classes (s ∷ ss) [] ≡ true → ⊥
unfolding all_go
go_no_more classes s ss h = cc

pub go_too_few : (classes : List ClassHead) (t : StaticType) (ts : List StaticType) → all_go classes [] (t ∷ ts) ≡ true → ⊥
unfolding all_go
go_too_few classes t ts h = cc

-- a name that serves is a function's
abbrev pub IsFunction : Found → Type 0
IsFunction (found.Function d) = Unit {0}
IsFunction _ = ⊥

pub serving_is : (k : Known) (f : Found) → serves k f ≡ true → IsFunction f
unfolding serves
serving_is k (found.Function d) h = tt
serving_is k (found.Local i) h = cc
serving_is k (found.Global i) h = cc
serving_is k found.Captured h = cc
serving_is k (found.Class i) h = cc
serving_is k found.Unknown h = cc

-- a written type without a failure is known
pub written_there : (names : Naming) (at : ℕ) (a : Annotation) → written_failure names at (Some a) ≡ None → (u : StaticType) × (kind_of names a ≡ Some u)
written_there names at a h = own_there (kind_of names a) at (second_none (type_name_failure names a) (own (kind_of names a) UnknownName at) h)

-- spots
pub one_spot_more : {A B : Type 0} (xs : List A) (ys : List B) (x : A) (y : B) → length xs ≡ length ys → length (xs ++ x ∷ []) ≡ length (ys ++ y ∷ [])
one_spot_more {A} {B} xs ys x y h = let a = length-append xs (x ∷ []) in let b = length-append ys (y ∷ []) in omega (arith, a, b, h)

pub parameters_even : (names : Naming) (i : ℕ) (params : List Parameter) → length (parameter_spots i params) ≡ length (parameter_locals names params)
parameters_even names i [] = refl
parameters_even names i (q ∷ rest) = ap suc (parameters_even names (suc i) rest)

none_more : (s : Site) → Even s → length (s.spots ++ []) ≡ length s.place.locals
none_more s h = let a = length-append s.spots [] in omega (arith, a, h)

module _ (tables : Tables) (names : Naming) (k : Known) where
  declared_even : (m : ℕ) (p : NameScope) (fixed : Bool) (each : Declarations) → length (spots_from m each) + length p.locals ≡ length (all_declared tables names k p fixed each).locals
  declared_even m p fixed ended = omega arith
  declared_even m p fixed (next (Declare at x shape first) rest) =
      let q : NameScope = declared tables names k p fixed (Declare at x shape first) in
      let a = declared_even (suc m) q fixed rest in
      let b = length-append p.locals (record { name = x; kind = bound tables names k p shape first; fixed = fixed } ∷ []) in
      omega (arith, a, b)

  pub statement_even : (m : ℕ) (s : Site) (a : Statement) → Even s → Even (behind_statement tables names k m s a)
  statement_even m s (Let at fixed each) h =
      let a = length-append s.spots (spots_from m each) in
      let b = declared_even m s.place fixed each in
      omega (arith, a, b, h)
  statement_even m s a h = none_more s h
