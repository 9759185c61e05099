-- The type of a node from the types of its parts.
use Rattle.std.specs.Prelude.{ℕ, zero, suc, Bool, true, false, not, ◌&&◌, ◌||◌, ◌==◌, Option, Some, None, List, [], ◌∷◌, length, slice_get, if◌then◌else◌, codes}
use Rattle.std.specs.Option.{option_and_then, option_flatten}
use Rattle.sts_syntax.specs.BoardTable.{same_bytes}
use Rattle.sts_scope.specs.declared.kinds.StaticType.{StaticType}
use Rattle.sts_scope.specs.declared.entries.DeclarationKind.{DeclarationKind}
use Rattle.sts_scope.specs.declared.entries.DeclarationKind.TheVariants as sort
use Rattle.sts_scope.specs.declared.entries.Entry.{Entry}
use Rattle.sts_scope.specs.declared.entries.ClassHead.{ClassHead}
use Rattle.sts_scope.specs.declared.known.Known.{Known}
use Rattle.sts_scope.specs.declared.known.Local.{Local}
use Rattle.sts_scope.specs.declared.known.This.{This}
use Rattle.sts_scope.specs.declared.known.This.TheVariants as this
use Rattle.sts_scope.specs.declared.known.Found.{Found}
use Rattle.sts_scope.specs.declared.known.Found.TheVariants as found
use Rattle.sts_scope.specs.declared.known.Part.{Part}
use Rattle.sts_scope.specs.declared.known.Part.TheVariants as part
use Rattle.sts_scope.specs.Kinds.{number, boolean, nothing, null, empty, object, array_of, item, same, is_array, class_of, takes_null}
use Rattle.sts_scope.specs.Lookup.{base_of, member_number, sort_of}
use Rattle.sts_scope.specs.Places.{NameScope}
use Rattle.sts_syntax.specs.declared.operators.TheConstants.{NEGATE, PLUS, NOT, COMPLEMENT, BIT_OR, BIT_XOR, BIT_AND, EQUAL, UNEQUAL, LESS, GREATER, AT_MOST, AT_LEAST, SHIFT_LEFT, SHIFT_RIGHT, SHIFT_RIGHT_UNSIGNED, ADD, SUBTRACT, MULTIPLY, DIVIDE, REMAINDER}

-- the class m is n, or one of its next so many bases is
unfoldable pub reaches : List ClassHead → ℕ → ℕ → ℕ → Bool
reaches classes zero m n = m == n
reaches classes (suc k) m n = m == n || elim (base_of classes m) [ None ↦ false | Some up ↦ reaches classes k up n ]

-- two classes, of which the second is the first or a base of it
unfoldable pub below : List ClassHead → StaticType → StaticType → Bool
below classes s t =
    elim (class_of s) [
      | None ↦ false
      | Some m ↦ elim (class_of t) [ None ↦ false | Some n ↦ reaches classes (length classes) m n ]
    ]

-- A value of the first type goes where the second is given: of the same type, of a subclass, null, or `[]`.
unfoldable pub goes : List ClassHead → StaticType → StaticType → Bool
goes classes s t = same s t || below classes s t || (same s null && takes_null t) || (same s empty && is_array t)

-- values go where types are given, each to each
unfoldable pub all_go : List ClassHead → List StaticType → List StaticType → Bool
all_go classes [] [] = true
all_go classes (s ∷ ss) (t ∷ ts) = goes classes s t && all_go classes ss ts
all_go classes _ _ = false

-- all go to one
unfoldable pub all_go_to : List ClassHead → StaticType → List StaticType → Bool
all_go_to classes t [] = true
all_go_to classes t (s ∷ ss) = goes classes s t && all_go_to classes t ss

-- `==` takes two equal types other than nothing, a class and a base of it, or null and a type that takes null
unfoldable pub comparable : List ClassHead → StaticType → StaticType → Bool
comparable classes s t =
    (same s t && not (same s nothing)) || below classes s t || below classes t s || (same s null && takes_null t)
    || (same t null && takes_null s)

-- What operators take: numbers, of which they give one; equality two values that may be compared; order two numbers.
abbrev pub is_arithmetic : ℕ → Bool
is_arithmetic op =
    op == BIT_OR || op == BIT_XOR || op == BIT_AND || op == SHIFT_LEFT || op == SHIFT_RIGHT
    || op == SHIFT_RIGHT_UNSIGNED
    || op == ADD || op == SUBTRACT || op == MULTIPLY || op == DIVIDE || op == REMAINDER

abbrev pub is_equality : ℕ → Bool
is_equality op = op == EQUAL || op == UNEQUAL

abbrev pub is_order : ℕ → Bool
is_order op = op == LESS || op == GREATER || op == AT_MOST || op == AT_LEAST

unfoldable pub operate : List ClassHead → ℕ → StaticType → StaticType → Option StaticType
operate classes op s t =
    if is_equality op then (if comparable classes s t then Some boolean else None)
    else if same s number && same t number
    then (if is_arithmetic op then Some number else if is_order op then Some boolean else None)
    else None

-- prefix operators
unfoldable pub prefix : ℕ → StaticType → Option StaticType
prefix op s =
    if op == NOT then (if same s boolean then Some boolean else None)
    else if (op == NEGATE || op == PLUS || op == COMPLEMENT) && same s number then Some number
    else None

-- `&&` and `||`
unfoldable pub joined : StaticType → StaticType → Option StaticType
joined s t = if same s boolean && same t boolean then Some boolean else None

-- `?:` gives the equal type, the base of two, or the type that takes null
unfoldable pub common : List ClassHead → StaticType → StaticType → Option StaticType
common classes s t =
    if same s t || below classes t s || (same t null && takes_null s) then Some s
    else if below classes s t || (same s null && takes_null t) then Some t
    else None

unfoldable pub choose : List ClassHead → StaticType → StaticType → StaticType → Option StaticType
choose classes q s t = if same q boolean then common classes s t else None

-- a value goes into a target; `+=` and its like work on the target first
unfoldable pub assign : List ClassHead → Option ℕ → StaticType → StaticType → Option StaticType
assign classes None t s = if goes classes s t then Some t else None
assign classes (Some op) t s =
    elim (operate classes op t s) [ None ↦ None | Some u ↦ if same u t then Some t else None ]

-- `++` and `--`
unfoldable pub counted : StaticType → Option StaticType
counted t = if same t number then Some number else None

unfoldable pub element : StaticType → StaticType → Option StaticType
element a i = if is_array a && same i number then Some (item a) else None

-- an array of the first item's type, which the others go to; `[]` alone has no type
unfoldable pub items_type : List ClassHead → StaticType → List StaticType → Option StaticType
items_type classes t ts = if all_go_to classes t ts then array_of t else None

-- the type of a declaration, by its number
abbrev pub kind_at : Known → ℕ → Option StaticType
kind_at k d = option_flatten (slice_get k.kinds d)

abbrev pub local_kind : List Local → ℕ → Option StaticType
local_kind locals i = option_and_then (λ l. l.kind) (slice_get locals i)

abbrev pub name_kind : Known → NameScope → Found → Option StaticType
name_kind k p (found.Local i) = local_kind p.locals i
name_kind k p (found.Global d) = kind_at k d
name_kind k p _ = None

abbrev pub this_kind : This → Option StaticType
this_kind (this.Object c) = Some (object c)
this_kind _ = None

-- a name that is set must not be `const`
abbrev pub local_fixed : List Local → ℕ → Bool
local_fixed locals i = elim (slice_get locals i) [ None ↦ false | Some l ↦ l.fixed ]

abbrev pub sort_fixed : Option DeclarationKind → Bool
sort_fixed (Some (sort.Global fixed)) = fixed
sort_fixed _ = false

abbrev pub name_fixed : Known → NameScope → Found → Bool
name_fixed k p (found.Local i) = local_fixed p.locals i
name_fixed k p (found.Global d) = sort_fixed (sort_of k.entries d)
name_fixed k p _ = false

-- a name of these bytes
abbrev pub is_spelled : List (List ℕ) → ℕ → List ℕ → Bool
is_spelled spellings x bytes = elim (slice_get spellings x) [ None ↦ false | Some these ↦ same_bytes these bytes ]

-- What `a.m` is, by the type of a: arrays have `length`, `push` and `pop`, objects the members of their class.
abbrev pub array_part : List (List ℕ) → StaticType → ℕ → Part
array_part spellings t m =
    if is_spelled spellings m (codes "length") then part.Length
    else if is_spelled spellings m (codes "push") then part.Push t
    else if is_spelled spellings m (codes "pop") then part.Pop t
    else part.Missing

abbrev pub member_part : ℕ → Option DeclarationKind → Part
member_part d (Some sort.Field) = part.Field d
member_part d (Some sort.Method) = part.Method d
member_part d _ = part.Missing

abbrev pub object_part : Known → Option ℕ → Part
object_part k None = part.Missing
object_part k (Some d) = member_part d (sort_of k.entries d)

abbrev pub class_part : Known → Option ℕ → ℕ → Part
class_part k None m = part.Missing
class_part k (Some c) m = object_part k (member_number k.entries k.classes c m)

unfoldable pub part_of : List (List ℕ) → Known → StaticType → ℕ → Part
part_of spellings k t m = if is_array t then array_part spellings (item t) m else class_part k (class_of t) m

-- the type of a member that is read
abbrev pub part_kind : Known → Part → Option StaticType
part_kind k (part.Field d) = kind_at k d
part_kind k part.Length = Some number
part_kind k _ = None

abbrev pub part_settable : Part → Bool
part_settable (part.Field d) = true
part_settable _ = false

-- what a call takes and gives; a class's constructor is the nearest written one
abbrev pub takes_at : List Entry → ℕ → List StaticType
takes_at entries d = elim (slice_get entries d) [ None ↦ [] | Some e ↦ e.takes ]

abbrev pub maker_from : List ClassHead → ℕ → ℕ → List StaticType
maker_from classes zero c = []
maker_from classes (suc n) c =
    elim (slice_get classes c) [
      | None ↦ []
      | Some class ↦
          elim class.takes [
            | Some takes ↦ takes
            | None ↦ elim class.base [ None ↦ [] | Some b ↦ maker_from classes n b ]
          ]
    ]

abbrev pub maker_takes_of : List ClassHead → ℕ → List StaticType
maker_takes_of classes c = maker_from classes (length classes) c

abbrev pub is_nothing : Option StaticType → Bool
is_nothing None = false
is_nothing (Some t) = same t nothing

abbrev pub is_boolean : Option StaticType → Bool
is_boolean None = false
is_boolean (Some t) = same t boolean

abbrev pub none_taken : List StaticType → Bool
none_taken [] = true
none_taken (t ∷ ts) = false

-- the name of a function without parameters and without a value
unfoldable pub serves : Known → Found → Bool
serves k (found.Function d) = none_taken (takes_at k.entries d) && is_nothing (kind_at k d)
serves k _ = false

-- a call with arguments of these types
unfoldable pub call_kind : List ClassHead → List StaticType → Option StaticType → List StaticType → Option StaticType
call_kind classes takes gives ts = if all_go classes ts takes then gives else None
