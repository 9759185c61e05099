-- What a name stands for where it is used.
use Rattle.std.specs.Prelude.{ℕ, suc, Bool, true, false, not, ◌&&◌, ◌==◌, nat_le, is_some, Option, Some, None, List, [], ◌∷◌, ◌++◌, length, if◌then◌else◌}
use Rattle.sts_scope.specs.declared.kinds.StaticType.{StaticType}
use Rattle.sts_scope.specs.declared.entries.Owner.TheVariants as o
use Rattle.sts_scope.specs.declared.entries.DeclarationKind.{DeclarationKind}
use Rattle.sts_scope.specs.declared.entries.DeclarationKind.TheVariants as sort
use Rattle.sts_scope.specs.declared.known.Known.{Known}
use Rattle.sts_scope.specs.declared.known.Local.{Local}
use Rattle.sts_scope.specs.declared.known.This.{This}
use Rattle.sts_scope.specs.declared.known.This.TheVariants as this
use Rattle.sts_scope.specs.declared.known.Found.{Found}
use Rattle.sts_scope.specs.declared.known.Found.TheVariants as found
use Rattle.sts_scope.specs.Globals.{is_dollar}
use Rattle.sts_scope.specs.Lookup.{entry_number, sort_of}

-- Where something stands: the parameters and locals of the functions around, of which nothing but their names is known;
-- those of this function that are in scope, outermost first, of which those from `block` on are of this block; what
-- `this` is; what a `return` gives; and whether it is the library.
pub record NameScope : Type 0 where
  pub around : List Local
  pub locals : List Local
  pub block : ℕ
  pub this : This
  pub gives : Option StaticType
  pub library : Bool

-- the last one of this name, where the first has the number n
abbrev pub last_from : ℕ → List Local → ℕ → Option ℕ
last_from n [] x = None
last_from n (l ∷ ls) x = elim (last_from (suc n) ls x) [ Some m ↦ Some m | None ↦ if l.name == x then Some n else None ]

abbrev pub last_named : List Local → ℕ → Option ℕ
last_named locals x = last_from 0 locals x

abbrev pub entry_found : ℕ → DeclarationKind → Found
entry_found d (sort.Global fixed) = found.Global d
entry_found d sort.Function = found.Function d
entry_found d (sort.Class c) = found.Class c
entry_found d _ = found.Unknown

abbrev pub sort_found : ℕ → Option DeclarationKind → Found
sort_found d None = found.Unknown
sort_found d (Some s) = entry_found d s

-- The declaration of the whole text of this name. In the library none of the text is known.
abbrev pub whole_found : Known → Bool → Option ℕ → Found
whole_found k library None = found.Unknown
whole_found k library (Some d) =
    if library && nat_le k.library d then found.Unknown else sort_found d (sort_of k.entries d)

abbrev pub global_named : Known → Bool → ℕ → Found
global_named k library x = whole_found k library (entry_number k.entries o.Whole x)

-- a local of a function around, else the declaration of the whole text
abbrev pub found_around : Known → NameScope → ℕ → Bool → Found
found_around k p x true = found.Captured
found_around k p x false = global_named k p.library x

-- the innermost local of this function, else what is around it
abbrev pub found_among : Known → NameScope → ℕ → Option ℕ → Found
found_among k p x (Some i) = found.Local i
found_among k p x None = found_around k p x (is_some (last_named p.around x))

-- a name that begins with `$` stands for something in the library alone
abbrev pub is_hidden : List (List ℕ) → NameScope → ℕ → Bool
is_hidden spellings p x = not p.library && is_dollar spellings x

abbrev pub name_found : List (List ℕ) → Known → NameScope → ℕ → Found
name_found spellings k p x =
    if is_hidden spellings p x then found.Unknown else found_among k p x (last_named p.locals x)

-- a number of a local from the first of the block on
abbrev pub is_from : ℕ → Option ℕ → Bool
is_from block None = false
is_from block (Some i) = nat_le block i

-- a local of this name stands in the block already
abbrev pub is_twice : NameScope → ℕ → Bool
is_twice p x = is_from p.block (last_named p.locals x)

abbrev pub local : ℕ → Option StaticType → Bool → Local
local x kind fixed = record { name = x; kind = kind; fixed = fixed }

-- behind a declaration
abbrev pub with : NameScope → ℕ → Option StaticType → Bool → NameScope
with p x kind fixed = record p { locals = p.locals ++ local x kind fixed ∷ [] }

-- in a block that begins here
abbrev pub inner : NameScope → NameScope
inner p = record p { block = length p.locals }

-- `this` in a handler
abbrev pub hidden : This → This
hidden (this.Object c) = this.Hidden c
hidden this = this

-- in a handler that begins here, whose result is this
abbrev pub in_handler : NameScope → Option StaticType → NameScope
in_handler p gives =
    record p { around = p.around ++ p.locals; locals = []; block = 0; this = hidden p.this; gives = gives }

-- outside all functions, where a class's objects may be meant by `this`
abbrev pub outside : This → Bool → Option StaticType → NameScope
outside this library gives =
    record { around = []; locals = []; block = 0; this = this; gives = gives; library = library }
