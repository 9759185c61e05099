-- Laws of derived types: there is one table of them for each text, and where more types are known, no less is derived.
use Rattle.std.specs.Prelude.{◌≡◌, ℕ, Option, List, [], ◌∷◌, length}
use Rattle.sts_base.specs.declared.tables.Tables.{Tables}
use Rattle.sts_syntax.specs.Programs.{Program}
use Rattle.sts_syntax.specs.Trees.{Tree}
use Rattle.sts_scope.specs.declared.kinds.StaticType.{StaticType}
use Rattle.sts_scope.specs.declared.known.Known.{Known}
use Rattle.sts_scope.specs.declared.known.Local.{Local}
use Rattle.sts_scope.specs.Entries.{Naming}
use Rattle.sts_scope.specs.Places.{NameScope}
use Rattle.sts_scope.specs.Rules.{kind_at}
use Rattle.type_derive.specs.declared.roles.Role.{Role}
use Rattle.type_derive.specs.Typing.{type_of}
use Rattle.type_derive.specs.Derived.{TypeTable, Source, IsLeast, Less, Within, AreDerived, rule, at}

-- each library and text have derived types
abbrev pub DerivedTypesExist : Type 0
DerivedTypesExist =
    (tables : Tables) (library text : Program) → (kinds : TypeTable)
    × AreDerived tables library text kinds

-- two least tables of the same length and the same rules have the same types
abbrev pub IsOne : Type 0
IsOne =
    (rule : TypeTable → ℕ → Option StaticType) (xs ys : TypeTable) → length xs ≡ length ys
    → IsLeast rule xs → IsLeast rule ys → (d : ℕ) → at xs d ≡ at ys d

-- the same locals, with at least as many types
abbrev pub LocalsGrow : List Local → List Local → Type 0
LocalsGrow [] [] = Unit {0}
LocalsGrow (l ∷ ls) (m ∷ ms) = (m.name ≡ l.name) × (m.fixed ≡ l.fixed) × Less l.kind m.kind × LocalsGrow ls ms
LocalsGrow _ _ = ⊥

-- the same declarations, with at least as many types
pub record KnownGrows (k l : Known) : Type 0 where
  pub entries : l.entries ≡ k.entries
  pub classes : l.classes ≡ k.classes
  pub library : l.library ≡ k.library
  pub kinds : (d : ℕ) → Less (kind_at k d) (kind_at l d)

pub record PlaceGrows (p q : NameScope) : Type 0 where
  pub around : LocalsGrow p.around q.around
  pub locals : LocalsGrow p.locals q.locals
  pub block : q.block ≡ p.block
  pub this : q.this ≡ p.this
  pub library : q.library ≡ p.library

-- where more types are known, an expression has the type that it had, if it had one
abbrev pub GrowsWithTypes : Type 0
GrowsWithTypes =
    (tables : Tables) (k l : Known) (p q : NameScope) → KnownGrows k l → PlaceGrows p q → (r : Role) (e : Tree)
    → Less (type_of tables k p r e) (type_of tables l q r e)

-- the rules of declarations give no less from a table that has more
abbrev pub RulesGrow : Type 0
RulesGrow =
    (tables : Tables) (names : Naming) (k : Known) (sources : List Source) (xs ys : TypeTable)
    → Within xs ys → (d : ℕ) →
    Less (rule tables names k sources xs d) (rule tables names k sources ys d)
