-- The definitions of typed trees, over what the builder knows.
use Rattle.std.specs.Prelude.{◌≡◌, ℕ, ◌^◌, ◌<◌, Bool, true, Option, List, length, unwrap_or}
use Rattle.sts_syntax.specs.Annotations.{Annotation}
use Rattle.sts_syntax.specs.Trees.{Tree, Trees, OptionalTree, Statement, Statements, Declarations, Routine}
use Rattle.sts_syntax.specs.Types.{ValueType}
use Rattle.sts_syntax.specs.TypedTrees.{none, more, TypedTree, TypedTrees, TypedStatement, TypedStatements, TypedDeclaration}
use Rattle.sts_scope.specs.declared.kinds.StaticType.{StaticType}
use Rattle.sts_scope.specs.Kinds.{nothing, value_type, class_of}
use Rattle.sts_scope.specs.Rules.{part_of}
use Rattle.sts_scope.specs.declared.known.Found.{Found}
use Rattle.sts_scope.specs.declared.known.Part.{Part}
use Rattle.sts_syntax.specs.declared.typed.Spot.{Spot}
use Rattle.sts_scope.specs.Entries.{Naming}
use Rattle.sts_scope.specs.Lookup.{is_field}
use Rattle.sts_scope.specs.Values.{value_at}
use Rattle.type_derive.specs.declared.roles.Role.{Role}
use Rattle.type_derive.specs.inner.Filled as b
use Rattle.type_derive.specs.inner.Filling.{Making}
use Rattle.type_derive.specs.Nodes.{kind_role}
use Rattle.sts_scope.specs.Numbers.{is_method}
use Rattle.type_derive.specs.Scopes.{place}
use Rattle.type_derive.specs.Typing as typing
use Rattle.typed_numbers.specs.Building.{numbering_of, names_upto, globals_from}
use Rattle.typed_numbers.specs.Counts.{counts_fit}
use Rattle.typed_trees.specs.declared.build_places.Plan.{Plan}
use Rattle.typed_trees.specs.declared.build_places.Site.{Site}

-- which class a name stands for
abbrev pub naming : Plan → Naming
naming p = value_at p.classes.now.values.items

-- The names of fields and slots, and the numbers of globals, are those of the declarations, which are within the limits that they alone tell, and which 32 bits count.
pub record IsPlan (p : Plan) : Type 0 where
  pub fields : p.names.now.fields ≡ names_upto is_field p.known.now (length p.known.now.classes)
  pub slots : p.names.now.slots ≡ names_upto is_method p.known.now (length p.known.now.classes)
  pub globals : p.names.now.globals ≡ globals_from 0 p.known.now.entries
  pub counts : counts_fit p.known.now ≡ true
  pub few : length p.known.now.entries < 2 ^ 32

abbrev pub site : Site → b.Site
site s = record { place = place s.scope; spots = s.spots }

abbrev pub role : Option StaticType → Role
role given = kind_role given

unfoldable pub tree_kind : Plan → b.Site → Option StaticType → Tree → Option StaticType
tree_kind p s g e = typing.type_of p.tables.now p.known.now s.place (kind_role g) e

unfoldable pub tree_made : Plan → b.Site → Option StaticType → Tree → Making TypedTree
tree_made p = b.made_tree p.tables.now (naming p) p.known.now (numbering_of p.numbers.now)

-- the type that is noted where this one was found, or none
abbrev pub noted : Option StaticType → ValueType
noted of = value_type (unwrap_or of nothing)

unfoldable pub given_made : Plan → b.Site → List StaticType → Trees → Making TypedTrees
given_made p = b.made_given p.tables.now (naming p) p.known.now (numbering_of p.numbers.now)

unfoldable pub body_made : Plan → b.Site → Routine → Making TypedStatements
body_made p = b.made_body p.tables.now (naming p) p.known.now (numbering_of p.numbers.now)

unfoldable pub first_made : Plan → b.Site → Option Annotation → OptionalTree → Making (Option TypedTree)
first_made p = b.made_first p.tables.now (naming p) p.known.now (numbering_of p.numbers.now)

unfoldable pub optional_made : Plan → b.Site → OptionalTree → Making (Option TypedTree)
optional_made p = b.made_optional p.tables.now (naming p) p.known.now (numbering_of p.numbers.now)

unfoldable pub value_made : Plan → b.Site → Option StaticType → OptionalTree → Making (Option TypedTree)
value_made p = b.made_value p.tables.now (naming p) p.known.now (numbering_of p.numbers.now)

unfoldable pub locals_made : Plan → b.Site → Bool → Declarations → Making (List TypedDeclaration)
locals_made p = b.made_locals p.tables.now (naming p) p.known.now (numbering_of p.numbers.now)

unfoldable pub statement_made : Plan → b.Site → Statement → Making TypedStatement
statement_made p = b.made_statement p.tables.now (naming p) p.known.now (numbering_of p.numbers.now)

unfoldable pub statements_made : Plan → b.Site → Statements → Making TypedStatements
statements_made p = b.made_statements p.tables.now (naming p) p.known.now (numbering_of p.numbers.now)

-- where what follows a statement stands, whose first local has this number
abbrev pub behind : Plan → ℕ → b.Site → Statement → b.Site
behind p = b.behind_statement p.tables.now (naming p) p.known.now (numbering_of p.numbers.now)

-- where a name's value is
abbrev pub spot_of : Plan → b.Site → Found → Spot
spot_of p = b.spot_of p.tables.now (naming p) p.known.now (numbering_of p.numbers.now)

-- a member that is read
abbrev pub member_read : Plan → ValueType → Part → ℕ → ℕ → TypedTree → TypedTree
member_read p = b.member_read p.tables.now (naming p) p.known.now (numbering_of p.numbers.now)

abbrev pub part_behind : Plan → Option StaticType → ℕ → Part
part_behind p of m = part_of p.tables.now.names p.known.now (unwrap_or of nothing) m

abbrev pub class_behind : Option StaticType → ℕ
class_behind of = unwrap_or (class_of (unwrap_or of nothing)) 0

-- typed trees behind others
abbrev pub joined : TypedTrees → TypedTrees → TypedTrees
joined none rest = rest
joined (more x xs) rest = more x (joined xs rest)

-- the class that `new` makes an object of
abbrev pub class_found : Plan → Found → ℕ
class_found p = b.class_found p.tables.now (naming p) p.known.now (numbering_of p.numbers.now)
