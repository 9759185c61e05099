-- What a builder has behind a piece that it made.
use Rattle.std.specs.Prelude.{◌≡◌, ◌+◌, ◌++◌, length, Bool, true, false, Option, Some, None, if◌then◌else◌}
use Rattle.sts_syntax.specs.Annotations.{Annotation}
use Rattle.sts_syntax.specs.Trees as t
use Rattle.sts_syntax.specs.Trees.{Tree, OptionalTree, Statement, Declaration, Routine, Does}
use Rattle.sts_syntax.specs.Types.{value_types}
use Rattle.sts_syntax.specs.TypedTrees.{TypedTree, TypedDeclaration, TypedStatement, OptionalTypedStatement, For, Empty}
use Rattle.sts_syntax.specs.TypedViews.{typed_routines}
use Rattle.sts_scope.specs.declared.kinds.StaticType.{StaticType}
use Rattle.type_derive.specs.inner.Filled as b
use Rattle.type_derive.specs.Returns.{is_alone}
use Rattle.type_derive.specs.Making.{Made}
use Rattle.type_derive.specs.inner.Filling.{Making, pure, ◌>=>◌}
use Rattle.typed_numbers.specs.Building.{numbering_of}
use Rattle.typed_trees.specs.Fits.{NumbersFit}
use Rattle.typed_trees.specs.Sites.{naming, body_made, optional_made, statement_made}
use Rattle.typed_trees.specs.declared.build_places.Plan.{Plan}
use Rattle.typed_trees.specs.declared.build_places.Builder.{Builder}

-- From b on, this was made: b's locals and functions have those that it adds behind them, and the next numbers are behind theirs.
abbrev pub IsMade : {A : Type 0} → Builder → Builder → Made A → A → Type 0
IsMade b c made it =
    (it ≡ made.it)
    × ((value_types c.locals ≡ value_types b.locals ++ made.locals)
    × ((typed_routines c.routines ≡ typed_routines b.routines ++ made.routines)
    × ((c.local ≡ b.local + length made.locals) × (c.function ≡ b.function + length made.routines))))

-- This was made, where 32 bits number it.
abbrev pub IsBuilt : {A : Type 0} → Builder → Builder → Making A → A → Type 0
IsBuilt b c make it = NumbersFit b (make b.local b.function) → IsMade b c (make b.local b.function) it

unfoldable pub local_made : Plan → b.Site → Declaration → Making TypedDeclaration
local_made p = b.made_local p.tables.now (naming p) p.known.now (numbering_of p.numbers.now)

-- a handler, whose function is numbered as the next one
unfoldable pub handler_step : Plan → b.Site → Routine → Making TypedTree
handler_step p s r = b.handler_made p.tables.now (naming p) p.known.now (numbering_of p.numbers.now) (body_made p s r)

-- which statement it is
abbrev pub is_if : Statement → Bool
is_if (t.IfOnly at test a) = true
is_if (t.IfElse at test a other) = true
is_if a = false

abbrev pub is_while : Statement → Bool
is_while (t.While at test a) = true
is_while (t.DoWhile at a test) = true
is_while a = false

abbrev pub is_for : Statement → Bool
is_for (t.For at first test step a) = true
is_for a = false

abbrev pub is_for_of : Statement → Bool
is_for_of (t.ForOf at fixed x list a) = true
is_for_of a = false

-- a loop behind what it begins with
unfoldable pub turns_of : Plan → b.Site → OptionalTypedStatement → OptionalTree → OptionalTree → Statement
    → Making TypedStatement
turns_of p s f test step a =
    optional_made p s test >=> λ q. optional_made p s step >=> λ i. statement_made p (b.in_block s) a
    >=> λ x. pure (For f q i x)

abbrev pub turns_made : Plan → b.Site → OptionalTypedStatement → Statement → Making TypedStatement
turns_made p s f (t.For at first test step a) = turns_of p s f test step a
turns_made p s f _ = pure Empty

-- The type of a declared name, by the one that is written and its initialiser's.
abbrev pub bound_kind : Option Annotation → Option StaticType → Tree → Option StaticType → Option StaticType
bound_kind (Some a) written first kind = written
bound_kind None written first kind = if is_alone first then None else kind

-- where the statements of a handler begin
abbrev pub handler_site : Plan → b.Site → Routine → b.Site
handler_site p s (Does at params gives all arrow) =
    b.in_handler_site p.tables.now (naming p) p.known.now (numbering_of p.numbers.now) s params gives all
