-- What is made, put together; and a node that holds a list, whole.
use Rattle.std.proofs.Common.{Option, Some, None, List}
use Rattle.sts_syntax.specs.BoardTable.{BoardParameter}
use Rattle.sts_syntax.specs.Trees.{Tree, Trees}
use Rattle.sts_syntax.specs.Types.{ValueType}
use Rattle.sts_syntax.specs.TypedTrees.{TypedTree, TypedTrees, TypedRoutine}
use Rattle.sts_scope.specs.declared.kinds.StaticType.{StaticType}
use Rattle.type_derive.specs.Making.{Made}
use Rattle.type_derive.specs.inner.Filled as b
use Rattle.type_derive.specs.inner.Filling.{Making, pure, ◌>=>◌}
use Rattle.typed_numbers.specs.Building.{numbering_of}
use Rattle.typed_trees.specs.Calls.{passed_made, head_node}
use Rattle.typed_trees.specs.Sites.{naming}
use Rattle.typed_trees.specs.declared.build_heads.Head.{Head}
use Rattle.typed_trees.specs.declared.build_places.Plan.{Plan}

abbrev pub made_of : {A : Type 0} → A → List ValueType → List TypedRoutine → Made A
made_of x locals routines = record { it = x; locals = locals; routines = routines }

unfoldable pub items_made : Plan → b.Site → StaticType → Trees → Making TypedTrees
items_made p = b.made_items p.tables.now (naming p) p.known.now (numbering_of p.numbers.now)

unfoldable pub asked_made : Plan → b.Site → List BoardParameter → Trees → Making TypedTrees
asked_made p = b.made_asked p.tables.now (naming p) p.known.now (numbering_of p.numbers.now)

-- the whole node
unfoldable pub head_made : Plan → b.Site → ValueType → Option Head → Tree → Making TypedTree
head_made p st u None x = pure b.amiss
head_made p st u (Some h) x = passed_made p st h x >=> λ xs. pure (head_node p u h xs)
