-- Operators between two operands, and choices: what is made once the operand before the last is.
use Rattle.std.specs.Prelude.{Option, Some, None, unwrap_or, if◌then◌else◌}
use Rattle.sts_syntax.specs.Trees.{Tree}
use Rattle.sts_syntax.specs.Types as value
use Rattle.sts_syntax.specs.Types.{ValueType}
use Rattle.sts_syntax.specs.TypedTrees as e
use Rattle.sts_syntax.specs.TypedTrees.{TypedTree}
use Rattle.sts_syntax.specs.TypedViews.{typed_tree}
use Rattle.sts_scope.specs.declared.kinds.StaticType.{StaticType}
use Rattle.sts_scope.specs.Kinds.{nothing}
use Rattle.sts_scope.specs.Rules as rule
use Rattle.type_derive.specs.inner.Filled as b
use Rattle.type_derive.specs.inner.Filling.{Making, pure, ◌>=>◌}
use Rattle.type_derive.specs.Typing.{◌>>=◌}
use Rattle.typed_trees.specs.Sites.{tree_made, tree_kind, noted}
use Rattle.typed_trees.specs.declared.build_operators.Operator.{Operator}
use Rattle.typed_trees.specs.declared.build_operators.Operator.TheVariants as o
use Rattle.typed_trees.specs.declared.build_places.Plan.{Plan}

-- the type that is given to the place of the last operand, by that of the one before: what is assigned is given its target's
abbrev pub last_given : Operator → Option StaticType → Option StaticType
last_given (o.Set op can) u = Some (unwrap_or u nothing)
last_given _ u = None

-- the type, by those of the last two operands
abbrev pub operator_kind : Plan → Operator → Option StaticType → Option StaticType → Option StaticType
operator_kind p (o.Binary op) x y = x >>= λ u. y >>= λ v. rule.operate p.known.now.classes op u v
operator_kind p o.Both x y = x >>= λ u. y >>= λ v. rule.joined u v
operator_kind p o.Either x y = x >>= λ u. y >>= λ v. rule.joined u v
operator_kind p o.Item x y = x >>= λ u. y >>= λ v. rule.element u v
operator_kind p (o.Set op can) x y = x >>= λ u. y >>= λ v. if can then rule.assign p.known.now.classes op u v else None
operator_kind p (o.Choice test) x y = test.kind >>= λ w. x >>= λ u. y >>= λ v. rule.choose p.known.now.classes w u v

-- the node, of its type and the last two operands
abbrev pub operator_node : Operator → ValueType → TypedTree → TypedTree → TypedTree
operator_node (o.Binary op) u x y = e.Binary u op x y
operator_node o.Both u x y = e.Both value.Boolean x y
operator_node o.Either u x y = e.Either value.Boolean x y
operator_node o.Item u x y = e.Item u x y
operator_node (o.Set op can) u x y = e.Set u op x y
operator_node (o.Choice test) u x y = e.Choice u (typed_tree test.tree.value) x y

-- behind the operand before it, with its type, the last one is made
unfoldable pub last_made : Plan → b.Site → Operator → Option StaticType → TypedTree → Tree → Making TypedTree
last_made p st q k x a =
    tree_made p st (last_given q k) a
    >=> λ y. pure (operator_node q (noted (operator_kind p q k (tree_kind p st (last_given q k) a))) x y)
