-- Sums over lists of trees.
use Rattle.std.proofs.Common.{◌≡◌, ◌+◌, ◌≤◌, List, [], ◌∷◌, length, arith}
use Rattle.sts_syntax.specs.declared.typed.TypedExpr.{TypedExpr}
use Rattle.sts_syntax.specs.TypedTrees.{TypedTrees, none, more}
use Rattle.sts_syntax.specs.TypedViews.{typed_trees}
use Rattle.sts_syntax.specs.Measures.{total, how_many}
use Rattle.sts_lower.specs.Sizes.{sizes, items_size}

-- the items of an array have an op more each
pub items_size_is : (all : List TypedExpr) → items_size (sizes (typed_trees all)) ≡ total (sizes (typed_trees all)) + length all
items_size_is [] = omega arith
items_size_is (a ∷ rest) = omega (arith, items_size_is rest)

pub items_many : (items : TypedTrees) → how_many items ≤ items_size (sizes items)
items_many none = omega arith
items_many (more a rest) = omega (arith, items_many rest)
