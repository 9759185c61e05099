-- What stands before what: expressions before others, and the call of the base's constructor.
use Rattle.std.proofs.Common.{ℕ, List, [], ◌∷◌}
use Rattle.sts_syntax.specs.declared.typed.TypedExpr.{TypedExpr}
use Rattle.sts_syntax.specs.Trees.{Trees, Statements}
use Rattle.sts_syntax.specs.TypedViews.{typed_tree}
use Rattle.sts_syntax.specs.TypedTrees.{TypedTrees, more, TypedStatement, TypedStatements}
use Rattle.sts_scope.specs.Rules.{maker_takes_of}
use Rattle.type_derive.specs.inner.Filled as b
use Rattle.type_derive.specs.inner.Filling.{Making, ◌>=>◌}
use Rattle.typed_trees.specs.Sites as s
use Rattle.typed_trees.specs.declared.build_places.Plan.{Plan}
use Rattle.typed_program.specs.Wholes.{behind_made, super_called}

-- some expressions before others
abbrev pub onto : List TypedExpr → TypedTrees → TypedTrees
onto [] rest = rest
onto (a ∷ all) rest = more (typed_tree a) (onto all rest)

-- the call of the constructor of the base with this number, then the initialisers, then the statements behind the call
abbrev pub headed_made : Plan → b.Site → ℕ → List TypedStatement → Trees → Statements → Making TypedStatements
headed_made l st base inits args rest =
    s.given_made l st (maker_takes_of l.known.now.classes base) args
    >=> λ ys. behind_made l st (super_called l base ys ∷ inits) rest
