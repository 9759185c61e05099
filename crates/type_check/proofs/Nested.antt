-- What stands in a list is nested no deeper than its deepest.
use Rattle.std.proofs.Common.{◌≡◌, ℕ, zero, suc, ◌<◌, ◌≤◌, List, [], ◌∷◌, length, get_or, ap, arith}
use Rattle.sts_syntax.specs.declared.trees.Expr.{Expr}
use Rattle.sts_syntax.specs.declared.trees.Stmt.{Stmt}
use Rattle.sts_syntax.specs.declared.trees.Binding.{Binding}
use Rattle.sts_syntax.specs.Nesting.{nesting, deepest_tree, statement_nesting, deepest_statement, declaration_nesting, deepest_declaration}
use Rattle.sts_syntax.specs.Views.{tree, trees, statement, statements, declaration, declarations}

pub tree_within : (all : List Expr) (i : ℕ) (x : Expr) → i < length all → x ≡ get_or all i x → nesting (tree x) ≤ deepest_tree (trees all)
tree_within [] i x lt is = absurd (omega (arith, lt))
tree_within (a ∷ rest) zero x lt is = omega (arith, ap (λ q. nesting (tree q)) is)
tree_within (a ∷ rest) (suc i) x lt is = omega (arith, tree_within rest i x (omega (arith, lt)) is)

pub statement_within : (all : List Stmt) (i : ℕ) (x : Stmt) → i < length all → x ≡ get_or all i x → statement_nesting (statement x) ≤ deepest_statement (statements all)
statement_within [] i x lt is = absurd (omega (arith, lt))
statement_within (a ∷ rest) zero x lt is = omega (arith, ap (λ q. statement_nesting (statement q)) is)
statement_within (a ∷ rest) (suc i) x lt is = omega (arith, statement_within rest i x (omega (arith, lt)) is)

pub declaration_within : (all : List Binding) (i : ℕ) (x : Binding) → i < length all → x ≡ get_or all i x → declaration_nesting (declaration x) ≤ deepest_declaration (declarations all)
declaration_within [] i x lt is = absurd (omega (arith, lt))
declaration_within (a ∷ rest) zero x lt is = omega (arith, ap (λ q. declaration_nesting (declaration q)) is)
declaration_within (a ∷ rest) (suc i) x lt is = omega (arith, declaration_within rest i x (omega (arith, lt)) is)
