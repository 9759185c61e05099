-- Lists with one more at the end.
use Rattle.std.proofs.Common.{◌≡◌, ℕ, List, [], ◌∷◌, ◌++◌, refl, ap, ◌∙◌, arith}
use Rattle.std.specs.Prelude.{max}
use Rattle.sts_syntax.specs.declared.trees.Param.{Param}
use Rattle.sts_syntax.specs.declared.trees.Expr.{Expr}
use Rattle.sts_syntax.specs.declared.trees.Stmt.{Stmt}
use Rattle.sts_syntax.specs.declared.trees.Binding.{Binding}
use Rattle.sts_syntax.specs.Trees.{Tree, Trees, none, more, Statement, Statements, done, also, Declaration, Declarations, ended, next}
use Rattle.sts_syntax.specs.Nesting.{nesting, deepest_tree, statement_nesting, deepest_statement, declaration_nesting, deepest_declaration}
use Rattle.sts_syntax.specs.Views.{parameter, parameters, tree, trees, statement, statements, declaration, declarations}
use Rattle.sts_grammar.specs.ReadExpressions.{put, put_statement}
use Rattle.sts_grammar.specs.ReadStatements.{put_declaration}

pub parameters_put : (xs : List Param) (p : Param) → parameters (xs ++ p ∷ []) ≡ parameters xs ++ parameter p ∷ []
parameters_put [] p = refl
parameters_put (x ∷ xs) p = ap (λ rest. parameter x ∷ rest) (parameters_put xs p)

pub trees_put : (xs : List Expr) (a : Expr) → trees (xs ++ a ∷ []) ≡ put (trees xs) (tree a)
trees_put [] a = refl
trees_put (b ∷ xs) a = ap (more (tree b)) (trees_put xs a)

pub statements_put : (xs : List Stmt) (a : Stmt) → statements (xs ++ a ∷ []) ≡ put_statement (statements xs) (statement a)
statements_put [] a = refl
statements_put (b ∷ xs) a = ap (also (statement b)) (statements_put xs a)

pub declarations_put : (xs : List Binding) (a : Binding) → declarations (xs ++ a ∷ []) ≡ put_declaration (declarations xs) (declaration a)
declarations_put [] a = refl
declarations_put (b ∷ xs) a = ap (next (declaration b)) (declarations_put xs a)

pub deepest_put : (all : Trees) (a : Tree) → deepest_tree (put all a) ≡ max (nesting a) (deepest_tree all)
deepest_put none a = omega arith
deepest_put (more b rest) a = omega (arith, deepest_put rest a)

pub deepest_put_statement : (all : Statements) (a : Statement) → deepest_statement (put_statement all a) ≡ max (statement_nesting a) (deepest_statement all)
deepest_put_statement done a = omega arith
deepest_put_statement (also b rest) a = omega (arith, deepest_put_statement rest a)

pub deepest_put_declaration : (all : Declarations) (a : Declaration) → deepest_declaration (put_declaration all a) ≡ max (declaration_nesting a) (deepest_declaration all)
deepest_put_declaration ended a = omega arith
deepest_put_declaration (next b rest) a = omega (arith, deepest_put_declaration rest a)

pub trees_more : (xs ys : List Expr) (a : Expr) → ys ≡ xs ++ a ∷ [] → trees ys ≡ put (trees xs) (tree a)
trees_more xs ys a e = ap trees e ∙ trees_put xs a

pub trees_deepest : (xs ys : List Expr) (a : Expr) (w n k : ℕ) → ys ≡ xs ++ a ∷ [] → w ≡ nesting (tree a) → n ≡ deepest_tree (trees xs) → k ≡ max w n → k ≡ deepest_tree (trees ys)
trees_deepest xs ys a w n k e p q r = let d : deepest_tree (trees ys) ≡ max (nesting (tree a)) (deepest_tree (trees xs)) = ap deepest_tree (trees_more xs ys a e) ∙ deepest_put (trees xs) (tree a) in omega arith

pub statements_more : (xs ys : List Stmt) (a : Stmt) → ys ≡ xs ++ a ∷ [] → statements ys ≡ put_statement (statements xs) (statement a)
statements_more xs ys a e = ap statements e ∙ statements_put xs a

pub statements_deepest : (xs ys : List Stmt) (a : Stmt) (w n k : ℕ) → ys ≡ xs ++ a ∷ [] → w ≡ statement_nesting (statement a) → n ≡ deepest_statement (statements xs) → k ≡ max w n → k ≡ deepest_statement (statements ys)
statements_deepest xs ys a w n k e p q r = let d : deepest_statement (statements ys) ≡ max (statement_nesting (statement a)) (deepest_statement (statements xs)) = ap deepest_statement (statements_more xs ys a e) ∙ deepest_put_statement (statements xs) (statement a) in omega arith

pub declarations_more : (xs ys : List Binding) (a : Binding) → ys ≡ xs ++ a ∷ [] → declarations ys ≡ put_declaration (declarations xs) (declaration a)
declarations_more xs ys a e = ap declarations e ∙ declarations_put xs a

pub declarations_deepest : (xs ys : List Binding) (a : Binding) (w n k : ℕ) → ys ≡ xs ++ a ∷ [] → w ≡ declaration_nesting (declaration a) → n ≡ deepest_declaration (declarations xs) → k ≡ max w n → k ≡ deepest_declaration (declarations ys)
declarations_deepest xs ys a w n k e p q r = let d : deepest_declaration (declarations ys) ≡ max (declaration_nesting (declaration a)) (deepest_declaration (declarations xs)) = ap deepest_declaration (declarations_more xs ys a e) ∙ deepest_put_declaration (declarations xs) (declaration a) in omega arith
