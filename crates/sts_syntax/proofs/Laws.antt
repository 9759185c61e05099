-- The trees of nodes, declared names and routines that are made of their parts: lists have the trees of their items.
pub use Rattle.sts_syntax.proofs.BoardLookup.{drop_at, same_bytes_is}
pub use Rattle.sts_syntax.proofs.FrameBounds.{block_is, locals_are, outgoing_words_le}
pub use Rattle.sts_syntax.proofs.Holds.{how_many_are, weighs}
pub use Rattle.sts_syntax.proofs.Measured.{arguments_total, few_places, one_more, places_of}
pub use Rattle.sts_syntax.proofs.TypedLaws.{call_is, items_is, make_is, super_call_is, typed_block_statement, typed_call_tree, typed_items_tree, typed_make_tree, typed_super_call_tree}
use Rattle.std.proofs.Common.{◌≡◌, ℕ, List, refl, sym, ap, ◌∙◌}
use Rattle.std.specs.Prelude.{Bool, Option}
use Rattle.std.specs.declared.alloc.Global.{Global}
use Rattle.std.specs.declared.boxed.Box.{Box}
use mathlib.Core.Former.{Count}
use Rattle.sts_syntax.specs.declared.trees.Expr.{Expr}
use Rattle.sts_syntax.specs.declared.trees.Stmt.{Stmt}
use Rattle.sts_syntax.specs.declared.trees.Binding.{Binding, Binding', out-Binding}
use Rattle.sts_syntax.specs.declared.trees.Body.{Body, out-Body, roll-Body, roll-out-Body}
use Rattle.sts_syntax.specs.declared.trees.Node.TheVariants as n
use Rattle.sts_syntax.specs.declared.trees.Form.{Row_of-Stmt, end_of-Stmt, more_of-Stmt, items-the_row-Stmt, items_hidden-the_row-Stmt-0, Row_of-Binding, end_of-Binding, more_of-Binding, items-the_row-Binding, items_hidden-the_row-Binding-1}
use Rattle.sts_syntax.specs.declared.trees.Form.TheBlock.{hidden-the_row-Stmt-0, hidden-the_row-Binding-1, hidden-the_row-Expr-2}
use Rattle.sts_syntax.specs.declared.trees.Form.{Form-For-1-None', Form-For-1-Some'}
use Rattle.sts_syntax.specs.declared.trees.Form.TheVariants as f
use Rattle.sts_syntax.specs.declared.trees.Node.{Row_of-Expr, end_of-Expr, more_of-Expr, items-the_row-Expr, items_hidden-the_row-Expr-2}
use Rattle.sts_syntax.specs.Trees.{more, also, next, Call, SuperCall, Make, Items, Block, Let, Declare, Does}
use Rattle.sts_syntax.specs.Views.{tree, trees, row_trees, node_tree, statements, row_statements, form_statement, declaration, declarations, row_declarations, optional_expression, optional_annotation, parameters, routine}

trees_row : {m : Count} (row : Row_of-Expr m) → row_trees row ≡ trees (items-the_row-Expr m row)
trees_row end_of-Expr = refl
trees_row (more_of-Expr i a rest) = ap (more (node_tree i a)) (trees_row rest)

statements_row : {m : Count} (row : Row_of-Stmt m) → row_statements row ≡ statements (items-the_row-Stmt m row)
statements_row end_of-Stmt = refl
statements_row (more_of-Stmt j a rest) = ap (also (form_statement j a)) (statements_row rest)

declarations_row : {m : Count} (row : Row_of-Binding m) → row_declarations row ≡ declarations (items-the_row-Binding m row)
declarations_row end_of-Binding = refl
declarations_row (more_of-Binding b rest) = ap (next (declaration b)) (declarations_row rest)

pub trees_held : (items : List Expr) → row_trees (hidden-the_row-Expr-2 items) ≡ trees items
trees_held items = trees_row (hidden-the_row-Expr-2 items) ∙ ap trees (items_hidden-the_row-Expr-2 items)

pub statements_held : (items : List Stmt) → row_statements (hidden-the_row-Stmt-0 items) ≡ statements items
statements_held items = statements_row (hidden-the_row-Stmt-0 items) ∙ ap statements (items_hidden-the_row-Stmt-0 items)

pub declarations_held : (items : List Binding) → row_declarations (hidden-the_row-Binding-1 items) ≡ declarations items
declarations_held items = declarations_row (hidden-the_row-Binding-1 items) ∙ ap declarations (items_hidden-the_row-Binding-1 items)

pub call_tree : (at : ℕ) (callee : Box Expr Global) (args : List Expr) → node_tree at (n.Call callee args) ≡ Call at (tree callee.value) (trees args)
call_tree at callee args = ap (Call at (tree callee.value)) (trees_held args)

pub super_call_tree : (at : ℕ) (method : Option ℕ) (args : List Expr) → node_tree at (n.SuperCall method args) ≡ SuperCall at method (trees args)
super_call_tree at method args = ap (SuperCall at method) (trees_held args)

pub make_tree : (at class : ℕ) (args : List Expr) → node_tree at (n.Make class args) ≡ Make at class (trees args)
make_tree at class args = ap (Make at class) (trees_held args)

pub items_tree : (at : ℕ) (items : List Expr) → node_tree at (n.Items items) ≡ Items at (trees items)
items_tree at items = ap (Items at) (trees_held items)

pub block_statement : (at : ℕ) (all : List Stmt) → form_statement at (f.Block all) ≡ Block at (statements all)
block_statement at all = ap (Block at) (statements_held all)

pub let_statement : (at : ℕ) (fixed : Bool) (each : List Binding) → form_statement at (f.Let fixed each) ≡ Let at fixed (declarations each)
let_statement at fixed each = ap (Let at fixed) (declarations_held each)

pub declaration_parts : (b : Binding) →
    declaration b ≡ Declare (out-Binding b).at (out-Binding b).name (optional_annotation (out-Binding b).shape) (optional_expression (out-Binding b).first)
unfolding out-Binding denote.Hole.Carrier.out
declaration_parts (Binding' at name shape Form-For-1-None') = refl
declaration_parts (Binding' at name shape (Form-For-1-Some' i a)) = refl

routine_rolled : (b : Body) →
    routine (roll-Body (out-Body b)) ≡ Does (out-Body b).at (parameters (out-Body b).params) (optional_annotation (out-Body b).gives) (statements (out-Body b).stmts) (out-Body b).arrow
unfolding roll-Body denote.Hole.Carrier.roll
routine_rolled b =
    ap (λ x. Does (out-Body b).at (parameters (out-Body b).params) (optional_annotation (out-Body b).gives) x (out-Body b).arrow) (statements_held (out-Body b).stmts)

pub routine_parts : (b : Body) →
    routine b ≡ Does (out-Body b).at (parameters (out-Body b).params) (optional_annotation (out-Body b).gives) (statements (out-Body b).stmts) (out-Body b).arrow
routine_parts b = sym (ap routine (roll-out-Body b)) ∙ routine_rolled b
