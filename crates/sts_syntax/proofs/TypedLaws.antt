-- A typed node that holds a list, made of its parts: its tree has the trees of the list's items.
use Rattle.std.proofs.Common.{◌≡◌, ℕ, List, refl, ap, ◌∙◌}
use mathlib.Core.Former.{Count}
use Rattle.sts_syntax.specs.declared.types.Ty.{Ty}
use Rattle.sts_syntax.specs.declared.typed.Callee.{Callee}
use Rattle.sts_syntax.specs.declared.typed.TypedExpr.{TypedExpr}
use Rattle.sts_syntax.specs.declared.typed.TypedNode.{Row_of-TypedExpr, end_of-TypedExpr, more_of-TypedExpr, items-the_row-TypedExpr, items_hidden-the_row-TypedExpr-0}
use Rattle.sts_syntax.specs.declared.typed.TypedNode.TheBlock.{hidden-the_row-TypedExpr-0}
use Rattle.sts_syntax.specs.declared.typed.TypedNode.TheVariants as n
use Rattle.sts_syntax.specs.declared.typed.TypedStmt.{TypedStmt, Row_of-TypedStmt, end_of-TypedStmt, more_of-TypedStmt, items-the_row-TypedStmt, items_hidden-the_row-TypedStmt-0}
use Rattle.sts_syntax.specs.declared.typed.TypedStmt.TheBlock.{hidden-the_row-TypedStmt-0}
use Rattle.sts_syntax.specs.declared.typed.TypedStmt.TheVariants as s
use Rattle.sts_syntax.specs.Types.{value_type}
use Rattle.sts_syntax.specs.TypedTrees.{more, also, Call, SuperCall, Make, Items, Block}
use Rattle.sts_syntax.specs.TypedViews.{typed_tree, typed_node_tree, typed_trees, row_typed_trees, typed_statement, typed_statements, row_typed_statements}

trees_row : {m : Count} (row : Row_of-TypedExpr m) → row_typed_trees row ≡ typed_trees (items-the_row-TypedExpr m row)
trees_row end_of-TypedExpr = refl
trees_row (more_of-TypedExpr u a rest) = ap (more (typed_node_tree u a)) (trees_row rest)

statements_row : {m : Count} (row : Row_of-TypedStmt m) → row_typed_statements row ≡ typed_statements (items-the_row-TypedStmt m row)
statements_row end_of-TypedStmt = refl
statements_row (more_of-TypedStmt a rest) = ap (also (typed_statement a)) (statements_row rest)

pub typed_trees_held : (items : List TypedExpr) → row_typed_trees (hidden-the_row-TypedExpr-0 items) ≡ typed_trees items
typed_trees_held items = trees_row (hidden-the_row-TypedExpr-0 items) ∙ ap typed_trees (items_hidden-the_row-TypedExpr-0 items)

pub typed_statements_held : (items : List TypedStmt) → row_typed_statements (hidden-the_row-TypedStmt-0 items) ≡ typed_statements items
typed_statements_held items = statements_row (hidden-the_row-TypedStmt-0 items) ∙ ap typed_statements (items_hidden-the_row-TypedStmt-0 items)

pub typed_call_tree : (t : Ty) (callee : Callee) (args : List TypedExpr) → typed_node_tree t (n.Call callee args) ≡ Call (value_type t) callee (typed_trees args)
typed_call_tree t callee args = ap (Call (value_type t) callee) (typed_trees_held args)

pub typed_super_call_tree : (t : Ty) (function : ℕ) (args : List TypedExpr) → typed_node_tree t (n.SuperCall function args) ≡ SuperCall (value_type t) function (typed_trees args)
typed_super_call_tree t function args = ap (SuperCall (value_type t) function) (typed_trees_held args)

pub typed_make_tree : (t : Ty) (class : ℕ) (args : List TypedExpr) → typed_node_tree t (n.Make class args) ≡ Make (value_type t) class (typed_trees args)
typed_make_tree t class args = ap (Make (value_type t) class) (typed_trees_held args)

pub typed_items_tree : (t : Ty) (items : List TypedExpr) → typed_node_tree t (n.Items items) ≡ Items (value_type t) (typed_trees items)
typed_items_tree t items = ap (Items (value_type t)) (typed_trees_held items)

pub typed_block_statement : (all : List TypedStmt) → typed_statement (s.Block all) ≡ Block (typed_statements all)
typed_block_statement all = ap Block (typed_statements_held all)

-- an expression whose node holds a list
pub call_is : (e : TypedExpr) (callee : Callee) (args : List TypedExpr) → e.node ≡ n.Call callee args → typed_tree e ≡ Call (value_type e.ty) callee (typed_trees args)
call_is e callee args is = ap (typed_node_tree e.ty) is ∙ typed_call_tree e.ty callee args

pub super_call_is : (e : TypedExpr) (function : ℕ) (args : List TypedExpr) → e.node ≡ n.SuperCall function args → typed_tree e ≡ SuperCall (value_type e.ty) function (typed_trees args)
super_call_is e function args is = ap (typed_node_tree e.ty) is ∙ typed_super_call_tree e.ty function args

pub make_is : (e : TypedExpr) (class : ℕ) (args : List TypedExpr) → e.node ≡ n.Make class args → typed_tree e ≡ Make (value_type e.ty) class (typed_trees args)
make_is e class args is = ap (typed_node_tree e.ty) is ∙ typed_make_tree e.ty class args

pub items_is : (e : TypedExpr) (items : List TypedExpr) → e.node ≡ n.Items items → typed_tree e ≡ Items (value_type e.ty) (typed_trees items)
items_is e items is = ap (typed_node_tree e.ty) is ∙ typed_items_tree e.ty items
