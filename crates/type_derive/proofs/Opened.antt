-- Nodes and statements that hold lists, made of their parts.
use Rattle.std.proofs.Common.{◌≡◌, ℕ, List, ap, ◌∙◌, Option}
use Rattle.std.specs.declared.alloc.Global.{Global}
use Rattle.std.specs.declared.boxed.Box.{Box}
use Rattle.sts_syntax.specs.declared.trees.Expr.{Expr}
use Rattle.sts_syntax.specs.declared.trees.Stmt.{Stmt}
use Rattle.sts_syntax.specs.declared.trees.Body.{Body}
use Rattle.sts_syntax.specs.declared.trees.Node.TheVariants as n
use Rattle.sts_syntax.specs.declared.trees.Form.TheVariants as f
use Rattle.sts_syntax.specs.Trees.{Call, SuperCall, Make, Items, Handler, Block}
use Rattle.sts_syntax.specs.Views.{tree, trees, node_tree, statement, statements, form_statement, routine}
use Rattle.sts_syntax.proofs.Laws.{call_tree, super_call_tree, make_tree, items_tree, block_statement}

pub call_is : (e : Expr) (f : Box Expr Global) (args : List Expr) → e.node ≡ n.Call f args → tree e ≡ Call e.at (tree f.value) (trees args)
call_is e f args is = ap (node_tree e.at) is ∙ call_tree e.at f args

pub super_call_is : (e : Expr) (m : Option ℕ) (args : List Expr) → e.node ≡ n.SuperCall m args → tree e ≡ SuperCall e.at m (trees args)
super_call_is e m args is = ap (node_tree e.at) is ∙ super_call_tree e.at m args

pub make_is : (e : Expr) (x : ℕ) (args : List Expr) → e.node ≡ n.Make x args → tree e ≡ Make e.at x (trees args)
make_is e x args is = ap (node_tree e.at) is ∙ make_tree e.at x args

pub items_is : (e : Expr) (items : List Expr) → e.node ≡ n.Items items → tree e ≡ Items e.at (trees items)
items_is e items is = ap (node_tree e.at) is ∙ items_tree e.at items

pub handler_is : (e : Expr) (b : Box Body Global) → e.node ≡ n.Handler b → tree e ≡ Handler e.at (routine b.value)
handler_is e b is = ap (node_tree e.at) is

pub block_is : (s : Stmt) (all : List Stmt) → s.form ≡ f.Block all → statement s ≡ Block s.at (statements all)
block_is s all is = ap (form_statement s.at) is ∙ block_statement s.at all
