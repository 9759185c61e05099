-- Nodes and statements that hold lists, made of their parts.
use Rattle.std.proofs.Common.{◌≡◌, ◌+◌, ℕ, List, ap, ◌∙◌, Option}
use Rattle.std.specs.Prelude.{Bool, None, Some}
use Rattle.std.specs.Option.{option_map}
use Rattle.std.specs.declared.alloc.Global.{Global}
use Rattle.std.specs.declared.boxed.Box.{Box}
use Rattle.sts_syntax.specs.declared.trees.Expr.{Expr}
use Rattle.sts_syntax.specs.declared.trees.Stmt.{Stmt}
use Rattle.sts_syntax.specs.declared.trees.Binding.{Binding}
use Rattle.sts_syntax.specs.declared.trees.Body.{Body}
use Rattle.sts_syntax.specs.declared.trees.Node.TheVariants as n
use Rattle.sts_syntax.specs.declared.trees.Form.TheVariants as f
use Rattle.sts_syntax.specs.Trees.{Call, SuperCall, Make, Items, Handler, Block, Let}
use Rattle.sts_syntax.specs.Views.{tree, trees, node_tree, statement, statements, form_statement, declarations, routine, optional_expression, optional_written}
use Rattle.sts_scope.specs.Handlers as h
use Rattle.sts_syntax.proofs.Laws.{call_tree, super_call_tree, make_tree, items_tree, block_statement, let_statement}

pub call_is : (e : Expr) (f : Box Expr Global) (args : List Expr) → e.node ≡ n.Call f args → tree e ≡ Call e.at (tree f.value) (trees args)
call_is e f args is = ap (node_tree e.at) is ∙ call_tree e.at f args

pub super_call_is : (e : Expr) (m : Option ℕ) (args : List Expr) → e.node ≡ n.SuperCall m args → tree e ≡ SuperCall e.at m (trees args)
super_call_is e m args is = ap (node_tree e.at) is ∙ super_call_tree e.at m args

pub make_is : (e : Expr) (x : ℕ) (args : List Expr) → e.node ≡ n.Make x args → tree e ≡ Make e.at x (trees args)
make_is e x args is = ap (node_tree e.at) is ∙ make_tree e.at x args

pub items_is : (e : Expr) (items : List Expr) → e.node ≡ n.Items items → tree e ≡ Items e.at (trees items)
items_is e items is = ap (node_tree e.at) is ∙ items_tree e.at items

pub handler_is : (e : Expr) (b : Box Body Global) → e.node ≡ n.Handler b → tree e ≡ Handler e.at (routine b.value)
handler_is e b is = ap (node_tree e.at) is

pub block_is : (s : Stmt) (all : List Stmt) → s.form ≡ f.Block all → statement s ≡ Block s.at (statements all)
block_is s all is = ap (form_statement s.at) is ∙ block_statement s.at all

pub let_is : (s : Stmt) (fixed : Bool) (each : List Binding) → s.form ≡ f.Let fixed each → statement s ≡ Let s.at fixed (declarations each)
let_is s fixed each is = ap (form_statement s.at) is ∙ let_statement s.at fixed each

-- the functions in a `for`, of which each part but the statement may be left out
for_handlers : (s : Stmt) (test step : Option Expr) (a : Box Stmt Global) (first : Option (Box Stmt Global)) → s.form ≡ f.For first test step a
    → h.statement_handlers (statement s) ≡ h.statement_handlers (form_statement s.at (f.For first test step a))
for_handlers s test step a first is = ap (λ x. h.statement_handlers (form_statement s.at x)) is

pub for_parts : (s : Stmt) (first : Option (Box Stmt Global)) (test step : Option Expr) (a : Box Stmt Global) → s.form ≡ f.For first test step a
    → h.statement_handlers (statement s)
    ≡ h.first_handlers (optional_written (option_map (λ (b : Box Stmt Global). b.value) first)) + h.optional_handlers (optional_expression test) + h.optional_handlers (optional_expression step) + h.statement_handlers (statement a.value)
for_parts s None None None a is = for_handlers s None None a None is
for_parts s None None (Some e) a is = for_handlers s None (Some e) a None is
for_parts s None (Some d) None a is = for_handlers s (Some d) None a None is
for_parts s None (Some d) (Some e) a is = for_handlers s (Some d) (Some e) a None is
for_parts s (Some b) None None a is = for_handlers s None None a (Some b) is
for_parts s (Some b) None (Some e) a is = for_handlers s None (Some e) a (Some b) is
for_parts s (Some b) (Some d) None a is = for_handlers s (Some d) None a (Some b) is
for_parts s (Some b) (Some d) (Some e) a is = for_handlers s (Some d) (Some e) a (Some b) is
