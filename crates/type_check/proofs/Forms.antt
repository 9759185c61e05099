-- The tree of an expression or a statement, by its form and by what the code has of its parts.
use Rattle.std.proofs.Common.{◌≡◌, ℕ, ℤ, Bool, Option, Some, None, List, sym, ap, ◌∙◌}
use Rattle.std.specs.declared.alloc.Global.{Global}
use Rattle.std.specs.declared.boxed.Box.{Box}
use Rattle.sts_syntax.specs.declared.trees.Expr.{Expr}
use Rattle.sts_syntax.specs.declared.trees.Stmt.{Stmt}
use Rattle.sts_syntax.specs.declared.trees.Body.{Body}
use Rattle.sts_syntax.specs.declared.trees.Node.TheVariants as n
use Rattle.sts_syntax.specs.declared.trees.Form.TheVariants as f
use Rattle.sts_syntax.specs.Trees.{Tree, Unary, Binary, Both, Either, Choice, Set, Bump, Member, Item, Call, SuperCall, Make, Items, Handler, IfOnly, IfElse, While, DoWhile, ForOf}
use Rattle.sts_syntax.specs.Views.{tree, trees, node_tree, statement, form_statement, routine}
use Rattle.type_derive.proofs.Laws as of

two : (w : Tree → Tree → Tree) (x y a b : Expr) → x ≡ a → y ≡ b → w (tree a) (tree b) ≡ w (tree x) (tree y)
two w x y a b hx hy = ap (λ q. w (tree q) (tree b)) (sym hx) ∙ ap (λ q. w (tree x) (tree q)) (sym hy)

module _ (e : Expr) where
  pub unary_is : (op : ℕ) (a : Box Expr Global) (x : Expr) → e.node ≡ n.Unary op a → x ≡ a.value → tree e ≡ Unary e.at op (tree x)
  unary_is op a x is hx = ap (node_tree e.at) is ∙ ap (λ q. Unary e.at op (tree q)) (sym hx)

  pub binary_is : (op : ℕ) (a b : Box Expr Global) (x y : Expr) → e.node ≡ n.Binary op a b → x ≡ a.value → y ≡ b.value → tree e ≡ Binary e.at op (tree x) (tree y)
  binary_is op a b x y is hx hy = ap (node_tree e.at) is ∙ two (Binary e.at op) x y a.value b.value hx hy

  pub both_is : (a b : Box Expr Global) (x y : Expr) → e.node ≡ n.Both a b → x ≡ a.value → y ≡ b.value → tree e ≡ Both e.at (tree x) (tree y)
  both_is a b x y is hx hy = ap (node_tree e.at) is ∙ two (Both e.at) x y a.value b.value hx hy

  pub either_is : (a b : Box Expr Global) (x y : Expr) → e.node ≡ n.Either a b → x ≡ a.value → y ≡ b.value → tree e ≡ Either e.at (tree x) (tree y)
  either_is a b x y is hx hy = ap (node_tree e.at) is ∙ two (Either e.at) x y a.value b.value hx hy

  pub item_is : (a i : Box Expr Global) (x y : Expr) → e.node ≡ n.Item a i → x ≡ a.value → y ≡ i.value → tree e ≡ Item e.at (tree x) (tree y)
  item_is a i x y is hx hy = ap (node_tree e.at) is ∙ two (Item e.at) x y a.value i.value hx hy

  pub choice_is : (q a b : Box Expr Global) (w x y : Expr) → e.node ≡ n.Choice q a b → w ≡ q.value → x ≡ a.value → y ≡ b.value → tree e ≡ Choice e.at (tree w) (tree x) (tree y)
  choice_is q a b w x y is hw hx hy =
      ap (node_tree e.at) is ∙ ap (λ u. Choice e.at (tree u) (tree a.value) (tree b.value)) (sym hw) ∙ two (Choice e.at (tree w)) x y a.value b.value hx hy

  pub set_is : (op : Option ℕ) (a b : Box Expr Global) (x y : Expr) → e.node ≡ n.Set op a b → x ≡ a.value → y ≡ b.value → tree e ≡ Set e.at op (tree x) (tree y)
  set_is op a b x y is hx hy = ap (node_tree e.at) is ∙ two (Set e.at op) x y a.value b.value hx hy

  pub bump_is : (a : Box Expr Global) (by : ℤ) (late : Bool) (x : Expr) → e.node ≡ n.Bump a by late → x ≡ a.value → tree e ≡ Bump e.at (tree x) by late
  bump_is a by late x is hx = ap (node_tree e.at) is ∙ ap (λ q. Bump e.at (tree q) by late) (sym hx)

  pub member_is : (a : Box Expr Global) (m : ℕ) (x : Expr) → e.node ≡ n.Member a m → x ≡ a.value → tree e ≡ Member e.at (tree x) m
  member_is a m x is hx = ap (node_tree e.at) is ∙ ap (λ q. Member e.at (tree q) m) (sym hx)

  pub items_is : (items xs : List Expr) → e.node ≡ n.Items items → xs ≡ items → tree e ≡ Items e.at (trees xs)
  items_is items xs is hx = of.items_is e items is ∙ ap (λ q. Items e.at (trees q)) (sym hx)

  pub call_is : (g : Box Expr Global) (args xs : List Expr) (x : Expr) → e.node ≡ n.Call g args → x ≡ g.value → xs ≡ args → tree e ≡ Call e.at (tree x) (trees xs)
  call_is g args xs x is hx hs = of.call_is e g args is ∙ ap (λ q. Call e.at (tree q) (trees args)) (sym hx) ∙ ap (λ q. Call e.at (tree x) (trees q)) (sym hs)

  pub super_call_is : (m : Option ℕ) (args xs : List Expr) → e.node ≡ n.SuperCall m args → xs ≡ args → tree e ≡ SuperCall e.at m (trees xs)
  super_call_is m args xs is hs = of.super_call_is e m args is ∙ ap (λ q. SuperCall e.at m (trees q)) (sym hs)

  pub make_is : (c : ℕ) (args xs : List Expr) → e.node ≡ n.Make c args → xs ≡ args → tree e ≡ Make e.at c (trees xs)
  make_is c args xs is hs = of.make_is e c args is ∙ ap (λ q. Make e.at c (trees q)) (sym hs)

  pub handler_is : (b : Box Body Global) (x : Body) → e.node ≡ n.Handler b → x ≡ b.value → tree e ≡ Handler e.at (routine x)
  handler_is b x is hx = ap (node_tree e.at) is ∙ ap (λ q. Handler e.at (routine q)) (sym hx)

module _ (s : Stmt) (test : Expr) (a : Box Stmt Global) (x : Stmt) where
  pub if_only_is : (other : Option (Box Stmt Global)) → s.form ≡ f.If test a other → other ≡ None → x ≡ a.value → statement s ≡ IfOnly s.at (tree test) (statement x)
  if_only_is other is none hx = ap (form_statement s.at) (is ∙ ap (f.If test a) none) ∙ ap (λ q. IfOnly s.at (tree test) (statement q)) (sym hx)

  pub if_else_is : (other : Option (Box Stmt Global)) (b : Box Stmt Global) (y : Stmt) → s.form ≡ f.If test a other → other ≡ Some b → x ≡ a.value → y ≡ b.value →
      statement s ≡ IfElse s.at (tree test) (statement x) (statement y)
  if_else_is other b y is some hx hy =
      ap (form_statement s.at) (is ∙ ap (f.If test a) some)
      ∙ ap (λ q. IfElse s.at (tree test) (statement q) (statement b.value)) (sym hx) ∙ ap (λ q. IfElse s.at (tree test) (statement x) (statement q)) (sym hy)

  pub while_is : s.form ≡ f.While test a → x ≡ a.value → statement s ≡ While s.at (tree test) (statement x)
  while_is is hx = ap (form_statement s.at) is ∙ ap (λ q. While s.at (tree test) (statement q)) (sym hx)

  pub do_while_is : s.form ≡ f.DoWhile a test → x ≡ a.value → statement s ≡ DoWhile s.at (statement x) (tree test)
  do_while_is is hx = ap (form_statement s.at) is ∙ ap (λ q. DoWhile s.at (statement q) (tree test)) (sym hx)

  pub for_of_is : (fixed : Bool) (name : ℕ) → s.form ≡ f.ForOf fixed name test a → x ≡ a.value → statement s ≡ ForOf s.at fixed name (tree test) (statement x)
  for_of_is fixed name is hx = ap (form_statement s.at) is ∙ ap (λ q. ForOf s.at fixed name (tree test) (statement q)) (sym hx)
