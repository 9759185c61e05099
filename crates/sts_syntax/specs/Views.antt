-- What a tree in memory stands for.
use Rattle.std.specs.Prelude.{ℕ, Option, Some, None, List, [], ◌∷◌}
use Rattle.sts_syntax.specs.declared.shapes.Shape.{Shape}
use Rattle.sts_syntax.specs.declared.trees.Param.{Param}
use Rattle.sts_syntax.specs.declared.trees.Expr.{Expr}
use Rattle.sts_syntax.specs.declared.trees.Stmt.{Stmt}
use Rattle.sts_syntax.specs.declared.trees.Binding.{Binding, Binding'}
use Rattle.sts_syntax.specs.declared.trees.Body.{Body, Body'}
use Rattle.sts_syntax.specs.declared.trees.Node.{Node, Row_of-Expr, end_of-Expr, more_of-Expr}
use Rattle.sts_syntax.specs.declared.trees.Node.TheVariants as n
use Rattle.sts_syntax.specs.declared.trees.Form.{Form, Row_of-Stmt, end_of-Stmt, more_of-Stmt, Row_of-Binding, end_of-Binding, more_of-Binding}
use Rattle.sts_syntax.specs.declared.trees.Form.{Held-Form-If-2, Form-If-2-None', Form-If-2-Some', Held-Form-For-1, Form-For-1-None', Form-For-1-Some'}
use Rattle.sts_syntax.specs.declared.trees.Form.TheVariants as f
use Rattle.sts_syntax.specs.Annotations.{Annotation, annotation}
use Rattle.sts_syntax.specs.Trees.{Parameter, Tree, Num, Text, Truth, Null, This, Name, Unary, Binary, Both, Either, Choice, Set, Bump, Member, Item, Call, SuperCall, Make, Items, Handler, Trees, none, more, OptionalTree, absent, present, Statement, Block, Let, IfOnly, IfElse, While, DoWhile, For, ForOf, Return, Break, Continue, Plain, Empty, Statements, done, also, OptionalStatement, omitted, written, Declaration, Declare, Declarations, ended, next, Routine, Does}

abbrev pub optional_annotation : Option Shape → Option Annotation
optional_annotation None = None
optional_annotation (Some shape) = Some (annotation shape)

abbrev pub parameter : Param → Parameter
parameter p = record { at = p.at; name = p.name; shape = optional_annotation p.shape }

abbrev pub parameters : List Param → List Parameter
parameters [] = []
parameters (p ∷ rest) = parameter p ∷ parameters rest

abbrev mutual
  -- an expression, by its place and node
  pub node_tree : ℕ → Node → Tree
  node_tree at (n.Num value) = Num at value
  node_tree at (n.Text text) = Text at text
  node_tree at (n.Truth value) = Truth at value
  node_tree at n.Null = Null at
  node_tree at n.This = This at
  node_tree at (n.Name name) = Name at name
  node_tree at (n.Unary' op p i a) = Unary at op (node_tree i a)
  node_tree at (n.Binary' op p i a q j b) = Binary at op (node_tree i a) (node_tree j b)
  node_tree at (n.Both' p i a q j b) = Both at (node_tree i a) (node_tree j b)
  node_tree at (n.Either' p i a q j b) = Either at (node_tree i a) (node_tree j b)
  node_tree at (n.Choice' p i c q j a r k b) = Choice at (node_tree i c) (node_tree j a) (node_tree k b)
  node_tree at (n.Set' op p i a q j b) = Set at op (node_tree i a) (node_tree j b)
  node_tree at (n.Bump' p i a by late) = Bump at (node_tree i a) by late
  node_tree at (n.Member' p i a name) = Member at (node_tree i a) name
  node_tree at (n.Item' p i a q j b) = Item at (node_tree i a) (node_tree j b)
  node_tree at (n.Call' p i a m args) = Call at (node_tree i a) (row_trees args)
  node_tree at (n.SuperCall' method m args) = SuperCall at method (row_trees args)
  node_tree at (n.Make' class m args) = Make at class (row_trees args)
  node_tree at (n.Items' m items) = Items at (row_trees items)
  node_tree at (n.Handler' p b) = Handler at (routine b)

  pub row_trees : {m : _} → Row_of-Expr m → Trees
  row_trees end_of-Expr = none
  row_trees (more_of-Expr i a rest) = more (node_tree i a) (row_trees rest)

  pub optional_tree : Held-Form-For-1 → OptionalTree
  optional_tree Form-For-1-None' = absent
  optional_tree (Form-For-1-Some' i a) = present (node_tree i a)

  -- a statement, by its place and form
  pub form_statement : ℕ → Form → Statement
  form_statement at (f.Block' m all) = Block at (row_statements all)
  form_statement at (f.Let' fixed m each) = Let at fixed (row_declarations each)
  form_statement at (f.If' i c p j a other) = if_statement at (node_tree i c) (form_statement j a) other
  form_statement at (f.While' i c p j a) = While at (node_tree i c) (form_statement j a)
  form_statement at (f.DoWhile' p j a i c) = DoWhile at (form_statement j a) (node_tree i c)
  form_statement at (f.For' first c step p j a) =
      For at (optional_statement first) (optional_tree c) (optional_tree step) (form_statement j a)
  form_statement at (f.ForOf' fixed name i list p j a) = ForOf at fixed name (node_tree i list) (form_statement j a)
  form_statement at (f.Return' value) = Return at (optional_tree value)
  form_statement at f.Break = Break at
  form_statement at f.Continue = Continue at
  form_statement at (f.Plain' i a) = Plain at (node_tree i a)
  form_statement at f.Empty = Empty at

  pub if_statement : ℕ → Tree → Statement → Held-Form-If-2 → Statement
  if_statement at c a Form-If-2-None' = IfOnly at c a
  if_statement at c a (Form-If-2-Some' p j b) = IfElse at c a (form_statement j b)

  pub optional_statement : Held-Form-If-2 → OptionalStatement
  optional_statement Form-If-2-None' = omitted
  optional_statement (Form-If-2-Some' p j a) = written (form_statement j a)

  pub row_statements : {m : _} → Row_of-Stmt m → Statements
  row_statements end_of-Stmt = done
  row_statements (more_of-Stmt j a rest) = also (form_statement j a) (row_statements rest)

  pub row_declarations : {m : _} → Row_of-Binding m → Declarations
  row_declarations end_of-Binding = ended
  row_declarations (more_of-Binding b rest) = next (declaration b) (row_declarations rest)

  pub declaration : Binding → Declaration
  declaration (Binding' at name shape first) = Declare at name (optional_annotation shape) (optional_tree first)

  pub routine : Body → Routine
  routine (Body' at params gives m all arrow) =
      Does at (parameters params) (optional_annotation gives) (row_statements all) arrow

-- an expression
abbrev pub tree : Expr → Tree
tree e = node_tree e.at e.node

-- a statement
abbrev pub statement : Stmt → Statement
statement s = form_statement s.at s.form

abbrev pub optional_expression : Option Expr → OptionalTree
optional_expression None = absent
optional_expression (Some e) = present (tree e)

-- lists, as a `Seq` holds them
abbrev pub trees : List Expr → Trees
trees [] = none
trees (e ∷ rest) = more (tree e) (trees rest)

abbrev pub statements : List Stmt → Statements
statements [] = done
statements (s ∷ rest) = also (statement s) (statements rest)

abbrev pub declarations : List Binding → Declarations
declarations [] = ended
declarations (b ∷ rest) = next (declaration b) (declarations rest)

abbrev pub optional_written : Option Stmt → OptionalStatement
optional_written None = omitted
optional_written (Some a) = written (statement a)
