-- What a typed tree in memory stands for.
use Rattle.std.specs.Prelude.{Option, Some, None, List, [], ◌∷◌}
use Rattle.sts_syntax.specs.declared.types.Ty.{Ty}
use Rattle.sts_syntax.specs.declared.typed.TypedExpr.{TypedExpr}
use Rattle.sts_syntax.specs.declared.typed.TypedNode.{TypedNode, Row_of-TypedExpr, end_of-TypedExpr, more_of-TypedExpr}
use Rattle.sts_syntax.specs.declared.typed.TypedNode.TheVariants as n
use Rattle.sts_syntax.specs.declared.typed.TypedBinding.{TypedBinding}
use Rattle.sts_syntax.specs.declared.typed.TypedStmt.{TypedStmt, Row_of-TypedStmt, end_of-TypedStmt, more_of-TypedStmt, Held-TypedStmt-If-2, None', Some'}
use Rattle.sts_syntax.specs.declared.typed.TypedStmt.TheVariants as s
use Rattle.sts_syntax.specs.declared.typed.TypedBody.{TypedBody}
use Rattle.sts_syntax.specs.declared.typed.TypedClass.{TypedClass}
use Rattle.sts_syntax.specs.declared.typed.Typed.{Typed}
use Rattle.sts_syntax.specs.Types.{value_type, value_types}
use Rattle.sts_syntax.specs.TypedTrees.{TypedTree, Num, Text, Truth, Null, This, Name, Unary, Binary, Both, Either, Choice, Set, Bump, Field, Length, Item, Call, SuperCall, Make, Items, Handler, TypedTrees, none, more, TypedDeclaration, TypedStatement, Block, Let, IfOnly, IfElse, While, DoWhile, For, ForOf, Return, Break, Continue, Plain, Empty, TypedStatements, done, also, OptionalTypedStatement, omitted, written, TypedRoutine, ClassEntry, TypedProgram}

abbrev mutual
  -- an expression, by its type and node
  pub typed_node_tree : Ty → TypedNode → TypedTree
  typed_node_tree t (n.Num value) = Num (value_type t) value
  typed_node_tree t (n.Text text) = Text (value_type t) text
  typed_node_tree t (n.Truth value) = Truth (value_type t) value
  typed_node_tree t n.Null = Null (value_type t)
  typed_node_tree t n.This = This (value_type t)
  typed_node_tree t (n.Name name) = Name (value_type t) name
  typed_node_tree t (n.Unary' op p u a) = Unary (value_type t) op (typed_node_tree u a)
  typed_node_tree t (n.Binary' op p u a q v b) = Binary (value_type t) op (typed_node_tree u a) (typed_node_tree v b)
  typed_node_tree t (n.Both' p u a q v b) = Both (value_type t) (typed_node_tree u a) (typed_node_tree v b)
  typed_node_tree t (n.Either' p u a q v b) = Either (value_type t) (typed_node_tree u a) (typed_node_tree v b)
  typed_node_tree t (n.Choice' p u c q v a r w b) =
      Choice (value_type t) (typed_node_tree u c) (typed_node_tree v a) (typed_node_tree w b)
  typed_node_tree t (n.Set' op p u a q v b) = Set (value_type t) op (typed_node_tree u a) (typed_node_tree v b)
  typed_node_tree t (n.Bump' p u a by late) = Bump (value_type t) (typed_node_tree u a) by late
  typed_node_tree t (n.Field' p u a field) = Field (value_type t) (typed_node_tree u a) field
  typed_node_tree t (n.Length' p u a) = Length (value_type t) (typed_node_tree u a)
  typed_node_tree t (n.Item' p u a q v b) = Item (value_type t) (typed_node_tree u a) (typed_node_tree v b)
  typed_node_tree t (n.Call' callee m args) = Call (value_type t) callee (row_typed_trees args)
  typed_node_tree t (n.SuperCall' function m args) = SuperCall (value_type t) function (row_typed_trees args)
  typed_node_tree t (n.Make' class m args) = Make (value_type t) class (row_typed_trees args)
  typed_node_tree t (n.Items' m items) = Items (value_type t) (row_typed_trees items)
  typed_node_tree t (n.Handler function) = Handler (value_type t) function

  pub row_typed_trees : {m : _} → Row_of-TypedExpr m → TypedTrees
  row_typed_trees end_of-TypedExpr = none
  row_typed_trees (more_of-TypedExpr u a rest) = more (typed_node_tree u a) (row_typed_trees rest)

-- an expression
abbrev pub typed_tree : TypedExpr → TypedTree
typed_tree e = typed_node_tree e.ty e.node

abbrev pub optional_typed_tree : Option TypedExpr → Option TypedTree
optional_typed_tree None = None
optional_typed_tree (Some e) = Some (typed_tree e)

abbrev pub typed_declaration : TypedBinding → TypedDeclaration
typed_declaration b = record { name = b.name; first = optional_typed_tree b.first }

abbrev pub typed_declarations : List TypedBinding → List TypedDeclaration
typed_declarations [] = []
typed_declarations (b ∷ rest) = typed_declaration b ∷ typed_declarations rest

abbrev mutual
  -- a statement
  pub typed_statement : TypedStmt → TypedStatement
  typed_statement (s.Block' m all) = Block (row_typed_statements all)
  typed_statement (s.Let fixed each) = Let fixed (typed_declarations each)
  typed_statement (s.If' c p a other) = if_typed_statement (typed_tree c) (typed_statement a) other
  typed_statement (s.While' c p a) = While (typed_tree c) (typed_statement a)
  typed_statement (s.DoWhile' p a c) = DoWhile (typed_statement a) (typed_tree c)
  typed_statement (s.For' first c step p a) =
      For (optional_typed_statement first) (optional_typed_tree c) (optional_typed_tree step) (typed_statement a)
  typed_statement (s.ForOf' fixed name list p a) = ForOf fixed name (typed_tree list) (typed_statement a)
  typed_statement (s.Return value) = Return (optional_typed_tree value)
  typed_statement s.Break = Break
  typed_statement s.Continue = Continue
  typed_statement (s.Plain a) = Plain (typed_tree a)
  typed_statement s.Empty = Empty

  pub if_typed_statement : TypedTree → TypedStatement → Held-TypedStmt-If-2 → TypedStatement
  if_typed_statement c a None' = IfOnly c a
  if_typed_statement c a (Some' p b) = IfElse c a (typed_statement b)

  pub optional_typed_statement : Held-TypedStmt-If-2 → OptionalTypedStatement
  optional_typed_statement None' = omitted
  optional_typed_statement (Some' p a) = written (typed_statement a)

  pub row_typed_statements : {m : _} → Row_of-TypedStmt m → TypedStatements
  row_typed_statements end_of-TypedStmt = done
  row_typed_statements (more_of-TypedStmt a rest) = also (typed_statement a) (row_typed_statements rest)

-- lists, as a `Seq` holds them
abbrev pub typed_trees : List TypedExpr → TypedTrees
typed_trees [] = none
typed_trees (e ∷ rest) = more (typed_tree e) (typed_trees rest)

abbrev pub typed_statements : List TypedStmt → TypedStatements
typed_statements [] = done
typed_statements (s ∷ rest) = also (typed_statement s) (typed_statements rest)

abbrev pub typed_routine : TypedBody → TypedRoutine
typed_routine b = record {
  params = value_types b.params;
  locals = value_types b.locals;
  gives = value_type b.gives;
  all = typed_statements b.stmts;
}

abbrev pub typed_routines : List TypedBody → List TypedRoutine
typed_routines [] = []
typed_routines (b ∷ rest) = typed_routine b ∷ typed_routines rest

abbrev pub class_entry : TypedClass → ClassEntry
class_entry c = record { base = c.base; fields = value_types c.fields; slots = c.slots; maker = c.maker }

abbrev pub class_entries : List TypedClass → List ClassEntry
class_entries [] = []
class_entries (c ∷ rest) = class_entry c ∷ class_entries rest

-- a whole program
abbrev pub typed_program : Typed → TypedProgram
typed_program t = record {
  classes = class_entries t.classes;
  functions = typed_routines t.functions;
  globals = value_types t.globals;
  main = t.main;
}
