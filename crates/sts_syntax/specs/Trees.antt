-- Trees without what memory adds: no pointers, and lists as lists. `at` is a place: an expression's and a statement's is its
-- first token's; a declaration's, a parameter's, a function's and a method's its name's; a constructor's its word's; a handler's its
-- first token's. Names and texts are numbers in their tables, operators have their numbers.
use Rattle.std.specs.Prelude.{ℕ, ℤ, Bool, Option, List}
use Rattle.sts_syntax.specs.Annotations.{Annotation}

-- a parameter, with its type where one is written
pub record Parameter : Type 0 where
  pub at : ℕ
  pub name : ℕ
  pub shape : Option Annotation

mutual
  -- an expression
  pub data Tree : Type 0 where
    Num : (at : ℕ) (value : ℤ) → Tree
    Text : (at text : ℕ) → Tree
    Truth : (at : ℕ) (value : Bool) → Tree
    Null : (at : ℕ) → Tree
    This : (at : ℕ) → Tree
    Name : (at name : ℕ) → Tree
    Unary : (at op : ℕ) (a : Tree) → Tree
    Binary : (at op : ℕ) (a b : Tree) → Tree
    Both : (at : ℕ) (a b : Tree) → Tree  -- `&&`
    Either : (at : ℕ) (a b : Tree) → Tree  -- `||`
    Choice : (at : ℕ) (test a b : Tree) → Tree  -- `?:`
    Set : (at : ℕ) (op : Option ℕ) (target a : Tree) → Tree  -- `=`, or with an operator `+=` and its like
    Bump : (at : ℕ) (target : Tree) (by : ℤ) (late : Bool) → Tree  -- `++` by 1 and `--` by -1; the mark stands behind its target where it is late
    Member : (at : ℕ) (a : Tree) (name : ℕ) → Tree
    Item : (at : ℕ) (a index : Tree) → Tree
    Call : (at : ℕ) (callee : Tree) (args : Trees) → Tree
    SuperCall : (at : ℕ) (method : Option ℕ) (args : Trees) → Tree
    Make : (at class : ℕ) (args : Trees) → Tree  -- `new`
    Items : (at : ℕ) (items : Trees) → Tree  -- an array literal
    Handler : (at : ℕ) (routine : Routine) → Tree

  -- a list of expressions
  pub data Trees : Type 0 where
    none : Trees
    more : (a : Tree) (rest : Trees) → Trees

  -- an expression that may be left out
  pub data OptionalTree : Type 0 where
    absent : OptionalTree
    present : (a : Tree) → OptionalTree

  -- a statement
  pub data Statement : Type 0 where
    Block : (at : ℕ) (all : Statements) → Statement
    Let : (at : ℕ) (fixed : Bool) (each : Declarations) → Statement  -- `fixed` where it is `const`
    IfOnly : (at : ℕ) (test : Tree) (a : Statement) → Statement
    IfElse : (at : ℕ) (test : Tree) (a b : Statement) → Statement
    While : (at : ℕ) (test : Tree) (a : Statement) → Statement
    DoWhile : (at : ℕ) (a : Statement) (test : Tree) → Statement
    For : (at : ℕ) (first : OptionalStatement) (test step : OptionalTree) (a : Statement) → Statement
    ForOf : (at : ℕ) (fixed : Bool) (name : ℕ) (list : Tree) (a : Statement) → Statement
    Return : (at : ℕ) (value : OptionalTree) → Statement
    Break : (at : ℕ) → Statement
    Continue : (at : ℕ) → Statement
    Plain : (at : ℕ) (a : Tree) → Statement
    Empty : (at : ℕ) → Statement

  -- a list of statements
  pub data Statements : Type 0 where
    done : Statements
    also : (a : Statement) (rest : Statements) → Statements

  -- a statement that may be left out
  pub data OptionalStatement : Type 0 where
    omitted : OptionalStatement
    written : (a : Statement) → OptionalStatement

  -- a declared name, with its type and initialiser where they are written
  pub data Declaration : Type 0 where
    Declare : (at name : ℕ) (shape : Option Annotation) (first : OptionalTree) → Declaration

  -- a list of declared names
  pub data Declarations : Type 0 where
    ended : Declarations
    next : (a : Declaration) (rest : Declarations) → Declarations

  -- what functions, methods, constructors and handlers have in common
  pub data Routine : Type 0 where
    Does : (at : ℕ) (params : List Parameter) (gives : Option Annotation) (all : Statements) (arrow : Bool) → Routine
