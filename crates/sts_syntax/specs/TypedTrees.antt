-- Typed trees without what memory adds: no pointers, and lists as lists. Each expression has its type, and each name, call,
-- member and handler the number of what it stands for. What a program does depends on no expression's type: that of an array
-- literal is noted with its items, and no step reads it.
use Rattle.std.specs.Prelude.{ℕ, ℤ, Bool, Option, List}
use Rattle.sts_syntax.specs.declared.typed.Spot.{Spot}
use Rattle.sts_syntax.specs.declared.typed.Callee.{Callee}
use Rattle.sts_syntax.specs.Types.{ValueType}

mutual
  -- an expression
  pub data TypedTree : Type 0 where
    Num : (type : ValueType) (value : ℤ) → TypedTree
    Text : (type : ValueType) (text : ℕ) → TypedTree
    Truth : (type : ValueType) (value : Bool) → TypedTree
    Null : (type : ValueType) → TypedTree
    This : (type : ValueType) → TypedTree
    Name : (type : ValueType) (name : Spot) → TypedTree
    Unary : (type : ValueType) (op : ℕ) (a : TypedTree) → TypedTree
    Binary : (type : ValueType) (op : ℕ) (a b : TypedTree) → TypedTree
    Both : (type : ValueType) (a b : TypedTree) → TypedTree  -- `&&`
    Either : (type : ValueType) (a b : TypedTree) → TypedTree  -- `||`
    Choice : (type : ValueType) (test a b : TypedTree) → TypedTree  -- `?:`
    Set : (type : ValueType) (op : Option ℕ) (target a : TypedTree) → TypedTree  -- `=`, or with an operator `+=` and its like
    -- `++` and `--`; `late` where the mark stands behind its target
    Bump : (type : ValueType) (target : TypedTree) (by : ℤ) (late : Bool) → TypedTree
    Field : (type : ValueType) (a : TypedTree) (field : ℕ) → TypedTree
    Length : (type : ValueType) (a : TypedTree) → TypedTree
    Item : (type : ValueType) (a index : TypedTree) → TypedTree
    Call : (type : ValueType) (callee : Callee) (args : TypedTrees) → TypedTree
    SuperCall : (type : ValueType) (function : ℕ) (args : TypedTrees) → TypedTree
    Make : (type : ValueType) (class : ℕ) (args : TypedTrees) → TypedTree  -- `new`
    Items : (type : ValueType) (items : TypedTrees) → TypedTree  -- an array literal
    Handler : (type : ValueType) (function : ℕ) → TypedTree

  -- a list of expressions
  pub data TypedTrees : Type 0 where
    none : TypedTrees
    more : (a : TypedTree) (rest : TypedTrees) → TypedTrees

-- a declared name with its initialiser
pub record TypedDeclaration : Type 0 where
  pub name : Spot
  pub first : Option TypedTree

mutual
  -- a statement
  pub data TypedStatement : Type 0 where
    Block : (all : TypedStatements) → TypedStatement
    Let : (fixed : Bool) (each : List TypedDeclaration) → TypedStatement  -- `fixed` where it is `const`, which no step asks for
    IfOnly : (test : TypedTree) (a : TypedStatement) → TypedStatement
    IfElse : (test : TypedTree) (a b : TypedStatement) → TypedStatement
    While : (test : TypedTree) (a : TypedStatement) → TypedStatement
    DoWhile : (a : TypedStatement) (test : TypedTree) → TypedStatement
    For : (first : OptionalTypedStatement) (test step : Option TypedTree) (a : TypedStatement) → TypedStatement
    ForOf : (fixed : Bool) (name : Spot) (list : TypedTree) (a : TypedStatement) → TypedStatement
    Return : (value : Option TypedTree) → TypedStatement
    Break : TypedStatement
    Continue : TypedStatement
    Plain : (a : TypedTree) → TypedStatement
    Empty : TypedStatement

  -- a list of statements
  pub data TypedStatements : Type 0 where
    done : TypedStatements
    also : (a : TypedStatement) (rest : TypedStatements) → TypedStatements

  -- a statement that may be left out
  pub data OptionalTypedStatement : Type 0 where
    omitted : OptionalTypedStatement
    written : (a : TypedStatement) → OptionalTypedStatement

-- A function, method, constructor, handler or the main program. The parameters of a method and a constructor begin with `this`.
pub record TypedRoutine : Type 0 where
  pub params : List ValueType
  pub locals : List ValueType
  pub gives : ValueType
  pub all : TypedStatements

-- A class: its base, the types of its fields, the function in each slot of a method, and its constructor's function.
pub record ClassEntry : Type 0 where
  pub base : Option ℕ
  pub fields : List ValueType
  pub slots : List ℕ
  pub maker : ℕ

-- a whole program, with the library
pub record TypedProgram : Type 0 where
  pub classes : List ClassEntry
  pub functions : List TypedRoutine
  pub globals : List ValueType
  pub main : ℕ
