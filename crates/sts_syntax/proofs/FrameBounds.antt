-- Measures of statements and functions: how they are bounded by the weight.
use Rattle.std.proofs.Common.{◌≡◌, ℕ, suc, ◌+◌, ◌*◌, ◌≤◌, List, [], ◌∷◌, length, refl, ap, ◌∙◌, arith, Option, Some, None}
use Rattle.sts_syntax.specs.declared.types.Ty.{Ty}
use Rattle.sts_syntax.specs.declared.typed.Callee.{Callee}
use Rattle.sts_syntax.specs.declared.typed.Callee.TheVariants as c
use Rattle.sts_syntax.specs.declared.typed.TypedStmt.{TypedStmt}
use Rattle.sts_syntax.specs.declared.typed.TypedStmt.TheVariants as s
use Rattle.sts_syntax.specs.Types.{value_types}
use Rattle.sts_syntax.specs.TypedTrees.{TypedTree, Num, Text, Truth, Null, This, Name, Unary, Binary, Both, Either, Choice, Set, Bump, Field, Length, Item, Call, SuperCall, Make, Items, Handler, TypedTrees, none, more, TypedDeclaration, TypedStatement, Block, Let, IfOnly, IfElse, While, DoWhile, For, ForOf, Return, Break, Continue, Plain, Empty, TypedStatements, done, also, OptionalTypedStatement, omitted, written}
use Rattle.sts_syntax.specs.TypedViews.{typed_statement, typed_statements}
use Rattle.sts_syntax.specs.Measures.{total, hold, outgoing, outgoing_all, how_many, passed, optional_size, greatest_first, greatest_in, greatest_optional, greatest_of}
use Rattle.sts_syntax.specs.Weights.{weight_of, weights, optional_weight, declared_weight, statement_weight, first_weight, statements_weight}
use Rattle.sts_syntax.proofs.Measured.{arguments_total}
use Rattle.sts_syntax.proofs.Holds.{hold_le, weighs}
use Rattle.sts_syntax.proofs.TypedLaws.{typed_block_statement}

-- no measure of an expression is greater than three times its weight, so neither is that of statements
module _ (size : TypedTree → ℕ) (size_le : (a : TypedTree) → size a ≤ 3 * weight_of a) where
  optional_le : (a : Option TypedTree) → optional_size size a ≤ 3 * optional_weight a
  optional_le None = omega arith
  optional_le (Some a) = size_le a

  first_le : (each : List TypedDeclaration) → greatest_first size each ≤ 3 * declared_weight each
  first_le [] = omega arith
  first_le (d ∷ rest) = omega (arith, optional_le d.first, first_le rest)

  mutual
    statement_le : (a : TypedStatement) → greatest_in size a ≤ 3 * statement_weight a
    statement_le (Block all) = omega (arith, statements_le all)
    statement_le (Let fixed each) = omega (arith, first_le each)
    statement_le (IfOnly test a) = omega (arith, size_le test, statement_le a)
    statement_le (IfElse test a b) = omega (arith, size_le test, statement_le a, statement_le b)
    statement_le (While test a) = omega (arith, size_le test, statement_le a)
    statement_le (DoWhile a test) = omega (arith, size_le test, statement_le a)
    statement_le (For first test step a) = omega (arith, written_le first, optional_le test, optional_le step, statement_le a)
    statement_le (ForOf fixed name list a) = omega (arith, size_le list, statement_le a)
    statement_le (Return value) = omega (arith, optional_le value)
    statement_le Break = omega arith
    statement_le Continue = omega arith
    statement_le (Plain a) = omega (arith, size_le a)
    statement_le Empty = omega arith

    written_le : (a : OptionalTypedStatement) → greatest_optional size a ≤ 3 * first_weight a
    written_le omitted = omega arith
    written_le (written a) = statement_le a

    statements_le : (all : TypedStatements) → greatest_of size all ≤ 3 * statements_weight all
    statements_le done = omega arith
    statements_le (also a rest) = omega (arith, statement_le a, statements_le rest)

passed_le : (f : Callee) (n : ℕ) → passed f n ≤ n
passed_le (c.Function f) n = omega arith
passed_le (c.Slot s) n = omega arith
passed_le c.Push n = omega arith
passed_le c.Pop n = omega arith
passed_le (c.Board call) n = omega arith

how_many_le : (args : TypedTrees) → how_many args ≤ total (weights args)
how_many_le none = omega arith
how_many_le (more a rest) = omega (arith, weighs a, how_many_le rest)

mutual
  outgoing_le : (a : TypedTree) → outgoing a ≤ 3 * weight_of a
  outgoing_le (Num t n) = omega arith
  outgoing_le (Text t n) = omega arith
  outgoing_le (Truth t b) = omega arith
  outgoing_le (Null t) = omega arith
  outgoing_le (This t) = omega arith
  outgoing_le (Name t x) = omega arith
  outgoing_le (Unary t op a) = omega (arith, outgoing_le a)
  outgoing_le (Binary t op a b) = omega (arith, outgoing_le a, outgoing_le b)
  outgoing_le (Both t a b) = omega (arith, outgoing_le a, outgoing_le b)
  outgoing_le (Either t a b) = omega (arith, outgoing_le a, outgoing_le b)
  outgoing_le (Choice t test a b) = omega (arith, outgoing_le test, outgoing_le a, outgoing_le b)
  outgoing_le (Set t op x r) = omega (arith, outgoing_le x, outgoing_le r)
  outgoing_le (Bump t x by late) = omega (arith, outgoing_le x)
  outgoing_le (Field t a f) = omega (arith, outgoing_le a)
  outgoing_le (Length t a) = omega (arith, outgoing_le a)
  outgoing_le (Item t a i) = omega (arith, outgoing_le a, outgoing_le i)
  outgoing_le (Call t f args) = omega (arith, passed_le f (how_many args), how_many_le args, arguments_total f (weights args), outgoing_all_le args)
  outgoing_le (SuperCall t f args) = omega (arith, how_many_le args, outgoing_all_le args)
  outgoing_le (Make t class args) = omega (arith, how_many_le args, outgoing_all_le args)
  outgoing_le (Items t items) = omega (arith, outgoing_all_le items)
  outgoing_le (Handler t f) = omega arith

  outgoing_all_le : (args : TypedTrees) → outgoing_all args ≤ 3 * total (weights args)
  outgoing_all_le none = omega arith
  outgoing_all_le (more a rest) = omega (arith, outgoing_le a, outgoing_all_le rest)

pub pending_le : (all : TypedStatements) → greatest_of hold all ≤ 3 * statements_weight all
pending_le all = statements_le hold hold_le all

pub outgoing_words_le : (all : TypedStatements) → greatest_of outgoing all ≤ 3 * statements_weight all
outgoing_words_le all = statements_le outgoing outgoing_le all

pub locals_are : (locals : List Ty) → length (value_types locals) ≡ length locals
locals_are [] = refl
locals_are (t ∷ rest) = ap suc (locals_are rest)

-- a block in memory
pub block_is : (a : TypedStmt) (all : List TypedStmt) → a ≡ s.Block all → typed_statement a ≡ Block (typed_statements all)
block_is a all is = ap typed_statement is ∙ typed_block_statement all
