-- The ops of a statement.
use Rattle.std.specs.Prelude.{ℕ, zero, suc, ◌+◌, pos, Bool, true, false, List, [], ◌∷◌, ◌++◌, Option, Some, None}
use Rattle.flat_ir.specs.declared.ops.Op.{Op}
use Rattle.flat_ir.specs.declared.ops.Op.TheVariants.{Const, Copy, Unary, Binary, ItemGet, Length, Jump, Branch, Return}
use Rattle.sts_syntax.specs.declared.typed.Spot.TheVariants.{Local}
use Rattle.sts_syntax.specs.TypedTrees as e
use Rattle.sts_syntax.specs.TypedTrees.{TypedTree, TypedStatement, TypedStatements, OptionalTypedStatement, TypedDeclaration, ClassEntry}
use Rattle.sts_lower.specs.Sizes.{size, initial_size, test_size, item_size, statement_size, first_size, statements_size}
use Rattle.flat_ir.specs.declared.operators.TheConstants.{INCREMENT}
use Rattle.sts_lower.specs.Code.{set_op, code}

-- where to go on behind a part, if n ops follow it in its list
abbrev pub behind : ℕ → ℕ → ℕ → ℕ
behind zero here next = next
behind (suc n) here next = here

-- what a `return` without a value does, and running off the end: the default is given, and by a constructor its object
abbrev pub bare_code : Bool → ℕ → List Op
bare_code true base = Copy (base + 0) 0 ∷ (Return (base + 0) ∷ [])
bare_code false base = Const (base + 0) (pos 0) ∷ (Return (base + 0) ∷ [])

-- a `return` with a value, which a constructor lets go
abbrev pub return_code : Bool → ℕ → List Op
return_code true base = bare_code true base
return_code false base = Return (base + 0) ∷ []

module _ (classes : List ClassEntry) (repeating : ℕ → ℕ) (params base : ℕ) where
  -- the first operand is the value of a declared name
  abbrev pub initial_code : Option TypedTree → (at : ℕ) → List Op
  initial_code None at = Const (base + 0) (pos 0) ∷ []
  initial_code (Some a) at = code classes repeating params base a 0 at (at + size a)

  abbrev pub declared_code : List TypedDeclaration → (at : ℕ) → List Op
  declared_code [] at = []
  declared_code (d ∷ rest) at =
      initial_code d.first at ++ (set_op params (base + 0) d.name ∷ declared_code rest (at + initial_size d.first + 1))

  -- the test and the step of a `for`, which may be left out
  abbrev pub test_code : Option TypedTree → (at next : ℕ) → List Op
  test_code None at next = []
  test_code (Some a) at next =
      code classes repeating params base a 0 at (at + size a)
      ++ (Branch (base + 0) (at + size a + 1 + 1) ∷ (Jump next ∷ []))

  abbrev pub step_code : Option TypedTree → (at : ℕ) → List Op
  step_code None at = []
  step_code (Some a) at = code classes repeating params base a 0 at (at + size a)

  -- Before each turn of a loop over items: whether the index of the next one is below the length of the list, which is
  -- tested for null; else the loop ends. Then the item is read, and the index moves on.
  abbrev pub item_code : (i at next : ℕ) → List Op
  item_code i at next =
      Length (base + 0) (params + suc i)
      ∷ (Binary (base + 0) 6 (params + suc (suc i)) (base + 0) ∷ (Branch (base + 0) (at + 1 + 1 + 1 + 1) ∷ (Jump next
      ∷ (ItemGet (params + i) (params + suc i) (params + suc (suc i))
      ∷ (Unary (params + suc (suc i)) INCREMENT (params + suc (suc i)) ∷ [])))))

  -- in a constructor, or in another function
  module _ (maker : Bool) where
    abbrev mutual
      -- A statement's ops at a place; what comes after it stands at next, what comes after the loop around it at out,
      -- and its next turn at again.
      pub statement_code : TypedStatement → (at next out again : ℕ) → List Op
      statement_code (e.Block all) at next out again = statements_code all at next out again
      statement_code (e.Let fixed each) at next out again = declared_code each at
      statement_code (e.IfOnly test a) at next out again =
          code classes repeating params base test 0 at (at + size test)
          ++ (Branch (base + 0) (at + size test + 1 + 1)
          ∷ (Jump next
          ∷ statement_code a (at + size test + 1 + 1) next out again))
      statement_code (e.IfElse test a o) at next out again =
          code classes repeating params base test 0 at (at + size test)
          ++ (Branch (base + 0) (at + size test + 1 + statement_size maker o + 1)
          ∷ (statement_code o (at + size test + 1) next out again
          ++ (Jump next
          ∷ statement_code a (at + size test + 1 + statement_size maker o + 1) next out again)))
      statement_code (e.While test a) at next out again =
          (let turn = at + size test + 1 + 1 + statement_size maker a in
          code classes repeating params base test 0 at (at + size test)
          ++ (Branch (base + 0) (at + size test + 1 + 1)
          ∷ (Jump next
          ∷ (statement_code a (at + size test + 1 + 1) turn next turn
          ++ Jump at ∷ []))))
      statement_code (e.DoWhile a test) at next out again =
          (let turn = at + statement_size maker a in
          statement_code a at turn next turn
          ++ (code classes repeating params base test 0 turn (turn + size test)
          ++ (Branch (base + 0) (turn + size test + 1 + 1) ∷ (Jump next ∷ (Jump at ∷ [])))))
      statement_code (e.For first test step a) at next out again =
          (let loop = at + first_size maker first in
          let body = loop + test_size test in
          let turn = body + statement_size maker a in
          first_code first at loop out again
          ++ (test_code test loop next
          ++ (statement_code a body turn next turn
          ++ (step_code step turn ++ Jump loop ∷ []))))
      statement_code (e.ForOf fixed (Local i) list a) at next out again =
          (let turn = at + size list + 1 + 1 + 1 in
          code classes repeating params base list 0 at (at + size list)
          ++ (set_op params (base + 0) (Local (suc i))
          ∷ (Const (base + 0) (pos 0) ∷ (set_op params (base + 0) (Local (suc (suc i)))
          ∷ (item_code i turn next
          ++ (statement_code a (turn + item_size) turn next turn
          ++ Jump turn ∷ []))))))
      statement_code (e.ForOf fixed x list a) at next out again = Jump next ∷ []
      statement_code (e.Return None) at next out again = bare_code maker base
      statement_code (e.Return (Some a)) at next out again =
          code classes repeating params base a 0 at (at + size a) ++ return_code maker base
      statement_code e.Break at next out again = Jump out ∷ []
      statement_code e.Continue at next out again = Jump again ∷ []
      statement_code (e.Plain a) at next out again = code classes repeating params base a 0 at next
      statement_code e.Empty at next out again = []

      pub first_code : OptionalTypedStatement → (at next out again : ℕ) → List Op
      first_code e.omitted at next out again = []
      first_code (e.written a) at next out again = statement_code a at next out again

      pub statements_code : TypedStatements → (at next out again : ℕ) → List Op
      statements_code e.done at next out again = []
      statements_code (e.also a rest) at next out again =
          statement_code a at (behind (statements_size maker rest) (at + statement_size maker a) next) out again
          ++ statements_code rest (at + statement_size maker a) next out again
