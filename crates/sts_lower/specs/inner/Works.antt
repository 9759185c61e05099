-- What is left to lower in a function, piece by piece: the pieces that a piece is opened into, and the ops that it has by itself.
use Rattle.std.specs.Prelude.{ℤ, ℕ, suc, ◌+◌, pos, Bool, List, [], ◌∷◌, ◌++◌, length, Option, Some, None}
use Rattle.board_services.specs.declared.numbers.TheConstants.{PUSH}
use Rattle.flat_ir.specs.declared.ops.Op.{Op}
use Rattle.flat_ir.specs.declared.ops.Op.TheVariants.{Const, Copy, Unary, Binary, FieldGet, ItemGet, Length, TextOf, MakeObject, MakeArray, Call, HandlerOf, Ask, Jump, Branch}
use Rattle.sts_syntax.specs.declared.typed.Spot.TheVariants.{Param, Local, Global}
use Rattle.sts_syntax.specs.declared.typed.Callee.{Callee}
use Rattle.sts_syntax.specs.declared.typed.Callee.TheVariants as c
use Rattle.sts_syntax.specs.TypedTrees as e
use Rattle.sts_syntax.specs.TypedTrees.{TypedTree, TypedTrees, TypedStatement, TypedStatements, OptionalTypedStatement, TypedDeclaration, TypedRoutine, ClassEntry}
use Rattle.sts_syntax.specs.BoardTable.{BoardAction, Service, ServicePlace, Written, Always, row_of}
use Rattle.sts_syntax.specs.Measures.{how_many, total, argument_sizes, pending_words, outgoing_words}
use Rattle.sts_syntax.specs.WellTypedPrograms.{is_maker}
use Rattle.flat_ir.specs.declared.ops.Function.{Function}
use Rattle.sts_lower.specs.Sizes.{Target, target, size, reach_size, initial_size, test_size, item_size, statement_size, first_size, statements_size}
use Rattle.sts_lower.specs.Code.{span, get_op, set_op, truth_number, maker_of, handler_of, action_code, call_code, stored_at, read_code, store_code, bump_global, bump_code}
use Rattle.sts_lower.specs.Statements.{behind, bare_code, return_code, item_code, statements_code}

-- Of a program: its classes, and the number of the function that repeats the calls of another one. Of a function: how many parameters it
-- has, the temporary at which its operands begin, and whether it is a constructor.
pub record Layout : Type 0 where
  pub classes : List ClassEntry
  pub repeating : ℕ → ℕ
  pub params : ℕ
  pub base : ℕ
  pub maker : Bool

-- A piece of work: an op, an expression, what is evaluated of a target, arguments of a call with what stands at their places, items of an array,
-- statements and declared names; with the operands that are pending, the place of its first op, and where it goes on.
pub data Work : Type 0 where
  Put : (op : Op) → Work
  Value : (a : TypedTree) (d at next : ℕ) → Work
  Reach : (x : TypedTree) (d at : ℕ) → Work
  Arguments : (places : List ServicePlace) (args : TypedTrees) (d at : ℕ) → Work
  Elements : (items : TypedTrees) (d at : ℕ) → Work
  Expand : (a : TypedStatement) (at next out again : ℕ) → Work
  ExpandAll : (all : TypedStatements) (at next out again : ℕ) → Work
  ExpandDeclarations : (each : List TypedDeclaration) (at : ℕ) → Work

abbrev pub puts : List Op → List Work
puts [] = []
puts (op ∷ ops) = Put op ∷ puts ops

-- what stands at the places of what is called: nothing but written arguments, except in a service
abbrev pub places_in : BoardAction → List ServicePlace
places_in (Service number places) = places
places_in _ = []

abbrev pub places_of : Callee → List ServicePlace
places_of (c.Board call) = places_in (row_of call).action
places_of _ = []

-- how many arguments a call passes, with a service's own numbers
abbrev pub passed_by : Callee → ℕ → ℕ
passed_by f n = total (argument_sizes 1 f []) + n

module _ (L : Layout) where
  -- What a function's layout makes of a target: the operand that is stored, the op that reads it, and the ops that store in it, or do `++` or `--`.
  abbrev pub held_at : Target → ℕ → ℕ
  held_at x d = stored_at L.classes L.repeating L.params L.base x d

  abbrev pub reads : Target → ℕ → Op
  reads x d = read_code L.classes L.repeating L.params L.base x d

  abbrev pub stores : Target → ℕ → List Op
  stores x d = store_code L.classes L.repeating L.params L.base x d

  abbrev pub bumps_global : ℤ → Bool → (g d : ℕ) → List Op
  bumps_global by late g d = bump_global L.classes L.repeating L.params L.base by late g d

  abbrev pub bumps : Target → ℤ → Bool → ℕ → List Op
  bumps x by late d = bump_code L.classes L.repeating L.params L.base x by late d

  -- what is called, behind its n arguments, and what comes before each turn of a loop over items
  abbrev pub acts : BoardAction → (handler d n : ℕ) → List Op
  acts action handler d n = action_code L.classes L.repeating L.params L.base action handler d n

  abbrev pub invokes : Callee → (handler d n : ℕ) → List Op
  invokes f handler d n = call_code L.classes L.repeating L.params L.base f handler d n

  abbrev pub takes_item : (i at next : ℕ) → List Op
  takes_item i at next = item_code L.classes L.repeating L.params L.base i at next

  -- an expression whose ops go on behind them, and two of them one after the other
  abbrev pub valued : TypedTree → (d at : ℕ) → Work
  valued a d at = Value a d at (at + size a)

  abbrev pub two : TypedTree → TypedTree → (d at : ℕ) → List Work
  two a b d at = valued a d at ∷ (valued b (suc d) (at + size a) ∷ [])

  -- The pieces of the forms that go on in more than one way: `a && b`, `a || b`, and `test ? a : b`.
  abbrev pub both : TypedTree → TypedTree → (d at next : ℕ) → List Work
  both a b d at next =
      (let behind = at + size a + 1 + 1 in
      valued a d at ∷ (Put (Branch (L.base + d) behind) ∷ (Put (Jump next) ∷ (Value b d behind next ∷ []))))

  abbrev pub either : TypedTree → TypedTree → (d at next : ℕ) → List Work
  either a b d at next = valued a d at ∷ (Put (Branch (L.base + d) next) ∷ (Value b d (at + size a + 1) next ∷ []))

  abbrev pub choice : TypedTree → TypedTree → TypedTree → (d at next : ℕ) → List Work
  choice test a b d at next =
      (let so = at + size test + 1 + size b + 1 in
      valued test d at ∷ (Put (Branch (L.base + d) so) ∷ (Value b d (at + size test + 1) next
      ∷ (Put (Jump next) ∷ (Value a d so next ∷ [])))))

  -- of assignments, `++` and `--`
  abbrev pub assigned : TypedTree → TypedTree → (d at : ℕ) → List Work
  assigned x r d at = Reach x d at ∷ (valued r (held_at (target x) d) (at + reach_size x) ∷ puts (stores (target x) d))

  abbrev pub compounded : ℕ → TypedTree → TypedTree → (d at : ℕ) → List Work
  compounded op x r d at =
      (let held = held_at (target x) d in
      Reach x d at ∷ (Put (reads (target x) d) ∷ (valued r (suc held) (at + reach_size x + 1)
      ∷ (Put (Binary (L.base + held) op (L.base + held) (L.base + suc held)) ∷ puts (stores (target x) d)))))

  abbrev pub bumped : TypedTree → ℤ → Bool → (d at : ℕ) → List Work
  bumped x by late d at = Reach x d at ∷ puts (bumps (target x) by late d)

  -- of calls, new objects and arrays
  abbrev pub called : Callee → TypedTrees → (d at : ℕ) → List Work
  called f args d at =
      Arguments (places_of f) args d at ∷ puts (invokes f (handler_of args) d (passed_by f (how_many args)))

  abbrev pub called_above : ℕ → TypedTrees → (d at : ℕ) → List Work
  called_above f args d at =
      Put (Copy (L.base + d) 0) ∷ (Arguments [] args (suc d) (at + 1)
      ∷ (Put (Call (L.base + d) f (span (L.base + d) (suc (how_many args)) [])) ∷ []))

  abbrev pub made : ℕ → TypedTrees → (d at : ℕ) → List Work
  made class args d at =
      (let object = L.base + (how_many args + d) in
      Arguments [] args d at ∷ (Put (MakeObject object class)
      ∷ (Put (Call (L.base + d) (maker_of L.classes class) (object ∷ span (L.base + d) (how_many args) [])) ∷ [])))

  abbrev pub listed : TypedTrees → (d at : ℕ) → List Work
  listed items d at = Put (MakeArray (L.base + d) (how_many items)) ∷ (Elements items d (at + 1) ∷ [])

  -- The pieces of an expression.
  abbrev pub opened_value : TypedTree → (d at next : ℕ) → List Work
  opened_value (e.Num u n) d at next = Put (Const (L.base + d) n) ∷ []
  opened_value (e.Text u n) d at next = Put (TextOf (L.base + d) n) ∷ []
  opened_value (e.Truth u b) d at next = Put (Const (L.base + d) (truth_number b)) ∷ []
  opened_value (e.Null u) d at next = Put (Const (L.base + d) (pos 0)) ∷ []
  opened_value (e.This u) d at next = Put (Copy (L.base + d) 0) ∷ []
  opened_value (e.Name u x) d at next = Put (get_op L.params (L.base + d) x) ∷ []
  opened_value (e.Unary u op a) d at next = valued a d at ∷ (Put (Unary (L.base + d) op (L.base + d)) ∷ [])
  opened_value (e.Binary u op a b) d at next =
      two a b d at ++ Put (Binary (L.base + d) op (L.base + d) (L.base + suc d)) ∷ []
  opened_value (e.Both u a b) d at next = both a b d at next
  opened_value (e.Either u a b) d at next = either a b d at next
  opened_value (e.Choice u test a b) d at next = choice test a b d at next
  opened_value (e.Set u None x r) d at next = assigned x r d at
  opened_value (e.Set u (Some op) x r) d at next = compounded op x r d at
  opened_value (e.Bump u x by late) d at next = bumped x by late d at
  opened_value (e.Field u a f) d at next = valued a d at ∷ (Put (FieldGet (L.base + d) (L.base + d) f) ∷ [])
  opened_value (e.Length u a) d at next = valued a d at ∷ (Put (Length (L.base + d) (L.base + d)) ∷ [])
  opened_value (e.Item u a i) d at next = two a i d at ++ Put (ItemGet (L.base + d) (L.base + d) (L.base + suc d)) ∷ []
  opened_value (e.Call u f args) d at next = called f args d at
  opened_value (e.SuperCall u f args) d at next = called_above f args d at
  opened_value (e.Make u class args) d at next = made class args d at
  opened_value (e.Items u items) d at next = listed items d at
  opened_value (e.Handler u f) d at next = Put (HandlerOf (L.base + d) f) ∷ []

  -- of a target
  abbrev pub opened_reach : TypedTree → (d at : ℕ) → List Work
  opened_reach (e.Field u a f) d at = valued a d at ∷ []
  opened_reach (e.Item u a i) d at = two a i d at
  opened_reach x d at = []

  -- of arguments, and of items
  abbrev pub argument : List ServicePlace → TypedTree → TypedTrees → (d at : ℕ) → List Work
  argument places a rest d at = valued a d at ∷ (Arguments places rest (suc d) (at + size a) ∷ [])

  abbrev pub opened_arguments : List ServicePlace → TypedTrees → (d at : ℕ) → List Work
  opened_arguments [] e.none d at = []
  opened_arguments [] (e.more a rest) d at = argument [] a rest d at
  opened_arguments (Always n ∷ ps) args d at = Put (Const (L.base + d) n) ∷ (Arguments ps args (suc d) (at + 1) ∷ [])
  opened_arguments (Written ∷ ps) e.none d at = Arguments ps e.none d at ∷ []
  opened_arguments (Written ∷ ps) (e.more a rest) d at = argument ps a rest d at

  abbrev pub opened_elements : TypedTrees → (d at : ℕ) → List Work
  opened_elements e.none d at = []
  opened_elements (e.more a rest) d at =
      Value a (suc d) at (at + size a) ∷ (Put (Ask (L.base + suc d) PUSH ((L.base + d) ∷ ((L.base + suc d) ∷ [])))
      ∷ (Elements rest d (at + size a + 1) ∷ []))

  -- of declared names
  abbrev pub opened_initial : Option TypedTree → (at : ℕ) → List Work
  opened_initial None at = Put (Const (L.base + 0) (pos 0)) ∷ []
  opened_initial (Some a) at = valued a 0 at ∷ []

  abbrev pub opened_declarations : List TypedDeclaration → (at : ℕ) → List Work
  opened_declarations [] at = []
  opened_declarations (d ∷ rest) at =
      opened_initial d.first at ++ (Put (set_op L.params (L.base + 0) d.name)
      ∷ (ExpandDeclarations rest (at + initial_size d.first + 1) ∷ []))

  -- of the parts of a `for`
  abbrev pub opened_first : OptionalTypedStatement → (at next out again : ℕ) → List Work
  opened_first e.omitted at next out again = []
  opened_first (e.written a) at next out again = Expand a at next out again ∷ []

  abbrev pub opened_test : Option TypedTree → (at next : ℕ) → List Work
  opened_test None at next = []
  opened_test (Some a) at next =
      valued a 0 at ∷ (Put (Branch (L.base + 0) (at + size a + 1 + 1)) ∷ (Put (Jump next) ∷ []))

  abbrev pub opened_step : Option TypedTree → (at : ℕ) → List Work
  opened_step None at = []
  opened_step (Some a) at = valued a 0 at ∷ []

  -- a test, which goes on at a place where it holds
  abbrev pub tested : TypedTree → (at so : ℕ) → List Work
  tested test at so = valued test 0 at ∷ (Put (Branch (L.base + 0) so) ∷ [])

  -- of the forms of statements
  abbrev pub if_only : TypedTree → TypedStatement → (at next out again : ℕ) → List Work
  if_only test a at next out again =
      (let so = at + size test + 1 + 1 in tested test at so ++ (Put (Jump next) ∷ (Expand a so next out again ∷ [])))

  abbrev pub if_else : TypedTree → TypedStatement → TypedStatement → (at next out again : ℕ) → List Work
  if_else test a o at next out again =
      (let so = at + size test + 1 + statement_size L.maker o + 1 in
      tested test at so ++ (Expand o (at + size test + 1) next out again
      ∷ (Put (Jump next) ∷ (Expand a so next out again ∷ []))))

  abbrev pub while_turns : TypedTree → TypedStatement → (at next : ℕ) → List Work
  while_turns test a at next =
      (let body = at + size test + 1 + 1 in
      let turn = body + statement_size L.maker a in
      tested test at body ++ (Put (Jump next) ∷ (Expand a body turn next turn ∷ (Put (Jump at) ∷ []))))

  abbrev pub do_turns : TypedStatement → TypedTree → (at next : ℕ) → List Work
  do_turns a test at next =
      (let turn = at + statement_size L.maker a in
      Expand a at turn next
      turn ∷ (tested test turn (turn + size test + 1 + 1) ++ (Put (Jump next) ∷ (Put (Jump at) ∷ []))))

  abbrev pub for_turns : Option TypedTree → Option TypedTree → TypedStatement → (at next : ℕ) → List Work
  for_turns test step a at next =
      (let body = at + test_size test in
      let turn = body + statement_size L.maker a in
      opened_test test at next ++ (Expand a body turn next turn ∷ (opened_step step turn ++ (Put (Jump at) ∷ []))))

  abbrev pub item_turns : ℕ → TypedTree → TypedStatement → (at next : ℕ) → List Work
  item_turns i list a at next =
      (let turn = at + size list + 1 + 1 + 1 in
      valued list 0 at ∷ (Put (set_op L.params (L.base + 0) (Local (suc i))) ∷ (Put (Const (L.base + 0) (pos 0))
      ∷ (Put (set_op L.params (L.base + 0) (Local (suc (suc i)))) ∷ (puts (takes_item i turn next)
      ++ (Expand a (turn + item_size) turn next turn ∷ (Put (Jump turn) ∷ [])))))))

  -- of a statement
  abbrev pub opened_statement : TypedStatement → (at next out again : ℕ) → List Work
  opened_statement (e.Block all) at next out again = ExpandAll all at next out again ∷ []
  opened_statement (e.Let fixed each) at next out again = ExpandDeclarations each at ∷ []
  opened_statement (e.IfOnly test a) at next out again = if_only test a at next out again
  opened_statement (e.IfElse test a o) at next out again = if_else test a o at next out again
  opened_statement (e.While test a) at next out again = while_turns test a at next
  opened_statement (e.DoWhile a test) at next out again = do_turns a test at next
  opened_statement (e.For first test step a) at next out again =
      (let loop = at + first_size L.maker first in
      opened_first first at loop out again ++ for_turns test step a loop next)
  opened_statement (e.ForOf fixed (Local i) list a) at next out again = item_turns i list a at next
  opened_statement (e.ForOf fixed (Param i) list a) at next out again = Put (Jump next) ∷ []
  opened_statement (e.ForOf fixed (Global g) list a) at next out again = Put (Jump next) ∷ []
  opened_statement (e.Return None) at next out again = puts (bare_code L.maker L.base)
  opened_statement (e.Return (Some a)) at next out again = valued a 0 at ∷ puts (return_code L.maker L.base)
  opened_statement e.Break at next out again = Put (Jump out) ∷ []
  opened_statement e.Continue at next out again = Put (Jump again) ∷ []
  opened_statement (e.Plain a) at next out again = Value a 0 at next ∷ []
  opened_statement e.Empty at next out again = []

  abbrev pub opened_statements : TypedStatements → (at next out again : ℕ) → List Work
  opened_statements e.done at next out again = []
  opened_statements (e.also a rest) at next out again =
      Expand a at (behind (statements_size L.maker rest) (at + statement_size L.maker a) next) out again
      ∷ (ExpandAll rest (at + statement_size L.maker a) next out again ∷ [])

  -- the pieces of a piece; an op has none
  abbrev pub opened : Work → List Work
  opened (Put op) = []
  opened (Value a d at next) = opened_value a d at next
  opened (Reach x d at) = opened_reach x d at
  opened (Arguments places args d at) = opened_arguments places args d at
  opened (Elements items d at) = opened_elements items d at
  opened (Expand a at next out again) = opened_statement a at next out again
  opened (ExpandAll all at next out again) = opened_statements all at next out again
  opened (ExpandDeclarations each at) = opened_declarations each at

  -- the ops of a piece by itself, before those of its pieces
  abbrev pub own_ops : Work → List Op
  own_ops (Put op) = op ∷ []
  own_ops w = []

-- a function of a program with these classes, where `repeating` numbers the functions that repeat the calls of others
abbrev pub routine_of : List ClassEntry → (ℕ → ℕ) → Bool → TypedRoutine → Function
routine_of classes repeating maker r =
    (let params = length r.params in
    let base = length r.params + length r.locals in
    let end = statements_size maker r.all in
    record {
      params = params;
      locals = length r.locals;
      operands = pending_words r;
      outgoing = outgoing_words r;
      ops = statements_code classes repeating params base maker r.all 0 end end end ++ bare_code maker base;
    })

-- the functions of such a program, from number f on
abbrev pub routines_of : List ClassEntry → (ℕ → ℕ) → ℕ → List TypedRoutine → List Function
routines_of classes repeating f [] = []
routines_of classes repeating f (r ∷ rest) =
    routine_of classes repeating (is_maker classes f) r ∷ routines_of classes repeating (suc f) rest
