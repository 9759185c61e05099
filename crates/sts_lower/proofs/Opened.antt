-- The pieces of a piece of work have its ops.
use Rattle.std.proofs.Common.{◌≡◌, ℕ, suc, ◌+◌, ℤ, List, [], ◌∷◌, ◌++◌, length, refl, sym, ap, ◌∙◌, append_assoc, append-nil, Option, Some, None, arith}
use Rattle.flat_ir.specs.declared.ops.Op.{Op}
use Rattle.sts_syntax.specs.declared.typed.Spot.TheVariants.{Param, Local, Global}
use Rattle.sts_syntax.specs.TypedTrees as e
use Rattle.sts_syntax.specs.TypedTrees.{TypedTree, TypedTrees, TypedStatement, TypedStatements, OptionalTypedStatement, TypedDeclaration}
use Rattle.sts_syntax.specs.declared.typed.Callee.{Callee}
use Rattle.sts_syntax.specs.declared.typed.Callee.TheVariants as c
use Rattle.sts_syntax.specs.BoardTable.{BoardAction, Service, Library, Repeats, ServicePlace, Written, Always, row_of, placed, arranged}
use Rattle.sts_syntax.specs.Measures.{how_many, total}
use Rattle.flat_ir.specs.declared.ops.Op.TheVariants.{Copy, Call, MakeObject, MakeArray}
use Rattle.sts_lower.specs.Code.{span, maker_of, items_code, number_part, arguments, parts, Part, call_code, parts_code, code, reach_code}
use Rattle.sts_lower.specs.inner.Works.{Layout, Work, Put, puts, places_in, places_of, passed_by, opened_value, opened_reach, opened_arguments, opened_elements, opened_statement, opened_statements, opened_declarations, opened, own_ops, opened_initial, opened_first, opened_test, opened_step, Value, Reach, Arguments, Elements, Expand, ExpandAll, ExpandDeclarations}
use Rattle.sts_lower.specs.Code.{handler_of}
use Rattle.sts_lower.specs.Statements.{bare_code, initial_code, first_code, test_code, step_code, declared_code, statement_code, statements_code}

placed_length : {X : Type 0} (of : ℤ → X) (places : List ServicePlace) (xs : List X) → length (placed of places xs) ≡ total (placed (λ n. 1) places []) + length xs
placed_length of [] xs = omega arith
placed_length of (Written ∷ ps) [] = placed_length of ps []
placed_length of (Written ∷ ps) (x ∷ xs) = omega (arith, placed_length of ps xs)
placed_length of (Always n ∷ ps) xs = omega (arith, placed_length of ps xs)

pub arranged_length : {X : Type 0} (of : ℤ → X) (action : BoardAction) (xs : List X) → length (arranged of action xs) ≡ total (arranged (λ n. 1) action []) + length xs
arranged_length of (Service number places) xs = placed_length of places xs
arranged_length of (Library function) xs = omega arith
arranged_length of Repeats xs = omega arith

arranged_is : {X : Type 0} (of : ℤ → X) (action : BoardAction) (xs : List X) → placed of (places_in action) xs ≡ arranged of action xs
arranged_is of (Service number places) xs = refl
arranged_is of (Library function) xs = refl
arranged_is of Repeats xs = refl

module _ (L : Layout) where
  -- the ops of a piece
  abbrev pub ops_of : Work → List Op
  ops_of (Put op) = op ∷ []
  ops_of (Value a d at next) = code L.classes L.repeating L.params L.base a d at next
  ops_of (Reach x d at) = reach_code L.classes L.repeating L.params L.base x d at
  ops_of (Arguments places args d at) =
      parts_code L.classes L.repeating L.params L.base (placed (number_part L.classes L.repeating L.params L.base)
      places (parts L.classes L.repeating L.params L.base args)) d at
  ops_of (Elements items d at) =
      items_code L.classes L.repeating L.params L.base (parts L.classes L.repeating L.params L.base items) d at
  ops_of (Expand a at next out again) = statement_code L.classes L.repeating L.params L.base L.maker a at next out again
  ops_of (ExpandAll all at next out again) =
      statements_code L.classes L.repeating L.params L.base L.maker all at next out again
  ops_of (ExpandDeclarations each at) = declared_code L.classes L.repeating L.params L.base each at

  abbrev pub ops_of_all : List Work → List Op
  ops_of_all [] = []
  ops_of_all (w ∷ ws) = ops_of w ++ ops_of_all ws

module _ (L : Layout) where
  pub puts_are : (ops : List Op) → ops_of_all L (puts ops) ≡ ops
  puts_are [] = refl
  puts_are (op ∷ ops) = ap (λ xs. op ∷ xs) (puts_are ops)

  pub joined_are : (vs ws : List Work) → ops_of_all L (vs ++ ws) ≡ ops_of_all L vs ++ ops_of_all L ws
  joined_are [] ws = refl
  joined_are (v ∷ vs) ws = ap (λ xs. ops_of L v ++ xs) (joined_are vs ws) ∙ sym (append_assoc (ops_of L v) (ops_of_all L vs) (ops_of_all L ws))

  how_many_parts : (args : TypedTrees) → length (parts L.classes L.repeating L.params L.base args) ≡ how_many args
  how_many_parts e.none = refl
  how_many_parts (e.more a rest) = ap suc (how_many_parts rest)

  arguments_length : (f : Callee) (args : TypedTrees)
      → length (arguments L.classes L.repeating L.params L.base f (parts L.classes L.repeating L.params L.base args)) ≡ passed_by f (how_many args)
  arguments_length (c.Function f) args = omega (arith, how_many_parts args)
  arguments_length (c.Slot s) args = omega (arith, how_many_parts args)
  arguments_length c.Push args = omega (arith, how_many_parts args)
  arguments_length c.Pop args = omega (arith, how_many_parts args)
  arguments_length (c.Board call) args =
      omega (
        arith,
        how_many_parts args,
        arranged_length (number_part L.classes L.repeating L.params L.base) (row_of call).action (parts L.classes L.repeating L.params L.base args),
      )

  arguments_are : (f : Callee) (each : List Part)
      → placed (number_part L.classes L.repeating L.params L.base) (places_of f) each ≡ arguments L.classes L.repeating L.params L.base f each
  arguments_are (c.Function f) each = refl
  arguments_are (c.Slot s) each = refl
  arguments_are c.Push each = refl
  arguments_are c.Pop each = refl
  arguments_are (c.Board call) each = arranged_is (number_part L.classes L.repeating L.params L.base) (row_of call).action each

  pub value_is : (a : TypedTree) (d at next : ℕ) → ops_of_all L (opened_value L a d at next) ≡ ops_of L (Value a d at next)
  value_is (e.Num u n) d at next = refl
  value_is (e.Text u n) d at next = refl
  value_is (e.Truth u b) d at next = refl
  value_is (e.Null u) d at next = refl
  value_is (e.This u) d at next = refl
  value_is (e.Name u x) d at next = refl
  value_is (e.Unary u op a) d at next = refl
  value_is (e.Binary u op a b) d at next = refl
  value_is (e.Both u a b) d at next = simp append-nil
  value_is (e.Either u a b) d at next = simp append-nil
  value_is (e.Choice u test a b) d at next = simp append-nil
  value_is (e.Set u None x r) d at next = simp puts_are
  value_is (e.Set u (Some op) x r) d at next = simp puts_are
  value_is (e.Bump u x by late) d at next = simp puts_are
  value_is (e.Field u a f) d at next = refl
  value_is (e.Length u a) d at next = refl
  value_is (e.Item u a i) d at next = refl
  value_is (e.Call u f args) d at next =
      let before = parts_code L.classes L.repeating L.params L.base (arguments L.classes L.repeating L.params L.base f (parts L.classes L.repeating L.params L.base args)) d at in
      simp (puts_are, arguments_are) (ap (λ n. before ++ call_code L.classes L.repeating L.params L.base f (handler_of args) d n) (sym (arguments_length f args)))
  value_is (e.SuperCall u f args) d at next =
      let before = parts_code L.classes L.repeating L.params L.base (parts L.classes L.repeating L.params L.base args) (suc d) (at + 1) in
      ap (λ n. Copy (L.base + d) 0 ∷ (before ++ Call (L.base + d) f (span (L.base + d) (suc n) []) ∷ [])) (sym (how_many_parts args))
  value_is (e.Make u class args) d at next =
      let before = parts_code L.classes L.repeating L.params L.base (parts L.classes L.repeating L.params L.base args) d at in
      ap (λ n. before ++ (MakeObject (L.base + (n + d)) class ∷ (Call (L.base + d) (maker_of L.classes class) ((L.base + (n + d)) ∷ span (L.base + d) n []) ∷ [])))
      (sym (how_many_parts args))
  value_is (e.Items u items) d at next =
      let behind = items_code L.classes L.repeating L.params L.base (parts L.classes L.repeating L.params L.base items) d (at + 1) in
      simp append-nil (ap (λ n. MakeArray (L.base + d) n ∷ behind) (sym (how_many_parts items)))
  value_is (e.Handler u f) d at next = refl

  reach_is : (x : TypedTree) (d at : ℕ) → ops_of_all L (opened_reach L x d at) ≡ ops_of L (Reach x d at)
  reach_is (e.Field u a f) d at = simp append-nil
  reach_is (e.Item u a i) d at = simp append-nil
  reach_is (e.Name u x) d at = refl
  reach_is (e.Num u n) d at = refl
  reach_is (e.Text u n) d at = refl
  reach_is (e.Truth u b) d at = refl
  reach_is (e.Null u) d at = refl
  reach_is (e.This u) d at = refl
  reach_is (e.Unary u op a) d at = refl
  reach_is (e.Binary u op a b) d at = refl
  reach_is (e.Both u a b) d at = refl
  reach_is (e.Either u a b) d at = refl
  reach_is (e.Choice u test a b) d at = refl
  reach_is (e.Set u op x r) d at = refl
  reach_is (e.Bump u x by late) d at = refl
  reach_is (e.Length u a) d at = refl
  reach_is (e.Call u f args) d at = refl
  reach_is (e.SuperCall u f args) d at = refl
  reach_is (e.Make u class args) d at = refl
  reach_is (e.Items u items) d at = refl
  reach_is (e.Handler u f) d at = refl

  arguments_is : (places : List ServicePlace) (args : TypedTrees) (d at : ℕ) → ops_of_all L (opened_arguments L places args d at) ≡ ops_of L (Arguments places args d at)
  arguments_is [] e.none d at = refl
  arguments_is [] (e.more a rest) d at = simp append-nil
  arguments_is (Always n ∷ ps) args d at = simp append-nil
  arguments_is (Written ∷ ps) e.none d at = simp append-nil
  arguments_is (Written ∷ ps) (e.more a rest) d at = simp append-nil

  elements_is : (items : TypedTrees) (d at : ℕ) → ops_of_all L (opened_elements L items d at) ≡ ops_of L (Elements items d at)
  elements_is e.none d at = refl
  elements_is (e.more a rest) d at = simp append-nil

  initial_is : (first : Option TypedTree) (at : ℕ) → ops_of_all L (opened_initial L first at) ≡ initial_code L.classes L.repeating L.params L.base first at
  initial_is None at = refl
  initial_is (Some a) at = simp append-nil

  declarations_is : (each : List TypedDeclaration) (at : ℕ) → ops_of_all L (opened_declarations L each at) ≡ ops_of L (ExpandDeclarations each at)
  declarations_is [] at = refl
  declarations_is (d ∷ rest) at = simp (joined_are, initial_is, append-nil)

  first_is : (first : OptionalTypedStatement) (at next out again : ℕ)
      → ops_of_all L (opened_first L first at next out again) ≡ first_code L.classes L.repeating L.params L.base L.maker first at next out again
  first_is e.omitted at next out again = refl
  first_is (e.written a) at next out again = simp append-nil

  test_is : (test : Option TypedTree) (at next : ℕ) → ops_of_all L (opened_test L test at next) ≡ test_code L.classes L.repeating L.params L.base test at next
  test_is None at next = refl
  test_is (Some a) at next = refl

  step_is : (step : Option TypedTree) (at : ℕ) → ops_of_all L (opened_step L step at) ≡ step_code L.classes L.repeating L.params L.base step at
  step_is None at = refl
  step_is (Some a) at = simp append-nil

  statement_is : (a : TypedStatement) (at next out again : ℕ) → ops_of_all L (opened_statement L a at next out again) ≡ ops_of L (Expand a at next out again)
  statement_is (e.Block all) at next out again = simp append-nil
  statement_is (e.Let fixed each) at next out again = simp append-nil
  statement_is (e.IfOnly test a) at next out again = simp append-nil
  statement_is (e.IfElse test a o) at next out again = simp append-nil
  statement_is (e.While test a) at next out again = refl
  statement_is (e.DoWhile a test) at next out again = refl
  statement_is (e.For first test step a) at next out again = simp (joined_are, first_is, test_is, step_is)
  statement_is (e.ForOf fixed (Local i) list a) at next out again = refl
  statement_is (e.ForOf fixed (Param i) list a) at next out again = refl
  statement_is (e.ForOf fixed (Global g) list a) at next out again = refl
  statement_is (e.Return None) at next out again = puts_are (bare_code L.maker L.base)
  statement_is (e.Return (Some a)) at next out again = simp puts_are
  statement_is e.Break at next out again = refl
  statement_is e.Continue at next out again = refl
  statement_is (e.Plain a) at next out again = simp append-nil
  statement_is e.Empty at next out again = refl

  statements_is : (all : TypedStatements) (at next out again : ℕ) → ops_of_all L (opened_statements L all at next out again) ≡ ops_of L (ExpandAll all at next out again)
  statements_is e.done at next out again = refl
  statements_is (e.also a rest) at next out again = simp append-nil

  pub opened_is : (w : Work) → own_ops L w ++ ops_of_all L (opened L w) ≡ ops_of L w
  opened_is (Put op) = refl
  opened_is (Value a d at next) = value_is a d at next
  opened_is (Reach x d at) = reach_is x d at
  opened_is (Arguments places args d at) = arguments_is places args d at
  opened_is (Elements items d at) = elements_is items d at
  opened_is (Expand a at next out again) = statement_is a at next out again
  opened_is (ExpandAll all at next out again) = statements_is all at next out again
  opened_is (ExpandDeclarations each at) = declarations_is each at
