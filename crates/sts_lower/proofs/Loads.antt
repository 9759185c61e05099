-- How much is left to lower: less, when a piece is opened.
use Rattle.std.proofs.Common.{◌≡◌, ℕ, ◌+◌, ◌-◌, ◌*◌, ◌<◌, ◌≤◌, List, [], ◌∷◌, ◌++◌, length, refl, ap, Bool, true, false, Option, Some, None, arith, lit≤, lit<, ℤ}
use Rattle.flat_ir.specs.declared.ops.Op.{Op}
use Rattle.flat_ir.specs.declared.ops.Op.TheVariants.{Jump}
use Rattle.sts_syntax.specs.declared.typed.Spot.TheVariants.{Param, Local, Global}
use Rattle.sts_syntax.specs.TypedTrees as e
use Rattle.sts_syntax.specs.TypedTrees.{TypedTree, TypedTrees, TypedStatement, TypedStatements, OptionalTypedStatement, TypedDeclaration}
use Rattle.sts_syntax.specs.declared.typed.Callee.{Callee}
use Rattle.sts_syntax.specs.declared.typed.Callee.TheVariants as c
use Rattle.sts_syntax.specs.BoardTable.{BoardAction, Service, Library, Repeats, ServicePlace, Written, Always, row_of, placed}
use Rattle.sts_syntax.specs.Measures.{total, how_many}
use Rattle.sts_syntax.specs.Weights.{weight_of, weights, optional_weight, declared_weight, statement_weight, first_weight, statements_weight}
use Rattle.sts_syntax.proofs.Laws.{weighs, few_places, one_more, places_of as action_places}
use Rattle.sts_lower.specs.Sizes.{initial_size, test_size, statement_size, first_size, Target, ToName, ToField, ToItem, ToNothing, target}
use Rattle.sts_lower.specs.Code.{set_op, handler_of, action_code, call_code, store_code, bump_code}
use Rattle.sts_lower.specs.Statements.{bare_code, return_code}
use Rattle.sts_lower.specs.inner.Works.{Layout, Work, Put, puts, places_in, places_of, passed_by, opened_value, opened_reach, opened_arguments, opened_elements, opened_initial, opened_first, opened_test, opened_step, opened_statement, opened_statements, opened_declarations, opened, Value, Reach, Arguments, Elements, Expand, ExpandAll, ExpandDeclarations}
use Rattle.sts_lower.proofs.Fitted.{sizes_placed}

abbrev pub load_of : Work → ℕ
load_of (Put op) = 1
load_of (Value a d at next) = 16 * weight_of a - 8
load_of (Reach x d at) = 16 * weight_of x
load_of (Arguments places args d at) = 16 * total (placed (λ n. 1) places (weights args)) + length places + 1
load_of (Elements items d at) = 16 * total (weights items) + 1
load_of (Expand a at next out again) = 16 * statement_weight a - 8
load_of (ExpandAll all at next out again) = 16 * statements_weight all + 1
load_of (ExpandDeclarations each at) = 16 * declared_weight each + 1

abbrev pub load : List Work → ℕ
load [] = 0
load (w ∷ ws) = load_of w + load ws

pub load_joined : (vs ws : List Work) → load (vs ++ ws) ≡ load vs + load ws
load_joined [] ws = omega arith
load_joined (v ∷ vs) ws = omega (arith, load_joined vs ws)

load_puts : (ops : List Op) → load (puts ops) ≡ length ops
load_puts [] = refl
load_puts (op ∷ ops) = omega (arith, load_puts ops)

same_places : (action : BoardAction) → places_in action ≡ action_places action
same_places (Service number places) = refl
same_places (Library function) = refl
same_places Repeats = refl

few_in : (f : Callee) → length (places_of f) ≤ 4
few_in (c.Function f) = lit≤ tt
few_in (c.Slot s) = lit≤ tt
few_in c.Push = lit≤ tt
few_in c.Pop = lit≤ tt
few_in (c.Board call) = omega (arith, ap length (same_places (row_of call).action), few_places call)

statement_weighs : (a : TypedStatement) → 1 ≤ statement_weight a
statement_weighs (e.Block all) = omega arith
statement_weighs (e.Let fixed each) = omega arith
statement_weighs (e.IfOnly test a) = omega arith
statement_weighs (e.IfElse test a o) = omega arith
statement_weighs (e.While test a) = omega arith
statement_weighs (e.DoWhile a test) = omega arith
statement_weighs (e.For first test step a) = omega arith
statement_weighs (e.ForOf fixed name list a) = omega arith
statement_weighs (e.Return value) = omega arith
statement_weighs e.Break = lit≤ tt
statement_weighs e.Continue = lit≤ tt
statement_weighs (e.Plain a) = omega arith
statement_weighs e.Empty = lit≤ tt

bare_short : (maker : Bool) (base : ℕ) → length (bare_code maker base) ≤ 2
bare_short true base = lit≤ tt
bare_short false base = lit≤ tt

return_short : (maker : Bool) (base : ℕ) → length (return_code maker base) ≤ 2
return_short true base = lit≤ tt
return_short false base = lit≤ tt

module _ (L : Layout) where
  action_short : (action : BoardAction) (handler d n : ℕ) → length (action_code L.classes L.repeating L.params L.base action handler d n) ≤ 2
  action_short (Service number places) handler d n = lit≤ tt
  action_short (Library function) handler d n = lit≤ tt
  action_short Repeats handler d n = lit≤ tt

  call_short : (f : Callee) (handler d n : ℕ) → length (call_code L.classes L.repeating L.params L.base f handler d n) ≤ 2
  call_short (c.Function f) handler d n = lit≤ tt
  call_short (c.Slot s) handler d n = lit≤ tt
  call_short c.Push handler d n = lit≤ tt
  call_short c.Pop handler d n = lit≤ tt
  call_short (c.Board call) handler d n = action_short (row_of call).action handler d n

  store_short : (x : Target) (d : ℕ) → length (store_code L.classes L.repeating L.params L.base x d) ≤ 2
  store_short (ToName x) d = lit≤ tt
  store_short (ToField f) d = lit≤ tt
  store_short ToItem d = lit≤ tt
  store_short ToNothing d = lit≤ tt

  bump_short : (x : Target) (by : ℤ) (late : Bool) (d : ℕ) → length (bump_code L.classes L.repeating L.params L.base x by late d) ≤ 4
  bump_short (ToName (Param i)) by late d = lit≤ tt
  bump_short (ToName (Local i)) by late d = lit≤ tt
  bump_short (ToName (Global g)) by true d = lit≤ tt
  bump_short (ToName (Global g)) by false d = lit≤ tt
  bump_short (ToField f) by late d = lit≤ tt
  bump_short ToItem by late d = lit≤ tt
  bump_short ToNothing by late d = lit≤ tt

  value_less : (a : TypedTree) (d at next : ℕ) → load (opened_value L a d at next) < load_of (Value a d at next)
  value_less (e.Num u n) d at next = lit< tt
  value_less (e.Text u n) d at next = lit< tt
  value_less (e.Truth u b) d at next = lit< tt
  value_less (e.Null u) d at next = lit< tt
  value_less (e.This u) d at next = lit< tt
  value_less (e.Name u x) d at next = lit< tt
  value_less (e.Unary u op a) d at next = omega (arith, weighs a)
  value_less (e.Binary u op a b) d at next = omega (arith, weighs a, weighs b)
  value_less (e.Both u a b) d at next = omega (arith, weighs a, weighs b)
  value_less (e.Either u a b) d at next = omega (arith, weighs a, weighs b)
  value_less (e.Choice u test a b) d at next = omega (arith, weighs test, weighs a, weighs b)
  value_less (e.Set u None x r) d at next =
      omega (arith, weighs r, load_puts (store_code L.classes L.repeating L.params L.base (target x) d), store_short (target x) d)
  value_less (e.Set u (Some op) x r) d at next =
      omega (arith, weighs r, load_puts (store_code L.classes L.repeating L.params L.base (target x) d), store_short (target x) d)
  value_less (e.Bump u x by late) d at next =
      omega (arith, load_puts (bump_code L.classes L.repeating L.params L.base (target x) by late d), bump_short (target x) by late d)
  value_less (e.Field u a f) d at next = omega (arith, weighs a)
  value_less (e.Length u a) d at next = omega (arith, weighs a)
  value_less (e.Item u a i) d at next = omega (arith, weighs a, weighs i)
  value_less (e.Call u f args) d at next =
      let w = ap total (sizes_placed f (weights args)) in
      let n = passed_by f (how_many args) in
      let k = load_puts (call_code L.classes L.repeating L.params L.base f (handler_of args) d n) in
      omega (arith, w, k, few_in f, call_short f (handler_of args) d n, one_more f)
  value_less (e.SuperCall u f args) d at next = omega arith
  value_less (e.Make u class args) d at next = omega arith
  value_less (e.Items u items) d at next = omega arith
  value_less (e.Handler u f) d at next = lit< tt

  reach_less : (x : TypedTree) (d at : ℕ) → load (opened_reach L x d at) < load_of (Reach x d at)
  reach_less (e.Field u a f) d at = omega (arith, weighs a)
  reach_less (e.Item u a i) d at = omega (arith, weighs a, weighs i)
  reach_less (e.Name u x) d at = lit< tt
  reach_less (e.Num u n) d at = lit< tt
  reach_less (e.Text u n) d at = lit< tt
  reach_less (e.Truth u b) d at = lit< tt
  reach_less (e.Null u) d at = lit< tt
  reach_less (e.This u) d at = lit< tt
  reach_less (e.Unary u op a) d at = omega arith
  reach_less (e.Binary u op a b) d at = omega arith
  reach_less (e.Both u a b) d at = omega arith
  reach_less (e.Either u a b) d at = omega arith
  reach_less (e.Choice u test a b) d at = omega arith
  reach_less (e.Set u op x r) d at = omega (arith, weighs r)
  reach_less (e.Bump u x by late) d at = omega arith
  reach_less (e.Length u a) d at = omega arith
  reach_less (e.Call u f args) d at = omega (arith, one_more f)
  reach_less (e.SuperCall u f args) d at = omega arith
  reach_less (e.Make u class args) d at = omega arith
  reach_less (e.Items u items) d at = omega arith
  reach_less (e.Handler u f) d at = lit< tt

  arguments_less : (places : List ServicePlace) (args : TypedTrees) (d at : ℕ) → load (opened_arguments L places args d at) < load_of (Arguments places args d at)
  arguments_less [] e.none d at = lit< tt
  arguments_less [] (e.more a rest) d at = omega (arith, weighs a)
  arguments_less (Always n ∷ ps) args d at = omega arith
  arguments_less (Written ∷ ps) e.none d at = omega arith
  arguments_less (Written ∷ ps) (e.more a rest) d at = omega (arith, weighs a)

  elements_less : (items : TypedTrees) (d at : ℕ) → load (opened_elements L items d at) < load_of (Elements items d at)
  elements_less e.none d at = lit< tt
  elements_less (e.more a rest) d at = omega (arith, weighs a)

  initial_less : (first : Option TypedTree) (at : ℕ) → load (opened_initial L first at) ≤ 16 * optional_weight first + 1
  initial_less None at = lit≤ tt
  initial_less (Some a) at = omega arith

  declarations_less : (each : List TypedDeclaration) (at : ℕ) → load (opened_declarations L each at) < load_of (ExpandDeclarations each at)
  declarations_less [] at = lit< tt
  declarations_less (d ∷ rest) at =
      omega (arith, load_joined (opened_initial L d.first at) (Put (set_op L.params (L.base + 0) d.name) ∷ (ExpandDeclarations rest (at + initial_size d.first + 1) ∷ [])), initial_less d.first at)

  first_less : (first : OptionalTypedStatement) (at next out again : ℕ) → load (opened_first L first at next out again) ≤ 16 * first_weight first
  first_less e.omitted at next out again = lit≤ tt
  first_less (e.written a) at next out again = omega arith

  test_less : (test : Option TypedTree) (at next : ℕ) → load (opened_test L test at next) ≤ 16 * optional_weight test
  test_less None at next = lit≤ tt
  test_less (Some a) at next = omega (arith, weighs a)

  step_less : (step : Option TypedTree) (at : ℕ) → load (opened_step L step at) ≤ 16 * optional_weight step
  step_less None at = lit≤ tt
  step_less (Some a) at = omega arith

  statement_less : (a : TypedStatement) (at next out again : ℕ) → load (opened_statement L a at next out again) < load_of (Expand a at next out again)
  statement_less (e.Block all) at next out again = omega arith
  statement_less (e.Let fixed each) at next out again = omega arith
  statement_less (e.IfOnly test a) at next out again = omega (arith, weighs test, statement_weighs a)
  statement_less (e.IfElse test a o) at next out again = omega (arith, weighs test, statement_weighs a, statement_weighs o)
  statement_less (e.While test a) at next out again = omega (arith, weighs test, statement_weighs a)
  statement_less (e.DoWhile a test) at next out again = omega (arith, weighs test, statement_weighs a)
  statement_less (e.For first test step a) at next out again =
      let loop = at + first_size L.maker first in
      let body = loop + test_size test in
      let turn = body + statement_size L.maker a in
      let last = Put (Jump loop) ∷ [] in
      let does = Expand a body turn next turn ∷ (opened_step L step turn ++ last) in
      omega (
        arith,
        load_joined (opened_first L first at loop out again) (opened_test L test loop next ++ does),
        load_joined (opened_test L test loop next) does,
        load_joined (opened_step L step turn) last,
        first_less first at loop out again,
        test_less test loop next,
        step_less step turn,
        statement_weighs a,
      )
  statement_less (e.ForOf fixed (Local i) list a) at next out again = omega (arith, weighs list, statement_weighs a)
  statement_less (e.ForOf fixed (Param i) list a) at next out again = omega arith
  statement_less (e.ForOf fixed (Global g) list a) at next out again = omega arith
  statement_less (e.Return None) at next out again = omega (arith, load_puts (bare_code L.maker L.base), bare_short L.maker L.base)
  statement_less (e.Return (Some a)) at next out again = omega (arith, weighs a, load_puts (return_code L.maker L.base), return_short L.maker L.base)
  statement_less e.Break at next out again = lit< tt
  statement_less e.Continue at next out again = lit< tt
  statement_less (e.Plain a) at next out again = omega (arith, weighs a)
  statement_less e.Empty at next out again = lit< tt

  statements_less : (all : TypedStatements) (at next out again : ℕ) → load (opened_statements L all at next out again) < load_of (ExpandAll all at next out again)
  statements_less e.done at next out again = lit< tt
  statements_less (e.also a rest) at next out again = omega (arith, statement_weighs a)

  pub opened_less : (w : Work) → load (opened L w) < load_of w
  opened_less (Put op) = lit< tt
  opened_less (Value a d at next) = value_less a d at next
  opened_less (Reach x d at) = reach_less x d at
  opened_less (Arguments places args d at) = arguments_less places args d at
  opened_less (Elements items d at) = elements_less items d at
  opened_less (Expand a at next out again) = statement_less a at next out again
  opened_less (ExpandAll all at next out again) = statements_less all at next out again
  opened_less (ExpandDeclarations each at) = declarations_less each at
