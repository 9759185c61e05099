-- What the ops of a tree cost at most.
use Rattle.std.proofs.Common.{◌≡◌, ℕ, zero, suc, ◌+◌, ◌*◌, ◌≤◌, List, [], ◌∷◌, ◌++◌, length, Option, Some, None, Bool, true, false, arith}
use Rattle.std.specs.Prelude.{ℤ, pos}
use Rattle.flat_ir.specs.declared.ops.Op.{Op}
use Rattle.flat_ir.specs.declared.ops.Op.TheVariants as o
use Rattle.sts_syntax.specs.declared.typed.Spot.{Spot}
use Rattle.sts_syntax.specs.declared.typed.Spot.TheVariants.{Param, Local, Global}
use Rattle.sts_syntax.specs.declared.typed.Callee.TheVariants as c
use Rattle.sts_syntax.specs.declared.typed.Callee.{Callee}
use Rattle.sts_syntax.specs.TypedTrees as e
use Rattle.sts_syntax.specs.TypedTrees.{TypedTree, TypedTrees, TypedStatement, TypedStatements, OptionalTypedStatement, TypedDeclaration, ClassEntry, TypedRoutine, TypedProgram}
use Rattle.sts_syntax.specs.BoardTable.{ServicePlace, Written, Always, BoardAction, Service, Library, Repeats, row_of, placed, arranged}
use Rattle.sts_syntax.specs.Measures.{total, argument_sizes}
use Rattle.sts_syntax.specs.Weights.{call_weight, set_weight, weight_of, weights, optional_weight, declared_weight, statement_weight, first_weight, statements_weight, weight, repeating_weight}
use Rattle.sts_syntax.specs.WellTypedPrograms.{is_maker}
use Rattle.sts_lower.specs.Lowered.{routine_ops, repeating, repeating_ops}
use Rattle.sts_lower.specs.Sizes.{Target, ToName, ToField, ToItem, ToNothing, target, size, reach_size, initial_size, test_size, statement_size, statements_size, first_size, item_size}
use Rattle.sts_lower.specs.Code as l
use Rattle.sts_lower.specs.Code.{Part, span, handler_of, maker_of}
use Rattle.sts_lower.specs.Statements as s
use Rattle.sts_lower.specs.Statements.{behind, bare_code, return_code}
use Rattle.lowered_code.specs.Costs.{cost, Costs, EntryCosts}

module _ (m : Op → ℕ) (k room : ℕ) (h : Costs m k room) where
  both : (a b : List Op) → cost m (a ++ b) ≡ cost m a + cost m b
  both [] b = omega arith
  both (op ∷ a) b = omega (arith, both a b)

  module _ (classes : List ClassEntry) (repeating : ℕ → ℕ) (params base : ℕ) where
    abbrev cd : TypedTree → (d at next : ℕ) → List Op
    cd a d at next = l.code classes repeating params base a d at next

    get_cost : (to : ℕ) (x : Spot) → m (l.get_op params to x) + room ≤ k
    get_cost to (Param i) = h.copy to i
    get_cost to (Local i) = h.copy to (params + i)
    get_cost to (Global g) = h.global to g

    set_cost : (from : ℕ) (x : Spot) → m (l.set_op params from x) + room ≤ k
    set_cost from (Param i) = h.copy i from
    set_cost from (Local i) = h.copy (params + i) from
    set_cost from (Global g) = h.set_global g from

    declare_cost : (to from : ℕ) (x : Spot) → m (o.Const to (pos 0)) + m (l.set_op params from x) ≤ k
    declare_cost to from (Param i) = h.declared to (pos 0) i from
    declare_cost to from (Local i) = h.declared to (pos 0) (params + i) from
    declare_cost to from (Global g) = h.declared_global to (pos 0) g from

    -- a store, and what is read and stored: a target counts one by itself
    store_cost : (t : Target) (d : ℕ) → cost m (l.store_code classes repeating params base t d) + room ≤ 2 * k
    store_cost (ToName x) d = omega (arith, set_cost (base + d) x)
    store_cost (ToField f) d = omega (arith, h.set_field (base + d) f (base + suc d) (base + d) (base + suc d))
    store_cost ToItem d = omega (arith, h.set_item (base + d) (base + suc d) (base + suc (suc d)) (base + d) (base + suc (suc d)))
    store_cost ToNothing d = omega (arith, h.copy 0 0)

    read_cost : (t : Target) (d : ℕ) → m (l.read_code classes repeating params base t d) + room ≤ k
    read_cost (ToName x) d = get_cost (base + d) x
    read_cost (ToField f) d = h.field (base + suc d) (base + d) f
    read_cost ToItem d = h.item (base + suc (suc d)) (base + d) (base + suc d)
    read_cost ToNothing d = h.number (base + d) (pos 0)

    bumped_cost : (by : ℤ) (late : Bool) (to from : ℕ) → m (l.bumped_op by late to from) + room ≤ k
    bumped_cost by true to from = h.unary to (l.unbump_op by) from
    bumped_cost by false to from = h.copy to from

    bumped_field : (by : ℤ) (late : Bool) (object f from to value : ℕ) → m (o.FieldSet object f from) + m (l.bumped_op by late to value) + room ≤ 2 * k
    bumped_field by true object f from to value = h.bump_field object f from to (l.unbump_op by) value
    bumped_field by false object f from to value = h.set_field object f from to value

    bumped_item : (by : ℤ) (late : Bool) (array index from to value : ℕ) → m (o.ItemSet array index from) + m (l.bumped_op by late to value) + room ≤ 2 * k
    bumped_item by true array index from to value = h.bump_item array index from to (l.unbump_op by) value
    bumped_item by false array index from to value = h.set_item array index from to value

    bump_cost : (t : Target) (by : ℤ) (late : Bool) (d : ℕ) → cost m (l.bump_code classes repeating params base t by late d) + room ≤ 4 * k
    bump_cost (ToName (Param i)) by late d = omega (arith, h.unary i (l.bump_op by) i, bumped_cost by late (base + d) i)
    bump_cost (ToName (Local i)) by late d = omega (arith, h.unary (params + i) (l.bump_op by) (params + i), bumped_cost by late (base + d) (params + i))
    bump_cost (ToName (Global g)) by true d = omega (arith, h.global (base + d) g, h.unary (base + d) (l.bump_op by) (base + d), h.set_global g (base + d), h.unary (base + d) (l.unbump_op by) (base + d))
    bump_cost (ToName (Global g)) by false d = omega (arith, h.global (base + d) g, h.unary (base + d) (l.bump_op by) (base + d), h.set_global g (base + d))
    bump_cost (ToField f) by late d = omega (arith, h.field (base + suc d) (base + d) f, h.unary (base + suc d) (l.bump_op by) (base + suc d), bumped_field by late (base + d) f (base + suc d) (base + d) (base + suc d))
    bump_cost ToItem by late d =
        omega (arith, h.item (base + suc (suc d)) (base + d) (base + suc d), h.unary (base + suc (suc d)) (l.bump_op by) (base + suc (suc d)), bumped_item by late (base + d) (base + suc d) (base + suc (suc d)) (base + d) (base + suc (suc d)))
    bump_cost ToNothing by late d = omega (arith, h.number (base + d) (pos 0))

    -- parts that cost no more than weights, and leave room each
    pub record Fits (q : Part) (w : ℕ) : Type 0 where
      pub fits : (d at : ℕ) → cost m (q.ops d at) + room ≤ k * w

    abbrev pub AllFit : List Part → List ℕ → Type 0
    AllFit [] [] = Unit {0}
    AllFit (q ∷ qs) (w ∷ ws) = Fits q w × AllFit qs ws
    AllFit [] (w ∷ ws) = ⊥
    AllFit (q ∷ qs) [] = ⊥

    times_two : (x y : ℕ) → k * (x + y) ≡ k * x + k * y
    times_two x y = grind arith

    room_more : (n : ℕ) → room * suc n ≡ room * n + room
    room_more n = grind arith

    parts_cost : (qs : List Part) (ws : List ℕ) (d at : ℕ) → AllFit qs ws → cost m (l.parts_code classes repeating params base qs d at) + room * length qs ≤ k * total ws
    parts_cost [] [] d at f = omega arith
    parts_cost (q ∷ qs) (w ∷ ws) d at f =
        omega (arith, both (q.ops d at) (l.parts_code classes repeating params base qs (suc d) (at + q.size)), f.0.fits d at, parts_cost qs ws (suc d) (at + q.size) f.1, times_two w (total ws), room_more (length qs))
    parts_cost [] (w ∷ ws) d at f = absurd f
    parts_cost (q ∷ qs) [] d at f = absurd f

    items_cost : (qs : List Part) (ws : List ℕ) (d at : ℕ) → AllFit qs ws → cost m (l.items_code classes repeating params base qs d at) ≤ k * total ws
    items_cost [] [] d at f = omega arith
    items_cost (q ∷ qs) (w ∷ ws) d at f =
        omega (
          arith,
          both (q.ops (suc d) at) (o.Ask (base + suc d) 19 ((base + d) ∷ ((base + suc d) ∷ [])) ∷ l.items_code classes repeating params base qs d (at + q.size + 1)),
          f.0.fits (suc d) at,
          h.append (base + suc d) (base + d) (base + suc d),
          items_cost qs ws d (at + q.size + 1) f.1,
          times_two w (total ws),
        )
    items_cost [] (w ∷ ws) d at f = absurd f
    items_cost (q ∷ qs) [] d at f = absurd f

    number_fits : (n : ℤ) → Fits (l.number_part classes repeating params base n) 1
    number_fits n = record { fits = λ d at. omega (arith, h.number (base + d) n) }

    placed_fit : (places : List ServicePlace) (qs : List Part) (ws : List ℕ) → AllFit qs ws → AllFit (placed (l.number_part classes repeating params base) places qs) (placed (λ n. 1) places ws)
    placed_fit [] qs ws f = f
    placed_fit (Written ∷ places) [] [] f = placed_fit places [] [] tt
    placed_fit (Written ∷ places) (q ∷ qs) (w ∷ ws) f = (f.0, placed_fit places qs ws f.1)
    placed_fit (Always n ∷ places) qs ws f = (number_fits n, placed_fit places qs ws f)
    placed_fit (Written ∷ places) [] (w ∷ ws) f = absurd f
    placed_fit (Written ∷ places) (q ∷ qs) [] f = absurd f

    arranged_fit : (action : BoardAction) (qs : List Part) (ws : List ℕ) → AllFit qs ws → AllFit (arranged (l.number_part classes repeating params base) action qs) (arranged (λ n. 1) action ws)
    arranged_fit (Service n places) qs ws f = placed_fit places qs ws f
    arranged_fit (Library g) qs ws f = f
    arranged_fit Repeats qs ws f = f

    arguments_fit : (f : Callee) (qs : List Part) (ws : List ℕ) → AllFit qs ws → AllFit (l.arguments classes repeating params base f qs) (argument_sizes 1 f ws)
    arguments_fit (c.Board call) qs ws f = arranged_fit (row_of call).action qs ws f
    arguments_fit (c.Function g) qs ws f = f
    arguments_fit (c.Slot g) qs ws f = f
    arguments_fit c.Push qs ws f = f
    arguments_fit c.Pop qs ws f = f

    action_cost : (action : BoardAction) (g d n : ℕ) → cost m (l.action_code classes repeating params base action g d n) + room ≤ k + room * n
    action_cost (Service number places) g d n = omega (arith, h.ask (base + d) number (base + d) n)
    action_cost (Library f) g d n = omega (arith, h.number (base + d) (pos 0))
    action_cost Repeats g d n = omega (arith, h.spawn (base + d) (repeating g) (base + d) (base + d))

    call_cost : (f : Callee) (g d n : ℕ) → cost m (l.call_code classes repeating params base f g d n) + room ≤ k * call_weight f + room * n
    call_cost (c.Board call) g d n = omega (arith, action_cost (row_of call).action g d n)
    call_cost (c.Function f) g d n = omega (arith, h.call (base + d) f (base + d) n)
    call_cost (c.Slot f) g d n = omega (arith, h.slot (base + d) f (base + d) n)
    call_cost c.Push g d n = omega (arith, h.ask (base + d) 19 (base + d) n)
    call_cost c.Pop g d n = omega (arith, h.pop (base + d) (base + d))

    times_one : (x : ℕ) → k * (1 + x) ≡ k + k * x
    times_one x = grind arith

    times_sum : (a x y : ℕ) → k * (a + x + y) ≡ k * a + k * x + k * y
    times_sum a x y = grind arith

    call_weight_positive : (f : Callee) → 1 ≤ call_weight f
    call_weight_positive (c.Function f) = omega arith
    call_weight_positive (c.Slot f) = omega arith
    call_weight_positive c.Push = omega arith
    call_weight_positive c.Pop = omega arith
    call_weight_positive (c.Board call) = omega arith

    set_weight_positive : (op : Option ℕ) → 1 ≤ set_weight op
    set_weight_positive None = omega arith
    set_weight_positive (Some op) = omega arith

    weight_positive : (a : TypedTree) → 1 ≤ weight_of a
    weight_positive (e.Num u n) = omega arith
    weight_positive (e.Text u n) = omega arith
    weight_positive (e.Truth u n) = omega arith
    weight_positive (e.Null u) = omega arith
    weight_positive (e.This u) = omega arith
    weight_positive (e.Name u x) = omega arith
    weight_positive (e.Unary u op a) = omega arith
    weight_positive (e.Binary u op a b) = omega arith
    weight_positive (e.Both u a b) = omega arith
    weight_positive (e.Either u a b) = omega arith
    weight_positive (e.Choice u test a b) = omega arith
    weight_positive (e.Set u op x r) = omega (arith, set_weight_positive op)
    weight_positive (e.Bump u x by late) = omega arith
    weight_positive (e.Field u a f) = omega arith
    weight_positive (e.Length u a) = omega arith
    weight_positive (e.Item u a b) = omega arith
    weight_positive (e.Call u f args) = omega (arith, call_weight_positive f)
    weight_positive (e.SuperCall u f args) = omega arith
    weight_positive (e.Make u g args) = omega arith
    weight_positive (e.Items u items) = omega arith
    weight_positive (e.Handler u f) = omega arith

    at_least : (w : ℕ) → 1 ≤ w → k ≤ k * w
    at_least zero le = omega arith
    at_least (suc w) le = let e : k * suc w ≡ k * w + k = grind arith in omega arith

    bare_reach : (x : TypedTree) → 0 + k ≤ k * weight_of x
    bare_reach x = omega (arith, at_least (weight_of x) (weight_positive x))

    mutual
      pub code_cost : (a : TypedTree) (d at next : ℕ) → cost m (cd a d at next) + room ≤ k * weight_of a
      code_cost (e.Num u n) d at next = omega (arith, h.number (base + d) n)
      code_cost (e.Text u n) d at next = omega (arith, h.text (base + d) n)
      code_cost (e.Truth u n) d at next = omega (arith, h.number (base + d) (l.truth_number n))
      code_cost (e.Null u) d at next = omega (arith, h.number (base + d) (pos 0))
      code_cost (e.This u) d at next = omega (arith, h.copy (base + d) 0)
      code_cost (e.Name u x) d at next = omega (arith, get_cost (base + d) x)
      code_cost (e.Handler u f) d at next = omega (arith, h.handler (base + d) f)
      code_cost (e.Unary u op a) d at next =
          omega (arith, both (cd a d at (at + size a)) (o.Unary (base + d) op (base + d) ∷ []), h.unary (base + d) op (base + d), code_cost a d at (at + size a), times_one (weight_of a))
      code_cost (e.Binary u op a b) d at next =
          omega (
            arith,
            both (cd a d at (at + size a)) (cd b (suc d) (at + size a) (at + size a + size b) ++ o.Binary (base + d) op (base + d) (base + suc d) ∷ []),
            both (cd b (suc d) (at + size a) (at + size a + size b)) (o.Binary (base + d) op (base + d) (base + suc d) ∷ []),
            h.binary (base + d) op (base + d) (base + suc d),
            code_cost a d at (at + size a),
            code_cost b (suc d) (at + size a) (at + size a + size b),
            times_sum 1 (weight_of a) (weight_of b),
          )
      code_cost (e.Both u a b) d at next =
          omega (
            arith,
            both (cd a d at (at + size a)) (o.Branch (base + d) (at + size a + 1 + 1) ∷ (o.Jump next ∷ cd b d (at + size a + 1 + 1) next)),
            h.branches (base + d) (at + size a + 1 + 1) next,
            code_cost a d at (at + size a),
            code_cost b d (at + size a + 1 + 1) next,
            times_sum 1 (weight_of a) (weight_of b),
          )
      code_cost (e.Either u a b) d at next =
          omega (arith, both (cd a d at (at + size a)) (o.Branch (base + d) next ∷ cd b d (at + size a + 1) next), h.branches (base + d) next next, code_cost a d at (at + size a), code_cost b d (at + size a + 1) next, times_sum 1 (weight_of a) (weight_of b))
      code_cost (e.Choice u test a b) d at next =
          let pb = at + size test + 1 in
          let pa = at + size test + 1 + size b + 1 in
          let three : k * (1 + weight_of test + weight_of a + weight_of b) ≡ k + k * weight_of test + k * weight_of a + k * weight_of b = grind arith in
          omega (
            arith,
            both (cd test d at (at + size test)) (o.Branch (base + d) pa ∷ (cd b d pb next ++ (o.Jump next ∷ cd a d pa next))),
            both (cd b d pb next) (o.Jump next ∷ cd a d pa next),
            h.branches (base + d) pa next,
            code_cost test d at (at + size test),
            code_cost b d pb next,
            code_cost a d pa next,
            three,
          )
      code_cost (e.Set u None x r) d at next =
          let pr = at + reach_size x in
          let v = l.stored_at classes repeating params base (target x) d in
          omega (
            arith,
            both (l.reach_code classes repeating params base x d at) (cd r v pr (pr + size r) ++ l.store_code classes repeating params base (target x) d),
            both (cd r v pr (pr + size r)) (l.store_code classes repeating params base (target x) d),
            reach_cost x d at,
            code_cost r v pr (pr + size r),
            store_cost (target x) d,
            times_sum 1 (weight_of x) (weight_of r),
          )
      code_cost (e.Set u (Some op) x r) d at next =
          let pr = at + reach_size x in
          let v = l.stored_at classes repeating params base (target x) d in
          let last = o.Binary (base + v) op (base + v) (base + suc v) ∷ l.store_code classes repeating params base (target x) d in
          omega (
            arith,
            both (l.reach_code classes repeating params base x d at) (l.read_code classes repeating params base (target x) d ∷ (cd r (suc v) (pr + 1) (pr + 1 + size r) ++ last)),
            both (cd r (suc v) (pr + 1) (pr + 1 + size r)) last,
            reach_cost x d at,
            code_cost r (suc v) (pr + 1) (pr + 1 + size r),
            read_cost (target x) d,
            h.binary (base + v) op (base + v) (base + suc v),
            store_cost (target x) d,
            times_sum 3 (weight_of x) (weight_of r),
          )
      code_cost (e.Bump u x by late) d at next =
          let four : k * (3 + weight_of x) ≡ 3 * k + k * weight_of x = grind arith in
          omega (arith, both (l.reach_code classes repeating params base x d at) (l.bump_code classes repeating params base (target x) by late d), reach_cost x d at, bump_cost (target x) by late d, four)
      code_cost (e.Field u a f) d at next = omega (arith, both (cd a d at (at + size a)) (o.FieldGet (base + d) (base + d) f ∷ []), h.field (base + d) (base + d) f, code_cost a d at (at + size a), times_one (weight_of a))
      code_cost (e.Length u a) d at next = omega (arith, both (cd a d at (at + size a)) (o.Length (base + d) (base + d) ∷ []), h.length (base + d) (base + d), code_cost a d at (at + size a), times_one (weight_of a))
      code_cost (e.Item u a b) d at next =
          omega (
            arith,
            both (cd a d at (at + size a)) (cd b (suc d) (at + size a) (at + size a + size b) ++ o.ItemGet (base + d) (base + d) (base + suc d) ∷ []),
            both (cd b (suc d) (at + size a) (at + size a + size b)) (o.ItemGet (base + d) (base + d) (base + suc d) ∷ []),
            h.item (base + d) (base + d) (base + suc d),
            code_cost a d at (at + size a),
            code_cost b (suc d) (at + size a) (at + size a + size b),
            times_sum 1 (weight_of a) (weight_of b),
          )
      code_cost (e.Call u f args) d at next =
          let all = l.arguments classes repeating params base f (l.parts classes repeating params base args) in
          let fit = arguments_fit f (l.parts classes repeating params base args) (weights args) (parts_fit args) in
          omega (
            arith,
            both (l.parts_code classes repeating params base all d at) (l.call_code classes repeating params base f (handler_of args) d (length all)),
            parts_cost all (argument_sizes 1 f (weights args)) d at fit,
            call_cost f (handler_of args) d (length all),
            times_two (call_weight f) (total (argument_sizes 1 f (weights args))),
          )
      code_cost (e.SuperCall u f args) d at next =
          let all = l.parts classes repeating params base args in
          let last = o.Call (base + d) f (span (base + d) (suc (length all)) []) ∷ [] in
          omega (arith, both (l.parts_code classes repeating params base all (suc d) (at + 1)) last, parts_cost all (weights args) (suc d) (at + 1) (parts_fit args), h.super (base + d) f (base + d) (length all), times_one (total (weights args)))
      code_cost (e.Make u g args) d at next =
          let all = l.parts classes repeating params base args in
          let last = o.MakeObject (base + (length all + d)) g ∷ (o.Call (base + d) (maker_of classes g) ((base + (length all + d)) ∷ span (base + d) (length all) []) ∷ []) in
          let four : k * (3 + total (weights args)) ≡ 3 * k + k * total (weights args) = grind arith in
          omega (arith, both (l.parts_code classes repeating params base all d at) last, parts_cost all (weights args) d at (parts_fit args), h.make (base + (length all + d)) g (base + d) (maker_of classes g) (base + (length all + d)) (base + d) (length all), four)
      code_cost (e.Items u items) d at next =
          let all = l.parts classes repeating params base items in
          let three : k * (2 + total (weights items)) ≡ 2 * k + k * total (weights items) = grind arith in
          omega (arith, items_cost all (weights items) d (at + 1) (parts_fit items), h.array (base + d) (length all), three)

      parts_fit : (args : TypedTrees) → AllFit (l.parts classes repeating params base args) (weights args)
      parts_fit e.none = tt
      parts_fit (e.more a rest) = (record { fits = λ d at. code_cost a d at (at + size a) }, parts_fit rest)

      -- a target counts one beside what is evaluated of it
      reach_cost : (x : TypedTree) (d at : ℕ) → cost m (l.reach_code classes repeating params base x d at) + k ≤ k * weight_of x
      reach_cost (e.Field u a f) d at = omega (arith, code_cost a d at (at + size a), times_one (weight_of a))
      reach_cost (e.Item u a b) d at =
          omega (arith, both (cd a d at (at + size a)) (cd b (suc d) (at + size a) (at + size a + size b)), code_cost a d at (at + size a), code_cost b (suc d) (at + size a) (at + size a + size b), times_sum 1 (weight_of a) (weight_of b))
      reach_cost (e.Name u x) d at = bare_reach (e.Name u x)
      reach_cost (e.Num u n) d at = bare_reach (e.Num u n)
      reach_cost (e.Text u n) d at = bare_reach (e.Text u n)
      reach_cost (e.Truth u n) d at = bare_reach (e.Truth u n)
      reach_cost (e.Null u) d at = bare_reach (e.Null u)
      reach_cost (e.This u) d at = bare_reach (e.This u)
      reach_cost (e.Unary u op a) d at = bare_reach (e.Unary u op a)
      reach_cost (e.Binary u op a b) d at = bare_reach (e.Binary u op a b)
      reach_cost (e.Both u a b) d at = bare_reach (e.Both u a b)
      reach_cost (e.Either u a b) d at = bare_reach (e.Either u a b)
      reach_cost (e.Choice u t a b) d at = bare_reach (e.Choice u t a b)
      reach_cost (e.Set u op x r) d at = bare_reach (e.Set u op x r)
      reach_cost (e.Bump u x by late) d at = bare_reach (e.Bump u x by late)
      reach_cost (e.Length u a) d at = bare_reach (e.Length u a)
      reach_cost (e.Call u f args) d at = bare_reach (e.Call u f args)
      reach_cost (e.SuperCall u f args) d at = bare_reach (e.SuperCall u f args)
      reach_cost (e.Make u g args) d at = bare_reach (e.Make u g args)
      reach_cost (e.Items u items) d at = bare_reach (e.Items u items)
      reach_cost (e.Handler u f) d at = bare_reach (e.Handler u f)

    initial_cost : (first : Option TypedTree) (at : ℕ) (x : Spot) → cost m (s.initial_code classes repeating params base first at) + m (l.set_op params (base + 0) x) ≤ k + k * optional_weight first
    initial_cost None at x = omega (arith, declare_cost (base + 0) (base + 0) x)
    initial_cost (Some a) at x = omega (arith, code_cost a 0 at (at + size a), set_cost (base + 0) x)

    declared_cost : (ds : List TypedDeclaration) (at : ℕ) → cost m (s.declared_code classes repeating params base ds at) ≤ k * declared_weight ds
    declared_cost [] at = omega arith
    declared_cost (d ∷ ds) at =
        omega (
          arith,
          both (s.initial_code classes repeating params base d.first at) (l.set_op params (base + 0) d.name ∷ s.declared_code classes repeating params base ds (at + initial_size d.first + 1)),
          initial_cost d.first at d.name,
          declared_cost ds (at + initial_size d.first + 1),
          times_sum 1 (optional_weight d.first) (declared_weight ds),
        )

    -- a test of a `for`, and the jump that turns it back
    test_cost : (t : Option TypedTree) (at next back : ℕ) → cost m (s.test_code classes repeating params base t at next) + m (o.Jump back) ≤ k + k * optional_weight t
    test_cost None at next back = omega (arith, h.turns 0 0 next back)
    test_cost (Some a) at next back =
        omega (arith, both (cd a 0 at (at + size a)) (o.Branch (base + 0) (at + size a + 1 + 1) ∷ (o.Jump next ∷ [])), code_cost a 0 at (at + size a), h.turns (base + 0) (at + size a + 1 + 1) next back)

    step_cost : (t : Option TypedTree) (at : ℕ) → cost m (s.step_code classes repeating params base t at) ≤ k * optional_weight t
    step_cost None at = omega arith
    step_cost (Some a) at = omega (arith, code_cost a 0 at (at + size a))

    module _ (maker : Bool) where
      abbrev sc : TypedStatement → (at next out again : ℕ) → List Op
      sc a at next out again = s.statement_code classes repeating params base maker a at next out again

      pub bare_cost : (b : Bool) → cost m (bare_code b base) ≤ k
      bare_cost true = omega (arith, h.gives_object (base + 0) 0 (base + 0))
      bare_cost false = omega (arith, h.gives_number (base + 0) (pos 0) (base + 0))

      return_cost : (b : Bool) → cost m (return_code b base) ≤ k
      return_cost true = omega (arith, h.gives_object (base + 0) 0 (base + 0))
      return_cost false = omega (arith, h.gives (base + 0))

      one_jump : (next w : ℕ) → 1 ≤ w → m (o.Jump next) + 0 ≤ k * w
      one_jump next w le = omega (arith, h.branches 0 0 next, at_least w le)

      mutual
        pub statement_cost : (a : TypedStatement) (at next out again : ℕ) → cost m (sc a at next out again) ≤ k * statement_weight a
        statement_cost (e.Block all) at next out again = omega (arith, statements_cost all at next out again, times_one (statements_weight all))
        statement_cost (e.Let fixed each) at next out again = omega (arith, declared_cost each at, times_one (declared_weight each))
        statement_cost (e.IfOnly test a) at next out again =
            let pa = at + size test + 1 + 1 in
            omega (arith, both (cd test 0 at (at + size test)) (o.Branch (base + 0) pa ∷ (o.Jump next ∷ sc a pa next out again)), code_cost test 0 at (at + size test), h.branches (base + 0) pa next, statement_cost a pa next out again, times_sum 1 (weight_of test) (statement_weight a))
        statement_cost (e.IfElse test a other) at next out again =
            let po = at + size test + 1 in
            let pa = at + size test + 1 + statement_size maker other + 1 in
            let three : k * (1 + weight_of test + statement_weight a + statement_weight other) ≡ k + k * weight_of test + k * statement_weight a + k * statement_weight other = grind arith in
            omega (
              arith,
              both (cd test 0 at (at + size test)) (o.Branch (base + 0) pa ∷ (sc other po next out again ++ (o.Jump next ∷ sc a pa next out again))),
              both (sc other po next out again) (o.Jump next ∷ sc a pa next out again),
              code_cost test 0 at (at + size test),
              h.branches (base + 0) pa next,
              statement_cost a pa next out again,
              statement_cost other po next out again,
              three,
            )
        statement_cost (e.While test a) at next out again =
            let pa = at + size test + 1 + 1 in
            let turn = at + size test + 1 + 1 + statement_size maker a in
            omega (
              arith,
              both (cd test 0 at (at + size test)) (o.Branch (base + 0) pa ∷ (o.Jump next ∷ (sc a pa turn next turn ++ o.Jump at ∷ []))),
              both (sc a pa turn next turn) (o.Jump at ∷ []),
              code_cost test 0 at (at + size test),
              h.turns (base + 0) pa next at,
              statement_cost a pa turn next turn,
              times_sum 1 (weight_of test) (statement_weight a),
            )
        statement_cost (e.DoWhile a test) at next out again =
            let turn = at + statement_size maker a in
            let last = o.Branch (base + 0) (turn + size test + 1 + 1) ∷ (o.Jump next ∷ (o.Jump at ∷ [])) in
            omega (
              arith,
              both (sc a at turn next turn) (cd test 0 turn (turn + size test) ++ last),
              both (cd test 0 turn (turn + size test)) last,
              code_cost test 0 turn (turn + size test),
              h.turns (base + 0) (turn + size test + 1 + 1) next at,
              statement_cost a at turn next turn,
              times_sum 1 (statement_weight a) (weight_of test),
            )
        statement_cost (e.For first test step a) at next out again =
            let loop = at + first_size maker first in
            let body = loop + test_size test in
            let turn = body + statement_size maker a in
            let rest = s.step_code classes repeating params base step turn ++ o.Jump loop ∷ [] in
            let four : k * (1 + first_weight first + optional_weight test + optional_weight step + statement_weight a) ≡ k + k * first_weight first + k * optional_weight test + k * optional_weight step + k * statement_weight a = grind arith in
            omega (
              arith,
              both (s.first_code classes repeating params base maker first at loop out again) (s.test_code classes repeating params base test loop next ++ (sc a body turn next turn ++ rest)),
              both (s.test_code classes repeating params base test loop next) (sc a body turn next turn ++ rest),
              both (sc a body turn next turn) rest,
              both (s.step_code classes repeating params base step turn) (o.Jump loop ∷ []),
              first_cost first at loop out again,
              test_cost test loop next loop,
              step_cost step turn,
              statement_cost a body turn next turn,
              four,
            )
        statement_cost (e.ForOf fixed (Local i) list a) at next out again =
            let turn = at + size list + 1 + 1 + 1 in
            let pa = turn + item_size in
            let tl = params + suc i in
            let ti = params + suc (suc i) in
            let last = sc a pa turn next turn ++ o.Jump turn ∷ [] in
            let five : k * (4 + weight_of list + statement_weight a) ≡ 4 * k + k * weight_of list + k * statement_weight a = grind arith in
            omega (
              arith,
              both (cd list 0 at (at + size list)) (o.Copy tl (base + 0) ∷ (o.Const (base + 0) (pos 0) ∷ (o.Copy ti (base + 0) ∷ (s.item_code classes repeating params base i turn next ++ last)))),
              both (s.item_code classes repeating params base i turn next) last,
              both (sc a pa turn next turn) (o.Jump turn ∷ []),
              code_cost list 0 at (at + size list),
              h.loop tl ti (base + 0) (turn + 1 + 1 + 1 + 1) next (params + i) turn (pos 0),
              statement_cost a pa turn next turn,
              five,
            )
        statement_cost (e.ForOf fixed (Param i) list a) at next out again = one_jump next (4 + weight_of list + statement_weight a) (omega arith)
        statement_cost (e.ForOf fixed (Global g) list a) at next out again = one_jump next (4 + weight_of list + statement_weight a) (omega arith)
        statement_cost (e.Return None) at next out again = omega (arith, bare_cost maker)
        statement_cost (e.Return (Some a)) at next out again = omega (arith, both (cd a 0 at (at + size a)) (return_code maker base), code_cost a 0 at (at + size a), return_cost maker, times_one (weight_of a))
        statement_cost e.Break at next out again = omega (arith, h.branches 0 0 out)
        statement_cost e.Continue at next out again = omega (arith, h.branches 0 0 again)
        statement_cost (e.Plain a) at next out again = omega (arith, code_cost a 0 at next, times_one (weight_of a))
        statement_cost e.Empty at next out again = omega arith

        first_cost : (f : OptionalTypedStatement) (at next out again : ℕ) → cost m (s.first_code classes repeating params base maker f at next out again) ≤ k * first_weight f
        first_cost e.omitted at next out again = omega arith
        first_cost (e.written a) at next out again = statement_cost a at next out again

        pub statements_cost : (all : TypedStatements) (at next out again : ℕ) → cost m (s.statements_code classes repeating params base maker all at next out again) ≤ k * statements_weight all
        statements_cost e.done at next out again = omega arith
        statements_cost (e.also a rest) at next out again =
            let p2 = at + statement_size maker a in
            let n = behind (statements_size maker rest) p2 next in
            omega (arith, both (sc a at n out again) (s.statements_code classes repeating params base maker rest p2 next out again), statement_cost a at n out again, statements_cost rest p2 next out again, times_two (statement_weight a) (statements_weight rest))

-- a whole function: its ops and its entry cost at most its weight
pub routine_cost : (m : Op → ℕ) (k room entry : ℕ) → Costs m k room → EntryCosts m k entry → (P : TypedProgram) (f : ℕ) (r : TypedRoutine) → cost m (routine_ops P f r) + entry ≤ k * weight r
routine_cost m k room entry h g P f r =
    let mk = is_maker P.classes f in
    let base = length r.params + length r.locals in
    let end = statements_size mk r.all in
    let times : k * (4 + statements_weight r.all) ≡ 4 * k + k * statements_weight r.all = grind arith in
    omega (arith, both m k room h (s.statements_code P.classes (repeating P) (length r.params) base mk r.all 0 end end end) (bare_code mk base), statements_cost m k room h P.classes (repeating P) (length r.params) base mk r.all 0 end end end, off_end mk base, times)
  where
    off_end : (b : Bool) (base : ℕ) → cost m (bare_code b base) + entry ≤ 4 * k
    off_end true base = omega (arith, g.object (base + 0) 0 (base + 0))
    off_end false base = omega (arith, g.number (base + 0) (pos 0) (base + 0))

pub repeating_cost : (m : Op → ℕ) (k room entry : ℕ) → Costs m k room → EntryCosts m k entry → (f : ℕ) → cost m (repeating_ops f) + entry ≤ k * repeating_weight
repeating_cost m k room entry h g f =
    let eight : k * 8 ≡ 8 * k = grind arith in
    omega (arith, h.call 0 f 0 0, h.number 0 (pos 20), h.ask 0 2 0 1, h.branches 0 0 0, g.number 0 (pos 0) 0, eight)
