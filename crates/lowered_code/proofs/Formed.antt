-- The code of well-typed trees is well formed.
use Rattle.std.proofs.Common.{◌≡◌, ℕ, zero, suc, ◌+◌, ◌<◌, ◌≤◌, List, [], ◌∷◌, ◌++◌, length, Option, Some, None, Bool, true, false, refl, sym, ap, ◌∙◌, subst, arith}
use Rattle.std.specs.Prelude.{ℤ, pos}
use Rattle.flat_ir.specs.declared.ops.Op.{Op}
use Rattle.flat_ir.specs.declared.ops.Op.TheVariants as o
use Rattle.sts_syntax.specs.declared.typed.Spot.{Spot}
use Rattle.sts_syntax.specs.declared.typed.Spot.TheVariants.{Param, Local, Global}
use Rattle.sts_syntax.specs.declared.typed.Callee.TheVariants as c
use Rattle.sts_syntax.specs.declared.board_calls.BoardCall.{BoardCall}
use Rattle.sts_syntax.specs.declared.board_calls.BoardCall.TheVariants as bc
use Rattle.sts_syntax.specs.Types.{ValueType}
use Rattle.sts_syntax.specs.TypedTrees as e
use Rattle.sts_syntax.specs.TypedTrees.{TypedTree, TypedTrees, TypedStatement, TypedStatements, OptionalTypedStatement, TypedDeclaration, TypedRoutine, ClassEntry, TypedProgram}
use Rattle.sts_syntax.specs.BoardTable as b
use Rattle.sts_syntax.specs.BoardTable.{BoardParameter, ServicePlace, Written, Always, BoardAction, Service, Library, Repeats, row_of, placed, arranged}
use Rattle.sts_syntax.specs.Measures.{optional_size, greatest_first, greatest_in, greatest_optional, greatest_of, stacked, greatest, total, argument_sizes, hold, holds, target_hold, how_many, outgoing, outgoing_all}
use Rattle.sts_syntax.specs.TypeRules.{entry, IsOneOf, HasClass, HasRoutine}
use Rattle.sts_syntax.specs.WellTyped.{Setting, IsTyped, IsTarget, AreGiven, AreItems, IsAsked, Has, parameters_of, IsReturned, MayTest, MayStep, IsInitial, AreDeclared, MayDeclare, IsSound, IsSoundFirst, AreSound, answer}
use Rattle.sts_lower.specs.Sizes.{Target, ToName, ToField, ToItem, ToNothing, target, store_size, bump_size, action_size, items_size, size, sizes, reach_size, initial_size, declared_size, test_size, step_size, return_size, item_size, statement_size, first_size, statements_size}
use Rattle.sts_lower.specs.Code as l
use Rattle.sts_lower.specs.Code.{Part, span, handler_of, maker_of}
use Rattle.sts_lower.specs.Statements as s
use Rattle.sts_lower.specs.Statements.{behind, bare_code, return_code}
use Rattle.sts_lower.specs.Repeated.{repeated, repeated_each, repeated_by, optionally_repeated, repeated_first, repeated_in, repeated_in_first, repeated_in_all}
use Rattle.lowered_code.proofs.Lengths.{size_positive, sizes_of, parts_sizes, arguments_sizes}
use Rattle.lowered_code.proofs.Entries.{entry_within}
use Rattle.lowered_code.proofs.Typed.{Within, within_front, within_back}
use Rattle.lowered_code.proofs.FormedOps.{Ok, AllOk, both_ok, const_ok, text_ok, copy_ok, unary_ok, binary_ok, global_get_ok, global_set_ok, field_get_ok, field_set_ok, item_get_ok, item_set_ok, length_ok, pop_ok, object_ok, array_ok, handler_ok, jump_ok, branch_ok, return_ok, call_ok, build_ok, slot_ok, ask_ok, push_ok, spawn_ok}

-- the places of a service at which always the same number stands
abbrev fixed : List ServicePlace → ℕ
fixed [] = 0
fixed (Written ∷ ps) = fixed ps
fixed (Always n ∷ ps) = suc (fixed ps)

abbrev fixed_of : BoardAction → ℕ
fixed_of (Service number ps) = fixed ps
fixed_of (Library f) = 0
fixed_of Repeats = 0

placed_length : {X : Type 0} (of : ℤ → X) (ps : List ServicePlace) (xs : List X) → length (placed of ps xs) ≡ fixed ps + length xs
placed_length of [] xs = omega arith
placed_length of (Written ∷ ps) [] = placed_length of ps []
placed_length of (Written ∷ ps) (x ∷ xs) = omega (arith, placed_length of ps xs)
placed_length of (Always n ∷ ps) xs = omega (arith, placed_length of ps xs)

-- a row of the board's table asks for a service that is there, with at most four arguments
abbrev RowIs : BoardAction → ℕ → Type 0
RowIs (Service number ps) taken = (number < 24) × (fixed ps + taken ≤ 4)
RowIs (Library f) taken = Unit {0}
RowIs Repeats taken = taken ≡ 1

row_is : (call : BoardCall) → RowIs (row_of call).action (length (row_of call).takes)
row_is bc.Pause = (omega arith, omega arith)
row_is bc.Forever = refl
row_is bc.ShowLeds = tt
row_is bc.ShowNumber = tt
row_is bc.ShowString = tt
row_is bc.ClearScreen = (omega arith, omega arith)
row_is bc.Unplot = (omega arith, omega arith)
row_is bc.Plot = (omega arith, omega arith)
row_is bc.Toggle = (omega arith, omega arith)
row_is bc.OnButtonPressed = (omega arith, omega arith)
row_is bc.ButtonIsPressed = (omega arith, omega arith)
row_is bc.RunningTime = (omega arith, omega arith)
row_is bc.InBackground = (omega arith, omega arith)
row_is bc.OnEvent = (omega arith, omega arith)
row_is bc.OnEventFlags = (omega arith, omega arith)
row_is bc.RaiseEvent = (omega arith, omega arith)
row_is bc.RaiseNow = (omega arith, omega arith)
row_is bc.WaitForEvent = (omega arith, omega arith)
row_is bc.EventValue = (omega arith, omega arith)
row_is bc.Panic = (omega arith, omega arith)
row_is bc.WriteNumber = (omega arith, omega arith)
row_is bc.WriteString = (omega arith, omega arith)
row_is bc.WriteLine = tt
row_is bc.DigitalWritePin = (omega arith, omega arith)
row_is bc.SendNumber = (omega arith, omega arith)
row_is bc.Abs = tt
row_is bc.Min = tt
row_is bc.Max = tt
row_is bc.Show = (omega arith, omega arith)
row_is bc.NumberGlyph = (omega arith, omega arith)
row_is bc.TextGlyph = (omega arith, omega arith)

module _ (P : TypedProgram) (S : Setting) (repeating : ℕ → ℕ) (all : List ℕ) (operands places outs functions : ℕ)
    (function_there : (f : ℕ) (r : TypedRoutine) → HasRoutine P f r → f < functions) (repeating_there : (g : ℕ) → IsOneOf g all → repeating g < functions)
    (few_globals : length P.globals ≤ 256) (few_slots : (k : ℕ) (class : ClassEntry) → HasClass P k class → length class.slots ≤ 30) where
  abbrev pub params : ℕ
  params = length S.routine.params

  abbrev pub locals : ℕ
  locals = length S.routine.locals

  abbrev pub base : ℕ
  base = params + locals

  abbrev pub temps : ℕ
  temps = base + operands

  abbrev pub Good : List Op → Type 0
  Good ops = AllOk temps places outs functions (length P.classes) ops

  abbrev cd : TypedTree → (d at next : ℕ) → List Op
  cd a d at next = l.code P.classes repeating params base a d at next

  -- an argument that holds so much
  record PartOk (q : Part) (h : ℕ) : Type 0 where
    pub some : 1 ≤ h
    pub ok : (d at : ℕ) → d + h ≤ operands → at + q.size < places → Good (q.ops d at)

  abbrev PartsOk : List Part → List ℕ → Type 0
  PartsOk [] [] = Unit {0}
  PartsOk (q ∷ qs) (h ∷ hs) = PartOk q h × PartsOk qs hs
  PartsOk [] (h ∷ hs) = ⊥
  PartsOk (q ∷ qs) [] = ⊥

  abbrev Stack : ℕ → List ℕ → Type 0
  Stack d [] = Unit {0}
  Stack d (h ∷ hs) = (d + h ≤ operands) × Stack (suc d) hs

  stack_of : (d below : ℕ) (hs : List ℕ) → d + stacked below hs ≤ operands → Stack (d + below) hs
  stack_of d below [] le = tt
  stack_of d below (h ∷ hs) le =
      let e : d + suc below ≡ suc (d + below) = omega arith in
      (omega arith, subst (λ x. Stack x hs) e (stack_of d (suc below) hs (omega arith)))

  parts_ok : (qs : List Part) (hs : List ℕ) (d at : ℕ) → PartsOk qs hs → Stack d hs → at + total (sizes_of qs) < places → Good (l.parts_code P.classes repeating params base qs d at)
  parts_ok [] [] d at h st lt = tt
  parts_ok (q ∷ qs) (x ∷ hs) d at h st lt =
      both_ok temps places outs functions (length P.classes) (q.ops d at) _ (h.0.ok d at st.0 (omega arith)) (parts_ok qs hs (suc d) (at + q.size) h.1 st.1 (omega arith))
  parts_ok [] (x ∷ hs) d at h st lt = absurd h
  parts_ok (q ∷ qs) [] d at h st lt = absurd h

  -- as many values are pending behind them
  high : (qs : List Part) (hs : List ℕ) (d : ℕ) → PartsOk qs hs → Stack d hs → d ≤ operands → d + length qs ≤ operands
  high [] [] d h st le = omega arith
  high (q ∷ qs) (x ∷ hs) d h st le = let one : 1 ≤ x = h.0.some in let first : d + x ≤ operands = st.0 in omega (arith, high qs hs (suc d) h.1 st.1 (omega arith))
  high [] (x ∷ hs) d h st le = absurd h
  high (q ∷ qs) [] d h st le = absurd h

  items_ok : (qs : List Part) (hs : List ℕ) (d at : ℕ) → PartsOk qs hs → suc d + greatest hs ≤ operands → at + items_size (sizes_of qs) ≤ places → Good (l.items_code P.classes repeating params base qs d at)
  items_ok [] [] d at h le lt = tt
  items_ok (q ∷ qs) (x ∷ hs) d at h le lt =
      let one : 1 ≤ x = h.0.some in
      both_ok temps places outs functions (length P.classes) (q.ops (suc d) at) _ (h.0.ok (suc d) at (omega arith) (omega arith))
      (push_ok temps places outs functions (length P.classes) (base + suc d) (base + d) (base + suc d) (omega arith) (omega arith) (omega arith), items_ok qs hs d (at + q.size + 1) h.1 (omega arith) (omega arith))
  items_ok [] (x ∷ hs) d at h le lt = absurd h
  items_ok (q ∷ qs) [] d at h le lt = absurd h

  number_part_ok : (n : ℤ) → PartOk (l.number_part P.classes repeating params base n) 1
  number_part_ok n = record { some = omega arith; ok = λ d at le lt. (const_ok temps places outs functions (length P.classes) (base + d) n (omega arith), tt) }

  placed_ok : (ps : List ServicePlace) (qs : List Part) (hs : List ℕ) → PartsOk qs hs → PartsOk (placed (l.number_part P.classes repeating params base) ps qs) (placed (λ n. 1) ps hs)
  placed_ok [] qs hs h = h
  placed_ok (Written ∷ ps) [] [] h = placed_ok ps [] [] tt
  placed_ok (Written ∷ ps) (q ∷ qs) (x ∷ hs) h = (h.0, placed_ok ps qs hs h.1)
  placed_ok (Always n ∷ ps) qs hs h = (number_part_ok n, placed_ok ps qs hs h)
  placed_ok (Written ∷ ps) [] (x ∷ hs) h = absurd h
  placed_ok (Written ∷ ps) (q ∷ qs) [] h = absurd h

  abbrev SpotOk : Spot → Type 0
  SpotOk (Param i) = i < params
  SpotOk (Local i) = i < locals
  SpotOk (Global g) = g < 256

  abbrev TargetOk : Target → Type 0
  TargetOk (ToName x) = SpotOk x
  TargetOk (ToField f) = Unit {0}
  TargetOk ToItem = Unit {0}
  TargetOk ToNothing = Unit {0}

  get_ok : (to : ℕ) (x : Spot) → to < temps → SpotOk x → Ok temps places outs functions (length P.classes) (l.get_op params to x)
  get_ok to (Param i) t h = copy_ok temps places outs functions (length P.classes) to i t (omega arith)
  get_ok to (Local i) t h = copy_ok temps places outs functions (length P.classes) to (params + i) t (omega arith)
  get_ok to (Global g) t h = global_get_ok temps places outs functions (length P.classes) to g t h

  set_ok : (from : ℕ) (x : Spot) → from < temps → SpotOk x → Ok temps places outs functions (length P.classes) (l.set_op params from x)
  set_ok from (Param i) t h = copy_ok temps places outs functions (length P.classes) i from (omega arith) t
  set_ok from (Local i) t h = copy_ok temps places outs functions (length P.classes) (params + i) from (omega arith) t
  set_ok from (Global g) t h = global_set_ok temps places outs functions (length P.classes) g from h t

  spot_ok : (known : List ℕ) (x : Spot) (u : ValueType) → Has P S known x u → SpotOk x
  spot_ok known (Param i) u h = entry_within S.routine.params i u h
  spot_ok known (Local i) u h = entry_within S.routine.locals i u h.1
  spot_ok known (Global g) u h = omega (arith, entry_within P.globals g u h)

  abbrev One : Op → Type 0
  One op = Ok temps places outs functions (length P.classes) op

  pub glue : (xs ys : List Op) → Good xs → Good ys → Good (xs ++ ys)
  glue xs ys h g = both_ok temps places outs functions (length P.classes) xs ys h g

  parts_many : (args : TypedTrees) → length (l.parts P.classes repeating params base args) ≡ how_many args
  parts_many e.none = refl
  parts_many (e.more a rest) = ap suc (parts_many rest)

  given_many : (known : List ℕ) (ps : List BoardParameter) (args : TypedTrees) → AreGiven P S known ps args → how_many args ≡ length ps
  given_many known [] e.none h = refl
  given_many known (b.Of u ∷ ps) (e.more a rest) h = ap suc (given_many known ps rest h.2)
  given_many known (b.Handler ∷ ps) (e.more a rest) h = ap suc (given_many known ps rest h.1)
  given_many known ps args h = absurd h

  action_ok : (action : BoardAction) (handler d n : ℕ) → d < operands → d + n ≤ operands → Within all (repeated_by action handler) → IsAsked action → (taken : ℕ) → RowIs action taken → n ≡ fixed_of action + taken
      → Good (l.action_code P.classes repeating params base action handler d n)
  action_ok (Service number ps) handler d n lt le w asked taken row e = (ask_ok temps places outs functions (length P.classes) (base + d) number (base + d) n (omega arith) row.0 (omega arith) (let r = row.1 in omega arith), tt)
  action_ok (Library f) handler d n lt le w asked taken row e = absurd asked
  action_ok Repeats handler d n lt le w asked taken row e =
      (handler_ok temps places outs functions (length P.classes) (base + d) (repeating handler) (omega arith) (repeating_there handler w.0), (spawn_ok temps places outs functions (length P.classes) (base + d) (base + d) (omega arith) (omega arith), tt))

  arranged_many : (action : BoardAction) (qs : List Part) → length (arranged (l.number_part P.classes repeating params base) action qs) ≡ fixed_of action + length qs
  arranged_many (Service number ps) qs = placed_length (l.number_part P.classes repeating params base) ps qs
  arranged_many (Library f) qs = omega arith
  arranged_many Repeats qs = omega arith

  arranged_ok : (action : BoardAction) (qs : List Part) (hs : List ℕ) → PartsOk qs hs → PartsOk (arranged (l.number_part P.classes repeating params base) action qs) (arranged (λ n. 1) action hs)
  arranged_ok (Service number ps) qs hs h = placed_ok ps qs hs h
  arranged_ok (Library f) qs hs h = h
  arranged_ok Repeats qs hs h = h

  -- parts behind one another, and then ops
  called_ok : (qs : List Part) (hs : List ℕ) (d at : ℕ) (ops : List Op) → PartsOk qs hs → d + stacked 0 hs ≤ operands → d < operands → at + total (sizes_of qs) < places → (d + length qs ≤ operands → Good ops)
      → Good (l.parts_code P.classes repeating params base qs d at ++ ops)
  called_ok qs hs d at ops h le lt room then =
      let e : d + 0 ≡ d = omega arith in
      let st : Stack d hs = subst (λ x. Stack x hs) e (stack_of d 0 hs le) in
      glue (l.parts_code P.classes repeating params base qs d at) ops (parts_ok qs hs d at h st room) (then (high qs hs d h st (omega arith)))

  store_ok : (t : Target) (d : ℕ) → TargetOk t → l.stored_at P.classes repeating params base t d < operands → Good (l.store_code P.classes repeating params base t d)
  store_ok (ToName x) d h lt = (set_ok (base + d) x (omega arith) h, tt)
  store_ok (ToField f) d h lt = (field_set_ok temps places outs functions (length P.classes) (base + d) f (base + suc d) (omega arith) (omega arith), (copy_ok temps places outs functions (length P.classes) (base + d) (base + suc d) (omega arith) (omega arith), tt))
  store_ok ToItem d h lt =
      (item_set_ok temps places outs functions (length P.classes) (base + d) (base + suc d) (base + suc (suc d)) (omega arith) (omega arith) (omega arith), (copy_ok temps places outs functions (length P.classes) (base + d) (base + suc (suc d)) (omega arith) (omega arith), tt))
  store_ok ToNothing d h lt = tt

  read_ok : (t : Target) (d : ℕ) → TargetOk t → l.stored_at P.classes repeating params base t d < operands → One (l.read_code P.classes repeating params base t d)
  read_ok (ToName x) d h lt = get_ok (base + d) x (omega arith) h
  read_ok (ToField f) d h lt = field_get_ok temps places outs functions (length P.classes) (base + suc d) (base + d) f (omega arith) (omega arith)
  read_ok ToItem d h lt = item_get_ok temps places outs functions (length P.classes) (base + suc (suc d)) (base + d) (base + suc d) (omega arith) (omega arith) (omega arith)
  read_ok ToNothing d h lt = const_ok temps places outs functions (length P.classes) (base + d) (pos 0) (omega arith)

  bumped_ok : (by : ℤ) (late : Bool) (to from : ℕ) → to < temps → from < temps → One (l.bumped_op by late to from)
  bumped_ok by true to from t f = unary_ok temps places outs functions (length P.classes) to (l.unbump_op by) from t f
  bumped_ok by false to from t f = copy_ok temps places outs functions (length P.classes) to from t f

  bump_ok : (t : Target) (by : ℤ) (late : Bool) (d : ℕ) → TargetOk t → l.stored_at P.classes repeating params base t d < operands → Good (l.bump_code P.classes repeating params base t by late d)
  bump_ok (ToName (Param i)) by late d h lt = (unary_ok temps places outs functions (length P.classes) i (l.bump_op by) i (omega arith) (omega arith), (bumped_ok by late (base + d) i (omega arith) (omega arith), tt))
  bump_ok (ToName (Local i)) by late d h lt = (unary_ok temps places outs functions (length P.classes) (params + i) (l.bump_op by) (params + i) (omega arith) (omega arith), (bumped_ok by late (base + d) (params + i) (omega arith) (omega arith), tt))
  bump_ok (ToName (Global g)) by true d h lt = (
    global_get_ok temps places outs functions (length P.classes) (base + d) g (omega arith) h,
    (
      unary_ok temps places outs functions (length P.classes) (base + d) (l.bump_op by) (base + d) (omega arith) (omega arith),
      (global_set_ok temps places outs functions (length P.classes) g (base + d) h (omega arith), (bumped_ok by true (base + d) (base + d) (omega arith) (omega arith), tt)),
    ),
  )
  bump_ok (ToName (Global g)) by false d h lt = (
    global_get_ok temps places outs functions (length P.classes) (base + d) g (omega arith) h,
    (
      unary_ok temps places outs functions (length P.classes) (base + d) (l.bump_op by) (base + d) (omega arith) (omega arith),
      (global_set_ok temps places outs functions (length P.classes) g (base + d) h (omega arith), tt),
    ),
  )
  bump_ok (ToField f) by late d h lt = (
    field_get_ok temps places outs functions (length P.classes) (base + suc d) (base + d) f (omega arith) (omega arith),
    (
      unary_ok temps places outs functions (length P.classes) (base + suc d) (l.bump_op by) (base + suc d) (omega arith) (omega arith),
      (field_set_ok temps places outs functions (length P.classes) (base + d) f (base + suc d) (omega arith) (omega arith), (bumped_ok by late (base + d) (base + suc d) (omega arith) (omega arith), tt)),
    ),
  )
  bump_ok ToItem by late d h lt = (
    item_get_ok temps places outs functions (length P.classes) (base + suc (suc d)) (base + d) (base + suc d) (omega arith) (omega arith) (omega arith),
    (
      unary_ok temps places outs functions (length P.classes) (base + suc (suc d)) (l.bump_op by) (base + suc (suc d)) (omega arith) (omega arith),
      (item_set_ok temps places outs functions (length P.classes) (base + d) (base + suc d) (base + suc (suc d)) (omega arith) (omega arith) (omega arith), (bumped_ok by late (base + d) (base + suc (suc d)) (omega arith) (omega arith), tt)),
    ),
  )
  bump_ok ToNothing by late d h lt = (const_ok temps places outs functions (length P.classes) (base + d) (pos 0) (omega arith), tt)

  -- one step more
  next_op : (xs : List Op) (op : Op) → Good xs → One op → Good (xs ++ op ∷ [])
  next_op xs op h g = glue xs (op ∷ []) h (g, tt)

  function_at : (f : ℕ) (r : TypedRoutine) → HasRoutine P f r → f < functions
  function_at f r h = function_there f r h

  maker_at : (cs : List ClassEntry) (k : ℕ) (class : ClassEntry) → entry cs k ≡ Some class → maker_of cs k ≡ class.maker
  maker_at [] k class h = cc h
  maker_at (x ∷ cs) zero class h = ap (λ (o : Option ClassEntry). the o) h
    where
      the : Option ClassEntry → ℕ
      the None = 0
      the (Some k) = k.maker
  maker_at (x ∷ cs) (suc k) class h = maker_at cs k class h

  holds_many : (args : TypedTrees) → length (holds args) ≡ length (l.parts P.classes repeating params base args)
  holds_many e.none = refl
  holds_many (e.more a rest) = ap suc (holds_many rest)

  action_some : (action : BoardAction) → 1 ≤ action_size action
  action_some (Service n ps) = omega arith
  action_some (Library f) = omega arith
  action_some Repeats = omega arith

  module _ (known : List ℕ) where
    mutual
      hold_some : (a : TypedTree) → IsTyped P S known a → 1 ≤ hold a
      hold_some (e.Num u n) h = omega arith
      hold_some (e.Text u n) h = omega arith
      hold_some (e.Truth u n) h = omega arith
      hold_some (e.Null u) h = omega arith
      hold_some (e.This u) h = omega arith
      hold_some (e.Name u x) h = omega arith
      hold_some (e.Unary u op a) h = hold_some a h.0
      hold_some (e.Binary u op x y) h = omega arith
      hold_some (e.Both u x y) h = omega (arith, hold_some x h.0)
      hold_some (e.Either u x y) h = omega (arith, hold_some x h.0)
      hold_some (e.Choice u test x y) h = omega (arith, hold_some test h.0)
      hold_some (e.Set u None x r) h = target_some x 0 (hold r) h.0 (hold_some r h.1)
      hold_some (e.Set u (Some op) x r) h = target_some x 1 (hold r) h.0 (hold_some r h.1)
      hold_some (e.Bump u x by late) h = bump_some x h.0
      hold_some (e.Field u a f) h = hold_some a h.0
      hold_some (e.Length u a) h = hold_some a h.0
      hold_some (e.Item u x y) h = omega arith
      hold_some (e.Call u f args) h = omega arith
      hold_some (e.SuperCall u f args) h = omega arith
      hold_some (e.Make u k args) h = omega arith
      hold_some (e.Items u items) h = omega arith
      hold_some (e.Handler u f) h = absurd h

      target_some : (x : TypedTree) (read r : ℕ) → IsTarget P S known x → 1 ≤ r → 1 ≤ target_hold x read r
      target_some (e.Name u x) read r h le = omega arith
      target_some (e.Field u a f) read r h le = omega arith
      target_some (e.Item u a i) read r h le = omega arith
      target_some x read r h le = absurd h

      bump_some : (x : TypedTree) → IsTarget P S known x → 1 ≤ target_hold x 1 0
      bump_some (e.Name u x) h = omega arith
      bump_some (e.Field u a f) h = omega arith
      bump_some (e.Item u a i) h = omega arith
      bump_some x h = absurd h

    target_ok : (x : TypedTree) → IsTarget P S known x → TargetOk (target x)
    target_ok (e.Name u x) h = spot_ok known x u h
    target_ok (e.Field u a f) h = tt
    target_ok (e.Item u a i) h = tt
    target_ok x h = absurd h

    store_some : (x : TypedTree) → IsTarget P S known x → 1 ≤ store_size (target x)
    store_some (e.Name u x) h = omega arith
    store_some (e.Field u a f) h = omega arith
    store_some (e.Item u a i) h = omega arith
    store_some x h = absurd h

    bump_long : (t : Target) (late : Bool) → 1 ≤ bump_size t late
    bump_long (ToName (Param i)) late = omega arith
    bump_long (ToName (Local i)) late = omega arith
    bump_long (ToName (Global g)) true = omega arith
    bump_long (ToName (Global g)) false = omega arith
    bump_long (ToField f) late = omega arith
    bump_long ToItem late = omega arith
    bump_long ToNothing late = omega arith

    -- the stored operand is there
    stored_low : (x : TypedTree) (read r d : ℕ) → IsTarget P S known x → 1 ≤ read + r → d + target_hold x read r ≤ operands → l.stored_at P.classes repeating params base (target x) d < operands
    stored_low (e.Name u x) read r d h le lt = omega arith
    stored_low (e.Field u a f) read r d h le lt = omega arith
    stored_low (e.Item u a i) read r d h le lt = omega arith
    stored_low x read r d h le lt = absurd h

    -- and so is room for what is stored, above it
    room_for : (x : TypedTree) (read r d : ℕ) → IsTarget P S known x → d + target_hold x read r ≤ operands → l.stored_at P.classes repeating params base (target x) d + (read + r) ≤ operands
    room_for (e.Name u x) read r d h lt = omega arith
    room_for (e.Field u a f) read r d h lt = omega arith
    room_for (e.Item u a i) read r d h lt = omega arith
    room_for x read r d h lt = absurd h

    mutual
      pub typed_ok : (a : TypedTree) → IsTyped P S known a → Within all (repeated a) → outgoing a ≤ outs → (d at next : ℕ) → d + hold a ≤ operands → at + size a ≤ places → next < places → Good (cd a d at next)
      typed_ok (e.Num u n) h w out d at next le lt nx = (const_ok temps places outs functions (length P.classes) (base + d) n (omega arith), tt)
      typed_ok (e.Text u n) h w out d at next le lt nx = (text_ok temps places outs functions (length P.classes) (base + d) n (omega arith), tt)
      typed_ok (e.Truth u n) h w out d at next le lt nx = (const_ok temps places outs functions (length P.classes) (base + d) (l.truth_number n) (omega arith), tt)
      typed_ok (e.Null u) h w out d at next le lt nx = (const_ok temps places outs functions (length P.classes) (base + d) (pos 0) (omega arith), tt)
      typed_ok (e.This u) h w out d at next le lt nx = (let i = entry_within S.routine.params 0 u h.1 in copy_ok temps places outs functions (length P.classes) (base + d) 0 (omega arith) (omega arith), tt)
      typed_ok (e.Name u x) h w out d at next le lt nx = (get_ok (base + d) x (omega arith) (spot_ok known x u h), tt)
      typed_ok (e.Unary u op a) h w out d at next le lt nx =
          (let s = hold_some a h.0 in next_op (cd a d at (at + size a)) (o.Unary (base + d) op (base + d)) (typed_ok a h.0 w out d at (at + size a) le (omega arith) (omega arith)) (unary_ok temps places outs functions (length P.classes) (base + d) op (base + d) (omega arith) (omega arith)))
      typed_ok (e.Binary u op x y) h w out d at next le lt nx =
          (let sy = hold_some y h.1 in glue (cd x d at (at + size x)) (cd y (suc d) (at + size x) (at + size x + size y) ++ o.Binary (base + d) op (base + d) (base + suc d) ∷ [])
          (typed_ok x h.0 (within_front all (repeated x) (repeated y) w) (omega arith) d at (at + size x) (omega arith) (omega arith) (omega arith))
          (next_op (cd y (suc d) (at + size x) (at + size x + size y)) (o.Binary (base + d) op (base + d) (base + suc d)) (typed_ok y h.1 (within_back all (repeated x) (repeated y) w) (omega arith) (suc d) (at + size x) (at + size x + size y) (omega arith) (omega arith) (omega arith))
          (binary_ok temps places outs functions (length P.classes) (base + d) op (base + d) (base + suc d) (omega arith) (omega arith) (omega arith))))
      typed_ok (e.Both u x y) h w out d at next le lt nx =
          (let sx = hold_some x h.0 in let sy = size_positive y in glue (cd x d at (at + size x)) (o.Branch (base + d) (at + size x + 1 + 1) ∷ (o.Jump next ∷ cd y d (at + size x + 1 + 1) next))
          (typed_ok x h.0 (within_front all (repeated x) (repeated y) w) (omega arith) d at (at + size x) (omega arith) (omega arith) (omega arith)) (
            branch_ok temps places outs functions (length P.classes) (base + d) (at + size x + 1 + 1) (omega arith) (omega arith),
            (
              jump_ok temps places outs functions (length P.classes) next nx,
              typed_ok y h.1 (within_back all (repeated x) (repeated y) w) (omega arith) d (at + size x + 1 + 1) next (omega arith) (omega arith) nx,
            ),
          ))
      typed_ok (e.Either u x y) h w out d at next le lt nx =
          (let sx = hold_some x h.0 in glue (cd x d at (at + size x)) (o.Branch (base + d) next ∷ cd y d (at + size x + 1) next)
          (typed_ok x h.0 (within_front all (repeated x) (repeated y) w) (omega arith) d at (at + size x) (omega arith) (omega arith) (omega arith))
          (branch_ok temps places outs functions (length P.classes) (base + d) next (omega arith) nx, typed_ok y h.1 (within_back all (repeated x) (repeated y) w) (omega arith) d (at + size x + 1) next (omega arith) (omega arith) nx))
      typed_ok (e.Choice u test x y) h w out d at next le lt nx =
          (let st = hold_some test h.0 in let sx = size_positive x in let py = at + size test + 1 in let px = at + size test + 1 + size y + 1 in
          glue (cd test d at (at + size test)) (o.Branch (base + d) px ∷ (cd y d py next ++ (o.Jump next ∷ cd x d px next)))
          (typed_ok test h.0 (within_front all (repeated test) _ w) (omega arith) d at (at + size test) (omega arith) (omega arith) (omega arith)) (
            branch_ok temps places outs functions (length P.classes) (base + d) px (omega arith) (omega arith),
            glue (cd y d py next) (o.Jump next ∷ cd x d px next) (typed_ok y h.2 (within_back all (repeated x) _ (within_back all (repeated test) _ w)) (omega arith) d py next (omega arith) (omega arith) nx)
                (jump_ok temps places outs functions (length P.classes) next nx, typed_ok x h.1 (within_front all (repeated x) (repeated y) (within_back all (repeated test) _ w)) (omega arith) d px next (omega arith) (omega arith) nx),
          ))
      typed_ok (e.Set u None x r) h w out d at next le lt nx =
          (let t = target x in let v = l.stored_at P.classes repeating params base t d in let pr = at + reach_size x in let sr = hold_some r h.1 in
          let fits = room_for x 0 (hold r) d h.0 le in let low = stored_low x 0 (hold r) d h.0 (omega arith) le in let zr = size_positive r in
          glue (l.reach_code P.classes repeating params base x d at) (cd r v pr (pr + size r) ++ l.store_code P.classes repeating params base t d)
          (reach_ok x 0 (hold r) h.0 (within_front all (repeated x) (repeated r) w) (omega arith) d at le (omega arith))
          (glue (cd r v pr (pr + size r)) (l.store_code P.classes repeating params base t d) (typed_ok r h.1 (within_back all (repeated x) (repeated r) w) (omega arith) v pr (pr + size r) (omega arith) (omega arith) (omega (arith, store_some x h.0))) (store_ok t d (target_ok x h.0) low)))
      typed_ok (e.Set u (Some op) x r) h w out d at next le lt nx =
          (let t = target x in let v = l.stored_at P.classes repeating params base t d in let pr = at + reach_size x in let sr = hold_some r h.1 in
          let fits = room_for x 1 (hold r) d h.0 le in let low = stored_low x 1 (hold r) d h.0 (omega arith) le in let zr = size_positive r in
          let binary = o.Binary (base + v) op (base + v) (base + suc v) in
          glue (l.reach_code P.classes repeating params base x d at) (l.read_code P.classes repeating params base t d ∷ (cd r (suc v) (pr + 1) (pr + 1 + size r) ++ (binary ∷ l.store_code P.classes repeating params base t d)))
          (reach_ok x 1 (hold r) h.0 (within_front all (repeated x) (repeated r) w) (omega arith) d at le (omega arith)) (
            read_ok t d (target_ok x h.0) low,
            glue (cd r (suc v) (pr + 1) (pr + 1 + size r)) (binary ∷ l.store_code P.classes repeating params base t d)
                (typed_ok r h.1 (within_back all (repeated x) (repeated r) w) (omega arith) (suc v) (pr + 1) (pr + 1 + size r) (omega arith) (omega arith) (omega arith))
                (binary_ok temps places outs functions (length P.classes) (base + v) op (base + v) (base + suc v) (omega arith) (omega arith) (omega arith), store_ok t d (target_ok x h.0) low),
          ))
      typed_ok (e.Bump u x by late) h w out d at next le lt nx =
          (let t = target x in let low = stored_low x 1 0 d h.0 (omega arith) le in let long = bump_long t late in
          glue (l.reach_code P.classes repeating params base x d at) (l.bump_code P.classes repeating params base t by late d) (reach_ok x 1 0 h.0 w out d at le (omega arith)) (bump_ok t by late d (target_ok x h.0) low))
      typed_ok (e.Field u a f) h w out d at next le lt nx =
          (let s = hold_some a h.0 in next_op (cd a d at (at + size a)) (o.FieldGet (base + d) (base + d) f) (typed_ok a h.0 w out d at (at + size a) le (omega arith) (omega arith)) (field_get_ok temps places outs functions (length P.classes) (base + d) (base + d) f (omega arith) (omega arith)))
      typed_ok (e.Length u a) h w out d at next le lt nx =
          (let s = hold_some a h.0 in next_op (cd a d at (at + size a)) (o.Length (base + d) (base + d)) (typed_ok a h.0 w out d at (at + size a) le (omega arith) (omega arith)) (length_ok temps places outs functions (length P.classes) (base + d) (base + d) (omega arith) (omega arith)))
      typed_ok (e.Item u x y) h w out d at next le lt nx =
          (let sy = hold_some y h.1 in glue (cd x d at (at + size x)) (cd y (suc d) (at + size x) (at + size x + size y) ++ o.ItemGet (base + d) (base + d) (base + suc d) ∷ [])
          (typed_ok x h.0 (within_front all (repeated x) (repeated y) w) (omega arith) d at (at + size x) (omega arith) (omega arith) (omega arith))
          (next_op (cd y (suc d) (at + size x) (at + size x + size y)) (o.ItemGet (base + d) (base + d) (base + suc d)) (typed_ok y h.1 (within_back all (repeated x) (repeated y) w) (omega arith) (suc d) (at + size x) (at + size x + size y) (omega arith) (omega arith) (omega arith))
          (item_get_ok temps places outs functions (length P.classes) (base + d) (base + d) (base + suc d) (omega arith) (omega arith) (omega arith))))
      typed_ok (e.Call u (c.Function f) args) h w out d at next le lt nx =
          (let qs = l.parts P.classes repeating params base args in let many = parts_many args in
          let sum : total (sizes_of qs) ≡ total (sizes args) = ap total (parts_sizes P.classes repeating params base args) in
          called_ok qs (holds args) d at (o.Call (base + d) f (span (base + d) (length qs) []) ∷ []) (each_ok h.0.params args h.2 (within_front all _ _ w) (omega arith)) (omega arith) (omega arith) (omega arith)
          (λ top. (call_ok temps places outs functions (length P.classes) (base + d) f (base + d) (length qs) (omega arith) (function_at f h.0 h.1) (omega arith) (omega arith), tt)))
      typed_ok (e.Call u (c.Slot s) (e.more a rest)) h w out d at next le lt nx =
          (let args = e.more a rest in let qs = l.parts P.classes repeating params base args in let many = parts_many args in
          let sum : total (sizes_of qs) ≡ total (sizes args) = ap total (parts_sizes P.classes repeating params base args) in
          let w' = within_front all (repeated_each args) _ w in
          let small : s < 30 = omega (arith, few_slots h.0 h.4.0 h.4.2, entry_within h.4.0.slots s h.4.1 h.4.3) in
          called_ok qs (holds args) d at (o.CallSlot (base + d) s (span (base + d) (length qs) []) ∷ [])
          (record { some = hold_some a h.2; ok = λ d at le lt. typed_ok a h.2 (within_front all (repeated a) _ w') (omega arith) d at (at + size a) le (omega arith) lt }, each_ok h.1 rest h.5 (within_back all (repeated a) _ w') (omega arith)) (omega arith) (omega arith) (omega arith)
          (λ top. (slot_ok temps places outs functions (length P.classes) (base + d) s (base + d) (length qs) (omega arith) small (omega arith) (omega arith), tt)))
      typed_ok (e.Call u (c.Slot s) e.none) h w out d at next le lt nx = absurd h
      typed_ok (e.Call u c.Push (e.more x (e.more y e.none))) h w out d at next le lt nx =
          (let args = e.more x (e.more y e.none) in let qs = l.parts P.classes repeating params base args in
          let sum : total (sizes_of qs) ≡ total (sizes args) = ap total (parts_sizes P.classes repeating params base args) in
          let w' = within_front all (repeated_each args) _ w in
          called_ok qs (holds args) d at (o.Ask (base + d) 19 (span (base + d) (length qs) []) ∷ []) (
            record { some = hold_some x h.0; ok = λ d at le lt. typed_ok x h.0 (within_front all (repeated x) _ w') (omega arith) d at (at + size x) le (omega arith) lt },
            (record { some = hold_some y h.1; ok = λ d at le lt. typed_ok y h.1 (within_front all (repeated y) _ (within_back all (repeated x) _ w')) (omega arith) d at (at + size y) le (omega arith) lt }, tt),
          ) (omega arith) (omega arith) (omega arith)
          (λ top. (ask_ok temps places outs functions (length P.classes) (base + d) 19 (base + d) (length qs) (omega arith) (omega arith) (omega arith) (omega arith), tt)))
      typed_ok (e.Call u c.Push e.none) h w out d at next le lt nx = absurd h
      typed_ok (e.Call u c.Push (e.more x e.none)) h w out d at next le lt nx = absurd h
      typed_ok (e.Call u c.Push (e.more x (e.more y (e.more z rest)))) h w out d at next le lt nx = absurd h
      typed_ok (e.Call u c.Pop (e.more x e.none)) h w out d at next le lt nx =
          (let args = e.more x e.none in let qs = l.parts P.classes repeating params base args in
          let sum : total (sizes_of qs) ≡ total (sizes args) = ap total (parts_sizes P.classes repeating params base args) in
          let w' = within_front all (repeated_each args) _ w in
          called_ok qs (holds args) d at (o.Pop (base + d) (base + d) ∷ [])
          (record { some = hold_some x h.0; ok = λ d at le lt. typed_ok x h.0 (within_front all (repeated x) _ w') (omega arith) d at (at + size x) le (omega arith) lt }, tt) (omega arith) (omega arith) (omega arith)
          (λ top. (pop_ok temps places outs functions (length P.classes) (base + d) (base + d) (omega arith) (omega arith), tt)))
      typed_ok (e.Call u c.Pop e.none) h w out d at next le lt nx = absurd h
      typed_ok (e.Call u c.Pop (e.more x (e.more y rest))) h w out d at next le lt nx = absurd h
      typed_ok (e.Call u (c.Board call) args) h w out d at next le lt nx =
          (let qs = l.parts P.classes repeating params base args in let action = (row_of call).action in let every = arranged (l.number_part P.classes repeating params base) action qs in
          let many = parts_many args in let given = given_many known (row_of call).takes args h.0 in
          let sum : total (sizes_of every) ≡ total (argument_sizes 1 (c.Board call) (sizes args)) =
          ap total (arguments_sizes P.classes repeating params base (c.Board call) qs) ∙ ap (λ (ns : List ℕ). total (argument_sizes 1 (c.Board call) ns)) (parts_sizes P.classes repeating params base args) in
          let one : 1 ≤ action_size action = action_some action in
          called_ok every (arranged (λ n. 1) action (holds args)) d at (l.action_code P.classes repeating params base action (handler_of args) d (length every))
          (arranged_ok action qs (holds args) (given_ok (row_of call).takes args h.0 (within_front all (repeated_each args) _ w) (omega arith))) (omega arith) (omega arith) (omega arith)
          (λ top. action_ok action (handler_of args) d (length every) (omega arith) (omega arith) (within_back all (repeated_each args) _ w) h.2 (length (row_of call).takes) (row_is call) (omega (arith, arranged_many action qs))))
      typed_ok (e.SuperCall u f args) h w out d at next le lt nx =
          (let qs = l.parts P.classes repeating params base args in let many = parts_many args in
          let sum : total (sizes_of qs) ≡ total (sizes args) = ap total (parts_sizes P.classes repeating params base args) in
          let i = entry_within S.routine.params 0 _ h.1.5.1 in let member = h.1.10 in
          let st : Stack (suc d) (holds args) = (let e : d + 1 ≡ suc d = omega arith in subst (λ x. Stack x (holds args)) e (stack_of d 1 (holds args) (omega arith))) in
          let parts' = each_ok h.0 args h.2 w (omega arith) in
          let top = high qs (holds args) (suc d) parts' st (omega arith) in (
            copy_ok temps places outs functions (length P.classes) (base + d) 0 (omega arith) (omega arith),
            next_op (l.parts_code P.classes repeating params base qs (suc d) (at + 1)) (o.Call (base + d) f (span (base + d) (suc (length qs)) [])) (parts_ok qs (holds args) (suc d) (at + 1) parts' st (omega arith))
                (call_ok temps places outs functions (length P.classes) (base + d) f (base + d) (suc (length qs)) (omega arith) (function_at f member.0 member.2) (omega arith) (omega arith)),
          ))
      typed_ok (e.Make u k args) h w out d at next le lt nx =
          (let qs = l.parts P.classes repeating params base args in let many = parts_many args in
          let sum : total (sizes_of qs) ≡ total (sizes args) = ap total (parts_sizes P.classes repeating params base args) in
          let made = function_at h.0.maker h.3.0 h.3.2 in
          let maker = subst (λ x. x < functions) (sym (maker_at P.classes k h.0 h.2)) made in
          let last = o.MakeObject (base + (length qs + d)) k ∷ (o.Call (base + d) (maker_of P.classes k) ((base + (length qs + d)) ∷ span (base + d) (length qs) []) ∷ []) in
          called_ok qs (holds args) d at last (each_ok h.1 args h.4 w (omega arith)) (omega arith) (omega arith) (omega arith)
          (λ top. (
            object_ok temps places outs functions (length P.classes) (base + (length qs + d)) k (omega (arith, holds_many args)) (entry_within P.classes k h.0 h.2),
            (build_ok temps places outs functions (length P.classes) (base + d) (maker_of P.classes k) (base + (length qs + d)) (base + d) (length qs) (omega arith) maker (omega (arith, holds_many args)) (omega arith) (omega arith), tt),
          )))
      typed_ok (e.Items u items) h w out d at next le lt nx =
          (let qs = l.parts P.classes repeating params base items in
          let sum : items_size (sizes_of qs) ≡ items_size (sizes items) = ap items_size (parts_sizes P.classes repeating params base items) in
          (array_ok temps places outs functions (length P.classes) (base + d) (length qs) (omega arith), items_ok qs (holds items) d (at + 1) (list_ok h.0 items h.2 w out) (omega arith) (omega arith)))
      typed_ok (e.Handler u f) h w out d at next le lt nx = absurd h

      each_ok : (us : List ValueType) (args : TypedTrees) → AreGiven P S known (parameters_of us) args → Within all (repeated_each args) → outgoing_all args ≤ outs → PartsOk (l.parts P.classes repeating params base args) (holds args)
      each_ok [] e.none h w out = tt
      each_ok (u ∷ us) (e.more a rest) h w out =
          (record { some = hold_some a h.0; ok = λ d at le lt. typed_ok a h.0 (within_front all (repeated a) _ w) (omega arith) d at (at + size a) le (omega arith) lt }, each_ok us rest h.2 (within_back all (repeated a) _ w) (omega arith))
      each_ok [] (e.more a rest) h w out = absurd h
      each_ok (u ∷ us) e.none h w out = absurd h

      given_ok : (ps : List BoardParameter) (args : TypedTrees) → AreGiven P S known ps args → Within all (repeated_each args) → outgoing_all args ≤ outs → PartsOk (l.parts P.classes repeating params base args) (holds args)
      given_ok [] e.none h w out = tt
      given_ok (b.Of u ∷ ps) (e.more a rest) h w out =
          (record { some = hold_some a h.0; ok = λ d at le lt. typed_ok a h.0 (within_front all (repeated a) _ w) (omega arith) d at (at + size a) le (omega arith) lt }, given_ok ps rest h.2 (within_back all (repeated a) _ w) (omega arith))
      given_ok (b.Handler ∷ ps) (e.more (e.Handler u f) rest) h w out =
          (record { some = omega arith; ok = λ d at le lt. (handler_ok temps places outs functions (length P.classes) (base + d) f (omega arith) (function_at f h.0.0 h.0.1), tt) }, given_ok ps rest h.1 w (omega arith))
      given_ok (b.Handler ∷ ps) (e.more a rest) h w out = absurd h.0
      given_ok ps args h w out = absurd h

      list_ok : (u : ValueType) (items : TypedTrees) → AreItems P S known u items → Within all (repeated_each items) → outgoing_all items ≤ outs → PartsOk (l.parts P.classes repeating params base items) (holds items)
      list_ok u e.none h w out = tt
      list_ok u (e.more a rest) h w out =
          (record { some = hold_some a h.0; ok = λ d at le lt. typed_ok a h.0 (within_front all (repeated a) _ w) (omega arith) d at (at + size a) le (omega arith) lt }, list_ok u rest h.2 (within_back all (repeated a) _ w) (omega arith))

      reach_ok : (x : TypedTree) (read r : ℕ) → IsTarget P S known x → Within all (repeated x) → outgoing x ≤ outs → (d at : ℕ) → d + target_hold x read r ≤ operands → at + reach_size x < places → Good (l.reach_code P.classes repeating params base x d at)
      reach_ok (e.Name u x) read r h w out d at le lt = tt
      reach_ok (e.Field u a f) read r h w out d at le lt = typed_ok a h.0 w out d at (at + size a) (omega arith) (omega arith) lt
      reach_ok (e.Item u a i) read r h w out d at le lt =
          (let si = size_positive i in glue (cd a d at (at + size a)) (cd i (suc d) (at + size a) (at + size a + size i)) (typed_ok a h.0 (within_front all (repeated a) (repeated i) w) (omega arith) d at (at + size a) (omega arith) (omega arith) (omega arith))
          (typed_ok i h.1 (within_back all (repeated a) (repeated i) w) (omega arith) (suc d) (at + size a) (at + size a + size i) (omega arith) (omega arith) (omega arith)))
      reach_ok x read r h w out d at le lt = absurd h

  -- a call of the base's constructor
  pub super_ok : (u : ValueType) (f : ℕ) (us : List ValueType) (args : TypedTrees) → AreGiven P S [] (parameters_of us) args → 0 < params → f < functions → Within all (repeated_each args) → outgoing (e.SuperCall u f args) ≤ outs
      → (at next : ℕ) → hold (e.SuperCall u f args) ≤ operands → at + size (e.SuperCall u f args) ≤ places → Good (cd (e.SuperCall u f args) 0 at next)
  super_ok u f us args h some lt w out at next le room =
      (let qs = l.parts P.classes repeating params base args in let many = parts_many args in
      let sum : total (sizes_of qs) ≡ total (sizes args) = ap total (parts_sizes P.classes repeating params base args) in
      let st : Stack 1 (holds args) = stack_of 0 1 (holds args) (omega arith) in
      let parts' = each_ok [] us args h w (omega arith) in
      let top = high qs (holds args) 1 parts' st (omega arith) in (
        copy_ok temps places outs functions (length P.classes) (base + 0) 0 (omega arith) (omega arith),
        next_op (l.parts_code P.classes repeating params base qs 1 (at + 1)) (o.Call (base + 0) f (span (base + 0) (suc (length qs)) [])) (parts_ok qs (holds args) 1 (at + 1) parts' st (omega arith))
            (call_ok temps places outs functions (length P.classes) (base + 0) f (base + 0) (suc (length qs)) (omega arith) lt (omega arith) (omega arith)),
      ))

  module _ (maker : Bool) (this : maker ≡ true → 0 < params) (some_operand : 1 ≤ operands) where
    abbrev sc : TypedStatement → (at next out again : ℕ) → List Op
    sc a at next out again = s.statement_code P.classes repeating params base maker a at next out again

    declare_ok : (x : Spot) (u : ValueType) → MayDeclare P S x u → SpotOk x
    declare_ok (Param i) u h = absurd h
    declare_ok (Local i) u h = entry_within S.routine.locals i u h
    declare_ok (Global g) u h = omega (arith, entry_within P.globals g u h.1)

    initial_ok : (known : List ℕ) (t : Option TypedTree) (u : ValueType) → IsInitial P S known t u → Within all (optionally_repeated t) → optional_size hold t ≤ operands → optional_size outgoing t ≤ outs → (at : ℕ) → at + initial_size t < places
        → Good (s.initial_code P.classes repeating params base t at)
    initial_ok known None u h w le out at lt = (const_ok temps places outs functions (length P.classes) (base + 0) (pos 0) (omega arith), tt)
    initial_ok known (Some a) u h w le out at lt = typed_ok known a h.0 w out 0 at (at + size a) (omega arith) (omega arith) lt

    declared_ok : (known : List ℕ) (ds : List TypedDeclaration) → AreDeclared P S known ds → Within all (repeated_first ds) → greatest_first hold ds ≤ operands → greatest_first outgoing ds ≤ outs → (at : ℕ) → at + declared_size ds ≤ places
        → Good (s.declared_code P.classes repeating params base ds at)
    declared_ok known [] h w le out at lt = tt
    declared_ok known (d ∷ ds) h w le out at lt =
        glue (s.initial_code P.classes repeating params base d.first at) _ (initial_ok known d.first h.0 h.2 (within_front all _ _ w) (omega arith) (omega arith) at (omega arith))
        (set_ok (base + 0) d.name (omega arith) (declare_ok d.name h.0 h.1), declared_ok _ ds h.3 (within_back all (optionally_repeated d.first) _ w) (omega arith) (omega arith) (at + initial_size d.first + 1) (omega arith))

    pub bare_ok : (m : Bool) → (m ≡ true → 0 < params) → Good (bare_code m base)
    bare_ok true that = (let i = that refl in copy_ok temps places outs functions (length P.classes) (base + 0) 0 (omega arith) (omega arith), (return_ok temps places outs functions (length P.classes) (base + 0) (omega arith), tt))
    bare_ok false that = (const_ok temps places outs functions (length P.classes) (base + 0) (pos 0) (omega arith), (return_ok temps places outs functions (length P.classes) (base + 0) (omega arith), tt))

    returns_ok : (m : Bool) → (m ≡ true → 0 < params) → Good (return_code m base)
    returns_ok true that = bare_ok true that
    returns_ok false that = (return_ok temps places outs functions (length P.classes) (base + 0) (omega arith), tt)

    return_some : (m : Bool) → 1 ≤ return_size m
    return_some true = omega arith
    return_some false = omega arith

    test_ok : (known : List ℕ) (t : Option TypedTree) → MayTest P S known t → Within all (optionally_repeated t) → optional_size hold t ≤ operands → optional_size outgoing t ≤ outs → (at next : ℕ) → at + test_size t < places → next < places
        → Good (s.test_code P.classes repeating params base t at next)
    test_ok known None h w le out at next lt nx = tt
    test_ok known (Some a) h w le out at next lt nx =
        glue (l.code P.classes repeating params base a 0 at (at + size a)) _ (typed_ok known a h.0 w out 0 at (at + size a) (omega arith) (omega arith) (omega arith))
        (branch_ok temps places outs functions (length P.classes) (base + 0) (at + size a + 1 + 1) (omega arith) (omega arith), (jump_ok temps places outs functions (length P.classes) next nx, tt))

    step_ok : (known : List ℕ) (t : Option TypedTree) → MayStep P S known t → Within all (optionally_repeated t) → optional_size hold t ≤ operands → optional_size outgoing t ≤ outs → (at : ℕ) → at + step_size t < places → Good (s.step_code P.classes repeating params base t at)
    step_ok known None h w le out at lt = tt
    step_ok known (Some a) h w le out at lt = typed_ok known a h w out 0 at (at + size a) (omega arith) (omega arith) lt

    pub behind_low : (n here next : ℕ) → here + n ≤ places → next < places → behind n here next < places
    behind_low zero here next le lt = lt
    behind_low (suc n) here next le lt = omega arith

    returned_ok : (known : List ℕ) (a : TypedTree) (o : Option ValueType) → IsReturned P S known (Some a) o → IsTyped P S known a
    returned_ok known a None h = absurd h
    returned_ok known a (Some u) h = h.0

    mutual
      pub statement_ok : (a : TypedStatement) (looped : Bool) (known : List ℕ) → IsSound P S a looped known → Within all (repeated_in a) → greatest_in hold a ≤ operands → greatest_in outgoing a ≤ outs
          → (at next out again : ℕ) → at + statement_size maker a < places → next < places → out < places → again < places → Good (sc a at next out again)
      statement_ok (e.Block ss) looped known h w le few at next out again lt nx ox ax = statements_ok ss looped known h w le few at next out again lt nx ox ax
      statement_ok (e.Let fixed each) looped known h w le few at next out again lt nx ox ax = declared_ok known each h w le few at (omega arith)
      statement_ok (e.IfOnly test a) looped known h w le few at next out again lt nx ox ax =
          (let pa = at + size test + 1 + 1 in
          glue (cd test 0 at (at + size test)) _ (typed_ok known test h.0.0 (within_front all _ _ w) (omega arith) 0 at (at + size test) (omega arith) (omega arith) (omega arith)) (
            branch_ok temps places outs functions (length P.classes) (base + 0) pa (omega arith) (omega arith),
            (
              jump_ok temps places outs functions (length P.classes) next nx,
              statement_ok a looped known h.1 (within_back all (repeated test) _ w) (omega arith) (omega arith) pa next out again (omega arith) nx ox ax,
            ),
          ))
      statement_ok (e.IfElse test a other) looped known h w le few at next out again lt nx ox ax =
          (let po = at + size test + 1 in let pa = at + size test + 1 + statement_size maker other + 1 in
          glue (cd test 0 at (at + size test)) _ (typed_ok known test h.0.0 (within_front all _ _ w) (omega arith) 0 at (at + size test) (omega arith) (omega arith) (omega arith)) (
            branch_ok temps places outs functions (length P.classes) (base + 0) pa (omega arith) (omega arith),
            glue (sc other po next out again) _ (statement_ok other looped known h.2 (within_back all (repeated_in a) _ (within_back all (repeated test) _ w)) (omega arith) (omega arith) po next out again (omega arith) nx ox ax)
                (jump_ok temps places outs functions (length P.classes) next nx, statement_ok a looped known h.1 (within_front all _ _ (within_back all (repeated test) _ w)) (omega arith) (omega arith) pa next out again (omega arith) nx ox ax),
          ))
      statement_ok (e.While test a) looped known h w le few at next out again lt nx ox ax =
          (let pa = at + size test + 1 + 1 in let turn = at + size test + 1 + 1 + statement_size maker a in
          glue (cd test 0 at (at + size test)) _ (typed_ok known test h.0.0 (within_front all _ _ w) (omega arith) 0 at (at + size test) (omega arith) (omega arith) (omega arith)) (
            branch_ok temps places outs functions (length P.classes) (base + 0) pa (omega arith) (omega arith),
            (
              jump_ok temps places outs functions (length P.classes) next nx,
              next_op (sc a pa turn next turn) (o.Jump at) (statement_ok a true known h.1 (within_back all (repeated test) _ w) (omega arith) (omega arith) pa turn next turn (omega arith) (omega arith) nx (omega arith)) (jump_ok temps places outs functions (length P.classes) at (omega arith)),
            ),
          ))
      statement_ok (e.DoWhile a test) looped known h w le few at next out again lt nx ox ax =
          (let turn = at + statement_size maker a in
          glue (sc a at turn next turn) _ (statement_ok a true known h.0 (within_front all _ _ w) (omega arith) (omega arith) at turn next turn (omega arith) (omega arith) nx (omega arith))
          (glue (cd test 0 turn (turn + size test)) _ (typed_ok known test h.1.0 (within_back all (repeated_in a) _ w) (omega arith) 0 turn (turn + size test) (omega arith) (omega arith) (omega arith))
          (branch_ok temps places outs functions (length P.classes) (base + 0) (turn + size test + 1 + 1) (omega arith) (omega arith), (jump_ok temps places outs functions (length P.classes) next nx, (jump_ok temps places outs functions (length P.classes) at (omega arith), tt)))))
      statement_ok (e.For first test step a) looped known h w le few at next out again lt nx ox ax =
          (let loop = at + first_size maker first in let body = loop + test_size test in let turn = body + statement_size maker a in
          let w1 = within_back all (repeated_in_first first) _ w in let w2 = within_back all (optionally_repeated test) _ w1 in
          glue (s.first_code P.classes repeating params base maker first at loop out again) _ (first_ok first known h.0 (within_front all _ _ w) (omega arith) (omega arith) at loop out again (omega arith) (omega arith) ox ax)
          (glue (s.test_code P.classes repeating params base test loop next) _ (test_ok _ test h.1 (within_front all _ _ w1) (omega arith) (omega arith) loop next (omega arith) nx)
          (glue (sc a body turn next turn) _ (statement_ok a true _ h.3 (within_back all (optionally_repeated step) _ w2) (omega arith) (omega arith) body turn next turn (omega arith) (omega arith) nx (omega arith))
          (next_op (s.step_code P.classes repeating params base step turn) (o.Jump loop) (step_ok _ step h.2 (within_front all _ _ w2) (omega arith) (omega arith) turn (omega arith)) (jump_ok temps places outs functions (length P.classes) loop (omega arith))))))
      statement_ok (e.ForOf fixed (Local i) list a) looped known h w le few at next out again lt nx ox ax =
          (let turn = at + size list + 1 + 1 + 1 in let pa = turn + item_size in let there = entry_within S.routine.locals (suc (suc i)) _ h.5 in
          let tl = params + suc i in let ti = params + suc (suc i) in
          glue (cd list 0 at (at + size list)) _ (typed_ok known list h.1 (within_front all _ _ w) (omega arith) 0 at (at + size list) (omega arith) (omega arith) (omega arith)) (
            copy_ok temps places outs functions (length P.classes) tl (base + 0) (omega arith) (omega arith),
            (
              const_ok temps places outs functions (length P.classes) (base + 0) (pos 0) (omega arith),
              (
                copy_ok temps places outs functions (length P.classes) ti (base + 0) (omega arith) (omega arith),
                (
                  length_ok temps places outs functions (length P.classes) (base + 0) tl (omega arith) (omega arith),
                  (
                    binary_ok temps places outs functions (length P.classes) (base + 0) 6 ti (base + 0) (omega arith) (omega arith) (omega arith),
                    (
                      branch_ok temps places outs functions (length P.classes) (base + 0) (turn + 1 + 1 + 1 + 1) (omega arith) (omega arith),
                      (
                        jump_ok temps places outs functions (length P.classes) next nx,
                        (
                          item_get_ok temps places outs functions (length P.classes) (params + i) tl ti (omega arith) (omega arith) (omega arith),
                          (
                            unary_ok temps places outs functions (length P.classes) ti 5 ti (omega arith) (omega arith),
                            next_op (sc a pa turn next turn) (o.Jump turn) (statement_ok a true (i ∷ known) h.6 (within_back all (repeated list) _ w) (omega arith) (omega arith) pa turn next turn (omega arith) (omega arith) nx (omega arith)) (jump_ok temps places outs functions (length P.classes) turn (omega arith)),
                          ),
                        ),
                      ),
                    ),
                  ),
                ),
              ),
            ),
          ))
      statement_ok (e.ForOf fixed (Param i) list a) looped known h w le few at next out again lt nx ox ax = absurd h
      statement_ok (e.ForOf fixed (Global g) list a) looped known h w le few at next out again lt nx ox ax = absurd h
      statement_ok (e.Return None) looped known h w le few at next out again lt nx ox ax = bare_ok maker this
      statement_ok (e.Return (Some a)) looped known h w le few at next out again lt nx ox ax =
          (let some = return_some maker in glue (cd a 0 at (at + size a)) (return_code maker base) (typed_ok known a (returned_ok known a (answer S) h) w few 0 at (at + size a) (omega arith) (omega arith) (omega arith)) (returns_ok maker this))
      statement_ok e.Break looped known h w le few at next out again lt nx ox ax = (jump_ok temps places outs functions (length P.classes) out ox, tt)
      statement_ok e.Continue looped known h w le few at next out again lt nx ox ax = (jump_ok temps places outs functions (length P.classes) again ax, tt)
      statement_ok (e.Plain a) looped known h w le few at next out again lt nx ox ax = typed_ok known a h w few 0 at next (omega arith) (omega arith) nx
      statement_ok e.Empty looped known h w le few at next out again lt nx ox ax = tt

      first_ok : (f : OptionalTypedStatement) (known : List ℕ) → IsSoundFirst P S f known → Within all (repeated_in_first f) → greatest_optional hold f ≤ operands → greatest_optional outgoing f ≤ outs
          → (at next out again : ℕ) → at + first_size maker f < places → next < places → out < places → again < places → Good (s.first_code P.classes repeating params base maker f at next out again)
      first_ok e.omitted known h w le few at next out again lt nx ox ax = tt
      first_ok (e.written (e.Let fixed each)) known h w le few at next out again lt nx ox ax = declared_ok known each h w le few at (omega arith)
      first_ok (e.written (e.Plain a)) known h w le few at next out again lt nx ox ax = typed_ok known a h w few 0 at next (omega arith) (omega arith) nx
      first_ok (e.written a) known h w le few at next out again lt nx ox ax = absurd h

      pub statements_ok : (ss : TypedStatements) (looped : Bool) (known : List ℕ) → AreSound P S ss looped known → Within all (repeated_in_all ss) → greatest_of hold ss ≤ operands → greatest_of outgoing ss ≤ outs
          → (at next out again : ℕ) → at + statements_size maker ss < places → next < places → out < places → again < places → Good (s.statements_code P.classes repeating params base maker ss at next out again)
      statements_ok e.done looped known h w le few at next out again lt nx ox ax = tt
      statements_ok (e.also a rest) looped known h w le few at next out again lt nx ox ax =
          (let p2 = at + statement_size maker a in
          glue (sc a at (behind (statements_size maker rest) p2 next) out again) _
          (statement_ok a looped known h.0 (within_front all _ _ w) (omega arith) (omega arith) at (behind (statements_size maker rest) p2 next) out again (omega arith) (behind_low (statements_size maker rest) p2 next (omega arith) nx) ox ax)
          (statements_ok rest looped _ h.1 (within_back all (repeated_in a) _ w) (omega arith) (omega arith) p2 next out again (omega arith) nx ox ax))
