-- Code has no number and names no text but those of its trees, and the numbers 0 to 3 and 20.
use Rattle.std.proofs.Common.{ℕ, suc, ◌+◌, List, [], ◌∷◌, ◌++◌, length, Option, Some, None, Bool, true, false}
use Rattle.std.specs.Prelude.{ℤ, pos}
use Rattle.std.specs.List.{AllByRecursion}
use Rattle.flat_ir.specs.declared.ops.Op.{Op}
use Rattle.flat_ir.specs.declared.ops.Function.{Function}
use Rattle.sts_syntax.specs.declared.typed.Spot.{Spot}
use Rattle.sts_syntax.specs.declared.typed.Spot.TheVariants.{Param, Local, Global}
use Rattle.sts_syntax.specs.declared.typed.Callee.{Callee}
use Rattle.sts_syntax.specs.declared.typed.Callee.TheVariants as c
use Rattle.sts_syntax.specs.TypedTrees as e
use Rattle.sts_syntax.specs.TypedTrees.{TypedTree, TypedTrees, TypedStatement, TypedStatements, OptionalTypedStatement, TypedDeclaration, TypedRoutine, ClassEntry, TypedProgram}
use Rattle.sts_syntax.specs.declared.board_calls.BoardCall.{BoardCall}
use Rattle.sts_syntax.specs.declared.board_calls.BoardCall.TheVariants as b
use Rattle.sts_syntax.specs.BoardTable.{ServicePlace, Written, Always, BoardAction, Service, Library, Repeats, row_of, placed, arranged}
use Rattle.sts_syntax.specs.Nodes.{nodes, nodes_of, optional_nodes, declared_nodes, expressions, first_expressions, expressions_of, all_expressions}
use Rattle.sts_syntax.specs.WellTypedPrograms.{is_maker}
use Rattle.sts_lower.specs.Sizes.{Target, ToName, ToField, ToItem, ToNothing, target, size, reach_size, initial_size, test_size, item_size, statement_size, first_size, statements_size}
use Rattle.sts_lower.specs.Code as l
use Rattle.sts_lower.specs.Code.{Part, handler_of, truth_number}
use Rattle.sts_lower.specs.Statements as s
use Rattle.sts_lower.specs.Statements.{behind, bare_code, return_code}
use Rattle.sts_lower.specs.Lowered.{repeating_functions, repeated_in_program, repeating, lowered_routines, lowered}
use Rattle.lowered_code.specs.Texts.{Has, AllHave}

module _ (N : ℤ → Type 0) (T : ℕ → Type 0) where
  -- an expression that is a number or a text is such a one, and so is each of some
  abbrev pub IsIn : TypedTree → Type 0
  IsIn (e.Num u n) = N n
  IsIn (e.Text u n) = T n
  IsIn a = Unit {0}

  abbrev pub AreIn : List TypedTree → Type 0
  AreIn [] = Unit {0}
  AreIn (a ∷ rest) = IsIn a × AreIn rest

  front : (xs ys : List TypedTree) → AreIn (xs ++ ys) → AreIn xs
  front [] ys h = tt
  front (x ∷ xs) ys h = (h.0, front xs ys h.1)

  back : (xs ys : List TypedTree) → AreIn (xs ++ ys) → AreIn ys
  back [] ys h = h
  back (x ∷ xs) ys h = back xs ys h.1

  pub joined : (xs ys : List TypedTree) → AreIn xs → AreIn ys → AreIn (xs ++ ys)
  joined [] ys h g = g
  joined (x ∷ xs) ys h g = (h.0, joined xs ys h.1 g)

-- what holds of the numbers that lowering brings of its own: truth values and null, the modes of `led`, a click, and the pause of `forever`
pub record IsOwn (N : ℤ → Type 0) : Type 0 where
  pub zero : N (pos 0)
  pub one : N (pos 1)
  pub two : N (pos 2)
  pub three : N (pos 3)
  pub twenty : N (pos 20)

module _ (N : ℤ → Type 0) (T : ℕ → Type 0) (own : IsOwn N) where
  abbrev Good : List Op → Type 0
  Good ops = AllByRecursion (Has N T) ops

  glue : (xs ys : List Op) → Good xs → Good ys → Good (xs ++ ys)
  glue [] ys h g = g
  glue (x ∷ xs) ys h g = (h.0, glue xs ys h.1 g)

  -- the numbers that a service has of its own
  abbrev AreOwn : List ServicePlace → Type 0
  AreOwn [] = Unit {0}
  AreOwn (Written ∷ ps) = AreOwn ps
  AreOwn (Always n ∷ ps) = N n × AreOwn ps

  abbrev IsActionOwn : BoardAction → Type 0
  IsActionOwn (Service n ps) = AreOwn ps
  IsActionOwn (Library f) = Unit {0}
  IsActionOwn Repeats = Unit {0}

  row_own : (call : BoardCall) → IsActionOwn (row_of call).action
  row_own b.ClearScreen = (own.zero, tt)
  row_own b.Unplot = (own.zero, tt)
  row_own b.Plot = (own.one, tt)
  row_own b.Toggle = (own.two, tt)
  row_own b.OnButtonPressed = (own.three, tt)
  row_own call = tt

  truth_good : (b : Bool) → N (truth_number b)
  truth_good true = own.one
  truth_good false = own.zero

  get_good : (params to : ℕ) (x : Spot) → Has N T (l.get_op params to x)
  get_good params to (Param i) = tt
  get_good params to (Local i) = tt
  get_good params to (Global g) = tt

  set_good : (params from : ℕ) (x : Spot) → Has N T (l.set_op params from x)
  set_good params from (Param i) = tt
  set_good params from (Local i) = tt
  set_good params from (Global g) = tt

  bumped_good : (by : ℤ) (late : Bool) (to from : ℕ) → Has N T (l.bumped_op by late to from)
  bumped_good by true to from = tt
  bumped_good by false to from = tt

  bare_good : (m : Bool) (base : ℕ) → Good (bare_code m base)
  bare_good true base = (tt, (tt, tt))
  bare_good false base = (own.zero, (tt, tt))

  return_good : (m : Bool) (base : ℕ) → Good (return_code m base)
  return_good true base = (tt, (tt, tt))
  return_good false base = (tt, tt)

  module _ (classes : List ClassEntry) (repeating : ℕ → ℕ) (params base : ℕ) where
    abbrev cd : TypedTree → (d at next : ℕ) → List Op
    cd a d at next = l.code classes repeating params base a d at next

    record IsGood (q : Part) : Type 0 where
      pub ok : (d at : ℕ) → Good (q.ops d at)

    abbrev AreGood : List Part → Type 0
    AreGood [] = Unit {0}
    AreGood (q ∷ qs) = IsGood q × AreGood qs

    parts_good : (qs : List Part) (d at : ℕ) → AreGood qs → Good (l.parts_code classes repeating params base qs d at)
    parts_good [] d at h = tt
    parts_good (q ∷ qs) d at h = glue (q.ops d at) (l.parts_code classes repeating params base qs (suc d) (at + q.size)) (h.0.ok d at) (parts_good qs (suc d) (at + q.size) h.1)

    items_good : (qs : List Part) (d at : ℕ) → AreGood qs → Good (l.items_code classes repeating params base qs d at)
    items_good [] d at h = tt
    items_good (q ∷ qs) d at h = glue (q.ops (suc d) at) _ (h.0.ok (suc d) at) (tt, items_good qs d (at + q.size + 1) h.1)

    placed_good : (ps : List ServicePlace) (qs : List Part) → AreOwn ps → AreGood qs → AreGood (placed (l.number_part classes repeating params base) ps qs)
    placed_good [] qs o h = h
    placed_good (Written ∷ ps) [] o h = placed_good ps [] o h
    placed_good (Written ∷ ps) (q ∷ qs) o h = (h.0, placed_good ps qs o h.1)
    placed_good (Always n ∷ ps) qs o h = (record { ok = λ d at. (o.0, tt) }, placed_good ps qs o.1 h)

    arranged_good : (action : BoardAction) (qs : List Part) → IsActionOwn action → AreGood qs → AreGood (arranged (l.number_part classes repeating params base) action qs)
    arranged_good (Service n ps) qs o h = placed_good ps qs o h
    arranged_good (Library f) qs o h = h
    arranged_good Repeats qs o h = h

    arguments_good : (f : Callee) (qs : List Part) → AreGood qs → AreGood (l.arguments classes repeating params base f qs)
    arguments_good (c.Board call) qs h = arranged_good (row_of call).action qs (row_own call) h
    arguments_good (c.Function f) qs h = h
    arguments_good (c.Slot f) qs h = h
    arguments_good c.Push qs h = h
    arguments_good c.Pop qs h = h

    action_good : (action : BoardAction) (handler d n : ℕ) → Good (l.action_code classes repeating params base action handler d n)
    action_good (Service number ps) handler d n = (tt, tt)
    action_good (Library f) handler d n = (own.zero, tt)
    action_good Repeats handler d n = (tt, (tt, tt))

    call_good : (f : Callee) (handler d n : ℕ) → Good (l.call_code classes repeating params base f handler d n)
    call_good (c.Board call) handler d n = action_good (row_of call).action handler d n
    call_good (c.Function f) handler d n = (tt, tt)
    call_good (c.Slot f) handler d n = (tt, tt)
    call_good c.Push handler d n = (tt, tt)
    call_good c.Pop handler d n = (tt, tt)

    read_good : (x : Target) (d : ℕ) → Has N T (l.read_code classes repeating params base x d)
    read_good (ToName x) d = get_good params (base + d) x
    read_good (ToField f) d = tt
    read_good ToItem d = tt
    read_good ToNothing d = own.zero

    store_good : (x : Target) (d : ℕ) → Good (l.store_code classes repeating params base x d)
    store_good (ToName x) d = (set_good params (base + d) x, tt)
    store_good (ToField f) d = (tt, (tt, tt))
    store_good ToItem d = (tt, (tt, tt))
    store_good ToNothing d = tt

    bump_good : (x : Target) (by : ℤ) (late : Bool) (d : ℕ) → Good (l.bump_code classes repeating params base x by late d)
    bump_good (ToName (Param i)) by late d = (tt, (bumped_good by late (base + d) i, tt))
    bump_good (ToName (Local i)) by late d = (tt, (bumped_good by late (base + d) (params + i), tt))
    bump_good (ToName (Global g)) by true d = (tt, (tt, (tt, (tt, tt))))
    bump_good (ToName (Global g)) by false d = (tt, (tt, (tt, tt)))
    bump_good (ToField f) by late d = (tt, (tt, (tt, (bumped_good by late (base + d) (base + suc d), tt))))
    bump_good ToItem by late d = (tt, (tt, (tt, (bumped_good by late (base + d) (base + suc (suc d)), tt))))
    bump_good ToNothing by late d = (own.zero, tt)

    mutual
      tree_good : (a : TypedTree) → AreIn N T (nodes a) → (d at next : ℕ) → Good (cd a d at next)
      tree_good (e.Num u n) h d at next = (h.0, tt)
      tree_good (e.Text u n) h d at next = (h.0, tt)
      tree_good (e.Truth u b) h d at next = (truth_good b, tt)
      tree_good (e.Null u) h d at next = (own.zero, tt)
      tree_good (e.This u) h d at next = (tt, tt)
      tree_good (e.Name u x) h d at next = (get_good params (base + d) x, tt)
      tree_good (e.Unary u op a) h d at next = glue (cd a d at (at + size a)) _ (tree_good a h.1 d at (at + size a)) (tt, tt)
      tree_good (e.Binary u op x y) h d at next =
          glue (cd x d at (at + size x)) _ (tree_good x (front N T (nodes x) (nodes y) h.1) d at (at + size x))
          (glue (cd y (suc d) (at + size x) (at + size x + size y)) _ (tree_good y (back N T (nodes x) (nodes y) h.1) (suc d) (at + size x) (at + size x + size y)) (tt, tt))
      tree_good (e.Both u x y) h d at next =
          glue (cd x d at (at + size x)) _ (tree_good x (front N T (nodes x) (nodes y) h.1) d at (at + size x))
          (tt, (tt, tree_good y (back N T (nodes x) (nodes y) h.1) d (at + size x + 1 + 1) next))
      tree_good (e.Either u x y) h d at next =
          glue (cd x d at (at + size x)) _ (tree_good x (front N T (nodes x) (nodes y) h.1) d at (at + size x))
          (tt, tree_good y (back N T (nodes x) (nodes y) h.1) d (at + size x + 1) next)
      tree_good (e.Choice u test x y) h d at next =
          (let h2 = front N T (nodes test ++ nodes x) (nodes y) h.1 in
          glue (cd test d at (at + size test)) _ (tree_good test (front N T (nodes test) (nodes x) h2) d at (at + size test)) (
            tt,
            glue (cd y d (at + size test + 1) next) _ (tree_good y (back N T (nodes test ++ nodes x) (nodes y) h.1) d (at + size test + 1) next)
                (tt, tree_good x (back N T (nodes test) (nodes x) h2) d (at + size test + 1 + size y + 1) next),
          ))
      tree_good (e.Set u None x r) h d at next =
          (let v = l.stored_at classes repeating params base (target x) d in let pr = at + reach_size x in
          glue (l.reach_code classes repeating params base x d at) _ (reach_good x (front N T (nodes x) (nodes r) h.1) d at)
          (glue (cd r v pr (pr + size r)) _ (tree_good r (back N T (nodes x) (nodes r) h.1) v pr (pr + size r)) (store_good (target x) d)))
      tree_good (e.Set u (Some op) x r) h d at next =
          (let v = suc (l.stored_at classes repeating params base (target x) d) in let pr = at + reach_size x + 1 in
          glue (l.reach_code classes repeating params base x d at) _ (reach_good x (front N T (nodes x) (nodes r) h.1) d at)
          (read_good (target x) d, glue (cd r v pr (pr + size r)) _ (tree_good r (back N T (nodes x) (nodes r) h.1) v pr (pr + size r)) (tt, store_good (target x) d)))
      tree_good (e.Bump u x by late) h d at next = glue (l.reach_code classes repeating params base x d at) _ (reach_good x h.1 d at) (bump_good (target x) by late d)
      tree_good (e.Field u a f) h d at next = glue (cd a d at (at + size a)) _ (tree_good a h.1 d at (at + size a)) (tt, tt)
      tree_good (e.Length u a) h d at next = glue (cd a d at (at + size a)) _ (tree_good a h.1 d at (at + size a)) (tt, tt)
      tree_good (e.Item u x y) h d at next =
          glue (cd x d at (at + size x)) _ (tree_good x (front N T (nodes x) (nodes y) h.1) d at (at + size x))
          (glue (cd y (suc d) (at + size x) (at + size x + size y)) _ (tree_good y (back N T (nodes x) (nodes y) h.1) (suc d) (at + size x) (at + size x + size y)) (tt, tt))
      tree_good (e.Call u f args) h d at next =
          (let qs = l.arguments classes repeating params base f (l.parts classes repeating params base args) in
          glue (l.parts_code classes repeating params base qs d at) _ (parts_good qs d at (arguments_good f (l.parts classes repeating params base args) (each_good args h.1))) (call_good f (handler_of args) d (length qs)))
      tree_good (e.SuperCall u f args) h d at next =
          (let qs = l.parts classes repeating params base args in (tt, glue (l.parts_code classes repeating params base qs (suc d) (at + 1)) _ (parts_good qs (suc d) (at + 1) (each_good args h.1)) (tt, tt)))
      tree_good (e.Make u class args) h d at next =
          (let qs = l.parts classes repeating params base args in glue (l.parts_code classes repeating params base qs d at) _ (parts_good qs d at (each_good args h.1)) (tt, (tt, tt)))
      tree_good (e.Items u items) h d at next = (tt, items_good (l.parts classes repeating params base items) d (at + 1) (each_good items h.1))
      tree_good (e.Handler u f) h d at next = (tt, tt)

      each_good : (args : TypedTrees) → AreIn N T (nodes_of args) → AreGood (l.parts classes repeating params base args)
      each_good e.none h = tt
      each_good (e.more a rest) h = (record { ok = λ d at. tree_good a (front N T (nodes a) (nodes_of rest) h) d at (at + size a) }, each_good rest (back N T (nodes a) (nodes_of rest) h))

      reach_good : (x : TypedTree) → AreIn N T (nodes x) → (d at : ℕ) → Good (l.reach_code classes repeating params base x d at)
      reach_good (e.Field u a f) h d at = tree_good a h.1 d at (at + size a)
      reach_good (e.Item u x y) h d at =
          glue (cd x d at (at + size x)) (cd y (suc d) (at + size x) (at + size x + size y)) (tree_good x (front N T (nodes x) (nodes y) h.1) d at (at + size x))
          (tree_good y (back N T (nodes x) (nodes y) h.1) (suc d) (at + size x) (at + size x + size y))
      reach_good (e.Num u n) h d at = tt
      reach_good (e.Text u n) h d at = tt
      reach_good (e.Truth u b) h d at = tt
      reach_good (e.Null u) h d at = tt
      reach_good (e.This u) h d at = tt
      reach_good (e.Name u x) h d at = tt
      reach_good (e.Unary u op a) h d at = tt
      reach_good (e.Binary u op x y) h d at = tt
      reach_good (e.Both u x y) h d at = tt
      reach_good (e.Either u x y) h d at = tt
      reach_good (e.Choice u test x y) h d at = tt
      reach_good (e.Set u op x r) h d at = tt
      reach_good (e.Bump u x by late) h d at = tt
      reach_good (e.Length u a) h d at = tt
      reach_good (e.Call u f args) h d at = tt
      reach_good (e.SuperCall u f args) h d at = tt
      reach_good (e.Make u class args) h d at = tt
      reach_good (e.Items u items) h d at = tt
      reach_good (e.Handler u f) h d at = tt

    initial_good : (t : Option TypedTree) → AreIn N T (optional_nodes t) → (at : ℕ) → Good (s.initial_code classes repeating params base t at)
    initial_good None h at = (own.zero, tt)
    initial_good (Some a) h at = tree_good a h 0 at (at + size a)

    declared_good : (ds : List TypedDeclaration) → AreIn N T (declared_nodes ds) → (at : ℕ) → Good (s.declared_code classes repeating params base ds at)
    declared_good [] h at = tt
    declared_good (d ∷ ds) h at =
        glue (s.initial_code classes repeating params base d.first at) _ (initial_good d.first (front N T (optional_nodes d.first) (declared_nodes ds) h) at)
        (set_good params (base + 0) d.name, declared_good ds (back N T (optional_nodes d.first) (declared_nodes ds) h) (at + initial_size d.first + 1))

    test_good : (t : Option TypedTree) → AreIn N T (optional_nodes t) → (at next : ℕ) → Good (s.test_code classes repeating params base t at next)
    test_good None h at next = tt
    test_good (Some a) h at next = glue (cd a 0 at (at + size a)) _ (tree_good a h 0 at (at + size a)) (tt, (tt, tt))

    step_good : (t : Option TypedTree) → AreIn N T (optional_nodes t) → (at : ℕ) → Good (s.step_code classes repeating params base t at)
    step_good None h at = tt
    step_good (Some a) h at = tree_good a h 0 at (at + size a)

    module _ (maker : Bool) where
      abbrev sc : TypedStatement → (at next out again : ℕ) → List Op
      sc a at next out again = s.statement_code classes repeating params base maker a at next out again

      mutual
        statement_good : (a : TypedStatement) → AreIn N T (expressions a) → (at next out again : ℕ) → Good (sc a at next out again)
        statement_good (e.Block ss) h at next out again = statements_good ss h at next out again
        statement_good (e.Let fixed each) h at next out again = declared_good each h at
        statement_good (e.IfOnly test a) h at next out again =
            glue (cd test 0 at (at + size test)) _ (tree_good test (front N T (nodes test) (expressions a) h) 0 at (at + size test))
            (tt, (tt, statement_good a (back N T (nodes test) (expressions a) h) (at + size test + 1 + 1) next out again))
        statement_good (e.IfElse test a b) h at next out again =
            (let h2 = front N T (nodes test ++ expressions a) (expressions b) h in
            glue (cd test 0 at (at + size test)) _ (tree_good test (front N T (nodes test) (expressions a) h2) 0 at (at + size test)) (
              tt,
              glue (sc b (at + size test + 1) next out again) _ (statement_good b (back N T (nodes test ++ expressions a) (expressions b) h) (at + size test + 1) next out again)
                  (tt, statement_good a (back N T (nodes test) (expressions a) h2) (at + size test + 1 + statement_size maker b + 1) next out again),
            ))
        statement_good (e.While test a) h at next out again =
            (let turn = at + size test + 1 + 1 + statement_size maker a in
            glue (cd test 0 at (at + size test)) _ (tree_good test (front N T (nodes test) (expressions a) h) 0 at (at + size test))
            (tt, (tt, glue (sc a (at + size test + 1 + 1) turn next turn) _ (statement_good a (back N T (nodes test) (expressions a) h) (at + size test + 1 + 1) turn next turn) (tt, tt))))
        statement_good (e.DoWhile a test) h at next out again =
            (let turn = at + statement_size maker a in
            glue (sc a at turn next turn) _ (statement_good a (front N T (expressions a) (nodes test) h) at turn next turn)
            (glue (cd test 0 turn (turn + size test)) _ (tree_good test (back N T (expressions a) (nodes test) h) 0 turn (turn + size test)) (tt, (tt, (tt, tt)))))
        statement_good (e.For first test step a) h at next out again =
            (let loop = at + first_size maker first in let body = loop + test_size test in let turn = body + statement_size maker a in
            let h3 = front N T (first_expressions first ++ optional_nodes test ++ optional_nodes step) (expressions a) h in
            let h2 = front N T (first_expressions first ++ optional_nodes test) (optional_nodes step) h3 in
            glue (s.first_code classes repeating params base maker first at loop out again) _ (first_good first (front N T (first_expressions first) (optional_nodes test) h2) at loop out again)
            (glue (s.test_code classes repeating params base test loop next) _ (test_good test (back N T (first_expressions first) (optional_nodes test) h2) loop next)
            (glue (sc a body turn next turn) _ (statement_good a (back N T (first_expressions first ++ optional_nodes test ++ optional_nodes step) (expressions a) h) body turn next turn)
            (glue (s.step_code classes repeating params base step turn) _ (step_good step (back N T (first_expressions first ++ optional_nodes test) (optional_nodes step) h3) turn) (tt, tt)))))
        statement_good (e.ForOf fixed (Local i) list a) h at next out again =
            (let turn = at + size list + 1 + 1 + 1 in
            glue (cd list 0 at (at + size list)) _ (tree_good list (front N T (nodes list) (expressions a) h) 0 at (at + size list)) (
              tt,
              (
                own.zero,
                (
                  tt,
                  (
                    tt,
                    (
                      tt,
                      (
                        tt,
                        (
                          tt,
                          (
                            tt,
                            (
                              tt,
                              glue (sc a (turn + item_size) turn next turn) _ (statement_good a (back N T (nodes list) (expressions a) h) (turn + item_size) turn next turn) (tt, tt),
                            ),
                          ),
                        ),
                      ),
                    ),
                  ),
                ),
              ),
            ))
        statement_good (e.ForOf fixed (Param i) list a) h at next out again = (tt, tt)
        statement_good (e.ForOf fixed (Global g) list a) h at next out again = (tt, tt)
        statement_good (e.Return None) h at next out again = bare_good maker base
        statement_good (e.Return (Some a)) h at next out again = glue (cd a 0 at (at + size a)) _ (tree_good a h 0 at (at + size a)) (return_good maker base)
        statement_good e.Break h at next out again = (tt, tt)
        statement_good e.Continue h at next out again = (tt, tt)
        statement_good (e.Plain a) h at next out again = tree_good a h 0 at next
        statement_good e.Empty h at next out again = tt

        first_good : (f : OptionalTypedStatement) → AreIn N T (first_expressions f) → (at next out again : ℕ) → Good (s.first_code classes repeating params base maker f at next out again)
        first_good e.omitted h at next out again = tt
        first_good (e.written a) h at next out again = statement_good a h at next out again

        pub statements_good : (ss : TypedStatements) → AreIn N T (expressions_of ss) → (at next out again : ℕ) → Good (s.statements_code classes repeating params base maker ss at next out again)
        statements_good e.done h at next out again = tt
        statements_good (e.also a rest) h at next out again =
            (let p2 = at + statement_size maker a in let n = behind (statements_size maker rest) p2 next in
            glue (sc a at n out again) _ (statement_good a (front N T (expressions a) (expressions_of rest) h) at n out again)
            (statements_good rest (back N T (expressions a) (expressions_of rest) h) p2 next out again))

  pub both_named : (xs ys : List Function) → AllByRecursion (AllHave N T) xs → AllByRecursion (AllHave N T) ys → AllByRecursion (AllHave N T) (xs ++ ys)
  both_named [] ys h g = g
  both_named (x ∷ xs) ys h g = (h.0, both_named xs ys h.1 g)

  pub routines_named : (P : TypedProgram) (f : ℕ) (rs : List TypedRoutine) → AreIn N T (all_expressions rs) → AllByRecursion (AllHave N T) (lowered_routines P f rs)
  routines_named P f [] h = tt
  routines_named P f (r ∷ rs) h =
      let maker = is_maker P.classes f in
      let base = length r.params + length r.locals in
      let end = statements_size maker r.all in (
        glue (s.statements_code P.classes (repeating P) (length r.params) base maker r.all 0 end end end) _
            (statements_good P.classes (repeating P) (length r.params) base maker r.all (front N T (expressions_of r.all) (all_expressions rs) h) 0 end end end) (bare_good maker base),
        routines_named P (suc f) rs (back N T (expressions_of r.all) (all_expressions rs) h),
      )

  pub copies_named : (fs : List ℕ) → AllByRecursion (AllHave N T) (repeating_functions fs)
  copies_named [] = tt
  copies_named (f ∷ fs) = ((tt, (own.twenty, (tt, (tt, tt)))), copies_named fs)

  pub program_has : (P : TypedProgram) → AreIn N T (all_expressions P.functions) → AllByRecursion (AllHave N T) (lowered P).functions
  program_has P h =
      both_named (lowered_routines P 0 P.functions) (repeating_functions (repeated_in_program P)) (routines_named P 0 P.functions h) (copies_named (repeated_in_program P))
