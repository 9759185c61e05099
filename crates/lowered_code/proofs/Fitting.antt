-- Every number of a well-typed program's trees has 32 bits.
use Rattle.std.proofs.Common.{◌≡◌, ℕ, suc, List, [], ◌∷◌, ◌++◌, Bool, true, false, Option, Some, None, refl, ltb-true}
use Rattle.std.specs.Prelude.{ℤ, pos, negsuc, FitsSigned}
use Rattle.std.specs.Int.{w32}
use Rattle.sts_syntax.specs.declared.typed.Spot.TheVariants.{Param, Local, Global}
use Rattle.sts_syntax.specs.declared.typed.Callee.TheVariants as c
use Rattle.sts_syntax.specs.Types.{ValueType}
use Rattle.sts_syntax.specs.TypedTrees as e
use Rattle.sts_syntax.specs.TypedTrees.{TypedTree, TypedTrees, TypedStatement, TypedStatements, OptionalTypedStatement, TypedDeclaration, TypedRoutine, TypedProgram}
use Rattle.sts_syntax.specs.BoardTable as b
use Rattle.sts_syntax.specs.BoardTable.{BoardParameter, row_of}
use Rattle.sts_syntax.specs.TypeRules.{entry, is_int32}
use Rattle.sts_syntax.specs.WellTyped as t
use Rattle.sts_syntax.specs.WellTyped.{Setting, parameters_of, known_with, known_after, known_after_first, answer}
use Rattle.sts_syntax.specs.WellTypedPrograms.{IsWellTyped, IsBodyOf, base_of_maker, setting}
use Rattle.sts_syntax.specs.Nodes.{nodes, nodes_of, optional_nodes, declared_nodes, expressions, first_expressions, expressions_of, all_expressions}
use Rattle.lowered_code.proofs.Owned.{AreIn, joined}

abbrev Num32 : ℤ → Type 0
Num32 n = FitsSigned w32 n

abbrev Any : ℕ → Type 0
Any n = Unit {0}

abbrev In : List TypedTree → Type 0
In xs = AreIn Num32 Any xs

glue : (xs ys : List TypedTree) → In xs → In ys → In (xs ++ ys)
glue xs ys h g = joined Num32 Any xs ys h g

fits : (n : ℤ) → is_int32 n ≡ true → Num32 n
fits (pos n) is = record { sfits = ltb-true _ _ is }
fits (negsuc n) is = record { sfits = ltb-true _ _ is }

module _ (P : TypedProgram) (S : Setting) where
  handler_is : (a : TypedTree) → t.IsHandler P a → In (nodes a)
  handler_is (e.Handler u f) is = (tt, tt)
  handler_is a is = absurd is

  mutual
    typed_is : (known : List ℕ) (a : TypedTree) → t.IsTyped P S known a → In (nodes a)
    typed_is known (e.Num u n) is = (fits n is.1, tt)
    typed_is known (e.Text u n) is = (tt, tt)
    typed_is known (e.Truth u b) is = (tt, tt)
    typed_is known (e.Null u) is = (tt, tt)
    typed_is known (e.This u) is = (tt, tt)
    typed_is known (e.Name u x) is = (tt, tt)
    typed_is known (e.Unary u op a) is = (tt, typed_is known a is.0)
    typed_is known (e.Binary u op a b) is = (tt, glue (nodes a) (nodes b) (typed_is known a is.0) (typed_is known b is.1))
    typed_is known (e.Both u a b) is = (tt, glue (nodes a) (nodes b) (typed_is known a is.0) (typed_is known b is.1))
    typed_is known (e.Either u a b) is = (tt, glue (nodes a) (nodes b) (typed_is known a is.0) (typed_is known b is.1))
    typed_is known (e.Choice u test a b) is =
        (tt, glue (nodes test ++ nodes a) (nodes b) (glue (nodes test) (nodes a) (typed_is known test is.0) (typed_is known a is.1)) (typed_is known b is.2))
    typed_is known (e.Set u None x r) is = (tt, glue (nodes x) (nodes r) (target_is known x is.0) (typed_is known r is.1))
    typed_is known (e.Set u (Some op) x r) is = (tt, glue (nodes x) (nodes r) (target_is known x is.0) (typed_is known r is.1))
    typed_is known (e.Bump u x by late) is = (tt, target_is known x is.0)
    typed_is known (e.Field u a f) is = (tt, typed_is known a is.0)
    typed_is known (e.Length u a) is = (tt, typed_is known a is.0)
    typed_is known (e.Item u a i) is = (tt, glue (nodes a) (nodes i) (typed_is known a is.0) (typed_is known i is.1))
    typed_is known (e.Call u (c.Function f) args) is = (tt, given_are known (parameters_of is.0.params) args is.2)
    typed_is known (e.Call u (c.Slot s) args) is = (tt, sent_are known s u args is)
    typed_is known (e.Call u c.Push args) is = (tt, pushed_are known u args is)
    typed_is known (e.Call u c.Pop args) is = (tt, popped_are known u args is)
    typed_is known (e.Call u (c.Board call) args) is = (tt, given_are known (row_of call).takes args is.0)
    typed_is known (e.SuperCall u f args) is = (tt, given_are known (parameters_of is.0) args is.2)
    typed_is known (e.Make u k args) is = (tt, given_are known (parameters_of is.1) args is.4)
    typed_is known (e.Items u items) is = (tt, items_are known is.0 items is.2)
    typed_is known (e.Handler u f) is = absurd is

    target_is : (known : List ℕ) (a : TypedTree) → t.IsTarget P S known a → In (nodes a)
    target_is known (e.Name u x) is = (tt, tt)
    target_is known (e.Field u a f) is = (tt, typed_is known a is.0)
    target_is known (e.Item u a i) is = (tt, glue (nodes a) (nodes i) (typed_is known a is.0) (typed_is known i is.1))
    target_is known a is = absurd is

    given_are : (known : List ℕ) (ps : List BoardParameter) (args : TypedTrees) → t.AreGiven P S known ps args → In (nodes_of args)
    given_are known [] e.none is = tt
    given_are known [] (e.more a rest) is = absurd is
    given_are known (b.Of u ∷ ps) (e.more a rest) is = glue (nodes a) (nodes_of rest) (typed_is known a is.0) (given_are known ps rest is.2)
    given_are known (b.Handler ∷ ps) (e.more a rest) is = glue (nodes a) (nodes_of rest) (handler_is a is.0) (given_are known ps rest is.1)
    given_are known (b.Drawing ∷ ps) args is = absurd is
    given_are known (b.Of u ∷ ps) e.none is = absurd is
    given_are known (b.Handler ∷ ps) e.none is = absurd is

    sent_are : (known : List ℕ) (s : ℕ) (u : ValueType) (args : TypedTrees) → t.IsSent P S known s u args → In (nodes_of args)
    sent_are known s u e.none is = absurd is
    sent_are known s u (e.more a rest) is = glue (nodes a) (nodes_of rest) (typed_is known a is.2) (given_are known (parameters_of is.1) rest is.5)

    pushed_are : (known : List ℕ) (u : ValueType) (args : TypedTrees) → t.IsPushed P S known u args → In (nodes_of args)
    pushed_are known u (e.more a (e.more b e.none)) is = glue (nodes a) (nodes_of (e.more b e.none)) (typed_is known a is.0) (glue (nodes b) [] (typed_is known b is.1) tt)
    pushed_are known u args is = absurd is

    popped_are : (known : List ℕ) (u : ValueType) (args : TypedTrees) → t.IsPopped P S known u args → In (nodes_of args)
    popped_are known u (e.more a e.none) is = glue (nodes a) [] (typed_is known a is.0) tt
    popped_are known u args is = absurd is

    items_are : (known : List ℕ) (u : ValueType) (items : TypedTrees) → t.AreItems P S known u items → In (nodes_of items)
    items_are known u e.none is = tt
    items_are known u (e.more a rest) is = glue (nodes a) (nodes_of rest) (typed_is known a is.0) (items_are known u rest is.2)

  may_test : (known : List ℕ) (a : Option TypedTree) → t.MayTest P S known a → In (optional_nodes a)
  may_test known None is = tt
  may_test known (Some a) is = typed_is known a is.0

  may_step : (known : List ℕ) (a : Option TypedTree) → t.MayStep P S known a → In (optional_nodes a)
  may_step known None is = tt
  may_step known (Some a) is = typed_is known a is

  initial_is : (known : List ℕ) (a : Option TypedTree) (u : ValueType) → t.IsInitial P S known a u → In (optional_nodes a)
  initial_is known None u is = tt
  initial_is known (Some a) u is = typed_is known a is.0

  returned_is : (known : List ℕ) (a : Option TypedTree) (u : Option ValueType) → t.IsReturned P S known a u → In (optional_nodes a)
  returned_is known a None is = absurd is
  returned_is known None (Some u) is = tt
  returned_is known (Some a) (Some u) is = typed_is known a is.0

  declared_are : (known : List ℕ) (each : List TypedDeclaration) → t.AreDeclared P S known each → In (declared_nodes each)
  declared_are known [] is = tt
  declared_are known (d ∷ rest) is =
      glue (optional_nodes d.first) (declared_nodes rest) (initial_is known d.first is.0 is.2) (declared_are (known_with d.name known) rest is.3)

  mutual
    sound_is : (a : TypedStatement) (looped : Bool) (known : List ℕ) → t.IsSound P S a looped known → In (expressions a)
    sound_is (e.Block all) looped known is = sound_are all looped known is
    sound_is (e.Let fixed each) looped known is = declared_are known each is
    sound_is (e.IfOnly test a) looped known is = glue (nodes test) (expressions a) (typed_is known test is.0.0) (sound_is a looped known is.1)
    sound_is (e.IfElse test a o) looped known is =
        glue (nodes test ++ expressions a) (expressions o) (glue (nodes test) (expressions a) (typed_is known test is.0.0) (sound_is a looped known is.1)) (sound_is o looped known is.2)
    sound_is (e.While test a) looped known is = glue (nodes test) (expressions a) (typed_is known test is.0.0) (sound_is a true known is.1)
    sound_is (e.DoWhile a test) looped known is = glue (expressions a) (nodes test) (sound_is a true known is.0) (typed_is known test is.1.0)
    sound_is (e.For first test step a) looped known is =
        let inside = known_after_first first known in
        glue (first_expressions first ++ optional_nodes test ++ optional_nodes step) (expressions a)
        (glue (first_expressions first ++ optional_nodes test) (optional_nodes step)
        (glue (first_expressions first) (optional_nodes test) (first_is first known is.0) (may_test inside test is.1)) (may_step inside step is.2))
        (sound_is a true inside is.3)
    sound_is (e.ForOf fixed (Local i) list a) looped known is = glue (nodes list) (expressions a) (typed_is known list is.1) (sound_is a true (i ∷ known) is.6)
    sound_is (e.ForOf fixed (Param i) list a) looped known is = absurd is
    sound_is (e.ForOf fixed (Global g) list a) looped known is = absurd is
    sound_is (e.Return value) looped known is = returned_is known value (answer S) is
    sound_is e.Break looped known is = tt
    sound_is e.Continue looped known is = tt
    sound_is (e.Plain a) looped known is = typed_is known a is
    sound_is e.Empty looped known is = tt

    first_is : (first : OptionalTypedStatement) (known : List ℕ) → t.IsSoundFirst P S first known → In (first_expressions first)
    first_is e.omitted known is = tt
    first_is (e.written (e.Let fixed each)) known is = declared_are known each is
    first_is (e.written (e.Plain a)) known is = typed_is known a is
    first_is (e.written a) known is = absurd is

    sound_are : (all : TypedStatements) (looped : Bool) (known : List ℕ) → t.AreSound P S all looped known → In (expressions_of all)
    sound_are e.done looped known is = tt
    sound_are (e.also a rest) looped known is = glue (expressions a) (expressions_of rest) (sound_is a looped known is.0) (sound_are rest looped (known_after a known) is.1)

  body_is : (base : Option ℕ) (all : TypedStatements) → IsBodyOf P base S all → In (expressions_of all)
  body_is None all is = sound_are all false [] is
  body_is (Some base) (e.also (e.Plain (e.SuperCall u f args)) rest) is = (tt, glue (nodes_of args) (expressions_of rest) (given_are [] (parameters_of is.1) args is.5) (sound_are rest false [] is.7))
  body_is (Some base) all is = absurd is

all_in : (rs : List TypedRoutine) → ((f : ℕ) (r : TypedRoutine) → entry rs f ≡ Some r → In (expressions_of r.all)) → In (all_expressions rs)
all_in [] each = tt
all_in (r ∷ rs) each = glue (expressions_of r.all) (all_expressions rs) (each 0 r refl) (all_in rs (λ f x is. each (suc f) x is))

pub numbers_fit : (P : TypedProgram) → IsWellTyped P → AreIn (λ n. FitsSigned w32 n) (λ n. Unit {0}) (all_expressions P.functions)
numbers_fit P well = all_in P.functions (λ f r is. body_is P (setting P f r) (base_of_maker P P.classes f) r.all (well.functions f r is).body)
