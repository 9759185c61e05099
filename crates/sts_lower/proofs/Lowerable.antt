-- What a well-typed program offers to the code that lowers it.
use Rattle.std.proofs.Common.{◌≡◌, ℕ, zero, suc, ◌+◌, ◌<◌, ◌^◌, List, [], ◌∷◌, length, Bool, true, false, Option, Some, None, arith}
use Rattle.sts_syntax.specs.declared.typed.Spot.{Spot}
use Rattle.sts_syntax.specs.declared.typed.Spot.TheVariants.{Param, Local, Global}
use Rattle.sts_syntax.specs.declared.typed.Callee.TheVariants as c
use Rattle.sts_syntax.specs.Types.{ValueType}
use Rattle.sts_syntax.specs.TypedTrees as e
use Rattle.sts_syntax.specs.TypedTrees.{TypedTree, TypedTrees, TypedStatement, TypedStatements, OptionalTypedStatement, TypedDeclaration, TypedRoutine, TypedProgram}
use Rattle.sts_syntax.specs.BoardTable as b
use Rattle.sts_syntax.specs.BoardTable.{BoardParameter, row_of}
use Rattle.sts_syntax.specs.TypeRules.{entry}
use Rattle.sts_syntax.specs.WellTyped as t
use Rattle.sts_syntax.specs.WellTyped.{Setting, parameters_of, known_with, known_after, known_after_first, answer}
use Rattle.sts_syntax.specs.WellTypedPrograms.{IsBodyOf}
use Rattle.sts_lower.specs.inner.Fitting.{LocalFits, IsLowerable, AreLowerable, IsTarget, IsLowerableIfAny, AreDeclared, IsStatement, IsFirst, AreStatements}

entry_below : {X : Type 0} (xs : List X) (i : ℕ) (x : X) → entry xs i ≡ Some x → i < length xs
entry_below [] i x is = absurd (cc)
entry_below (y ∷ ys) zero x is = omega arith
entry_below (y ∷ ys) (suc i) x is = omega (arith, entry_below ys i x is)

module _ (P : TypedProgram) (S : Setting) (params : ℕ) (few : params + length S.routine.locals < 2 ^ 32) where
  local_fits : (i : ℕ) (u : ValueType) → entry S.routine.locals i ≡ Some u → params + i < 2 ^ 32
  local_fits i u is = omega (arith, entry_below S.routine.locals i u is)

  spot_fits : (known : List ℕ) (x : Spot) (u : ValueType) → t.Has P S known x u → LocalFits params x
  spot_fits known (Param i) u is = tt
  spot_fits known (Local i) u is = local_fits i u is.1
  spot_fits known (Global g) u is = tt

  declared_fits : (x : Spot) (u : ValueType) → t.MayDeclare P S x u → LocalFits params x
  declared_fits (Param i) u is = absurd is
  declared_fits (Local i) u is = local_fits i u is
  declared_fits (Global g) u is = tt

  handler_is : (a : TypedTree) → t.IsHandler P a → IsLowerable params a
  handler_is (e.Handler u f) is = tt
  handler_is a is = absurd is

  mutual
    typed_is : (known : List ℕ) (a : TypedTree) → t.IsTyped P S known a → IsLowerable params a
    typed_is known (e.Num u n) is = tt
    typed_is known (e.Text u n) is = tt
    typed_is known (e.Truth u b) is = tt
    typed_is known (e.Null u) is = tt
    typed_is known (e.This u) is = tt
    typed_is known (e.Name u x) is = spot_fits known x u is
    typed_is known (e.Unary u op a) is = typed_is known a is.0
    typed_is known (e.Binary u op a b) is = (typed_is known a is.0, typed_is known b is.1)
    typed_is known (e.Both u a b) is = (typed_is known a is.0, typed_is known b is.1)
    typed_is known (e.Either u a b) is = (typed_is known a is.0, typed_is known b is.1)
    typed_is known (e.Choice u test a b) is = (typed_is known test is.0, typed_is known a is.1, typed_is known b is.2)
    typed_is known (e.Set u None x r) is = (target_is known x is.0, typed_is known r is.1)
    typed_is known (e.Set u (Some op) x r) is = (target_is known x is.0, typed_is known r is.1)
    typed_is known (e.Bump u x by late) is = target_is known x is.0
    typed_is known (e.Field u a f) is = typed_is known a is.0
    typed_is known (e.Length u a) is = typed_is known a is.0
    typed_is known (e.Item u a i) is = (typed_is known a is.0, typed_is known i is.1)
    typed_is known (e.Call u (c.Function f) args) is = given_are known (parameters_of is.0.params) args is.2
    typed_is known (e.Call u (c.Slot s) args) is = sent_are known s u args is
    typed_is known (e.Call u c.Push args) is = pushed_are known u args is
    typed_is known (e.Call u c.Pop args) is = popped_are known u args is
    typed_is known (e.Call u (c.Board call) args) is = given_are known (row_of call).takes args is.0
    typed_is known (e.SuperCall u f args) is = given_are known (parameters_of is.0) args is.2
    typed_is known (e.Make u k args) is = given_are known (parameters_of is.1) args is.4
    typed_is known (e.Items u items) is = items_are known is.0 items is.2
    typed_is known (e.Handler u f) is = tt

    target_is : (known : List ℕ) (a : TypedTree) → t.IsTarget P S known a → IsTarget params a
    target_is known (e.Name u x) is = spot_fits known x u is
    target_is known (e.Field u a f) is = typed_is known a is.0
    target_is known (e.Item u a i) is = (typed_is known a is.0, typed_is known i is.1)
    target_is known a is = absurd is

    given_are : (known : List ℕ) (ps : List BoardParameter) (args : TypedTrees) → t.AreGiven P S known ps args → AreLowerable params args
    given_are known [] e.none is = tt
    given_are known [] (e.more a rest) is = absurd is
    given_are known (b.Of u ∷ ps) (e.more a rest) is = (typed_is known a is.0, given_are known ps rest is.2)
    given_are known (b.Handler ∷ ps) (e.more a rest) is = (handler_is a is.0, given_are known ps rest is.1)
    given_are known (b.Drawing ∷ ps) args is = absurd is
    given_are known (b.Of u ∷ ps) e.none is = absurd is
    given_are known (b.Handler ∷ ps) e.none is = absurd is

    sent_are : (known : List ℕ) (s : ℕ) (u : ValueType) (args : TypedTrees) → t.IsSent P S known s u args → AreLowerable params args
    sent_are known s u e.none is = absurd is
    sent_are known s u (e.more a rest) is = (typed_is known a is.2, given_are known (parameters_of is.1) rest is.5)

    pushed_are : (known : List ℕ) (u : ValueType) (args : TypedTrees) → t.IsPushed P S known u args → AreLowerable params args
    pushed_are known u (e.more a (e.more b e.none)) is = (typed_is known a is.0, (typed_is known b is.1, tt))
    pushed_are known u args is = absurd is

    popped_are : (known : List ℕ) (u : ValueType) (args : TypedTrees) → t.IsPopped P S known u args → AreLowerable params args
    popped_are known u (e.more a e.none) is = (typed_is known a is.0, tt)
    popped_are known u args is = absurd is

    items_are : (known : List ℕ) (u : ValueType) (items : TypedTrees) → t.AreItems P S known u items → AreLowerable params items
    items_are known u e.none is = tt
    items_are known u (e.more a rest) is = (typed_is known a is.0, items_are known u rest is.2)

  may_test : (known : List ℕ) (a : Option TypedTree) → t.MayTest P S known a → IsLowerableIfAny params a
  may_test known None is = tt
  may_test known (Some a) is = typed_is known a is.0

  may_step : (known : List ℕ) (a : Option TypedTree) → t.MayStep P S known a → IsLowerableIfAny params a
  may_step known None is = tt
  may_step known (Some a) is = typed_is known a is

  initial_is : (known : List ℕ) (a : Option TypedTree) (u : ValueType) → t.IsInitial P S known a u → IsLowerableIfAny params a
  initial_is known None u is = tt
  initial_is known (Some a) u is = typed_is known a is.0

  returned_is : (known : List ℕ) (a : Option TypedTree) (u : Option ValueType) → t.IsReturned P S known a u → IsLowerableIfAny params a
  returned_is known a None is = absurd is
  returned_is known None (Some u) is = tt
  returned_is known (Some a) (Some u) is = typed_is known a is.0

  declared_are : (known : List ℕ) (each : List TypedDeclaration) → t.AreDeclared P S known each → AreDeclared params each
  declared_are known [] is = tt
  declared_are known (d ∷ rest) is = (declared_fits d.name is.0 is.1, initial_is known d.first is.0 is.2, declared_are (known_with d.name known) rest is.3)

  mutual
    sound_is : (a : TypedStatement) (looped : Bool) (known : List ℕ) → t.IsSound P S a looped known → IsStatement params a
    sound_is (e.Block all) looped known is = sound_are all looped known is
    sound_is (e.Let fixed each) looped known is = declared_are known each is
    sound_is (e.IfOnly test a) looped known is = (typed_is known test is.0.0, sound_is a looped known is.1)
    sound_is (e.IfElse test a o) looped known is = (typed_is known test is.0.0, sound_is a looped known is.1, sound_is o looped known is.2)
    sound_is (e.While test a) looped known is = (typed_is known test is.0.0, sound_is a true known is.1)
    sound_is (e.DoWhile a test) looped known is = (sound_is a true known is.0, typed_is known test is.1.0)
    sound_is (e.For first test step a) looped known is =
        let inside = known_after_first first known in
        (first_is first known is.0, may_test inside test is.1, may_step inside step is.2, sound_is a true inside is.3)
    sound_is (e.ForOf fixed (Local i) list a) looped known is =
        (local_fits (suc (suc i)) _ is.5, typed_is known list is.1, sound_is a true (i ∷ known) is.6)
    sound_is (e.ForOf fixed (Param i) list a) looped known is = absurd is
    sound_is (e.ForOf fixed (Global g) list a) looped known is = absurd is
    sound_is (e.Return value) looped known is = returned_is known value (answer S) is
    sound_is e.Break looped known is = tt
    sound_is e.Continue looped known is = tt
    sound_is (e.Plain a) looped known is = typed_is known a is
    sound_is e.Empty looped known is = tt

    first_is : (first : OptionalTypedStatement) (known : List ℕ) → t.IsSoundFirst P S first known → IsFirst params first
    first_is e.omitted known is = tt
    first_is (e.written (e.Let fixed each)) known is = declared_are known each is
    first_is (e.written (e.Plain a)) known is = typed_is known a is
    first_is (e.written a) known is = absurd is

    sound_are : (all : TypedStatements) (looped : Bool) (known : List ℕ) → t.AreSound P S all looped known → AreStatements params all
    sound_are e.done looped known is = tt
    sound_are (e.also a rest) looped known is = (sound_is a looped known is.0, sound_are rest looped (known_after a known) is.1)

  pub body_is : (base : Option ℕ) (all : TypedStatements) → IsBodyOf P base S all → AreStatements params all
  body_is None all is = sound_are all false [] is
  body_is (Some base) (e.also (e.Plain (e.SuperCall u f args)) rest) is = (given_are [] (parameters_of is.1) args is.5, sound_are rest false [] is.7)
  body_is (Some base) all is = absurd is
