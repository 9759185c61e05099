-- No call of a well-typed program has more arguments than a function may have parameters.
use Rattle.std.proofs.Common.{◌≡◌, ℕ, suc, ◌≤◌, List, [], ◌∷◌, length, Option, Some, None, Bool, true, refl, ap, arith}
use Rattle.sts_syntax.specs.declared.typed.Spot.TheVariants.{Param, Local, Global}
use Rattle.sts_syntax.specs.declared.typed.Callee.TheVariants as c
use Rattle.sts_syntax.specs.Types.{ValueType}
use Rattle.sts_syntax.specs.TypedTrees as e
use Rattle.sts_syntax.specs.TypedTrees.{TypedTree, TypedTrees, TypedStatement, TypedStatements, OptionalTypedStatement, TypedDeclaration, TypedRoutine, TypedProgram}
use Rattle.sts_syntax.specs.BoardTable as b
use Rattle.sts_syntax.specs.BoardTable.{BoardParameter, row_of}
use Rattle.sts_syntax.specs.Measures.{optional_size, greatest_first, greatest_in, greatest_optional, greatest_of, how_many, outgoing, outgoing_all}
use Rattle.sts_syntax.specs.TypeRules.{HasRoutine}
use Rattle.sts_syntax.specs.WellTyped.{Setting, IsTyped, IsTarget, AreGiven, AreItems, IsReturned, MayTest, MayStep, IsInitial, AreDeclared, IsSound, IsSoundFirst, AreSound, parameters_of, answer}

parameters_long : (us : List ValueType) → length (parameters_of us) ≡ length us
parameters_long [] = refl
parameters_long (u ∷ us) = ap suc (parameters_long us)

-- no call has more arguments than a function may have parameters
module _ (P : TypedProgram) (few : (f : ℕ) (r : TypedRoutine) → HasRoutine P f r → length r.params ≤ 8) (S : Setting) where
  module _ (known : List ℕ) where
    pub many : (us : List ValueType) (args : TypedTrees) → AreGiven P S known (parameters_of us) args → how_many args ≡ length us
    many [] e.none h = refl
    many (u ∷ us) (e.more a rest) h = ap suc (many us rest h.2)
    many [] (e.more a rest) h = absurd h
    many (u ∷ us) e.none h = absurd h

    mutual
      low : (a : TypedTree) → IsTyped P S known a → outgoing a ≤ 8
      low (e.Num u n) h = omega arith
      low (e.Text u n) h = omega arith
      low (e.Truth u n) h = omega arith
      low (e.Null u) h = omega arith
      low (e.This u) h = omega arith
      low (e.Name u x) h = omega arith
      low (e.Unary u op a) h = low a h.0
      low (e.Binary u op x y) h = omega (arith, low x h.0, low y h.1)
      low (e.Both u x y) h = omega (arith, low x h.0, low y h.1)
      low (e.Either u x y) h = omega (arith, low x h.0, low y h.1)
      low (e.Choice u test x y) h = omega (arith, low test h.0, low x h.1, low y h.2)
      low (e.Set u None x r) h = omega (arith, low_target x h.0, low r h.1)
      low (e.Set u (Some op) x r) h = omega (arith, low_target x h.0, low r h.1)
      low (e.Bump u x by late) h = low_target x h.0
      low (e.Field u a f) h = low a h.0
      low (e.Length u a) h = low a h.0
      low (e.Item u x y) h = omega (arith, low x h.0, low y h.1)
      low (e.Call u (c.Function f) args) h = omega (arith, many h.0.params args h.2, few f h.0 h.1, low_each h.0.params args h.2)
      low (e.Call u (c.Slot s) (e.more a rest)) h =
          (let params : length h.4.4.0.params ≡ suc (length h.1) = ap length h.4.4.3 in omega (arith, many h.1 rest h.5, few h.4.1 h.4.4.0 h.4.4.2, low a h.2, low_each h.1 rest h.5))
      low (e.Call u (c.Slot s) e.none) h = absurd h
      low (e.Call u c.Push (e.more x (e.more y e.none))) h = omega (arith, low x h.0, low y h.1)
      low (e.Call u c.Push e.none) h = absurd h
      low (e.Call u c.Push (e.more x e.none)) h = absurd h
      low (e.Call u c.Push (e.more x (e.more y (e.more z rest)))) h = absurd h
      low (e.Call u c.Pop (e.more x e.none)) h = omega (arith, low x h.0)
      low (e.Call u c.Pop e.none) h = absurd h
      low (e.Call u c.Pop (e.more x (e.more y rest))) h = absurd h
      low (e.Call u (c.Board call) args) h = omega (arith, low_given (row_of call).takes args h.0)
      low (e.SuperCall u f args) h =
          (let params : length h.1.10.0.params ≡ suc (length h.0) = ap length h.1.10.3 in omega (arith, many h.0 args h.2, few f h.1.10.0 h.1.10.2, low_each h.0 args h.2))
      low (e.Make u k args) h =
          (let params : length h.3.0.params ≡ suc (length h.1) = ap length h.3.3 in omega (arith, many h.1 args h.4, few h.0.maker h.3.0 h.3.2, low_each h.1 args h.4))
      low (e.Items u items) h = low_items h.0 items h.2
      low (e.Handler u f) h = absurd h

      low_target : (x : TypedTree) → IsTarget P S known x → outgoing x ≤ 8
      low_target (e.Name u x) h = omega arith
      low_target (e.Field u a f) h = low a h.0
      low_target (e.Item u x y) h = omega (arith, low x h.0, low y h.1)
      low_target x h = absurd h

      pub low_each : (us : List ValueType) (args : TypedTrees) → AreGiven P S known (parameters_of us) args → outgoing_all args ≤ 8
      low_each [] e.none h = omega arith
      low_each (u ∷ us) (e.more a rest) h = omega (arith, low a h.0, low_each us rest h.2)
      low_each [] (e.more a rest) h = absurd h
      low_each (u ∷ us) e.none h = absurd h

      low_given : (ps : List BoardParameter) (args : TypedTrees) → AreGiven P S known ps args → outgoing_all args ≤ 8
      low_given [] e.none h = omega arith
      low_given (b.Of u ∷ ps) (e.more a rest) h = omega (arith, low a h.0, low_given ps rest h.2)
      low_given (b.Handler ∷ ps) (e.more (e.Handler u f) rest) h = omega (arith, low_given ps rest h.1)
      low_given (b.Handler ∷ ps) (e.more a rest) h = absurd h.0
      low_given ps args h = absurd h

      low_items : (u : ValueType) (items : TypedTrees) → AreItems P S known u items → outgoing_all items ≤ 8
      low_items u e.none h = omega arith
      low_items u (e.more a rest) h = omega (arith, low a h.0, low_items u rest h.2)

    low_test : (t : Option TypedTree) → MayTest P S known t → optional_size outgoing t ≤ 8
    low_test None h = omega arith
    low_test (Some a) h = low a h.0

    low_step : (t : Option TypedTree) → MayStep P S known t → optional_size outgoing t ≤ 8
    low_step None h = omega arith
    low_step (Some a) h = low a h

    low_initial : (t : Option TypedTree) (u : ValueType) → IsInitial P S known t u → optional_size outgoing t ≤ 8
    low_initial None u h = omega arith
    low_initial (Some a) u h = low a h.0

    low_returned : (t : Option TypedTree) (o : Option ValueType) → IsReturned P S known t o → optional_size outgoing t ≤ 8
    low_returned t None h = absurd h
    low_returned None (Some u) h = omega arith
    low_returned (Some a) (Some u) h = low a h.0

  low_declared : (known : List ℕ) (ds : List TypedDeclaration) → AreDeclared P S known ds → greatest_first outgoing ds ≤ 8
  low_declared known [] h = omega arith
  low_declared known (d ∷ ds) h = omega (arith, low_initial known d.first h.0 h.2, low_declared _ ds h.3)

  mutual
    low_statement : (a : TypedStatement) (looped : Bool) (known : List ℕ) → IsSound P S a looped known → greatest_in outgoing a ≤ 8
    low_statement (e.Block ss) looped known h = low_statements ss looped known h
    low_statement (e.Let fixed each) looped known h = low_declared known each h
    low_statement (e.IfOnly test a) looped known h = omega (arith, low known test h.0.0, low_statement a looped known h.1)
    low_statement (e.IfElse test a o) looped known h = omega (arith, low known test h.0.0, low_statement a looped known h.1, low_statement o looped known h.2)
    low_statement (e.While test a) looped known h = omega (arith, low known test h.0.0, low_statement a true known h.1)
    low_statement (e.DoWhile a test) looped known h = omega (arith, low_statement a true known h.0, low known test h.1.0)
    low_statement (e.For first test step a) looped known h = omega (arith, low_first first known h.0, low_test _ test h.1, low_step _ step h.2, low_statement a true _ h.3)
    low_statement (e.ForOf fixed (Local i) list a) looped known h = omega (arith, low known list h.1, low_statement a true (i ∷ known) h.6)
    low_statement (e.ForOf fixed (Param i) list a) looped known h = absurd h
    low_statement (e.ForOf fixed (Global g) list a) looped known h = absurd h
    low_statement (e.Return value) looped known h = low_returned known value (answer S) h
    low_statement e.Break looped known h = omega arith
    low_statement e.Continue looped known h = omega arith
    low_statement (e.Plain a) looped known h = low known a h
    low_statement e.Empty looped known h = omega arith

    low_first : (f : OptionalTypedStatement) (known : List ℕ) → IsSoundFirst P S f known → greatest_optional outgoing f ≤ 8
    low_first e.omitted known h = omega arith
    low_first (e.written (e.Let fixed each)) known h = low_declared known each h
    low_first (e.written (e.Plain a)) known h = low known a h
    low_first (e.written a) known h = absurd h

    pub low_statements : (ss : TypedStatements) (looped : Bool) (known : List ℕ) → AreSound P S ss looped known → greatest_of outgoing ss ≤ 8
    low_statements e.done looped known h = omega arith
    low_statements (e.also a rest) looped known h = omega (arith, low_statement a looped known h.0, low_statements rest looped _ h.1)
