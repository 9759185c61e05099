-- The functions that `forever` repeats are functions of the program.
use Rattle.std.proofs.Common.{◌≡◌, ℕ, zero, suc, ◌<◌, List, [], ◌∷◌, ◌++◌, length, Option, Some, None, refl, ⊎_elim, arith}
use Rattle.std.specs.List.{AllByRecursion}
use Rattle.sts_syntax.specs.declared.typed.Callee.TheVariants as c
use Rattle.sts_syntax.specs.declared.board_calls.BoardCall.{BoardCall}
use Rattle.sts_syntax.specs.declared.board_calls.BoardCall.TheVariants as bc
use Rattle.sts_syntax.specs.TypedTrees as e
use Rattle.sts_syntax.specs.TypedTrees.{TypedTree, TypedTrees, TypedStatement, TypedStatements, OptionalTypedStatement, TypedDeclaration, TypedRoutine}
use Rattle.sts_syntax.specs.BoardTable as b
use Rattle.sts_syntax.specs.BoardTable.{BoardParameter, row_of}
use Rattle.sts_syntax.specs.TypeRules.{entry, IsOneOf}
use Rattle.sts_lower.specs.Code.{handler_of}
use Rattle.sts_lower.specs.Repeated.{repeated_by, repeated, repeated_each, optionally_repeated, repeated_first, repeated_in, repeated_in_first, repeated_in_all, repeated_in_each}
use Rattle.lowered_code.specs.Fine.{Fine, FineTarget, FineEach, FineGiven, FineOption, FineDeclared, FineStatement, FineFirst, FineStatements}

module _ (n : ℕ) (l : List ℕ) where
  abbrev pub Below : List ℕ → Type 0
  Below gs = AllByRecursion (λ g. g < n) gs

  both : (xs ys : List ℕ) → Below xs → Below ys → Below (xs ++ ys)
  both [] ys h g = g
  both (x ∷ xs) ys h g = (h.0, both xs ys h.1 g)

  pub one_below : (gs : List ℕ) (g : ℕ) → Below gs → IsOneOf g gs → g < n
  one_below [] g h i = absurd i
  one_below (x ∷ gs) g h i = ⊎_elim (λ e. omega (arith, h.0)) (λ r. one_below gs g h.1 r) i

  module _ (p q : ℕ) where
    handler_low : (call : BoardCall) (args : TypedTrees) → FineGiven n l p q (row_of call).takes args → Below (repeated_by (row_of call).action (handler_of args))
    handler_low bc.Forever (e.more (e.Handler u f) e.none) h = (h.0, tt)
    handler_low bc.Forever (e.more (e.Handler u f) (e.more a rest)) h = absurd h.1
    handler_low bc.Forever e.none h = absurd h
    handler_low bc.Forever (e.more a rest) h = absurd h.0
    handler_low bc.Pause args h = tt
    handler_low bc.ShowLeds args h = tt
    handler_low bc.ShowNumber args h = tt
    handler_low bc.ShowString args h = tt
    handler_low bc.ClearScreen args h = tt
    handler_low bc.Unplot args h = tt
    handler_low bc.Plot args h = tt
    handler_low bc.Toggle args h = tt
    handler_low bc.OnButtonPressed args h = tt
    handler_low bc.ButtonIsPressed args h = tt
    handler_low bc.RunningTime args h = tt
    handler_low bc.InBackground args h = tt
    handler_low bc.OnEvent args h = tt
    handler_low bc.OnEventFlags args h = tt
    handler_low bc.RaiseEvent args h = tt
    handler_low bc.RaiseNow args h = tt
    handler_low bc.WaitForEvent args h = tt
    handler_low bc.EventValue args h = tt
    handler_low bc.Panic args h = tt
    handler_low bc.WriteNumber args h = tt
    handler_low bc.WriteString args h = tt
    handler_low bc.WriteLine args h = tt
    handler_low bc.DigitalWritePin args h = tt
    handler_low bc.SendNumber args h = tt
    handler_low bc.Abs args h = tt
    handler_low bc.Min args h = tt
    handler_low bc.Max args h = tt
    handler_low bc.Show args h = tt
    handler_low bc.NumberGlyph args h = tt
    handler_low bc.TextGlyph args h = tt

    mutual
      low : (a : TypedTree) → Fine n l p q a → Below (repeated a)
      low (e.Num u k) h = tt
      low (e.Text u k) h = tt
      low (e.Truth u k) h = tt
      low (e.Null u) h = tt
      low (e.This u) h = tt
      low (e.Name u x) h = tt
      low (e.Unary u op a) h = low a h
      low (e.Binary u op x y) h = both (repeated x) (repeated y) (low x h.0) (low y h.1)
      low (e.Both u x y) h = both (repeated x) (repeated y) (low x h.0) (low y h.1)
      low (e.Either u x y) h = both (repeated x) (repeated y) (low x h.0) (low y h.1)
      low (e.Choice u test x y) h = both (repeated test) (repeated x ++ repeated y) (low test h.0) (both (repeated x) (repeated y) (low x h.1) (low y h.2))
      low (e.Set u op x r) h = both (repeated x) (repeated r) (low_target x h.0) (low r h.1)
      low (e.Bump u x by late) h = low_target x h
      low (e.Field u a f) h = low a h
      low (e.Length u a) h = low a h
      low (e.Item u x y) h = both (repeated x) (repeated y) (low x h.0) (low y h.1)
      low (e.Call u (c.Function f) args) h = both (repeated_each args) [] (low_each args h) tt
      low (e.Call u (c.Slot f) args) h = both (repeated_each args) [] (low_each args h) tt
      low (e.Call u c.Push args) h = both (repeated_each args) [] (low_each args h.0) tt
      low (e.Call u c.Pop args) h = both (repeated_each args) [] (low_each args h.0) tt
      low (e.Call u (c.Board call) args) h = both (repeated_each args) (repeated_by (row_of call).action (handler_of args)) (low_given (row_of call).takes args h.0) (handler_low call args h.0)
      low (e.SuperCall u f args) h = low_each args h.1
      low (e.Make u f args) h = low_each args h
      low (e.Items u items) h = low_each items h
      low (e.Handler u f) h = absurd h

      low_target : (x : TypedTree) → FineTarget n l p q x → Below (repeated x)
      low_target (e.Name u x) h = tt
      low_target (e.Field u a f) h = low a h
      low_target (e.Item u x y) h = both (repeated x) (repeated y) (low x h.0) (low y h.1)
      low_target x h = absurd h

      low_each : (args : TypedTrees) → FineEach n l p q args → Below (repeated_each args)
      low_each e.none h = tt
      low_each (e.more a rest) h = both (repeated a) (repeated_each rest) (low a h.0) (low_each rest h.1)

      low_given : (ps : List BoardParameter) (args : TypedTrees) → FineGiven n l p q ps args → Below (repeated_each args)
      low_given [] e.none h = tt
      low_given (b.Of u ∷ ps) (e.more a rest) h = both (repeated a) (repeated_each rest) (low a h.0) (low_given ps rest h.1)
      low_given (b.Handler ∷ ps) (e.more (e.Handler u f) rest) h = low_given ps rest h.1
      low_given (b.Handler ∷ ps) (e.more a rest) h = absurd h.0
      low_given ps args h = absurd h

    low_option : (t : Option TypedTree) → FineOption n l p q t → Below (optionally_repeated t)
    low_option None h = tt
    low_option (Some a) h = low a h

    low_declared : (ds : List TypedDeclaration) → FineDeclared n l p q ds → Below (repeated_first ds)
    low_declared [] h = tt
    low_declared (d ∷ ds) h = both (optionally_repeated d.first) (repeated_first ds) (low_option d.first h.0) (low_declared ds h.2)

    mutual
      low_statement : (s : TypedStatement) → FineStatement n l p q s → Below (repeated_in s)
      low_statement (e.Block all) h = low_statements all h
      low_statement (e.Let fixed each) h = low_declared each h
      low_statement (e.IfOnly test a) h = both (repeated test) (repeated_in a) (low test h.0) (low_statement a h.1)
      low_statement (e.IfElse test a o) h = both (repeated test) (repeated_in a ++ repeated_in o) (low test h.0) (both (repeated_in a) (repeated_in o) (low_statement a h.1) (low_statement o h.2))
      low_statement (e.While test a) h = both (repeated test) (repeated_in a) (low test h.0) (low_statement a h.1)
      low_statement (e.DoWhile a test) h = both (repeated_in a) (repeated test) (low_statement a h.0) (low test h.1)
      low_statement (e.For first test step a) h =
          both (repeated_in_first first) (optionally_repeated test ++ (optionally_repeated step ++ repeated_in a)) (low_first first h.0)
          (both (optionally_repeated test) (optionally_repeated step ++ repeated_in a) (low_option test h.1) (both (optionally_repeated step) (repeated_in a) (low_option step h.2) (low_statement a h.3)))
      low_statement (e.ForOf fixed x list a) h = both (repeated list) (repeated_in a) (low list h.1) (low_statement a h.2)
      low_statement (e.Return value) h = low_option value h
      low_statement e.Break h = tt
      low_statement e.Continue h = tt
      low_statement (e.Plain a) h = low a h
      low_statement e.Empty h = tt

      low_first : (f : OptionalTypedStatement) → FineFirst n l p q f → Below (repeated_in_first f)
      low_first e.omitted h = tt
      low_first (e.written a) h = low_statement a h

      pub low_statements : (all : TypedStatements) → FineStatements n l p q all → Below (repeated_in_all all)
      low_statements e.done h = tt
      low_statements (e.also a rest) h = both (repeated_in a) (repeated_in_all rest) (low_statement a h.0) (low_statements rest h.1)

  pub low_routines : (rs : List TypedRoutine) → ((f : ℕ) (r : TypedRoutine) → entry rs f ≡ Some r → FineStatements n l (length r.params) (length r.locals) r.all) → Below (repeated_in_each rs)
  low_routines [] h = tt
  low_routines (r ∷ rs) h = both (repeated_in_all r.all) (repeated_in_each rs) (low_statements (length r.params) (length r.locals) r.all (h zero r refl)) (low_routines rs (λ f x at. h (suc f) x at))
