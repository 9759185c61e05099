-- Where the numbers of a piece of work fit, those of its pieces do.
use Rattle.std.proofs.Common.{◌≡◌, ℕ, suc, ◌+◌, ◌<◌, ◌≤◌, ◌^◌, max, List, [], ◌∷◌, ◌++◌, length, refl, ap, add-one, Option, Some, None, arith, lit≤}
use Rattle.flat_ir.specs.declared.ops.Op.{Op}
use Rattle.sts_syntax.specs.declared.typed.Spot.TheVariants.{Param, Local, Global}
use Rattle.sts_syntax.specs.TypedTrees as e
use Rattle.sts_syntax.specs.TypedTrees.{TypedTree, TypedTrees, TypedStatement, TypedStatements, OptionalTypedStatement, TypedDeclaration}
use Rattle.sts_syntax.specs.declared.typed.Callee.{Callee}
use Rattle.sts_syntax.specs.declared.typed.Callee.TheVariants as c
use Rattle.sts_syntax.specs.BoardTable.{BoardAction, Service, Library, Repeats, ServicePlace, Written, Always, row_of, placed, arranged}
use Rattle.sts_syntax.specs.Measures.{hold, holds, stacked, total, argument_sizes, how_many, greatest_optional, optional_size}
use Rattle.std.specs.List.{AllByRecursion}
use Rattle.sts_syntax.specs.Types.{ValueType}
use Rattle.sts_lower.proofs.Opened.{arranged_length}
use Rattle.sts_lower.specs.Sizes.{ToName, sizes, initial_size, test_size, step_size, statement_size, first_size}
use Rattle.sts_lower.specs.Code.{bump_code}
use Rattle.sts_lower.specs.inner.Works.{Layout, Work, Put, puts, places_in, places_of, passed_by, opened_value, opened_reach, opened_arguments, opened_elements, opened_initial, opened_first, opened_test, opened_step, opened_statement, opened_statements, opened_declarations, opened, Value, Reach, Arguments, Elements, Expand, ExpandAll, ExpandDeclarations}
use Rattle.sts_lower.specs.inner.Fitting.{IsLowerable, AreLowerable, IsLowerableIfAny, IsFirst, WorkFits}

stacked_above : (d b : ℕ) (hs : List ℕ) → stacked (d + b) hs ≤ d + stacked b hs
stacked_above d b [] = omega arith
stacked_above d b (h ∷ hs) =
    let e : suc (d + b) ≡ d + suc b = omega arith in
    let k = ap (λ n. stacked n hs) e in
    omega (arith, k, stacked_above d (suc b) hs)

stacked_from : (d : ℕ) (hs : List ℕ) → stacked d hs ≤ d + stacked 0 hs
stacked_from d hs =
    let e : d + 0 ≡ d = omega arith in
    let k = ap (λ n. stacked n hs) e in
    omega (arith, k, stacked_above d 0 hs)

-- an expression holds its value
pub hold_positive : (params : ℕ) (a : TypedTree) → IsLowerable params a → 1 ≤ hold a
hold_positive params (e.Num u n) is = lit≤ tt
hold_positive params (e.Text u n) is = lit≤ tt
hold_positive params (e.Truth u b) is = lit≤ tt
hold_positive params (e.Null u) is = lit≤ tt
hold_positive params (e.This u) is = lit≤ tt
hold_positive params (e.Name u x) is = lit≤ tt
hold_positive params (e.Unary u op a) is = hold_positive params a is
hold_positive params (e.Binary u op a b) is = omega arith
hold_positive params (e.Both u a b) is = omega (arith, hold_positive params a is.0)
hold_positive params (e.Either u a b) is = omega (arith, hold_positive params a is.0)
hold_positive params (e.Choice u test a b) is = omega (arith, hold_positive params test is.0)
hold_positive params (e.Set u op (e.Name v x) r) is = omega (arith, hold_positive params r is.1)
hold_positive params (e.Set u op (e.Field v x f) r) is = omega arith
hold_positive params (e.Set u op (e.Item v x i) r) is = omega arith
hold_positive params (e.Set u op x r) is = absurd is.0
hold_positive params (e.Bump u (e.Name v x) by late) is = lit≤ tt
hold_positive params (e.Bump u (e.Field v x f) by late) is = omega arith
hold_positive params (e.Bump u (e.Item v x i) by late) is = omega arith
hold_positive params (e.Bump u x by late) is = absurd is
hold_positive params (e.Field u a f) is = hold_positive params a is
hold_positive params (e.Length u a) is = hold_positive params a is
hold_positive params (e.Item u a i) is = omega arith
hold_positive params (e.Call u f args) is = omega arith
hold_positive params (e.SuperCall u f args) is = omega arith
hold_positive params (e.Make u class args) is = omega arith
hold_positive params (e.Items u items) is = omega arith
hold_positive params (e.Handler u f) is = lit≤ tt

-- as many values are held as are pending
many_held : (b : ℕ) (hs : List ℕ) → AllByRecursion (λ h. 1 ≤ h) hs → length hs + b ≤ max b (stacked b hs)
many_held b [] all = omega arith
many_held b (h ∷ hs) all = omega (arith, all.0, many_held (suc b) hs all.1)

holds_positive : (params : ℕ) (args : TypedTrees) → AreLowerable params args → AllByRecursion (λ h. 1 ≤ h) (holds args)
holds_positive params e.none is = tt
holds_positive params (e.more a rest) is = (hold_positive params a is.0, holds_positive params rest is.1)

placed_positive : (places : List ServicePlace) (hs : List ℕ) → AllByRecursion (λ h. 1 ≤ h) hs → AllByRecursion (λ h. 1 ≤ h) (placed (λ n. 1) places hs)
placed_positive [] hs all = all
placed_positive (Written ∷ ps) [] all = placed_positive ps [] all
placed_positive (Written ∷ ps) (h ∷ hs) all = (all.0, placed_positive ps hs all.1)
placed_positive (Always n ∷ ps) hs all = (lit≤ tt, placed_positive ps hs all)

holds_many : (args : TypedTrees) → length (holds args) ≡ how_many args
holds_many e.none = refl
holds_many (e.more a rest) = ap suc (holds_many rest)

arranged_places : (action : BoardAction) (xs : List ℕ) → placed (λ n. 1) (places_in action) xs ≡ arranged (λ n. 1) action xs
arranged_places (Service number places) xs = refl
arranged_places (Library function) xs = refl
arranged_places Repeats xs = refl

pub sizes_placed : (f : Callee) (xs : List ℕ) → placed (λ n. 1) (places_of f) xs ≡ argument_sizes 1 f xs
sizes_placed (c.Function f) xs = refl
sizes_placed (c.Slot s) xs = refl
sizes_placed c.Push xs = refl
sizes_placed c.Pop xs = refl
sizes_placed (c.Board call) xs = arranged_places (row_of call).action xs

-- the arguments of a call are held at once
sizes_length : (f : Callee) (hs : List ℕ) → length (argument_sizes 1 f hs) ≡ total (argument_sizes 1 f []) + length hs
sizes_length (c.Function f) hs = omega arith
sizes_length (c.Slot s) hs = omega arith
sizes_length c.Push hs = omega arith
sizes_length c.Pop hs = omega arith
sizes_length (c.Board call) hs = arranged_length (λ n. 1) (row_of call).action hs

arguments_held : (params : ℕ) (f : Callee) (args : TypedTrees) → AreLowerable params args
    → length (argument_sizes 1 f (holds args)) ≤ stacked 0 (argument_sizes 1 f (holds args))
arguments_held params f args is =
    let same = sizes_placed f (holds args) in
    let all = placed_positive (places_of f) (holds args) (holds_positive params args is) in
    let many = many_held 0 (placed (λ n. 1) (places_of f) (holds args)) all in
    omega (arith, many, ap length same, ap (stacked 0) same)

pub call_holds : (params : ℕ) (u : ValueType) (f : Callee) (args : TypedTrees) → AreLowerable params args
    → passed_by f (how_many args) ≤ hold (e.Call u f args)
call_holds params u f args is = omega (arith, arguments_held params f args is, sizes_length f (holds args), holds_many args)

pub super_call_holds : (params : ℕ) (u : ValueType) (f : ℕ) (args : TypedTrees) → AreLowerable params args
    → suc (how_many args) ≤ hold (e.SuperCall u f args)
super_call_holds params u f args is = omega (arith, many_held 1 (holds args) (holds_positive params args is), holds_many args)

pub make_holds : (u : ValueType) (k : ℕ) (args : TypedTrees) → suc (how_many args) ≤ hold (e.Make u k args)
make_holds u k args = omega (arith, holds_many args)

-- the numbers of each piece fit
module _ (L : Layout) where
  abbrev pub AllFit : List Work → Type 0
  AllFit [] = Unit {0}
  AllFit (w ∷ ws) = WorkFits L w × AllFit ws

module _ (L : Layout) where
  pub puts_fit : (ops : List Op) → AllFit L (puts ops)
  puts_fit [] = tt
  puts_fit (op ∷ ops) = (tt, puts_fit ops)

  pub joined_fit : (vs ws : List Work) → AllFit L vs → AllFit L ws → AllFit L (vs ++ ws)
  joined_fit [] ws v w = w
  joined_fit (x ∷ vs) ws v w = (v.0, joined_fit vs ws v.1 w)

  value_fits : (a : TypedTree) (d at next : ℕ) → WorkFits L (Value a d at next) → AllFit L (opened_value L a d at next)
  value_fits (e.Num u n) d at next fits = (tt, tt)
  value_fits (e.Text u n) d at next fits = (tt, tt)
  value_fits (e.Truth u b) d at next fits = (tt, tt)
  value_fits (e.Null u) d at next fits = (tt, tt)
  value_fits (e.This u) d at next fits = (tt, tt)
  value_fits (e.Name u x) d at next fits = (tt, tt)
  value_fits (e.Unary u op a) d at next fits = ((omega arith, omega arith, fits.2), (tt, tt))
  value_fits (e.Binary u op a b) d at next fits = ((omega arith, omega arith, fits.2.0), ((omega arith, omega arith, fits.2.1), (tt, tt)))
  value_fits (e.Both u a b) d at next fits = ((omega arith, omega arith, fits.2.0), (tt, (tt, ((omega arith, omega arith, fits.2.1), tt))))
  value_fits (e.Either u a b) d at next fits = ((omega arith, omega arith, fits.2.0), (tt, ((omega arith, omega arith, fits.2.1), tt)))
  value_fits (e.Choice u test a b) d at next fits =
      ((omega arith, omega arith, fits.2.0), (tt, ((omega arith, omega arith, fits.2.2), (tt, ((omega arith, omega arith, fits.2.1), tt)))))
  value_fits (e.Set u None (e.Name v x) r) d at next fits = ((omega arith, omega arith, fits.2.0), ((omega arith, omega arith, fits.2.1), (tt, tt)))
  value_fits (e.Set u None (e.Field v x f) r) d at next fits = ((omega arith, omega arith, fits.2.0), ((omega arith, omega arith, fits.2.1), (tt, (tt, tt))))
  value_fits (e.Set u None (e.Item v x i) r) d at next fits = ((omega arith, omega arith, fits.2.0), ((omega arith, omega arith, fits.2.1), (tt, (tt, tt))))
  value_fits (e.Set u None x r) d at next fits = absurd fits.2.0
  value_fits (e.Set u (Some op) (e.Name v x) r) d at next fits = ((omega arith, omega arith, fits.2.0), (tt, ((omega arith, omega arith, fits.2.1), (tt, (tt, tt)))))
  value_fits (e.Set u (Some op) (e.Field v x f) r) d at next fits = ((omega arith, omega arith, fits.2.0), (tt, ((omega arith, omega arith, fits.2.1), (tt, (tt, (tt, tt))))))
  value_fits (e.Set u (Some op) (e.Item v x i) r) d at next fits = ((omega arith, omega arith, fits.2.0), (tt, ((omega arith, omega arith, fits.2.1), (tt, (tt, (tt, tt))))))
  value_fits (e.Set u (Some op) x r) d at next fits = absurd fits.2.0
  value_fits (e.Bump u (e.Name v x) by late) d at next fits = ((omega arith, omega arith, fits.2), puts_fit (bump_code L.classes L.repeating L.params L.base (ToName x) by late d))
  value_fits (e.Bump u (e.Field v x f) by late) d at next fits = ((omega arith, omega arith, fits.2), (tt, (tt, (tt, (tt, tt)))))
  value_fits (e.Bump u (e.Item v x i) by late) d at next fits = ((omega arith, omega arith, fits.2), (tt, (tt, (tt, (tt, tt)))))
  value_fits (e.Bump u x by late) d at next fits = absurd fits.2
  value_fits (e.Field u a f) d at next fits = ((omega arith, omega arith, fits.2), (tt, tt))
  value_fits (e.Length u a) d at next fits = ((omega arith, omega arith, fits.2), (tt, tt))
  value_fits (e.Item u a i) d at next fits = ((omega arith, omega arith, fits.2.0), ((omega arith, omega arith, fits.2.1), (tt, tt)))
  value_fits (e.Call u f args) d at next fits =
      let z = ap total (sizes_placed f (sizes args)) in
      let h = ap (stacked d) (sizes_placed f (holds args)) in
      let l = ap length (sizes_placed f (holds args)) in
      ((omega (arith, z), omega (arith, h, stacked_from d (argument_sizes 1 f (holds args))), omega (arith, l, arguments_held L.params f args fits.2), fits.2), puts_fit _)
  value_fits (e.SuperCall u f args) d at next fits =
      let k = ap (λ n. stacked n (holds args)) (add-one d) in
      (tt, ((omega arith, omega (arith, k, stacked_above d 1 (holds args)), omega (arith, holds_many args, super_call_holds L.params u f args fits.2), fits.2), (tt, tt)))
  value_fits (e.Make u class args) d at next fits =
      ((omega arith, omega (arith, stacked_from d (holds args)), omega (arith, holds_many args), fits.2), (tt, (tt, tt)))
  value_fits (e.Items u items) d at next fits = (tt, ((omega arith, omega arith, fits.2), tt))
  value_fits (e.Handler u f) d at next fits = (tt, tt)

  reach_fits : (x : TypedTree) (d at : ℕ) → WorkFits L (Reach x d at) → AllFit L (opened_reach L x d at)
  reach_fits (e.Name u x) d at fits = tt
  reach_fits (e.Field u a f) d at fits = ((omega arith, omega arith, fits.2), tt)
  reach_fits (e.Item u a i) d at fits = ((omega arith, omega arith, fits.2.0), ((omega arith, omega arith, fits.2.1), tt))
  reach_fits x d at fits = absurd fits.2

  arguments_fit : (places : List ServicePlace) (args : TypedTrees) (d at : ℕ) → WorkFits L (Arguments places args d at) → AllFit L (opened_arguments L places args d at)
  arguments_fit [] e.none d at fits = tt
  arguments_fit [] (e.more a rest) d at fits = ((omega arith, omega arith, fits.3.0), ((omega arith, omega arith, omega arith, fits.3.1), tt))
  arguments_fit (Always n ∷ ps) args d at fits = (tt, ((omega arith, omega arith, omega arith, fits.3), tt))
  arguments_fit (Written ∷ ps) e.none d at fits = (fits, tt)
  arguments_fit (Written ∷ ps) (e.more a rest) d at fits = ((omega arith, omega arith, fits.3.0), ((omega arith, omega arith, omega arith, fits.3.1), tt))

  elements_fit : (items : TypedTrees) (d at : ℕ) → WorkFits L (Elements items d at) → AllFit L (opened_elements L items d at)
  elements_fit e.none d at fits = tt
  elements_fit (e.more a rest) d at fits = ((omega arith, omega arith, fits.2.0), (tt, ((omega arith, omega arith, fits.2.1), tt)))

  initial_fits : (first : Option TypedTree) (at : ℕ) → at + initial_size first < 2 ^ 32 → L.base + 1 + optional_size hold first < 2 ^ 32 → IsLowerableIfAny L.params first
      → AllFit L (opened_initial L first at)
  initial_fits None at places temporaries is = (tt, tt)
  initial_fits (Some a) at places temporaries is = ((omega arith, omega arith, is), tt)

  declarations_fit : (each : List TypedDeclaration) (at : ℕ) → WorkFits L (ExpandDeclarations each at) → AllFit L (opened_declarations L each at)
  declarations_fit [] at fits = tt
  declarations_fit (d ∷ rest) at fits =
      joined_fit (opened_initial L d.first at) _ (initial_fits d.first at (omega arith) (omega arith) fits.2.1) (tt, ((omega arith, omega arith, fits.2.2), tt))

  first_fits : (first : OptionalTypedStatement) (at next out again : ℕ) → at + first_size L.maker first < 2 ^ 32 → L.base + 1 + greatest_optional hold first < 2 ^ 32
      → IsFirst L.params first → AllFit L (opened_first L first at next out again)
  first_fits e.omitted at next out again places temporaries is = tt
  first_fits (e.written a) at next out again places temporaries is = ((places, temporaries, is), tt)

  test_fits : (test : Option TypedTree) (at next : ℕ) → at + test_size test < 2 ^ 32 → L.base + 1 + optional_size hold test < 2 ^ 32 → IsLowerableIfAny L.params test
      → AllFit L (opened_test L test at next)
  test_fits None at next places temporaries is = tt
  test_fits (Some a) at next places temporaries is = ((omega arith, omega arith, is), (tt, (tt, tt)))

  step_fits : (step : Option TypedTree) (at : ℕ) → at + step_size step < 2 ^ 32 → L.base + 1 + optional_size hold step < 2 ^ 32 → IsLowerableIfAny L.params step
      → AllFit L (opened_step L step at)
  step_fits None at places temporaries is = tt
  step_fits (Some a) at places temporaries is = ((omega arith, omega arith, is), tt)

  statement_fits : (a : TypedStatement) (at next out again : ℕ) → WorkFits L (Expand a at next out again) → AllFit L (opened_statement L a at next out again)
  statement_fits (e.Block all) at next out again fits = (fits, tt)
  statement_fits (e.Let fixed each) at next out again fits = (fits, tt)
  statement_fits (e.IfOnly test a) at next out again fits = ((omega arith, omega arith, fits.2.0), (tt, (tt, ((omega arith, omega arith, fits.2.1), tt))))
  statement_fits (e.IfElse test a o) at next out again fits =
      ((omega arith, omega arith, fits.2.0), (tt, ((omega arith, omega arith, fits.2.2), (tt, ((omega arith, omega arith, fits.2.1), tt)))))
  statement_fits (e.While test a) at next out again fits = ((omega arith, omega arith, fits.2.0), (tt, (tt, ((omega arith, omega arith, fits.2.1), (tt, tt)))))
  statement_fits (e.DoWhile a test) at next out again fits = ((omega arith, omega arith, fits.2.0), ((omega arith, omega arith, fits.2.1), (tt, (tt, (tt, tt)))))
  statement_fits (e.For first test step a) at next out again fits =
      joined_fit (opened_first L first at (at + first_size L.maker first) out again) _ (first_fits first at _ out again (omega arith) (omega arith) fits.2.0)
      (joined_fit (opened_test L test (at + first_size L.maker first) next) _ (test_fits test _ next (omega arith) (omega arith) fits.2.1) (
        (omega arith, omega arith, fits.2.3),
        joined_fit (opened_step L step (at + first_size L.maker first + test_size test + statement_size L.maker a)) _ (step_fits step _ (omega arith) (omega arith) fits.2.2) (tt, tt),
      ))
  statement_fits (e.ForOf fixed (Local i) list a) at next out again fits =
      ((omega arith, omega arith, fits.2.1), (tt, (tt, (tt, (tt, (tt, (tt, (tt, (tt, (tt, ((omega arith, omega arith, fits.2.2), (tt, tt))))))))))))
  statement_fits (e.ForOf fixed (Param i) list a) at next out again fits = (tt, tt)
  statement_fits (e.ForOf fixed (Global g) list a) at next out again fits = (tt, tt)
  statement_fits (e.Return None) at next out again fits = puts_fit _
  statement_fits (e.Return (Some a)) at next out again fits = ((omega arith, omega arith, fits.2), puts_fit _)
  statement_fits e.Break at next out again fits = (tt, tt)
  statement_fits e.Continue at next out again fits = (tt, tt)
  statement_fits (e.Plain a) at next out again fits = ((omega arith, omega arith, fits.2), tt)
  statement_fits e.Empty at next out again fits = tt

  statements_fit : (all : TypedStatements) (at next out again : ℕ) → WorkFits L (ExpandAll all at next out again) → AllFit L (opened_statements L all at next out again)
  statements_fit e.done at next out again fits = tt
  statements_fit (e.also a rest) at next out again fits = ((omega arith, omega arith, fits.2.0), ((omega arith, omega arith, fits.2.1), tt))

  pub opened_fits : (w : Work) → WorkFits L w → AllFit L (opened L w)
  opened_fits (Put op) fits = tt
  opened_fits (Value a d at next) fits = value_fits a d at next fits
  opened_fits (Reach x d at) fits = reach_fits x d at fits
  opened_fits (Arguments places args d at) fits = arguments_fit places args d at fits
  opened_fits (Elements items d at) fits = elements_fit items d at fits
  opened_fits (Expand a at next out again) fits = statement_fits a at next out again fits
  opened_fits (ExpandAll all at next out again) fits = statements_fit all at next out again fits
  opened_fits (ExpandDeclarations each at) fits = declarations_fit each at fits
