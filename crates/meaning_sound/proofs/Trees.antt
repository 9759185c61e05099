-- What a well-typed tree leaves to do fits.
use Rattle.std.proofs.Common.{ℤ, ◌≡◌, ℕ, suc, inl, inr, Bool, true, false, if◌then◌else◌, List, [], ◌∷◌, length, Option, Some, None, refl, ap, sym, ◌∙◌, subst}
use Rattle.sts_syntax.specs.declared.typed.Spot.{Spot}
use Rattle.sts_syntax.specs.declared.typed.Spot.TheVariants.{Param, Local, Global}
use Rattle.sts_syntax.specs.declared.typed.Callee.TheVariants as c
use Rattle.sts_syntax.specs.Types as t
use Rattle.sts_syntax.specs.Types.{ValueType}
use Rattle.sts_syntax.specs.TypedTrees as e
use Rattle.sts_syntax.specs.TypedTrees.{OptionalTypedStatement, TypedTree, TypedTrees, TypedStatement, TypedStatements, TypedDeclaration, TypedRoutine, ClassEntry, TypedProgram}
use Rattle.sts_syntax.specs.BoardTable as b
use Rattle.sts_syntax.specs.BoardTable.{BoardParameter, ServicePlace, Written, Always, BoardAction, placed, arranged, row_of}
use Rattle.sts_syntax.specs.TypeRules.{entry, IsOne, HasRoutine, IsBelow, GoesTo, Works, HasField}
use Rattle.sts_syntax.specs.WellTyped.{type_of, Setting, parameters_of, IsHandler, Has, IsTyped, AreGiven, AreItems, MayTest, MayStep, IsInitial, IsReturned, MayDeclare, AreDeclared, known_with, known_after, known_after_first, IsSound, IsSoundFirst, AreSound}
use Rattle.sts_meaning.specs.Values.{Value, Whole, Text, default, truth}
use Rattle.sts_meaning.specs.Heaps.{Heap}
use Rattle.sts_meaning.specs.Continuation.{Continuation, Put, Get, Store, Drop, Unary, Apply, Choose, Both, Either, Read, Peek, Write, At, PeekAt, SetAt, Bump, BumpField, BumpAt, by_one, Measure, Push, Pop, Append, New, Build, Invoke, Send, Again, Each, Give, item_of, chained, arguments, appended, calls, evals, evals_each, initial, declares, tests, steps, bare, returns, runs, runs_first, runs_all}
use Rattle.meaning_sound.specs.Sorts.{Sort, Of, Begins, Exactly, of_types, above, IsA}
use Rattle.meaning_sound.proofs.Boards.{sorts_of, asks_fit}
use Rattle.meaning_sound.specs.Fits.{Given, IsStored, FitsValues}
use Rattle.meaning_sound.specs.Kept.{GivesThis}
use Rattle.meaning_sound.proofs.Growth.{default_is, same_goes, same_suits, suits_trans, suits_is}

sorts_parameters : (us : List ValueType) → sorts_of (parameters_of us) ≡ of_types us
sorts_parameters [] = refl
sorts_parameters (u ∷ us) = ap (λ (ss : List Sort). Of u ∷ ss) (sorts_parameters us)

length_types : (us : List ValueType) → length (of_types us) ≡ length us
length_types [] = refl
length_types (u ∷ us) = ap suc (length_types us)

module _ (P : TypedProgram) (S : Setting) where
  abbrev pub G : Continuation → Sort → List Sort → Type 0
  G k s ss = Given P (FitsValues P S k) s ss

  -- what gives a value of a sort
  abbrev pub Yields : Sort → (Continuation → Continuation) → Type 0
  Yields s f = (k : Continuation) (before : List Sort) → FitsValues P S k (s ∷ before) → FitsValues P S (f k) before

  abbrev pub EachYields : List Sort → List (Continuation → Continuation) → Type 0
  EachYields [] [] = Unit {0}
  EachYields (s ∷ ss) (f ∷ fs) = Yields s f × EachYields ss fs
  EachYields ss fs = ⊥

  abbrev AllYield : Sort → List (Continuation → Continuation) → Type 0
  AllYield s [] = Unit {0}
  AllYield s (f ∷ fs) = Yields s f × AllYield s fs

  truth_always : (v : Bool) (h : Heap) → IsA P h (Of t.Boolean) (truth v)
  truth_always true h = tt
  truth_always false h = tt

  -- a value that is of a sort whatever the heap is given
  put_fits : (v : Value) (s : Sort) (k : Continuation) (ss : List Sort) → ((h : Heap) → IsA P h s v) → G k s ss → FitsValues P S (Put v k) ss
  put_fits v s k ss p h = (h.0, λ heap. suits_is P heap s h.0 v h.1 (p heap), h.2)

  -- a value of a type that is known
  at_type : (k : Continuation) (u v : ValueType) (ss : List Sort) → u ≡ v → FitsValues P S k (Of v ∷ ss) → G k (Of u) ss
  at_type k u v ss e h = (Of v, inl e, h)

  -- the sort itself
  itself : (k : Continuation) (s : Sort) (ss : List Sort) → FitsValues P S k (s ∷ ss) → G k s ss
  itself k s ss h = (s, same_suits P s, h)

  -- a wider type
  wider : (k : Continuation) (u v : ValueType) (ss : List Sort) → GoesTo P u v → G k (Of v) ss → G k (Of u) ss
  wider k u v ss g h = (h.0, suits_trans P (Of u) (Of v) h.0 g h.1, h.2)

  of_type : (k : Continuation) (u v : ValueType) (ss : List Sort) → u ≡ v → G k (Of u) ss → G k (Of v) ss
  of_type k u v ss q h = subst (λ (w : ValueType). G k (Of w) ss) q h

  -- `++` and `--`
  by_one_fits : (by : ℤ) (k : Continuation) (ss : List Sort) → IsOne by → FitsValues P S k ss → FitsValues P S (by_one by k) ss
  by_one_fits by k ss (inl e) h = subst (λ (n : ℤ). FitsValues P S (by_one n k) ss) (sym e) h
  by_one_fits by k ss (inr e) h = subst (λ (n : ℤ). FitsValues P S (by_one n k) ss) (sym e) h

  -- arguments, one after the other
  chained_fit : (these : List Sort) (fs : List (Continuation → Continuation)) (k : Continuation) (before : List Sort) → EachYields these fs → FitsValues P S k (above these before) → FitsValues P S (chained fs k) before
  chained_fit [] [] k before y h = h
  chained_fit (s ∷ ss) (f ∷ fs) k before y h = y.0 (chained fs k) before (chained_fit ss fs k (s ∷ before) y.1 h)
  chained_fit [] (f ∷ fs) k before y h = absurd y
  chained_fit (s ∷ ss) [] k before y h = absurd y

  each_length : (these : List Sort) (fs : List (Continuation → Continuation)) → EachYields these fs → length fs ≡ length these
  each_length [] [] y = refl
  each_length (s ∷ ss) (f ∷ fs) y = ap suc (each_length ss fs y.1)
  each_length [] (f ∷ fs) y = absurd y
  each_length (s ∷ ss) [] y = absurd y

  placed_yield : (places : List ServicePlace) (these : List Sort) (fs : List (Continuation → Continuation)) → EachYields these fs → EachYields (placed Exactly places these) (placed (λ n. Put (Whole n)) places fs)
  placed_yield [] these fs y = y
  placed_yield (Written ∷ ps) [] [] y = placed_yield ps [] [] y
  placed_yield (Written ∷ ps) (s ∷ ss) (f ∷ fs) y = (y.0, placed_yield ps ss fs y.1)
  placed_yield (Always n ∷ ps) these fs y = ((λ k before h. (Exactly n, (λ heap. refl), h)), placed_yield ps these fs y)
  placed_yield (Written ∷ ps) [] (f ∷ fs) y = absurd y
  placed_yield (Written ∷ ps) (s ∷ ss) [] y = absurd y

  arranged_yield : (action : BoardAction) (these : List Sort) (fs : List (Continuation → Continuation)) → EachYields these fs → EachYields (arranged Exactly action these) (arranged (λ n. Put (Whole n)) action fs)
  arranged_yield (b.Service number places) these fs y = placed_yield places these fs y
  arranged_yield (b.Library function) these fs y = y
  arranged_yield b.Repeats these fs y = y

  pub parameters_yield : (us : List ValueType) (fs : List (Continuation → Continuation)) → EachYields (sorts_of (parameters_of us)) fs → EachYields (of_types us) fs
  parameters_yield us fs y = subst (λ (ss : List Sort). EachYields ss fs) (sorts_parameters us) y

  parameters_length : (us : List ValueType) (fs : List (Continuation → Continuation)) → EachYields (of_types us) fs → length fs ≡ length us
  parameters_length us fs y = each_length (of_types us) fs y ∙ length_types us

  -- each item goes into the array
  appended_fit : (u : ValueType) (fs : List (Continuation → Continuation)) (k : Continuation) (ss : List Sort) → AllYield (Of u) fs → G k (Of (t.ListOf u)) ss → G (appended fs k) (Of (t.ListOf u)) ss
  appended_fit u [] k ss y h = h
  appended_fit u (f ∷ fs) k ss y h =
      itself (f (Append (appended fs k))) (Of (t.ListOf u)) ss
      (y.0 (Append (appended fs k)) (Of (t.ListOf u) ∷ ss) (same_goes P u, appended_fit u fs k ss y.1 h))

  -- a call of a function
  invoke_fits : (f : ℕ) (r : TypedRoutine) (fs : List (Continuation → Continuation)) (u : ValueType) (k : Continuation) (ss : List Sort) → HasRoutine P f r → EachYields (of_types r.params) fs → u ≡ r.gives → G k (Of u) ss
      → FitsValues P S (chained fs (Invoke f (length fs) k)) ss
  invoke_fits f r fs u k ss has y q h =
      chained_fit (of_types r.params) fs (Invoke f (length fs) k) ss y (ss, r, has, refl, parameters_length r.params fs y, of_type k u r.gives ss q h)

  -- a call through `super`
  pub super_fits : (d o f : ℕ) (r : TypedRoutine) (params : List ValueType) (fs : List (Continuation → Continuation)) (u : ValueType) (k : Continuation) (ss : List Sort)
      → entry S.routine.params 0 ≡ Some (t.Object d) → IsBelow P d o → HasRoutine P f r → r.params ≡ t.Object o ∷ params → r.gives ≡ u → EachYields (of_types params) fs → G k (Of u) ss
      → FitsValues P S (Get (Param 0) (chained fs (Invoke f (suc (length fs)) k))) ss
  super_fits d o f r params fs u k ss this below has ps q y h = (
    t.Object d,
    this,
    (
      Of (t.Object o),
      inr (inl below),
      chained_fit (of_types params) fs (Invoke f (suc (length fs)) k) (Of (t.Object o) ∷ ss) y
          (ss, r, has, ap (λ (us : List ValueType). above (of_types us) ss) (sym ps), ap suc (parameters_length params fs y) ∙ sym (ap length ps), of_type k u r.gives ss (sym q) h),
    ),
  )

  -- a handler
  handler_fits : (a : TypedTree) → IsHandler P a → Yields Begins (evals a)
  handler_fits (e.Handler u f) p k before h = (Begins, (λ heap. (f, refl, p)), h)
  handler_fits (e.Num u n) p k before h = absurd p
  handler_fits (e.Text u n) p k before h = absurd p
  handler_fits (e.Truth u v) p k before h = absurd p
  handler_fits (e.Null u) p k before h = absurd p
  handler_fits (e.This u) p k before h = absurd p
  handler_fits (e.Name u x) p k before h = absurd p
  handler_fits (e.Unary u op a) p k before h = absurd p
  handler_fits (e.Binary u op a d) p k before h = absurd p
  handler_fits (e.Both u a d) p k before h = absurd p
  handler_fits (e.Either u a d) p k before h = absurd p
  handler_fits (e.Choice u x a d) p k before h = absurd p
  handler_fits (e.Set u op x r) p k before h = absurd p
  handler_fits (e.Bump u x by late) p k before h = absurd p
  handler_fits (e.Field u a f) p k before h = absurd p
  handler_fits (e.Length u a) p k before h = absurd p
  handler_fits (e.Item u a i) p k before h = absurd p
  handler_fits (e.Call u f args) p k before h = absurd p
  handler_fits (e.SuperCall u f args) p k before h = absurd p
  handler_fits (e.Make u class args) p k before h = absurd p
  handler_fits (e.Items u items) p k before h = absurd p

  -- a name that is known is stored somewhere
  has_stored : (known : List ℕ) (x : Spot) (u : ValueType) → Has P S known x u → IsStored P S x u
  has_stored known (Param i) u p = p
  has_stored known (Local i) u p = p.1
  has_stored known (Global g) u p = p

  may_stored : (x : Spot) (u : ValueType) → MayDeclare P S x u → IsStored P S x u
  may_stored (Param i) u p = absurd p
  may_stored (Local i) u p = p
  may_stored (Global g) u p = p.1

  module _ (known : List ℕ) where
    abbrev T : TypedTree → Type 0
    T a = IsTyped P S known a

    goes_as : (u v w : ValueType) → v ≡ w → GoesTo P u v → GoesTo P u w
    goes_as u v w q g = subst (λ (x : ValueType). GoesTo P u x) q g

    works_as : (op : ℕ) (u v w : ValueType) → u ≡ w → Works P op u v u → Works P op w v w
    works_as op u v w q g = subst (λ (x : ValueType). Works P op x v x) q g

    mutual
      -- an expression fits where what comes after it fits above a value of its type
      pub evals_fit : (a : TypedTree) (k : Continuation) (ss : List Sort) → IsTyped P S known a → G k (Of (type_of a)) ss → FitsValues P S (evals a k) ss
      evals_fit (e.Num u n) k ss p h = put_fits (Whole n) (Of t.Number) k ss (λ heap. tt) (of_type k u t.Number ss p.0 h)
      evals_fit (e.Text u n) k ss p h = put_fits (Text n) (Of t.Text) k ss (λ heap. tt) (of_type k u t.Text ss p h)
      evals_fit (e.Truth u v) k ss p h = put_fits (truth v) (Of t.Boolean) k ss (truth_always v) (of_type k u t.Boolean ss p h)
      evals_fit (e.Null u) k ss p h = put_fits default (Of u) k ss (λ heap. default_is P heap u) h
      evals_fit (e.This u) k ss p h = (u, p.1, h)
      evals_fit (e.Name u x) k ss p h = (u, has_stored known x u p, h)
      evals_fit (e.Unary u op a) k ss p h = evals_fit a (Unary op k) ss p.0 (itself (Unary op k) (Of (type_of a)) ss (u, p.1, h))
      evals_fit (e.Binary u op a d) k ss p h =
          evals_fit a (evals d (Apply op k)) ss p.0 (itself (evals d (Apply op k)) (Of (type_of a)) ss
          (evals_fit d (Apply op k) (Of (type_of a) ∷ ss) p.1 (itself (Apply op k) (Of (type_of d)) (Of (type_of a) ∷ ss) (u, p.2, h))))
      evals_fit (e.Both u a d) k ss p h =
          (let h' : G k (Of t.Boolean) ss = of_type k u t.Boolean ss p.4 h in
          evals_fit a (Both (evals d k) k) ss p.0 (at_type (Both (evals d k) k) (type_of a) t.Boolean ss p.2
          (evals_fit d k ss p.1 (of_type k t.Boolean (type_of d) ss (sym p.3) h'), h')))
      evals_fit (e.Either u a d) k ss p h =
          (let h' : G k (Of t.Boolean) ss = of_type k u t.Boolean ss p.4 h in
          evals_fit a (Either k (evals d k)) ss p.0 (at_type (Either k (evals d k)) (type_of a) t.Boolean ss p.2
          (h', evals_fit d k ss p.1 (of_type k t.Boolean (type_of d) ss (sym p.3) h'))))
      evals_fit (e.Choice u test a d) k ss p h =
          evals_fit test (Choose (evals a k) (evals d k)) ss p.0 (at_type (Choose (evals a k) (evals d k)) (type_of test) t.Boolean ss p.3
          (evals_fit a k ss p.1 (wider k (type_of a) u ss p.4.1 h), evals_fit d k ss p.2 (wider k (type_of d) u ss p.4.2 h)))
      evals_fit (e.Set u None (e.Name v x) r) k ss p h =
          evals_fit r (Store x k) ss p.1 (itself (Store x k) (Of (type_of r)) ss (v, has_stored known x v p.0, goes_as (type_of r) u v p.2 p.3, of_type k u v ss p.2 h))
      evals_fit (e.Set u None (e.Field v a f) r) k ss p h =
          (let os : List Sort = Of (t.Object p.0.1) ∷ ss in
          evals_fit a (evals r (Write f k)) ss p.0.0 (at_type (evals r (Write f k)) (type_of a) (t.Object p.0.1) ss p.0.2
          (evals_fit r (Write f k) os p.1 (itself (Write f k) (Of (type_of r)) os (v, p.0.3, goes_as (type_of r) u v p.2 p.3, of_type k u v ss p.2 h)))))
      evals_fit (e.Set u None (e.Item v a i) r) k ss p h =
          (let as' : List Sort = Of (t.ListOf v) ∷ ss in let is : List Sort = Of t.Number ∷ as' in
          evals_fit a (evals i (evals r (SetAt k))) ss p.0.0 (at_type (evals i (evals r (SetAt k))) (type_of a) (t.ListOf v) ss p.0.2
          (evals_fit i (evals r (SetAt k)) as' p.0.1 (at_type (evals r (SetAt k)) (type_of i) t.Number as' p.0.3
          (evals_fit r (SetAt k) is p.1 (itself (SetAt k) (Of (type_of r)) is (goes_as (type_of r) u v p.2 p.3, of_type k u v ss p.2 h)))))))
      evals_fit (e.Set u (Some op) (e.Name v x) r) k ss p h =
          (let rest : Continuation = Apply op (Store x k) in (
            v,
            has_stored known x v p.0,
            itself (evals r rest) (Of v) ss (evals_fit r rest (Of v ∷ ss) p.1 (itself rest (Of (type_of r)) (Of v ∷ ss)
                (v, works_as op u (type_of r) v p.2 p.3, itself (Store x k) (Of v) ss (v, has_stored known x v p.0, same_goes P v, of_type k u v ss p.2 h)))),
          ))
      evals_fit (e.Set u (Some op) (e.Field v a f) r) k ss p h =
          (let os : List Sort = Of (t.Object p.0.1) ∷ ss in let rest : Continuation = Apply op (Write f k) in
          evals_fit a (Peek f (evals r rest)) ss p.0.0 (at_type (Peek f (evals r rest)) (type_of a) (t.Object p.0.1) ss p.0.2 (
            v,
            p.0.3,
            evals_fit r rest (Of v ∷ os) p.1 (itself rest (Of (type_of r)) (Of v ∷ os)
                (v, works_as op u (type_of r) v p.2 p.3, itself (Write f k) (Of v) os (v, p.0.3, same_goes P v, of_type k u v ss p.2 h))),
          )))
      evals_fit (e.Set u (Some op) (e.Item v a i) r) k ss p h =
          (let as' : List Sort = Of (t.ListOf v) ∷ ss in let is : List Sort = Of t.Number ∷ as' in let rest : Continuation = Apply op (SetAt k) in
          evals_fit a (evals i (PeekAt (evals r rest))) ss p.0.0 (at_type (evals i (PeekAt (evals r rest))) (type_of a) (t.ListOf v) ss p.0.2
          (evals_fit i (PeekAt (evals r rest)) as' p.0.1 (at_type (PeekAt (evals r rest)) (type_of i) t.Number as' p.0.3
          (evals_fit r rest (Of v ∷ is) p.1 (itself rest (Of (type_of r)) (Of v ∷ is)
          (v, works_as op u (type_of r) v p.2 p.3, itself (SetAt k) (Of v) is (same_goes P v, of_type k u v ss p.2 h))))))))
      evals_fit (e.Bump u (e.Name v x) by late) k ss p h =
          by_one_fits by (Bump x by late k) ss p.3
          (subst (λ (w : ValueType). IsStored P S x w) p.1 (has_stored known x v p.0), of_type k u t.Number ss p.2 h)
      evals_fit (e.Bump u (e.Field v a f) by late) k ss p h =
          by_one_fits by (evals a (BumpField f by late k)) ss p.3
          (evals_fit a (BumpField f by late k) ss p.0.0 (at_type (BumpField f by late k) (type_of a) (t.Object p.0.1) ss p.0.2
          (subst (λ (w : ValueType). HasField P p.0.1 f w) p.1 p.0.3, of_type k u t.Number ss p.2 h)))
      evals_fit (e.Bump u (e.Item v a i) by late) k ss p h =
          (let as' : List Sort = Of (t.ListOf t.Number) ∷ ss in
          by_one_fits by (evals a (evals i (BumpAt by late k))) ss p.3
          (evals_fit a (evals i (BumpAt by late k)) ss p.0.0 (at_type (evals i (BumpAt by late k)) (type_of a) (t.ListOf t.Number) ss (p.0.2 ∙ ap t.ListOf p.1)
          (evals_fit i (BumpAt by late k) as' p.0.1 (at_type (BumpAt by late k) (type_of i) t.Number as' p.0.3 (of_type k u t.Number ss p.2 h))))))
      evals_fit (e.Field u a f) k ss p h = evals_fit a (Read f k) ss p.0 (at_type (Read f k) (type_of a) (t.Object p.1) ss p.2 (u, p.3, h))
      evals_fit (e.Length u a) k ss p h = evals_fit a (Measure k) ss p.0 (at_type (Measure k) (type_of a) (t.ListOf p.1) ss p.2 (of_type k u t.Number ss p.3 h))
      evals_fit (e.Item u a i) k ss p h =
          evals_fit a (evals i (At k)) ss p.0 (at_type (evals i (At k)) (type_of a) (t.ListOf u) ss p.2
          (evals_fit i (At k) (Of (t.ListOf u) ∷ ss) p.1 (at_type (At k) (type_of i) t.Number (Of (t.ListOf u) ∷ ss) p.3 h)))
      evals_fit (e.Call u (c.Function f) args) k ss p h =
          invoke_fits f p.0 (evals_each args) u k ss p.1 (parameters_yield p.0.params (evals_each args) (each_yields (parameters_of p.0.params) args p.2)) p.3 h
      evals_fit (e.Call u (c.Slot s) e.none) k ss p h = absurd p
      evals_fit (e.Call u (c.Slot s) (e.more a rest)) k ss p h =
          (let y : EachYields (of_types p.1) (evals_each rest) = parameters_yield p.1 (evals_each rest) (each_yields (parameters_of p.1) rest p.5) in
          let last : Continuation = Send s (suc (length (evals_each rest))) k in
          evals_fit a (chained (evals_each rest) last) ss p.2 (at_type (chained (evals_each rest) last) (type_of a) (t.Object p.0) ss p.3
          (chained_fit (of_types p.1) (evals_each rest) last (Of (t.Object p.0) ∷ ss) y (ss, p.0, p.1, u, p.4, refl, ap suc (parameters_length p.1 (evals_each rest) y), h))))
      evals_fit (e.Call u c.Push e.none) k ss p h = absurd p
      evals_fit (e.Call u c.Push (e.more a e.none)) k ss p h = absurd p
      evals_fit (e.Call u c.Push (e.more a (e.more d e.none))) k ss p h =
          evals_fit a (evals d (Push k)) ss p.0 (at_type (evals d (Push k)) (type_of a) (t.ListOf p.2) ss p.3
          (evals_fit d (Push k) (Of (t.ListOf p.2) ∷ ss) p.1 (itself (Push k) (Of (type_of d)) (Of (t.ListOf p.2) ∷ ss) (p.4, of_type k u t.Nothing ss p.5 h))))
      evals_fit (e.Call u c.Push (e.more a (e.more d (e.more x rest)))) k ss p h = absurd p
      evals_fit (e.Call u c.Pop e.none) k ss p h = absurd p
      evals_fit (e.Call u c.Pop (e.more a e.none)) k ss p h = evals_fit a (Pop k) ss p.0 (at_type (Pop k) (type_of a) (t.ListOf u) ss p.1 h)
      evals_fit (e.Call u c.Pop (e.more a (e.more x rest))) k ss p h = absurd p
      evals_fit (e.Call u (c.Board call) args) k ss p h =
          (let y = arranged_yield (row_of call).action (sorts_of (row_of call).takes) (evals_each args) (each_yields (row_of call).takes args p.0) in
          let these : List Sort = arranged Exactly (row_of call).action (sorts_of (row_of call).takes) in
          let all : List (Continuation → Continuation) = arguments (c.Board call) (evals_each args) in
          chained_fit these all (calls (c.Board call) (length all) k) ss y
          (asks_fit P S call (length all) k ss p.2 (each_length these all y) (of_type k u (row_of call).gives ss p.1 h)))
      evals_fit (e.SuperCall u f args) k ss p h =
          (let q = p.1 in let m = q.10 in
          let y : EachYields (of_types p.0) (evals_each args) = parameters_yield p.0 (evals_each args) (each_yields (parameters_of p.0) args p.2) in
          super_fits q.0 m.1 f m.0 p.0 (evals_each args) u k ss q.5.1 (suc m.4.0, (q.1, q.2, q.6, q.7, m.4.1)) m.2 m.3 m.5 y h)
      evals_fit (e.Make u d args) k ss p h =
          (let m = p.3 in
          let y : EachYields (of_types p.1) (evals_each args) = parameters_yield p.1 (evals_each args) (each_yields (parameters_of p.1) args p.4) in
          let n : ℕ = length (evals_each args) in
          chained_fit (of_types p.1) (evals_each args) (New d (Build d n k)) ss y (
            p.0,
            p.2,
            itself (Build d n k) (Of (t.Object d)) (above (of_types p.1) ss)
                (ss, p.0, m.0, m.1, p.1, p.2, m.2, m.3, m.4, refl, parameters_length p.1 (evals_each args) y, of_type k u m.0.gives ss (p.5 ∙ sym m.5) h),
          ))
      evals_fit (e.Items u items) k ss p h =
          (let q : item_of u ≡ p.0 = ap item_of p.1 in
          subst (λ (w : ValueType). G (appended (evals_each items) k) (Of (t.ListOf w)) ss) (sym q)
          (appended_fit p.0 (evals_each items) k ss (items_yield p.0 items p.2) (of_type k u (t.ListOf p.0) ss p.1 h)))
      evals_fit (e.Handler u f) k ss p h = absurd p
      evals_fit _ k ss p h = absurd p.0

      pub each_yields : (ps : List BoardParameter) (args : TypedTrees) → AreGiven P S known ps args → EachYields (sorts_of ps) (evals_each args)
      each_yields [] e.none p = tt
      each_yields (b.Of u ∷ ps) (e.more a rest) p = ((λ k before h. evals_fit a k before p.0 (Of u, p.1, h)), each_yields ps rest p.2)
      each_yields (b.Handler ∷ ps) (e.more a rest) p = (handler_fits a p.0, each_yields ps rest p.1)
      each_yields _ _ p = absurd p

      items_yield : (u : ValueType) (items : TypedTrees) → AreItems P S known u items → AllYield (Of u) (evals_each items)
      items_yield u e.none p = tt
      items_yield u (e.more a rest) p = ((λ k before h. evals_fit a k before p.0 (Of u, p.1, h)), items_yield u rest p.2)

    tests_fit : (o : Option TypedTree) (y n : Continuation) → MayTest P S known o → FitsValues P S y [] → FitsValues P S n [] → FitsValues P S (tests o y n) []
    tests_fit None y n p hy hn = hy
    tests_fit (Some a) y n p hy hn = evals_fit a (Choose y n) [] p.0 (at_type (Choose y n) (type_of a) t.Boolean [] p.1 (hy, hn))

    steps_fit : (o : Option TypedTree) (k : Continuation) → MayStep P S known o → FitsValues P S k [] → FitsValues P S (steps o k) []
    steps_fit None k p h = h
    steps_fit (Some a) k p h = evals_fit a (Drop k) [] p (itself (Drop k) (Of (type_of a)) [] h)

    initial_fits : (o : Option TypedTree) (x : Spot) (u : ValueType) (k : Continuation) → MayDeclare P S x u → IsInitial P S known o u → FitsValues P S k [] → FitsValues P S (initial o (Store x (Drop k))) []
    initial_fits None x u k m p h = (Of u, (λ heap. default_is P heap u), (u, may_stored x u m, same_goes P u, itself (Drop k) (Of u) [] h))
    initial_fits (Some a) x u k m p h = evals_fit a (Store x (Drop k)) [] p.0 (itself (Store x (Drop k)) (Of (type_of a)) [] (u, may_stored x u m, p.1, itself (Drop k) (Of u) [] h))

  declares_fit : (known : List ℕ) (each : List TypedDeclaration) (k : Continuation) → AreDeclared P S known each → FitsValues P S k [] → FitsValues P S (declares each k) []
  declares_fit known [] k p h = h
  declares_fit known (d ∷ rest) k p h = initial_fits known d.first d.name p.0 (declares rest k) p.1 p.2 (declares_fit (known_with d.name known) rest k p.3 h)

  module _ (this : GivesThis P S) where
    -- running off the end
    pub bare_fits : FitsValues P S (bare S.maker) []
    bare_fits = by_maker S.maker refl
      where
        by_maker : (m : Bool) → S.maker ≡ m → FitsValues P S (bare m) []
        by_maker true q = (let o = this q in (t.Object o.0, o.1, (Of (t.Object o.0), same_suits P (Of (t.Object o.0)), inl (sym o.2))))
        by_maker false q = (Of S.routine.gives, (λ h. default_is P h S.routine.gives), same_goes P S.routine.gives)

    returned_fits : (known : List ℕ) (value : Option TypedTree) (main maker : Bool) → S.maker ≡ maker → FitsValues P S (bare maker) []
        → IsReturned P S known value (if main then None else Some (if maker then t.Nothing else S.routine.gives)) → (b d k : Continuation) → FitsValues P S (runs maker (e.Return value) b d k) []
    returned_fits known value true maker q back p b d k = absurd p
    returned_fits known None false maker q back p b d k = back
    returned_fits known (Some a) false true q back p b d k = evals_fit known a (returns true) [] p.0 (itself (returns true) (Of (type_of a)) [] back)
    returned_fits known (Some a) false false q back p b d k = evals_fit known a Give [] p.0 (itself Give (Of (type_of a)) [] p.1)

    first_run : (known : List ℕ) (o : OptionalTypedStatement) (b d k : Continuation) → IsSoundFirst P S o known → FitsValues P S k [] → FitsValues P S (runs_first S.maker o b d k) []
    first_run known e.omitted b d k p h = h
    first_run known (e.written (e.Let fixed each)) b d k p h = declares_fit known each k p h
    first_run known (e.written (e.Plain a)) b d k p h = evals_fit known a (Drop k) [] p (itself (Drop k) (Of (type_of a)) [] h)
    first_run known (e.written _) b d k p h = absurd p

    mutual
      pub runs_fit : (s : TypedStatement) (looped : Bool) (known : List ℕ) (b d k : Continuation) → IsSound P S s looped known → FitsValues P S b [] → FitsValues P S d [] → FitsValues P S k [] → FitsValues P S (runs S.maker s b d k) []
      runs_fit (e.Block all) l n b d k p hb hd h = all_run all l n b d k p hb hd h
      runs_fit (e.Let fixed each) l n b d k p hb hd h = declares_fit n each k p h
      runs_fit (e.IfOnly test a) l n b d k p hb hd h =
          (let so : Continuation = runs S.maker a b d k in
          evals_fit n test (Choose so k) [] p.0.0 (at_type (Choose so k) (type_of test) t.Boolean [] p.0.1 (runs_fit a l n b d k p.1 hb hd h, h)))
      runs_fit (e.IfElse test a o) l n b d k p hb hd h =
          (let so : Continuation = runs S.maker a b d k in let otherwise : Continuation = runs S.maker o b d k in
          evals_fit n test (Choose so otherwise) [] p.0.0 (at_type (Choose so otherwise) (type_of test) t.Boolean [] p.0.1 (runs_fit a l n b d k p.1 hb hd h, runs_fit o l n b d k p.2 hb hd h)))
      runs_fit (e.While test a) l n b d k p hb hd h =
          (let turn : Continuation = Again (e.While test a) k in let fine : FitsValues P S turn [] = (refl, l, n, p, h) in
          let body : Continuation = runs S.maker a k turn turn in
          evals_fit n test (Choose body k) [] p.0.0 (at_type (Choose body k) (type_of test) t.Boolean [] p.0.1 (runs_fit a true n k turn turn p.1 h fine fine, h)))
      runs_fit (e.DoWhile a test) l n b d k p hb hd h =
          (let turn : Continuation = Again (e.DoWhile a test) k in let fine : FitsValues P S turn [] = (refl, l, n, p, h) in
          let next : Continuation = evals test (Choose turn k) in
          let next_fits : FitsValues P S next [] = evals_fit n test (Choose turn k) [] p.1.0 (at_type (Choose turn k) (type_of test) t.Boolean [] p.1.1 (fine, h)) in
          runs_fit a true n k next next p.0 h next_fits next_fits)
      runs_fit (e.For first test step a) l n b d k p hb hd h =
          (let inside : List ℕ = known_after_first first n in
          let turn : Continuation = Again (e.For e.omitted test step a) k in let fine : FitsValues P S turn [] = (refl, l, inside, (tt, p.1, p.2, p.3), h) in
          let next : Continuation = steps step turn in let next_fits : FitsValues P S next [] = steps_fit inside step turn p.2 fine in
          let body : Continuation = runs S.maker a k next next in
          first_run n first b d (tests test body k) p.0 (tests_fit inside test body k p.1 (runs_fit a true inside k next next p.3 h next_fits next_fits) h))
      runs_fit (e.ForOf fixed (Local i) list a) l n b d k p hb hd h =
          (let last : FitsValues P S (Each i a k) [] = (refl, i ∷ n, p.6, h, p.0, p.3, p.4, p.5) in
          let rest : Continuation = Drop (Put default (Store (Local (suc (suc i))) (Drop (Each i a k)))) in
          evals_fit n list (Store (Local (suc i)) rest) [] p.1
          (at_type (Store (Local (suc i)) rest) (type_of list) (t.ListOf p.0) [] p.2 (
            t.ListOf p.0,
            p.4,
            same_goes P (t.ListOf p.0),
            itself rest (Of (t.ListOf p.0)) []
                (Of t.Number, (λ heap. tt), (t.Number, p.5, same_goes P t.Number, itself (Drop (Each i a k)) (Of t.Number) [] last)),
          )))
      runs_fit (e.ForOf fixed (Param i) list a) l n b d k p hb hd h = absurd p
      runs_fit (e.ForOf fixed (Global i) list a) l n b d k p hb hd h = absurd p
      runs_fit (e.Return value) l n b d k p hb hd h = returned_fits n value S.main S.maker refl bare_fits p b d k
      runs_fit e.Break l n b d k p hb hd h = hb
      runs_fit e.Continue l n b d k p hb hd h = hd
      runs_fit (e.Plain a) l n b d k p hb hd h = evals_fit n a (Drop k) [] p (itself (Drop k) (Of (type_of a)) [] h)
      runs_fit e.Empty l n b d k p hb hd h = h

      pub all_run : (all : TypedStatements) (looped : Bool) (known : List ℕ) (b d k : Continuation) → AreSound P S all looped known → FitsValues P S b [] → FitsValues P S d [] → FitsValues P S k [] → FitsValues P S (runs_all S.maker all b d k) []
      all_run e.done l n b d k p hb hd h = h
      all_run (e.also a rest) l n b d k p hb hd h =
          runs_fit a l n b d (runs_all S.maker rest b d k) p.0 hb hd (all_run rest l (known_after a n) b d k p.1 hb hd h)
