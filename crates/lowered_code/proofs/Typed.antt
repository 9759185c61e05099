-- Well-typed programs are as lowering needs them.
use Rattle.std.proofs.Common.{◌≡◌, ℕ, zero, suc, ◌+◌, ◌<◌, inl, inr, ⊎_elim, List, [], ◌∷◌, ◌++◌, length, Option, Some, None, Bool, true, false, refl, sym, ap, ◌∙◌, subst, arith}
use Rattle.std.specs.Prelude.{◌||◌}
use Rattle.std.proofs.lemmas.Bool.Decides.{eqb_tells}
use Rattle.sts_syntax.specs.declared.typed.Spot.{Spot}
use Rattle.sts_syntax.specs.declared.typed.Spot.TheVariants.{Param, Local, Global}
use Rattle.sts_syntax.specs.declared.typed.Callee.TheVariants as c
use Rattle.sts_syntax.specs.Types.{ValueType}
use Rattle.sts_syntax.specs.TypedTrees as e
use Rattle.sts_syntax.specs.TypedTrees.{TypedTree, TypedTrees, TypedStatement, TypedStatements, OptionalTypedStatement, TypedDeclaration, TypedRoutine, ClassEntry, TypedProgram}
use Rattle.sts_syntax.specs.BoardTable as b
use Rattle.sts_syntax.specs.BoardTable.{BoardParameter, BoardAction, row_of}
use Rattle.sts_syntax.specs.TypeRules.{entry, IsOneOf}
use Rattle.sts_syntax.specs.WellTyped.{Setting, IsTyped, IsTarget, AreGiven, AreItems, IsAsked, IsReturned, MayTest, MayStep, IsInitial, AreDeclared, MayDeclare, IsSound, IsSoundFirst, AreSound, Has, parameters_of, answer}
use Rattle.sts_syntax.specs.WellTypedPrograms.{is_maker, base_of_maker, setting, IsBodyOf, IsWellTyped}
use Rattle.sts_lower.specs.Code.{handler_of}
use Rattle.sts_lower.specs.Repeated.{repeated_by, repeated, repeated_each, optionally_repeated, repeated_first, repeated_in, repeated_in_first, repeated_in_all, repeated_in_each}
use Rattle.sts_lower.specs.Lowered.{repeated_in_program}
use Rattle.lowered_code.specs.Fine.{IsFine, IsThere, Fine, FineAction, FineTarget, FineEach, FineGiven, FineOption, FineDeclared, FineStatement, FineFirst, FineStatements}
use Rattle.lowered_code.proofs.Entries.{entry_within, entry_past}

-- each of some numbers is among others
abbrev pub Within : List ℕ → List ℕ → Type 0
Within all [] = Unit {0}
Within all (g ∷ gs) = IsOneOf g all × Within all gs

pub within_front : (all xs ys : List ℕ) → Within all (xs ++ ys) → Within all xs
within_front all [] ys h = tt
within_front all (x ∷ xs) ys h = (h.0, within_front all xs ys h.1)

pub within_back : (all xs ys : List ℕ) → Within all (xs ++ ys) → Within all ys
within_back all [] ys h = h
within_back all (x ∷ xs) ys h = within_back all xs ys h.1

one_back : (g x : ℕ) (xs : List ℕ) → IsOneOf g xs → IsOneOf g (x ∷ xs)
one_back g x xs h = inr h

within_more : (x : ℕ) (all xs : List ℕ) → Within all xs → Within (x ∷ all) xs
within_more x all [] h = tt
within_more x all (y ∷ ys) h = (inr h.0, within_more x all ys h.1)

pub within_self : (xs : List ℕ) → Within xs xs
within_self [] = tt
within_self (x ∷ xs) = (inl refl, within_more x xs xs (within_self xs))

module _ (P : TypedProgram) (S : Setting) where
  abbrev n : ℕ
  n = length P.functions

  abbrev l : List ℕ
  l = repeated_in_program P

  abbrev p : ℕ
  p = length S.routine.params

  abbrev q : ℕ
  q = length S.routine.locals

  there : (known : List ℕ) (x : Spot) (u : ValueType) → Has P S known x u → IsThere n l p q x
  there known (Param i) u h = entry_within S.routine.params i u h
  there known (Local i) u h = entry_within S.routine.locals i u h.1
  there known (Global g) u h = tt

  action_fine : (action : BoardAction) (handler : ℕ) → IsAsked action → Within l (repeated_by action handler) → FineAction n l p q action handler
  action_fine (b.Service number places) handler asked w = tt
  action_fine (b.Library f) handler asked w = asked
  action_fine b.Repeats handler asked w = w.0

  module _ (known : List ℕ) where
    mutual
      pub typed_fine : (a : TypedTree) → IsTyped P S known a → Within l (repeated a) → Fine n l p q a
      typed_fine (e.Num u k) h w = tt
      typed_fine (e.Text u k) h w = tt
      typed_fine (e.Truth u k) h w = tt
      typed_fine (e.Null u) h w = tt
      typed_fine (e.This u) h w = entry_within S.routine.params 0 u h.1
      typed_fine (e.Name u x) h w = there known x u h
      typed_fine (e.Unary u op a) h w = typed_fine a h.0 w
      typed_fine (e.Binary u op x y) h w = (typed_fine x h.0 (within_front l _ _ w), typed_fine y h.1 (within_back l (repeated x) _ w))
      typed_fine (e.Both u x y) h w = (typed_fine x h.0 (within_front l _ _ w), typed_fine y h.1 (within_back l (repeated x) _ w))
      typed_fine (e.Either u x y) h w = (typed_fine x h.0 (within_front l _ _ w), typed_fine y h.1 (within_back l (repeated x) _ w))
      typed_fine (e.Choice u test x y) h w =
          (typed_fine test h.0 (within_front l _ _ w), typed_fine x h.1 (within_front l _ _ (within_back l (repeated test) _ w)), typed_fine y h.2 (within_back l (repeated x) _ (within_back l (repeated test) _ w)))
      typed_fine (e.Set u None x r) h w = (target_fine x h.0 (within_front l _ _ w), typed_fine r h.1 (within_back l (repeated x) _ w))
      typed_fine (e.Set u (Some op) x r) h w = (target_fine x h.0 (within_front l _ _ w), typed_fine r h.1 (within_back l (repeated x) _ w))
      typed_fine (e.Bump u x by late) h w = target_fine x h.0 w
      typed_fine (e.Field u a f) h w = typed_fine a h.0 w
      typed_fine (e.Length u a) h w = typed_fine a h.0 w
      typed_fine (e.Item u x y) h w = (typed_fine x h.0 (within_front l _ _ w), typed_fine y h.1 (within_back l (repeated x) _ w))
      typed_fine (e.Call u (c.Function f) args) h w = each_fine h.0.params args h.2 (within_front l _ _ w)
      typed_fine (e.Call u (c.Slot s) (e.more a rest)) h w =
          (let w' = within_front l (repeated_each (e.more a rest)) _ w in (typed_fine a h.2 (within_front l _ _ w'), each_fine h.1 rest h.5 (within_back l (repeated a) _ w')))
      typed_fine (e.Call u (c.Slot s) e.none) h w = absurd h
      typed_fine (e.Call u c.Push (e.more x (e.more y e.none))) h w =
          (let w' = within_front l (repeated_each (e.more x (e.more y e.none))) _ w in
          ((typed_fine x h.0 (within_front l _ _ w'), (typed_fine y h.1 (within_front l _ _ (within_back l (repeated x) _ w')), tt)), refl))
      typed_fine (e.Call u c.Push e.none) h w = absurd h
      typed_fine (e.Call u c.Push (e.more x e.none)) h w = absurd h
      typed_fine (e.Call u c.Push (e.more x (e.more y (e.more z rest)))) h w = absurd h
      typed_fine (e.Call u c.Pop (e.more x e.none)) h w = (let w' = within_front l (repeated_each (e.more x e.none)) _ w in ((typed_fine x h.0 (within_front l _ _ w'), tt), refl))
      typed_fine (e.Call u c.Pop e.none) h w = absurd h
      typed_fine (e.Call u c.Pop (e.more x (e.more y rest))) h w = absurd h
      typed_fine (e.Call u (c.Board call) args) h w =
          (given_fine (row_of call).takes args h.0 (within_front l _ _ w), action_fine (row_of call).action (handler_of args) h.2 (within_back l (repeated_each args) _ w))
      typed_fine (e.SuperCall u f args) h w = (entry_within S.routine.params 0 _ h.1.5.1, each_fine h.0 args h.2 w)
      typed_fine (e.Make u k args) h w = each_fine h.1 args h.4 w
      typed_fine (e.Items u items) h w = items_fine h.0 items h.2 w
      typed_fine (e.Handler u f) h w = h

      target_fine : (x : TypedTree) → IsTarget P S known x → Within l (repeated x) → FineTarget n l p q x
      target_fine (e.Name u x) h w = there known x u h
      target_fine (e.Field u a f) h w = typed_fine a h.0 w
      target_fine (e.Item u x y) h w = (typed_fine x h.0 (within_front l _ _ w), typed_fine y h.1 (within_back l (repeated x) _ w))
      target_fine x h w = absurd h

      pub each_fine : (us : List ValueType) (args : TypedTrees) → AreGiven P S known (parameters_of us) args → Within l (repeated_each args) → FineEach n l p q args
      each_fine [] e.none h w = tt
      each_fine (u ∷ us) (e.more a rest) h w = (typed_fine a h.0 (within_front l _ _ w), each_fine us rest h.2 (within_back l (repeated a) _ w))
      each_fine [] (e.more a rest) h w = absurd h
      each_fine (u ∷ us) e.none h w = absurd h

      given_fine : (ps : List BoardParameter) (args : TypedTrees) → AreGiven P S known ps args → Within l (repeated_each args) → FineGiven n l p q ps args
      given_fine [] e.none h w = tt
      given_fine (b.Of u ∷ ps) (e.more a rest) h w = (typed_fine a h.0 (within_front l _ _ w), given_fine ps rest h.2 (within_back l (repeated a) _ w))
      given_fine (b.Handler ∷ ps) (e.more (e.Handler u f) rest) h w = (entry_within P.functions f h.0.0 h.0.1, given_fine ps rest h.1 w)
      given_fine (b.Handler ∷ ps) (e.more a rest) h w = absurd h.0
      given_fine ps args h w = absurd h

      items_fine : (u : ValueType) (items : TypedTrees) → AreItems P S known u items → Within l (repeated_each items) → FineEach n l p q items
      items_fine u e.none h w = tt
      items_fine u (e.more a rest) h w = (typed_fine a h.0 (within_front l _ _ w), items_fine u rest h.2 (within_back l (repeated a) _ w))

    test_fine : (t : Option TypedTree) → MayTest P S known t → Within l (optionally_repeated t) → FineOption n l p q t
    test_fine None h w = tt
    test_fine (Some a) h w = typed_fine a h.0 w

    step_fine : (t : Option TypedTree) → MayStep P S known t → Within l (optionally_repeated t) → FineOption n l p q t
    step_fine None h w = tt
    step_fine (Some a) h w = typed_fine a h w

    initial_fine : (t : Option TypedTree) (u : ValueType) → IsInitial P S known t u → Within l (optionally_repeated t) → FineOption n l p q t
    initial_fine None u h w = tt
    initial_fine (Some a) u h w = typed_fine a h.0 w

    returned_fine : (t : Option TypedTree) (o : Option ValueType) → IsReturned P S known t o → Within l (optionally_repeated t) → FineOption n l p q t
    returned_fine t None h w = absurd h
    returned_fine None (Some u) h w = tt
    returned_fine (Some a) (Some u) h w = typed_fine a h.0 w

  declare_there : (x : Spot) (u : ValueType) → MayDeclare P S x u → IsThere n l p q x
  declare_there (Param i) u h = absurd h
  declare_there (Local i) u h = entry_within S.routine.locals i u h
  declare_there (Global g) u h = tt

  declared_fine : (known : List ℕ) (ds : List TypedDeclaration) → AreDeclared P S known ds → Within l (repeated_first ds) → FineDeclared n l p q ds
  declared_fine known [] h w = tt
  declared_fine known (d ∷ ds) h w = (initial_fine known d.first h.0 h.2 (within_front l _ _ w), declare_there d.name h.0 h.1, declared_fine _ ds h.3 (within_back l (optionally_repeated d.first) _ w))

  mutual
    statement_fine : (s : TypedStatement) (looped : Bool) (known : List ℕ) → IsSound P S s looped known → Within l (repeated_in s) → FineStatement n l p q s
    statement_fine (e.Block all) looped known h w = statements_fine all looped known h w
    statement_fine (e.Let fixed each) looped known h w = declared_fine known each h w
    statement_fine (e.IfOnly test a) looped known h w = (typed_fine known test h.0.0 (within_front l _ _ w), statement_fine a looped known h.1 (within_back l (repeated test) _ w))
    statement_fine (e.IfElse test a o) looped known h w =
        (typed_fine known test h.0.0 (within_front l _ _ w), statement_fine a looped known h.1 (within_front l _ _ (within_back l (repeated test) _ w)), statement_fine o looped known h.2 (within_back l (repeated_in a) _ (within_back l (repeated test) _ w)))
    statement_fine (e.While test a) looped known h w = (typed_fine known test h.0.0 (within_front l _ _ w), statement_fine a true known h.1 (within_back l (repeated test) _ w))
    statement_fine (e.DoWhile a test) looped known h w = (statement_fine a true known h.0 (within_front l _ _ w), typed_fine known test h.1.0 (within_back l (repeated_in a) _ w))
    statement_fine (e.For first test step a) looped known h w =
        (let w1 = within_back l (repeated_in_first first) _ w in let w2 = within_back l (optionally_repeated test) _ w1 in
        (first_fine first known h.0 (within_front l _ _ w), test_fine _ test h.1 (within_front l _ _ w1), step_fine _ step h.2 (within_front l _ _ w2), statement_fine a true _ h.3 (within_back l (optionally_repeated step) _ w2)))
    statement_fine (e.ForOf fixed (Local i) list a) looped known h w = (entry_within S.routine.locals (suc (suc i)) _ h.5, typed_fine known list h.1 (within_front l _ _ w), statement_fine a true (i ∷ known) h.6 (within_back l (repeated list) _ w))
    statement_fine (e.ForOf fixed (Param i) list a) looped known h w = absurd h
    statement_fine (e.ForOf fixed (Global i) list a) looped known h w = absurd h
    statement_fine (e.Return value) looped known h w = returned_fine known value (answer S) h w
    statement_fine e.Break looped known h w = tt
    statement_fine e.Continue looped known h w = tt
    statement_fine (e.Plain a) looped known h w = typed_fine known a h w
    statement_fine e.Empty looped known h w = tt

    first_fine : (f : OptionalTypedStatement) (known : List ℕ) → IsSoundFirst P S f known → Within l (repeated_in_first f) → FineFirst n l p q f
    first_fine e.omitted known h w = tt
    first_fine (e.written (e.Let fixed each)) known h w = declared_fine known each h w
    first_fine (e.written (e.Plain a)) known h w = typed_fine known a h w
    first_fine (e.written s) known h w = absurd h

    pub statements_fine : (all : TypedStatements) (looped : Bool) (known : List ℕ) → AreSound P S all looped known → Within l (repeated_in_all all) → FineStatements n l p q all
    statements_fine e.done looped known h w = tt
    statements_fine (e.also a rest) looped known h w = (statement_fine a looped known h.0 (within_front l _ _ w), statements_fine rest looped _ h.1 (within_back l (repeated_in a) _ w))

-- the class whose constructor a function is
maker_class : (cs : List ClassEntry) (f : ℕ) → is_maker cs f ≡ true → (k : ℕ) × (class : ClassEntry) × (entry cs k ≡ Some class) × (class.maker ≡ f)
maker_class [] f h = cc h
maker_class (x ∷ cs) f h =
    ⊎_elim
    (λ y. (zero, x, refl, y.1))
    (λ y. let rest : is_maker cs f ≡ true = sym (ap (λ z. z || is_maker cs f) y.0) ∙ h in
    let found = maker_class cs f rest in
    (suc found.0, found.1, found.2, found.3))
    (eqb_tells x.maker f)

pub base_is_maker : (P : TypedProgram) (cs : List ClassEntry) (f base : ℕ) → base_of_maker P cs f ≡ Some base → is_maker cs f ≡ true
base_is_maker P [] f base h = cc h
base_is_maker P (x ∷ cs) f base h =
    ⊎_elim
    (λ y. ap (λ z. z || is_maker cs f) y.0)
    (λ y. ap (λ z. z || is_maker cs f) y.0 ∙ base_is_maker P cs f base (sym (ap (λ z. elim z [ true ↦ x.base | false ↦ base_of_maker P cs f ]) y.0) ∙ h))
    (eqb_tells x.maker f)

pub within_each : (all : List ℕ) (rs : List TypedRoutine) (f : ℕ) (r : TypedRoutine) → Within all (repeated_in_each rs) → entry rs f ≡ Some r → Within all (repeated_in_all r.all)
within_each all [] f r w h = cc h
within_each all (x ∷ rs) zero r w h = subst (λ (o : Option TypedRoutine). Of o) h (within_front all (repeated_in_all x.all) _ w)
  where
    Of : Option TypedRoutine → Type 0
    Of None = Unit {0}
    Of (Some r) = Within all (repeated_in_all r.all)
within_each all (x ∷ rs) (suc f) r w h = within_each all rs f r (within_back all (repeated_in_all x.all) _ w) h

module _ (P : TypedProgram) (typed : IsWellTyped P) where
  this_there : (f : ℕ) (r : TypedRoutine) → entry P.functions f ≡ Some r → is_maker P.classes f ≡ true → 0 < length r.params
  this_there f r at h =
      let found = maker_class P.classes f h in
      let made = (typed.classes found.0 found.1 found.2).maker in
      let same : r.params ≡ made.1.params = ap params_of (sym at ∙ ap (entry P.functions) (sym found.3) ∙ made.2) in
      let long : length r.params ≡ suc (length made.0) = ap length (same ∙ made.3) in
      omega arith
    where
      params_of : Option TypedRoutine → List ValueType
      params_of None = []
      params_of (Some r) = r.params

  body_fine : (f : ℕ) (r : TypedRoutine) → entry P.functions f ≡ Some r → (o : Option ℕ) → base_of_maker P P.classes f ≡ o → (all : TypedStatements) → IsBodyOf P o (setting P f r) all → Within (repeated_in_program P) (repeated_in_all all)
      → FineStatements (length P.functions) (repeated_in_program P) (length r.params) (length r.locals) all
  body_fine f r at None is all h w = statements_fine P (setting P f r) all false [] h w
  body_fine f r at (Some base) is (e.also (e.Plain (e.SuperCall u g args)) rest) h w = (
    (this_there f r at (base_is_maker P P.classes f base is), each_fine P (setting P f r) [] h.1 args h.5 (within_front (repeated_in_program P) (repeated_each args) _ w)),
    statements_fine P (setting P f r) rest false [] h.7 (within_back (repeated_in_program P) (repeated_each args) _ w),
  )
  body_fine f r at (Some base) is all h w = absurd h

  pub well_typed_fine : IsFine P
  well_typed_fine = record {
    all = λ f r at. body_fine f r at (base_of_maker P P.classes f) refl r.all (typed.functions f r at).body (within_each (repeated_in_program P) P.functions f r (within_self (repeated_in_program P)) at);
    this = this_there;
    makers = λ g h.
        let found = maker_class P.classes (length P.functions + g) h in
        let made = (typed.classes found.0 found.1 found.2).maker in
        let nothing : None ≡ Some made.1 = sym (entry_past P.functions g) ∙ ap (entry P.functions) (sym found.3) ∙ made.2 in
        cc nothing;
  }
