-- A statement's code does what is left to do in it and behind it.
use Rattle.std.proofs.Common.{◌≡◌, ℕ, zero, suc, ◌+◌, ◌<◌, inl, inr, List, [], ◌∷◌, ◌++◌, length, Option, Some, None, Bool, true, false, refl, sym, ◌∙◌, subst, arith}
use Rattle.flat_ir.specs.declared.ops.Op.{Op}
use Rattle.flat_ir.specs.declared.ops.Op.TheVariants.{Jump}
use Rattle.sts_syntax.specs.declared.typed.Spot.TheVariants.{Param, Local, Global}
use Rattle.sts_syntax.specs.TypedTrees as e
use Rattle.sts_syntax.specs.TypedTrees.{TypedTree, TypedTrees, TypedStatement, TypedStatements, OptionalTypedStatement, TypedDeclaration, ClassEntry}
use Rattle.sts_meaning.specs.Values.{default}
use Rattle.sts_meaning.specs.Continuation.{Continuation, Put, Store, Drop, Choose, Again, Each, evals, initial, declares, tests, steps, bare, returns, runs, runs_first, runs_all}
use Rattle.sts_lower.specs.Sizes.{size, initial_size, declared_size, test_size, step_size, item_size, statement_size, first_size, statements_size}
use Rattle.sts_lower.specs.Code as l
use Rattle.sts_lower.specs.Statements as s
use Rattle.sts_lower.specs.Statements.{behind, bare_code, return_code}
use Rattle.lowered_code.specs.Fine.{Fine, FineOption, FineDeclared, FineStatement, FineFirst, FineStatements}
use Rattle.lower_simulation.specs.Places.{Marks, HasAt, TurnsBack}
use Rattle.lowered_code.proofs.Laws.{size_positive, code_length, test_length, step_length, statement_length, first_length, statements_length}
use Rattle.lower_simulation.proofs.Expressions.{has_front, has_after, LiesAt, IsNear, near_at, ExprAt, expr_at}

module _ (classes : List ClassEntry) (repeating : ℕ → ℕ) (params locals : ℕ) (maker : Bool) where
  -- the code of a `for` behind its head's first part
  abbrev pub for_code : Option TypedTree → Option TypedTree → TypedStatement → (at next : ℕ) → List Op
  for_code test step a at next =
      (let body = at + test_size test in
      let turn = body + statement_size maker a in
      s.test_code classes repeating params (params + locals) test at next
      ++ (s.statement_code classes repeating params (params + locals) maker a body turn next turn
      ++ (s.step_code classes repeating params (params + locals) step turn ++ Jump at ∷ [])))

  -- the code of a loop over items, at its turn
  abbrev pub each_code : ℕ → TypedStatement → (at next : ℕ) → List Op
  each_code i a at next =
      s.item_code classes repeating params (params + locals) i at next
      ++ (s.statement_code classes repeating params (params + locals) maker a (at + item_size) at next at
      ++ Jump at ∷ [])

module _ (classes : List ClassEntry) (functions : ℕ) (repeating : ℕ → ℕ) (repeated : List ℕ) (params locals : ℕ) (fetch : ℕ → Option Op) (maker : Bool) (this : maker ≡ true → 0 < params) where
  abbrev pub b : ℕ
  b = params + locals

  abbrev pub At : Continuation → ℕ → Marks → Type 0
  At k pc p = LiesAt classes functions repeating repeated params locals fetch maker k pc p

  abbrev pub By : Continuation → ℕ → Marks → Type 0
  By k pc p = IsNear classes functions repeating repeated params locals fetch maker k pc p

  abbrev pub sc : TypedStatement → (at next out again : ℕ) → List Op
  sc a at next out again = s.statement_code classes repeating params b maker a at next out again

  by_at : (k : Continuation) (p : Marks) (m n : ℕ) → m ≡ n → By k m p → By k n p
  by_at k p m n e h = near_at classes functions repeating repeated params locals fetch maker k p m n e h

  expr : (a : TypedTree) → Fine functions repeated params locals a → ExprAt classes functions repeating repeated params locals fetch maker a
  expr a fine = expr_at classes functions repeating repeated params locals fetch maker a fine

  -- n ops do this and then k; where there is none it is k itself
  abbrev pub Ready : ℕ → Continuation → Continuation → ℕ → Type 0
  Ready zero todo k pc = todo ≡ k
  Ready (suc n) todo k pc = At todo pc []

  ready : (n : ℕ) (todo k : Continuation) (pc : ℕ) → 0 < n → At todo pc [] → Ready n todo k pc
  ready zero todo k pc lt h = absurd (omega arith)
  ready (suc n) todo k pc lt h = h

  near_ready : (n : ℕ) (todo k : Continuation) (pc : ℕ) → Ready n todo k pc → By k (pc + n) [] → By todo pc []
  near_ready zero todo k pc e near =
      let same : pc + 0 ≡ pc = omega arith in
      subst (λ t. By t pc []) (sym e) (by_at k [] _ _ same near)
  near_ready (suc n) todo k pc h near = inl h

  at_behind : (n here next : ℕ) (todo k : Continuation) → Ready n todo k here → At k next [] → At todo (behind n here next) []
  at_behind zero here next todo k e h = subst (λ t. At t next []) (sym e) h
  at_behind (suc n) here next todo k h there = h

  ready_both : (m n : ℕ) (one two k : Continuation) (pc : ℕ) → Ready m one two pc → Ready n two k (pc + m) → Ready (m + n) one k pc
  ready_both zero zero one two k pc e f = e ∙ f
  ready_both zero (suc n) one two k pc e h =
      let same : pc + 0 ≡ pc = omega arith in
      let len : suc n ≡ 0 + suc n = omega arith in
      subst (λ l. Ready l one k pc) len (subst (λ t. At t pc []) (sym e) (subst (λ p. At two p []) same h))
  ready_both (suc m) n one two k pc h r =
      let len : suc (m + n) ≡ suc m + n = omega arith in
      subst (λ l. Ready l one k pc) len h

  pub at_ready : (n : ℕ) (todo k : Continuation) (pc : ℕ) → Ready n todo k pc → At k (pc + n) [] → At todo pc []
  at_ready zero todo k pc e there =
      let same : pc + 0 ≡ pc = omega arith in
      subst (λ t. At t pc []) (sym e) (subst (λ p. At k p []) same there)
  at_ready (suc n) todo k pc h there = h

  -- a value that is let go
  dropped : (k : Continuation) (pc : ℕ) → By k pc [] → By (Drop k) pc (None ∷ [])
  dropped k pc (inl h) = inl h
  dropped k pc (inr h) = inr h

  pub bare_at : (m : Bool) → (m ≡ true → 0 < params) → (pc : ℕ) → HasAt fetch pc (bare_code m b) → At (bare m) pc []
  bare_at true that pc has = (has.0, that refl, inl has.1.0)
  bare_at false that pc has = (has.0, inl has.1.0)

  returns_at : (m : Bool) → (m ≡ true → 0 < params) → (pc : ℕ) → HasAt fetch pc (return_code m b) → At (returns m) pc (None ∷ [])
  returns_at true that pc has = bare_at true that pc has
  returns_at false that pc has = has.0

  initial_at : (first : Option TypedTree) → FineOption functions repeated params locals first → (pc : ℕ) (k : Continuation) → HasAt fetch pc (s.initial_code classes repeating params b first pc)
      → At k (pc + initial_size first) (None ∷ []) → At (initial first k) pc []
  initial_at None fine pc k has there = (has.0, inl there)
  initial_at (Some a) fine pc k has there = (expr a fine).at pc (pc + size a) [] k has there (inl there)

  initial_length' : (first : Option TypedTree) (at : ℕ) → length (s.initial_code classes repeating params b first at) ≡ initial_size first
  initial_length' None at = refl
  initial_length' (Some a) at = code_length classes repeating params b a 0 at (at + size a)

  declared_at : (ds : List TypedDeclaration) → FineDeclared functions repeated params locals ds → (pc : ℕ) (k : Continuation) → HasAt fetch pc (s.declared_code classes repeating params b ds pc)
      → By k (pc + declared_size ds) [] → Ready (declared_size ds) (declares ds k) k pc
  declared_at [] fine pc k has near = refl
  declared_at (d ∷ rest) fine pc k has near =
      let ps = pc + initial_size d.first in
      let has_s = has_after fetch pc (initial_size d.first) (s.initial_code classes repeating params b d.first pc) _ (initial_length' d.first pc) has in
      let same : pc + (initial_size d.first + 1 + declared_size rest) ≡ ps + 1 + declared_size rest = omega arith in
      let near' = by_at k [] _ _ same near in
      let next = near_ready (declared_size rest) (declares rest k) k (ps + 1) (declared_at rest fine.2 (ps + 1) k has_s.1 near') near' in
      let at_s : At (Store d.name (Drop (declares rest k))) ps (None ∷ []) = (has_s.0, fine.1, dropped (declares rest k) (ps + 1) next) in
      ready (initial_size d.first + 1 + declared_size rest) _ k pc (omega arith) (initial_at d.first fine.0 pc _ (has_front fetch pc _ _ has) at_s)

  pub record StatementAt (a : TypedStatement) : Type 0 where
    pub at : (pc next out again : ℕ) (out' again' k : Continuation) → HasAt fetch pc (sc a pc next out again) → At out' out [] → At again' again [] → At k next [] → By k (pc + statement_size maker a) []
        → Ready (statement_size maker a) (runs maker a out' again' k) k pc

  -- a turn of each kind of loop, from its code and that of its body
  pub while_at : (test : TypedTree) (a : TypedStatement) → Fine functions repeated params locals test → FineStatement functions repeated params locals a → StatementAt a → (pc next : ℕ) (k : Continuation)
      → HasAt fetch pc (sc (e.While test a) pc next next next) → At k next [] → At (runs maker (e.While test a) k k k) pc []
  while_at test a ft fa body pc next k has there =
      let pt = pc + size test in
      let pb = pt + 1 + 1 in
      let pj = pb + statement_size maker a in
      let turn = Again (e.While test a) k in
      let has_t = has_after fetch pc (size test) (l.code classes repeating params b test 0 pc pt) _ (code_length classes repeating params b test 0 pc pt) has in
      let has_j = has_after fetch pb (statement_size maker a) (sc a pb pj next pj) _ (statement_length classes repeating params b maker a pb pj next pj) has_t.1.1 in
      let at_j : At turn pj [] = (refl, pc, has_j.0, tt, (ft, fa), next, has, there) in
      let at_b = at_ready (statement_size maker a) _ turn pb (body.at pb pj next pj k turn turn (has_front fetch pb _ _ has_t.1.1) there at_j at_j (inl at_j)) at_j in
      let at_t : At (Choose (runs maker a k turn turn) k) pt (None ∷ []) = (pb, has_t.0, inl at_b, inr (next, has_t.1.0, there)) in
      (expr test ft).at pc pt [] (Choose (runs maker a k turn turn) k) (has_front fetch pc _ _ has) at_t (inl at_t)

  pub do_at : (a : TypedStatement) (test : TypedTree) → Fine functions repeated params locals test → FineStatement functions repeated params locals a → StatementAt a → (pc next : ℕ) (k : Continuation)
      → HasAt fetch pc (sc (e.DoWhile a test) pc next next next) → At k next [] → At (runs maker (e.DoWhile a test) k k k) pc []
  do_at a test ft fa body pc next k has there =
      let pe = pc + statement_size maker a in
      let pt = pe + size test in
      let has_e = has_after fetch pc (statement_size maker a) (sc a pc pe next pe) _ (statement_length classes repeating params b maker a pc pe next pe) has in
      let has_t = has_after fetch pe (size test) (l.code classes repeating params b test 0 pe pt) _ (code_length classes repeating params b test 0 pe pt) has_e in
      let at_j : At (Again (e.DoWhile a test) k) (pt + 1 + 1) [] = (refl, pc, has_t.1.1.0, tt, (fa, ft), next, has, there) in
      let at_t : At (Choose (Again (e.DoWhile a test) k) k) pt (None ∷ []) = (pt + 1 + 1, has_t.0, inl at_j, inr (next, has_t.1.0, there)) in
      let turn = evals test (Choose (Again (e.DoWhile a test) k) k) in
      let at_e : At turn pe [] = (expr test ft).at pe pt [] (Choose (Again (e.DoWhile a test) k) k) (has_front fetch pe _ _ has_e) at_t (inl at_t) in
      at_ready (statement_size maker a) _ turn pc (body.at pc pe next pe k turn turn (has_front fetch pc _ _ has) there at_e at_e (inl at_e)) at_e

  steps_at : (step : Option TypedTree) → FineOption functions repeated params locals step → (pc : ℕ) (k : Continuation) → HasAt fetch pc (s.step_code classes repeating params b step pc) → At k (pc + step_size step) [] → At (steps step k) pc []
  steps_at None fine pc k has there = let same : pc + 0 ≡ pc = omega arith in subst (λ p. At k p []) same there
  steps_at (Some a) fine pc k has there = (expr a fine).at pc (pc + size a) [] (Drop k) has there (inl there)

  tests_at : (test : Option TypedTree) → FineOption functions repeated params locals test → (pc next : ℕ) (so k : Continuation) → HasAt fetch pc (s.test_code classes repeating params b test pc next) → At so (pc + test_size test) [] → At k next [] → At (tests test so k) pc []
  tests_at None fine pc next so k has there out = let same : pc + 0 ≡ pc = omega arith in subst (λ p. At so p []) same there
  tests_at (Some a) fine pc next so k has there out =
      let pt = pc + size a in
      let has_t = has_after fetch pc (size a) (l.code classes repeating params b a 0 pc pt) _ (code_length classes repeating params b a 0 pc pt) has in
      let same : pc + (size a + 1 + 1) ≡ pt + 1 + 1 = omega arith in
      let at_t : At (Choose so k) pt (None ∷ []) = (pt + 1 + 1, has_t.0, inl (subst (λ p. At so p []) same there), inr (next, has_t.1.0, out)) in
      (expr a fine).at pc pt [] (Choose so k) (has_front fetch pc _ _ has) at_t (inl at_t)

  pub for_at : (test step : Option TypedTree) (a : TypedStatement) → FineOption functions repeated params locals test → FineOption functions repeated params locals step → FineStatement functions repeated params locals a → StatementAt a → (pc next : ℕ) (k : Continuation)
      → HasAt fetch pc (for_code classes repeating params locals maker test step a pc next) → At k next [] → At (runs maker (e.For e.omitted test step a) k k k) pc []
  for_at test step a ft fs fa body pc next k has there =
      let pb = pc + test_size test in
      let pt = pb + statement_size maker a in
      let has_b = has_after fetch pc (test_size test) (s.test_code classes repeating params b test pc next) _ (test_length classes repeating params b test pc next) has in
      let has_t = has_after fetch pb (statement_size maker a) (sc a pb pt next pt) _ (statement_length classes repeating params b maker a pb pt next pt) has_b in
      let has_j = has_after fetch pt (step_size step) (s.step_code classes repeating params b step pt) _ (step_length classes repeating params b step pt) has_t in
      let loop = Again (e.For e.omitted test step a) k in
      let same : pc + 0 ≡ pc = omega arith in
      let whole : HasAt fetch pc (sc (e.For e.omitted test step a) pc next next next) = subst (λ at. HasAt fetch pc (for_code classes repeating params locals maker test step a at next)) (sym same) has in
      let at_j : At loop (pt + step_size step) [] = (refl, pc, has_j.0, tt, (tt, ft, fs, fa), next, whole, there) in
      let turn = steps step loop in
      let at_t = steps_at step fs pt loop (has_front fetch pt _ _ has_t) at_j in
      let at_b = at_ready (statement_size maker a) _ turn pb (body.at pb pt next pt k turn turn (has_front fetch pb _ _ has_b) there at_t at_t (inl at_t)) at_t in
      tests_at test ft pc next (runs maker a k turn turn) k (has_front fetch pc _ _ has) at_b there

  -- the body of a loop over items, from the loop's code
  pub each_at : (i : ℕ) (a : TypedStatement) → StatementAt a → (pc next : ℕ) (k : Continuation) → At (Each i a k) pc [] → HasAt fetch pc (each_code classes repeating params locals maker i a pc next) → At k next []
      → By (runs maker a k (Each i a k) (Each i a k)) (pc + item_size) []
  each_at i a body pc next k turn has there =
      let pb = pc + item_size in
      let has_b = has_after fetch pc item_size (s.item_code classes repeating params b i pc next) _ refl has in
      let has_j = has_after fetch pb (statement_size maker a) (sc a pb pc next pc) _ (statement_length classes repeating params b maker a pb pc next pc) has_b in
      let near : By (Each i a k) (pb + statement_size maker a) [] = inr (pc, has_j.0, turn) in
      let first = body.at pb pc next pc k (Each i a k) (Each i a k) (has_front fetch pb _ _ has_b) there turn turn near in
      near_ready (statement_size maker a) _ (Each i a k) pb first near

  mutual
    pub statement_at : (a : TypedStatement) → FineStatement functions repeated params locals a → StatementAt a
    statement_at (e.Block all) fine = record { at = λ pc next out again out' again' k has at_b at_c there near. statements_at all fine pc next out again out' again' k has at_b at_c there near }
    statement_at (e.Let fixed each) fine = record { at = λ pc next out again out' again' k has at_b at_c there near. declared_at each fine pc k has near }
    statement_at (e.IfOnly test a) fine = record {
      at = λ pc next out again out' again' k has at_b at_c there near.
          let pt = pc + size test in
          let pa = pt + 1 + 1 in
          let has_t = has_after fetch pc (size test) (l.code classes repeating params b test 0 pc pt) _ (code_length classes repeating params b test 0 pc pt) has in
          let same : pc + (size test + 1 + 1 + statement_size maker a) ≡ pa + statement_size maker a = omega arith in
          let near_a = by_at k [] _ _ same near in
          let at_a = near_ready (statement_size maker a) _ _ pa ((statement_at a fine.1).at pa next out again out' again' k has_t.1.1 at_b at_c there near_a) near_a in
          let at_t : At (Choose (runs maker a out' again' k) k) pt (None ∷ []) = (pa, has_t.0, at_a, inr (next, has_t.1.0, there)) in
          ready (size test + 1 + 1 + statement_size maker a) _ _ pc (omega arith) ((expr test fine.0).at pc pt [] _ (has_front fetch pc _ _ has) at_t (inl at_t));
    }
    statement_at (e.IfElse test a other) fine = record {
      at = λ pc next out again out' again' k has at_b at_c there near.
          let pt = pc + size test in
          let pa = pt + 1 + statement_size maker other + 1 in
          let has_t = has_after fetch pc (size test) (l.code classes repeating params b test 0 pc pt) _ (code_length classes repeating params b test 0 pc pt) has in
          let has_j = has_after fetch (pt + 1) (statement_size maker other) (sc other (pt + 1) next out again) _ (statement_length classes repeating params b maker other (pt + 1) next out again) has_t.1 in
          let same : pc + (size test + 1 + statement_size maker other + 1 + statement_size maker a) ≡ pa + statement_size maker a = omega arith in
          let near_o : By k (pt + 1 + statement_size maker other) [] = inr (next, has_j.0, there) in
          let at_o = near_ready (statement_size maker other) _ _ (pt + 1) ((statement_at other fine.2).at (pt + 1) next out again out' again' k (has_front fetch (pt + 1) _ _ has_t.1) at_b at_c there near_o) near_o in
          let near_a = by_at k [] _ _ same near in
          let at_a = near_ready (statement_size maker a) _ _ pa ((statement_at a fine.1).at pa next out again out' again' k has_j.1 at_b at_c there near_a) near_a in
          let at_t : At (Choose (runs maker a out' again' k) (runs maker other out' again' k)) pt (None ∷ []) = (pa, has_t.0, at_a, at_o) in
          ready (size test + 1 + statement_size maker other + 1 + statement_size maker a) _ _ pc (omega arith) ((expr test fine.0).at pc pt [] _ (has_front fetch pc _ _ has) at_t (inl at_t));
    }
    statement_at (e.While test a) fine = record {
      at = λ pc next out again out' again' k has at_b at_c there near.
          ready (size test + 1 + 1 + statement_size maker a + 1) _ _ pc (omega arith) (while_at test a fine.0 fine.1 (statement_at a fine.1) pc next k has there);
    }
    statement_at (e.DoWhile a test) fine = record {
      at = λ pc next out again out' again' k has at_b at_c there near.
          ready (statement_size maker a + size test + 1 + 1 + 1) _ _ pc (omega arith) (do_at a test fine.1 fine.0 (statement_at a fine.0) pc next k has there);
    }
    statement_at (e.For first test step a) fine = record {
      at = λ pc next out again out' again' k has at_b at_c there near.
          let pl = pc + first_size maker first in
          let has_l = has_after fetch pc (first_size maker first) (s.first_code classes repeating params b maker first pc pl out again) _ (first_length classes repeating params b maker first pc pl out again) has in
          let at_l = for_at test step a fine.1 fine.2 fine.3 (statement_at a fine.3) pl next k has_l there in
          let at_f = first_at first fine.0 pc pl out again out' again' (runs maker (e.For e.omitted test step a) k k k) (has_front fetch pc _ _ has) at_b at_c at_l (inl at_l) in
          ready (first_size maker first + (test_size test + statement_size maker a + step_size step + 1)) _ _ pc (omega arith) (at_ready (first_size maker first) _ _ pc at_f at_l);
    }
    statement_at (e.ForOf fixed (Local i) list a) fine = record {
      at = λ pc next out again out' again' k has at_b at_c there near.
          let pl = pc + size list in
          let pe = pl + 1 + 1 + 1 in
          let has_l = has_after fetch pc (size list) (l.code classes repeating params b list 0 pc pl) _ (code_length classes repeating params b list 0 pc pl) has in
          let there' : suc (suc i) < locals = fine.0 in
          let turn : At (Each i a k) pe [] = (refl, fine.0, fine.2, next, has_l.1.1.1, there) in
          let at_2 : At (Store (Local (suc (suc i))) (Drop (Each i a k))) (pl + 1 + 1) (None ∷ []) = (has_l.1.1.0, fine.0, inl turn) in
          let at_0 : At (Put default (Store (Local (suc (suc i))) (Drop (Each i a k)))) (pl + 1) [] = (has_l.1.0, inl at_2) in
          let at_1 : At (Store (Local (suc i)) (Drop (Put default (Store (Local (suc (suc i))) (Drop (Each i a k)))))) pl (None ∷ []) = (has_l.0, omega arith, inl at_0) in
          ready (size list + 1 + 1 + 1 + (item_size + statement_size maker a + 1)) _ _ pc (omega arith) ((expr list fine.1).at pc pl [] _ (has_front fetch pc _ _ has) at_1 (inl at_1));
    }
    statement_at (e.ForOf fixed (Param i) list a) fine = absurd fine.0
    statement_at (e.ForOf fixed (Global g) list a) fine = absurd fine.0
    statement_at (e.Return None) fine = record { at = λ pc next out again out' again' k has at_b at_c there near. bare_at maker this pc has }
    statement_at (e.Return (Some a)) fine = record {
      at = λ pc next out again out' again' k has at_b at_c there near.
          let pr = pc + size a in
          let has_r = has_after fetch pc (size a) (l.code classes repeating params b a 0 pc pr) _ (code_length classes repeating params b a 0 pc pr) has in
          let at_r = returns_at maker this pr has_r in
          ready (statement_size maker (e.Return (Some a))) _ _ pc (omega (arith, size_positive a)) ((expr a fine).at pc pr [] (returns maker) (has_front fetch pc _ _ has) at_r (inl at_r));
    }
    statement_at e.Break fine = record { at = λ pc next out again out' again' k has at_b at_c there near. (out, has.0, at_b) }
    statement_at e.Continue fine = record { at = λ pc next out again out' again' k has at_b at_c there near. (again, has.0, at_c) }
    statement_at (e.Plain a) fine = record {
      at = λ pc next out again out' again' k has at_b at_c there near.
          ready (size a) _ _ pc (size_positive a) ((expr a fine).at pc next [] (Drop k) has there (dropped k (pc + size a) near));
    }
    statement_at e.Empty fine = record { at = λ pc next out again out' again' k has at_b at_c there near. refl }

    first_at : (f : OptionalTypedStatement) → FineFirst functions repeated params locals f → (pc next out again : ℕ) (out' again' k : Continuation) → HasAt fetch pc (s.first_code classes repeating params b maker f pc next out again) → At out' out [] → At again' again [] → At k next []
        → By k (pc + first_size maker f) [] → Ready (first_size maker f) (runs_first maker f out' again' k) k pc
    first_at e.omitted fine pc next out again out' again' k has at_b at_c there near = refl
    first_at (e.written a) fine pc next out again out' again' k has at_b at_c there near = (statement_at a fine).at pc next out again out' again' k has at_b at_c there near

    pub statements_at : (all : TypedStatements) → FineStatements functions repeated params locals all → (pc next out again : ℕ) (out' again' k : Continuation) → HasAt fetch pc (s.statements_code classes repeating params b maker all pc next out again) → At out' out [] → At again' again [] → At k next []
        → By k (pc + statements_size maker all) [] → Ready (statements_size maker all) (runs_all maker all out' again' k) k pc
    statements_at e.done fine pc next out again out' again' k has at_b at_c there near = refl
    statements_at (e.also a rest) fine pc next out again out' again' k has at_b at_c there near =
        let p2 = pc + statement_size maker a in
        let n = behind (statements_size maker rest) p2 next in
        let has_r = has_after fetch pc (statement_size maker a) (sc a pc n out again) _ (statement_length classes repeating params b maker a pc n out again) has in
        let same : pc + (statement_size maker a + statements_size maker rest) ≡ p2 + statements_size maker rest = omega arith in
        let near_r = by_at k [] _ _ same near in
        let at_r = statements_at rest fine.1 p2 next out again out' again' k has_r at_b at_c there near_r in
        let at_a = (statement_at a fine.0).at pc n out again out' again' (runs_all maker rest out' again' k) (has_front fetch pc _ _ has) at_b at_c (at_behind (statements_size maker rest) p2 next _ _ at_r there) (near_ready (statements_size maker rest) _ _ p2 at_r near_r) in
        ready_both (statement_size maker a) (statements_size maker rest) _ _ _ pc at_a at_r

  -- a loop that turns back
  pub turn_at : (loop : TypedStatement) (pc next : ℕ) (k : Continuation) → TurnsBack loop → FineStatement functions repeated params locals loop
      → HasAt fetch pc (sc loop pc next next next) → At k next [] → At (runs maker loop k k k) pc []
  turn_at (e.While test a) pc next k turns fine has there = while_at test a fine.0 fine.1 (statement_at a fine.1) pc next k has there
  turn_at (e.DoWhile a test) pc next k turns fine has there = do_at a test fine.1 fine.0 (statement_at a fine.0) pc next k has there
  turn_at (e.For e.omitted test step a) pc next k turns fine has there =
      let same : pc + 0 ≡ pc = omega arith in
      for_at test step a fine.1 fine.2 fine.3 (statement_at a fine.3) pc next k (subst (λ at. HasAt fetch pc (for_code classes repeating params locals maker test step a at next)) same has) there
  turn_at loop pc next k turns fine has there = absurd turns

  -- the statements of a function, and then running off its end
  pub body_at : (all : TypedStatements) → FineStatements functions repeated params locals all
      → HasAt fetch 0 (s.statements_code classes repeating params b maker all 0 (statements_size maker all) (statements_size maker all) (statements_size maker all) ++ bare_code maker b)
      → At (runs_all maker all (bare maker) (bare maker) (bare maker)) 0 []
  body_at all fine has =
      let n = statements_size maker all in
      let has_r = has_after fetch 0 n (s.statements_code classes repeating params b maker all 0 n n n) _ (statements_length classes repeating params b maker all 0 n n n) has in
      let same : 0 + n ≡ n = omega arith in
      let at_r = bare_at maker this (0 + n) has_r in
      let at_n = subst (λ p. At (bare maker) p []) same at_r in
      at_ready n _ (bare maker) 0 (statements_at all fine 0 n n n (bare maker) (bare maker) (bare maker) (has_front fetch 0 _ _ has) at_n at_n at_n (inl at_r)) at_r
