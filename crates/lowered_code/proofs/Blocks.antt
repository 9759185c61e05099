-- What isn't live where the code of a statement begins.
use Rattle.std.proofs.Common.{◌≡◌, ℕ, zero, suc, ◌+◌, ◌<◌, ◌≤◌, ⊎_elim, List, [], ◌∷◌, ◌++◌, length, Option, Some, None, Bool, true, false, refl, sym, ap, ◌∙◌, arith}
use Rattle.std.specs.Prelude.{pos}
use Rattle.flat_ir.specs.declared.ops.Op.{Op}
use Rattle.flat_ir.specs.declared.ops.Op.TheVariants as o
use Rattle.sts_syntax.specs.declared.typed.Spot.{Spot}
use Rattle.sts_syntax.specs.declared.typed.Spot.TheVariants.{Param, Local, Global}
use Rattle.sts_syntax.specs.Types.{ValueType}
use Rattle.sts_syntax.specs.TypedTrees as e
use Rattle.sts_syntax.specs.TypedTrees.{TypedTree, TypedStatement, TypedStatements, OptionalTypedStatement, TypedDeclaration, TypedProgram}
use Rattle.sts_syntax.specs.WellTyped.{Setting, IsTyped, IsReturned, MayTest, MayStep, IsInitial, AreDeclared, IsSound, IsSoundFirst, AreSound, answer, known_with, known_behind, known_after, known_after_first}
use Rattle.sts_lower.specs.Sizes.{size, initial_size, declared_size, test_size, step_size, item_size, statement_size, first_size, statements_size}
use Rattle.sts_lower.specs.Code as l
use Rattle.sts_lower.specs.Statements as s
use Rattle.sts_lower.specs.Statements.{behind, bare_code, return_code}
use Rattle.lowered_code.proofs.Lengths.{code_length, test_length, statement_length, first_length}
use Rattle.lowered_code.proofs.Dead.{IsDead, Stands, step, plain, plain_more, jump, jump_more, branch, turns, fewer, moved, front, back, shift}
use Rattle.lowered_code.proofs.Expressions.{cd, IsFree, SpotFree, typed_dead, set_dead}

module _ (P : TypedProgram) (S : Setting) (repeating : ℕ → ℕ) (ops : List Op) (t : ℕ) (past : length S.routine.params ≤ t) where
  abbrev ps : ℕ
  ps = length S.routine.params

  abbrev bs : ℕ
  bs = ps + length S.routine.locals

  abbrev Free : List ℕ → Type 0
  Free known = IsFree P S repeating ops t past known

  abbrev FreeSpot : Spot → Type 0
  FreeSpot x = SpotFree P S repeating ops t past x

  abbrev Here : ℕ → List Op → Type 0
  Here at xs = Stands ops t at xs

  abbrev Dead : (n at : ℕ) → Type 0
  Dead n at = IsDead ops t n at

  abbrev ec : TypedTree → (at next : ℕ) → List Op
  ec a at next = cd P S repeating ops t past a 0 at next

  -- an expression and then ops
  value_dead : (n : ℕ) (known : List ℕ) → Free known → (a : TypedTree) → IsTyped P S known a → (at : ℕ) (ys : List Op) → Here at (ec a at (at + size a) ++ ys)
      → (Here (at + size a) ys → (t ≡ bs + 0 → ⊥) → Dead n (at + size a)) → Dead n at
  value_dead n known f a h at ys st go =
      let st' = back ops t (ec a at (at + size a)) ys at (at + size a) (ap (λ (k : ℕ). at + k) (code_length P.classes repeating ps bs a 0 at (at + size a))) st in
      typed_dead P S repeating ops t past n known f a h 0 at (at + size a) (front ops t (ec a at (at + size a)) ys at st) (go st') (go st')

  free_with : (x : Spot) (known : List ℕ) → Free known → FreeSpot x → Free (known_with x known)
  free_with (Param i) known f x = f
  free_with (Local i) known f x = record { free = λ j is. ⊎_elim (λ e h. x (h ∙ ap (λ (k : ℕ). ps + k) e)) (λ r. f.free j r) is }
  free_with (Global g) known f x = f

  pub bare_dead : (n : ℕ) (m : Bool) (at : ℕ) → (m ≡ true → 0 < ps) → Here at (bare_code m bs) → Dead n at
  bare_dead n true at that st =
      let low : 0 < ps = that refl in
      plain ops t n at (suc at) (o.Copy (bs + 0) 0) st.0 refl refl (λ e. omega arith, tt) (λ ne. step ops t n (suc at) (o.Return (bs + 0)) st.1.0 (ne, tt) (λ w. tt))
  bare_dead n false at that st =
      plain ops t n at (suc at) (o.Const (bs + 0) (pos 0)) st.0 refl refl tt (λ ne. step ops t n (suc at) (o.Return (bs + 0)) st.1.0 (ne, tt) (λ w. tt))

  return_dead : (n : ℕ) (m : Bool) (at : ℕ) → (m ≡ true → 0 < ps) → (t ≡ bs + 0 → ⊥) → Here at (return_code m bs) → Dead n at
  return_dead n true at that ne st = bare_dead n true at that st
  return_dead n false at that ne st = step ops t n at (o.Return (bs + 0)) st.0 (ne, tt) (λ w. tt)

  -- a first value, in the first operand
  initial_dead : (n : ℕ) (known : List ℕ) → Free known → (a : Option TypedTree) (u : ValueType) → IsInitial P S known a u → (at : ℕ) (ys : List Op) → Here at (s.initial_code P.classes repeating ps bs a at ++ ys)
      → (Here (at + initial_size a) ys → (t ≡ bs + 0 → ⊥) → Dead n (at + initial_size a)) → Dead n at
  initial_dead n known f None u h at ys st go =
      plain ops t n at (at + 1) (o.Const (bs + 0) (pos 0)) st.0 refl (omega arith) tt (go (shift ops t ys (suc at) (at + 1) (omega arith) st.1))
  initial_dead n known f (Some a) u h at ys st go = value_dead n known f a h.0 at ys st go

  declared_dead : (n : ℕ) (known : List ℕ) (ds : List TypedDeclaration) → AreDeclared P S known ds → Free known → (at p : ℕ) → Here at (s.declared_code P.classes repeating ps bs ds at) → at + declared_size ds ≡ p → (Free (known_behind ds known) → Dead n p) → Dead n at
  declared_dead n known [] h f at p st e go = moved ops t n p at (omega arith) (go f)
  declared_dead n known (d ∷ ds) h f at p st e go =
      let q = at + initial_size d.first in
      let rest = s.declared_code P.classes repeating ps bs ds (q + 1) in
      initial_dead n known f d.first h.0 h.2 at (l.set_op ps (bs + 0) d.name ∷ rest) st
      (λ st' ne. set_dead P S repeating ops t past n d.name (bs + 0) q (q + 1) ne st'.0 (omega arith)
      (λ x. declared_dead n (known_with d.name known) ds h.3 (free_with d.name known f x) (q + 1) p (shift ops t rest (suc q) (q + 1) (omega arith) st'.1) (omega arith) go))

  -- the test and the step of a `for`
  test_dead : (n : ℕ) (known : List ℕ) → Free known → (a : Option TypedTree) → MayTest P S known a → (at next p : ℕ) → Here at (s.test_code P.classes repeating ps bs a at next) → at + test_size a ≡ p → Dead n next → Dead n p → Dead n at
  test_dead n known f None h at next p st e out go = moved ops t n p at (omega arith) go
  test_dead n known f (Some a) h at next p st e out go =
      let q = at + size a in
      let same : p ≡ q + 1 + 1 = omega arith in
      value_dead n known f a h.0 at (o.Branch (bs + 0) (q + 1 + 1) ∷ (o.Jump next ∷ [])) st
      (λ st' ne. branch ops t n q (bs + 0) (q + 1 + 1) (suc q) st'.0 ne refl (moved ops t n p (q + 1 + 1) same go) (jump ops t n (suc q) next st'.1.0 out))

  step_dead : (n : ℕ) (known : List ℕ) → Free known → (a : Option TypedTree) → MayStep P S known a → (at : ℕ) (ys : List Op) → Here at (s.step_code P.classes repeating ps bs a at ++ ys)
      → (Here (at + step_size a) ys → Dead n (at + step_size a)) → Dead n at
  step_dead n known f None h at ys st go = let e : at ≡ at + 0 = omega arith in moved ops t n (at + 0) at (sym e) (go (shift ops t ys at (at + 0) e st))
  step_dead n known f (Some a) h at ys st go = value_dead n known f a h at ys st (λ st' ne. go st')

  behind_dead : (n k here next : ℕ) → Dead n here → Dead n next → Dead n (behind k here next)
  behind_dead n zero here next h g = g
  behind_dead n (suc k) here next h g = h

  returned_typed : (known : List ℕ) (a : TypedTree) (u : Option ValueType) → IsReturned P S known (Some a) u → IsTyped P S known a
  returned_typed known a None h = absurd h
  returned_typed known a (Some u) h = h.0

  module _ (maker : Bool) (this : maker ≡ true → 0 < ps) where
    abbrev sc : TypedStatement → (at next out again : ℕ) → List Op
    sc a at next out again = s.statement_code P.classes repeating ps bs maker a at next out again

    sc_head : (a : TypedStatement) (at next out again : ℕ) (ys : List Op) → Here at (sc a at next out again ++ ys) → Here at (sc a at next out again)
    sc_head a at next out again ys st = front ops t (sc a at next out again) ys at st

    sc_tail : (a : TypedStatement) (at next out again : ℕ) (ys : List Op) → Here at (sc a at next out again ++ ys) → Here (at + statement_size maker a) ys
    sc_tail a at next out again ys st = back ops t (sc a at next out again) ys at (at + statement_size maker a) (ap (λ (k : ℕ). at + k) (statement_length P.classes repeating ps bs maker a at next out again)) st

    mutual
      statement_dead : (a : TypedStatement) (looped : Bool) (known : List ℕ) → IsSound P S a looped known → Free known → (n at next out again : ℕ) → Here at (sc a at next out again)
          → (Free (known_after a known) → Dead n (at + statement_size maker a)) → (Free (known_after a known) → Dead n next) → Dead n out → Dead n again → Dead n at
      statement_dead (e.Block ss) looped known h f n at next out again st end fin ox ax = statements_dead ss looped known h f n at next out again st (end f) (fin f) ox ax
      statement_dead (e.Let fixed each) looped known h f n at next out again st end fin ox ax = declared_dead n known each h f at (at + declared_size each) st refl end
      statement_dead (e.IfOnly test a) looped known h f n at next out again st end fin ox ax =
          (let p = at + size test in let pa = p + 1 + 1 in
          let same : at + (size test + 1 + 1 + statement_size maker a) ≡ pa + statement_size maker a = omega arith in
          value_dead n known f test h.0.0 at (o.Branch (bs + 0) pa ∷ (o.Jump next ∷ sc a pa next out again)) st
          (λ st' ne. branch ops t n p (bs + 0) pa (suc p) st'.0 ne refl
          (statement_dead a looped known h.1 f n pa next out again (shift ops t (sc a pa next out again) (suc (suc p)) pa (omega arith) st'.1.1)
          (λ w. moved ops t n (at + (size test + 1 + 1 + statement_size maker a)) (pa + statement_size maker a) same (end f)) (λ w. fin f) ox ax)
          (jump ops t n (suc p) next st'.1.0 (fin f))))
      statement_dead (e.IfElse test a other) looped known h f n at next out again st end fin ox ax =
          (let p = at + size test in let po = p + 1 in let pa = p + 1 + statement_size maker other + 1 in
          let zs = o.Jump next ∷ sc a pa next out again in
          let same : at + (size test + 1 + statement_size maker other + 1 + statement_size maker a) ≡ pa + statement_size maker a = omega arith in
          value_dead n known f test h.0.0 at (o.Branch (bs + 0) pa ∷ (sc other po next out again ++ zs)) st
          (λ st' ne.
          let sto = shift ops t (sc other po next out again ++ zs) (suc p) po (omega arith) st'.1 in let sta = sc_tail other po next out again zs sto in
          branch ops t n p (bs + 0) pa po st'.0 ne (omega arith)
          (statement_dead a looped known h.1 f n pa next out again (shift ops t (sc a pa next out again) (suc (po + statement_size maker other)) pa (omega arith) sta.1)
          (λ w. moved ops t n (at + (size test + 1 + statement_size maker other + 1 + statement_size maker a)) (pa + statement_size maker a) same (end f)) (λ w. fin f) ox ax)
          (statement_dead other looped known h.2 f n po next out again (sc_head other po next out again zs sto) (λ w. jump ops t n (po + statement_size maker other) next sta.0 (fin f)) (λ w. fin f) ox ax)))
      statement_dead (e.While test a) looped known h f n at next out again st end fin ox ax =
          (let p = at + size test in let pa = p + 1 + 1 in let turn = p + 1 + 1 + statement_size maker a in
          let zs = o.Jump at ∷ [] in
          turns ops t n at
          (λ m le come. let nx = fewer ops t (suc m) n next le (fin f) in
          value_dead (suc m) known f test h.0.0 at (o.Branch (bs + 0) pa ∷ (o.Jump next ∷ (sc a pa turn next turn ++ zs))) st
          (λ st' ne.
          let sta = shift ops t (sc a pa turn next turn ++ zs) (suc (suc p)) pa (omega arith) st'.1.1 in
          let again' = jump_more ops t m turn at (sc_tail a pa turn next turn zs sta).0 come in
          branch ops t (suc m) p (bs + 0) pa (suc p) st'.0 ne refl
          (statement_dead a true known h.1 f (suc m) pa turn next turn (sc_head a pa turn next turn zs sta) (λ w. again') (λ w. again') nx again')
          (jump ops t (suc m) (suc p) next st'.1.0 nx))))
      statement_dead (e.DoWhile a test) looped known h f n at next out again st end fin ox ax =
          (let turn = at + statement_size maker a in let q = turn + size test in
          let zs = o.Branch (bs + 0) (q + 1 + 1) ∷ (o.Jump next ∷ (o.Jump at ∷ [])) in
          let ys = ec test turn q ++ zs in
          turns ops t n at
          (λ m le come. let nx = fewer ops t (suc m) n next le (fin f) in
          let again' = value_dead (suc m) known f test h.1.0 turn zs (sc_tail a at turn next turn ys st)
          (λ st' ne. branch ops t (suc m) q (bs + 0) (q + 1 + 1) (suc q) st'.0 ne refl
          (let same : suc (suc q) ≡ q + 1 + 1 = omega arith in moved ops t (suc m) (suc (suc q)) (q + 1 + 1) same (jump_more ops t m (suc (suc q)) at st'.1.1.0 come))
          (jump ops t (suc m) (suc q) next st'.1.0 nx)) in
          statement_dead a true known h.0 f (suc m) at turn next turn (sc_head a at turn next turn ys st) (λ w. again') (λ w. again') nx again'))
      statement_dead (e.For first test each a) looped known h f n at next out again st end fin ox ax =
          (let loop = at + first_size maker first in let body = loop + test_size test in let turn = body + statement_size maker a in
          let zs = s.step_code P.classes repeating ps bs each turn ++ (o.Jump loop ∷ []) in
          let ys = sc a body turn next turn ++ zs in
          let xs = s.test_code P.classes repeating ps bs test loop next ++ ys in
          let fs = s.first_code P.classes repeating ps bs maker first at loop out again in
          let st1 = back ops t fs xs at loop (ap (λ (k : ℕ). at + k) (first_length P.classes repeating ps bs maker first at loop out again)) st in
          let st2 = back ops t (s.test_code P.classes repeating ps bs test loop next) ys loop body (ap (λ (k : ℕ). loop + k) (test_length P.classes repeating ps bs test loop next)) st1 in
          let st3 = sc_tail a body turn next turn zs st2 in
          let inside = known_after_first first known in
          let around : Free inside → Dead n loop = (λ g. turns ops t n loop
          (λ m le come. let nx = fewer ops t (suc m) n next le (fin f) in
          let again' = step_dead (suc m) inside g each h.2 turn (o.Jump loop ∷ []) st3 (λ st'. jump_more ops t m (turn + step_size each) loop st'.0 come) in
          test_dead (suc m) inside g test h.1 loop next body (front ops t (s.test_code P.classes repeating ps bs test loop next) ys loop st1) refl nx
          (statement_dead a true inside h.3 g (suc m) body turn next turn (sc_head a body turn next turn zs st2) (λ w. again') (λ w. again') nx again'))) in
          first_dead first known h.0 f n at loop out again (front ops t fs xs at st) around around)
      statement_dead (e.ForOf fixed (Local i) list a) looped known h f n at next out again st end fin ox ax =
          (let p = at + size list in let turn = p + 1 + 1 + 1 in let pa = turn + item_size in
          let tl = ps + suc i in let ti = ps + suc (suc i) in
          let zs = o.Jump turn ∷ [] in
          let ys = sc a pa turn next turn ++ zs in
          let loop = s.item_code P.classes repeating ps bs i turn next ++ ys in
          value_dead n known f list h.1 at (o.Copy tl (bs + 0) ∷ (o.Const (bs + 0) (pos 0) ∷ (o.Copy ti (bs + 0) ∷ loop))) st
          (λ st' ne. plain ops t n p (suc p) (o.Copy tl (bs + 0)) st'.0 refl refl (ne, tt)
          (λ nl. plain ops t n (suc p) (suc (suc p)) (o.Const (bs + 0) (pos 0)) st'.1.0 refl refl tt
          (λ w. plain ops t n (suc (suc p)) turn (o.Copy ti (bs + 0)) st'.1.1.0 refl (omega arith) (ne, tt)
          (λ ni. turns ops t n turn
          (λ m le come. let nx = fewer ops t (suc m) n next le (fin f) in
          let sl = shift ops t loop (suc (suc (suc p))) turn (omega arith) st'.1.1.1 in
          let q4 = turn + 1 + 1 + 1 + 1 in
          let sb = shift ops t ys (suc (suc (suc (suc (suc (suc turn)))))) pa (omega arith) sl.1.1.1.1.1.1 in
          let back_again = jump ops t m (pa + statement_size maker a) turn (sc_tail a pa turn next turn zs sb).0 come in
          plain ops t (suc m) turn (suc turn) (o.Length (bs + 0) tl) sl.0 refl refl (nl, tt)
          (λ w. plain ops t (suc m) (suc turn) (suc (suc turn)) (o.Binary (bs + 0) 6 ti (bs + 0)) sl.1.0 refl refl (ni, (ne, tt))
          (λ w. branch ops t (suc m) (suc (suc turn)) (bs + 0) q4 (suc (suc (suc turn))) sl.1.1.0 ne refl
          (let eq : suc (suc (suc (suc turn))) ≡ q4 = omega arith in moved ops t (suc m) (suc (suc (suc (suc turn)))) q4 eq
          (plain ops t (suc m) (suc (suc (suc (suc turn)))) (suc (suc (suc (suc (suc turn))))) (o.ItemGet (ps + i) tl ti) sl.1.1.1.1.0 refl refl (nl, (ni, tt))
          (λ nm. plain_more ops t m (suc (suc (suc (suc (suc turn))))) pa (o.Unary ti 5 ti) sl.1.1.1.1.1.0 refl (omega arith) (ni, tt)
          (λ w. statement_dead a true (i ∷ known) h.6 (free_with (Local i) known f nm) m pa turn next turn (sc_head a pa turn next turn zs sb) (λ w. back_again) (λ w. come) (fewer ops t m n next (omega arith) (fin f)) come))))
          (jump ops t (suc m) (suc (suc (suc turn))) next sl.1.1.1.0 nx)))))))))
      statement_dead (e.ForOf fixed (Param i) list a) looped known h f n at next out again st end fin ox ax = absurd h
      statement_dead (e.ForOf fixed (Global g) list a) looped known h f n at next out again st end fin ox ax = absurd h
      statement_dead (e.Return None) looped known h f n at next out again st end fin ox ax = bare_dead n maker at this st
      statement_dead (e.Return (Some a)) looped known h f n at next out again st end fin ox ax =
          value_dead n known f a (returned_typed known a (answer S) h) at (return_code maker bs) st (λ st' ne. return_dead n maker (at + size a) this ne st')
      statement_dead e.Break looped known h f n at next out again st end fin ox ax = jump ops t n at out st.0 ox
      statement_dead e.Continue looped known h f n at next out again st end fin ox ax = jump ops t n at again st.0 ax
      statement_dead (e.Plain a) looped known h f n at next out again st end fin ox ax = typed_dead P S repeating ops t past n known f a h 0 at next st (λ w. end f) (λ w. fin f)
      statement_dead e.Empty looped known h f n at next out again st end fin ox ax = let same : at + 0 ≡ at = omega arith in moved ops t n (at + 0) at same (end f)

      first_dead : (a : OptionalTypedStatement) (known : List ℕ) → IsSoundFirst P S a known → Free known → (n at next out again : ℕ) → Here at (s.first_code P.classes repeating ps bs maker a at next out again)
          → (Free (known_after_first a known) → Dead n (at + first_size maker a)) → (Free (known_after_first a known) → Dead n next) → Dead n at
      first_dead e.omitted known h f n at next out again st end fin = let same : at + 0 ≡ at = omega arith in moved ops t n (at + 0) at same (end f)
      first_dead (e.written (e.Let fixed each)) known h f n at next out again st end fin = declared_dead n known each h f at (at + declared_size each) st refl end
      first_dead (e.written (e.Plain a)) known h f n at next out again st end fin = typed_dead P S repeating ops t past n known f a h 0 at next st (λ w. end f) (λ w. fin f)
      first_dead (e.written a) known h f n at next out again st end fin = absurd h

      pub statements_dead : (ss : TypedStatements) (looped : Bool) (known : List ℕ) → AreSound P S ss looped known → Free known → (n at next out again : ℕ) → Here at (s.statements_code P.classes repeating ps bs maker ss at next out again)
          → Dead n (at + statements_size maker ss) → Dead n next → Dead n out → Dead n again → Dead n at
      statements_dead e.done looped known h f n at next out again st end fin ox ax = let same : at + 0 ≡ at = omega arith in moved ops t n (at + 0) at same end
      statements_dead (e.also a rest) looped known h f n at next out again st end fin ox ax =
          (let p = at + statement_size maker a in let go_on = behind (statements_size maker rest) p next in
          let ys = s.statements_code P.classes repeating ps bs maker rest p next out again in
          let same : at + (statement_size maker a + statements_size maker rest) ≡ p + statements_size maker rest = omega arith in
          let last = moved ops t n (at + (statement_size maker a + statements_size maker rest)) (p + statements_size maker rest) same end in
          let then' : Free (known_after a known) → Dead n p = λ g. statements_dead rest looped (known_after a known) h.1 g n p next out again (sc_tail a at go_on out again ys st) last fin ox ax in
          statement_dead a looped known h.0 f n at go_on out again (sc_head a at go_on out again ys st) then' (λ g. behind_dead n (statements_size maker rest) p next (then' g) fin) ox ax)
