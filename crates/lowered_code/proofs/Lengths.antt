-- How long the code of a tree is.
use Rattle.std.proofs.Common.{length-append, ◌≡◌, ℕ, suc, ◌+◌, ◌<◌, List, [], ◌∷◌, length, Option, Some, None, Bool, true, false, refl, ap, ◌∙◌, arith}
use Rattle.std.specs.Prelude.{ℤ}
use Rattle.sts_syntax.specs.declared.typed.Spot.TheVariants.{Param, Local, Global}
use Rattle.sts_syntax.specs.declared.typed.Callee.TheVariants as c
use Rattle.sts_syntax.specs.declared.typed.Callee.{Callee}
use Rattle.sts_syntax.specs.TypedTrees as e
use Rattle.sts_syntax.specs.TypedTrees.{TypedTree, TypedTrees, TypedStatement, TypedStatements, OptionalTypedStatement, TypedDeclaration, ClassEntry}
use Rattle.sts_syntax.specs.BoardTable.{ServicePlace, Written, Always, BoardAction, Service, Library, Repeats, row_of, placed, arranged}
use Rattle.sts_syntax.specs.Measures.{total, argument_sizes}
use Rattle.sts_lower.specs.Sizes.{Target, ToName, ToField, ToItem, ToNothing, target, store_size, bump_size, call_size, action_size, items_size, size, sizes, reach_size, initial_size, declared_size, test_size, step_size, return_size, item_size, statement_size, first_size, statements_size}
use Rattle.sts_lower.specs.Code.{Part, number_part, arguments, parts_code, action_code, call_code, stored_at, store_code, bump_code, items_code, code, parts, reach_code, handler_of}
use Rattle.sts_lower.specs.Statements.{behind, bare_code, return_code, initial_code, declared_code, test_code, step_code, statement_code, first_code, statements_code}

-- parts are as long as they say
pub record IsLong (p : Part) : Type 0 where
  pub long : (d at : ℕ) → length (p.ops d at) ≡ p.size

abbrev pub AreLong : List Part → Type 0
AreLong [] = Unit {0}
AreLong (p ∷ ps) = IsLong p × AreLong ps

abbrev pub sizes_of : List Part → List ℕ
sizes_of [] = []
sizes_of (p ∷ ps) = p.size ∷ sizes_of ps

pub two_bare : (m : Bool) (base : ℕ) → length (bare_code m base) ≡ 1 + 1
two_bare true base = refl
two_bare false base = refl

pub return_length : (m : Bool) (base : ℕ) → length (return_code m base) ≡ return_size m
return_length true base = refl
return_length false base = refl

module _ (classes : List ClassEntry) (repeating : ℕ → ℕ) (params base : ℕ) where
  pub parts_length : (ps : List Part) (d at : ℕ) → AreLong ps → length (parts_code classes repeating params base ps d at) ≡ total (sizes_of ps)
  parts_length [] d at l = refl
  parts_length (p ∷ ps) d at l = simp length-append (omega (arith, l.0.long d at, parts_length ps (suc d) (at + p.size) l.1))

  pub items_length : (ps : List Part) (d at : ℕ) → AreLong ps → length (items_code classes repeating params base ps d at) ≡ items_size (sizes_of ps)
  items_length [] d at l = refl
  items_length (p ∷ ps) d at l = simp length-append (omega (arith, l.0.long (suc d) at, items_length ps d (at + p.size + 1) l.1))

  number_long : (n : ℤ) → IsLong (number_part classes repeating params base n)
  number_long n = record { long = λ d at. refl }

  placed_long : (places : List ServicePlace) (ps : List Part) → AreLong ps → AreLong (placed (number_part classes repeating params base) places ps)
  placed_long [] ps l = l
  placed_long (Written ∷ places) [] l = placed_long places [] l
  placed_long (Written ∷ places) (p ∷ ps) l = (l.0, placed_long places ps l.1)
  placed_long (Always n ∷ places) ps l = (number_long n, placed_long places ps l)

  placed_sizes : (places : List ServicePlace) (ps : List Part) → sizes_of (placed (number_part classes repeating params base) places ps) ≡ placed (λ n. 1) places (sizes_of ps)
  placed_sizes [] ps = refl
  placed_sizes (Written ∷ places) [] = placed_sizes places []
  placed_sizes (Written ∷ places) (p ∷ ps) = ap (λ (ns : List ℕ). p.size ∷ ns) (placed_sizes places ps)
  placed_sizes (Always n ∷ places) ps = ap (λ (ns : List ℕ). 1 ∷ ns) (placed_sizes places ps)

  arranged_long : (action : BoardAction) (ps : List Part) → AreLong ps → AreLong (arranged (number_part classes repeating params base) action ps)
  arranged_long (Service n places) ps l = placed_long places ps l
  arranged_long (Library f) ps l = l
  arranged_long Repeats ps l = l

  arranged_sizes : (action : BoardAction) (ps : List Part) → sizes_of (arranged (number_part classes repeating params base) action ps) ≡ arranged (λ n. 1) action (sizes_of ps)
  arranged_sizes (Service n places) ps = placed_sizes places ps
  arranged_sizes (Library f) ps = refl
  arranged_sizes Repeats ps = refl

  pub arguments_long : (f : Callee) (ps : List Part) → AreLong ps → AreLong (arguments classes repeating params base f ps)
  arguments_long (c.Board call) ps l = arranged_long (row_of call).action ps l
  arguments_long (c.Function f) ps l = l
  arguments_long (c.Slot s) ps l = l
  arguments_long c.Push ps l = l
  arguments_long c.Pop ps l = l

  pub arguments_sizes : (f : Callee) (ps : List Part) → sizes_of (arguments classes repeating params base f ps) ≡ argument_sizes 1 f (sizes_of ps)
  arguments_sizes (c.Board call) ps = arranged_sizes (row_of call).action ps
  arguments_sizes (c.Function f) ps = refl
  arguments_sizes (c.Slot s) ps = refl
  arguments_sizes c.Push ps = refl
  arguments_sizes c.Pop ps = refl

  action_length : (action : BoardAction) (h d n : ℕ) → length (action_code classes repeating params base action h d n) ≡ action_size action
  action_length (Service number places) h d n = refl
  action_length (Library f) h d n = refl
  action_length Repeats h d n = refl

  pub call_length : (f : Callee) (h d n : ℕ) → length (call_code classes repeating params base f h d n) ≡ call_size f
  call_length (c.Board call) h d n = action_length (row_of call).action h d n
  call_length (c.Function f) h d n = refl
  call_length (c.Slot s) h d n = refl
  call_length c.Push h d n = refl
  call_length c.Pop h d n = refl

  pub store_length : (x : Target) (d : ℕ) → length (store_code classes repeating params base x d) ≡ store_size x
  store_length (ToName x) d = refl
  store_length (ToField f) d = refl
  store_length ToItem d = refl
  store_length ToNothing d = refl

  pub bump_length : (x : Target) (by : ℤ) (late : Bool) (d : ℕ) → length (bump_code classes repeating params base x by late d) ≡ bump_size x late
  bump_length (ToName (Param i)) by late d = refl
  bump_length (ToName (Local i)) by late d = refl
  bump_length (ToName (Global g)) by true d = refl
  bump_length (ToName (Global g)) by false d = refl
  bump_length (ToField f) by late d = refl
  bump_length ToItem by late d = refl
  bump_length ToNothing by late d = refl

  pub parts_sizes : (args : TypedTrees) → sizes_of (parts classes repeating params base args) ≡ sizes args
  parts_sizes e.none = refl
  parts_sizes (e.more a rest) = ap (λ (ns : List ℕ). size a ∷ ns) (parts_sizes rest)

  mutual
    pub code_length : (a : TypedTree) (d at next : ℕ) → length (code classes repeating params base a d at next) ≡ size a
    code_length (e.Num u n) d at next = refl
    code_length (e.Text u n) d at next = refl
    code_length (e.Truth u b) d at next = refl
    code_length (e.Null u) d at next = refl
    code_length (e.This u) d at next = refl
    code_length (e.Name u x) d at next = refl
    code_length (e.Unary u op a) d at next = simp length-append (omega (arith, code_length a d at (at + size a)))
    code_length (e.Binary u op a b) d at next =
        simp length-append (omega (arith, code_length a d at (at + size a), code_length b (suc d) (at + size a) (at + size a + size b)))
    code_length (e.Both u a b) d at next =
        simp length-append (omega (arith, code_length a d at (at + size a), code_length b d (at + size a + 1 + 1) next))
    code_length (e.Either u a b) d at next =
        simp length-append (omega (arith, code_length a d at (at + size a), code_length b d (at + size a + 1) next))
    code_length (e.Choice u test a b) d at next =
        simp length-append (omega (arith, code_length test d at (at + size test), code_length b d (at + size test + 1) next, code_length a d (at + size test + 1 + size b + 1) next))
    code_length (e.Set u None x r) d at next =
        simp length-append (omega (arith, reach_length x d at, code_length r (stored_at classes repeating params base (target x) d) (at + reach_size x) (at + reach_size x + size r), store_length (target x) d))
    code_length (e.Set u (Some op) x r) d at next =
        simp length-append (omega (arith, reach_length x d at, code_length r (suc (stored_at classes repeating params base (target x) d)) (at + reach_size x + 1) (at + reach_size x + 1 + size r), store_length (target x) d))
    code_length (e.Bump u x by late) d at next = simp length-append (omega (arith, reach_length x d at, bump_length (target x) by late d))
    code_length (e.Field u a f) d at next = simp length-append (omega (arith, code_length a d at (at + size a)))
    code_length (e.Length u a) d at next = simp length-append (omega (arith, code_length a d at (at + size a)))
    code_length (e.Item u a i) d at next =
        simp length-append (omega (arith, code_length a d at (at + size a), code_length i (suc d) (at + size a) (at + size a + size i)))
    code_length (e.Call u f args) d at next =
        let all = arguments classes repeating params base f (parts classes repeating params base args) in
        let sum : total (sizes_of all) ≡ total (argument_sizes 1 f (sizes args)) = ap total (arguments_sizes f (parts classes repeating params base args)) ∙ ap (λ (ns : List ℕ). total (argument_sizes 1 f ns)) (parts_sizes args) in
        simp length-append (omega (arith, parts_length all d at (arguments_long f (parts classes repeating params base args) (parts_long args)), call_length f (handler_of args) d (length all), sum))
    code_length (e.SuperCall u f args) d at next =
        let all = parts classes repeating params base args in
        let sum : total (sizes_of all) ≡ total (sizes args) = ap total (parts_sizes args) in
        simp length-append (omega (arith, parts_length all (suc d) (at + 1) (parts_long args), sum))
    code_length (e.Make u class args) d at next =
        let all = parts classes repeating params base args in
        let sum : total (sizes_of all) ≡ total (sizes args) = ap total (parts_sizes args) in
        simp length-append (omega (arith, parts_length all d at (parts_long args), sum))
    code_length (e.Items u items) d at next =
        let all = parts classes repeating params base items in
        let sum : items_size (sizes_of all) ≡ items_size (sizes items) = ap items_size (parts_sizes items) in
        omega (arith, items_length all d (at + 1) (parts_long items), sum)
    code_length (e.Handler u f) d at next = refl

    pub parts_long : (args : TypedTrees) → AreLong (parts classes repeating params base args)
    parts_long e.none = tt
    parts_long (e.more a rest) = (record { long = λ d at. code_length a d at (at + size a) }, parts_long rest)

    pub reach_length : (x : TypedTree) (d at : ℕ) → length (reach_code classes repeating params base x d at) ≡ reach_size x
    reach_length (e.Field u a f) d at = code_length a d at (at + size a)
    reach_length (e.Item u a i) d at =
        simp length-append (omega (arith, code_length a d at (at + size a), code_length i (suc d) (at + size a) (at + size a + size i)))
    reach_length (e.Name u x) d at = refl
    reach_length (e.Num u n) d at = refl
    reach_length (e.Text u n) d at = refl
    reach_length (e.Truth u b) d at = refl
    reach_length (e.Null u) d at = refl
    reach_length (e.This u) d at = refl
    reach_length (e.Unary u op a) d at = refl
    reach_length (e.Binary u op a b) d at = refl
    reach_length (e.Both u a b) d at = refl
    reach_length (e.Either u a b) d at = refl
    reach_length (e.Choice u test a b) d at = refl
    reach_length (e.Set u op x r) d at = refl
    reach_length (e.Bump u x by late) d at = refl
    reach_length (e.Length u a) d at = refl
    reach_length (e.Call u f args) d at = refl
    reach_length (e.SuperCall u f args) d at = refl
    reach_length (e.Make u class args) d at = refl
    reach_length (e.Items u items) d at = refl
    reach_length (e.Handler u f) d at = refl

  initial_length : (t : Option TypedTree) (at : ℕ) → length (initial_code classes repeating params base t at) ≡ initial_size t
  initial_length None at = refl
  initial_length (Some a) at = code_length a 0 at (at + size a)

  pub declared_length : (ds : List TypedDeclaration) (at : ℕ) → length (declared_code classes repeating params base ds at) ≡ declared_size ds
  declared_length [] at = refl
  declared_length (d ∷ rest) at = simp length-append (omega (arith, initial_length d.first at, declared_length rest (at + initial_size d.first + 1)))

  pub test_length : (t : Option TypedTree) (at next : ℕ) → length (test_code classes repeating params base t at next) ≡ test_size t
  test_length None at next = refl
  test_length (Some a) at next = simp length-append (omega (arith, code_length a 0 at (at + size a)))

  pub step_length : (t : Option TypedTree) (at : ℕ) → length (step_code classes repeating params base t at) ≡ step_size t
  step_length None at = refl
  step_length (Some a) at = code_length a 0 at (at + size a)

  module _ (maker : Bool) where
    mutual
      pub statement_length : (s : TypedStatement) (at next out again : ℕ) → length (statement_code classes repeating params base maker s at next out again) ≡ statement_size maker s
      statement_length (e.Block all) at next out again = statements_length all at next out again
      statement_length (e.Let fixed each) at next out again = declared_length each at
      statement_length (e.IfOnly test a) at next out again =
          simp length-append (omega (arith, code_length test 0 at (at + size test), statement_length a (at + size test + 1 + 1) next out again))
      statement_length (e.IfElse test a o) at next out again =
          simp length-append (omega (arith, code_length test 0 at (at + size test), statement_length o (at + size test + 1) next out again, statement_length a (at + size test + 1 + statement_size maker o + 1) next out again))
      statement_length (e.While test a) at next out again =
          let turn = at + size test + 1 + 1 + statement_size maker a in
          simp length-append (omega (arith, code_length test 0 at (at + size test), statement_length a (at + size test + 1 + 1) turn next turn))
      statement_length (e.DoWhile a test) at next out again =
          let turn = at + statement_size maker a in
          simp length-append (omega (arith, statement_length a at turn next turn, code_length test 0 turn (turn + size test)))
      statement_length (e.For first test step a) at next out again =
          let loop = at + first_size maker first in
          let body = loop + test_size test in
          let turn = body + statement_size maker a in
          simp length-append (omega (arith, first_length first at loop out again, test_length test loop next, statement_length a body turn next turn, step_length step turn))
      statement_length (e.ForOf fixed (Local i) list a) at next out again =
          let turn = at + size list + 1 + 1 + 1 in
          simp length-append (omega (arith, code_length list 0 at (at + size list), statement_length a (turn + item_size) turn next turn))
      statement_length (e.ForOf fixed (Param i) list a) at next out again = refl
      statement_length (e.ForOf fixed (Global g) list a) at next out again = refl
      statement_length (e.Return None) at next out again = two_bare maker base
      statement_length (e.Return (Some a)) at next out again = simp length-append (omega (arith, code_length a 0 at (at + size a), return_length maker base))
      statement_length e.Break at next out again = refl
      statement_length e.Continue at next out again = refl
      statement_length (e.Plain a) at next out again = code_length a 0 at next
      statement_length e.Empty at next out again = refl

      pub first_length : (f : OptionalTypedStatement) (at next out again : ℕ) → length (first_code classes repeating params base maker f at next out again) ≡ first_size maker f
      first_length e.omitted at next out again = refl
      first_length (e.written a) at next out again = statement_length a at next out again

      pub statements_length : (ss : TypedStatements) (at next out again : ℕ) → length (statements_code classes repeating params base maker ss at next out again) ≡ statements_size maker ss
      statements_length e.done at next out again = refl
      statements_length (e.also a rest) at next out again =
          simp length-append (omega (arith, statement_length a at (behind (statements_size maker rest) (at + statement_size maker a) next) out again, statements_length rest (at + statement_size maker a) next out again))

-- every expression has an op
bump_positive : (t : Target) (late : Bool) → 0 < bump_size t late
bump_positive (ToName (Param i)) late = omega arith
bump_positive (ToName (Local i)) late = omega arith
bump_positive (ToName (Global g)) true = omega arith
bump_positive (ToName (Global g)) false = omega arith
bump_positive (ToField f) late = omega arith
bump_positive ToItem late = omega arith
bump_positive ToNothing late = omega arith

action_positive : (action : BoardAction) → 0 < action_size action
action_positive (Service n places) = omega arith
action_positive (Library f) = omega arith
action_positive Repeats = omega arith

call_positive : (f : Callee) → 0 < call_size f
call_positive (c.Function f) = omega arith
call_positive (c.Slot s) = omega arith
call_positive c.Push = omega arith
call_positive c.Pop = omega arith
call_positive (c.Board call) = action_positive (row_of call).action

pub size_positive : (a : TypedTree) → 0 < size a
size_positive (e.Num u n) = omega arith
size_positive (e.Text u n) = omega arith
size_positive (e.Truth u b) = omega arith
size_positive (e.Null u) = omega arith
size_positive (e.This u) = omega arith
size_positive (e.Name u x) = omega arith
size_positive (e.Unary u op a) = omega arith
size_positive (e.Binary u op a b) = omega arith
size_positive (e.Both u a b) = omega arith
size_positive (e.Either u a b) = omega arith
size_positive (e.Choice u test a b) = omega arith
size_positive (e.Set u None x r) = omega (arith, size_positive r)
size_positive (e.Set u (Some op) x r) = omega arith
size_positive (e.Bump u x by late) = omega (arith, bump_positive (target x) late)
size_positive (e.Field u a f) = omega arith
size_positive (e.Length u a) = omega arith
size_positive (e.Item u a i) = omega arith
size_positive (e.Call u f args) = omega (arith, call_positive f)
size_positive (e.SuperCall u f args) = omega arith
size_positive (e.Make u class args) = omega arith
size_positive (e.Items u items) = omega arith
size_positive (e.Handler u f) = omega arith
