-- Which function stands at which number: those of declarations, and the classes' constructors.
use Rattle.std.proofs.Common.{◌≡◌, ℕ, zero, suc, ◌+◌, refl, sym, subst, Bool, false, Some, None, List, [], ◌∷◌, ◌++◌, length, get_or, arith}
use Rattle.std.specs.Prelude.{slice_get, unwrap_or}
use Rattle.sts_base.specs.declared.tables.Tables.{Tables}
use Rattle.sts_syntax.specs.Types as t
use Rattle.sts_syntax.specs.Types.{ValueType}
use Rattle.sts_syntax.specs.TypedTrees.{TypedStatement, TypedRoutine, TypedProgram}
use Rattle.sts_syntax.specs.TypeRules.{HasRoutine}
use Rattle.sts_syntax.specs.Trees.{Statement, Block, Let, IfOnly, IfElse, While, DoWhile, For, ForOf, Return, Break, Continue, Plain, Empty, Declaration, Declare, Declarations, ended, next, Routine, Does}
use Rattle.sts_syntax.specs.Programs.{ClassMember, Field, Method, Constructor, TopLevel, Class, Function, Main, Program}
use Rattle.sts_scope.specs.declared.kinds.StaticType.{StaticType}
use Rattle.sts_scope.specs.declared.entries.Owner.{Owner}
use Rattle.sts_scope.specs.declared.entries.Owner.TheVariants as o
use Rattle.sts_scope.specs.declared.entries.DeclarationKind.{DeclarationKind}
use Rattle.sts_scope.specs.declared.entries.DeclarationKind.TheVariants as sort
use Rattle.sts_scope.specs.declared.entries.Entry.{Entry}
use Rattle.sts_scope.specs.declared.known.Known.{Known}
use Rattle.sts_scope.specs.declared.known.This.TheVariants as this
use Rattle.sts_scope.specs.Kinds.{nothing, value_type, value_types}
use Rattle.sts_scope.specs.Entries.{Naming, classes_in, item_entries, main_entries, member_entries, global_entries, entries_from}
use Rattle.sts_scope.specs.Lookup.{base_of}
use Rattle.sts_scope.specs.Rules.{kind_at}
use Rattle.type_derive.specs.Passes.{outside_failure, body_failure, constructor_failure, members_nodes, item_nodes, nodes_failure}
use Rattle.sts_scope.specs.Handlers.{routine_handlers, declared_handlers, unwritten, item_routines}
use Rattle.sts_scope.specs.Numbers.{Numbering, member_numbers, global_places, main_numbers, item_numbers, numbers_from}
use Rattle.type_derive.specs.inner.Filled.{function_made, method_made}
use Rattle.typed_laws.specs.Programs.{unwritten_made}
use Rattle.typed_laws.specs.inner.FilledPrograms.{initial_made, initials, constructor_made, members_made, class_made, main_made, items_made}
use Rattle.typed_laws.proofs.Typed.{last, first}
use Rattle.typed_laws.proofs.Makings.{Placed, placed_left, placed_right}
use Rattle.typed_laws.proofs.Items.{function_counts, method_counts, field_counts, constructor_counts, unwritten_counts, class_counts, main_counts}

module _ (tables : Tables) (names : Naming) (k : Known) (numbers : Numbering) (P : TypedProgram) where
  -- a function with these parameters and this result stands there
  abbrev pub HasBody : List ValueType → ValueType → ℕ → Type 0
  HasBody params gives j = (r : TypedRoutine) × HasRoutine P j r × (r.params ≡ params) × (r.gives ≡ gives)

  abbrev pub result_at : ℕ → ValueType
  result_at d = value_type (unwrap_or (kind_at k d) nothing)

  abbrev pub FitsAs : DeclarationKind → Owner → List StaticType → ℕ → ℕ → Type 0
  FitsAs sort.Function owner takes d j = HasBody (value_types takes) (result_at d) j
  FitsAs sort.Method (o.Class c) takes d j = HasBody (t.Object c ∷ value_types takes) (result_at d) j
  FitsAs sort.Method o.Whole takes d j = Unit {0}
  FitsAs sort.Field owner takes d j = Unit {0}
  FitsAs (sort.Global fixed) owner takes d j = Unit {0}
  FitsAs (sort.Class c) owner takes d j = Unit {0}

  -- the declaration d, with its function's number
  abbrev pub Fits : ℕ → Entry → ℕ → Type 0
  Fits d a j = FitsAs a.sort a.owner a.takes d j

  abbrev pub Aligned : ℕ → List Entry → List ℕ → Type 0
  Aligned d [] [] = Unit {0}
  Aligned d (a ∷ zs) (j ∷ js) = Fits d a j × Aligned (suc d) zs js
  Aligned d [] (j ∷ js) = ⊥
  Aligned d (a ∷ zs) [] = ⊥

  pub aligned_both : (d : ℕ) (zs bs : List Entry) (js ls : List ℕ) → Aligned d zs js → Aligned (d + length zs) bs ls → Aligned d (zs ++ bs) (js ++ ls)
  aligned_both d [] bs [] ls h i = let q : d + 0 ≡ d = omega arith in subst (λ (x : ℕ). Aligned x bs ls) q i
  aligned_both d (a ∷ zs) bs (j ∷ js) ls h i = let q : d + suc (length zs) ≡ suc d + length zs = omega arith in (h.0, aligned_both (suc d) zs bs js ls h.1 (subst (λ (x : ℕ). Aligned x bs ls) q i))
  aligned_both d [] bs (j ∷ js) ls h i = absurd h
  aligned_both d (a ∷ zs) bs [] ls h i = absurd h

  pub aligned_get : (d : ℕ) (zs : List Entry) (js : List ℕ) (i : ℕ) (a : Entry) → Aligned d zs js → slice_get zs i ≡ Some a → Fits (d + i) a (get_or js i 0)
  aligned_get d [] js i a h q = cc
  aligned_get d (b ∷ zs) (j ∷ js) zero a h q =
      let r : b ≡ a = cc in
      let z : d ≡ d + zero = omega arith in
      subst (λ (x : ℕ). Fits x a j) z (subst (λ (x : Entry). Fits d x j) r h.0)
  aligned_get d (b ∷ zs) (j ∷ js) (suc i) a h q = let z : suc d + i ≡ d + suc i = omega arith in subst (λ (x : ℕ). Fits x a (get_or js i 0)) z (aligned_get (suc d) zs js i a h.1 q)
  aligned_get d (b ∷ zs) [] i a h q = absurd h

  globals_aligned : (d : ℕ) (fixed : Bool) (each : Declarations) → Aligned d (global_entries fixed each) (global_places each)
  globals_aligned d fixed ended = tt
  globals_aligned d fixed (next (Declare i x shape first') rest) = (tt, globals_aligned (suc d) fixed rest)

  main_aligned : (d : ℕ) (a : Statement) → Aligned d (main_entries a) (main_numbers a)
  main_aligned d (Let i fixed each) = globals_aligned d fixed each
  main_aligned d (Block i all) = tt
  main_aligned d (IfOnly i test a) = tt
  main_aligned d (IfElse i test a b) = tt
  main_aligned d (While i test a) = tt
  main_aligned d (DoWhile i a test) = tt
  main_aligned d (For i one test step a) = tt
  main_aligned d (ForOf i fixed x list a) = tt
  main_aligned d (Return i value) = tt
  main_aligned d (Break i) = tt
  main_aligned d (Continue i) = tt
  main_aligned d (Plain i a) = tt
  main_aligned d (Empty i) = tt

  -- from a number on, where zs many stand before
  pub placed_at : (n j : ℕ) (rs qs : List TypedRoutine) → length rs ≡ j → Placed P n (rs ++ qs) → Placed P (n + j) qs
  placed_at n j rs qs same h = subst (λ (i : ℕ). Placed P (n + i) qs) same (placed_right P n rs qs h)

  pub placed_more : (n j : ℕ) (rs qs : List TypedRoutine) → length rs ≡ suc j → Placed P n (rs ++ qs) → Placed P (suc n + j) qs
  placed_more n j rs qs same h = let q : n + suc j ≡ suc n + j = omega arith in subst (λ (i : ℕ). Placed P i qs) q (placed_at n (suc j) rs qs same h)

  members_aligned : (c n d : ℕ) (inits : List TypedStatement) (members : List ClassMember) → members_nodes tables names k c d members ≡ None → Placed P n (members_made tables names k numbers c inits n d members)
      → Aligned d (member_entries names c members) (member_numbers n members)
  members_aligned c n d inits [] h placed = tt
  members_aligned c n d inits (Field (Declare i x shape first') ∷ rest) h placed =
      let a : Declaration = Declare i x shape first' in
      let A = outside_failure tables names k (this.Object c) a in
      let B = members_nodes tables names k c (suc d) rest in (
        tt,
        members_aligned c (n + declared_handlers a) (suc d) inits rest (last A B h)
            (placed_at n (declared_handlers a) (initial_made tables names k numbers c n a).routines (members_made tables names k numbers c inits (n + declared_handlers a) (suc d) rest) (field_counts tables names k numbers c n a (first A B h)) placed),
      )
  members_aligned c n d inits (Method x (Does i params gives all arrow) ∷ rest) h placed =
      let r : Routine = Does i params gives all arrow in
      let A = body_failure tables names k (this.Object c) (kind_at k d) r in
      let B = members_nodes tables names k c (suc d) rest in
      let made = method_made tables names k numbers c n (kind_at k d) r in
      let later = members_made tables names k numbers c inits (suc n + routine_handlers r) (suc d) rest in
      let here = placed_left P n made later placed in
      ((_, here.0, refl, refl), members_aligned c (suc n + routine_handlers r) (suc d) inits rest (last A B h) (placed_more n (routine_handlers r) made later (method_counts tables names k numbers c n (kind_at k d) r (first A B h)) placed))
  members_aligned c n d inits (Constructor r ∷ rest) h placed =
      let A = constructor_failure tables names k (this.Object c) (base_of k.classes c) r in
      let B = members_nodes tables names k c d rest in
      let made = constructor_made tables names k numbers c n inits r in
      let later = members_made tables names k numbers c inits (suc n + routine_handlers r) d rest in
      members_aligned c (suc n + routine_handlers r) d inits rest (last A B h) (placed_more n (routine_handlers r) made later (constructor_counts tables names k numbers c n inits r (first A B h)) placed)

  -- the functions of a class's members
  pub members_placed : (c n d : ℕ) (members : List ClassMember) → Placed P n (class_made tables names k numbers c n d members)
      → Placed P (n + unwritten members) (members_made tables names k numbers c (initials tables names k numbers c (n + unwritten members) d members) (n + unwritten members) d members)
  members_placed c n d members placed =
      let inits = initials tables names k numbers c (n + unwritten members) d members in
      placed_at n (unwritten members) (unwritten_made k numbers (unwritten members) c inits) (members_made tables names k numbers c inits (n + unwritten members) d members) (unwritten_counts tables names k numbers c inits members) placed

  -- how a text's functions begin with those of its first part
  pub text_aligned : (c d m n : ℕ) (text : Program) → nodes_failure tables names k c d text ≡ None → Placed P n (items_made tables names k numbers c d m n text).routines → Aligned d (entries_from names c text) (numbers_from n text)
  text_aligned c d m n [] h placed = tt
  text_aligned c d m n (Class at x base base_at members ∷ rest) h placed =
      let i : TopLevel = Class at x base base_at members in
      let A = item_nodes tables names k c d i in
      let es = item_entries names c i in
      let B = nodes_failure tables names k (c + classes_in i) (d + length es) rest in
      let here = class_made tables names k numbers c n (suc d) members in
      let step : c + 1 ≡ suc c = omega arith in
      let later : ℕ → List TypedRoutine = λ c'. (items_made tables names k numbers c' (d + length es) m (n + item_routines i) rest).routines in
      let G : ℕ → Type 0 = λ c'. Placed P (n + item_routines i) (later c') in
      let placed' : G (c + 1) = subst G (sym step) (placed_at n (item_routines i) here (later (suc c)) (class_counts tables names k numbers c n (suc d) members (first A B h)) placed) in
      aligned_both d es (entries_from names (c + classes_in i) rest) (item_numbers n i) (numbers_from (n + item_routines i) rest)
      (tt, members_aligned c (n + unwritten members) (suc d) (initials tables names k numbers c (n + unwritten members) (suc d) members) members (first A B h) (members_placed c n (suc d) members (placed_left P n here (later (suc c)) placed)))
      (text_aligned (c + classes_in i) (d + length es) m (n + item_routines i) rest (last A B h) placed')
  text_aligned c d m n (Function x (Does j params gives all arrow) ∷ rest) h placed =
      let r : Routine = Does j params gives all arrow in
      let i : TopLevel = Function x r in
      let A = item_nodes tables names k c d i in
      let es = item_entries names c i in
      let B = nodes_failure tables names k (c + classes_in i) (d + length es) rest in
      let here = function_made tables names k numbers false n (kind_at k d) r in
      let c_step : c ≡ c + 0 = omega arith in
      let d_step : suc d ≡ d + 1 = omega arith in
      let later : ℕ → ℕ → List TypedRoutine = λ c' d'. (items_made tables names k numbers c' d' m (n + item_routines i) rest).routines in
      let at_first : Placed P (n + item_routines i) (later c (suc d)) =
      placed_at n (item_routines i) here (later c (suc d)) (function_counts tables names k numbers false n (kind_at k d) j params gives all arrow (first A B h)) placed in
      let placed' : Placed P (n + item_routines i) (later (c + 0) (d + 1)) =
      subst (λ (x : ℕ). Placed P (n + item_routines i) (later (c + 0) x)) d_step (subst (λ (x : ℕ). Placed P (n + item_routines i) (later x (suc d))) c_step at_first) in
      let own = placed_left P n here (later c (suc d)) placed in
      aligned_both d es (entries_from names (c + classes_in i) rest) (item_numbers n i) (numbers_from (n + item_routines i) rest) ((_, own.0, refl, refl), tt) (text_aligned (c + 0) (d + 1) m (n + item_routines i) rest (last A B h) placed')
  text_aligned c d m n (Main a ∷ rest) h placed =
      let i : TopLevel = Main a in
      let A = item_nodes tables names k c d i in
      let es = item_entries names c i in
      let B = nodes_failure tables names k (c + classes_in i) (d + length es) rest in
      let here = main_made tables names k numbers d a m n in
      let c_step : c ≡ c + 0 = omega arith in
      let later : ℕ → List TypedRoutine = λ c'. (items_made tables names k numbers c' (d + length es) (m + length here.locals) (n + item_routines i) rest).routines in
      let at_first : Placed P (n + item_routines i) (later c) = placed_at n (item_routines i) here.routines (later c) (main_counts tables names k numbers d a (first A B h) m n) placed in
      let placed' : Placed P (n + item_routines i) (later (c + 0)) = subst (λ (x : ℕ). Placed P (n + item_routines i) (later x)) c_step at_first in
      aligned_both d es (entries_from names (c + classes_in i) rest) (item_numbers n i) (numbers_from (n + item_routines i) rest) (main_aligned d a) (text_aligned (c + 0) (d + length es) (m + length here.locals) (n + item_routines i) rest (last A B h) placed')
