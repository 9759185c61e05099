-- At the number of a declaration stands its typed function.
use Rattle.std.proofs.Common.{◌≡◌, ℕ, zero, suc, ◌+◌, ◌<◌, ◌≤◌, refl, sym, ap, ◌∙◌, subst, Bool, true, false, Option, Some, None, List, [], ◌∷◌, ◌++◌, length, get_or, arith, append_assoc, length-append}
use Rattle.std.specs.Prelude.{slice_get, nat_lt, IsSome}
use Rattle.std.proofs.lemmas.Bool.{lt-ltb, le-ltb}
use Rattle.sts_base.specs.declared.tables.Tables.{Tables}
use Rattle.sts_syntax.specs.TypedTrees.{TypedStatement, TypedRoutine, TypedProgram}
use Rattle.sts_syntax.specs.TypeRules.{HasRoutine}
use Rattle.sts_syntax.specs.Trees.{Statement, Block, Let, IfOnly, IfElse, While, DoWhile, For, ForOf, Return, Break, Continue, Plain, Empty, Declaration, Declare, Declarations, ended, next, Routine, Does}
use Rattle.sts_syntax.specs.Programs.{ClassMember, Field, Method, Constructor, TopLevel, Class, Function, Main, Program}
use Rattle.sts_scope.specs.declared.kinds.StaticType.{StaticType}
use Rattle.sts_scope.specs.declared.entries.DeclarationKind.TheVariants as sort
use Rattle.sts_scope.specs.declared.entries.Owner.TheVariants as o
use Rattle.sts_scope.specs.declared.entries.Entry.{Entry}
use Rattle.sts_scope.specs.declared.known.Known.{Known}
use Rattle.sts_scope.specs.declared.known.This.TheVariants as this
use Rattle.sts_scope.specs.Entries.{Naming, parameter_kinds, classes_in, item_entries, main_entries, member_entries, global_entries, entries_from}
use Rattle.sts_scope.specs.Handlers.{routine_handlers, declared_handlers, unwritten, item_routines, all_routines}
use Rattle.sts_scope.specs.Lookup.{base_of}
use Rattle.sts_scope.specs.Numbers.{Numbering, numbering, member_numbers, global_places, main_numbers, item_numbers, numbers_from}
use Rattle.sts_scope.specs.Rules.{kind_at}
use Rattle.sts_scope.specs.Scopes.{all_names, library_classes}
use Rattle.type_derive.specs.Derived.{known, AreDerived}
use Rattle.typed_laws.specs.Accepted.{main_routine, text_failure}
use Rattle.typed_laws.specs.inner.FilledTexts.{filled_program}
use Rattle.typed_laws.specs.Formed.{IsFormedProgram}
use Rattle.typed_laws.specs.Libraries.{OnlyFunctions, library_failure, IsLibrary}
use Rattle.type_derive.specs.Nodes.{statements_failure}
use Rattle.type_derive.specs.Passes.{outside_failure, body_failure, constructor_failure, members_nodes, item_nodes, nodes_failure}
use Rattle.type_derive.specs.inner.Filled.{function_made, method_made}
use Rattle.typed_laws.specs.inner.FilledPrograms.{initial_made, initials, constructor_made, members_made, class_made, main_made, items_made, library_made}
use Rattle.type_derive.specs.Functions as tf
use Rattle.typed_laws.specs.Programs as tp
use Rattle.type_derive.specs.Typing.{◌>>=◌}
use Rattle.type_derive.specs.Returns.{parameter_locals, within}
use Rattle.typed_laws.proofs.Stands.{IsProper}
use Rattle.typed_laws.specs.OwnFunctions.{global_routines, main_routines, own_routines, routines_in, declared_routines, StandFrom, HasItsFunction, FunctionsAreDeclared}
use Rattle.typed_laws.specs.Laws.{FunctionsAreTheirs}
use Rattle.typed_laws.specs.WholePrograms.{HasItsType}
use Rattle.typed_laws.proofs.BuiltPrograms.{function_so, method_so, library_typed}
use Rattle.typed_laws.proofs.BuiltTexts.{types_there, parts_built, texts_built}
use Rattle.typed_laws.proofs.Names.{bind_some, some_is}
use Rattle.typed_laws.proofs.Suffixes.{Suffix, suffix_step, suffix_one, suffix_head}
use Rattle.typed_laws.proofs.Typed.{last, first}
use Rattle.typed_laws.proofs.Makings.{Placed, placed_left}
use Rattle.typed_laws.proofs.Items.{function_counts, method_counts, field_counts, constructor_counts, class_counts, main_counts}
use Rattle.typed_laws.proofs.Placing.{placed_at, placed_more, members_placed}
use Rattle.typed_laws.proofs.Rounds.{kinds_proper}
use Rattle.typed_laws.proofs.TextBehind.{entries_joined, no_classes, nodes_none, text_entries}
use Rattle.typed_laws.proofs.Whole.{numbers_joined, routines_joined, front_placed, back_placed, main_is, main_there}

routines_of_both : (library text : Program) → declared_routines (library ++ text) ≡ declared_routines library ++ declared_routines text
routines_of_both [] text = refl
routines_of_both (i ∷ rest) text =
    ap (λ (xs : List (Option Routine)). routines_in i ++ xs) (routines_of_both rest text) ∙ sym (append_assoc (routines_in i) (declared_routines rest) (declared_routines text))

-- as many as there are declarations
globals_many : (fixed : Bool) (each : Declarations) → length (global_routines each) ≡ length (global_entries fixed each)
globals_many fixed ended = refl
globals_many fixed (next a rest) = ap suc (globals_many fixed rest)

main_many : (a : Statement) → length (main_routines a) ≡ length (main_entries a)
main_many (Let i fixed each) = globals_many fixed each
main_many (Block i all) = refl
main_many (IfOnly i test a) = refl
main_many (IfElse i test a b) = refl
main_many (While i test a) = refl
main_many (DoWhile i a test) = refl
main_many (For i one test step a) = refl
main_many (ForOf i fixed x list a) = refl
main_many (Return i value) = refl
main_many (Break i) = refl
main_many (Continue i) = refl
main_many (Plain i a) = refl
main_many (Empty i) = refl

members_many : (names : Naming) (c : ℕ) (members : List ClassMember) → length (own_routines members) ≡ length (member_entries names c members)
members_many names c [] = refl
members_many names c (Field a ∷ rest) = ap suc (members_many names c rest)
members_many names c (Method x r ∷ rest) = ap suc (members_many names c rest)
members_many names c (Constructor r ∷ rest) = members_many names c rest

item_many : (names : Naming) (c : ℕ) (i : TopLevel) → length (routines_in i) ≡ length (item_entries names c i)
item_many names c (Class at x base base_at members) = ap suc (members_many names c members)
item_many names c (Function x r) = refl
item_many names c (Main a) = main_many a

routines_many : (names : Naming) (c : ℕ) (text : Program) → length (declared_routines text) ≡ length (entries_from names c text)
routines_many names c [] = refl
routines_many names c (i ∷ rest) =
    length-append (routines_in i) (declared_routines rest) ∙ ap (λ (j : ℕ). j + length (declared_routines rest)) (item_many names c i)
    ∙ ap (λ (j : ℕ). length (item_entries names c i) + j) (routines_many names (c + classes_in i) rest) ∙ sym (length-append (item_entries names c i) (entries_from names (c + classes_in i) rest))

stand : (P : TypedProgram) (n : ℕ) (rs : List TypedRoutine) → Placed P n rs → StandFrom P n rs
stand P n [] h = tt
stand P n (r ∷ rest) h = (h.0, stand P (suc n) rest h.1)

-- F says which declarations are the library's
module _ (tables : Tables) (names : Naming) (k : Known) (numbers : Numbering) (P : TypedProgram) (F : ℕ → Bool) (typed_so : (d : ℕ) (a : Entry) → slice_get k.entries d ≡ Some a → HasItsType k d a.sort) where
  abbrev Fits : ℕ → Entry → Option Routine → ℕ → Type 0
  Fits d a does n = HasItsFunction tables names k numbers P (F d) d a n does

  -- declarations from the d-th on, with their routines and numbers
  abbrev pub Agree : ℕ → List Entry → List (Option Routine) → List ℕ → Type 0
  Agree d [] [] [] = Unit {0}
  Agree d (a ∷ es) (does ∷ os) (n ∷ ns) = Fits d a does n × Agree (suc d) es os ns
  Agree d es os ns = ⊥

  pub agree_both : (d : ℕ) (es : List Entry) (os : List (Option Routine)) (ns : List ℕ) (es' : List Entry) (os' : List (Option Routine)) (ns' : List ℕ)
      → Agree d es os ns → Agree (d + length es) es' os' ns' → Agree d (es ++ es') (os ++ os') (ns ++ ns')
  agree_both d [] [] [] es' os' ns' h g = (let q : d + 0 ≡ d = omega arith in subst (λ (x : ℕ). Agree x es' os' ns') q g)
  agree_both d (a ∷ es) (does ∷ os) (n ∷ ns) es' os' ns' h g =
      let q : d + suc (length es) ≡ suc d + length es = omega arith in
      (h.0, agree_both (suc d) es os ns es' os' ns' h.1 (subst (λ (x : ℕ). Agree x es' os' ns') q g))
  agree_both d es os ns es' os' ns' h g = absurd h

  pub agree_get : (d : ℕ) (es : List Entry) (os : List (Option Routine)) (ns : List ℕ) (i : ℕ) (a : Entry) (does : Option Routine) → Agree d es os ns
      → slice_get es i ≡ Some a → slice_get os i ≡ Some does → Fits (d + i) a does (get_or ns i 0)
  agree_get d (b ∷ es) (did ∷ os) (n ∷ ns) zero a does h p q =
      let r : b ≡ a = cc in
      let s : did ≡ does = cc in
      let z : d ≡ d + zero = omega arith in
      subst (λ (x : ℕ). Fits x a does n) z (subst (λ (x : Option Routine). Fits d a x n) s (subst (λ (x : Entry). Fits d x did n) r h.0))
  agree_get d (b ∷ es) (did ∷ os) (n ∷ ns) (suc i) a does h p q =
      let z : suc d + i ≡ d + suc i = omega arith in
      subst (λ (x : ℕ). Fits x a does (get_or ns i 0)) z (agree_get (suc d) es os ns i a does h.1 p q)
  agree_get d [] os ns i a does h p q = cc
  agree_get d (b ∷ es) [] ns i a does h p q = absurd h
  agree_get d (b ∷ es) (did ∷ os) [] i a does h p q = absurd h

  globals_agree : (d : ℕ) (fixed : Bool) (each : Declarations) → Agree d (global_entries fixed each) (global_routines each) (global_places each)
  globals_agree d fixed ended = tt
  globals_agree d fixed (next (Declare i x shape first') rest) = (refl, globals_agree (suc d) fixed rest)

  main_agree : (d : ℕ) (a : Statement) → Agree d (main_entries a) (main_routines a) (main_numbers a)
  main_agree d (Let i fixed each) = globals_agree d fixed each
  main_agree d (Block i all) = tt
  main_agree d (IfOnly i test a) = tt
  main_agree d (IfElse i test a b) = tt
  main_agree d (While i test a) = tt
  main_agree d (DoWhile i a test) = tt
  main_agree d (For i one test step a) = tt
  main_agree d (ForOf i fixed x list a) = tt
  main_agree d (Return i value) = tt
  main_agree d (Break i) = tt
  main_agree d (Continue i) = tt
  main_agree d (Plain i a) = tt
  main_agree d (Empty i) = tt

  members_agree : (c n d : ℕ) (inits : List TypedStatement) (members : List ClassMember) (later : List Entry) → Suffix k.entries d (member_entries names c members ++ later) → members_nodes tables names k c d members ≡ None
      → Placed P n (members_made tables names k numbers c inits n d members) → Agree d (member_entries names c members) (own_routines members) (member_numbers n members)
  members_agree c n d inits [] later s h placed = tt
  members_agree c n d inits (Field (Declare i x shape first') ∷ rest) later s h placed =
      let a : Declaration = Declare i x shape first' in
      let en : Entry = record { at = i; owner = o.Class c; name = x; sort = sort.Field; takes = [] } in
      let A = outside_failure tables names k (this.Object c) a in
      let B = members_nodes tables names k c (suc d) rest in (
        refl,
        members_agree c (n + declared_handlers a) (suc d) inits rest later (suffix_one k.entries d en (member_entries names c rest ++ later) s) (last A B h)
            (placed_at tables names k numbers P n (declared_handlers a) (initial_made tables names k numbers c n a).routines (members_made tables names k numbers c inits (n + declared_handlers a) (suc d) rest)
            (field_counts tables names k numbers c n a (first A B h)) placed),
      )
  members_agree c n d inits (Method x (Does i params gives all arrow) ∷ rest) es s h placed =
      let r : Routine = Does i params gives all arrow in
      let en : Entry = record { at = i; owner = o.Class c; name = x; sort = sort.Method; takes = parameter_kinds names params } in
      let has_type : IsSome (kind_at k d) = typed_so d en (suffix_head k.entries d en (member_entries names c rest ++ es) s) in
      let A = body_failure tables names k (this.Object c) (kind_at k d) r in
      let B = members_nodes tables names k c (suc d) rest in
      let made = method_made tables names k numbers c n (kind_at k d) r in
      let later = members_made tables names k numbers c inits (suc n + routine_handlers r) (suc d) rest in (
        (refl, made, method_so tables names k numbers c n (kind_at k d) i params gives all arrow has_type (first A B h), stand P n made (placed_left P n made later placed)),
        members_agree c (suc n + routine_handlers r) (suc d) inits rest es (suffix_one k.entries d en (member_entries names c rest ++ es) s) (last A B h)
            (placed_more tables names k numbers P n (routine_handlers r) made later (method_counts tables names k numbers c n (kind_at k d) r (first A B h)) placed),
      )
  members_agree c n d inits (Constructor r ∷ rest) es s h placed =
      let A = constructor_failure tables names k (this.Object c) (base_of k.classes c) r in
      let B = members_nodes tables names k c d rest in
      let made = constructor_made tables names k numbers c n inits r in
      let later = members_made tables names k numbers c inits (suc n + routine_handlers r) d rest in
      members_agree c (suc n + routine_handlers r) d inits rest es s (last A B h)
      (placed_more tables names k numbers P n (routine_handlers r) made later (constructor_counts tables names k numbers c n inits r (first A B h)) placed)

  pub text_agrees : (c d m n : ℕ) (text : Program) → Suffix k.entries d (entries_from names c text) → k.library ≤ d → ((j : ℕ) → d ≤ j → F j ≡ false) → nodes_failure tables names k c d text ≡ None
      → Placed P n (items_made tables names k numbers c d m n text).routines → Agree d (entries_from names c text) (declared_routines text) (numbers_from n text)
  text_agrees c d m n [] s near own h placed = tt
  text_agrees c d m n (Class at x base base_at members ∷ rest) s near own h placed =
      let i : TopLevel = Class at x base base_at members in
      let A = item_nodes tables names k c d i in
      let es = item_entries names c i in
      let B = nodes_failure tables names k (c + classes_in i) (d + length es) rest in
      let here = class_made tables names k numbers c n (suc d) members in
      let step : c + 1 ≡ suc c = omega arith in
      let later : ℕ → List TypedRoutine = λ c'. (items_made tables names k numbers c' (d + length es) m (n + item_routines i) rest).routines in
      let G : ℕ → Type 0 = λ c'. Placed P (n + item_routines i) (later c') in
      let placed' : G (c + 1) = subst G (sym step) (placed_at tables names k numbers P n (item_routines i) here (later (suc c)) (class_counts tables names k numbers c n (suc d) members (first A B h)) placed) in
      agree_both d es (routines_in i) (item_numbers n i) (entries_from names (c + classes_in i) rest) (declared_routines rest) (numbers_from (n + item_routines i) rest) (
        refl,
        members_agree c (n + unwritten members) (suc d) (initials tables names k numbers c (n + unwritten members) (suc d) members) members (entries_from names (c + classes_in i) rest) (suffix_one k.entries d _ (member_entries names c members ++ entries_from names (c + classes_in i) rest) s) (first A B h)
            (members_placed tables names k numbers P c n (suc d) members (placed_left P n here (later (suc c)) placed)),
      )
      (text_agrees (c + classes_in i) (d + length es) m (n + item_routines i) rest (suffix_step k.entries d es (entries_from names (c + classes_in i) rest) s) (omega (arith, near)) (λ j le. own j (omega (arith, le))) (last A B h) placed')
  text_agrees c d m n (Function x (Does j params gives all arrow) ∷ rest) s near own h placed =
      let r : Routine = Does j params gives all arrow in
      let i : TopLevel = Function x r in
      let A = item_nodes tables names k c d i in
      let es = item_entries names c i in
      let B = nodes_failure tables names k (c + classes_in i) (d + length es) rest in
      let here = function_made tables names k numbers false n (kind_at k d) r in
      let c_step : c ≡ c + 0 = omega arith in
      let d_step : suc d ≡ d + 1 = omega arith in
      let later : ℕ → ℕ → List TypedRoutine = λ c' d'. (items_made tables names k numbers c' d' m (n + item_routines i) rest).routines in
      let at_first : Placed P (n + item_routines i) (later c (suc d)) =
      placed_at tables names k numbers P n (item_routines i) here (later c (suc d)) (function_counts tables names k numbers false n (kind_at k d) j params gives all arrow (first A B h)) placed in
      let placed' : Placed P (n + item_routines i) (later (c + 0) (d + 1)) =
      subst (λ (x : ℕ). Placed P (n + item_routines i) (later (c + 0) x)) d_step (subst (λ (x : ℕ). Placed P (n + item_routines i) (later x (suc d))) c_step at_first) in
      let en : Entry = record { at = j; owner = o.Whole; name = x; sort = sort.Function; takes = parameter_kinds names params } in
      let has_type : IsSome (kind_at k d) = typed_so d en (suffix_head k.entries d en (entries_from names (c + classes_in i) rest) s) near in
      let Stands : Bool → Type 0 = λ z. (xs : List TypedRoutine) × (tf.function_made tables names k numbers z n (kind_at k d) r ≡ Some xs) × StandFrom P n xs in
      let stands_so : Stands false = (here, function_so tables names k numbers false n (kind_at k d) j params gives all arrow has_type (first A B h), stand P n here (placed_left P n here (later c (suc d)) placed)) in
      let stands : Stands (F d) = subst Stands (sym (own d (omega arith))) stands_so in
      agree_both d es (routines_in i) (item_numbers n i) (entries_from names (c + classes_in i) rest) (declared_routines rest) (numbers_from (n + item_routines i) rest) ((refl, stands.0, stands.1, stands.2), tt)
      (text_agrees (c + 0) (d + 1) m (n + item_routines i) rest (suffix_step k.entries d es (entries_from names (c + classes_in i) rest) s) (omega (arith, near)) (λ e le. own e (omega (arith, le))) (last A B h) placed')
  text_agrees c d m n (Main a ∷ rest) s near own h placed =
      let i : TopLevel = Main a in
      let A = item_nodes tables names k c d i in
      let es = item_entries names c i in
      let B = nodes_failure tables names k (c + classes_in i) (d + length es) rest in
      let here = main_made tables names k numbers d a m n in
      let c_step : c ≡ c + 0 = omega arith in
      let later : ℕ → List TypedRoutine = λ c'. (items_made tables names k numbers c' (d + length es) (m + length here.locals) (n + item_routines i) rest).routines in
      let at_first : Placed P (n + item_routines i) (later c) =
      placed_at tables names k numbers P n (item_routines i) here.routines (later c) (main_counts tables names k numbers d a (first A B h) m n) placed in
      let placed' : Placed P (n + item_routines i) (later (c + 0)) = subst (λ (x : ℕ). Placed P (n + item_routines i) (later x)) c_step at_first in
      agree_both d es (routines_in i) (item_numbers n i) (entries_from names (c + classes_in i) rest) (declared_routines rest) (numbers_from (n + item_routines i) rest) (main_agree d a)
      (text_agrees (c + 0) (d + length es) (m + length here.locals) (n + item_routines i) rest (suffix_step k.entries d es (entries_from names (c + classes_in i) rest) s) (omega (arith, near)) (λ e le. own e (omega (arith, le))) (last A B h) placed')

  pub library_agrees : (c d n : ℕ) (library : Program) → OnlyFunctions library → ((j : ℕ) → j < d + length (entries_from names c library) → F j ≡ true)
      → (rs : List TypedRoutine) → tp.library_made tables names k numbers d n library ≡ Some rs → library_failure tables names k d library ≡ None → Placed P n (library_made tables names k numbers d n library) → Agree d (entries_from names c library) (declared_routines library) (numbers_from n library)
  library_agrees c d n [] f own rs q h placed = tt
  library_agrees c d n (Function x (Does j params gives all arrow) ∷ rest) f own rs q h placed =
      let r : Routine = Does j params gives all arrow in
      let i : TopLevel = Function x r in
      let A = statements_failure tables names k (within (parameter_locals names params) this.Nowhere (kind_at k d) true) all in
      let B = library_failure tables names k (suc d) rest in
      let here = function_made tables names k numbers true n (kind_at k d) r in
      let later = library_made tables names k numbers (suc d) (n + item_routines i) rest in
      let count = function_counts tables names k numbers true n (kind_at k d) j params gives all arrow (first A B h) in
      let made_later : Option (List TypedRoutine) = tp.library_made tables names k numbers (suc d) (n + item_routines i) rest in
      let (ys, ys_is, q1) = bind_some (tf.function_made tables names k numbers true n (kind_at k d) r) (λ ys. made_later >>= λ zs. Some (ys ++ zs)) rs q in
      let (zs, zs_is, q2) = bind_some made_later (λ zs. Some (ys ++ zs)) rs q1 in
      let has_type : IsSome (kind_at k d) = library_typed tables names k numbers d n j params gives all arrow ys ys_is in
      let Stands : Bool → Type 0 = λ z. (xs : List TypedRoutine) × (tf.function_made tables names k numbers z n (kind_at k d) r ≡ Some xs) × StandFrom P n xs in
      let stands_so : Stands true = (here, function_so tables names k numbers true n (kind_at k d) j params gives all arrow has_type (first A B h), stand P n here (placed_left P n here later placed)) in
      let stands : Stands (F d) = subst Stands (sym (own d (omega arith))) stands_so in
      ((refl, stands.0, stands.1, stands.2), library_agrees (c + 0) (suc d) (n + item_routines i) rest f (λ e lt. own e (omega (arith, lt))) zs zs_is (last A B h) (placed_at tables names k numbers P n (item_routines i) here later count placed))
  library_agrees c d n (Class at x base base_at members ∷ rest) f own rs q h placed = absurd f
  library_agrees c d n (Main a ∷ rest) f own rs q h placed = absurd f

module _ (tables : Tables) (library text : Program) (kinds : List (Option StaticType)) (formed : IsFormedProgram text) (derived : AreDerived tables library text kinds) (ok : IsLibrary tables library text kinds)
    (no_failure : text_failure tables library text kinds ≡ None) where
  abbrev names : Naming
  names = all_names library text

  abbrev k : Known
  k = known library text kinds

  abbrev numbers : Numbering
  numbers = numbering (library ++ text)

  abbrev P : TypedProgram
  P = filled_program tables library text kinds

  abbrev c0 : ℕ
  c0 = library_classes library text

  abbrev n0 : ℕ
  n0 = all_routines library

  abbrev is_library : ℕ → Bool
  is_library d = nat_lt d k.library

  typed_so : (d : ℕ) (a : Entry) → slice_get k.entries d ≡ Some a → HasItsType k d a.sort
  typed_so = types_there tables library text kinds derived ok no_failure

  abbrev Agreed : ℕ → List Entry → List (Option Routine) → List ℕ → Type 0
  Agreed d es os ns = Agree tables names k numbers P is_library typed_so d es os ns

  proper_so : (d : ℕ) (u : StaticType) → kind_at k d ≡ Some u → IsProper u
  proper_so = kinds_proper tables library text kinds derived

  entries_are : k.entries ≡ entries_from names 0 library ++ entries_from names c0 text
  entries_are =
      let zero_so : c0 ≡ 0 = ap (λ (xs : List ℕ). length xs) (no_classes library ok.functions) in
      entries_joined names 0 library text ok.functions ∙ ap (λ (j : ℕ). entries_from names 0 library ++ entries_from names j text) (sym zero_so)

  numbers_are : numbers.routines ≡ numbers_from 0 library ++ numbers_from n0 text
  numbers_are = numbers_joined 0 library text ∙ ap (λ (j : ℕ). numbers_from 0 library ++ numbers_from j text) (let z : 0 + n0 ≡ n0 = omega arith in z)

  both_agree : Agreed 0 (entries_from names 0 library ++ entries_from names c0 text) (declared_routines library ++ declared_routines text) (numbers_from 0 library ++ numbers_from n0 text)
  both_agree =
      let z : k.library ≡ 0 + length (entries_from names 0 library) = omega arith in
      agree_both tables names k numbers P is_library typed_so 0 (entries_from names 0 library) (declared_routines library) (numbers_from 0 library) (entries_from names c0 text) (declared_routines text) (numbers_from n0 text)
      (library_agrees tables names k numbers P is_library typed_so 0 0 0 library ok.functions (λ j lt. lt-ltb j k.library (omega (arith, lt))) ok.routines ok.built ok.no_failure
      (front_placed tables library text kinds derived ok formed no_failure proper_so))
      (subst (λ (j : ℕ). Agreed j (entries_from names c0 text) (declared_routines text) (numbers_from n0 text)) z
      (text_agrees tables names k numbers P is_library typed_so c0 k.library 0 n0 text (text_entries tables library text kinds ok.functions no_failure) (omega arith) (λ j le. le-ltb j k.library le) (nodes_none tables library text kinds ok.functions no_failure)
      (back_placed tables library text kinds derived ok formed no_failure proper_so)))

  all_agree : Agreed 0 k.entries (declared_routines (library ++ text)) numbers.routines
  all_agree =
      subst (λ (es : List Entry). Agreed 0 es (declared_routines (library ++ text)) numbers.routines) (sym entries_are)
      (subst (λ (os : List (Option Routine)). Agreed 0 (entries_from names 0 library ++ entries_from names c0 text) os numbers.routines) (sym (routines_of_both library text))
      (subst (λ (ns : List ℕ). Agreed 0 (entries_from names 0 library ++ entries_from names c0 text) (declared_routines library ++ declared_routines text) ns) (sym numbers_are) both_agree))

  abbrev own_main : TypedRoutine
  own_main = main_routine (items_made tables names k numbers c0 k.library 0 n0 text)

  main_at : P.main ≡ all_routines (library ++ text)
  main_at = main_is tables library text kinds derived ok formed no_failure proper_so ∙ sym (routines_joined library text)

  declared_filled : FunctionsAreDeclared tables library text kinds P
  declared_filled = record {
    as_many = routines_many names 0 (library ++ text);
    each = λ d a does e f.
        let z : 0 + d ≡ d = omega arith in
        subst (λ (j : ℕ). HasItsFunction tables names k numbers P (is_library j) j a (get_or numbers.routines d 0) does) z
        (agree_get tables names k numbers P is_library typed_so 0 k.entries (declared_routines (library ++ text)) numbers.routines d a does all_agree e f);
    last = main_at;
    made = items_made tables names k numbers c0 k.library 0 n0 text;
    made_of = parts_built tables library text kinds derived ok no_failure;
    main = subst (λ (j : ℕ). HasRoutine P j own_main) main_at (main_there tables library text kinds derived ok formed no_failure proper_so);
  }

pub functions_declared : FunctionsAreTheirs
functions_declared tables library text kinds P formed derived ok no_failure is =
    let same : filled_program tables library text kinds ≡ P = some_is (filled_program tables library text kinds) P (sym (texts_built tables library text kinds derived ok no_failure) ∙ is) in
    subst (λ (z : TypedProgram). FunctionsAreDeclared tables library text kinds z) same (declared_filled tables library text kinds formed derived ok no_failure)
