-- Functions, methods and constructors are well typed.
use Rattle.std.proofs.Common.{◌≡◌, ℕ, zero, suc, ◌+◌, ◌<◌, ◌≤◌, ◌==◌, ◌||◌, refl, sym, ap, ◌∙◌, subst, Bool, true, false, Option, Some, None, List, [], ◌∷◌, ◌++◌, length, get_or, arith, inl, inr, eqb-true, eq-eqb, append_assoc, length-append}
use Rattle.std.specs.Prelude.{slice_get, unwrap_or, ◌⊎◌, if◌then◌else◌}
use Rattle.sts_base.specs.declared.tables.Tables.{Tables}
use Rattle.sts_syntax.specs.declared.typed.Spot.TheVariants.{Global}
use Rattle.sts_syntax.specs.Types as t
use Rattle.sts_syntax.specs.Types.{ValueType}
use Rattle.sts_syntax.specs.TypedTrees.{TypedRoutine, ClassEntry, TypedProgram}
use Rattle.sts_syntax.specs.TypeRules.{entry}
use Rattle.sts_syntax.specs.WellTyped.{Setting, Has, HasThis}
use Rattle.sts_syntax.specs.WellTyped as w
use Rattle.sts_syntax.specs.WellTypedPrograms.{IsRoutine, IsBodyOf, base_of_maker, is_maker, setting}
use Rattle.sts_syntax.specs.Trees.{Parameter, Statements}
use Rattle.sts_scope.specs.declared.kinds.StaticType.{StaticType}
use Rattle.sts_scope.specs.declared.entries.ClassHead.{ClassHead}
use Rattle.sts_scope.specs.declared.known.Known.{Known}
use Rattle.sts_scope.specs.declared.known.This.{This as Self}
use Rattle.sts_scope.specs.declared.known.This.TheVariants as this
use Rattle.sts_scope.specs.Kinds.{nothing, value_type, value_types}
use Rattle.sts_scope.specs.Entries.{Naming, written_kind, parameter_kinds}
use Rattle.sts_scope.specs.Lookup.{base_of}
use Rattle.sts_scope.specs.Rules.{local_kind}
use Rattle.typed_laws.proofs.Returning.{give_value}
use Rattle.type_derive.specs.Returns.{parameter_locals, within}
use Rattle.type_derive.specs.Nodes.{statements_failure}
use Rattle.sts_scope.specs.Handlers.{statements_handlers}
use Rattle.typed_laws.proofs.FormedParts.{AreFormedIn}
use Rattle.sts_scope.specs.Numbers.{Numbering, maker_number}
use Rattle.type_derive.specs.Built.{Site}
use Rattle.type_derive.specs.inner.Filled.{made_statements, site}
use Rattle.type_derive.specs.Functions.{parameter_spots}
use Rattle.typed_laws.specs.inner.FilledPrograms.{class_entries}
use Rattle.typed_laws.proofs.Stands.{IsProper, Stands}
use Rattle.typed_laws.proofs.OneNode.{test_false}
use Rattle.typed_laws.proofs.TreeFacts.{written_proper}
use Rattle.typed_laws.proofs.Makings.{Placed, IsInner, Inners, kept_all}
use Rattle.typed_laws.proofs.Suffixes.{Suffix, suffix_one, suffix_head}
use Rattle.typed_laws.proofs.Sites.{At}
use Rattle.typed_laws.proofs.Trees.{statements, Answered}
use Rattle.typed_laws.proofs.Makers.{blank, AllMarked, marked_get}
use Rattle.typed_laws.proofs.Classes.{Made, stands}

entry_at : {A : Type 0} (us vs : List A) (v : A) → entry (us ++ v ∷ vs) (length us) ≡ Some v
entry_at {A} [] vs v = refl
entry_at {A} (u ∷ us) vs v = entry_at us vs v

module _ (tables : Tables) (names : Naming) (k : Known) (numbers : Numbering) (P : TypedProgram) (made : Made tables names k numbers P) where
  abbrev pub st : Stands tables k numbers P
  st = stands tables names k numbers P made

  abbrev pub Stand : Setting → List ℕ → Site → Type 0
  Stand S known s = At tables names k numbers P st S known s

  -- parameters stand behind those before them
  params_have : (S : Setting) (before : List ValueType) (params : List Parameter) → S.routine.params ≡ before ++ value_types (parameter_kinds names params) → (j : ℕ) (u : StaticType) → local_kind (parameter_locals names params) j ≡ Some u
      → Has P S [] (get_or (parameter_spots (length before) params) j (Global 0)) (value_type u)
  params_have S before [] q j u h = cc
  params_have S before (p ∷ rest) q zero u h =
      let v : ValueType = value_type (unwrap_or (written_kind names p.shape) nothing) in
      let same : v ≡ value_type u = ap (λ (o : Option StaticType). value_type (unwrap_or o nothing)) h in
      ap (λ (us : List ValueType). entry us (length before)) q ∙ entry_at before (value_types (parameter_kinds names rest)) v ∙ ap (λ (y : ValueType). Some y) same
  params_have S before (p ∷ rest) q (suc j) u h =
      let v : ValueType = value_type (unwrap_or (written_kind names p.shape) nothing) in
      let q' : S.routine.params ≡ (before ++ v ∷ []) ++ value_types (parameter_kinds names rest) = q ∙ sym (append_assoc before (v ∷ []) (value_types (parameter_kinds names rest))) in
      let long : length (before ++ v ∷ []) ≡ suc (length before) = length-append before (v ∷ []) ∙ (let z : length before + 1 ≡ suc (length before) = omega arith in z) in
      subst (λ (i : ℕ). Has P S [] (get_or (parameter_spots i rest) j (Global 0)) (value_type u)) long (params_have S (before ++ v ∷ []) rest q' j u h)

  params_proper : (params : List Parameter) (j : ℕ) (u : StaticType) → local_kind (parameter_locals names params) j ≡ Some u → IsProper u
  params_proper [] j u h = cc
  params_proper (p ∷ rest) zero u h = written_proper names p.shape u h
  params_proper (p ∷ rest) (suc j) u h = params_proper rest j u h

  params_even : (i : ℕ) (params : List Parameter) → length (parameter_spots i params) ≡ length (parameter_locals names params)
  params_even i [] = refl
  params_even i (p ∷ rest) = ap suc (params_even (suc i) rest)

  pub site_stand : (S : Setting) (self : Self) (result : Option StaticType) (library : Bool) (before : List ValueType) (params : List Parameter) → S.routine.params ≡ before ++ value_types (parameter_kinds names params)
      → ((c : ℕ) → self ≡ this.Object c → HasThis P S (t.Object c)) → Stand S [] (site tables names k numbers self result library (length before) params)
  site_stand S self result library before params q this_so =
      record { even = params_even (length before) params; here = λ i u h. params_have S before params q i u h; proper = λ i u h. params_proper params i u h; this = this_so }

  -- which functions are constructors
  module _ (marks : List (Option ℕ)) (marked : AllMarked marks 0 numbers.makers) where
    maker_marked : (c : ℕ) → c < length k.classes → slice_get marks (maker_number numbers c) ≡ Some (Some c)
    maker_marked c near =
        let near' : c < length numbers.makers = omega (arith, near, made.makers_many) in
        let z : 0 + c ≡ c = omega arith in
        marked_get marks 0 c numbers.makers marked near' ∙ ap (λ (i : ℕ). Some (Some i)) z

    abbrev pub NoMaker : ℕ → Type 0
    NoMaker f = (c : ℕ) → c < length k.classes → maker_number numbers c ≡ f → ⊥

    pub no_maker : (f : ℕ) → (slice_get marks f ≡ Some None) ⊎ (slice_get marks f ≡ None) → NoMaker f
    no_maker f (inl h) c near q = let z : Some (Some c) ≡ Some None = sym (maker_marked c near) ∙ ap (λ (j : ℕ). slice_get marks j) q ∙ h in cc
    no_maker f (inr h) c near q = let z : Some (Some c) ≡ None = sym (maker_marked c near) ∙ ap (λ (j : ℕ). slice_get marks j) q ∙ h in cc

    pub one_maker : (c d : ℕ) → c < length k.classes → d < length k.classes → maker_number numbers c ≡ maker_number numbers d → c ≡ d
    one_maker c d near near_d q =
        let z : Some (Some c) ≡ Some (Some d) = sym (maker_marked c near) ∙ ap (λ (j : ℕ). slice_get marks j) q ∙ maker_marked d near_d in cc

  abbrev classes_from : ℕ → List ClassHead → List ClassEntry
  classes_from j heads = class_entries tables names k numbers j heads

  none_makes : (f j : ℕ) (heads : List ClassHead) → ((i : ℕ) → i < length heads → maker_number numbers (j + i) ≡ f → ⊥) → (is_maker (classes_from j heads) f ≡ false) × (base_of_maker P (classes_from j heads) f ≡ None)
  none_makes f j [] h = (refl, refl)
  none_makes f j (head ∷ rest) h =
      let here : (maker_number numbers j == f) ≡ false = test_false (maker_number numbers j == f) (λ q. h 0 (omega arith) (ap (λ (i : ℕ). maker_number numbers i) (let z : j + 0 ≡ j = omega arith in z) ∙ eqb-true (maker_number numbers j) f q)) in
      let (a, b) = none_makes f (suc j) rest (λ i near q. h (suc i) (omega arith) (ap (λ (x : ℕ). maker_number numbers x) (let z : j + suc i ≡ suc j + i = omega arith in z) ∙ q)) in (
        ap (λ (x : Bool). x || is_maker (classes_from (suc j) rest) f) here ∙ a,
        ap (λ (x : Bool). elim x [ true ↦ base_of k.classes j | false ↦ base_of_maker P (classes_from (suc j) rest) f ]) here ∙ b,
      )

  one_makes : (c j : ℕ) (heads : List ClassHead) → ((i : ℕ) → i < length heads → maker_number numbers (j + i) ≡ maker_number numbers c → j + i ≡ c) → (i : ℕ) → i < length heads → j + i ≡ c
      → (is_maker (classes_from j heads) (maker_number numbers c) ≡ true) × (base_of_maker P (classes_from j heads) (maker_number numbers c) ≡ base_of k.classes c)
  one_makes c j [] only i near at = absurd (omega arith)
  one_makes c j (head ∷ rest) only zero near at =
      let jc : j ≡ c = omega arith in
      let here : (maker_number numbers j == maker_number numbers c) ≡ true = eq-eqb (maker_number numbers j) (maker_number numbers c) (ap (λ (i : ℕ). maker_number numbers i) jc) in (
        ap (λ (x : Bool). x || is_maker (classes_from (suc j) rest) (maker_number numbers c)) here,
        ap (λ (x : Bool). elim x [ true ↦ base_of k.classes j | false ↦ base_of_maker P (classes_from (suc j) rest) (maker_number numbers c) ]) here ∙ ap (λ (i : ℕ). base_of k.classes i) jc,
      )
  one_makes c j (head ∷ rest) only (suc i) near at =
      let fails : (maker_number numbers j == maker_number numbers c) ≡ false = test_false (maker_number numbers j == maker_number numbers c)
      (λ q. let z : j + 0 ≡ c = only 0 (omega arith) (ap (λ (x : ℕ). maker_number numbers x) (let y : j + 0 ≡ j = omega arith in y) ∙ eqb-true (maker_number numbers j) (maker_number numbers c) q) in absurd (omega arith)) in
      let (a, b) = one_makes c (suc j) rest
      (λ x near' q. let y : j + suc x ≡ c = only (suc x) (omega arith) (ap (λ (i : ℕ). maker_number numbers i) (let z : j + suc x ≡ suc j + x = omega arith in z) ∙ q) in omega (arith, y)) i (omega arith) (omega arith) in (
        ap (λ (x : Bool). x || is_maker (classes_from (suc j) rest) (maker_number numbers c)) fails ∙ a,
        ap (λ (x : Bool). elim x [ true ↦ base_of k.classes j | false ↦ base_of_maker P (classes_from (suc j) rest) (maker_number numbers c) ]) fails ∙ b,
      )

  pub not_maker : (f : ℕ) → ((c : ℕ) → c < length k.classes → maker_number numbers c ≡ f → ⊥) → (is_maker P.classes f ≡ false) × (base_of_maker P P.classes f ≡ None)
  not_maker f h =
      let (a, b) = none_makes f 0 k.classes (λ i near q. h i near (ap (λ (x : ℕ). maker_number numbers x) (let z : i ≡ 0 + i = omega arith in z) ∙ q)) in
      (ap (λ (cs : List ClassEntry). is_maker cs f) made.classes_are ∙ a, ap (λ (cs : List ClassEntry). base_of_maker P cs f) made.classes_are ∙ b)

  pub is_the_maker : (c : ℕ) → c < length k.classes → ((d : ℕ) → d < length k.classes → maker_number numbers d ≡ maker_number numbers c → d ≡ c)
      → (is_maker P.classes (maker_number numbers c) ≡ true) × (base_of_maker P P.classes (maker_number numbers c) ≡ base_of k.classes c)
  is_the_maker c near only =
      let (a, b) = one_makes c 0 k.classes (λ i near' q. let z : 0 + i ≡ i = omega arith in z ∙ only i near' (ap (λ (x : ℕ). maker_number numbers x) (sym z) ∙ q)) c near (omega arith) in
      (ap (λ (cs : List ClassEntry). is_maker cs (maker_number numbers c)) made.classes_are ∙ a, ap (λ (cs : List ClassEntry). base_of_maker P cs (maker_number numbers c)) made.classes_are ∙ b)

  -- each function of a list that stands from a number on is well typed
  abbrev pub Each : ℕ → List TypedRoutine → Type 0
  Each n [] = Unit {0}
  Each n (r ∷ rs) = IsRoutine P n r × Each (suc n) rs

  pub each_both : (n : ℕ) (rs qs : List TypedRoutine) → Each n rs → Each (n + length rs) qs → Each n (rs ++ qs)
  each_both n [] qs g h = subst (λ (i : ℕ). Each i qs) (let z : n + 0 ≡ n = omega arith in z) h
  each_both n (r ∷ rs) qs g h = (g.0, each_both (suc n) rs qs g.1 (subst (λ (i : ℕ). Each i qs) (let z : n + suc (length rs) ≡ suc n + length rs = omega arith in z) h))

  pub each_at : (n j : ℕ) (rs qs : List TypedRoutine) → length rs ≡ j → Each n rs → Each (n + j) qs → Each n (rs ++ qs)
  each_at n j rs qs same g h = each_both n rs qs g (subst (λ (i : ℕ). Each (n + i) qs) (sym same) h)

  pub each_more : (n j : ℕ) (rs qs : List TypedRoutine) → length rs ≡ suc j → Each n rs → Each (suc n + j) qs → Each n (rs ++ qs)
  each_more n j rs qs same g h = each_at n (suc j) rs qs same g (subst (λ (i : ℕ). Each i qs) (let z : suc n + j ≡ n + suc j = omega arith in z) h)

  pub below_main : (f : ℕ) → f < P.main → (f == P.main) ≡ false
  below_main f h = test_false (f == P.main) (λ q. let z : f ≡ P.main = eqb-true f P.main q in absurd (omega arith))

  module _ (marks : List (Option ℕ)) (marked : AllMarked marks 0 numbers.makers) where
    plain_base : (f : ℕ) → slice_get marks f ≡ Some None → (is_maker P.classes f ≡ false) × (base_of_maker P P.classes f ≡ None)
    plain_base f h = not_maker f (no_maker marks marked f (inl h))

    -- a handler
    inner_sound : (f : ℕ) (r : TypedRoutine) → IsInner P r → slice_get marks f ≡ Some None → f < P.main → IsRoutine P f r
    inner_sound f r inner h near =
        let S : Setting = setting P f r in
        record {
          body = subst (λ (o : Option ℕ). IsBodyOf P o S r.all) (sym (plain_base f h).1) (inner.body S refl (below_main f near));
          locals = inner.locals;
        }

    pub inners_sound : (n : ℕ) (rs : List TypedRoutine) (tail : List (Option ℕ)) → Inners P rs → Suffix marks n (blank (length rs) ++ tail) → n + length rs ≤ P.main → Each n rs
    inners_sound n [] tail h s near = tt
    inners_sound n (r ∷ rs) tail h s near =
        let near_n : n < P.main = omega arith in
        let near' : suc n + length rs ≤ P.main = omega arith in
        (inner_sound n r h.0 (suffix_head marks n None (blank (length rs) ++ tail) s) near_n, inners_sound (suc n) rs tail h.1 (suffix_one marks n None (blank (length rs) ++ tail) s) near')

    -- what `return` gives in a function that is no constructor
    plain_answers : (f : ℕ) (r : TypedRoutine) (result : Option StaticType) (b : Bool) → is_maker P.classes f ≡ false → f < P.main → r.gives ≡ value_type (unwrap_or result nothing) → ((u : StaticType) → result ≡ Some u → IsProper u)
        → Answered tables names k numbers P st (setting P f r) result b
    plain_answers f r result b h near gives proper =
        let answer_is : w.answer (setting P f r) ≡ Some r.gives =
        ap (λ (x : Bool). let y : Option ValueType = if x then None else Some (if is_maker P.classes f then t.Nothing else r.gives) in y) (below_main f near)
        ∙ ap (λ (x : Bool). Some (if x then t.Nothing else r.gives)) h in
        ((λ q. (r.gives, answer_is)), (λ q v same. (answer_is ∙ ap (λ (y : ValueType). Some y) (gives ∙ ap (λ (o : Option StaticType). value_type (unwrap_or o nothing)) same), proper v same)))

    -- a function or a method, and the functions in it
    pub body_sound : (self : Self) (result : Option StaticType) (library : Bool) (before : List ValueType) (params : List Parameter) (all : Statements) (n : ℕ) (tail : List (Option ℕ))
        → AreFormedIn false all → statements_failure tables names k (within (parameter_locals names params) self result library) all ≡ None → ((u : StaticType) → result ≡ Some u → IsProper u)
        → (let x = made_statements tables names k numbers (site tables names k numbers self result library (length before) params) all 0 (suc n) in
        let r : TypedRoutine = record { params = before ++ value_types (parameter_kinds names params); locals = x.locals; gives = value_type (unwrap_or result nothing); all = x.it } in
        Placed P n (r ∷ x.routines) → ((c : ℕ) → self ≡ this.Object c → HasThis P (setting P n r) (t.Object c)) → Suffix marks n (blank (suc (statements_handlers all)) ++ tail) → n + suc (statements_handlers all) ≤ P.main → Each n (r ∷ x.routines))
    body_sound self result library before params all n tail formed h proper placed this_so s near =
        let x = made_statements tables names k numbers (site tables names k numbers self result library (length before) params) all 0 (suc n) in
        let r : TypedRoutine = record { params = before ++ value_types (parameter_kinds names params); locals = x.locals; gives = value_type (unwrap_or result nothing); all = x.it } in
        let S : Setting = setting P n r in
        let mark : slice_get marks n ≡ Some None = suffix_head marks n None (blank (statements_handlers all) ++ tail) s in
        let (no_maker_so, base_so) = plain_base n mark in
        let near_n : n < P.main = omega arith in
        let at : Stand S [] (site tables names k numbers self result library (length before) params) = site_stand S self result library before params refl this_so in
        let (sound, locals_so, inners, count) = statements tables names k numbers P st S [] (site tables names k numbers self result library (length before) params) false result all 0 (suc n) at formed refl h
        (plain_answers n r result (give_value all) no_maker_so near_n refl proper) placed.1 (kept_all P S x.locals refl) in
        let s' : Suffix marks (suc n) (blank (length x.routines) ++ tail) = subst (λ (i : ℕ). Suffix marks (suc n) (blank i ++ tail)) (sym count) (suffix_one marks n None (blank (statements_handlers all) ++ tail) s) in
        let near' : suc n + length x.routines ≤ P.main = omega (arith, count, near) in
        (record { body = subst (λ (o : Option ℕ). IsBodyOf P o S x.it) (sym base_so) sound; locals = locals_so }, inners_sound (suc n) x.routines tail inners s' near')
