-- A program within the counted limits declares no more than they allow.
use Rattle.std.proofs.Common.{◌≡◌, ℕ, zero, suc, ◌+◌, ◌<◌, ◌&&◌, Bool, true, false, Option, Some, List, [], ◌∷◌, ◌++◌, length, map, refl, sym, ap, ◌∙◌, subst, arith}
use Rattle.std.proofs.lemmas.List.{length-map}
use Rattle.std.specs.Prelude.{nat_le}
use Rattle.std.specs.List.{list_all}
use Rattle.sts_base.specs.declared.tables.Tables.{Tables}
use Rattle.sts_base.specs.declared.refused.Code.TheVariants.{OverLimit}
use Rattle.sts_scope.specs.declared.entries.Entry.{Entry}
use Rattle.sts_scope.specs.declared.entries.DeclarationKind.{DeclarationKind}
use Rattle.sts_scope.specs.declared.entries.ClassHead.{ClassHead}
use Rattle.sts_scope.specs.declared.known.Known.{Known}
use Rattle.sts_scope.specs.Entries.{Naming}
use Rattle.sts_scope.specs.Failures.{Failure, unless}
use Rattle.sts_scope.specs.Lookup.{is_field}
use Rattle.sts_scope.specs.Numbers.{Numbering, is_method, names_from, field_names, slot_names}
use Rattle.sts_scope.specs.Rules.{kind_at}
use Rattle.sts_scope.specs.Scopes.{is_global, names_of}
use Rattle.sts_syntax.specs.Types.{ValueType}
use Rattle.sts_syntax.specs.TypedTrees.{TypedProgram}
use Rattle.typed_limits.specs.Limits.{class_fits, routine_fits, program_fits}
use Rattle.sts_syntax.specs.Nodes.{text_bytes, text_weight}
use Rattle.typed_numbers.specs.Building.{names_upto}
use Rattle.typed_numbers.specs.Counts.{is_short, counts_fit}
use Rattle.typed_laws.specs.Accepted.{limits_failure}
use Rattle.type_derive.specs.inner.Filled as b
use Rattle.typed_laws.specs.inner.FilledPrograms as p

both : (x y : Bool) → (x && y) ≡ true → (x ≡ true) × (y ≡ true)
both true y h = (refl, h)
both false y h = cc

and : (x y : Bool) → x ≡ true → y ≡ true → (x && y) ≡ true
and x y h e = ap (λ b. b && y) h ∙ e

one_more : (xs : List (List ℕ)) (x : List ℕ) → list_all is_short xs ≡ true → is_short x ≡ true → list_all is_short (xs ++ x ∷ []) ≡ true
one_more [] x h e = and (is_short x) true e refl
one_more (y ∷ ys) x h e = let r = both (is_short y) (list_all is_short ys) h in and (is_short y) (list_all is_short (ys ++ x ∷ [])) r.0 (one_more ys x r.1 e)

short_upto : (which : Option DeclarationKind → Bool) (k : Known) (n : ℕ) → ((c : ℕ) → c < n → is_short (names_from which k (length k.classes) c) ≡ true) → list_all is_short (names_upto which k n) ≡ true
short_upto which k zero h = refl
short_upto which k (suc n) h =
    one_more (names_upto which k n) (names_from which k (length k.classes) n) (short_upto which k n (λ c l. h c (omega arith))) (h n (omega arith))

longer : (b : Bool) (u : ValueType) (x : ℕ) (us : List ValueType) (xs : List ℕ) → length us ≡ length xs → length (elim b as (λ z. List ValueType) [ true ↦ u ∷ us | false ↦ us ]) ≡ length (elim b as (λ z. List ℕ) [ true ↦ x ∷ xs | false ↦ xs ])
longer true u x us xs h = ap suc h
longer false u x us xs h = h

module _ (tables : Tables) (names : Naming) (k : Known) (numbers : Numbering) where
  classes_long : (c : ℕ) (xs : List ClassHead) → length (p.class_entries tables names k numbers c xs) ≡ length xs
  classes_long c [] = refl
  classes_long c (x ∷ xs) = ap suc (classes_long (suc c) xs)

  globals_long : (d : ℕ) (es : List Entry) → length (p.global_types tables names k numbers d es) ≡ length (names_of is_global es)
  globals_long d [] = refl
  globals_long d (a ∷ rest) =
      longer (is_global a.sort) (b.class_result tables names k numbers (kind_at k d)) a.name (p.global_types tables names k numbers (suc d) rest) (names_of is_global rest) (globals_long (suc d) rest)

  each : (c : ℕ) (xs : List ClassHead) → list_all class_fits (p.class_entries tables names k numbers c xs) ≡ true → (i : ℕ) → i < length xs → class_fits (p.class_entry tables names k numbers (c + i)) ≡ true
  each c [] h i l = absurd (omega arith)
  each c (x ∷ xs) h zero l =
      let z : c ≡ c + 0 = omega arith in
      subst (λ n. class_fits (p.class_entry tables names k numbers n) ≡ true) z
      (both (class_fits (p.class_entry tables names k numbers c)) (list_all class_fits (p.class_entries tables names k numbers (suc c) xs)) h).0
  each c (x ∷ xs) h (suc i) l =
      let z : suc c + i ≡ c + suc i = omega arith in
      subst (λ n. class_fits (p.class_entry tables names k numbers n) ≡ true) z
      (each (suc c) xs (both (class_fits (p.class_entry tables names k numbers c)) (list_all class_fits (p.class_entries tables names k numbers (suc c) xs)) h).1 i (omega arith))

  short : (c : ℕ) → class_fits (p.class_entry tables names k numbers c) ≡ true → (is_short (field_names k c) ≡ true) × (is_short (slot_names k c) ≡ true)
  short c h =
      let f = p.member_kind tables names k numbers c in
      let s = p.member_routine tables names k numbers c in
      let (a, b) = both (nat_le (length (map f (field_names k c))) 30) (nat_le (length (map s (slot_names k c))) 30) h in
      (ap (λ n. nat_le n 30) (sym (length-map (field_names k c) f)) ∙ a, ap (λ n. nat_le n 30) (sym (length-map (slot_names k c) s)) ∙ b)

  -- what is declared of a program within the limits
  pub counted : (texts : List (List ℕ)) (P : TypedProgram) → P.classes ≡ p.class_entries tables names k numbers 0 k.classes → P.globals ≡ p.global_types tables names k numbers 0 k.entries → program_fits texts P ≡ true → counts_fit k ≡ true
  counted texts P hc hg h =
      let G : Bool = nat_le (length P.globals) 256 in
      let C : Bool = nat_le (length P.classes) 64 in
      let E : Bool = list_all class_fits P.classes in
      let F : Bool = list_all routine_fits P.functions in
      let W : Bool = nat_le (text_weight P) 3600 in
      let B : Bool = nat_le (text_bytes texts P) 16384 in
      let (h5, b) = both (G && C && E && F && W) B h in
      let (h4, w) = both (G && C && E && F) W h5 in
      let (h3, f) = both (G && C && E) F h4 in
      let (h2, e) = both (G && C) E h3 in
      let (g, c) = both G C h2 in
      let n = length k.classes in
      let all = each 0 k.classes (ap (list_all class_fits) (sym hc) ∙ e) in
      let at : (i : ℕ) → i < n → class_fits (p.class_entry tables names k numbers i) ≡ true =
      λ i l. (let z : 0 + i ≡ i = omega arith in subst (λ j. class_fits (p.class_entry tables names k numbers j) ≡ true) z (all i l)) in
      let c' : nat_le n 64 ≡ true = ap (λ i. nat_le i 64) (sym (ap length hc ∙ classes_long 0 k.classes)) ∙ c in
      let g' : nat_le (length (names_of is_global k.entries)) 256 ≡ true = ap (λ i. nat_le i 256) (sym (ap length hg ∙ globals_long 0 k.entries)) ∙ g in
      let f' = short_upto is_field k n (λ i l. (short i (at i l)).0) in
      let s' = short_upto is_method k n (λ i l. (short i (at i l)).1) in
      and (nat_le n 64 && nat_le (length (names_of is_global k.entries)) 256 && list_all is_short (names_upto is_field k n)) (list_all is_short (names_upto is_method k n))
      (and (nat_le n 64 && nat_le (length (names_of is_global k.entries)) 256) (list_all is_short (names_upto is_field k n)) (and (nat_le n 64) (nat_le (length (names_of is_global k.entries)) 256) c' g') f') s'

  -- one that declares more passes a limit
  pub over_limit : (texts : List (List ℕ)) (P : TypedProgram) → P.classes ≡ p.class_entries tables names k numbers 0 k.classes → P.globals ≡ p.global_types tables names k numbers 0 k.entries →
      (found : Failure) → unless (counts_fit k) OverLimit 0 ≡ Some found → limits_failure texts P ≡ Some found
  over_limit texts P hc hg found h = by (counts_fit k) (program_fits texts P) (counted texts P hc hg) h where
    by : (x y : Bool) → (y ≡ true → x ≡ true) → unless x OverLimit 0 ≡ Some found → unless y OverLimit 0 ≡ Some found
    by true y i e = cc
    by false true i e = (let w = i refl in cc)
    by false false i e = e
