-- Constructors: where they stand, and that no other function is one.
use Rattle.std.proofs.Common.{◌≡◌, ℕ, zero, suc, ◌+◌, ◌<◌, refl, sym, ap, ◌∙◌, subst, false, Option, Some, None, List, [], ◌∷◌, ◌++◌, length, get_or, inl, inr, arith, length-append, append_assoc}
use Rattle.std.specs.Prelude.{slice_get, ◌⊎◌}
use Rattle.sts_base.specs.declared.tables.Tables.{Tables}
use Rattle.sts_syntax.specs.Types as t
use Rattle.sts_syntax.specs.TypedTrees.{TypedStatement, TypedRoutine, TypedProgram}
use Rattle.sts_syntax.specs.Trees.{Routine, Does}
use Rattle.sts_syntax.specs.Programs.{ClassMember, Field, Method, Constructor, TopLevel, Class, Function, Main, Program}
use Rattle.sts_scope.specs.declared.kinds.StaticType.{StaticType}
use Rattle.sts_scope.specs.declared.entries.ClassHead.{ClassHead}
use Rattle.sts_scope.specs.declared.known.Known.{Known}
use Rattle.sts_scope.specs.declared.known.This.TheVariants as this
use Rattle.sts_scope.specs.Kinds.{value_types}
use Rattle.sts_scope.specs.Entries.{Naming, classes_in, item_entries, heads_of, class_head, maker_takes, routine_takes}
use Rattle.sts_scope.specs.Rules.{kind_at, maker_takes_of}
use Rattle.sts_scope.specs.Rules as rules
use Rattle.type_derive.specs.Passes.{outside_failure, body_failure, members_nodes, item_nodes, nodes_failure}
use Rattle.sts_scope.specs.Handlers.{routine_handlers, declared_handlers, statement_handlers, members_routines, unwritten, item_routines}
use Rattle.sts_scope.specs.Numbers.{Numbering, maker_from, makers_from}
use Rattle.type_derive.specs.inner.Filled.{function_made, method_made}
use Rattle.typed_laws.specs.Programs.{unwritten_made}
use Rattle.typed_laws.specs.inner.FilledPrograms.{initial_made, initials, constructor_made, members_made, class_made, main_made, items_made}
use Rattle.typed_laws.proofs.Typed.{last, first}
use Rattle.typed_laws.proofs.Makings.{Placed, placed_left}
use Rattle.typed_laws.proofs.Suffixes.{Suffix, suffix_step, suffix_at, suffix_head}
use Rattle.typed_laws.proofs.Items.{function_counts, method_counts, field_counts, class_counts, main_counts}
use Rattle.typed_laws.proofs.Placing.{HasBody, placed_at, placed_more, members_placed}

-- a class has a written constructor, or none
abbrev pub Written : Naming → List ClassMember → Type 0
Written names members = (unwritten members ≡ 0) × (takes : List StaticType) × (maker_takes names members ≡ Some takes)

abbrev pub Unwritten : Naming → List ClassMember → Type 0
Unwritten names members = (unwritten members ≡ 1) × (maker_takes names members ≡ None) × ((start n : ℕ) → maker_from start n members ≡ start)

pub is_written : (names : Naming) (members : List ClassMember) → Written names members ⊎ Unwritten names members
is_written names [] = inr (refl, refl, λ start n. refl)
is_written names (Field a ∷ rest) = elim (is_written names rest) [ inl p ↦ inl (p.0, p.1, p.2) | inr p ↦ inr (p.0, p.1, λ start n. p.2 start (n + declared_handlers a)) ]
is_written names (Method x r ∷ rest) = elim (is_written names rest) [ inl p ↦ inl (p.0, p.1, p.2) | inr p ↦ inr (p.0, p.1, λ start n. p.2 start (suc n + routine_handlers r)) ]
is_written names (Constructor r ∷ rest) = inl (refl, routine_takes names r, refl)

-- what a class's constructor takes
takes_from_head : (classes : List ClassHead) (c : ℕ) (h : ClassHead) (n : ℕ) (takes : List StaticType) → slice_get classes c ≡ Some h → h.takes ≡ Some takes → rules.maker_from classes (suc n) c ≡ takes
takes_from_head classes c h n takes q r =
    let E : Option ClassHead → List StaticType = λ x. elim x [ None ↦ [] | Some class ↦ elim class.takes [ Some takes ↦ takes | None ↦ elim class.base [ None ↦ [] | Some b ↦ rules.maker_from classes n b ] ] ] in
    let F : Option (List StaticType) → List StaticType = λ x. elim x [ Some takes ↦ takes | None ↦ elim h.base [ None ↦ [] | Some b ↦ rules.maker_from classes n b ] ] in
    ap E q ∙ ap F r

some_classes : (classes : List ClassHead) (c : ℕ) (h : ClassHead) → slice_get classes c ≡ Some h → (n : ℕ) × (length classes ≡ suc n)
some_classes [] c h q = cc
some_classes (x ∷ xs) c h q = (length xs, refl)

pub takes_of_head : (classes : List ClassHead) (c : ℕ) (h : ClassHead) (takes : List StaticType) → slice_get classes c ≡ Some h → h.takes ≡ Some takes → maker_takes_of classes c ≡ takes
takes_of_head classes c h takes q r =
    let (n, same) = some_classes classes c h q in
    ap (λ (i : ℕ). rules.maker_from classes i c) same ∙ takes_from_head classes c h n takes q r

-- Marks: for each function, the class of which it is a written or unwritten constructor.
abbrev pub blank : ℕ → List (Option ℕ)
blank zero = []
blank (suc n) = None ∷ blank n

abbrev pub opened : ℕ → ℕ → List (Option ℕ)
opened zero c = []
opened (suc n) c = Some c ∷ []

abbrev pub member_marks : ℕ → List ClassMember → List (Option ℕ)
member_marks c [] = []
member_marks c (Field a ∷ rest) = blank (declared_handlers a) ++ member_marks c rest
member_marks c (Method x r ∷ rest) = blank (suc (routine_handlers r)) ++ member_marks c rest
member_marks c (Constructor r ∷ rest) = (Some c ∷ blank (routine_handlers r)) ++ member_marks c rest

abbrev pub item_marks : ℕ → TopLevel → List (Option ℕ)
item_marks c (Class at x base base_at members) = opened (unwritten members) c ++ member_marks c members
item_marks c (Function x r) = blank (suc (routine_handlers r))
item_marks c (Main a) = blank (statement_handlers a)

abbrev pub marks_from : ℕ → Program → List (Option ℕ)
marks_from c [] = []
marks_from c (i ∷ rest) = item_marks c i ++ marks_from (c + classes_in i) rest

pub blank_length : (n : ℕ) → length (blank n) ≡ n
blank_length zero = refl
blank_length (suc n) = ap suc (blank_length n)

pub opened_length : (c : ℕ) (members : List ClassMember) → length (opened (unwritten members) c) ≡ unwritten members
opened_length c [] = refl
opened_length c (Field a ∷ rest) = opened_length c rest
opened_length c (Method x r ∷ rest) = opened_length c rest
opened_length c (Constructor r ∷ rest) = refl

members_length : (c : ℕ) (members : List ClassMember) → length (member_marks c members) ≡ members_routines members
members_length c [] = refl
members_length c (Field a ∷ rest) = length-append (blank (declared_handlers a)) (member_marks c rest) ∙ ap (λ (i : ℕ). i + length (member_marks c rest)) (blank_length (declared_handlers a)) ∙ ap (λ (i : ℕ). declared_handlers a + i) (members_length c rest)
members_length c (Method x r ∷ rest) =
    length-append (blank (suc (routine_handlers r))) (member_marks c rest) ∙ ap (λ (i : ℕ). i + length (member_marks c rest)) (blank_length (suc (routine_handlers r))) ∙ ap (λ (i : ℕ). suc (routine_handlers r) + i) (members_length c rest)
members_length c (Constructor r ∷ rest) =
    length-append (Some c ∷ blank (routine_handlers r)) (member_marks c rest) ∙ ap (λ (i : ℕ). suc i + length (member_marks c rest)) (blank_length (routine_handlers r)) ∙ ap (λ (i : ℕ). suc (routine_handlers r) + i) (members_length c rest)

pub item_length : (c : ℕ) (i : TopLevel) → length (item_marks c i) ≡ item_routines i
item_length c (Class at x base base_at members) =
    length-append (opened (unwritten members) c) (member_marks c members) ∙ ap (λ (i : ℕ). i + length (member_marks c members)) (opened_length c members) ∙ ap (λ (i : ℕ). unwritten members + i) (members_length c members)
item_length c (Function x r) = blank_length (suc (routine_handlers r))
item_length c (Main a) = blank_length (statement_handlers a)

module _ (marks : List (Option ℕ)) where
  -- a written constructor is marked
  written_marked : (names : Naming) (c start n : ℕ) (members : List ClassMember) (tail : List (Option ℕ)) → Suffix marks n (member_marks c members ++ tail) → (takes : List StaticType) → maker_takes names members ≡ Some takes
      → slice_get marks (maker_from start n members) ≡ Some (Some c)
  written_marked names c start n [] tail s takes q = cc
  written_marked names c start n (Field a ∷ rest) tail s takes q =
      let assoc = append_assoc (blank (declared_handlers a)) (member_marks c rest) tail in
      let s1 = suffix_step marks n (blank (declared_handlers a)) (member_marks c rest ++ tail) (subst (λ (xs : List (Option ℕ)). Suffix marks n xs) assoc s) in
      written_marked names c start (n + declared_handlers a) rest tail (suffix_at marks (n + length (blank (declared_handlers a))) (n + declared_handlers a) (member_marks c rest ++ tail) (ap (λ (i : ℕ). n + i) (blank_length (declared_handlers a))) s1) takes q
  written_marked names c start n (Method x r ∷ rest) tail s takes q =
      let b : ℕ = suc (routine_handlers r) in
      let assoc = append_assoc (blank b) (member_marks c rest) tail in
      let s1 = suffix_step marks n (blank b) (member_marks c rest ++ tail) (subst (λ (xs : List (Option ℕ)). Suffix marks n xs) assoc s) in
      let at : n + length (blank b) ≡ suc n + routine_handlers r = ap (λ (i : ℕ). n + i) (blank_length b) ∙ (let z : n + suc (routine_handlers r) ≡ suc n + routine_handlers r = omega arith in z) in
      written_marked names c start (suc n + routine_handlers r) rest tail (suffix_at marks (n + length (blank b)) (suc n + routine_handlers r) (member_marks c rest ++ tail) at s1) takes q
  written_marked names c start n (Constructor r ∷ rest) tail s takes q = suffix_head marks n (Some c) ((blank (routine_handlers r) ++ member_marks c rest) ++ tail) s

  -- each class's constructor has the mark of its class
  abbrev pub AllMarked : ℕ → List ℕ → Type 0
  AllMarked c [] = Unit {0}
  AllMarked c (j ∷ js) = (slice_get marks j ≡ Some (Some c)) × AllMarked (suc c) js

  class_marked : (names : Naming) (c n : ℕ) (members : List ClassMember) (tail : List (Option ℕ)) → Suffix marks n ((opened (unwritten members) c ++ member_marks c members) ++ tail) → slice_get marks (maker_from n n members) ≡ Some (Some c)
  class_marked names c n members tail s = elim (is_written names members) [
    | inl (zero_so, takes, q) ↦ written_marked names c n n members tail (subst (λ (j : ℕ). Suffix marks n ((opened j c ++ member_marks c members) ++ tail)) zero_so s) takes q
    | inr (one_so, q, same) ↦ (let s1 : Suffix marks n (Some c ∷ (member_marks c members ++ tail)) = subst (λ (j : ℕ). Suffix marks n ((opened j c ++ member_marks c members) ++ tail)) one_so s in
        ap (λ (j : ℕ). slice_get marks j) (same n n) ∙ suffix_head marks n (Some c) (member_marks c members ++ tail) s1)
  ]

  item_step : (c n : ℕ) (i : TopLevel) (rest : List (Option ℕ)) → Suffix marks n (item_marks c i ++ rest) → Suffix marks (n + item_routines i) rest
  item_step c n i rest s = suffix_at marks (n + length (item_marks c i)) (n + item_routines i) rest (ap (λ (j : ℕ). n + j) (item_length c i)) (suffix_step marks n (item_marks c i) rest s)

  pub all_marked : (names : Naming) (c n : ℕ) (text : Program) → Suffix marks n (marks_from c text) → AllMarked c (makers_from n text)
  all_marked names c n [] s = tt
  all_marked names c n (Class at x base base_at members ∷ rest) s =
      let i : TopLevel = Class at x base base_at members in
      let tail = marks_from (c + classes_in i) rest in
      let step : c + 1 ≡ suc c = omega arith in
      (class_marked names c n members tail s, subst (λ (j : ℕ). AllMarked j (makers_from (n + item_routines i) rest)) step (all_marked names (c + 1) (n + item_routines i) rest (item_step c n i tail s)))
  all_marked names c n (Function x r ∷ rest) s =
      let i : TopLevel = Function x r in
      let step : c + 0 ≡ c = omega arith in
      subst (λ (j : ℕ). AllMarked j (makers_from (n + item_routines i) rest)) step (all_marked names (c + 0) (n + item_routines i) rest (item_step c n i (marks_from (c + 0) rest) s))
  all_marked names c n (Main a ∷ rest) s =
      let i : TopLevel = Main a in
      let step : c + 0 ≡ c = omega arith in
      subst (λ (j : ℕ). AllMarked j (makers_from (n + item_routines i) rest)) step (all_marked names (c + 0) (n + item_routines i) rest (item_step c n i (marks_from (c + 0) rest) s))

  pub marked_get : (c i : ℕ) (js : List ℕ) → AllMarked c js → i < length js → slice_get marks (get_or js i 0) ≡ Some (Some (c + i))
  marked_get c i [] h near = absurd (omega arith)
  marked_get c zero (j ∷ js) h near = let z : c ≡ c + zero = omega arith in subst (λ (x : ℕ). slice_get marks j ≡ Some (Some x)) z h.0
  marked_get c (suc i) (j ∷ js) h near =
      let near' : i < length js = omega arith in
      let z : suc c + i ≡ c + suc i = omega arith in subst (λ (x : ℕ). slice_get marks (get_or js i 0) ≡ Some (Some x)) z (marked_get (suc c) i js h.1 near')

-- as many constructors as classes
pub makers_heads : (names : Naming) (n : ℕ) (text : Program) → length (makers_from n text) ≡ length (heads_of names text)
makers_heads names n [] = refl
makers_heads names n (Class at x base base_at members ∷ rest) = ap suc (makers_heads names (n + item_routines (Class at x base base_at members)) rest)
makers_heads names n (Function x r ∷ rest) = makers_heads names (n + item_routines (Function x r)) rest
makers_heads names n (Main a ∷ rest) = makers_heads names (n + item_routines (Main a)) rest

module _ (tables : Tables) (names : Naming) (k : Known) (numbers : Numbering) (P : TypedProgram) where
  abbrev pub FitsMaker : ℕ → ℕ → Type 0
  FitsMaker c j = HasBody tables names k numbers P (t.Object c ∷ value_types (maker_takes_of k.classes c)) (t.Object c) j

  abbrev pub AllMake : ℕ → List ℕ → Type 0
  AllMake c [] = Unit {0}
  AllMake c (j ∷ js) = FitsMaker c j × AllMake (suc c) js

  pub make_get : (c i : ℕ) (js : List ℕ) → AllMake c js → i < length js → FitsMaker (c + i) (get_or js i 0)
  make_get c i [] h near = absurd (omega arith)
  make_get c zero (j ∷ js) h near = let z : c ≡ c + zero = omega arith in subst (λ (x : ℕ). FitsMaker x j) z h.0
  make_get c (suc i) (j ∷ js) h near = let near' : i < length js = omega arith in let z : suc c + i ≡ c + suc i = omega arith in subst (λ (x : ℕ). FitsMaker x (get_or js i 0)) z (make_get (suc c) i js h.1 near')

  -- a written constructor's function
  written_body : (c start n d : ℕ) (inits : List TypedStatement) (members : List ClassMember) (takes : List StaticType) → members_nodes tables names k c d members ≡ None → Placed P n (members_made tables names k numbers c inits n d members)
      → maker_takes names members ≡ Some takes → HasBody tables names k numbers P (t.Object c ∷ value_types takes) (t.Object c) (maker_from start n members)
  written_body c start n d inits [] takes h placed q = cc
  written_body c start n d inits (Field a ∷ rest) takes h placed q =
      let A = outside_failure tables names k (this.Object c) a in
      let B = members_nodes tables names k c (suc d) rest in
      written_body c start (n + declared_handlers a) (suc d) inits rest takes (last A B h)
      (placed_at tables names k numbers P n (declared_handlers a) (initial_made tables names k numbers c n a).routines (members_made tables names k numbers c inits (n + declared_handlers a) (suc d) rest) (field_counts tables names k numbers c n a (first A B h)) placed) q
  written_body c start n d inits (Method x r ∷ rest) takes h placed q =
      let A = body_failure tables names k (this.Object c) (kind_at k d) r in
      let B = members_nodes tables names k c (suc d) rest in
      written_body c start (suc n + routine_handlers r) (suc d) inits rest takes (last A B h)
      (placed_more tables names k numbers P n (routine_handlers r) (method_made tables names k numbers c n (kind_at k d) r) (members_made tables names k numbers c inits (suc n + routine_handlers r) (suc d) rest) (method_counts tables names k numbers c n (kind_at k d) r (first A B h)) placed) q
  written_body c start n d inits (Constructor (Does i params gives all arrow) ∷ rest) takes h placed q =
      let r : Routine = Does i params gives all arrow in
      let made = constructor_made tables names k numbers c n inits r in
      let later = members_made tables names k numbers c inits (suc n + routine_handlers r) d rest in
      let own = placed_left P n made later placed in
      let same : routine_takes names r ≡ takes = cc in
      (_, own.0, ap (λ (us : List StaticType). t.Object c ∷ value_types us) same, refl)

  class_makes : (c n d : ℕ) (at x : ℕ) (base : Option ℕ) (base_at : ℕ) (members : List ClassMember) → slice_get k.classes c ≡ Some (class_head names at base base_at members) → members_nodes tables names k c d members ≡ None
      → Placed P n (class_made tables names k numbers c n d members) → FitsMaker c (maker_from n n members)
  class_makes c n d at x base base_at members head h placed = elim (is_written names members) [
    | inl (zero_so, takes, q) ↦ (let inits = initials tables names k numbers c (n + unwritten members) d members in
        let here : n + unwritten members ≡ n = ap (λ (j : ℕ). n + j) zero_so ∙ (let z : n + 0 ≡ n = omega arith in z) in
        let body = written_body c n (n + unwritten members) d inits members takes h (members_placed tables names k numbers P c n d members placed) q in
        let at_n : HasBody tables names k numbers P (t.Object c ∷ value_types takes) (t.Object c) (maker_from n n members) = subst (λ (j : ℕ). HasBody tables names k numbers P (t.Object c ∷ value_types takes) (t.Object c) (maker_from n j members)) here body in
        let same : maker_takes_of k.classes c ≡ takes = takes_of_head k.classes c (class_head names at base base_at members) takes head q in
        subst (λ (us : List StaticType). HasBody tables names k numbers P (t.Object c ∷ value_types us) (t.Object c) (maker_from n n members)) (sym same) at_n)
    | inr (one_so, q, same) ↦ (let inits = initials tables names k numbers c (n + unwritten members) d members in
        let made = unwritten_made k numbers (unwritten members) c inits in
        let own = placed_left P n made (members_made tables names k numbers c inits (n + unwritten members) d members) placed in
        let one : Placed P n (unwritten_made k numbers 1 c inits) = subst (λ (j : ℕ). Placed P n (unwritten_made k numbers j c inits)) one_so own in
        subst (λ (j : ℕ). FitsMaker c j) (sym (same n n)) (_, one.0, refl, refl))
  ]

  pub text_makes : (c d m n : ℕ) (text : Program) → Suffix k.classes c (heads_of names text) → nodes_failure tables names k c d text ≡ None → Placed P n (items_made tables names k numbers c d m n text).routines → AllMake c (makers_from n text)
  text_makes c d m n [] s h placed = tt
  text_makes c d m n (Class at x base base_at members ∷ rest) s h placed =
      let i : TopLevel = Class at x base base_at members in
      let A = item_nodes tables names k c d i in
      let es = item_entries names c i in
      let B = nodes_failure tables names k (c + classes_in i) (d + length es) rest in
      let here = class_made tables names k numbers c n (suc d) members in
      let step : c + 1 ≡ suc c = omega arith in
      let later : ℕ → List TypedRoutine = λ c'. (items_made tables names k numbers c' (d + length es) m (n + item_routines i) rest).routines in
      let G : ℕ → Type 0 = λ c'. Placed P (n + item_routines i) (later c') in
      let placed' : G (c + 1) = subst G (sym step) (placed_at tables names k numbers P n (item_routines i) here (later (suc c)) (class_counts tables names k numbers c n (suc d) members (first A B h)) placed) in
      let s' : Suffix k.classes (c + 1) (heads_of names rest) = suffix_step k.classes c (class_head names at base base_at members ∷ []) (heads_of names rest) s in (
        class_makes c n (suc d) at x base base_at members (suffix_head k.classes c (class_head names at base base_at members) (heads_of names rest) s) (first A B h) (placed_left P n here (later (suc c)) placed),
        subst (λ (j : ℕ). AllMake j (makers_from (n + item_routines i) rest)) step (text_makes (c + 1) (d + length es) m (n + item_routines i) rest s' (last A B h) placed'),
      )
  text_makes c d m n (Function x (Does j params gives all arrow) ∷ rest) s h placed =
      let r : Routine = Does j params gives all arrow in
      let i : TopLevel = Function x r in
      let A = item_nodes tables names k c d i in
      let B = nodes_failure tables names k (c + classes_in i) (d + length (item_entries names c i)) rest in
      let here = function_made tables names k numbers false n (kind_at k d) r in
      let c_step : c ≡ c + 0 = omega arith in
      let d_step : suc d ≡ d + 1 = omega arith in
      let later : ℕ → ℕ → List TypedRoutine = λ c' d'. (items_made tables names k numbers c' d' m (n + item_routines i) rest).routines in
      let at_first : Placed P (n + item_routines i) (later c (suc d)) =
      placed_at tables names k numbers P n (item_routines i) here (later c (suc d)) (function_counts tables names k numbers false n (kind_at k d) j params gives all arrow (first A B h)) placed in
      let placed' : Placed P (n + item_routines i) (later (c + 0) (d + 1)) =
      subst (λ (x : ℕ). Placed P (n + item_routines i) (later (c + 0) x)) d_step (subst (λ (x : ℕ). Placed P (n + item_routines i) (later x (suc d))) c_step at_first) in
      let s' = suffix_at k.classes c (c + 0) (heads_of names rest) c_step s in
      subst (λ (j : ℕ). AllMake j (makers_from (n + item_routines i) rest)) (sym c_step) (text_makes (c + 0) (d + 1) m (n + item_routines i) rest s' (last A B h) placed')
  text_makes c d m n (Main a ∷ rest) s h placed =
      let i : TopLevel = Main a in
      let A = item_nodes tables names k c d i in
      let es = item_entries names c i in
      let B = nodes_failure tables names k (c + classes_in i) (d + length es) rest in
      let here = main_made tables names k numbers d a m n in
      let c_step : c ≡ c + 0 = omega arith in
      let later : ℕ → List TypedRoutine = λ c'. (items_made tables names k numbers c' (d + length es) (m + length here.locals) (n + item_routines i) rest).routines in
      let at_first : Placed P (n + item_routines i) (later c) = placed_at tables names k numbers P n (item_routines i) here.routines (later c) (main_counts tables names k numbers d a (first A B h) m n) placed in
      let placed' : Placed P (n + item_routines i) (later (c + 0)) = subst (λ (x : ℕ). Placed P (n + item_routines i) (later x)) c_step at_first in
      let s' = suffix_at k.classes c (c + 0) (heads_of names rest) c_step s in
      subst (λ (j : ℕ). AllMake j (makers_from (n + item_routines i) rest)) (sym c_step) (text_makes (c + 0) (d + length es) (m + length here.locals) (n + item_routines i) rest s' (last A B h) placed')
