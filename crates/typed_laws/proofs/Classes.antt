-- Classes, globals and functions of a typed program stand as its declarations say.
use Rattle.std.proofs.Common.{◌≡◌, ℕ, zero, suc, ◌+◌, ◌<◌, refl, sym, ap, ◌∙◌, subst, Bool, true, false, Option, Some, None, List, [], ◌∷◌, length, take, get_or, arith, inl, inr}
use Rattle.std.specs.Prelude.{slice_get, unwrap_or, not, filter}
use Rattle.sts_base.specs.declared.tables.Tables.{Tables}
use Rattle.sts_syntax.specs.Types as t
use Rattle.sts_syntax.specs.Types.{ValueType}
use Rattle.sts_syntax.specs.BoardTable as board
use Rattle.sts_syntax.specs.BoardTable.{row_of}
use Rattle.sts_syntax.specs.declared.board_calls.BoardCall.{BoardCall}
use Rattle.sts_syntax.specs.TypedTrees.{TypedRoutine, ClassEntry, TypedProgram}
use Rattle.sts_syntax.specs.TypeRules.{entry, HasClass, HasRoutine, Climbs, IsBelow, HasField, IsMember, HasMethod}
use Rattle.sts_syntax.specs.WellTypedPrograms.{IsClass}
use Rattle.sts_scope.specs.declared.kinds.StaticType.{StaticType}
use Rattle.sts_scope.specs.declared.entries.Owner.{Owner}
use Rattle.sts_scope.specs.declared.entries.Owner.TheVariants as o
use Rattle.sts_scope.specs.declared.entries.DeclarationKind.{DeclarationKind}
use Rattle.sts_scope.specs.declared.entries.DeclarationKind.TheVariants as sort
use Rattle.sts_scope.specs.declared.entries.Entry.{Entry}
use Rattle.sts_scope.specs.declared.entries.ClassHead.{ClassHead}
use Rattle.sts_scope.specs.declared.known.Known.{Known}
use Rattle.sts_scope.specs.declared.known.Part.TheVariants as part
use Rattle.sts_scope.specs.Kinds.{nothing, same, value_type, value_types}
use Rattle.sts_scope.specs.Bases.{above}
use Rattle.sts_scope.specs.Entries.{Naming}
use Rattle.sts_scope.specs.Lookup.{entry_number, base_of, member_number, member_from, inherited, sort_of, is_field}
use Rattle.sts_scope.specs.Scopes.{is_global, names_of}
use Rattle.sts_scope.specs.Rules.{kind_at, takes_at, maker_takes_of, class_part, object_part, member_part}
use Rattle.type_derive.specs.Typing.{method_of}
use Rattle.type_derive.specs.Passes.{same_kinds, same_result, agrees}
use Rattle.sts_scope.specs.Numbers.{Numbering, is_method, is_listed, own_names, names_from, field_names, slot_names, place_among, global_number, routine_number, maker_number}
use Rattle.type_derive.specs.inner.Filled.{class_result}
use Rattle.typed_laws.specs.inner.FilledPrograms.{member_kind, member_routine, class_entry, class_entries, global_types}
use Rattle.typed_laws.proofs.Stands.{IsProper, EachProper, Stands}
use Rattle.typed_laws.specs.Libraries.{taken}
use Rattle.typed_laws.proofs.OneNode.{both_true, same_types}
use Rattle.typed_laws.proofs.Names.{some_is}
use Rattle.typed_laws.proofs.Searching.{some_or_none, entry_get, get_within, get_left, get_map, map_get, at_place, get_listed}
use Rattle.typed_laws.proofs.Members.{AreSane, AreChained, number_own, class_within, number_step, own_member, class_there, names_step, member_listed, listed_member, fields_keep, methods_keep, member_sort, own_field_alone, own_method_hides, method_is, field_is, reached}
use Rattle.typed_laws.proofs.Chains.{comes_back}
use Rattle.typed_laws.proofs.Placing.{HasBody, result_at, Aligned, aligned_get, Fits, FitsAs}
use Rattle.typed_laws.proofs.Makers.{AllMake, make_get}

module _ (tables : Tables) (k : Known) where
  -- a declaration of a sort
  pub sort_entry : (d : ℕ) (s : DeclarationKind) → sort_of k.entries d ≡ Some s → (a : Entry) × (slice_get k.entries d ≡ Some a) × (a.sort ≡ s)
  sort_entry d s h =
      let F : Option Entry → Option DeclarationKind = λ x. elim x [ None ↦ None | Some e ↦ Some e.sort ] in
      some_or_none ((a : Entry) × (slice_get k.entries d ≡ Some a) × (a.sort ≡ s)) (slice_get k.entries d)
      (λ a q. (a, q, some_is a.sort s (sym (ap F q) ∙ h))) (λ q. let z : None ≡ Some s = sym (ap F q) ∙ h in cc)

  pub method_of_is : (m : Option ℕ) (d : ℕ) → method_of k m ≡ Some d → (m ≡ Some d) × (sort_of k.entries d ≡ Some sort.Method)
  method_of_is None d h = cc
  method_of_is (Some d') d h =
      let F : Option DeclarationKind → Option ℕ = λ x. elim x [ None ↦ None | Some s ↦ elim s [ sort.Method ↦ Some d' | _ ↦ None ] ] in
      let go : (x : Option DeclarationKind) → sort_of k.entries d' ≡ x → F x ≡ Some d → (Some d' ≡ Some d) × (sort_of k.entries d ≡ Some sort.Method) =
      λ x. elim x as (λ y. sort_of k.entries d' ≡ y → F y ≡ Some d → (Some d' ≡ Some d) × (sort_of k.entries d ≡ Some sort.Method)) [
        | None ↦ (λ q r. cc)
        | Some s ↦ elim s as (λ y. sort_of k.entries d' ≡ Some y → F (Some y) ≡ Some d → (Some d' ≡ Some d) × (sort_of k.entries d ≡ Some sort.Method)) [
          | sort.Method ↦ (λ q r. (r, ap (λ (i : ℕ). sort_of k.entries i) (sym (some_is d' d r)) ∙ q))
          | sort.Field ↦ (λ q r. cc)
          | sort.Function ↦ (λ q r. cc)
          | sort.Global fixed ↦ (λ q r. cc)
          | sort.Class i ↦ (λ q r. cc)
        ]
      ] in
      go (sort_of k.entries d') refl h

module _ (tables : Tables) (names : Naming) (k : Known) (numbers : Numbering) (P : TypedProgram) where
  -- what is known of the declarations, and how the program was made of them
  pub record Made : Type 0 where
    pub sane : AreSane k
    pub chained : AreChained k
    pub classes_are : P.classes ≡ class_entries tables names k numbers 0 k.classes
    pub globals_are : P.globals ≡ global_types tables names k numbers 0 k.entries
    pub aligned : Aligned tables names k numbers P 0 k.entries numbers.routines
    pub makes : AllMake tables names k numbers P 0 numbers.makers
    pub makers_many : length numbers.makers ≡ length k.classes
    pub agreeing : (d c x : ℕ) (a : Entry) → slice_get k.entries d ≡ Some a → a.sort ≡ sort.Method → a.owner ≡ o.Class c → a.name ≡ x → agrees k d (inherited k.entries k.classes c x) ≡ true
    pub results : (d : ℕ) (a : Entry) → slice_get k.entries d ≡ Some a → a.sort ≡ sort.Method → (u : StaticType) × (kind_at k d ≡ Some u)
    pub rows : (call : BoardCall) (f : ℕ) → (row_of call).action ≡ board.Library f → (r : TypedRoutine) × HasRoutine P f r × (r.params ≡ taken (row_of call).takes) × (r.gives ≡ (row_of call).gives)
    pub kinds_proper : (d : ℕ) (u : StaticType) → kind_at k d ≡ Some u → IsProper u
    pub takes_proper : (d : ℕ) → EachProper (takes_at k.entries d)
    pub makers_proper : (c : ℕ) → EachProper (maker_takes_of k.classes c)

  module _ (made : Made) where
    abbrev L : ℕ
    L = length k.classes

    abbrev class : ℕ → ClassEntry
    class c = class_entry tables names k numbers c

    entries_at : (j : ℕ) (heads : List ClassHead) (c : ℕ) → c < length heads → entry (class_entries tables names k numbers j heads) c ≡ Some (class (j + c))
    entries_at j [] c h = absurd (omega arith)
    entries_at j (head ∷ rest) zero h = let z : j ≡ j + zero = omega arith in ap (λ (i : ℕ). Some (class i)) z
    entries_at j (head ∷ rest) (suc c) h =
        let near : c < length rest = omega arith in let z : suc j + c ≡ j + suc c = omega arith in
        entries_at (suc j) rest c near ∙ ap (λ (i : ℕ). Some (class i)) z

    entries_within : (j : ℕ) (heads : List ClassHead) (c : ℕ) (cl : ClassEntry) → entry (class_entries tables names k numbers j heads) c ≡ Some cl → c < length heads
    entries_within j [] c cl h = cc
    entries_within j (head ∷ rest) zero cl h = omega arith
    entries_within j (head ∷ rest) (suc c) cl h = omega (arith, entries_within (suc j) rest c cl h)

    pub class_at : (c : ℕ) → c < L → HasClass P c (class c)
    class_at c h = ap (λ (cs : List ClassEntry). entry cs c) made.classes_are ∙ entries_at 0 k.classes c h ∙ ap (λ (i : ℕ). Some (class i)) (let z : 0 + c ≡ c = omega arith in z)

    pub class_is : (c : ℕ) (cl : ClassEntry) → HasClass P c cl → (c < L) × (cl ≡ class c)
    class_is c cl h =
        let near : c < L = entries_within 0 k.classes c cl (ap (λ (cs : List ClassEntry). entry cs c) (sym made.classes_are) ∙ h) in
        (near, some_is cl (class c) (sym h ∙ class_at c near))

    base_within : (c b : ℕ) → base_of k.classes c ≡ Some b → c < L
    base_within c b h =
        let F : Option ClassHead → Option ℕ = λ x. elim x [ None ↦ None | Some cl ↦ cl.base ] in
        some_or_none (c < L) (slice_get k.classes c) (λ head q. get_within k.classes c head q) (λ q. let z : None ≡ Some b = sym (ap F q) ∙ h in cc)

    pub below_here : (c : ℕ) → IsBelow P c c
    below_here c = (0, refl)

    pub below_up : (c b i : ℕ) → base_of k.classes c ≡ Some b → IsBelow P b i → IsBelow P c i
    below_up c b i h (n, rest) = (suc n, (class c, b, class_at c (base_within c b h), h, rest))

    -- what has a member is a class
    member_within : (c x d : ℕ) → member_number k.entries k.classes c x ≡ Some d → c < L
    member_within c x d h =
        let go : (n : ℕ) → member_from k.entries k.classes n c x ≡ Some d → c < L =
        λ n. elim n as (λ m. member_from k.entries k.classes m c x ≡ Some d → c < L) [
          | zero ↦ (λ q. cc)
          | suc m ↦ (λ q. some_or_none (c < L) (entry_number k.entries (o.Class c) x)
              (λ d' r. let (a, is, owner, name) = number_own k made.sane made.chained c x d' r in class_within k made.sane made.chained d' c a is owner)
              (λ r. some_or_none (c < L) (base_of k.classes c) (λ b qb. base_within c b qb)
              (λ qn. let H : Option ℕ → Option ℕ → Option ℕ = λ y z. elim y [ Some i ↦ Some i | None ↦ elim z [ None ↦ None | Some b ↦ member_from k.entries k.classes m b x ] ] in
              let z : None ≡ Some d = sym (ap (λ (y : Option ℕ). H y (base_of k.classes c)) r ∙ ap (λ (y : Option ℕ). H None y) qn) ∙ q in cc)))
        ] in
        go L h

    takes_are : (d : ℕ) (a : Entry) → slice_get k.entries d ≡ Some a → takes_at k.entries d ≡ a.takes
    takes_are d a h = let F : Option Entry → List StaticType = λ x. elim x [ None ↦ [] | Some e ↦ e.takes ] in ap F h

    pub result_is : (d : ℕ) (u : StaticType) → kind_at k d ≡ Some u → result_at tables names k numbers P d ≡ value_type u
    result_is d u h = ap (λ (x : Option StaticType). value_type (unwrap_or x nothing)) h

    -- members by their names
    kind_of_member : (c x d : ℕ) → member_number k.entries k.classes c x ≡ Some d → member_kind tables names k numbers c x ≡ result_at tables names k numbers P d
    kind_of_member c x d h = let F : Option ℕ → ValueType = λ y. elim y [ None ↦ t.Nothing | Some i ↦ class_result tables names k numbers (kind_at k i) ] in ap F h

    routine_of_member : (c x d : ℕ) → member_number k.entries k.classes c x ≡ Some d → member_routine tables names k numbers c x ≡ routine_number numbers d
    routine_of_member c x d h = let F : Option ℕ → ℕ = λ y. elim y [ None ↦ 0 | Some i ↦ routine_number numbers i ] in ap F h

    pub field_at : (c x d : ℕ) (a : Entry) → member_number k.entries k.classes c x ≡ Some d → slice_get k.entries d ≡ Some a → a.sort ≡ sort.Field → HasField P c (place_among (field_names k c) x) (result_at tables names k numbers P d)
    field_at c x d a h q s =
        let near = member_within c x d h in
        let listed : is_listed (field_names k c) x ≡ true = member_listed k made.sane made.chained is_field c x d a near h q (ap (λ (y : DeclarationKind). is_field (Some y)) s) in
        (class c, class_at c near, at_place (member_kind tables names k numbers c) (field_names k c) x listed ∙ ap (λ (u : ValueType). Some u) (kind_of_member c x d h))

    pub method_body : (d i : ℕ) (a : Entry) → slice_get k.entries d ≡ Some a → a.sort ≡ sort.Method → a.owner ≡ o.Class i
        → HasBody tables names k numbers P (t.Object i ∷ value_types a.takes) (result_at tables names k numbers P d) (routine_number numbers d)
    method_body d i a h s w =
        let fits : Fits tables names k numbers P (0 + d) a (get_or numbers.routines d 0) = aligned_get tables names k numbers P 0 k.entries numbers.routines d a made.aligned h in
        let z : 0 + d ≡ d = omega arith in
        let at_d : FitsAs tables names k numbers P a.sort a.owner a.takes d (routine_number numbers d) = subst (λ (y : ℕ). FitsAs tables names k numbers P a.sort a.owner a.takes y (routine_number numbers d)) z fits in
        subst (λ (y : Owner). FitsAs tables names k numbers P sort.Method y a.takes d (routine_number numbers d)) w (subst (λ (y : DeclarationKind). FitsAs tables names k numbers P y a.owner a.takes d (routine_number numbers d)) s at_d)

    pub method_member : (c x d : ℕ) (a : Entry) → member_number k.entries k.classes c x ≡ Some d → slice_get k.entries d ≡ Some a → a.sort ≡ sort.Method
        → IsMember P c (routine_number numbers d) (value_types a.takes) (result_at tables names k numbers P d)
    method_member c x d a h q s =
        let (i, w, below) = reached k made.sane made.chained (λ (c i : ℕ). IsBelow P c i) below_here (λ c b i. below_up c b i) c x d a (member_within c x d h) h q in
        let (r, has, params, gives) = method_body d i a q s w in
        (r, i, has, params, below, gives)

    pub method_at : (c x d : ℕ) (a : Entry) → member_number k.entries k.classes c x ≡ Some d → slice_get k.entries d ≡ Some a → a.sort ≡ sort.Method
        → HasMethod P c (place_among (slot_names k c) x) (value_types a.takes) (result_at tables names k numbers P d)
    method_at c x d a h q s =
        let near = member_within c x d h in
        let listed : is_listed (slot_names k c) x ≡ true = member_listed k made.sane made.chained is_method c x d a near h q (ap (λ (y : DeclarationKind). is_method (Some y)) s) in
        (class c, routine_number numbers d, class_at c near, at_place (member_routine tables names k numbers c) (slot_names k c) x listed ∙ ap (λ (j : ℕ). Some j) (routine_of_member c x d h), method_member c x d a h q s)

    -- what stands behind a dot
    part_field : (d' d : ℕ) (s : Option DeclarationKind) → member_part d' s ≡ part.Field d → (d' ≡ d) × (s ≡ Some sort.Field)
    part_field d' d (Some sort.Field) h = ((let z : part.Field d' ≡ part.Field d = h in cc), refl)
    part_field d' d (Some sort.Method) h = cc
    part_field d' d (Some sort.Function) h = cc
    part_field d' d (Some (sort.Global fixed)) h = cc
    part_field d' d (Some (sort.Class i)) h = cc
    part_field d' d None h = cc

    part_method : (d' d : ℕ) (s : Option DeclarationKind) → member_part d' s ≡ part.Method d → (d' ≡ d) × (s ≡ Some sort.Method)
    part_method d' d (Some sort.Method) h = ((let z : part.Method d' ≡ part.Method d = h in cc), refl)
    part_method d' d (Some sort.Field) h = cc
    part_method d' d (Some sort.Function) h = cc
    part_method d' d (Some (sort.Global fixed)) h = cc
    part_method d' d (Some (sort.Class i)) h = cc
    part_method d' d None h = cc

    field_number : (m : Option ℕ) (d : ℕ) → object_part k m ≡ part.Field d → (m ≡ Some d) × (sort_of k.entries d ≡ Some sort.Field)
    field_number None d h = cc
    field_number (Some d') d h = let (p, q) = part_field d' d (sort_of k.entries d') h in (ap (λ (i : ℕ). Some i) p, ap (λ (i : ℕ). sort_of k.entries i) (sym p) ∙ q)

    method_number : (m : Option ℕ) (d : ℕ) → object_part k m ≡ part.Method d → (m ≡ Some d) × (sort_of k.entries d ≡ Some sort.Method)
    method_number None d h = cc
    method_number (Some d') d h = let (p, q) = part_method d' d (sort_of k.entries d') h in (ap (λ (i : ℕ). Some i) p, ap (λ (i : ℕ). sort_of k.entries i) (sym p) ∙ q)

    inherited_base : (c x d : ℕ) → inherited k.entries k.classes c x ≡ Some d → (b : ℕ) × (base_of k.classes c ≡ Some b) × (member_number k.entries k.classes b x ≡ Some d)
    inherited_base c x d h =
        let F : Option ℕ → Option ℕ = λ y. elim y [ None ↦ None | Some b ↦ member_number k.entries k.classes b x ] in
        some_or_none ((b : ℕ) × (base_of k.classes c ≡ Some b) × (member_number k.entries k.classes b x ≡ Some d)) (base_of k.classes c)
        (λ b q. (b, q, sym (ap F q) ∙ h)) (λ q. let z : None ≡ Some d = sym (ap F q) ∙ h in cc)

    -- globals
    global_at : (j : ℕ) (es : List Entry) (i : ℕ) (a : Entry) (fixed : Bool) → slice_get es i ≡ Some a → a.sort ≡ sort.Global fixed
        → entry (global_types tables names k numbers j es) (length (names_of is_global (take i es))) ≡ Some (result_at tables names k numbers P (j + i))
    global_at j [] i a fixed h q = cc
    global_at j (e ∷ rest) zero a fixed h q =
        let same_e : e ≡ a = cc in
        let g : is_global e.sort ≡ true = ap (λ (y : Entry). is_global y.sort) same_e ∙ ap is_global q in
        let F : Bool → List ValueType = λ b. elim b [ true ↦ class_result tables names k numbers (kind_at k j) ∷ global_types tables names k numbers (suc j) rest | false ↦ global_types tables names k numbers (suc j) rest ] in
        let z : j ≡ j + zero = omega arith in
        ap (λ (b : Bool). entry (F b) 0) g ∙ ap (λ (i : ℕ). Some (result_at tables names k numbers P i)) z
    global_at j (e ∷ rest) (suc i) a fixed h q =
        let later = global_at (suc j) rest i a fixed h q in
        let z : suc j + i ≡ j + suc i = omega arith in
        let F : Bool → List ValueType = λ b. elim b [ true ↦ class_result tables names k numbers (kind_at k j) ∷ global_types tables names k numbers (suc j) rest | false ↦ global_types tables names k numbers (suc j) rest ] in
        let G : Bool → List ℕ = λ b. elim b [ true ↦ e.name ∷ names_of is_global (take i rest) | false ↦ names_of is_global (take i rest) ] in
        let go : (b : Bool) → entry (F b) (length (G b)) ≡ Some (result_at tables names k numbers P (suc j + i)) = λ b. elim b as (λ y. entry (F y) (length (G y)) ≡ Some (result_at tables names k numbers P (suc j + i))) [ true ↦ later | false ↦ later ] in
        go (is_global e.sort) ∙ ap (λ (x : ℕ). Some (result_at tables names k numbers P x)) z

    function_body : (d : ℕ) (a : Entry) → slice_get k.entries d ≡ Some a → a.sort ≡ sort.Function → HasBody tables names k numbers P (value_types a.takes) (result_at tables names k numbers P d) (routine_number numbers d)
    function_body d a h s =
        let fits : Fits tables names k numbers P (0 + d) a (get_or numbers.routines d 0) = aligned_get tables names k numbers P 0 k.entries numbers.routines d a made.aligned h in
        let z : 0 + d ≡ d = omega arith in
        let at_d : FitsAs tables names k numbers P a.sort a.owner a.takes d (routine_number numbers d) = subst (λ (y : ℕ). FitsAs tables names k numbers P a.sort a.owner a.takes y (routine_number numbers d)) z fits in
        subst (λ (y : DeclarationKind). FitsAs tables names k numbers P y a.owner a.takes d (routine_number numbers d)) s at_d

    pub maker_body : (c : ℕ) → c < L → HasBody tables names k numbers P (t.Object c ∷ value_types (maker_takes_of k.classes c)) (t.Object c) (maker_number numbers c)
    maker_body c near =
        let z : 0 + c ≡ c = omega arith in
        subst (λ (i : ℕ). HasBody tables names k numbers P (t.Object i ∷ value_types (maker_takes_of k.classes i)) (t.Object i) (maker_number numbers c)) z
        (make_get tables names k numbers P 0 c numbers.makers made.makes (let q : c < length numbers.makers = omega (arith, near, made.makers_many) in q))

    pub slot_is : (c x d : ℕ) (a : Entry) → member_number k.entries k.classes c x ≡ Some d → slice_get k.entries d ≡ Some a → a.sort ≡ sort.Method → entry (class c).slots (place_among (slot_names k c) x) ≡ Some (routine_number numbers d)
    slot_is c x d a h q s =
        let listed : is_listed (slot_names k c) x ≡ true = member_listed k made.sane made.chained is_method c x d a (member_within c x d h) h q (ap (λ (y : DeclarationKind). is_method (Some y)) s) in
        at_place (member_routine tables names k numbers c) (slot_names k c) x listed ∙ ap (λ (j : ℕ). Some j) (routine_of_member c x d h)

    -- a member's name stands among those of its class
    pub field_listed : (c m d : ℕ) → class_part k (Some c) m ≡ part.Field d → is_listed (field_names k c) m ≡ true
    field_listed c m d h =
        let (at_m, s) = field_number (member_number k.entries k.classes c m) d h in
        let (a, is, sa) = sort_entry tables k d sort.Field s in
        member_listed k made.sane made.chained is_field c m d a (member_within c m d at_m) at_m is (ap (λ (y : DeclarationKind). is_field (Some y)) sa)

    pub method_listed : (c m d : ℕ) → class_part k (Some c) m ≡ part.Method d → is_listed (slot_names k c) m ≡ true
    method_listed c m d h =
        let (at_m, s) = method_number (member_number k.entries k.classes c m) d h in
        let (a, is, sa) = sort_entry tables k d sort.Method s in
        member_listed k made.sane made.chained is_method c m d a (member_within c m d at_m) at_m is (ap (λ (y : DeclarationKind). is_method (Some y)) sa)

    pub stands : Stands tables k numbers P
    stands = record {
      bases = λ c b h. (class c, class_at c (base_within c b h), h);
      globals = λ d fixed u h q. let (a, is, s) = sort_entry tables k d (sort.Global fixed) h in
          ap (λ (us : List ValueType). entry us (global_number k d)) made.globals_are ∙ global_at 0 k.entries d a fixed is s ∙ ap (λ (i : ℕ). Some (result_at tables names k numbers P i)) (let z : 0 + d ≡ d = omega arith in z)
          ∙ ap (λ (y : ValueType). Some y) (result_is d u q);
      fields = λ c m d u h q. let (at_m, s) = field_number (member_number k.entries k.classes c m) d h in let (a, is, sa) = sort_entry tables k d sort.Field s in
          subst (λ (y : ValueType). HasField P c (place_among (field_names k c) m) y) (result_is d u q) (field_at c m d a at_m is sa);
      methods = λ c m d u h q. let (at_m, s) = method_number (member_number k.entries k.classes c m) d h in let (a, is, sa) = sort_entry tables k d sort.Method s in
          subst (λ (y : ValueType). HasMethod P c (place_among (slot_names k c) m) (value_types (takes_at k.entries d)) y) (result_is d u q)
          (subst (λ (us : List StaticType). HasMethod P c (place_among (slot_names k c) m) (value_types us) (result_at tables names k numbers P d)) (sym (takes_are d a is)) (method_at c m d a at_m is sa));
      functions = λ d u h q. let (a, is, s) = sort_entry tables k d sort.Function h in let (r, has, params, gives) = function_body d a is s in
          (r, has, params ∙ ap (λ (us : List StaticType). value_types us) (sym (takes_are d a is)), gives ∙ result_is d u q);
      makers = λ d c h. let (a, is, s) = sort_entry tables k d (sort.Class c) h in let near = class_there k made.sane made.chained d c a is s in let (r, has, params, gives) = maker_body c near in
          (class c, class_at c near, (r, c, has, params, below_here c, gives));
      supers = λ c m d u h q.
          let (at_m, s) = method_of_is tables k (inherited k.entries k.classes c m) d h in let (b, qb, at_b) = inherited_base c m d at_m in let (a, is, sa) = sort_entry tables k d sort.Method s in
          let (above', f, has, at_slot, member) = method_at b m d a at_b is sa in
          let (near_b, above_is) = class_is b above' has in
          let member_u : IsMember P b (routine_number numbers d) (value_types a.takes) (value_type u) = subst (λ (y : ValueType). IsMember P b (routine_number numbers d) (value_types a.takes) y) (result_is d u q) (method_member b m d a at_b is sa) in
          let f_is : f ≡ routine_number numbers d = some_is f (routine_number numbers d) (sym at_slot ∙ ap (λ (cl : ClassEntry). entry cl.slots (place_among (slot_names k b) m)) above_is ∙ slot_is b m d a at_b is sa) in (
            class c,
            b,
            place_among (slot_names k b) m,
            above',
            class_at c (base_within c b qb),
            qb,
            has,
            at_slot ∙ ap (λ (j : ℕ). Some j) f_is,
            subst (λ (us : List StaticType). IsMember P b (routine_number numbers d) (value_types us) (value_type u)) (sym (takes_are d a is)) member_u,
          );
      library = made.rows;
      kinds_proper = made.kinds_proper;
      takes_proper = made.takes_proper;
      makers_proper = made.makers_proper;
    }

    -- chains of bases
    climbs_above : (n d c : ℕ) → Climbs P n d c → above k.classes n d ≡ Some c
    climbs_above zero d c h = ap (λ (i : ℕ). Some i) h
    climbs_above (suc n) d c (cl, base, has, based, rest) =
        let (near, is) = class_is d cl has in
        let q : base_of k.classes d ≡ Some base = ap (λ (x : ClassEntry). x.base) (sym is) ∙ based in
        let G : Option ℕ → Option ℕ = λ x. elim x [ None ↦ None | Some b ↦ above k.classes n b ] in
        ap G q ∙ climbs_above n base c rest

    no_circle : (c n : ℕ) → c < L → Climbs P (suc n) c c → ⊥
    no_circle c n near h = comes_back k.classes n c (climbs_above (suc n) c c h) L L (omega arith) (made.chained.ends c near)

    -- a base's members stay in their places
    kept_front : (b c : ℕ) (W : Option DeclarationKind → Bool) → c < L → base_of k.classes c ≡ Some b → (i x : ℕ) → slice_get (names_from W k L b) i ≡ Some x → slice_get (names_from W k L c) i ≡ Some x
    kept_front b c W near qb i x h =
        subst (λ (xs : List ℕ). slice_get xs i ≡ Some x) (sym (names_step k made.sane made.chained W c b near qb))
        (get_left (names_from W k L b) (filter (λ y. not (is_listed (names_from W k L b) y)) (own_names W k.entries c)) i x h)

    -- a base's field is the class's own
    field_stays : (b c x d : ℕ) (a : Entry) → c < L → base_of k.classes c ≡ Some b → member_number k.entries k.classes b x ≡ Some d → slice_get k.entries d ≡ Some a → a.sort ≡ sort.Field → member_number k.entries k.classes c x ≡ Some d
    field_stays b c x d a near qb h is s =
        let H : Option ℕ → Option ℕ = λ y. elim y [ Some i ↦ Some i | None ↦ member_number k.entries k.classes b x ] in
        some_or_none (member_number k.entries k.classes c x ≡ Some d) (entry_number k.entries (o.Class c) x)
        (λ d0 r. let (a0, is0, owner, name) = number_own k made.sane made.chained c x d0 r in
        elim (member_sort k made.sane made.chained d0 c x a0 r is0) [
          | inl f ↦ absurd (own_field_alone k made.sane made.chained c b x d0 d a0 qb r is0 f h)
          | inr m ↦ absurd (own_method_hides k made.sane made.chained c b x d0 d a0 a qb r is0 m h is s)
        ])
        (λ r. number_step k made.sane made.chained c b x near qb ∙ ap H r ∙ h)

    fields_stay : (c : ℕ) (cl : ClassEntry) → HasClass P c cl → (b f : ℕ) (u : ValueType) → cl.base ≡ Some b → HasField P b f u → HasField P c f u
    fields_stay c cl hc b f u q (cb, hb, at_f) =
        let (near, is) = class_is c cl hc in
        let (near_b, is_b) = class_is b cb hb in
        let qb : base_of k.classes c ≡ Some b = ap (λ (x : ClassEntry). x.base) (sym is) ∙ q in
        let (x, at_x, kind) = map_get (member_kind tables names k numbers b) (field_names k b) f u (sym (entry_get (class b).fields f) ∙ ap (λ (y : ClassEntry). entry y.fields f) (sym is_b) ∙ at_f) in
        let (d, a, m, at_d, w) = listed_member k made.sane made.chained is_field (fields_keep k made.sane made.chained) b x near_b (get_listed (field_names k b) f x at_x) in
        let in_c = field_stays b c x d a near qb m at_d (field_is k made.sane made.chained a.sort w) in
        let same_kind : member_kind tables names k numbers c x ≡ u = kind_of_member c x d in_c ∙ sym (kind_of_member b x d m) ∙ kind in
        (class c, class_at c near, entry_get (class c).fields f ∙ get_map (member_kind tables names k numbers c) (field_names k c) f x (kept_front b c is_field near qb f x at_x) ∙ ap (λ (y : ValueType). Some y) same_kind)

    -- types that agree are the same
    kinds_same : (ss us : List StaticType) → same_kinds ss us ≡ true → value_types ss ≡ value_types us
    kinds_same [] [] h = refl
    kinds_same (s ∷ ss) (u ∷ us) h =
        let (p, q) = both_true (same s u) (same_kinds ss us) h in
        ap (λ (x : ValueType). x ∷ value_types ss) (same_types s u p) ∙ ap (λ (xs : List ValueType). value_type u ∷ xs) (kinds_same ss us q)
    kinds_same [] (u ∷ us) h = cc
    kinds_same (s ∷ ss) [] h = cc

    results_same : (d e : ℕ) (s u : StaticType) → kind_at k d ≡ Some s → kind_at k e ≡ Some u → same_result (kind_at k d) (kind_at k e) ≡ true → result_at tables names k numbers P d ≡ result_at tables names k numbers P e
    results_same d e s u p q h =
        let z : same s u ≡ true = subst (λ (x : Option StaticType). same_result (Some s) x ≡ true) q (subst (λ (x : Option StaticType). same_result x (kind_at k e) ≡ true) p h) in
        result_is d s p ∙ same_types s u z ∙ sym (result_is e u q)

    agrees_is : (d e : ℕ) (o' : Option ℕ) → o' ≡ Some e → agrees k d o' ≡ true → (same_kinds (takes_at k.entries d) (takes_at k.entries e) ≡ true) × (same_result (kind_at k d) (kind_at k e) ≡ true)
    agrees_is d e None q h = cc
    agrees_is d e (Some e') q h = both_true (same_kinds (takes_at k.entries d) (takes_at k.entries e)) (same_result (kind_at k d) (kind_at k e)) (subst (λ (i : ℕ). agrees k d (Some i) ≡ true) (some_is e' e q) h)

    rest_is : (a b : ValueType) (us vs : List ValueType) → a ∷ us ≡ b ∷ vs → us ≡ vs
    rest_is a b us vs h = cc

    -- a member of a base is one of the class
    member_up : (b c f : ℕ) (params : List ValueType) (u : ValueType) → base_of k.classes c ≡ Some b → IsMember P b f params u → IsMember P c f params u
    member_up b c f params u qb (r, i, has, ps, below, gives) = (r, i, has, ps, below_up c b i qb below, gives)

    method_stays : (b c x d f : ℕ) (a : Entry) (params : List ValueType) (u : ValueType) → c < L → base_of k.classes c ≡ Some b → member_number k.entries k.classes b x ≡ Some d → slice_get k.entries d ≡ Some a → a.sort ≡ sort.Method
        → f ≡ routine_number numbers d → IsMember P b f params u
        → (d1 : ℕ) × (member_number k.entries k.classes c x ≡ Some d1) × IsMember P c (routine_number numbers d1) params u
    method_stays b c x d f a params u near qb h is s f_is member =
        let R : Type 0 = (d1 : ℕ) × (member_number k.entries k.classes c x ≡ Some d1) × IsMember P c (routine_number numbers d1) params u in
        let H : Option ℕ → Option ℕ = λ y. elim y [ Some i ↦ Some i | None ↦ member_number k.entries k.classes b x ] in
        let G : Option ℕ → Option ℕ = λ y. elim y [ None ↦ None | Some i ↦ member_number k.entries k.classes i x ] in
        some_or_none R (entry_number k.entries (o.Class c) x)
        (λ d0 r. let (a0, is0, owner, name) = number_own k made.sane made.chained c x d0 r in
        elim (member_sort k made.sane made.chained d0 c x a0 r is0) [
          | inl fd ↦ absurd (own_field_alone k made.sane made.chained c b x d0 d a0 qb r is0 fd h)
          | inr m0 ↦ (let in_c : member_number k.entries k.classes c x ≡ Some d0 = own_member k made.sane made.chained c x d0 near r in
              let inherits : inherited k.entries k.classes c x ≡ Some d = ap G qb ∙ h in
              let (takes_same, results_so) = agrees_is d0 d (inherited k.entries k.classes c x) inherits (made.agreeing d0 c x a0 is0 m0 owner name) in
              let (s0, k0) = made.results d0 a0 is0 m0 in
              let (s1, k1) = made.results d a is s in
              let (i, w, below) = reached k made.sane made.chained (λ (c i : ℕ). IsBelow P c i) below_here (λ c b i. below_up c b i) b x d a (member_within b x d h) h is in
              let (r1, has1, ps1, gives1) = method_body d i a is s w in
              let (r2, o2, has2, ps2, below2, gives2) = member in
              let rr : r2 ≡ r1 = some_is r2 r1 (sym has2 ∙ ap (λ (j : ℕ). entry P.functions j) f_is ∙ has1) in
              let params_are : params ≡ value_types a.takes = rest_is (t.Object o2) (t.Object i) params (value_types a.takes) (sym ps2 ∙ ap (λ (y : TypedRoutine). y.params) rr ∙ ps1) in
              let gives_are : u ≡ result_at tables names k numbers P d = sym gives2 ∙ ap (λ (y : TypedRoutine). y.gives) rr ∙ gives1 in
              let takes_so : value_types a0.takes ≡ value_types a.takes = ap (λ (us : List StaticType). value_types us) (sym (takes_are d0 a0 is0)) ∙ kinds_same (takes_at k.entries d0) (takes_at k.entries d) takes_same ∙ ap (λ (us : List StaticType). value_types us) (takes_are d a is) in
              let own = method_member c x d0 a0 in_c is0 m0 in
              let with_params : IsMember P c (routine_number numbers d0) params (result_at tables names k numbers P d0) = subst (λ (us : List ValueType). IsMember P c (routine_number numbers d0) us (result_at tables names k numbers P d0)) (takes_so ∙ sym params_are) own in
              (d0, in_c, subst (λ (y : ValueType). IsMember P c (routine_number numbers d0) params y) (results_same d0 d s0 s1 k0 k1 results_so ∙ sym gives_are) with_params))
        ])
        (λ r. (d, number_step k made.sane made.chained c b x near qb ∙ ap H r ∙ h, subst (λ (j : ℕ). IsMember P c j params u) f_is (member_up b c f params u qb member)))

    methods_stay : (c : ℕ) (cl : ClassEntry) → HasClass P c cl → (b s : ℕ) (params : List ValueType) (u : ValueType) → cl.base ≡ Some b → HasMethod P b s params u → HasMethod P c s params u
    methods_stay c cl hc b s params u q (cb, f, hb, at_f, member) =
        let (near, is) = class_is c cl hc in
        let (near_b, is_b) = class_is b cb hb in
        let qb : base_of k.classes c ≡ Some b = ap (λ (x : ClassEntry). x.base) (sym is) ∙ q in
        let (x, at_x, routine_so) = map_get (member_routine tables names k numbers b) (slot_names k b) s f (sym (entry_get (class b).slots s) ∙ ap (λ (y : ClassEntry). entry y.slots s) (sym is_b) ∙ at_f) in
        let (d, a, m, at_d, w) = listed_member k made.sane made.chained is_method (methods_keep k made.sane made.chained) b x near_b (get_listed (slot_names k b) s x at_x) in
        let (d1, in_c, member_c) = method_stays b c x d f a params u near qb m at_d (method_is k made.sane made.chained a.sort w) (sym routine_so ∙ routine_of_member b x d m) member in (
          class c,
          routine_number numbers d1,
          class_at c near,
          entry_get (class c).slots s ∙ get_map (member_routine tables names k numbers c) (slot_names k c) s x (kept_front b c is_method near qb s x at_x) ∙ ap (λ (j : ℕ). Some j) (routine_of_member c x d1 in_c),
          member_c,
        )

    pub classes_sound : (c : ℕ) (cl : ClassEntry) → HasClass P c cl → IsClass P c cl
    classes_sound c cl hc =
        let (near, is) = class_is c cl hc in
        record {
          base = λ b q. (class b, class_at b (made.chained.bases c b (ap (λ (x : ClassEntry). x.base) (sym is) ∙ q)));
          chain = λ n h. no_circle c n near h;
          fields = λ b f u q h. fields_stay c cl hc b f u q h;
          methods = λ b s params u q h. methods_stay c cl hc b s params u q h;
          slots = λ s f h.
              let (x, at_x, routine_so) = map_get (member_routine tables names k numbers c) (slot_names k c) s f (sym (entry_get (class c).slots s) ∙ ap (λ (y : ClassEntry). entry y.slots s) (sym is) ∙ h) in
              let (d, a, m, at_d, w) = listed_member k made.sane made.chained is_method (methods_keep k made.sane made.chained) c x near (get_listed (slot_names k c) s x at_x) in (
                value_types a.takes,
                result_at tables names k numbers P d,
                subst (λ (j : ℕ). IsMember P c j (value_types a.takes) (result_at tables names k numbers P d)) (sym (routine_of_member c x d m) ∙ routine_so) (method_member c x d a m at_d (method_is k made.sane made.chained a.sort w)),
              );
          maker = let (r, has, params, gives) = maker_body c near in
              (value_types (maker_takes_of k.classes c), r, subst (λ (j : ℕ). HasRoutine P j r) (ap (λ (x : ClassEntry). x.maker) (sym is)) has, params, gives);
        }
