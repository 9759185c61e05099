-- Elaboration of fields, globals, functions and methods agrees with their first failures and with what is made of them.
use Rattle.std.proofs.Common.{◌≡◌, ◌≤◌, ℕ, suc, refl, sym, ap, ◌∙◌, subst, Bool, true, false, Option, Some, None, List, [], ◌∷◌, ◌++◌, length, append-nil, append_assoc}
use Rattle.std.specs.Prelude.{slice_get, Result, Ok, Err}
use Rattle.sts_base.specs.declared.refused.Code.TheVariants.{Mismatch, NeedsType, UnknownName}
use Rattle.sts_syntax.specs.Annotations.{Annotation}
use Rattle.sts_syntax.specs.declared.typed.Spot.TheVariants.{Global}
use Rattle.sts_syntax.specs.Types as t
use Rattle.sts_syntax.specs.Types.{ValueType}
use Rattle.sts_syntax.specs.TypedTrees as e
use Rattle.sts_syntax.specs.TypedTrees.{TypedTree, TypedTrees, TypedStatement, TypedStatements, TypedDeclaration, TypedRoutine}
use Rattle.sts_syntax.specs.Trees.{Parameter, Tree, SuperCall, Trees, OptionalTree, Statement, Plain, Statements, done, also, Declaration, Declare, Routine, Does}
use Rattle.sts_scope.specs.declared.kinds.StaticType.{StaticType}
use Rattle.sts_scope.specs.declared.known.This.{This}
use Rattle.sts_scope.specs.declared.known.This.TheVariants as this
use Rattle.sts_scope.specs.Kinds.{nothing, value_type, value_types}
use Rattle.sts_scope.specs.Entries.{kind_of, parameter_kinds, written_kind}
use Rattle.sts_scope.specs.Failures.{Failure, ◌then◌, own, unless, failure_at}
use Rattle.sts_scope.specs.Headings.{written_failure}
use Rattle.sts_scope.specs.Lookup.{base_of}
use Rattle.sts_scope.specs.Numbers.{global_number, field_names, place_among}
use Rattle.sts_scope.specs.Places.{NameScope, outside}
use Rattle.sts_scope.specs.Rules.{kind_at, maker_takes_of, all_go}
use Rattle.type_derive.specs.Typing.{◌>>=◌, types_of}
use Rattle.type_derive.specs.Returns.{bound, parameter_locals, within, all_returned, answered}
use Rattle.type_derive.specs.Derived.{Source, declared_source, routine_source, follows}
use Rattle.type_derive.specs.Nodes.{failures, statements_failure}
use Rattle.type_derive.specs.Passes.{outside_failure, body_failure, made_failure, constructor_failure, own_super_call}
use Rattle.type_derive.specs.Making.{Made, Making}
use Rattle.type_derive.specs.Built.{Site, routines_made, made_value, made_given, made_statements}
use Rattle.type_derive.specs.Functions.{site, function_made, method_made}
use Rattle.elaborated.specs.Elaborating.{Elab, both_made}
use Rattle.elaborated.specs.Elaborated.{Whole, Seen, SeenAll, kind_declared, why_declared, tree_of, elab_given, elab_statements}
use Rattle.elaborated.proofs.Laws.{Tells, ok_tells, as_failure, then_tells, last_tells, ends_tells, need_last, check_tells, made_then, made_end, looked_is, parameters_even, statements_tell, initial_tells, given_tells}
use Rattle.typed_laws.specs.Programs as p
use Rattle.typed_laws.specs.Programs.{◌before◌, outer_site, super_called}
use Rattle.typed_laws.proofs.Laws.{type_known, give_none, return_none, some_or_none, unless_true}
use Rattle.typed_program.specs.ElaboratedTexts as x
use Rattle.typed_program.specs.ElaboratedTexts.{◌>>-◌, needed, Maker, with_those_in_it, set_first}
use Rattle.typed_program.proofs.Saying.{Says, says_ok, says_as, told_says, says_then, says_last, says_needed}

abbrev made_only : {A : Type 0} → A → Made A
made_only a = record { it = a; locals = []; routines = [] }

module _ (w : Whole) where
  -- a field's or a global's first value
  pub record FirstMade {A : Type 0} (self : This) (shape : Option Annotation) (first : OptionalTree) (make : StaticType → Option TypedTree → A) (m n : ℕ) (y : Made A) : Type 0 where
    pub kind : StaticType
    pub value : Made (Option TypedTree)
    pub bound_is : bound w.tables w.names w.known (outside self false None) shape first ≡ Some kind
    pub value_is : made_value w.tables w.names w.known w.numbers (outer_site self) (written_kind w.names shape) first m n ≡ Some value
    pub is : y ≡ both_made value (made_only (make kind value.it))

  pub first_tells : {A : Type 0} (self : This) (at i : ℕ) (shape : Option Annotation) (first : OptionalTree) (make : StaticType → Option TypedTree → A) (m n : ℕ)
      → Tells (x.elab_first w self (Declare at i shape first) make m n) (outside_failure w.tables w.names w.known self (Declare at i shape first)) (FirstMade self shape first make m n)
  first_tells {A} self at i shape first make m n =
      check_tells (written_failure w.names at shape) _ m n _ _ (λ q.
      then_tells _ _ m n _ _ _ _ (initial_tells w (outer_site self) refl at shape first m n q) (λ a h.
      as_failure _ _ _ _ h.kind (need_last (kind_declared w.known w.names shape a.it) (why_declared shape) at _ _ _ _ (λ kind is.
      ok_tells _ _ (record { kind = kind; value = record { it = tree_of a.it; locals = a.locals; routines = a.routines }; bound_is = h.bound_is kind is; value_is = h.value kind is; is = refl })))))

  pub global_tells : (d : ℕ) (a : Declaration) (m n : ℕ)
      → Tells (x.elab_global w d a m n) (outside_failure w.tables w.names w.known this.Nowhere a) (λ y. p.global_made w.tables w.names w.known w.numbers d a m n ≡ Some y)
  global_tells d (Declare at i shape first) m n =
      let M : StaticType → Option TypedTree → TypedDeclaration = λ kind value. record { name = Global (global_number w.known d); first = value } in
      let told = first_tells this.Nowhere at i shape first M m n in
      record { fails = told.fails; made = λ y is. let h = told.made y is in made_end _ _ _ h.value_is ∙ ap (λ (z : Made TypedDeclaration). Some z) (sym h.is) }

  -- functions and methods; their results are there, where their statements have no failure
  pub function_says : (params : List ValueType) (s : Site) (at : ℕ) (all : Statements) (n : ℕ) → length s.spots ≡ length s.place.locals
      → (statements_failure w.tables w.names w.known s.place all ≡ None → (u : StaticType) × (s.place.gives ≡ Some u))
      → Says (x.elab_function w params s at all n) (statements_failure w.tables w.names w.known s.place all)
      (λ rs. (s.place.gives >>= λ u. routines_made params (value_type u) (made_statements w.tables w.names w.known w.numbers s all) n) ≡ Some rs)
  function_says params s at all n even there =
      says_last (elab_statements w s all 0 (suc n)) _ _ _ _ (told_says _ _ _ (statements_tell w s even all 0 (suc n))) (λ made none h.
      let (u, is) = there none in
      says_needed s.place.gives u NeedsType at _ None _ is
      (says_ok _ _ (looked_is s.place.gives _ u _ is (looked_is _ _ made _ h refl))))

  -- the statements of a constructor
  abbrev MakerMade : Site → Option ℕ → Statements → ℕ → ℕ → Made Maker → Type 0
  MakerMade s base all m n y = (sets : List TypedStatement) → p.made_statements_of w.tables w.names w.known w.numbers s base sets all m n
      ≡ Some (record { it = (y.it.above ++ sets) before y.it.own; locals = y.locals; routines = y.routines })

  abbrev maker_failure : Site → Option ℕ → ℕ → Statements → Option Failure
  maker_failure s None at all = statements_failure w.tables w.names w.known s.place all
  maker_failure s (Some b) at all = made_failure w.tables w.names w.known s.place at b all

  own_super : (us : Option (List StaticType)) (kinds takes : List StaticType) (at : ℕ) → us ≡ Some kinds → own_super_call w.known us takes at ≡ unless (all_go w.known.classes kinds takes) Mismatch at
  own_super us kinds takes at h = ap (λ (o : Option (List StaticType)). own_super_call w.known o takes at) h

  making_tells : (s : Site) (base : Option ℕ) (at : ℕ) (all : Statements) (m n : ℕ) → length s.spots ≡ length s.place.locals
      → Tells (x.elab_making w s base at all m n) (maker_failure s base at all) (MakerMade s base all m n)
  making_tells s None at all m n even =
      last_tells _ (λ xs. let z : Maker = record { above = []; own = xs } in z) m n _ _ _ (statements_tell w s even all m n) (λ y h sets. made_end _ _ _ h)
  making_tells s (Some b) at (also (Plain j (SuperCall i None args)) rest) m n even =
      let takes : List StaticType = maker_takes_of w.known.classes b in
      then_tells _ _ m n _ _ _ _ (given_tells w s even takes args m n) (λ ys h.
      as_failure _ _ _ _ (ap (λ (f : Option Failure). f then statements_failure w.tables w.names w.known s.place rest)
      (sym (own_super (types_of w.tables w.known s.place args) ys.it.kinds takes i h.kinds)))
      (check_tells (unless (all_go w.known.classes ys.it.kinds takes) Mismatch i) _ _ _ _ _ (λ q.
      last_tells _ (λ xs. let z : Maker = record { above = super_called w.numbers b ys.it.trees ∷ []; own = xs } in z) _ _ _ _ _ (statements_tell w s even rest _ _) (λ y g sets.
      made_then _ _ _ _ (h.trees (unless_true (all_go w.known.classes ys.it.kinds takes) Mismatch i q)) (made_end _ _ _ g)))))
  making_tells s (Some b) at all m n even = ends_tells _ Mismatch at m n _ _ _ (statements_tell w s even all m n)

  pub constructor_says : (c n : ℕ) (r : Routine)
      → Says (x.elab_constructor w c n r) (constructor_failure w.tables w.names w.known (this.Object c) (base_of w.known.classes c) r)
      (λ made. (sets : List TypedStatement) → p.constructor_made w.tables w.names w.known w.numbers c n sets r ≡ Some (made sets))
  constructor_says c n (Does at params gives all arrow) =
      let s : Site = site w.names (this.Object c) (Some nothing) false 1 params in
      says_as _ _ _ _ (by_base (base_of w.known.classes c))
      (says_last _ _ _ _ _ (told_says _ _ _ (making_tells s (base_of w.known.classes c) at all 0 (suc n) (parameters_even w.names 1 params))) (λ y none h.
      says_ok _ _ (λ sets. looked_is _ _ _ _ (h sets) refl)))
    where
      by_base : (base : Option ℕ) → maker_failure (site w.names (this.Object c) (Some nothing) false 1 params) base at all
          ≡ constructor_failure w.tables w.names w.known (this.Object c) base (Does at params gives all arrow)
      by_base None = refl
      by_base (Some b) = refl

  -- the written result of a function is a type
  abbrev pub HeadingIsSo : Routine → Type 0
  HeadingIsSo (Does at params gives all arrow) = written_failure w.names at gives ≡ None

  -- the type of each declaration of the text follows from the others'
  abbrev pub AreSolved : List Source → Type 0
  AreSolved sources = (d : ℕ) (source : Source) → slice_get sources d ≡ Some source → w.known.library ≤ d
      → kind_at w.known d ≡ follows w.names w.tables w.known false source

  module _ (sources : List Source) (solved : AreSolved sources) where
    -- a field's or a global's type is the one that is known
    pub kind_known : (self : This) (d at i : ℕ) (shape : Option Annotation) (first : OptionalTree) (kind : StaticType)
        → slice_get sources d ≡ Some (declared_source w.names self (Declare at i shape first))
        → w.known.library ≤ d → bound w.tables w.names w.known (outside self false None) shape first ≡ Some kind → kind_at w.known d ≡ Some kind
    kind_known self d at i (Some a) first kind s near h = solved d (declared_source w.names self (Declare at i (Some a) first)) s near ∙ h
    kind_known self d at i None first kind s near h = solved d (declared_source w.names self (Declare at i None first)) s near ∙ h

    -- a function's result is known, where its statements have no failure
    result_known : (self : This) (d at : ℕ) (params : List Parameter) (gives : Option Annotation) (all : Statements) (arrow : Bool)
        → slice_get sources d ≡ Some (routine_source w.names self (Does at params gives all arrow)) → w.known.library ≤ d → written_failure w.names at gives ≡ None
        → body_failure w.tables w.names w.known self (kind_at w.known d) (Does at params gives all arrow) ≡ None → (u : StaticType) × (kind_at w.known d ≡ Some u)
    result_known self d at params (Some a) all arrow s near h g =
        let (u, q) = type_known w.names w.known w.tables at a h in
        (u, solved d (routine_source w.names self (Does at params (Some a) all arrow)) s near ∙ q)
    result_known self d at params None all arrow s near h g =
        let q = solved d (routine_source w.names self (Does at params None all arrow)) s near in
        some_or_none ((u : StaticType) × (kind_at w.known d ≡ Some u)) (kind_at w.known d) (λ u r. (u, r))
        (λ r. let nothing_given = give_none w.names w.known w.tables (within (parameter_locals w.names params) self (kind_at w.known d) false) all r g in
        (nothing, q ∙ ap (λ (z : Option (Option StaticType)). answered z) (return_none w.names w.known w.tables (within (parameter_locals w.names params) self None false) all nothing_given)))

    pub plain_says : (n d : ℕ) (r : Routine) → slice_get sources d ≡ Some (routine_source w.names this.Nowhere r) → w.known.library ≤ d → HeadingIsSo r
        → Says (x.elab_plain w false n (kind_at w.known d) r) (body_failure w.tables w.names w.known this.Nowhere (kind_at w.known d) r)
        (λ rs. function_made w.tables w.names w.known w.numbers false n (kind_at w.known d) r ≡ Some rs)
    plain_says n d (Does at params gives all arrow) s near h =
        function_says (value_types (parameter_kinds w.names params)) (site w.names this.Nowhere (kind_at w.known d) false 0 params) at all n (parameters_even w.names 0 params)
        (λ none. result_known this.Nowhere d at params gives all arrow s near h none)

    pub method_says : (c n d : ℕ) (r : Routine) → slice_get sources d ≡ Some (routine_source w.names (this.Object c) r) → w.known.library ≤ d → HeadingIsSo r
        → Says (x.elab_method w c n (kind_at w.known d) r) (body_failure w.tables w.names w.known (this.Object c) (kind_at w.known d) r)
        (λ rs. method_made w.tables w.names w.known w.numbers c n (kind_at w.known d) r ≡ Some rs)
    method_says c n d (Does at params gives all arrow) s near h =
        function_says (t.Object c ∷ value_types (parameter_kinds w.names params)) (site w.names (this.Object c) (kind_at w.known d) false 1 params) at all n (parameters_even w.names 1 params)
        (λ none. result_known (this.Object c) d at params gives all arrow s near h none)
