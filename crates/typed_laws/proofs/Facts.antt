-- What a text without a failure says of its declarations.
use Rattle.std.proofs.Common.{◌≡◌, ℕ, zero, suc, ◌+◌, ◌<◌, ◌==◌, ◌||◌, refl, sym, ap, ◌∙◌, subst, Bool, true, false, Option, Some, None, List, [], ◌∷◌, ◌++◌, length, arith}
use Rattle.std.specs.Prelude.{slice_get, unwrap_or, not, ◌&&◌, is_some, codes}
use Rattle.sts_base.specs.declared.refused.Code.TheVariants.{Mismatch, TwiceNamed, ClassCycle, NeedsType}
use Rattle.sts_syntax.specs.Trees.{Parameter, Statement, Block, Let, IfOnly, IfElse, While, DoWhile, For, ForOf, Return, Break, Continue, Plain, Empty, Declare, Declarations, ended, next, Routine, Does}
use Rattle.sts_syntax.specs.Programs.{ClassMember, Field, Method, Constructor, TopLevel, Class, Function, Main, Program}
use Rattle.sts_scope.specs.declared.kinds.StaticType.{StaticType}
use Rattle.sts_scope.specs.declared.entries.Owner.{Owner}
use Rattle.sts_scope.specs.declared.entries.Owner.TheVariants as o
use Rattle.sts_scope.specs.declared.entries.DeclarationKind.{DeclarationKind}
use Rattle.sts_scope.specs.declared.entries.DeclarationKind.TheVariants as sort
use Rattle.sts_scope.specs.declared.entries.Entry.{Entry}
use Rattle.sts_scope.specs.declared.entries.ClassHead.{ClassHead}
use Rattle.sts_scope.specs.declared.known.Known.{Known}
use Rattle.sts_scope.specs.Kinds.{text, nothing}
use Rattle.sts_scope.specs.Failures.{Failure, ◌then◌, unless}
use Rattle.sts_scope.specs.Entries.{Naming, written_kind, parameter_kinds, class_names, class_number, classes_in, member_entries, item_entries, main_entries, global_entries, entries_from, heads_of, class_head, maker_takes, base_number}
use Rattle.sts_scope.specs.Headings.{written_failure, routine_failure, is_typed, is_constructor, member_failure, members_failure, item_failure, headings_failure}
use Rattle.sts_scope.specs.Bases.{above, is_endless, chain_failure, chains_failure}
use Rattle.sts_scope.specs.Lookup.{is_second, inherited, inherits_field, base_of}
use Rattle.sts_scope.specs.Rules.{takes_at, maker_takes_of, is_spelled}
use Rattle.sts_scope.specs.Rules as rules
use Rattle.type_derive.specs.Passes.{agrees, overrides_failure, item_overrides, all_overrides}
use Rattle.typed_laws.proofs.Stands.{IsProper, EachProper}
use Rattle.typed_laws.proofs.OneNode.{not_true}
use Rattle.typed_laws.proofs.Typed.{last, first, unless_true}
use Rattle.typed_laws.proofs.Names.{some_is}
use Rattle.typed_laws.proofs.Suffixes.{Suffix, suffix_step, suffix_at, suffix_head}
use Rattle.typed_laws.proofs.Searching.{some_or_none, get_within, position_is, not_some}
use Rattle.typed_laws.proofs.Members.{SaneAs}
use Rattle.typed_laws.proofs.TreeFacts.{written_proper}

-- Lists of declarations of which each one has a property.
module _ (Q : DeclarationKind → Owner → ℕ → ℕ → Type 0) where
  abbrev pub EachIs : ℕ → List Entry → Type 0
  EachIs d [] = Unit {0}
  EachIs d (a ∷ rest) = Q a.sort a.owner a.name d × EachIs (suc d) rest

  pub each_is_both : (d : ℕ) (xs ys : List Entry) → EachIs d xs → EachIs (d + length xs) ys → EachIs d (xs ++ ys)
  each_is_both d [] ys g h = let z : d + 0 ≡ d = omega arith in subst (λ (i : ℕ). EachIs i ys) z h
  each_is_both d (x ∷ xs) ys g h = let z : d + suc (length xs) ≡ suc d + length xs = omega arith in (g.0, each_is_both (suc d) xs ys g.1 (subst (λ (i : ℕ). EachIs i ys) z h))

  pub each_is_get : (d : ℕ) (xs : List Entry) (i : ℕ) (a : Entry) → EachIs d xs → slice_get xs i ≡ Some a → Q a.sort a.owner a.name (d + i)
  each_is_get d [] i a h q = cc
  each_is_get d (x ∷ xs) zero a h q =
      let z : x ≡ a = cc in let y : d ≡ d + zero = omega arith in
      subst (λ (j : ℕ). Q a.sort a.owner a.name j) y (subst (λ (b : Entry). Q b.sort b.owner b.name d) z h.0)
  each_is_get d (x ∷ xs) (suc i) a h q = let y : suc d + i ≡ d + suc i = omega arith in subst (λ (j : ℕ). Q a.sort a.owner a.name j) y (each_is_get (suc d) xs i a h.1 q)

  module _ (whole_function : (x d : ℕ) → Q sort.Function o.Whole x d) (whole_global : (fixed : Bool) (x d : ℕ) → Q (sort.Global fixed) o.Whole x d) where
    globals_each : (d : ℕ) (fixed : Bool) (each : Declarations) → EachIs d (global_entries fixed each)
    globals_each d fixed ended = tt
    globals_each d fixed (next (Declare i x shape first') rest) = (whole_global fixed x d, globals_each (suc d) fixed rest)

    pub main_each : (d : ℕ) (a : Statement) → EachIs d (main_entries a)
    main_each d (Let i fixed each) = globals_each d fixed each
    main_each d (Block i all) = tt
    main_each d (IfOnly i test a) = tt
    main_each d (IfElse i test a b) = tt
    main_each d (While i test a) = tt
    main_each d (DoWhile i a test) = tt
    main_each d (For i one test step a) = tt
    main_each d (ForOf i fixed x list a) = tt
    main_each d (Return i value) = tt
    main_each d (Break i) = tt
    main_each d (Continue i) = tt
    main_each d (Plain i a) = tt
    main_each d (Empty i) = tt

    -- a text of which each class's declarations have it
    module _ (names : Naming) (Here : ℕ → ℕ → TopLevel → Type 0)
        (class_each : (c d at x : ℕ) (base : Option ℕ) (base_at : ℕ) (members : List ClassMember) → Here c d (Class at x base base_at members) → EachIs d (item_entries names c (Class at x base base_at members))) where
      item_each : (c d : ℕ) (i : TopLevel) → Here c d i → EachIs d (item_entries names c i)
      item_each c d (Class at x base base_at members) h = class_each c d at x base base_at members h
      item_each c d (Function x (Does i params gives all arrow)) h = (whole_function x d, tt)
      item_each c d (Main a) h = main_each d a

      abbrev pub Along : ℕ → ℕ → Program → Type 0
      Along c d [] = Unit {0}
      Along c d (i ∷ rest) = Here c d i × Along (c + classes_in i) (d + length (item_entries names c i)) rest

      pub text_each : (c d : ℕ) (text : Program) → Along c d text → EachIs d (entries_from names c text)
      text_each c d [] h = tt
      text_each c d (i ∷ rest) h = each_is_both d (item_entries names c i) (entries_from names (c + classes_in i) rest) (item_each c d i h.0) (text_each (c + classes_in i) (d + length (item_entries names c i)) rest h.1)

module _ (names : Naming) (k : Known) where
  -- headings
  abbrev SaneHere : List (List ℕ) → ℕ → ℕ → TopLevel → Type 0
  SaneHere spellings c d i = (item_failure spellings names k.entries k.classes c d i ≡ None) × ((classes_in i ≡ 1) → c < length k.classes)

  sane_members : (spellings : List (List ℕ)) (c d : ℕ) (built : Bool) (members : List ClassMember) → c < length k.classes → members_failure spellings names k.entries k.classes c d built members ≡ None → EachIs (SaneAs k) d (member_entries names c members)
  sane_members spellings c d built [] near h = tt
  sane_members spellings c d built (Field (Declare i x shape first') ∷ rest) near h =
      let m : ClassMember = Field (Declare i x shape first') in
      let A = member_failure spellings names k.entries k.classes c d built m in
      let B = members_failure spellings names k.entries k.classes c (d + 1) (built || is_constructor spellings m) rest in
      let u0 = unless (not (built && is_spelled spellings x (codes "constructor"))) TwiceNamed i in
      let u1 = unless (not (is_second k.entries d (o.Class c) x)) TwiceNamed i in
      let u2 = unless (not (is_some (inherited k.entries k.classes c x))) TwiceNamed i in
      let u3 : Option Failure = unless (is_typed shape first') NeedsType i then written_failure names i shape in
      let hA : (u1 then u2 then u3) ≡ None = last u0 (u1 then u2 then u3) (first A B h) in
      let h1 : u1 ≡ None = first u1 (u2 then u3) hA in
      let h2 : u2 ≡ None = first u2 u3 (last u1 (u2 then u3) hA) in
      let once = not_true (is_second k.entries d (o.Class c) x) (unless_true (not (is_second k.entries d (o.Class c) x)) TwiceNamed i h1) in
      let alone = not_some (inherited k.entries k.classes c x) (not_true (is_some (inherited k.entries k.classes c x)) (unless_true (not (is_some (inherited k.entries k.classes c x))) TwiceNamed i h2)) in
      let z : d + 1 ≡ suc d = omega arith in
      ((once, alone, near), subst (λ (j : ℕ). EachIs (SaneAs k) j (member_entries names c rest)) z (sane_members spellings c (d + 1) (built || is_constructor spellings m) rest near (last A B h)))
  sane_members spellings c d built (Method x (Does i params gives all arrow) ∷ rest) near h =
      let r : Routine = Does i params gives all arrow in
      let m : ClassMember = Method x r in
      let A = member_failure spellings names k.entries k.classes c d built m in
      let B = members_failure spellings names k.entries k.classes c (d + 1) (built || false) rest in
      let u1 = unless (not (is_second k.entries d (o.Class c) x)) TwiceNamed i in
      let u2 = unless (not (inherits_field k.entries k.classes c x)) TwiceNamed i in
      let u3 : Option Failure = routine_failure names r in
      let hA : A ≡ None = first A B h in
      let h1 : u1 ≡ None = first u1 (u2 then u3) hA in
      let h2 : u2 ≡ None = first u2 u3 (last u1 (u2 then u3) hA) in
      let once = not_true (is_second k.entries d (o.Class c) x) (unless_true (not (is_second k.entries d (o.Class c) x)) TwiceNamed i h1) in
      let free = not_true (inherits_field k.entries k.classes c x) (unless_true (not (inherits_field k.entries k.classes c x)) TwiceNamed i h2) in
      let z : d + 1 ≡ suc d = omega arith in
      ((once, free, near), subst (λ (j : ℕ). EachIs (SaneAs k) j (member_entries names c rest)) z (sane_members spellings c (d + 1) (built || false) rest near (last A B h)))
  sane_members spellings c d built (Constructor r ∷ rest) near h =
      let A = member_failure spellings names k.entries k.classes c d built (Constructor r) in
      let B = members_failure spellings names k.entries k.classes c (d + 0) (built || true) rest in
      let z : d + 0 ≡ d = omega arith in
      subst (λ (j : ℕ). EachIs (SaneAs k) j (member_entries names c rest)) z (sane_members spellings c (d + 0) (built || true) rest near (last A B h))

  sane_class : (spellings : List (List ℕ)) (c d at x : ℕ) (base : Option ℕ) (base_at : ℕ) (members : List ClassMember) → SaneHere spellings c d (Class at x base base_at members) → EachIs (SaneAs k) d (item_entries names c (Class at x base base_at members))
  sane_class spellings c d at x base base_at members h =
      let near : c < length k.classes = h.1 refl in
      let z : d + 1 ≡ suc d = omega arith in
      (near, subst (λ (j : ℕ). EachIs (SaneAs k) j (member_entries names c members)) z (sane_members spellings c (d + 1) false members near h.0))

  sane_along : (spellings : List (List ℕ)) (c d : ℕ) (text : Program) → Suffix k.classes c (heads_of names text) → headings_failure spellings names k.entries k.classes c d text ≡ None → Along (SaneAs k) (λ x d. tt) (λ fixed x d. tt) names (SaneHere spellings) (sane_class spellings) c d text
  sane_along spellings c d [] s h = tt
  sane_along spellings c d (Class at x base base_at members ∷ rest) s h =
      let i : TopLevel = Class at x base base_at members in
      let A = item_failure spellings names k.entries k.classes c d i in
      let B = headings_failure spellings names k.entries k.classes (c + classes_in i) (d + length (item_entries names c i)) rest in
      let head : ClassHead = class_head names at base base_at members in (
        (first A B h, λ q. get_within k.classes c head (suffix_head k.classes c head (heads_of names rest) s)),
        sane_along spellings (c + 1) (d + length (item_entries names c i)) rest (suffix_step k.classes c (head ∷ []) (heads_of names rest) s) (last A B h),
      )
  sane_along spellings c d (Function x r ∷ rest) s h =
      let i : TopLevel = Function x r in
      let A = item_failure spellings names k.entries k.classes c d i in
      let B = headings_failure spellings names k.entries k.classes (c + classes_in i) (d + length (item_entries names c i)) rest in
      ((first A B h, λ q. cc), sane_along spellings (c + 0) (d + length (item_entries names c i)) rest (suffix_at k.classes c (c + 0) (heads_of names rest) (let z : c ≡ c + 0 = omega arith in z) s) (last A B h))
  sane_along spellings c d (Main a ∷ rest) s h =
      let i : TopLevel = Main a in
      let A = item_failure spellings names k.entries k.classes c d i in
      let B = headings_failure spellings names k.entries k.classes (c + classes_in i) (d + length (item_entries names c i)) rest in
      ((first A B h, λ q. cc), sane_along spellings (c + 0) (d + length (item_entries names c i)) rest (suffix_at k.classes c (c + 0) (heads_of names rest) (let z : c ≡ c + 0 = omega arith in z) s) (last A B h))

  pub sane_text : (spellings : List (List ℕ)) (c d : ℕ) (text : Program) → Suffix k.classes c (heads_of names text) → headings_failure spellings names k.entries k.classes c d text ≡ None → EachIs (SaneAs k) d (entries_from names c text)
  sane_text spellings c d text s h = text_each (SaneAs k) (λ x d. tt) (λ fixed x d. tt) names (SaneHere spellings) (sane_class spellings) c d text (sane_along spellings c d text s h)

  -- overriding methods
  abbrev pub AgreesAs : DeclarationKind → Owner → ℕ → ℕ → Type 0
  AgreesAs sort.Method (o.Class c) x d = agrees k d (inherited k.entries k.classes c x) ≡ true
  AgreesAs sort.Method o.Whole x d = Unit {0}
  AgreesAs sort.Field w x d = Unit {0}
  AgreesAs sort.Function w x d = Unit {0}
  AgreesAs (sort.Global fixed) w x d = Unit {0}
  AgreesAs (sort.Class i) w x d = Unit {0}

  agree_members : (c d : ℕ) (members : List ClassMember) → overrides_failure k c d members ≡ None → EachIs AgreesAs d (member_entries names c members)
  agree_members c d [] h = tt
  agree_members c d (Field (Declare i x shape first') ∷ rest) h = (tt, agree_members c (suc d) rest h)
  agree_members c d (Method x (Does i params gives all arrow) ∷ rest) h =
      let A = unless (agrees k d (inherited k.entries k.classes c x)) Mismatch i in
      (unless_true (agrees k d (inherited k.entries k.classes c x)) Mismatch i (first A (overrides_failure k c (suc d) rest) h), agree_members c (suc d) rest (last A (overrides_failure k c (suc d) rest) h))
  agree_members c d (Constructor r ∷ rest) h = agree_members c d rest h

  abbrev AgreeHere : ℕ → ℕ → TopLevel → Type 0
  AgreeHere c d i = item_overrides k c d i ≡ None

  agree_class : (c d at x : ℕ) (base : Option ℕ) (base_at : ℕ) (members : List ClassMember) → AgreeHere c d (Class at x base base_at members) → EachIs AgreesAs d (item_entries names c (Class at x base base_at members))
  agree_class c d at x base base_at members h = (tt, agree_members c (suc d) members h)

  agree_along : (c d : ℕ) (text : Program) → all_overrides k names c d text ≡ None → Along AgreesAs (λ x d. tt) (λ fixed x d. tt) names AgreeHere agree_class c d text
  agree_along c d [] h = tt
  agree_along c d (i ∷ rest) h =
      let A = item_overrides k c d i in
      let B = all_overrides k names (c + classes_in i) (d + length (item_entries names c i)) rest in
      (first A B h, agree_along (c + classes_in i) (d + length (item_entries names c i)) rest (last A B h))

  pub agree_text : (c d : ℕ) (text : Program) → all_overrides k names c d text ≡ None → EachIs AgreesAs d (entries_from names c text)
  agree_text c d text h = text_each AgreesAs (λ x d. tt) (λ fixed x d. tt) names AgreeHere agree_class c d text (agree_along c d text h)

-- what is taken is of types that values have
module _ (names : Naming) where
  unwrapped_proper : (o : Option StaticType) → ((u : StaticType) → o ≡ Some u → IsProper u) → IsProper (unwrap_or o nothing)
  unwrapped_proper None h = refl
  unwrapped_proper (Some u) h = h u refl

  parameters_proper : (params : List Parameter) → EachProper (parameter_kinds names params)
  parameters_proper [] = tt
  parameters_proper (p ∷ rest) = (unwrapped_proper (written_kind names p.shape) (λ u h. written_proper names p.shape u h), parameters_proper rest)

  abbrev AllTake : List Entry → Type 0
  AllTake [] = Unit {0}
  AllTake (a ∷ rest) = EachProper a.takes × AllTake rest

  take_both : (xs ys : List Entry) → AllTake xs → AllTake ys → AllTake (xs ++ ys)
  take_both [] ys g h = h
  take_both (x ∷ xs) ys g h = (g.0, take_both xs ys g.1 h)

  globals_take : (fixed : Bool) (each : Declarations) → AllTake (global_entries fixed each)
  globals_take fixed ended = tt
  globals_take fixed (next (Declare i x shape first') rest) = (tt, globals_take fixed rest)

  main_take : (a : Statement) → AllTake (main_entries a)
  main_take (Let i fixed each) = globals_take fixed each
  main_take (Block i all) = tt
  main_take (IfOnly i test a) = tt
  main_take (IfElse i test a b) = tt
  main_take (While i test a) = tt
  main_take (DoWhile i a test) = tt
  main_take (For i one test step a) = tt
  main_take (ForOf i fixed x list a) = tt
  main_take (Return i value) = tt
  main_take (Break i) = tt
  main_take (Continue i) = tt
  main_take (Plain i a) = tt
  main_take (Empty i) = tt

  members_take : (c : ℕ) (members : List ClassMember) → AllTake (member_entries names c members)
  members_take c [] = tt
  members_take c (Field (Declare i x shape first') ∷ rest) = (tt, members_take c rest)
  members_take c (Method x (Does i params gives all arrow) ∷ rest) = (parameters_proper params, members_take c rest)
  members_take c (Constructor r ∷ rest) = members_take c rest

  item_take : (c : ℕ) (i : TopLevel) → AllTake (item_entries names c i)
  item_take c (Class at x base base_at members) = (tt, members_take c members)
  item_take c (Function x (Does i params gives all arrow)) = (parameters_proper params, tt)
  item_take c (Main a) = main_take a

  text_take : (c : ℕ) (text : Program) → AllTake (entries_from names c text)
  text_take c [] = tt
  text_take c (i ∷ rest) = take_both (item_entries names c i) (entries_from names (c + classes_in i) rest) (item_take c i) (text_take (c + classes_in i) rest)

  take_get : (es : List Entry) (d : ℕ) → AllTake es → EachProper (takes_at es d)
  take_get [] d h = tt
  take_get (a ∷ es) zero h = h.0
  take_get (a ∷ es) (suc d) h = take_get es d h.1

  pub takes_proper : (c d : ℕ) (text : Program) → EachProper (takes_at (entries_from names c text) d)
  takes_proper c d text = take_get (entries_from names c text) d (text_take c text)

  -- heads of classes
  abbrev HeadOk : ClassHead → Type 0
  HeadOk h = ((takes : List StaticType) → h.takes ≡ Some takes → EachProper takes) × ((b : ℕ) → h.base ≡ Some b → (x : ℕ) × (names x ≡ Some b))

  abbrev HeadsOk : List ClassHead → Type 0
  HeadsOk [] = Unit {0}
  HeadsOk (h ∷ rest) = HeadOk h × HeadsOk rest

  maker_ok : (members : List ClassMember) (takes : List StaticType) → maker_takes names members ≡ Some takes → EachProper takes
  maker_ok [] takes h = cc
  maker_ok (Field a ∷ rest) takes h = maker_ok rest takes h
  maker_ok (Method x r ∷ rest) takes h = maker_ok rest takes h
  maker_ok (Constructor (Does i params gives all arrow) ∷ rest) takes h = subst EachProper (some_is (parameter_kinds names params) takes h) (parameters_proper params)

  base_ok : (base : Option ℕ) (b : ℕ) → base_number names base ≡ Some b → (x : ℕ) × (names x ≡ Some b)
  base_ok None b h = cc
  base_ok (Some x) b h = (x, h)

  heads_ok : (text : Program) → HeadsOk (heads_of names text)
  heads_ok [] = tt
  heads_ok (Class at x base base_at members ∷ rest) = ((maker_ok members, base_ok base), heads_ok rest)
  heads_ok (Function x r ∷ rest) = heads_ok rest
  heads_ok (Main a ∷ rest) = heads_ok rest

  heads_get : (hs : List ClassHead) (c : ℕ) (h : ClassHead) → HeadsOk hs → slice_get hs c ≡ Some h → HeadOk h
  heads_get [] c h ok q = cc
  heads_get (x ∷ hs) zero h ok q = subst HeadOk (let z : x ≡ h = cc in z) ok.0
  heads_get (x ∷ hs) (suc c) h ok q = heads_get hs c h ok.1 q

  makers_from_proper : (hs : List ClassHead) (n c : ℕ) → HeadsOk hs → EachProper (rules.maker_from hs n c)
  makers_from_proper hs zero c ok = tt
  makers_from_proper hs (suc n) c ok =
      let E : Option ClassHead → List StaticType = λ x. elim x [ None ↦ [] | Some class ↦ elim class.takes [ Some takes ↦ takes | None ↦ elim class.base [ None ↦ [] | Some b ↦ rules.maker_from hs n b ] ] ] in
      let go : (x : Option ClassHead) → slice_get hs c ≡ x → EachProper (E x) = λ x. elim x as (λ y. slice_get hs c ≡ y → EachProper (E y)) [
        | None ↦ (λ q. tt)
        | Some class ↦ (λ q. let (takes_ok, bases_ok) = heads_get hs c class ok q in
            let F : Option (List StaticType) → List StaticType = λ y. elim y [ Some takes ↦ takes | None ↦ elim class.base [ None ↦ [] | Some b ↦ rules.maker_from hs n b ] ] in
            let G : Option ℕ → List StaticType = λ y. elim y [ None ↦ [] | Some b ↦ rules.maker_from hs n b ] in
            let none_case : EachProper (G class.base) = (let gob : (y : Option ℕ) → EachProper (G y) = λ y. elim y as (λ z. EachProper (G z)) [ None ↦ tt | Some b ↦ makers_from_proper hs n b ok ] in gob class.base) in
            let gof : (y : Option (List StaticType)) → class.takes ≡ y → EachProper (F y) = λ y. elim y as (λ z. class.takes ≡ z → EachProper (F z)) [ Some takes ↦ (λ r. takes_ok takes r) | None ↦ (λ r. none_case) ] in
            gof class.takes refl)
      ] in
      go (slice_get hs c) refl

  pub makers_proper : (text : Program) (c : ℕ) → EachProper (maker_takes_of (heads_of names text) c)
  makers_proper text c = makers_from_proper (heads_of names text) (length (heads_of names text)) c (heads_ok text)

  names_heads : (text : Program) → length (class_names text) ≡ length (heads_of names text)
  names_heads [] = refl
  names_heads (Class at x base base_at members ∷ rest) = ap suc (names_heads rest)
  names_heads (Function x r ∷ rest) = names_heads rest
  names_heads (Main a ∷ rest) = names_heads rest

  pub bases_within : (text : Program) → ((x b : ℕ) → names x ≡ Some b → class_number (class_names text) x ≡ Some b) → (c b : ℕ) → base_of (heads_of names text) c ≡ Some b → b < length (heads_of names text)
  bases_within text same c b h =
      let hs = heads_of names text in
      let F : Option ClassHead → Option ℕ = λ x. elim x [ None ↦ None | Some class ↦ class.base ] in
      some_or_none (b < length hs) (slice_get hs c)
      (λ head q. let (takes_ok, bases_ok) = heads_get hs c head (heads_ok text) q in
      let (x, named) = bases_ok b (sym (ap F q) ∙ h) in
      let (i, at, y, is, test) = position_is (λ (y : ℕ). y == x) 0 (class_names text) b (same x b named) in
      let near : i < length (class_names text) = get_within (class_names text) i y is in
      omega (arith, near, at, names_heads text))
      (λ q. let z : None ≡ Some b = sym (ap F q) ∙ h in cc)

-- chains of bases end
chains_end : (classes : List ClassHead) (j : ℕ) (heads : List ClassHead) (i : ℕ) → chains_failure classes j heads ≡ None → i < length heads → above classes (length classes) (j + i) ≡ None
chains_end classes j [] i h near = absurd (omega arith)
chains_end classes j (head ∷ rest) zero h near =
    let A = chain_failure classes j head in
    let z : j ≡ j + zero = omega arith in
    let here : is_endless classes j ≡ false = not_true (is_endless classes j) (unless_true (not (is_endless classes j)) ClassCycle head.at (first A (chains_failure classes (j + 1) rest) h)) in
    ap (λ (x : ℕ). above classes (length classes) x) (sym z) ∙ not_some (above classes (length classes) j) here
chains_end classes j (head ∷ rest) (suc i) h near =
    let A = chain_failure classes j head in
    let z : j + 1 + i ≡ j + suc i = omega arith in
    ap (λ (x : ℕ). above classes (length classes) x) (sym z) ∙ chains_end classes (j + 1) rest i (last A (chains_failure classes (j + 1) rest) h) (omega arith)

pub all_chains_end : (classes : List ClassHead) (c : ℕ) → chains_failure classes 0 classes ≡ None → c < length classes → above classes (length classes) c ≡ None
all_chains_end classes c h near = ap (λ (x : ℕ). above classes (length classes) x) (let z : c ≡ 0 + c = omega arith in z) ∙ chains_end classes 0 classes c h near
