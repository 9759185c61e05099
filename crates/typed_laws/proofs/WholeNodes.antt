-- What the making of typed trees looks for is there.
use Rattle.std.proofs.Common.{◌≡◌, ℕ, suc, ◌+◌, refl, sym, ap, subst, Bool, true, false, Option, Some, None, List, [], ◌∷◌, ◌++◌, length, arith}
use Rattle.std.specs.Prelude.{ℤ, is_some, IsSome, not, if◌then◌else◌}
use Rattle.std.proofs.lemmas.List.{length-append}
use Rattle.sts_base.specs.declared.tables.Tables.{Tables}
use Rattle.sts_base.specs.declared.refused.Code.TheVariants.{UnknownName, NeedsType, Mismatch}
use Rattle.sts_syntax.specs.Annotations.{Annotation}
use Rattle.sts_syntax.specs.BoardTable.{row_of}
use Rattle.sts_syntax.specs.declared.board_calls.BoardCall.{BoardCall}
use Rattle.sts_syntax.specs.Trees.{Parameter, Tree, Num, Text, Truth, Null, This, Name, Unary, Binary, Both, Either, Choice, Set, Bump, Member, Item, Items, Call, SuperCall, Make, Handler, Trees, none, more, OptionalTree, Statement, Block, Let, IfOnly, IfElse, While, DoWhile, For, ForOf, Return, Break, Continue, Plain, Empty, Declare, Declarations, ended, next}
use Rattle.sts_scope.specs.declared.kinds.StaticType.{StaticType}
use Rattle.sts_scope.specs.declared.known.Known.{Known}
use Rattle.sts_scope.specs.declared.known.Found.{Found}
use Rattle.sts_scope.specs.declared.known.Found.TheVariants as found
use Rattle.sts_scope.specs.declared.known.Part.{Part}
use Rattle.sts_scope.specs.declared.known.Part.TheVariants as part
use Rattle.sts_scope.specs.Entries.{Naming, kind_of}
use Rattle.sts_scope.specs.Failures.{◌then◌, unless, own}
use Rattle.sts_scope.specs.Globals.{is_dollar}
use Rattle.sts_scope.specs.Headings.{written_failure, type_name_failure}
use Rattle.sts_scope.specs.Kinds.{number, item, object}
use Rattle.sts_scope.specs.Places.{NameScope, inner}
use Rattle.sts_scope.specs.Rules.{name_kind, kind_at, takes_at, maker_takes_of, part_of, part_kind, all_go}
use Rattle.type_derive.specs.declared.roles.Role.{Role}
use Rattle.type_derive.specs.declared.roles.Role.TheVariants.{Free}
use Rattle.type_derive.specs.Built.{Site, spots_from, behind_statement}
use Rattle.type_derive.specs.Nodes.{failure, statement_failure, initial_failure, own_local, own_bound, is_list}
use Rattle.type_derive.specs.Functions.{parameter_spots}
use Rattle.type_derive.specs.Returns.{bound, looped, items_of, all_declared, declared, parameter_locals}
use Rattle.type_derive.specs.Typing.{◌>>=◌, Callee, callee, finds, constant_of, board_callee, named_callee, part_callee, callee_of, super_method, made, called, type_of, types_of, are_given, is_given, board_kind}
use Rattle.typed_laws.specs.Laws.{IsRead}
use Rattle.typed_laws.specs.Needs.{IsReadName, IsReadPart, IsCalledName, IsCalledPart, IsCalledTree, ArgumentsGo, IsWholeNode, HasSpots}
use Rattle.typed_laws.proofs.Names.{bind_some, some_is, called_parts, HasPart, has_part}
use Rattle.typed_laws.proofs.Typed.{typed, some, last, first, own_has, unless_true}

there : {A : Type 0} (o : Option A) (x : A) → o ≡ Some x → IsSome o
there o x h = ap is_some h

if_true : {A : Type 0} (b : Bool) (x y : A) → (if b then Some x else None) ≡ Some y → b ≡ true
if_true true x y h = refl
if_true false x y h = cc

module _ (tables : Tables) (k : Known) (p : NameScope) where
  name_whole : (f : Found) (u : StaticType) → name_kind k p f ≡ Some u → IsReadName k p f
  name_whole (found.Local i) u h = ap is_some h
  name_whole (found.Global d) u h = ap is_some h
  name_whole found.Captured u h = cc
  name_whole (found.Function d) u h = cc
  name_whole (found.Class c) u h = cc
  name_whole found.Unknown u h = cc

  part_whole : (v : StaticType) (m : ℕ) (a : Part) (u : StaticType) → HasPart k v m a → part_kind k a ≡ Some u → IsReadPart v a
  part_whole v m (part.Field d) u (c, is, has) h = (c, is)
  part_whole v m part.Length u has h = tt
  part_whole v m (part.Method d) u has h = cc
  part_whole v m (part.Push t) u has h = cc
  part_whole v m (part.Pop t) u has h = cc
  part_whole v m part.Missing u has h = cc

  abbrev MemberWhole : Tree → ℕ → Option ℤ → Type 0
  MemberWhole a m z = elim z [ Some y ↦ Unit {0} | None ↦ (u : StaticType) × (type_of tables k p Free a ≡ Some u) × IsReadPart u (part_of tables.names k u m) ]

  member_whole : (a : Tree) (m : ℕ) (z : Option ℤ) (u : StaticType) → elim z [ Some y ↦ Some number | None ↦ type_of tables k p Free a >>= λ v. part_kind k (part_of tables.names k v m) ] ≡ Some u → MemberWhole a m z
  member_whole a m (Some y) u h = tt
  member_whole a m None u h =
      let (v, is, h1) = bind_some (type_of tables k p Free a) (λ v. part_kind k (part_of tables.names k v m)) u h in
      (v, is, part_whole v m (part_of tables.names k v m) u (has_part k tables.names v m) h1)

  -- what is called
  called_name : (f : Found) (d : Callee) → named_callee k f ≡ Some d → IsCalledName f
  called_name (found.Function j) d h = tt
  called_name (found.Local i) d h = cc
  called_name (found.Global j) d h = cc
  called_name found.Captured d h = cc
  called_name (found.Class c) d h = cc
  called_name found.Unknown d h = cc

  called_part : (v : StaticType) (m : ℕ) (a : Part) (d : Callee) → HasPart k v m a → part_callee k a ≡ Some d → IsCalledPart v a
  called_part v m (part.Method j) d (c, is, has) h = (c, is)
  called_part v m (part.Push t) d has h = tt
  called_part v m (part.Pop t) d has h = tt
  called_part v m (part.Field j) d has h = cc
  called_part v m part.Length d has h = cc
  called_part v m part.Missing d has h = cc

  called_tree : (f : Tree) (d : Callee) → callee_of tables k p f ≡ Some d → IsCalledTree tables k p f
  called_tree (Name at x) d h = called_name (finds tables k p x) d h
  called_tree (Member at a m) d h =
      let (v, is, h1) = bind_some (type_of tables k p Free a) (λ v. part_callee k (part_of tables.names k v m)) d h in
      (v, is, called_part v m (part_of tables.names k v m) d (has_part k tables.names v m) h1)
  called_tree (Num at n) d h = cc
  called_tree (Text at n) d h = cc
  called_tree (Truth at b) d h = cc
  called_tree (Null at) d h = cc
  called_tree (This at) d h = cc
  called_tree (Unary at op a) d h = cc
  called_tree (Binary at op a b) d h = cc
  called_tree (Both at a b) d h = cc
  called_tree (Either at a b) d h = cc
  called_tree (Choice at c a b) d h = cc
  called_tree (Set at op x e) d h = cc
  called_tree (Bump at x by late) d h = cc
  called_tree (Item at a i) d h = cc
  called_tree (Items at items) d h = cc
  called_tree (Call at f args) d h = cc
  called_tree (SuperCall at m args) d h = cc
  called_tree (Make at x args) d h = cc
  called_tree (Handler at body) d h = cc

  abbrev CallWhole : Tree → Trees → Option BoardCall → Type 0
  CallWhole f args b = elim b [
    | Some call ↦ are_given tables k p (row_of call).takes args ≡ true
    | None ↦ IsCalledTree tables k p f × (d : Callee) × (callee_of tables k p f ≡ Some d) × ArgumentsGo tables k p d.takes args
  ]

  call_whole : (f : Tree) (args : Trees) (b : Option BoardCall) (u : StaticType) → elim b [
    | Some call ↦ if are_given tables k p (row_of call).takes args then Some (board_kind (row_of call).gives) else None
    | None ↦ called k (callee_of tables k p f) (types_of tables k p args)
  ] ≡ Some u → CallWhole f args b
  call_whole f args (Some call) u h = if_true (are_given tables k p (row_of call).takes args) (board_kind (row_of call).gives) u h
  call_whole f args None u h =
      let (d, us, is, ts, go, gives) = called_parts tables k (callee_of tables k p f) (types_of tables k p args) u h in
      (called_tree f d is, d, is, (us, ts, go))

  super_whole : (args : Trees) (d : Option ℕ) (u : StaticType) → called k (d >>= λ j. Some (callee (takes_at k.entries j) (kind_at k j))) (types_of tables k p args) ≡ Some u
      → (j : ℕ) × (d ≡ Some j) × ArgumentsGo tables k p (takes_at k.entries j) args
  super_whole args None u h = cc
  super_whole args (Some j) u h =
      let (x, us, is, ts, go, gives) = called_parts tables k (Some (callee (takes_at k.entries j) (kind_at k j))) (types_of tables k p args) u h in
      let same : callee (takes_at k.entries j) (kind_at k j) ≡ x = some_is _ x is in
      (j, refl, (us, ts, subst (λ (d : Callee). all_go k.classes us d.takes ≡ true) (sym same) go))

  make_whole : (args : Trees) (f : Found) (u : StaticType) → called k (made k f) (types_of tables k p args) ≡ Some u → (c : ℕ) × (f ≡ found.Class c) × ArgumentsGo tables k p (maker_takes_of k.classes c) args
  make_whole args (found.Class c) u h =
      let (x, us, is, ts, go, gives) = called_parts tables k (made k (found.Class c)) (types_of tables k p args) u h in
      let same : callee (maker_takes_of k.classes c) (Some (object c)) ≡ x = some_is _ x is in
      (c, refl, (us, ts, subst (λ (d : Callee). all_go k.classes us d.takes ≡ true) (sym same) go))
  make_whole args (found.Local i) u h = cc
  make_whole args (found.Global d) u h = cc
  make_whole args found.Captured u h = cc
  make_whole args (found.Function d) u h = cc
  make_whole args found.Unknown u h = cc

  -- a node with a type
  typed_whole : (r : Role) (e : Tree) (u : StaticType) → type_of tables k p r e ≡ Some u → IsWholeNode tables k p r e
  typed_whole r (Name at x) u h = name_whole (finds tables k p x) u h
  typed_whole r (Member at a m) u h = member_whole a m (constant_of tables k p a m) u h
  typed_whole r (Call at f args) u h = call_whole f args (board_callee tables k p f) u h
  typed_whole r (SuperCall at None args) u h = cc
  typed_whole r (SuperCall at (Some m) args) u h = super_whole args (super_method k p.this m) u h
  typed_whole r (Make at x args) u h = make_whole args (finds tables k p x) u h
  typed_whole r (Items at none) u h = if_true (is_given r) _ u h
  typed_whole r (Items at (more e rest)) u h = tt
  typed_whole r (Handler at body) u h = cc
  typed_whole r (Num at n) u h = tt
  typed_whole r (Text at n) u h = tt
  typed_whole r (Truth at b) u h = tt
  typed_whole r (Null at) u h = tt
  typed_whole r (This at) u h = tt
  typed_whole r (Unary at op a) u h = tt
  typed_whole r (Binary at op a b) u h = tt
  typed_whole r (Both at a b) u h = tt
  typed_whole r (Either at a b) u h = tt
  typed_whole r (Choice at c a b) u h = tt
  typed_whole r (Set at op x e) u h = tt
  typed_whole r (Bump at x by late) u h = tt
  typed_whole r (Item at a i) u h = tt

  pub node_whole : (names : Naming) (r : Role) (e : Tree) → IsRead r → failure tables names k p r e ≡ None → IsWholeNode tables k p r e
  node_whole names r e read h = let has = typed tables names k p r e read h in typed_whole r e has.it has.is

  -- types of declared names and of items
  pub bound_whole : (names : Naming) (at x : ℕ) (shape : Option Annotation) (first' : OptionalTree) →
      (written_failure names at shape then initial_failure tables names k p shape first' then own_local tables p x at then own_bound tables names k p shape first' at) ≡ None → IsSome (bound tables names k p shape first')
  bound_whole names at x (Some a) first' h =
      let written = first (written_failure names at (Some a)) _ h in
      some (kind_of names a) (own_has (kind_of names a) UnknownName at (last (type_name_failure names a) (own (kind_of names a) UnknownName at) written))
  bound_whole names at x None first' h =
      let rest = last (initial_failure tables names k p None first') (own_local tables p x at then own_bound tables names k p None first' at) h in
      some (bound tables names k p None first') (own_has (bound tables names k p None first') NeedsType at (last (own_local tables p x at) (own_bound tables names k p None first' at) rest))

  list_whole : (names : Naming) (o : Option StaticType) → is_list o ≡ true → IsSome (items_of o)
  list_whole names None h = cc
  list_whole names (Some t) h = ap (λ b. is_some (if b then Some (item t) else None)) h

  pub loop_whole : (names : Naming) (at x : ℕ) (fixed : Bool) (list : Tree) (a : Statement) → statement_failure tables names k p (ForOf at fixed x list a) ≡ None → IsSome (items_of (type_of tables k p Free list))
  loop_whole names at x fixed list a h =
      let o = type_of tables k p Free list in
      let A = failure tables names k p Free list in
      let B = statement_failure tables names k (inner (looped tables k p fixed x list)) a in
      let C = unless (not (is_dollar tables.names x)) UnknownName at in
      let D = unless (is_list o) Mismatch at in
      list_whole names o (unless_true (is_list o) Mismatch at (last C D (last B (C then D) (last A (B then C then D) h))))

-- spots
pub one_more : {A B : Type 0} (xs : List A) (ys : List B) (x : A) (y : B) → length xs ≡ length ys → length (xs ++ x ∷ []) ≡ length (ys ++ y ∷ [])
one_more {A} {B} xs ys x y h = let a = length-append xs (x ∷ []) in let b = length-append ys (y ∷ []) in omega (arith, a, b, h)

pub parameters_spots : (names : Naming) (i : ℕ) (params : List Parameter) → length (parameter_spots i params) ≡ length (parameter_locals names params)
parameters_spots names i [] = refl
parameters_spots names i (q ∷ rest) = ap suc (parameters_spots names (suc i) rest)

none_more : (s : Site) → HasSpots s → length (s.spots ++ []) ≡ length s.place.locals
none_more s h = let a = length-append s.spots [] in omega (arith, a, h)

module _ (tables : Tables) (names : Naming) (k : Known) where
  declared_spots : (m : ℕ) (p : NameScope) (fixed : Bool) (each : Declarations) → length (spots_from m each) + length p.locals ≡ length (all_declared tables names k p fixed each).locals
  declared_spots m p fixed ended = omega arith
  declared_spots m p fixed (next (Declare at x shape first') rest) =
      let q : NameScope = declared tables names k p fixed (Declare at x shape first') in
      let a = declared_spots (suc m) q fixed rest in
      let b = length-append p.locals (record { name = x; kind = bound tables names k p shape first'; fixed = fixed } ∷ []) in
      omega (arith, a, b)

  pub statement_spots : (m : ℕ) (s : Site) (a : Statement) → HasSpots s → HasSpots (behind_statement tables names k m s a)
  statement_spots m s (Let at fixed each) h =
      let a = length-append s.spots (spots_from m each) in
      let b = declared_spots m s.place fixed each in
      omega (arith, a, b, h)
  statement_spots m s (Block at all) h = none_more s h
  statement_spots m s (IfOnly at test a) h = none_more s h
  statement_spots m s (IfElse at test a b) h = none_more s h
  statement_spots m s (While at test a) h = none_more s h
  statement_spots m s (DoWhile at a test) h = none_more s h
  statement_spots m s (For at one test step a) h = none_more s h
  statement_spots m s (ForOf at fixed x list a) h = none_more s h
  statement_spots m s (Return at value) h = none_more s h
  statement_spots m s (Break at) h = none_more s h
  statement_spots m s (Continue at) h = none_more s h
  statement_spots m s (Plain at e) h = none_more s h
  statement_spots m s (Empty at) h = none_more s h
