-- Where more types are known, no less is declared, returned and derived.
use Rattle.std.proofs.Common.{◌≡◌, ℕ, zero, suc, refl, sym, subst, Bool, true, false, Option, Some, None, List, [], ◌∷◌, ◌++◌}
use Rattle.std.specs.Prelude.{if◌then◌else◌, slice_get, nat_lt}
use Rattle.std.specs.Option.{option_or}
use Rattle.sts_base.specs.declared.tables.Tables.{Tables}
use Rattle.sts_syntax.specs.Annotations.{Annotation}
use Rattle.sts_syntax.specs.Trees.{Tree, OptionalTree, absent, present, Statement, Block, Let, IfOnly, IfElse, While, DoWhile, For, ForOf, Return, Break, Continue, Plain, Empty, Statements, done, also, OptionalStatement, omitted, written, Declaration, Declare, Declarations, ended, next}
use Rattle.sts_scope.specs.declared.kinds.StaticType.{StaticType}
use Rattle.sts_scope.specs.declared.known.Known.{Known}
use Rattle.sts_scope.specs.declared.known.Local.{Local}
use Rattle.sts_scope.specs.Kinds.{is_array, item}
use Rattle.sts_scope.specs.Entries.{Naming, kind_of}
use Rattle.sts_scope.specs.Places.{NameScope, with, inner, local, outside}
use Rattle.sts_scope.specs.Rules.{kind_at}
use Rattle.type_derive.specs.declared.roles.Role.TheVariants.{Free}
use Rattle.type_derive.specs.Typing.{type_of}
use Rattle.type_derive.specs.Returns.{is_alone, parameter_locals, within, bound, declared, all_declared, after, after_first, items_of, looped, returned, all_returned, answered}
use Rattle.type_derive.specs.Derived.{Source, Stated, Initial, Returns, Less, Within, follows, rule, at}
use Rattle.type_derive.specs.Laws.{LocalsGrow, KnownGrows, PlaceGrows}
use Rattle.type_derive.proofs.Grows.{less_refl, grows, same_length}

-- a value is returned in both or in neither
abbrev pub ReturnGrows : Option (Option StaticType) → Option (Option StaticType) → Type 0
ReturnGrows None None = Unit {0}
ReturnGrows None (Some o) = ⊥
ReturnGrows (Some o) None = ⊥
ReturnGrows (Some o) (Some u) = Less o u

append_grows : (ls ms : List Local) (a b : Local) → LocalsGrow ls ms → b.name ≡ a.name → b.fixed ≡ a.fixed → Less a.kind b.kind → LocalsGrow (ls ++ a ∷ []) (ms ++ b ∷ [])
append_grows [] [] a b h n f k = (n, f, k, tt)
append_grows (l ∷ ls) (m ∷ ms) a b h n f k = (h.0, h.1, h.2, append_grows ls ms a b h.3 n f k)
append_grows [] (m ∷ ms) a b h n f k = absurd h
append_grows (l ∷ ls) [] a b h n f k = absurd h

locals_refl : (ls : List Local) → LocalsGrow ls ls
locals_refl [] = tt
locals_refl (l ∷ ls) = (refl, refl, less_refl l.kind, locals_refl ls)

place_refl : (p : NameScope) → PlaceGrows p p
place_refl p = record { around = locals_refl p.around; locals = locals_refl p.locals; block = refl; this = refl; library = refl }

with_grows : (p q : NameScope) (x : ℕ) (o u : Option StaticType) (fixed : Bool) → PlaceGrows p q → Less o u → PlaceGrows (with p x o fixed) (with q x u fixed)
with_grows p q x o u fixed h i = record {
  locals = append_grows p.locals q.locals (local x o fixed) (local x u fixed) h.locals refl refl i;
  around = h.around;
  block = h.block;
  this = h.this;
  library = h.library;
}

inner_grows : (p q : NameScope) → PlaceGrows p q → PlaceGrows (inner p) (inner q)
inner_grows p q h = record { around = h.around; locals = h.locals; block = same_length p.locals q.locals h.locals; this = h.this; library = h.library }

or_grows : (a b c d : Option (Option StaticType)) → ReturnGrows a b → ReturnGrows c d → ReturnGrows (option_or a c) (option_or b d)
or_grows None None c d h i = i
or_grows (Some a) (Some b) c d h i = h
or_grows None (Some b) c d h i = absurd h
or_grows (Some a) None c d h i = absurd h

unless_less : (b : Bool) (x y : Option StaticType) → Less x y → Less (if b then None else x) (if b then None else y)
unless_less true x y h = tt
unless_less false x y h = h

items_less : (tables : Tables) (names : Naming) (k l : Known) (o u : Option StaticType) → Less o u → Less (items_of o) (items_of u)
items_less tables names k l None u h = tt
items_less tables names k l (Some t) u h =
    let P : Option StaticType → Type 0 = λ z. Less (if is_array t then Some (item t) else None) (items_of z) in
    subst P (sym h) (less_refl (if is_array t then Some (item t) else None))

pub answered_grows : (a b : Option (Option StaticType)) → ReturnGrows a b → Less (answered a) (answered b)
answered_grows None None h = refl
answered_grows (Some a) (Some b) h = h
answered_grows None (Some b) h = absurd h
answered_grows (Some a) None h = absurd h

module _ (tables : Tables) (names : Naming) (k l : Known) (g : KnownGrows k l) where
  pub bound_grows : (p q : NameScope) (shape : Option Annotation) (first : OptionalTree) → PlaceGrows p q → Less (bound tables names k p shape first) (bound tables names l q shape first)
  bound_grows p q (Some a) first h = less_refl (kind_of names a)
  bound_grows p q None absent h = tt
  bound_grows p q None (present e) h = unless_less (is_alone e) (type_of tables k p Free e) (type_of tables l q Free e) (grows tables k l g p q h Free e)

  declared_grows : (p q : NameScope) (fixed : Bool) (a : Declaration) → PlaceGrows p q → PlaceGrows (declared tables names k p fixed a) (declared tables names l q fixed a)
  declared_grows p q fixed (Declare at x shape first) h =
      with_grows p q x (bound tables names k p shape first) (bound tables names l q shape first) fixed h (bound_grows p q shape first h)

  all_grow : (p q : NameScope) (fixed : Bool) (each : Declarations) → PlaceGrows p q → PlaceGrows (all_declared tables names k p fixed each) (all_declared tables names l q fixed each)
  all_grow p q fixed ended h = h
  all_grow p q fixed (next a rest) h =
      all_grow (declared tables names k p fixed a) (declared tables names l q fixed a) fixed rest (declared_grows p q fixed a h)

  after_grows : (p q : NameScope) (s : Statement) → PlaceGrows p q → PlaceGrows (after tables names k p s) (after tables names l q s)
  after_grows p q (Let at fixed each) h = all_grow p q fixed each h
  after_grows p q _ h = h

  first_grows : (p q : NameScope) (s : OptionalStatement) → PlaceGrows p q → PlaceGrows (after_first tables names k p s) (after_first tables names l q s)
  first_grows p q omitted h = h
  first_grows p q (written a) h = after_grows p q a h

  looped_grows : (p q : NameScope) (fixed : Bool) (x : ℕ) (list : Tree) → PlaceGrows p q → PlaceGrows (looped tables k p fixed x list) (looped tables l q fixed x list)
  looped_grows p q fixed x list h =
      with_grows (inner p) (inner q) x (items_of (type_of tables k p Free list)) (items_of (type_of tables l q Free list)) fixed (inner_grows p q h)
      (items_less tables names k l (type_of tables k p Free list) (type_of tables l q Free list) (grows tables k l g p q h Free list))

  mutual
    pub returned_grows : (p q : NameScope) (s : Statement) → PlaceGrows p q → ReturnGrows (returned tables names k p s) (returned tables names l q s)
    returned_grows p q (Return at (present e)) h = grows tables k l g p q h Free e
    returned_grows p q (Return at absent) h = tt
    returned_grows p q (Block at all) h = statements_grow (inner p) (inner q) all (inner_grows p q h)
    returned_grows p q (IfOnly at test a) h = returned_grows (inner p) (inner q) a (inner_grows p q h)
    returned_grows p q (IfElse at test a b) h =
        or_grows (returned tables names k (inner p) a) (returned tables names l (inner q) a) (returned tables names k (inner p) b) (returned tables names l (inner q) b)
        (returned_grows (inner p) (inner q) a (inner_grows p q h)) (returned_grows (inner p) (inner q) b (inner_grows p q h))
    returned_grows p q (While at test a) h = returned_grows (inner p) (inner q) a (inner_grows p q h)
    returned_grows p q (DoWhile at a test) h = returned_grows (inner p) (inner q) a (inner_grows p q h)
    returned_grows p q (For at first test step a) h =
        let x = after_first tables names k (inner p) first in
        let y = after_first tables names l (inner q) first in
        returned_grows (inner x) (inner y) a (inner_grows x y (first_grows (inner p) (inner q) first (inner_grows p q h)))
    returned_grows p q (ForOf at fixed x list a) h =
        let y = looped tables k p fixed x list in
        let z = looped tables l q fixed x list in
        returned_grows (inner y) (inner z) a (inner_grows y z (looped_grows p q fixed x list h))
    returned_grows p q (Let at fixed each) h = tt
    returned_grows p q (Break at) h = tt
    returned_grows p q (Continue at) h = tt
    returned_grows p q (Plain at e) h = tt
    returned_grows p q (Empty at) h = tt

    pub statements_grow : (p q : NameScope) (all : Statements) → PlaceGrows p q → ReturnGrows (all_returned tables names k p all) (all_returned tables names l q all)
    statements_grow p q done h = tt
    statements_grow p q (also s rest) h =
        let x = after tables names k p s in
        let y = after tables names l q s in
        or_grows (returned tables names k p s) (returned tables names l q s) (all_returned tables names k x rest) (all_returned tables names l y rest)
        (returned_grows p q s h) (statements_grow x y rest (after_grows p q s h))

  pub follows_grows : (library : Bool) (source : Source) → Less (follows names tables k library source) (follows names tables l library source)
  follows_grows library (Stated kind) = less_refl kind
  follows_grows library (Initial self first) = let p = outside self library None in bound_grows p p None first (place_refl p)
  follows_grows library (Returns self params all) =
      let p = within (parameter_locals names params) self None library in
      answered_grows (all_returned tables names k p all) (all_returned tables names l p all) (statements_grow p p all (place_refl p))

-- a table read at a place
kind_there : (k : Known) (xs : List (Option StaticType)) (d : ℕ) → kind_at (record k { kinds = xs }) d ≡ at xs d
kind_there k [] d = refl
kind_there k (x ∷ xs) zero = refl
kind_there k (x ∷ xs) (suc d) = kind_there k xs d

known_grows : (k : Known) (xs ys : List (Option StaticType)) → Within xs ys → KnownGrows (record k { kinds = xs }) (record k { kinds = ys })
known_grows k xs ys h = record {
  entries = refl;
  classes = refl;
  library = refl;
  kinds = λ d.
      let P : Option StaticType → Type 0 = λ z. Less z (kind_at (record k { kinds = ys }) d) in
      let Q : Option StaticType → Type 0 = λ z. Less (at xs d) z in
      subst P (sym (kind_there k xs d)) (subst Q (sym (kind_there k ys d)) (h d));
}

abbrev ruled : Tables → Naming → Known → Bool → Option Source → Option StaticType
ruled tables names k library o = elim o [ None ↦ None | Some source ↦ follows names tables k library source ]

ruled_grows : (tables : Tables) (names : Naming) (k l : Known) (library : Bool) (o : Option Source) → KnownGrows k l → Less (ruled tables names k library o) (ruled tables names l library o)
ruled_grows tables names k l library None g = tt
ruled_grows tables names k l library (Some source) g = follows_grows tables names k l g library source

-- a rule gives no less where more is known
pub rule_grows : (tables : Tables) (names : Naming) (k : Known) (sources : List Source) (xs ys : List (Option StaticType)) → Within xs ys → (d : ℕ) →
    Less (rule tables names k sources xs d) (rule tables names k sources ys d)
rule_grows tables names k sources xs ys h d =
    ruled_grows tables names (record k { kinds = xs }) (record k { kinds = ys }) (nat_lt d k.library) (slice_get sources d) (known_grows k xs ys h)
