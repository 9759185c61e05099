-- Blocks leave sites as they found them.
use Rattle.std.proofs.Common.{◌≡◌, ℕ, List, [], ◌∷◌, ◌++◌, length, take, refl, sym, ap, ◌∙◌, append_assoc, append-nil}
use Rattle.std.specs.Prelude.{Result, Ok, Err, OnOk}
use Rattle.sts_base.specs.declared.tables.Tables.{Tables}
use Rattle.sts_syntax.specs.declared.typed.Spot.{Spot}
use Rattle.sts_syntax.specs.Trees.{Statement}
use Rattle.sts_scope.specs.declared.known.Known.{Known}
use Rattle.sts_scope.specs.declared.known.Local.{Local}
use Rattle.sts_scope.specs.Entries.{Naming}
use Rattle.sts_scope.specs.Places.{NameScope}
use Rattle.type_derive.specs.Built.{Site, in_block, new_spots}
use Rattle.type_derive.specs.inner.Filled.{behind_statement}
use Rattle.type_derive.specs.Scopes.{Extends, left}
use Rattle.sts_scope.specs.Numbers.{Numbering}
use Rattle.type_derive.specs.Returns.{after}
use Rattle.type_derive.proofs.Laws.{after_extends}
use Rattle.typed_numbers.specs.Building.{numbering_of}
use Rattle.typed_trees.specs.declared.build_places.Plan.{Plan}
use Rattle.typed_trees.specs.Grown.{Grown}
use Rattle.typed_trees.specs.Sites.{naming, behind}

taken : {A : Type 0} (xs ys : List A) → take (length xs) (xs ++ ys) ≡ xs
taken [] ys = refl
taken (x ∷ xs) ys = ap (λ zs. x ∷ zs) (taken xs ys)

abbrev pub site_of : NameScope → List Spot → Site
site_of p xs = record { place = p; spots = xs }

pub site_is : (p q : NameScope) (xs ys : List Spot) → p ≡ q → xs ≡ ys → site_of p xs ≡ site_of q ys
site_is p q xs ys e f = ap (λ (r : NameScope). site_of r xs) e ∙ ap (λ (zs : List Spot). site_of q zs) f

pub grown_not : (p : Site) → Grown p p
grown_not p = record {
  locals = [];
  spots = [];
  block = p.place.block;
  place_is = ap {B = NameScope} (λ (ls : List Local). record p.place { locals = ls }) (sym (append-nil p.place.locals));
  spots_are = sym (append-nil p.spots);
}

pub grown_is : (p q r : Site) → Grown p q → r ≡ q → Grown p r
grown_is p q r g e = record {
  locals = g.locals;
  spots = g.spots;
  block = g.block;
  place_is = ap (λ (s : Site). s.place) e ∙ g.place_is;
  spots_are = ap (λ (s : Site). s.spots) e ∙ g.spots_are;
}

pub grown_further : (p q r : Site) → Grown p q → Grown q r → Grown p r
grown_further p q r g h = record {
  locals = g.locals ++ h.locals;
  spots = g.spots ++ h.spots;
  block = h.block;
  place_is = h.place_is ∙ ap {B = NameScope} (λ (s : NameScope). record s { locals = s.locals ++ h.locals; block = h.block }) g.place_is
      ∙ ap {B = NameScope} (λ (ls : List Local). record p.place { locals = ls; block = h.block }) (append_assoc p.place.locals g.locals h.locals);
  spots_are = h.spots_are ∙ ap (λ (xs : List Spot). xs ++ h.spots) g.spots_are ∙ append_assoc p.spots g.spots h.spots;
}

pub grown_block : (p : Site) → Grown p (in_block p)
grown_block p = record {
  locals = [];
  spots = [];
  block = length p.place.locals;
  place_is = ap {B = NameScope} (λ (ls : List Local). record p.place { locals = ls; block = length p.place.locals }) (sym (append-nil p.place.locals));
  spots_are = sym (append-nil p.spots);
}

grown_place : (p : Site) (q : NameScope) (xs : List Spot) → Extends p.place q → Grown p (record { place = q; spots = p.spots ++ xs })
grown_place p q xs (more, e) = record { locals = more; spots = xs; block = p.place.block; place_is = e; spots_are = refl }

pub grown_behind : (t : Tables) (f : Naming) (k : Known) (n : Numbering) (m : ℕ) (p : Site) (a : Statement) → Grown p (behind_statement t f k n m p a)
grown_behind t f k n m p a = grown_place p (after t f k p.place a) (new_spots m a) (after_extends t f k p.place a)

-- the same where it was done
pub grown_on_ok : {A E : Type 0} (l : Plan) (m : ℕ) (p q : Site) (a : Statement) (r : Result A E) → OnOk r (q ≡ behind l m p a) → OnOk r (Grown p q)
grown_on_ok l m p q a (Ok x) h = grown_is p (behind l m p a) q (grown_behind l.tables.now (naming l) l.known.now (numbering_of l.numbers.now) m p a) h
grown_on_ok l m p q a (Err x) h = tt

-- a block ended, and all is as it was around it
pub site_closed : (p q r : Site) (n block spots : ℕ) → Grown p q → r.place ≡ left q.place n block → r.spots ≡ take spots q.spots → n ≡ length p.place.locals → block ≡ p.place.block → spots ≡ length p.spots → r ≡ p
site_closed p q r n block spots g hp hs en eb es =
    let P : r.place ≡ p.place =
    hp ∙ ap {B = NameScope} (λ (s : NameScope). left s n block) g.place_is
    ∙ ap {B = NameScope} (λ (m : ℕ). record p.place { locals = take m (p.place.locals ++ g.locals); block = block }) en
    ∙ ap {B = NameScope} (λ (b : ℕ). record p.place { locals = take (length p.place.locals) (p.place.locals ++ g.locals); block = b }) eb
    ∙ ap {B = NameScope} (λ (ls : List Local). record p.place { locals = ls }) (taken p.place.locals g.locals) in
    let S : r.spots ≡ p.spots = hs ∙ ap (λ (xs : List Spot). take spots xs) g.spots_are ∙ ap (λ (m : ℕ). take m (p.spots ++ g.spots)) es ∙ taken p.spots g.spots in
    site_is r.place p.place r.spots p.spots P S
