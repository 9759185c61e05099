-- The lines of classes.
use Rattle.std.proofs.Common.{◌≡◌, ℕ, zero, suc, ◌+◌, ◌-◌, ◌<◌, ◌≤◌, ◌==◌, ◌||◌, Bool, true, false, cond, Option, Some, None, List, [], ◌∷◌, ◌++◌, length, set, refl, sym, ap, ◌∙◌, arith, append_assoc, append-nil, subst}
use Rattle.std.specs.Prelude.{slice_get, is_some}
use Rattle.std.specs.Ordering.{nat_cmp, is_eq}
use Rattle.std.proofs.lemmas.Option.{same_Some}
use Rattle.std.proofs.lemmas.Bool.Decides.{nat_tests}
use Rattle.persistent_maps.specs.declared.maps.PersistentMap.{PersistentMap}
use Rattle.persistent_maps.specs.Maps.{value_in}
use Rattle.sts_scope.specs.declared.kinds.StaticType.{StaticType}
use Rattle.sts_scope.specs.declared.entries.Entry.{Entry}
use Rattle.sts_scope.specs.declared.entries.ClassHead.{ClassHead}
use Rattle.sts_scope.specs.declared.entries.Owner.TheVariants as o
use Rattle.sts_scope.specs.declared.lines.Line.{Line}
use Rattle.sts_scope.specs.declared.numbers.Numbers.{Numbers}
use Rattle.sts_scope.specs.Symbols.{member_at, IsIndexed}
use Rattle.std.specs.Option.{option_and_then, option_map_or, option_or, unwrap_or}
use Rattle.sts_scope.specs.Lookup.{base_of, entry_number, member_from, member_number}
use Rattle.sts_scope.specs.Bases.{is_endless, above as class_above}
use Rattle.sts_scope.specs.Rules.{reaches, maker_from, maker_takes_of}
use Rattle.sts_scope.specs.Lines.{takes_of, IsLine, AreLines, at, no_line, nearest_maker}
use Rattle.sts_scope.proofs.Puts.{noted, IsPut}

-- members that are put into a map
pub put_none : (all : List (ℕ × ℕ)) (base made : PersistentMap) → ((x : ℕ) → value_in made x ≡ value_in base x) → IsPut all all base made
put_none all base made h = record { done = []; parts = sym (append-nil all); same = h }

one_put : (b : Bool) (d : ℕ) (o p : Option ℕ) → cond b (Some d) (option_or o p) ≡ option_or (cond b (Some d) o) p
one_put true d o p = refl
one_put false d o p = refl

turned : (x y : ℕ) → (x == y) ≡ is_eq (nat_cmp y x)
turned x y = grind (arith, nat_tests)

pub put_one : (all rest left : List (ℕ × ℕ)) (base made new : PersistentMap) (x d : ℕ) → IsPut all rest base made → rest ≡ left ++ (x, d) ∷ [] →
    ((y : ℕ) → value_in new y ≡ cond (x == y) (Some d) (value_in made y)) → IsPut all left base new
put_one all rest left base made new x d p is h = record {
  done = (x, d) ∷ p.done;
  parts = p.parts ∙ ap (λ r. r ++ p.done) is ∙ append_assoc left ((x, d) ∷ []) p.done;
  same = λ y. h y ∙ ap (λ o. cond (x == y) (Some d) o) (p.same y) ∙ one_put (x == y) d (noted p.done y) (value_in base y)
      ∙ ap (λ b. option_or (cond b (Some d) (noted p.done y)) (value_in base y)) (turned x y);
}

-- the line above a class
empty_line : (entries : List Entry) (classes : List ClassHead) → IsLine entries classes None no_line
empty_line entries classes = record {
  ends = λ n h. refl;
  reached = λ n m h. refl;
  member = λ n x h. refl;
  maker = λ n h. refl;
}

pub none_is : (entries : List Entry) (classes : List ClassHead) (base : Option ℕ) → base ≡ None → IsLine entries classes base no_line
none_is entries classes base is = subst (λ b. IsLine entries classes b no_line) (sym is) (empty_line entries classes)

pub above_is : (entries : List Entry) (classes : List ClassHead) (lines : List (Option Line)) (base : Option ℕ) (b : ℕ) (line : Line) →
    AreLines entries classes lines → base ≡ Some b → at lines b ≡ Some line → IsLine entries classes base line
above_is entries classes lines base b line a is h = subst (λ o. IsLine entries classes o line) (sym is) (a b line h)

-- what is asked of a class's base
asked : {A : Type 0} (none : A) (f : ℕ → A) (o : Option ℕ) → ◌≡◌ {A = A} (elim o [ None ↦ none | Some b ↦ f b ]) (option_map_or f o none)
asked none f None = refl
asked none f (Some b) = refl

first : (o rest : Option ℕ) → ◌≡◌ {A = Option ℕ} (elim o [ Some d ↦ Some d | None ↦ rest ]) (option_or o rest)
first None rest = refl
first (Some d) rest = refl

own_member : (n : ℕ) (entries : List Entry) (classes : List ClassHead) (c x : ℕ) →
    member_from entries classes (suc n) c x ≡ option_or (entry_number entries (o.Class c) x) (option_and_then (λ b. member_from entries classes n b x) (base_of classes c))
own_member n entries classes c x =
    first (entry_number entries (o.Class c) x) (option_and_then (λ b. member_from entries classes n b x) (base_of classes c))

own_reach : (n : ℕ) (classes : List ClassHead) (c m : ℕ) → reaches classes (suc n) c m ≡ (c == m || option_map_or (λ b. reaches classes n b m) (base_of classes c) false)
unfolding reaches
own_reach n classes c m = ap (λ r. c == m || r) (asked false (λ b. reaches classes n b m) (base_of classes c))

-- what is taken by the nearest written constructor of a class, if it is its own one or not
own_maker : (n : ℕ) (classes : List ClassHead) (c : ℕ) (class : ClassHead) (takes : Option (List StaticType)) (up : Option ℕ) → slice_get classes c ≡ Some class → class.takes ≡ takes →
    option_map_or (maker_from classes n) (base_of classes c) [] ≡ takes_of classes up → maker_from classes (suc n) c ≡ takes_of classes (elim takes [ None ↦ up | Some t ↦ Some c ])
own_maker n classes c class None up is h rest =
    let based : base_of classes c ≡ class.base = ap (λ o. option_and_then (λ (k : ClassHead). k.base) o) is in
    ap (λ o. elim o [ None ↦ [] | Some k ↦ elim k.takes [ Some t ↦ t | None ↦ elim k.base [ None ↦ [] | Some b ↦ maker_from classes n b ] ] ]) is
    ∙ ap (λ t. elim t [ Some t ↦ t | None ↦ elim class.base [ None ↦ [] | Some b ↦ maker_from classes n b ] ]) h
    ∙ asked [] (maker_from classes n) class.base ∙ sym (ap (λ o. option_map_or (maker_from classes n) o []) based) ∙ rest
own_maker n classes c class (Some t) up is h rest =
    ap (λ o. elim o [ None ↦ [] | Some k ↦ elim k.takes [ Some t ↦ t | None ↦ elim k.base [ None ↦ [] | Some b ↦ maker_from classes n b ] ] ]) is
    ∙ ap (λ t. elim t [ Some t ↦ t | None ↦ elim class.base [ None ↦ [] | Some b ↦ maker_from classes n b ] ]) h
    ∙ sym (ap (λ o. option_map_or (λ (k : ClassHead). unwrap_or k.takes []) o []) is ∙ ap (λ t. unwrap_or t []) h)

seen_here : (b : Bool) (o : Option ℕ) → is_some (cond b (Some 0) o) ≡ (b || is_some o)
seen_here true o = refl
seen_here false o = refl

further : (len n : ℕ) → len + 1 ≤ n → n ≡ suc (n - 1)
further len n h = omega arith

fewer : (len n : ℕ) → len + 1 ≤ n → len ≤ n - 1
fewer len n h = omega arith

-- the line of a class over that of its base
pub line_longer : (entries : List Entry) (classes : List ClassHead) (c : ℕ) (class : ClassHead) (up line : Line) →
    slice_get classes c ≡ Some class → IsLine entries classes (base_of classes c) up → line.len ≡ up.len + 1 →
    ((y : ℕ) → value_in line.classes y ≡ cond (c == y) (Some 0) (value_in up.classes y)) →
    ((x : ℕ) → value_in line.members x ≡ option_or (entry_number entries (o.Class c) x) (value_in up.members x)) →
    line.maker ≡ nearest_maker class c up.maker → IsLine entries classes (Some c) line
line_longer entries classes c class up line is l len made put maker =
    record {
      ends = λ n h.
          let m : up.len + 1 ≤ n = omega (arith, len, h) in
          ap (λ k. class_above classes k c) (further up.len n m) ∙ l.ends (n - 1) (fewer up.len n m);
      reached = λ n y h.
          let m : up.len + 1 ≤ n = omega (arith, len, h) in
          ap (λ k. reaches classes k c y) (further up.len n m) ∙ own_reach (n - 1) classes c y ∙ ap (λ t. c == y || t) (l.reached (n - 1) y (fewer up.len n m))
          ∙ sym (seen_here (c == y) (value_in up.classes y)) ∙ ap is_some (sym (made y));
      member = λ n x h.
          let m : up.len + 1 ≤ n = omega (arith, len, h) in
          ap (λ k. member_from entries classes k c x) (further up.len n m) ∙ own_member (n - 1) entries classes c x
          ∙ ap (option_or (entry_number entries (o.Class c) x)) (l.member (n - 1) x (fewer up.len n m)) ∙ sym (put x);
      maker = λ n h.
          let m : up.len + 1 ≤ n = omega (arith, len, h) in
          ap (λ k. maker_from classes k c) (further up.len n m) ∙ own_maker (n - 1) classes c class class.takes up.maker is refl (l.maker (n - 1) (fewer up.len n m)) ∙ ap (takes_of classes) (sym maker);
    }

abbrev read : Option (Option Line) → Option Line
read o = elim o [ None ↦ None | Some line ↦ line ]

-- a list with another item
set_same : {A : Type 0} (xs : List A) (i : ℕ) (x : A) → i < length xs → slice_get (set xs i x) i ≡ Some x
set_same [] i x h = absurd (let z : i < 0 = h in omega arith)
set_same (y ∷ ys) zero x h = refl
set_same (y ∷ ys) (suc i) x h = let g : i < length ys = omega arith in set_same ys i x g

set_other : {A : Type 0} (xs : List A) (i j : ℕ) (x : A) → (j == i) ≡ false → slice_get (set xs i x) j ≡ slice_get xs j
set_other [] i j x h = refl
set_other (y ∷ ys) zero zero x h = absurd (cc)
set_other (y ∷ ys) zero (suc j) x h = refl
set_other (y ∷ ys) (suc i) zero x h = refl
set_other (y ∷ ys) (suc i) (suc j) x h = let g : (j == i) ≡ false = grind (arith, nat_tests) in set_other ys i j x g

none_end : (xs : List (Option Line)) (c : ℕ) → ((d : ℕ) → at xs d ≡ None) → at (xs ++ None ∷ []) c ≡ None
none_end [] zero h = refl
none_end [] (suc c) h = refl
none_end (x ∷ xs) zero h = h 0
none_end (x ∷ xs) (suc c) h = none_end xs c (λ d. h (suc d))

pub none_more : (xs : List (Option Line)) → ((d : ℕ) → at xs d ≡ None) → (c : ℕ) → at (xs ++ None ∷ []) c ≡ None
none_more xs h c = none_end xs c h

pub none_known : (entries : List Entry) (classes : List ClassHead) (lines : List (Option Line)) → ((c : ℕ) → at lines c ≡ None) → AreLines entries classes lines
none_known entries classes lines h = λ c line is. absurd (let e : ◌≡◌ {A = Option Line} None (Some line) = sym (h c) ∙ is in cc)

one_set : (entries : List Entry) (classes : List ClassHead) (lines : List (Option Line)) (c d : ℕ) (line other : Line) (b : Bool) → (d == c) ≡ b → c < length lines →
    AreLines entries classes lines → IsLine entries classes (Some c) line → at (set lines c (Some line)) d ≡ Some other → IsLine entries classes (Some d) other
one_set entries classes lines c d line other true e h a l is =
    let same : d ≡ c = grind (arith, nat_tests) in
    let put : line ≡ other = same_Some line other (sym (ap read (set_same lines c (Some line) h)) ∙ ap (at (set lines c (Some line))) (sym same) ∙ is) in
    subst (λ k. IsLine entries classes (Some k) other) (sym same) (subst (IsLine entries classes (Some c)) put l)
one_set entries classes lines c d line other false e h a l is =
    a d other (sym (ap read (set_other lines c d (Some line) e)) ∙ is)

pub lines_set : (entries : List Entry) (classes : List ClassHead) (lines : List (Option Line)) (c : ℕ) (line : Line) → c < length lines →
    AreLines entries classes lines → IsLine entries classes (Some c) line → AreLines entries classes (set lines c (Some line))
lines_set entries classes lines c line h a l = λ d other is. one_set entries classes lines c d line other (d == c) refl h a l is

-- what is asked of a class whose line is known
pub member_is : (entries : List Entry) (classes : List ClassHead) (lines : List (Option Line)) (c x : ℕ) (line : Line) →
    AreLines entries classes lines → at lines c ≡ Some line → line.len ≤ length classes → value_in line.members x ≡ member_number entries classes c x
member_is entries classes lines c x line a is h = sym ((a c line is).member (length classes) x h)

pub reached_is : (entries : List Entry) (classes : List ClassHead) (lines : List (Option Line)) (m n : ℕ) (line : Line) →
    AreLines entries classes lines → at lines m ≡ Some line → line.len ≤ length classes → is_some (value_in line.classes n) ≡ reaches classes (length classes) m n
reached_is entries classes lines m n line a is h = sym ((a m line is).reached (length classes) n h)

pub ends_is : (entries : List Entry) (classes : List ClassHead) (lines : List (Option Line)) (c : ℕ) (line : Line) →
    AreLines entries classes lines → at lines c ≡ Some line → line.len ≤ length classes → false ≡ is_endless classes c
ends_is entries classes lines c line a is h = sym (ap is_some ((a c line is).ends (length classes) h))

pub maker_is : (entries : List Entry) (classes : List ClassHead) (lines : List (Option Line)) (c : ℕ) (line : Line) →
    AreLines entries classes lines → at lines c ≡ Some line → line.len ≤ length classes → takes_of classes line.maker ≡ maker_takes_of classes c
maker_is entries classes lines c line a is h = sym ((a c line is).maker (length classes) h)

pub own_put : (numbers : Numbers) (entries : List Entry) (c : ℕ) (base made : PersistentMap) → IsIndexed numbers entries →
    ((x : ℕ) → value_in made x ≡ option_or (member_at numbers.classes.items c x) (value_in base x)) → (x : ℕ) → value_in made x ≡ option_or (entry_number entries (o.Class c) x) (value_in base x)
own_put numbers entries c base made i h x = h x ∙ ap (λ n. option_or n (value_in base x)) (i (o.Class c) x)
