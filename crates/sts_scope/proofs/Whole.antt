-- A library and a text behind it: what they declare together.
use Rattle.std.proofs.Common.{◌≡◌, ℕ, ◌+◌, ◌<◌, ◌≤◌, ◌==◌, Option, List, [], ◌∷◌, ◌++◌, length, get_or, drop, refl, sym, ap, ◌∙◌, arith, append_assoc, length-append}
use Rattle.std.proofs.Math.Path.{fun_ext}
use Rattle.std.specs.List.{position_from}
use Rattle.sts_syntax.specs.declared.units.Item.{Item}
use Rattle.sts_syntax.specs.Programs.{TopLevel, Class, Function, Main, Program, top_level, top_levels}
use Rattle.sts_scope.specs.declared.entries.ClassHead.{ClassHead}
use Rattle.sts_scope.specs.declared.known.Known.{Known}
use Rattle.std.specs.Option.{option_or}
use Rattle.sts_scope.specs.Values.{value_at}
use Rattle.sts_scope.specs.Adding.{Adds}
use Rattle.sts_scope.specs.Entries.{Naming, class_names, item_class, item_entries, item_heads, item_kinds, entries_from, heads_of, written_kinds}
use Rattle.sts_scope.specs.Scopes.{all_names, all_entries, all_classes, all_kinds, library_entries, library_classes}
use Rattle.sts_scope.proofs.Lists.{position-append, number_fits}

pub names-append : (xs ys : Program) → class_names (xs ++ ys) ≡ class_names xs ++ class_names ys
names-append [] ys = refl
names-append (x ∷ xs) ys = ap (λ zs. item_class x ++ zs) (names-append xs ys) ∙ sym (append_assoc (item_class x) (class_names xs) (class_names ys))

pub entries-append : (f : Naming) (c : ℕ) (xs ys : Program) → entries_from f c (xs ++ ys) ≡ entries_from f c xs ++ entries_from f (c + length (class_names xs)) ys
entries-append f c [] ys = let e : c ≡ c + 0 = omega arith in ap (λ d. entries_from f d ys) e
entries-append f c (x ∷ xs) ys =
    let n = length (item_class x) in
    let e : c + n + length (class_names xs) ≡ c + length (item_class x ++ class_names xs) = omega (arith, length-append (item_class x) (class_names xs)) in
    ap (λ zs. item_entries f c x ++ zs) (entries-append f (c + n) xs ys ∙ ap (λ d. entries_from f (c + n) xs ++ entries_from f d ys) e)
    ∙ sym (append_assoc (item_entries f c x) (entries_from f (c + n) xs) (entries_from f (c + length (item_class x ++ class_names xs)) ys))

pub heads-append : (f : Naming) (xs ys : Program) → heads_of f (xs ++ ys) ≡ heads_of f xs ++ heads_of f ys
heads-append f [] ys = refl
heads-append f (x ∷ xs) ys = ap (λ zs. item_heads f x ++ zs) (heads-append f xs ys) ∙ sym (append_assoc (item_heads f x) (heads_of f xs) (heads_of f ys))

pub kinds-append : (f : Naming) (xs ys : Program) → written_kinds f (xs ++ ys) ≡ written_kinds f xs ++ written_kinds f ys
kinds-append f [] ys = refl
kinds-append f (x ∷ xs) ys = ap (λ zs. item_kinds f x ++ zs) (kinds-append f xs ys) ∙ sym (append_assoc (item_kinds f x) (written_kinds f xs) (written_kinds f ys))

item_head_count : (f : Naming) (x : TopLevel) → length (item_heads f x) ≡ length (item_class x)
item_head_count f (Class at name base base_at members) = refl
item_head_count f (Function name r) = refl
item_head_count f (Main a) = refl

-- a head for each class
pub head_count : (f : Naming) (xs : Program) → length (heads_of f xs) ≡ length (class_names xs)
head_count f [] = refl
head_count f (x ∷ xs) =
    length-append (item_heads f x) (heads_of f xs) ∙ ap (λ n. n + length (heads_of f xs)) (item_head_count f x) ∙ ap (λ n. length (item_class x) + n) (head_count f xs)
    ∙ sym (length-append (item_class x) (class_names xs))

item_names_are_entries : (f : Naming) (c : ℕ) (x : TopLevel) → length (item_class x) ≤ length (item_entries f c x)
item_names_are_entries f c (Class at name base base_at members) = omega arith
item_names_are_entries f c (Function name r) = omega arith
item_names_are_entries f c (Main a) = omega arith

-- each class is a declaration
pub class_names_are_entries : (f : Naming) (c : ℕ) (xs : Program) → length (class_names xs) ≤ length (entries_from f c xs)
class_names_are_entries f c [] = omega arith
class_names_are_entries f c (x ∷ xs) =
    let n = length-append (item_class x) (class_names xs) in
    let m = length-append (item_entries f c x) (entries_from f (c + length (item_class x)) xs) in
    let one = item_names_are_entries f c x in
    let rest = class_names_are_entries f (c + length (item_class x)) xs in
    omega (arith, n, m, one, rest)

one_name : (x : TopLevel) → length (item_class x) ≤ 1
one_name (Class at name base base_at members) = omega arith
one_name (Function name r) = omega arith
one_name (Main a) = omega arith

-- and each is a part of the text
pub class_names_are_items : (items : List Item) → length (class_names (top_levels items)) ≤ length items
class_names_are_items [] = omega arith
class_names_are_items (x ∷ xs) =
    let n = length-append (item_class (top_level x)) (class_names (top_levels xs)) in
    let one = one_name (top_level x) in
    let rest = class_names_are_items xs in
    omega (arith, n, one, rest)

-- where all are fewer than a limit, those before the next one and it are
pub heads_fit : (f : Naming) (items : List Item) (i : ℕ) (x : Item) (now old : List ClassHead) (limit : ℕ) → i < length items → x ≡ get_or items i x →
    now ++ heads_of f (top_levels (drop i items)) ≡ old ++ heads_of f (top_levels items) → length old + length (class_names (top_levels items)) < limit →
    length now + length (item_class (top_level x)) < limit
heads_fit f items i x now old limit lt is same few =
    let count : length now + length (class_names (top_levels (drop i items))) ≡ length old + length (class_names (top_levels items)) =
    ap (λ n. length now + n) (sym (head_count f (top_levels (drop i items)))) ∙ sym (length-append now (heads_of f (top_levels (drop i items)))) ∙ ap length same
    ∙ length-append old (heads_of f (top_levels items)) ∙ ap (λ n. length old + n) (head_count f (top_levels items)) in
    number_fits items i x (length now) (length old) limit lt is count few

-- the classes of both, and of each
pub both_names : (library text : Program) → length (class_names (library ++ text)) ≡ length (class_names library) + length (class_names text)
both_names library text = ap length (names-append library text) ∙ length-append (class_names library) (class_names text)

-- where the classes of both are fewer than a limit, those of the first and then of the second are, and all that were added
pub second_fits : (f : Naming) (library text : Program) (old new : List ClassHead) (limit : ℕ) → length (class_names (library ++ text)) < limit → old ≡ [] → new ≡ old ++ heads_of f library →
    length new + length (class_names text) < limit
second_fits f library text old new limit few none is =
    let each : length new ≡ length (class_names library) = ap length (is ∙ ap (λ cs. cs ++ heads_of f library) none) ∙ head_count f library in
    omega (arith, each, both_names library text, few)

pub all_fit : (f : Naming) (library text : Program) (old mid new : List ClassHead) (limit : ℕ) → length (class_names (library ++ text)) < limit → old ≡ [] → mid ≡ old ++ heads_of f library →
    new ≡ mid ++ heads_of f text → length new < limit
all_fit f library text old mid new limit few none first second =
    let each : length new ≡ length mid + length (class_names text) = ap length second ∙ length-append mid (heads_of f text) ∙ ap (λ n. length mid + n) (head_count f text) in
    let fits = second_fits f library text old mid limit few none first in
    omega (arith, each, fits)

-- numbers that are given twice, for the library and behind it for the text
pub all_named : (library text : Program) (first second : List (Option ℕ)) (count : ℕ) →
    ((y : ℕ) → value_at first y ≡ option_or (value_at [] y) (position_from (λ z. z == y) 0 (class_names library))) →
    count ≡ 0 + length (class_names library) →
    ((y : ℕ) → value_at second y ≡ option_or (value_at first y) (position_from (λ z. z == y) count (class_names text))) →
    (y : ℕ) → value_at second y ≡ all_names library text y
all_named library text first second count h n g y =
    let at = λ (m : ℕ) (zs : List ℕ). position_from (λ z. z == y) m zs in
    g y ∙ ap (λ o. option_or o (at count (class_names text))) (h y) ∙ ap (λ m. option_or (at 0 (class_names library)) (at m (class_names text))) n
    ∙ sym (position-append (λ z. z == y) 0 (class_names library) (class_names text)) ∙ ap (at 0) (sym (names-append library text))

-- all that is known after the library and then the text were added
pub record IsWhole (library text : Program) (k : Known) : Type 0 where
  pub entries : k.entries ≡ all_entries library text
  pub classes : k.classes ≡ all_classes library text
  pub kinds : k.kinds ≡ all_kinds library text
  pub library_is : k.library ≡ library_entries library text

pub record IsEmpty (k : Known) : Type 0 where
  pub entries : k.entries ≡ []
  pub classes : k.classes ≡ []
  pub kinds : k.kinds ≡ []

-- the same but for how many are the library's
pub record Keeps (k l : Known) : Type 0 where
  pub entries : l.entries ≡ k.entries
  pub classes : l.classes ≡ k.classes
  pub kinds : l.kinds ≡ k.kinds
  pub counted : l.library ≡ length k.entries

pub whole : (library text : Program) (f : Naming) (k0 k1 k2 k3 : Known) → ((y : ℕ) → f y ≡ all_names library text y) → IsEmpty k0 →
    Adds k0 k1 (entries_from f (length k0.classes) library) (written_kinds f library) (heads_of f library) → Keeps k1 k2 →
    Adds k2 k3 (entries_from f (length k2.classes) text) (written_kinds f text) (heads_of f text) → IsWhole library text k3
whole library text f k0 k1 k2 k3 h z a s b =
    let e : f ≡ all_names library text = fun_ext h in
    let es1 : k1.entries ≡ entries_from f 0 library = a.entries_added ∙ ap (λ xs. xs ++ entries_from f (length k0.classes) library) z.entries ∙ ap (λ xs. entries_from f (length xs) library) z.classes in
    let cs1 : k1.classes ≡ heads_of f library = a.classes_added ∙ ap (λ xs. xs ++ heads_of f library) z.classes in
    let ks1 : k1.kinds ≡ written_kinds f library = a.kinds_added ∙ ap (λ xs. xs ++ written_kinds f library) z.kinds in
    let m : length k2.classes ≡ length (class_names library) = ap length (s.classes ∙ cs1) ∙ head_count f library in
    let n : length k2.classes ≡ 0 + length (class_names library) = omega (arith, m) in
    record {
      entries = b.entries_added ∙ ap (λ xs. xs ++ entries_from f (length k2.classes) text) (s.entries ∙ es1) ∙ ap (λ m. entries_from f 0 library ++ entries_from f m text) n
          ∙ sym (entries-append f 0 library text) ∙ ap (λ g. entries_from g 0 (library ++ text)) e;
      classes = b.classes_added ∙ ap (λ xs. xs ++ heads_of f text) (s.classes ∙ cs1) ∙ sym (heads-append f library text) ∙ ap (λ g. heads_of g (library ++ text)) e;
      kinds = b.kinds_added ∙ ap (λ xs. xs ++ written_kinds f text) (s.kinds ∙ ks1) ∙ sym (kinds-append f library text) ∙ ap (λ g. written_kinds g (library ++ text)) e;
      library_is = b.library_same ∙ s.counted ∙ ap length es1 ∙ ap (λ g. length (entries_from g 0 library)) e;
    }

pub first_is : (library text : Program) (n : ℕ) → n ≡ 0 + length (class_names library) → n ≡ library_classes library text
first_is library text n h = omega (arith, h)

pub library_within : (library text : Program) (k : Known) → IsWhole library text k → k.library ≤ length k.entries
library_within library text k w =
    let f = all_names library text in
    let e : length k.entries ≡ length (entries_from f 0 library) + length (entries_from f (0 + length (class_names library)) text) =
    ap length (w.entries ∙ entries-append f 0 library text) ∙ length-append (entries_from f 0 library) (entries_from f (0 + length (class_names library)) text) in
    let l = w.library_is in
    omega (arith, e, l)

pub classes_within : (library text : Program) (k : Known) (n : ℕ) → IsWhole library text k → n ≡ 0 + length (class_names library) → n ≤ length k.classes
classes_within library text k n w h =
    let f = all_names library text in
    let e : length k.classes ≡ length (class_names library) + length (class_names text) =
    ap length w.classes ∙ head_count f (library ++ text) ∙ ap length (names-append library text) ∙ length-append (class_names library) (class_names text) in
    omega (arith, e, h)
