-- Going through what a text declares, among all declarations.
use Rattle.std.proofs.Common.{◌≡◌, ℕ, ◌+◌, ◌<◌, ◌≤◌, Bool, true, false, Option, Some, None, List, [], ◌∷◌, ◌++◌, length, take, drop, get_or, refl, sym, ap, ◌∙◌, subst, arith, append_assoc, length-append}
use Rattle.std.specs.Prelude.{slice_get}
use Rattle.std.proofs.Math.Path.{fun_ext}
use Rattle.std.proofs.Math.Seq.{take-append_seam}
use Rattle.std.proofs.lemmas.List.{append-nil}
use Rattle.sts_syntax.specs.declared.units.Item.{Item}
use Rattle.sts_syntax.specs.declared.units.Member.{Member}
use Rattle.sts_syntax.specs.Trees.{Statement, Block, Let, IfOnly, IfElse, While, DoWhile, For, ForOf, Return, Break, Continue, Plain, Empty, Declare, Declarations, ended, next, Does}
use Rattle.sts_syntax.specs.Programs.{ClassMember, Field, Method, Constructor, TopLevel, Class, Function, Main, Program, class_member, class_members, top_level, top_levels}
use Rattle.sts_scope.specs.declared.collect.Declared.{Declared}
use Rattle.sts_scope.specs.declared.entries.Entry.{Entry}
use Rattle.sts_scope.specs.declared.entries.Owner.TheVariants as o
use Rattle.sts_scope.specs.declared.entries.DeclarationKind.TheVariants as sort
use Rattle.sts_scope.specs.Values.{value_at}
use Rattle.sts_scope.specs.Failures.{Failure, ◌then◌}
use Rattle.sts_scope.specs.Lookup.{sort_of}
use Rattle.sts_scope.specs.Entries.{Naming, new_entry, class_names, item_class, classes_in, global_entries, main_entries, member_entry, member_entries, item_entries, entries_from}
use Rattle.sts_scope.specs.Scopes.{is_class, names_of, all_names, all_entries, library_entries, library_classes}
use Rattle.sts_scope.proofs.Laws.{drop_at}
use Rattle.text_headings.specs.Standing.{classes_before, AreDeclaredFrom, IsItemAt, IsTextAt, IsTextDeclared}

-- Some declarations and then others.
module _ (d : ℕ) (xs all : List Entry) where
  pub room_left : AreDeclaredFrom d xs all → d + length xs ≤ length all
  room_left h = omega (arith, h.counted, ap length h.split, length-append (h.before ++ xs) h.behind, length-append h.before xs)

  classes_are : (h : AreDeclaredFrom d xs all) → classes_before all d ≡ length (names_of is_class h.before)
  classes_are h =
      ap (λ n. length (names_of is_class (take n all))) h.counted
      ∙ ap (λ zs. length (names_of is_class (take (length h.before) zs))) (h.split ∙ append_assoc h.before xs h.behind)
      ∙ ap (λ zs. length (names_of is_class zs)) (take-append_seam h.before (xs ++ h.behind))

module _ (d : ℕ) (xs ys all : List Entry) (h : AreDeclaredFrom d (xs ++ ys) all) where
  pub first_declared : AreDeclaredFrom d xs all
  first_declared = record {
    before = h.before;
    behind = ys ++ h.behind;
    counted = h.counted;
    split = h.split ∙ ap (λ zs. zs ++ h.behind) (sym (append_assoc h.before xs ys)) ∙ append_assoc (h.before ++ xs) ys h.behind;
  }

  abbrev pub rest_declared : AreDeclaredFrom (d + length xs) ys all
  rest_declared = record {
    before = h.before ++ xs;
    behind = h.behind;
    counted = ap (λ n. n + length xs) h.counted ∙ sym (length-append h.before xs);
    split = h.split ∙ ap (λ zs. zs ++ h.behind) (sym (append_assoc h.before xs ys));
  }

-- The names of classes among declarations are those of the classes of the text.
abbrev named_if : Bool → ℕ → List ℕ → List ℕ
named_if b x xs = elim b [ true ↦ x ∷ xs | false ↦ xs ]

class_or_not : (b : Bool) (x : ℕ) (xs ys zs : List ℕ) → zs ≡ xs ++ ys → named_if b x zs ≡ named_if b x xs ++ ys
class_or_not true x xs ys zs h = ap (λ us. x ∷ us) h
class_or_not false x xs ys zs h = h

names_append : (xs ys : List Entry) → names_of is_class (xs ++ ys) ≡ names_of is_class xs ++ names_of is_class ys
names_append [] ys = refl
names_append (e ∷ xs) ys = class_or_not (is_class e.sort) e.name (names_of is_class xs) (names_of is_class ys) (names_of is_class (xs ++ ys)) (names_append xs ys)

no_class_globals : (fixed : Bool) (each : Declarations) → names_of is_class (global_entries fixed each) ≡ []
no_class_globals fixed ended = refl
no_class_globals fixed (next (Declare at x shape first) rest) = no_class_globals fixed rest

no_class_main : (a : Statement) → names_of is_class (main_entries a) ≡ []
no_class_main (Let at fixed each) = no_class_globals fixed each
no_class_main (Block at all) = refl
no_class_main (IfOnly at test a) = refl
no_class_main (IfElse at test a b) = refl
no_class_main (While at test a) = refl
no_class_main (DoWhile at a test) = refl
no_class_main (For at first test step a) = refl
no_class_main (ForOf at fixed x list a) = refl
no_class_main (Return at value) = refl
no_class_main (Break at) = refl
no_class_main (Continue at) = refl
no_class_main (Plain at a) = refl
no_class_main (Empty at) = refl

no_class_members : (names : Naming) (c : ℕ) (members : List ClassMember) → names_of is_class (member_entries names c members) ≡ []
no_class_members names c [] = refl
no_class_members names c (Field (Declare at x shape first) ∷ rest) = no_class_members names c rest
no_class_members names c (Method x (Does at params gives all arrow) ∷ rest) = no_class_members names c rest
no_class_members names c (Constructor r ∷ rest) = no_class_members names c rest

item_names : (names : Naming) (c : ℕ) (i : TopLevel) → names_of is_class (item_entries names c i) ≡ item_class i
item_names names c (Class at x base base_at members) = ap (λ xs. x ∷ xs) (no_class_members names c members)
item_names names c (Function x (Does at params gives all arrow)) = refl
item_names names c (Main a) = no_class_main a

text_names : (names : Naming) (c : ℕ) (text : Program) → names_of is_class (entries_from names c text) ≡ class_names text
text_names names c [] = refl
text_names names c (i ∷ rest) =
    names_append (item_entries names c i) (entries_from names (c + classes_in i) rest)
    ∙ ap (λ xs. xs ++ names_of is_class (entries_from names (c + classes_in i) rest)) (item_names names c i)
    ∙ ap (λ xs. item_class i ++ xs) (text_names names (c + classes_in i) rest)

-- The class that is declared there has the number that its declaration says.
stands_behind : (xs ys : List Entry) (e : Entry) → slice_get (xs ++ e ∷ ys) (length xs) ≡ Some e
stands_behind [] ys e = refl
stands_behind (x ∷ xs) ys e = stands_behind xs ys e

some_sort : (all : List Entry) (d : ℕ) (e : Entry) → slice_get all d ≡ Some e → sort_of all d ≡ Some e.sort
some_sort all d e h = ap (λ (o : Option Entry). elim o [ None ↦ None | Some y ↦ Some y.sort ]) h

pub class_declared : (names : Naming) (all : List Entry) (d : ℕ) (i : TopLevel) → classes_in i ≡ 1 → IsItemAt names all d i → sort_of all d ≡ Some (sort.Class (classes_before all d))
class_declared names all d (Class at x base base_at members) one h =
    let c = classes_before all d in
    let e : Entry = new_entry at o.Whole x (sort.Class c) [] in
    let xs = member_entries names c members in
    some_sort all d e
    (ap (slice_get all) h.counted ∙ ap (λ zs. slice_get zs (length h.before)) (h.split ∙ append_assoc h.before (e ∷ xs) h.behind)
    ∙ stands_behind h.before (xs ++ h.behind) e)
class_declared names all d (Function x r) one h = absurd (omega arith)
class_declared names all d (Main a) one h = absurd (omega arith)

-- Going on behind a part of a text.
module _ (names : Naming) (all : List Entry) (d : ℕ) (items : List Item) (i : ℕ) (x : Item) (lt : i < length items) (is : x ≡ get_or items i x) where
  abbrev c : ℕ
  c = classes_before all d

  abbrev rest : Program
  rest = top_levels (drop (i + 1) items)

  abbrev here : List Entry
  here = item_entries names c (top_level x)

  -- the failures of a text, by those of its parts
  pub failures_step : (whole : ℕ → ℕ → Program → Option Failure) (part : ℕ → ℕ → TopLevel → Option Failure)
      → ((c d : ℕ) (y : TopLevel) (ys : Program) → whole c d (y ∷ ys) ≡ (part c d y then whole (c + classes_in y) (d + length (item_entries names c y)) ys))
      → whole c d (top_levels (drop i items)) ≡ (part c d (top_level x) then whole (c + classes_in (top_level x)) (d + length here) rest)
  failures_step whole part step = ap (λ xs. whole c d (top_levels xs)) (drop_at items i x lt is) ∙ step c d (top_level x) rest

  module _ (h : IsTextAt names all d (top_levels (drop i items))) where
    both : AreDeclaredFrom d (here ++ entries_from names (c + classes_in (top_level x)) rest) all
    both = subst (λ xs. AreDeclaredFrom d (entries_from names c (top_levels xs)) all) (drop_at items i x lt is) h

    pub item_stands : IsItemAt names all d (top_level x)
    item_stands = first_declared d here (entries_from names (c + classes_in (top_level x)) rest) all both

    module _ (n : ℕ) (behind : n ≡ d + length here) where
      pub classes_behind : classes_before all n ≡ c + classes_in (top_level x)
      classes_behind =
          let ys = entries_from names (c + classes_in (top_level x)) rest in
          let counted : length (names_of is_class (both.before ++ here)) ≡ length (names_of is_class both.before) + length (names_of is_class here) =
          ap length (names_append both.before here) ∙ length-append (names_of is_class both.before) (names_of is_class here) in
          ap (classes_before all) behind ∙ classes_are (d + length here) ys all (rest_declared d here ys all both) ∙ counted
          ∙ ap (λ n. n + length (names_of is_class here)) (sym (classes_are d (here ++ ys) all both)) ∙ ap (λ zs. c + length zs) (item_names names c (top_level x))

      pub rest_stands : IsTextAt names all n rest
      rest_stands =
          let ys = entries_from names (c + classes_in (top_level x)) rest in
          subst (λ k. AreDeclaredFrom n (entries_from names k rest) all) (sym classes_behind)
          (subst (λ k. AreDeclaredFrom k ys all) (sym behind) (rest_declared d here ys all both))

      -- the first failure is that of what is left, where the part has none
      pub failures_kept : (whole : ℕ → ℕ → Program → Option Failure) (part : ℕ → ℕ → TopLevel → Option Failure)
          → ((c d : ℕ) (y : TopLevel) (ys : Program) → whole c d (y ∷ ys) ≡ (part c d y then whole (c + classes_in y) (d + length (item_entries names c y)) ys))
          → (found : Option Failure) → part c d (top_level x) ≡ None → whole c d (top_levels (drop i items)) ≡ found → whole (classes_before all n) n rest ≡ found
      failures_kept whole part step found none kept =
          ap (λ k. whole k n rest) classes_behind ∙ ap (λ k. whole (c + classes_in (top_level x)) k rest) behind
          ∙ ap (λ f. f then whole (c + classes_in (top_level x)) (d + length here) rest) (sym none) ∙ sym (failures_step whole part step) ∙ kept

-- a member of a class is declared where there is room for all that are left
pub member_room : (names : Naming) (c d : ℕ) (members : List Member) (i : ℕ) (x : Member) (end : ℕ) → i < length members → x ≡ get_or members i x →
    d + length (member_entries names c (class_members (drop i members))) < end → d + length (member_entry names c (class_member x)) < end
member_room names c d members i x end lt is room =
    let here = member_entry names c (class_member x) in
    let rest = member_entries names c (class_members (drop (i + 1) members)) in
    let e : length (member_entries names c (class_members (drop i members))) ≡ length here + length rest =
    ap (λ xs. length (member_entries names c (class_members xs))) (drop_at members i x lt is) ∙ length-append here rest in
    omega (arith, e, room)

-- A text behind a library.
entries_append : (names : Naming) (c : ℕ) (xs ys : Program) → entries_from names c (xs ++ ys) ≡ entries_from names c xs ++ entries_from names (c + length (class_names xs)) ys
entries_append names c [] ys = let e : c ≡ c + 0 = omega arith in ap (λ n. entries_from names n ys) e
entries_append names c (x ∷ xs) ys =
    let n = length (item_class x) in
    let e : c + n + length (class_names xs) ≡ c + length (item_class x ++ class_names xs) = omega (arith, length-append (item_class x) (class_names xs)) in
    ap (λ zs. item_entries names c x ++ zs) (entries_append names (c + n) xs ys ∙ ap (λ k. entries_from names (c + n) xs ++ entries_from names k ys) e)
    ∙ sym (append_assoc (item_entries names c x) (entries_from names (c + n) xs) (entries_from names (c + length (item_class x ++ class_names xs)) ys))

pub text_declared : (library text : Program) (d : Declared) → ((y : ℕ) → value_at d.classes.values.items y ≡ all_names library text y) → d.known.entries ≡ all_entries library text →
    d.known.library ≡ library_entries library text → d.first_class ≡ library_classes library text → IsTextDeclared text d
text_declared library text d named entries counted first =
    let names = value_at d.classes.values.items in
    let all = d.known.entries in
    let n = d.known.library in
    let same : names ≡ all_names library text = fun_ext {f = names} {g = all_names library text} named in
    let own = entries_from names 0 library in
    let k = length (class_names library) in
    let zero_more : 0 + k ≡ k = omega arith in
    let split : all ≡ own ++ entries_from names k text ++ [] =
    entries ∙ ap (λ f. entries_from f 0 (library ++ text)) (sym same) ∙ entries_append names 0 library text ∙ ap (λ m. own ++ entries_from names m text) zero_more
    ∙ sym (append-nil (own ++ entries_from names k text)) in
    let length_is : n ≡ length own = counted ∙ ap (λ f. length (entries_from f 0 library)) (sym same) in
    let whole : AreDeclaredFrom n (entries_from names k text) all = record { before = own; behind = []; counted = length_is; split = split } in
    let before : classes_before all n ≡ k = classes_are n (entries_from names k text) all whole ∙ ap length (text_names names 0 library) in
    record {
      first_class = first ∙ sym before;
      declared = subst (λ m. AreDeclaredFrom n (entries_from names m text) all) (sym before) whole;
    }
