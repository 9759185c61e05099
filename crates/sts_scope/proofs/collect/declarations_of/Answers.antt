use Rattle.std.proofs.Common.{◌≡◌, ◌==◌, ◌+◌, ◌++◌, length, sym, ap, subst, [], ◌∙◌, refl, arith}
use Rattle.sts_syntax.specs.Programs.{program, top_levels}
use Rattle.std.specs.List.{position_from}
use Rattle.std.specs.Prelude.{List}
use Rattle.sts_syntax.specs.declared.units.Item.{Item}
use Rattle.sts_scope.specs.declared.known.Known.{Known}
use Rattle.std.specs.Option.{option_or}
use Rattle.sts_scope.specs.Values.{value_at}
use Rattle.sts_scope.specs.Entries as entry
use Rattle.sts_scope.specs.Adding.{Adds}
use Rattle.sts_scope.proofs.Whole.{all_named, both_names, second_fits, all_fit, whole, IsWhole, first_is, library_within, classes_within}
use Rattle.sts_scope.proofs.collect.declarations_of.Goals as goal

pub number_classes-requires : goal.number_classes-requires
number_classes-requires c =
    let lib = program c.args.library.now in
    let both = both_names lib (program c.args.text.now) in
    let is : length (entry.class_names (top_levels c.as_slice.result.now)) ≡ length (entry.class_names lib) = ap (λ is. length (entry.class_names (top_levels is))) c.as_slice.ensures in
    omega (arith, both, is, c.requires.few)

pub number_classes-requires-2 : goal.number_classes-requires-2
number_classes-requires-2 c =
    let lib = program c.args.library.now in
    let txt = program c.args.text.now in
    let both = both_names lib txt in
    let first : c.in_ok-count.count ≡ 0 + length (entry.class_names lib) = c.in_ok-count.ensures.count ∙ ap (λ is. 0 + length (entry.class_names (top_levels is))) c.as_slice.ensures in
    let is : length (entry.class_names (top_levels c.as_slice-2.result.now)) ≡ length (entry.class_names txt) = ap (λ is. length (entry.class_names (top_levels is))) c.as_slice-2.ensures in
    omega (arith, both, first, is, c.requires.few)

pub add_items-requires-2 : goal.add_items-requires-2
add_items-requires-2 c =
    let f = value_at c.number_classes-2.new.classes.values.items in
    let lib = program c.args.library.now in
    let txt = program c.args.text.now in
    let first = c.in_ok-add_items.ensures.classes_added ∙ ap (λ is. c.new-2.result ++ entry.heads_of f (top_levels is)) c.as_slice-3.ensures in
    let is : length (entry.class_names (top_levels c.as_slice-4.result.now)) ≡ length (entry.class_names txt) = ap (λ is. length (entry.class_names (top_levels is))) c.as_slice-4.ensures in
    let fits = second_fits f lib txt c.new-2.result c.add_items.new.known.classes _ c.requires.few c.new-2.ensures first in
    omega (arith, is, fits)

pub new-requires-4 : goal.new-requires-4
new-requires-4 c =
    let f = value_at c.number_classes-2.new.classes.values.items in
    let first = c.in_ok-add_items.ensures.classes_added ∙ ap (λ is. c.new-2.result ++ entry.heads_of f (top_levels is)) c.as_slice-3.ensures in
    let second = c.in_ok-add_items-2.ensures.classes_added ∙ ap (λ is. c.add_items.new.known.classes ++ entry.heads_of f (top_levels is)) c.as_slice-4.ensures in
    record { few = all_fit f (program c.args.library.now) (program c.args.text.now) c.new-2.result c.add_items.new.known.classes c.add_items-2.new.known.classes _ c.requires.few c.new-2.ensures first second }

pub returns : goal.returns
returns c =
    let lib = program c.args.library.now in
    let txt = program c.args.text.now in
    let f = value_at c.number_classes-2.new.classes.values.items in
    let h = all_named lib txt c.number_classes.new.classes.values.items c.number_classes-2.new.classes.values.items c.in_ok-count.count
    (λ y. c.in_ok-count.ensures.names y
    ∙ ap (λ xs. option_or (value_at xs y) (position_from (λ z. z == y) 0 (entry.class_names (top_levels c.as_slice.result.now)))) c.new-classes.ensures
    ∙ ap (λ is. option_or (value_at [] y) (position_from (λ z. z == y) 0 (entry.class_names (top_levels is)))) c.as_slice.ensures)
    (c.in_ok-count.ensures.count ∙ ap (λ is. 0 + length (entry.class_names (top_levels is))) c.as_slice.ensures)
    (λ y. c.in_ok-number_classes.ensures.names y
    ∙ ap (λ is. option_or (value_at c.number_classes.new.classes.values.items y) (position_from (λ z. z == y) c.in_ok-count.count (entry.class_names (top_levels is)))) c.as_slice-2.ensures) in
    let k0 : Known = record { entries = c.new.result; classes = c.new-2.result; kinds = c.new-3.result; library = 0 } in
    let k1 = c.add_items.new.known in
    let k2 : Known = record { entries = k1.entries; classes = k1.classes; kinds = k1.kinds; library = c.len.result } in
    let k3 = c.add_items-2.new.known in
    let A = λ (k l : Known) (is : List Item). Adds k l (entry.entries_from f (length k.classes) (top_levels is)) (entry.written_kinds f (top_levels is)) (entry.heads_of f (top_levels is)) in
    let w : IsWhole lib txt k3 = whole lib txt f k0 k1 k2 k3 h
    (record { entries = c.new.ensures; classes = c.new-2.ensures; kinds = c.new-3.ensures })
    (subst (A k0 k1) c.as_slice-3.ensures c.in_ok-add_items.ensures)
    (record { entries = refl; classes = refl; kinds = refl; counted = c.len.ensures })
    (subst (A k2 k3) c.as_slice-4.ensures c.in_ok-add_items-2.ensures) in
    let known = c.in_ok-new.field-0 in
    let v : IsWhole lib txt known = subst (IsWhole lib txt) (sym c.in_ok-new.ensures) w in
    let n = c.in_ok-count.ensures.count ∙ ap (λ is. 0 + length (entry.class_names (top_levels is))) c.as_slice.ensures in
    record {
      names = h;
      entries = v.entries;
      classes = v.classes;
      kinds = v.kinds;
      counted = v.library_is;
      first_class = first_is lib txt c.in_ok-count.count n;
      library_within = library_within lib txt known v;
      classes_within = classes_within lib txt known c.in_ok-count.count v n;
    }
