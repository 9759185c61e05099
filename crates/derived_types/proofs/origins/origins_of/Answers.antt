use Rattle.std.proofs.Common.{◌≡◌, ◌+◌, ◌++◌, length, sym, ap, ◌∙◌, arith}
use Rattle.sts_scope.proofs.Laws.{both_names}
use Rattle.sts_syntax.specs.Programs.{program, top_levels}
use Rattle.sts_scope.specs.Values.{value_at}
use Rattle.sts_scope.specs.Entries.{class_names}
use Rattle.type_derive.specs.Derived.{sources_from}
use Rattle.derived_types.specs.Origins.{sources}
use Rattle.derived_types.proofs.Gathered.{from_append}
use Rattle.derived_types.proofs.origins.origins_of.Goals as goal

pub add_items-requires : goal.add_items-requires
add_items-requires c =
    let lib = program c.args.library.now in
    let both = both_names lib (program c.args.text.now) in
    let is : length (class_names (top_levels c.as_slice.result.now)) ≡ length (class_names lib) = ap (λ is. length (class_names (top_levels is))) c.as_slice.ensures in
    omega (arith, both, is, c.requires)

pub add_items-requires-2 : goal.add_items-requires-2
add_items-requires-2 c =
    let lib = program c.args.library.now in
    let txt = program c.args.text.now in
    let both = both_names lib txt in
    let first : c.in_ok-count.count ≡ 0 + length (class_names lib) = c.in_ok-count.ensures.count ∙ ap (λ is. 0 + length (class_names (top_levels is))) c.as_slice.ensures in
    let is : length (class_names (top_levels c.as_slice-2.result.now)) ≡ length (class_names txt) = ap (λ is. length (class_names (top_levels is))) c.as_slice-2.ensures in
    omega (arith, both, first, is, c.requires)

pub returns : goal.returns
returns c =
    let f = value_at c.args.classes.now.values.items in
    let lib = program c.args.library.now in
    let txt = program c.args.text.now in
    let first = c.in_ok-count.ensures.sources ∙ ap (λ xs. sources xs ++ sources_from f 0 (top_levels c.as_slice.result.now)) c.new-origins.ensures.items ∙ ap (λ is. sources_from f 0 (top_levels is)) c.as_slice.ensures in
    let n = c.in_ok-count.ensures.count ∙ ap (λ is. 0 + length (class_names (top_levels is))) c.as_slice.ensures in
    c.in_ok-add_items.ensures.sources ∙ ap (λ xs. xs ++ sources_from f c.in_ok-count.count (top_levels c.as_slice-2.result.now)) first
    ∙ ap (λ is. sources_from f 0 lib ++ sources_from f c.in_ok-count.count (top_levels is)) c.as_slice-2.ensures ∙ ap (λ m. sources_from f 0 lib ++ sources_from f m txt) n
    ∙ sym (from_append f 0 lib txt)
