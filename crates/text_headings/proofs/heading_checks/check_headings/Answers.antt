use Rattle.std.proofs.Common.{◌<◌, length, refl, arith}
use Rattle.std.proofs.lemmas.Grind.{common_steps}
use Rattle.sts_syntax.specs.Programs.{top_level, top_levels}
use Rattle.sts_scope.specs.Values.{value_at}
use Rattle.sts_scope.specs.Entries.{item_entries}
use Rattle.sts_scope.specs.Headings.{item_failure, headings_failure}
use Rattle.text_headings.specs.Standing.{classes_before}
use Rattle.text_headings.proofs.Standing.{item_stands, room_left, rest_stands, failures_step, failures_kept}
use Rattle.text_headings.proofs.heading_checks.check_headings.Goals as goal

pub check_item-requires-clause-room : goal.check_item-requires-clause-room
check_item-requires-clause-room c =
    let names = value_at c.args.classes.now.values.items in
    let all = c.args.known.now.entries in
    let d = c.loop-i.d in
    let x = c.index-items-i.result in
    let lt : c.loop-i.i < length c.args.items.now = omega arith in
    let left = room_left d (item_entries names (classes_before all d) (top_level x)) all (item_stands names all d c.args.items.now c.loop-i.i x lt c.index-items-i.is c.loop-i.invariant.stands) in
    grind (arith, common_steps, left)

pub check_item-requires-clause-stands : goal.check_item-requires-clause-stands
check_item-requires-clause-stands c =
    let lt : c.loop-i.i < length c.args.items.now = omega arith in
    item_stands (value_at c.args.classes.now.values.items) c.args.known.now.entries c.loop-i.d c.args.items.now c.loop-i.i c.index-items-i.result lt c.index-items-i.is c.loop-i.invariant.stands

pub returns-in_err-d : goal.returns-in_err-d
returns-in_err-d c =
    let names = value_at c.args.classes.now.values.items in
    let all = c.args.known.now.entries in
    let lt : c.loop-i.i < length c.args.items.now = omega arith in
    let s = failures_step names all c.loop-i.d c.args.items.now c.loop-i.i c.index-items-i.result lt c.index-items-i.is (headings_failure c.args.tables.now.names names all c.args.known.now.classes) (item_failure c.args.tables.now.names names all c.args.known.now.classes) (λ m n y ys. refl) in
    grind (arith, common_steps, s)

pub loop-i-preserved : goal.loop-i-preserved
loop-i-preserved c =
    let names = value_at c.args.classes.now.values.items in
    let all = c.args.known.now.entries in
    let d = c.loop-i.d in
    let items = c.args.items.now in
    let i = c.loop-i.i in
    let x = c.index-items-i.result in
    let is = c.index-items-i.is in
    let n = c.in_ok-d.d in
    let lt : i < length items = omega arith in
    let stands = c.loop-i.invariant.stands in
    record {
      stands = rest_stands names all d items i x lt is stands n c.in_ok-d.ensures.next;
      found = failures_kept names all d items i x lt is stands n c.in_ok-d.ensures.next (headings_failure c.args.tables.now.names names all c.args.known.now.classes) (item_failure c.args.tables.now.names names all c.args.known.now.classes) (λ m n y ys. refl)
          (headings_failure c.args.tables.now.names names all c.args.known.now.classes (classes_before all c.args.first) c.args.first (top_levels items)) c.in_ok-d.ensures.found c.loop-i.invariant.found;
    }
