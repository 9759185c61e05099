use Rattle.std.proofs.Common.{◌+◌, ◌<◌, ◌++◌, drop, length, arith}
use Rattle.sts_syntax.specs.Programs.{top_level, top_levels}
use Rattle.sts_syntax.specs.TypedViews.{typed_routines}
use Rattle.typed_program.specs.Wholes as w
use Rattle.typed_program.proofs.ClassParts.{step_list}
use Rattle.typed_program.proofs.Numbered.{item_counted, library_counted, library_next, library_left}
use Rattle.typed_program.proofs.build_program.add_library.Goals as goal

pub add_library_item-requires-clause-functions : goal.add_library_item-requires-clause-functions
add_library_item-requires-clause-functions c =
    let xs = c.args.items.now in let i = c.loop-item.item-index in
    let lt : i < length xs = omega (arith, c.loop-item-test.true) in
    item_counted c.loop-item.next.function xs i c.item-item.result lt c.item-item.is c.loop-item.invariant.counted

pub loop-item-preserved : goal.loop-item-preserved
loop-item-preserved c =
    let l = c.args.plan.now in let xs = c.args.items.now in let i = c.loop-item.item-index in let x = c.item-item.result in
    let at = c.loop-item.next in let next = c.in_ok-next.next in let h = c.in_ok-next.ensures in
    let lt : i < length xs = omega (arith, c.loop-item-test.true) in
    record {
      made = step_list (typed_routines c.loop-item.routines) (typed_routines c.add_library_item.new.routines) (w.library_made l at.declaration at.function (top_levels (drop i xs)))
          (w.library_item l at.declaration at.function (top_level x)) (w.library_made l next.declaration next.function (top_levels (drop (i + 1) xs)))
          (typed_routines c.args.routines.now ++ w.library_made l 0 0 (top_levels xs)) c.loop-item.invariant.made
          (library_left l at.declaration at.function next.declaration next.function xs i x lt c.item-item.is h.declaration h.function) h.routines;
      counted = library_counted at.function next.function xs i x lt c.item-item.is h.function c.loop-item.invariant.counted;
      numbered = omega (arith, library_next at.declaration (top_level x), h.declaration, c.loop-item.invariant.numbered);
    }
