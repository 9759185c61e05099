use Rattle.std.proofs.Common.{◌≡◌, ◌+◌, ◌^◌, ◌<◌, ◌≤◌, ◌++◌, drop}
use Rattle.sts_syntax.specs.TypedViews.{typed_routines}
use Rattle.sts_syntax.specs.Programs.{top_levels}
use Rattle.text_sizes.specs.Numbered as counts
use Rattle.typed_program.specs.Wholes as w
use Rattle.typed_program.proofs.build_program.add_library.Given as goal

abbrev pub invariant-loop-item : goal.invariant-loop-item
invariant-loop-item l =
    record {
      made : typed_routines l.routines ++ w.library_made l.plan l.next.declaration l.next.function (top_levels (drop l.item-index l.items))
          ≡ typed_routines l.fn.routines ++ w.library_made l.plan 0 0 (top_levels l.items);
      numbered : l.next.declaration ≤ l.item-index;
      counted : l.next.function + counts.all_numbered (top_levels (drop l.item-index l.items)) < 2 ^ 32;
    }
