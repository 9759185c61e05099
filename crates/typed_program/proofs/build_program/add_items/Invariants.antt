use Rattle.std.proofs.Common.{◌≡◌, ◌+◌, ◌^◌, ◌<◌, ◌++◌, drop, length}
use Rattle.sts_syntax.specs.Programs.{top_levels}
use Rattle.sts_syntax.specs.Types.{value_types}
use Rattle.sts_syntax.specs.TypedViews.{typed_routines}
use Rattle.sts_scope.specs.Entries as entry
use Rattle.text_sizes.specs.Numbered as counts
use Rattle.typed_laws.specs.Programs.{◌before◌}
use Rattle.typed_trees.specs.Sites.{naming}
use Rattle.typed_program.specs.Wholes as w
use Rattle.typed_program.proofs.build_program.add_items.Given as goal

-- what is built, and what is left to build, is the whole, and what is left has numbers
abbrev pub invariant-loop-item : goal.invariant-loop-item
invariant-loop-item l =
    let first = l.initial.whole in
    let left = w.items_of l.plan l.whole (top_levels (drop l.item-index l.items)) in
    let all = w.items_of l.plan first (top_levels l.items) in
    record {
      stmts : (w.typed_list l.whole.stmts before left.it) ≡ (w.typed_list first.stmts before all.it);
      locals : value_types l.whole.builder.locals ++ left.locals ≡ value_types first.builder.locals ++ all.locals;
      routines : typed_routines l.whole.builder.routines ++ left.routines ≡ typed_routines first.builder.routines ++ all.routines;
      declarations : l.whole.declaration + length (entry.entries_from (naming l.plan) l.whole.class (top_levels (drop l.item-index l.items))) < 2 ^ 64;
      classes : l.whole.class + length (entry.class_names (top_levels (drop l.item-index l.items))) < 2 ^ 32;
      locals_counted : l.whole.builder.local + counts.all_numbered (top_levels (drop l.item-index l.items)) < 2 ^ 32;
      functions : l.whole.builder.function + counts.all_numbered (top_levels (drop l.item-index l.items)) < 2 ^ 32;
    }
