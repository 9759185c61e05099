use Rattle.std.proofs.Common.{◌≡◌, All, drop}
use Rattle.serde_json.specs.View.{items_view}
use Rattle.event_script.specs.Trees.{items_of}
use Rattle.event_script.proofs.Counting.{behind}
use Rattle.event_script.proofs.trees.items_of.Given as goal

-- the items so far and those of what is left are all items, and each so far is sound
abbrev pub invariant-loop-tree : goal.invariant-loop-tree
invariant-loop-tree g l =
    (behind l.items (items_of g.X.FromTree.of_tree (items_view (drop l.tree-index l.trees))) ≡ items_of g.X.FromTree.of_tree (items_view l.fn.trees))
    × All g.X.FromTree.is_sound l.items
