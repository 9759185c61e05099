use Rattle.std.proofs.Common.{◌≡◌, drop}
use Rattle.sts_syntax.specs.Programs.{top_levels}
use Rattle.text_headings.specs.Standing.{classes_before, IsTextAt}
use Rattle.type_derive.specs.Passes as pass
use Rattle.type_derive.specs.Scopes.{naming}
use Rattle.type_check.proofs.passes.check_nodes.Given as goal

abbrev pub invariant-loop-i : goal.invariant-loop-i
invariant-loop-i l = record {
  stands : IsTextAt (naming l.context) l.context.known.now.entries l.d (top_levels (drop l.i l.items));
  found : pass.nodes_failure l.context.tables.now (naming l.context) l.context.known.now (classes_before l.context.known.now.entries l.d) l.d (top_levels (drop l.i l.items))
      ≡ pass.nodes_failure l.context.tables.now (naming l.context) l.context.known.now (classes_before l.context.known.now.entries l.first) l.first (top_levels l.items);
}
