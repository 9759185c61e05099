use Rattle.std.proofs.Common.{◌∙◌}
use Rattle.typed_trees.proofs.BuiltHeads.{empty_noted, items_noted}
use Rattle.typed_trees.proofs.build_heads.node_type.Goals as goal

pub returns-in-empty : goal.returns-in-empty
returns-in-empty c =
    c.noted_type.ensures ∙ empty_noted c.args.given c.args.kind c.args.e.now c.in-Items.items c.as_slice.result.now c.in-Items.is c.as_slice.ensures c.in-empty.len_below

pub returns-in-len1-up : goal.returns-in-len1-up
returns-in-len1-up c =
    c.noted_type-in-len1-up.ensures ∙ items_noted c.args.given c.args.kind c.args.e.now c.in-Items.items c.as_slice.result.now c.in-Items.is c.as_slice.ensures c.in-len1-up.len_at_least
