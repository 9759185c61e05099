use Rattle.std.proofs.Common.{◌<◌, length, arith}
use Rattle.sts_scope.specs.Values.{value_at}
use Rattle.sts_scope.proofs.Whole.{heads_fit}
use Rattle.sts_scope.proofs.collect.add_items.Goals as goal

pub add_item-requires : goal.add_item-requires
add_item-requires c =
    let lt : c.loop-i.i < length c.args.items.now = omega arith in
    heads_fit (value_at c.args.classes.now.values.items) c.args.items.now c.loop-i.i c.index-items-i.result c.loop-i.known.classes c.args.known.now.classes _ lt c.index-items-i.is
    c.loop-i.invariant.classes c.requires
