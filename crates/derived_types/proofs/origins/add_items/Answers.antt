use Rattle.std.proofs.Common.{◌<◌, length, arith}
use Rattle.sts_scope.proofs.Laws.{number_fits}
use Rattle.derived_types.proofs.origins.add_items.Goals as goal

pub add_item-requires : goal.add_item-requires
add_item-requires c =
    let lt : c.loop-i.i < length c.args.items.now = omega arith in
    number_fits c.args.items.now c.loop-i.i c.index-items-i.result c.loop-i.count c.args.first _ lt c.index-items-i.is c.loop-i.invariant.count c.requires
