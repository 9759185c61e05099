use Rattle.std.proofs.Common.{◌<◌, length, arith}
use Rattle.sts_scope.proofs.Lists.{number_fits}
use Rattle.sts_scope.proofs.build.number_classes.Goals as goal

pub number_class-requires : goal.number_class-requires
number_class-requires c =
    let lt : c.loop-i.i < length c.args.items.now = omega arith in
    number_fits c.args.items.now c.loop-i.i c.index-items-i.result c.loop-i.count c.args.first _ lt c.index-items-i.is c.loop-i.invariant.count c.requires
