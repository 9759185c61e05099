use Rattle.std.proofs.Common.{◌<◌, length, arith}
use Rattle.sts_scope.specs.Values.{value_at}
use Rattle.derived_types.proofs.Gathered.{globals_step}
use Rattle.derived_types.proofs.origins.add_globals.Goals as goal

pub loop-i-preserved : goal.loop-i-preserved
loop-i-preserved c =
    let lt : c.loop-i.i < length c.args.each.now = omega arith in
    globals_step (value_at c.args.classes.now.values.items) c.args.each.now c.loop-i.i c.index-each-i.result c.loop-i.origins.items c.add.new.origins.items c.declared-origin.result _
    lt c.index-each-i.is c.declared-origin.ensures c.in_ok-add.ensures c.loop-i.invariant
