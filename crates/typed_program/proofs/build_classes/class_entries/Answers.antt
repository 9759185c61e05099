use Rattle.std.proofs.Common.{ap, arith, length}
use Rattle.typed_program.proofs.Classes.{class_next}
use Rattle.typed_program.proofs.build_classes.class_entries.Goals as goal

pub loop-class-preserved : goal.loop-class-preserved
loop-class-preserved c =
    let k = c.args.plan.now.known.now in
    class_next c.args.plan.now c.loop-class.class k.classes c.loop-class.all c.push.new.self c.in_ok-class_entry.field-0 (omega (arith, c.loop-class-test.true, ap length c.classes-class-end.ensures.all))
    c.in_ok-class_entry.ensures c.in_ok-push.ensures.ok c.loop-class.invariant
