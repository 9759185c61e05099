use Rattle.std.proofs.Common.{refl}
use Rattle.derived_types.specs.declared.work.Work.{Work}
use Rattle.derived_types.proofs.Working.{asked_one}
use Rattle.derived_types.proofs.work.Work.ask.Goals as goal

pub returns-in_ok-put-clause-asks : goal.returns-in_ok-put-clause-asks
returns-in_ok-put-clause-asks c =
    let old = c.args.self.now in
    let new : Work = record { asked = c.mark.new.marks; pending = c.put.new.list; waiting = old.waiting; woken = old.woken; is_woken = old.is_woken; next = old.next } in
    asked_one old new old.asked.items c.args.d c.mark.result refl c.mark.ensures.first c.mark.ensures.marked c.if-mark.true c.in_ok-put.ensures refl refl
