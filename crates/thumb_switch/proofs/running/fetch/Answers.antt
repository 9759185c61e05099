use Rattle.std.proofs.Common.{None, sym, ◌∙◌}
use Rattle.thumb_switch.proofs.ReadOnce.{slot_found}
use Rattle.thumb_switch.proofs.running.fetch.Goals as goal

pub returns-in-Some-Some-clause-found : goal.returns-in-Some-Some-clause-found
returns-in-Some-Some-clause-found c =
    slot_found c.args.desk.now c.args.slots.now c.args.pc c.in-Some-Some.found c.requires c.if-pc-eq0.true (sym (c.in-Some-Some.ensures.lookup.3.1 None) ∙ c.in-Some-Some.field-0-is)
