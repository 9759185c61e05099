use Rattle.std.proofs.Common.{◌∙◌}
use Rattle.class_radio.proofs.Turning.{may_go_on, went, spent_so, failed_last, broke}
use Rattle.class_radio.proofs.turns.go_now.Goals as goal

pub returns-in-Through-clause-turned : goal.returns-in-Through-clause-turned
returns-in-Through-clause-turned g c budget h may =
    (let t = c.args.moment in
    let p = c.args.player.now in
    went budget t c.args.number h p may c.go.new.self (g.K.Sink.taken c.args.out.now) (g.K.Sink.taken c.go.new.out) c.requires.due
    (c.in-Through.ensures.stepped c.args.number budget h.setup h.script h.used h.seen (may_go_on budget t c.args.number h p may c.requires.due)))

pub returns-in-Ok-clause-turned : goal.returns-in-Ok-clause-turned
returns-in-Ok-clause-turned g c budget h may =
    (let t = c.args.moment in
    let p = c.args.player.now in
    spent_so budget t c.args.number h p may (g.K.Sink.taken c.args.out.now) (g.K.Sink.taken c.go.new.out) (g.K.Sink.taken c.put_budget.new.out) (g.K.Sink.faults c.args.out.now) (g.K.Sink.faults c.put_budget.new.out) c.requires.due
    (c.in-Budget.ensures.stepped c.args.number budget h.setup h.script h.used h.seen (may_go_on budget t c.args.number h p may c.requires.due))
    (c.in-Ok.ensures c.args.number (c.go.ensures.lead ∙ may.comes.numbered.lead)).took)

pub returns-in-Err-clause-turned : goal.returns-in-Err-clause-turned
returns-in-Err-clause-turned g c budget h may =
    (let t = c.args.moment in
    let p = c.args.player.now in
    let puts = c.in-Err.ensures c.args.number (c.go.ensures.lead ∙ may.comes.numbered.lead) in
    failed_last budget t c.args.number h p may (g.K.Sink.taken c.args.out.now) (g.K.Sink.taken c.go.new.out) (g.K.Sink.taken c.put_budget.new.out) (g.K.Sink.faults c.args.out.now) (g.K.Sink.faults c.go.new.out)
    (g.K.Sink.faults c.put_budget.new.out) c.requires.due (c.in-Budget.ensures.stepped c.args.number budget h.setup h.script h.used h.seen (may_go_on budget t c.args.number h p may c.requires.due)) puts.part c.go.ensures.later puts.failed)

pub returns-in-SinkFault-clause-turned : goal.returns-in-SinkFault-clause-turned
returns-in-SinkFault-clause-turned g c budget h may =
    (let t = c.args.moment in
    let p = c.args.player.now in
    broke budget t c.args.number h p may (g.K.Sink.taken c.args.out.now) (g.K.Sink.taken c.go.new.out) (g.K.Sink.faults c.args.out.now) (g.K.Sink.faults c.go.new.out) c.requires.due
    (c.in-SinkFault.ensures.stepped c.args.number budget h.setup h.script h.used h.seen (may_go_on budget t c.args.number h p may c.requires.due)))
