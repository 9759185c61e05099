use Rattle.std.proofs.Common.{refl, sym, ap, ◌∙◌, arith}
use Rattle.board_run.specs.declared.engine.Engine.{Engine}
use Rattle.board_run.proofs.ScriptEntries.{arriving_start, arriving_later, present, later_left, sound_at, kept_on, in_range}
use Rattle.board_run.proofs.engine.Engine.arrive.Goals as goal

pub loop-self-init : goal.loop-self-init
loop-self-init g c = (arriving_start g.D.Device.account c.args.self.now c.args.plugs.now, refl, omega arith, c.requires.within, omega arith, c.len-count.ensures)

pub apply-requires : goal.apply-requires
apply-requires g c =
    let get = present c.args.self.now.script.entries c.loop-self.self.script.entries c.loop-self.self.next c.in-Some.entry.now (ap (λ (x : Engine). x.script.entries) c.loop-self.invariant.1) c.in-Some.ensures.value in
    sound_at c.args.self.now.script.entries c.loop-self.self.next c.in-Some.entry.now c.requires.acts get

pub loop-self-preserved : goal.loop-self-preserved
loop-self-preserved g c = kept_on g.D.Device.account c.args.self.now c.args.plugs.now c.len-count.result c.loop-self.self c.loop-self.plugs c.apply.new.plugs c.apply.new.bus c.apply.new.buttons c.in-Some.entry.now c.loop-self.invariant c.loop-self-test.true c.in-Some.ensures.value c.if-entry-self.false c.apply.ensures.applied c.apply.ensures.grows

pub unreachable-requires : goal.unreachable-requires
unreachable-requires g c = in_range c.args.self.now.script.entries c.loop-self.self.script.entries c.len-count.result c.loop-self.self.next (ap (λ (x : Engine). x.script.entries) c.loop-self.invariant.1) c.len-count.ensures c.loop-self-test.true c.in-None.ensures.value

pub returns-then-entry-self-clause-arrived : goal.returns-then-entry-self-clause-arrived
returns-then-entry-self-clause-arrived g c =
    let get = present c.args.self.now.script.entries c.loop-self.self.script.entries c.loop-self.self.next c.in-Some.entry.now (ap (λ (x : Engine). x.script.entries) c.loop-self.invariant.1) c.in-Some.ensures.value in
    let clock = ap (λ (x : Engine). x.clock) c.loop-self.invariant.1 in
    arriving_later g.D.Device.account c.args.self.now c.args.plugs.now c.loop-self.self c.loop-self.plugs c.in-Some.entry.now c.loop-self.invariant.0 get (λ e. c.if-entry-self.true (e ∙ sym clock))

pub returns-then-entry-self-clause-applies : goal.returns-then-entry-self-clause-applies
returns-then-entry-self-clause-applies g c =
    let get = present c.args.self.now.script.entries c.loop-self.self.script.entries c.loop-self.self.next c.in-Some.entry.now (ap (λ (x : Engine). x.script.entries) c.loop-self.invariant.1) c.in-Some.ensures.value in
    let clock = ap (λ (x : Engine). x.clock) c.loop-self.invariant.1 in
    later_left c.args.self.now.script.entries c.args.self.now.next c.loop-self.self.next c.args.self.now.clock c.in-Some.entry.now c.loop-self.invariant.2 get (λ e. c.if-entry-self.true (e ∙ sym clock))
