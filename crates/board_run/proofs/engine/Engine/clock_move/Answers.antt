use Rattle.std.proofs.Common.{◌≤◌, Some, sym, subst}
use Rattle.board_world.specs.declared.clock.Idle.TheVariants.{Jump, Quiet, Script}
use Rattle.board_world.specs.Limits.{end_limit}
use Rattle.board_run.specs.declared.end.Stop.TheVariants.{Quiet as StopQuiet, Script as StopScript}
use Rattle.board_run.specs.declared.engine.Engine.{Engine}
use Rattle.board_run.specs.Represents.{state_of}
use Rattle.board_run.proofs.ClockMoves.{acts_of, says_so, ended_idles, comes_quiet, comes_script, fewer_ends, jump_idles, jump_fewer, moment_early}
use Rattle.board_run.proofs.engine.Engine.clock_move.Goals as goal

pub arrive-requires-clause-acts : goal.arrive-requires-clause-acts
arrive-requires-clause-acts g c = acts_of c.args.self.now.script.entries c.requires.script.acts

pub returns-in-Quiet-clause-idles : goal.returns-in-Quiet-clause-idles
returns-in-Quiet-clause-idles g c =
    let e = c.args.self.now in
    let says = says_so e Quiet c.next_wake.result c.next_entry.result c.in-Quiet.ensures c.next_wake.ensures.least c.next_entry.ensures in
    ended_idles g.D.Device.account (state_of e) (state_of (record e { end = Some StopQuiet })) c.args.plugs.now (comes_quiet e c.requires.empty c.requires.going c.requires.quiet says)

pub returns-in-Script-clause-idles : goal.returns-in-Script-clause-idles
returns-in-Script-clause-idles g c =
    let e = c.args.self.now in
    let says = says_so e Script c.next_wake.result c.next_entry.result c.in-Script.ensures c.next_wake.ensures.least c.next_entry.ensures in
    ended_idles g.D.Device.account (state_of e) (state_of (record e { clock = e.script.end; end = Some StopScript })) c.args.plugs.now (comes_script e c.requires.empty c.requires.going c.requires.quiet says)

pub returns-in-Quiet-clause-fewer : goal.returns-in-Quiet-clause-fewer
returns-in-Quiet-clause-fewer g c = fewer_ends c.args.self.now c.requires.empty c.requires.going c.requires.quiet StopQuiet c.args.self.now.clock

pub returns-in-Script-clause-fewer : goal.returns-in-Script-clause-fewer
returns-in-Script-clause-fewer g c = fewer_ends c.args.self.now c.requires.empty c.requires.going c.requires.quiet StopScript c.args.self.now.script.end

pub returns-in-Jump-clause-idles : goal.returns-in-Jump-clause-idles
returns-in-Jump-clause-idles g c =
    let says = says_so c.args.self.now (Jump c.in-Jump.moment) c.next_wake.result c.next_entry.result c.in-Jump.ensures c.next_wake.ensures.least c.next_entry.ensures in
    jump_idles g.D.Device.account c.args.self.now c.requires.empty c.requires.going c.requires.quiet c.args.plugs.now c.arrive.new.plugs c.in-Jump.moment says c.requires.within
    c.wake_due.new.self c.wake_due.ensures c.arrive.new.self c.arrive.ensures.stays c.arrive.ensures.arrived

pub returns-in-Jump-clause-fewer : goal.returns-in-Jump-clause-fewer
returns-in-Jump-clause-fewer g c =
    let says = says_so c.args.self.now (Jump c.in-Jump.moment) c.next_wake.result c.next_entry.result c.in-Jump.ensures c.next_wake.ensures.least c.next_entry.ensures in
    jump_fewer g.D.Device.account c.args.self.now c.requires.empty c.requires.going c.requires.quiet c.args.plugs.now c.arrive.new.plugs c.in-Jump.moment says c.requires.within
    c.wake_due.new.self c.wake_due.ensures c.arrive.new.self c.arrive.ensures.stays c.arrive.ensures.arrived c.arrive.ensures.later.1 c.arrive.ensures.later.0 c.arrive.ensures.grows c.arrive.ensures.applies

pub returns-in-Jump-clause-early : goal.returns-in-Jump-clause-early
returns-in-Jump-clause-early g c = λ early.
    let says = says_so c.args.self.now (Jump c.in-Jump.moment) c.next_wake.result c.next_entry.result c.in-Jump.ensures c.next_wake.ensures.least c.next_entry.ensures in
    subst (λ (x : Engine). x.clock ≤ end_limit) (sym c.arrive.ensures.stays) (moment_early c.args.self.now c.in-Jump.moment says c.requires.script.end)
