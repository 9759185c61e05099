use Rattle.std.proofs.Common.{◌≤◌, List, [], None, sym, ap, ◌∙◌, subst, length, refl}
use Rattle.board_world.specs.declared.events.Event.{Event}
use Rattle.board_world.specs.Limits.{end_limit}
use Rattle.board_run.specs.declared.engine.Engine.{Engine}
use Rattle.board_run.specs.Outside.{over_sink}
use Rattle.board_run.specs.Going.{CameTo}
use Rattle.board_run.proofs.ClockMoves.{acts_of}
use Rattle.board_run.proofs.Executing.{whole_idle}
use Rattle.board_run.proofs.ClockToEvents.{came_shown, came_whole, then_oks, then_err}
use Rattle.board_run.proofs.Through.{due_rising, due_within, through_gone, through_passed, through_cut}
use Rattle.board_run.proofs.board.Board.through.Goals as goal

pub come_to-requires-clause-acts : goal.come_to-requires-clause-acts
come_to-requires-clause-acts g c = acts_of c.args.self.now.engine.script.entries c.requires.whole.script.acts

pub come_to-requires-clause-rising : goal.come_to-requires-clause-rising
come_to-requires-clause-rising g c = due_rising c.args.moment c.args.self.now.kept c.args.self.now.engine c.requires.due c.requires.whole.script

pub stay-requires : goal.stay-requires
stay-requires g c = record {
  shown = came_shown g.D.Device.account c.args.self.now.engine c.come_to.new.self c.args.self.now.plugs c.come_to.new.plugs c.args.moment c.as_slice.result.now c.come_to.ensures.came c.requires.whole.shown;
}

pub proceed-requires-clause-whole : goal.proceed-requires-clause-whole
proceed-requires-clause-whole g c =
    let w = came_whole g.D.Device.account c.args.self.now.engine c.come_to.new.self c.args.self.now.plugs c.come_to.new.plugs c.args.moment c.as_slice.result.now c.come_to.ensures.came
    c.args.self.now.instructions c.requires.whole c.come_to.ensures.script c.come_to.ensures.counts c.come_to.ensures.clock c.come_to.ensures.within
    (due_within c.args.moment c.args.self.now.kept c.args.self.now.engine c.requires.due c.requires.whole.script) in
    let s = c.stay.ensures.stays in
    whole_idle c.args.self.now.instructions c.come_to.new.self c.stay.new.self [] w (λ image. c.stay.ensures.comes image None) (ap (λ (x : Engine). x.script) s)
    (subst (λ (x : Engine). x.next ≤ length c.come_to.new.self.script.entries) (sym s) w.within) (ap (λ (x : Engine). x.counts) s) (λ l. subst (λ (x : Engine). x.clock ≤ end_limit) (sym s) l)

pub returns-clause-goes : goal.returns-clause-goes
returns-clause-goes g c = then_oks c.proceed.result c.proceed.ensures.goes c.proceed.ensures.whole c.proceed.ensures.stayed (λ q whole stayed.
    let came = subst (λ (es : List Event). CameTo g.D.Device.account c.args.moment es c.args.self.now.engine c.come_to.new.self c.args.self.now.plugs c.come_to.new.plugs) c.as_slice.ensures c.come_to.ensures.came in
    let s = c.stay.ensures.stays in (
      q.0,
      through_gone g.D.Device.account c.args.lead.now c.args.moment (over_sink g.K.Sink.taken g.K.Sink.faults c.args.self.now c.args.out.now) _ c.come_to.new.self c.requires.whole c.requires.resting c.requires.due came c.stay.ensures.comes c.clear.ensures refl
          c.args.most q.0 (over_sink g.K.Sink.taken g.K.Sink.faults c.proceed.new.self c.proceed.new.out) q.1 stayed whole
          (ap (λ (x : Engine). x.clock) s ∙ c.come_to.ensures.clock) (ap (λ (x : Engine). x.script) s ∙ c.come_to.ensures.script) refl,
      through_passed g.D.Device.account c.args.lead.now c.args.moment (over_sink g.K.Sink.taken g.K.Sink.faults c.args.self.now c.args.out.now) _ c.come_to.new.self c.requires.whole c.requires.resting c.requires.due came c.stay.ensures.comes c.clear.ensures refl
          c.args.most q.0 (over_sink g.K.Sink.taken g.K.Sink.faults c.proceed.new.self c.proceed.new.out) q.1 stayed,
    ))

pub returns-clause-cut : goal.returns-clause-cut
returns-clause-cut g c = then_err c.proceed.result c.proceed.ensures.cut (λ q.
    let came = subst (λ (es : List Event). CameTo g.D.Device.account c.args.moment es c.args.self.now.engine c.come_to.new.self c.args.self.now.plugs c.come_to.new.plugs) c.as_slice.ensures c.come_to.ensures.came in
    through_cut g.D.Device.account c.args.lead.now c.args.moment (over_sink g.K.Sink.taken g.K.Sink.faults c.args.self.now c.args.out.now) _ c.come_to.new.self c.requires.whole c.requires.resting c.requires.due came c.stay.ensures.comes c.clear.ensures refl
    c.args.most (over_sink g.K.Sink.taken g.K.Sink.faults c.proceed.new.self c.proceed.new.out) q)
