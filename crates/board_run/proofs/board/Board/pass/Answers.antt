use Rattle.std.proofs.Common.{◌≡◌, ◌≤◌, ◌+◌, ◌-◌, ℕ, [], None, OnErr, sym, ap, subst, length, refl, arith}
use Rattle.board_world.specs.Limits.{end_limit}
use Rattle.board_run.specs.declared.engine.Engine.{Engine}
use Rattle.board_run.specs.Outside.{over_sink}
use Rattle.board_run.specs.Going.{IsDueAt, IsResting, HasGone, IsPassed, IsCutShort}
use Rattle.board_run.proofs.Executing.{whole_idle, on_err}
use Rattle.board_run.proofs.ClockToEvents.{then_ok, then_err}
use Rattle.board_run.proofs.ThroughFirst.{may_rest, may_begin, first_gone, first_passed, first_cut, then_gone, then_passed, then_cut}
use Rattle.board_run.proofs.board.Board.pass.Goals as goal

pub through-requires-clause-resting : goal.through-requires-clause-resting
through-requires-clause-resting g c =
    subst IsResting (sym c.if-not-run_next.ensures.same) (may_rest c.args.moment c.args.most c.args.self.now.kept c.args.self.now.engine c.requires.may c.if-not-run_next.ensures.nobody).0

pub through-requires-clause-due : goal.through-requires-clause-due
through-requires-clause-due g c =
    subst (λ (x : Engine). IsDueAt c.args.moment c.args.self.now.kept x) (sym c.if-not-run_next.ensures.same)
    (may_rest c.args.moment c.args.most c.args.self.now.kept c.args.self.now.engine c.requires.may c.if-not-run_next.ensures.nobody).1

pub returns-then-not-run_next-clause-cut : goal.returns-then-not-run_next-clause-cut
returns-then-not-run_next-clause-cut g c =
    subst (λ (x : Engine). OnErr c.through.result (IsCutShort g.D.Device.account c.args.lead.now c.args.moment c.args.most (over_sink g.K.Sink.taken g.K.Sink.faults (record c.args.self.now { engine = x }) c.args.out.now) (over_sink g.K.Sink.taken g.K.Sink.faults c.through.new.self c.through.new.out)))
    c.if-not-run_next.ensures.same c.through.ensures.cut

pub proceed-requires-clause-whole : goal.proceed-requires-clause-whole
proceed-requires-clause-whole g c =
    let s = c.run_next.ensures.stays in
    whole_idle c.args.self.now.instructions c.args.self.now.engine c.run_next.new.self [] c.requires.whole (λ image. c.run_next.ensures.comes image None) (ap (λ (x : Engine). x.script) s)
    (subst (λ (x : Engine). x.next ≤ length c.args.self.now.engine.script.entries) (sym s) c.requires.whole.within) (ap (λ (x : Engine). x.counts) s) (λ l. subst (λ (x : Engine). x.clock ≤ end_limit) (sym s) l)

pub returns-in_err-proceed-clause-cut : goal.returns-in_err-proceed-clause-cut
returns-in_err-proceed-clause-cut g c =
    let m = may_begin c.args.moment c.args.most c.args.self.now.kept c.args.self.now.engine c.run_next.new.self c.requires.may c.requires.whole.shown c.run_next.ensures.comes c.if-not-run_next.ensures.runs in
    let s = c.run_next.ensures.stays in
    on_err c.from_residual.result
    (subst (λ (t : ℕ). IsCutShort g.D.Device.account c.args.lead.now t c.args.most (over_sink g.K.Sink.taken g.K.Sink.faults c.args.self.now c.args.out.now) (over_sink g.K.Sink.taken g.K.Sink.faults c.proceed.new.self c.proceed.new.out)) (sym m.3)
    (first_cut g.D.Device.account c.args.lead.now (over_sink g.K.Sink.taken g.K.Sink.faults c.args.self.now c.args.out.now) (record c.args.self.now { engine = c.run_next.new.self }) m.0 m.1 m.2 c.run_next.ensures.comes refl refl refl refl (ap (λ (x : Engine). x.clock) s) (ap (λ (x : Engine). x.script) s)
    c.args.most (over_sink g.K.Sink.taken g.K.Sink.faults c.proceed.new.self c.proceed.new.out) c.in_err-proceed.ensures.cut))

pub returns-then-not-comes_at_once-clause-goes : goal.returns-then-not-comes_at_once-clause-goes
returns-then-not-comes_at_once-clause-goes g c =
    let m = may_begin c.args.moment c.args.most c.args.self.now.kept c.args.self.now.engine c.run_next.new.self c.requires.may c.requires.whole.shown c.run_next.ensures.comes c.if-not-run_next.ensures.runs in
    let s = c.run_next.ensures.stays in
    let p = c.in_ok-proceed.ensures in
    let n = p.goes.0 in (
      n,
      subst (λ (t : ℕ). HasGone g.D.Device.account c.args.lead.now c.args.self.now.sent t n (over_sink g.K.Sink.taken g.K.Sink.faults c.args.self.now c.args.out.now) (over_sink g.K.Sink.taken g.K.Sink.faults c.proceed.new.self c.proceed.new.out) []) (sym m.3)
          (first_gone g.D.Device.account c.args.lead.now (over_sink g.K.Sink.taken g.K.Sink.faults c.args.self.now c.args.out.now) (record c.args.self.now { engine = c.run_next.new.self }) m.0 m.1 m.2 c.run_next.ensures.comes refl refl refl refl (ap (λ (x : Engine). x.clock) s) (ap (λ (x : Engine). x.script) s)
          c.args.most n (over_sink g.K.Sink.taken g.K.Sink.faults c.proceed.new.self c.proceed.new.out) p.goes.1 p.stayed p.whole c.if-not-comes_at_once.ensures.later),
      subst (λ (t : ℕ). IsPassed t n c.args.most c.proceed.new.self) (sym m.3)
          (first_passed g.D.Device.account c.args.lead.now (over_sink g.K.Sink.taken g.K.Sink.faults c.args.self.now c.args.out.now) (record c.args.self.now { engine = c.run_next.new.self }) m.0 m.1 m.2 c.run_next.ensures.comes refl refl refl refl (ap (λ (x : Engine). x.clock) s) (ap (λ (x : Engine). x.script) s)
          c.args.most n (over_sink g.K.Sink.taken g.K.Sink.faults c.proceed.new.self c.proceed.new.out) p.goes.1 p.stayed p.whole c.if-not-comes_at_once.ensures.later),
    )

pub through-requires-2-clause-due : goal.through-requires-2-clause-due
through-requires-2-clause-due g c =
    let m = may_begin c.args.moment c.args.most c.args.self.now.kept c.args.self.now.engine c.run_next.new.self c.requires.may c.requires.whole.shown c.run_next.ensures.comes c.if-not-run_next.ensures.runs in
    subst (λ (t : ℕ). IsDueAt t c.proceed.new.self.kept c.proceed.new.self.engine) (sym m.3) c.if-not-comes_at_once.ensures.due.1

pub through-requires-2-clause-early : goal.through-requires-2-clause-early
through-requires-2-clause-early g c =
    let q = c.in_ok-proceed.ensures.goes.1 in
    let counted = q.counted in
    let within = q.within in
    let early = c.requires.early in
    omega (arith, counted, within, early)

pub returns-clause-goes : goal.returns-clause-goes
returns-clause-goes g c = then_ok c.through-2.result c.through-2.ensures.goes (λ q.
    let m = may_begin c.args.moment c.args.most c.args.self.now.kept c.args.self.now.engine c.run_next.new.self c.requires.may c.requires.whole.shown c.run_next.ensures.comes c.if-not-run_next.ensures.runs in
    let s = c.run_next.ensures.stays in
    let p = c.in_ok-proceed.ensures in
    let n = p.goes.0 in
    let counted = p.goes.1.counted in
    let used : c.args.most - (c.proceed.new.self.instructions - c.args.self.now.instructions) ≡ c.args.most - n = omega (arith, counted) in (
      q.0 + n,
      subst (λ (t : ℕ). HasGone g.D.Device.account c.args.lead.now c.args.self.now.sent t (q.0 + n) (over_sink g.K.Sink.taken g.K.Sink.faults c.args.self.now c.args.out.now) (over_sink g.K.Sink.taken g.K.Sink.faults c.through-2.new.self c.through-2.new.out) []) (sym m.3)
          (then_gone g.D.Device.account c.args.lead.now (over_sink g.K.Sink.taken g.K.Sink.faults c.args.self.now c.args.out.now) (record c.args.self.now { engine = c.run_next.new.self }) m.0 m.1 m.2 c.run_next.ensures.comes refl refl refl refl (ap (λ (x : Engine). x.clock) s) (ap (λ (x : Engine). x.script) s)
          c.args.most n (over_sink g.K.Sink.taken g.K.Sink.faults c.proceed.new.self c.proceed.new.out) p.goes.1 p.stayed p.whole q.0 (over_sink g.K.Sink.taken g.K.Sink.faults c.through-2.new.self c.through-2.new.out) c.if-not-comes_at_once.ensures.due.0
          (subst (λ (t : ℕ). HasGone g.D.Device.account c.args.lead.now c.proceed.new.self.sent t q.0 (over_sink g.K.Sink.taken g.K.Sink.faults c.proceed.new.self c.proceed.new.out) (over_sink g.K.Sink.taken g.K.Sink.faults c.through-2.new.self c.through-2.new.out) []) m.3 q.1)),
      subst (λ (t : ℕ). IsPassed t (q.0 + n) c.args.most c.through-2.new.self) (sym m.3)
          (then_passed g.D.Device.account c.args.lead.now (over_sink g.K.Sink.taken g.K.Sink.faults c.args.self.now c.args.out.now) (record c.args.self.now { engine = c.run_next.new.self }) m.0 m.1 m.2 c.run_next.ensures.comes refl refl refl refl (ap (λ (x : Engine). x.clock) s) (ap (λ (x : Engine). x.script) s)
          c.args.most n (over_sink g.K.Sink.taken g.K.Sink.faults c.proceed.new.self c.proceed.new.out) p.goes.1 p.stayed p.whole q.0 c.through-2.new.self
          (subst (λ (b : ℕ). IsPassed 0 q.0 b c.through-2.new.self) used (subst (λ (t : ℕ). IsPassed t q.0 (c.args.most - (c.proceed.new.self.instructions - c.args.self.now.instructions)) c.through-2.new.self) m.3 q.2))),
    ))

pub returns-clause-cut : goal.returns-clause-cut
returns-clause-cut g c = then_err c.through-2.result c.through-2.ensures.cut (λ q.
    let m = may_begin c.args.moment c.args.most c.args.self.now.kept c.args.self.now.engine c.run_next.new.self c.requires.may c.requires.whole.shown c.run_next.ensures.comes c.if-not-run_next.ensures.runs in
    let s = c.run_next.ensures.stays in
    let p = c.in_ok-proceed.ensures in
    let n = p.goes.0 in
    let counted = p.goes.1.counted in
    let used : c.args.most - (c.proceed.new.self.instructions - c.args.self.now.instructions) ≡ c.args.most - n = omega (arith, counted) in
    subst (λ (t : ℕ). IsCutShort g.D.Device.account c.args.lead.now t c.args.most (over_sink g.K.Sink.taken g.K.Sink.faults c.args.self.now c.args.out.now) (over_sink g.K.Sink.taken g.K.Sink.faults c.through-2.new.self c.through-2.new.out)) (sym m.3)
    (then_cut g.D.Device.account c.args.lead.now (over_sink g.K.Sink.taken g.K.Sink.faults c.args.self.now c.args.out.now) (record c.args.self.now { engine = c.run_next.new.self }) m.0 m.1 m.2 c.run_next.ensures.comes refl refl refl refl (ap (λ (x : Engine). x.clock) s) (ap (λ (x : Engine). x.script) s)
    c.args.most n (over_sink g.K.Sink.taken g.K.Sink.faults c.proceed.new.self c.proceed.new.out) p.goes.1 p.stayed p.whole (over_sink g.K.Sink.taken g.K.Sink.faults c.through-2.new.self c.through-2.new.out) c.if-not-comes_at_once.ensures.due.0
    (subst (λ (b : ℕ). IsCutShort g.D.Device.account c.args.lead.now 0 b (over_sink g.K.Sink.taken g.K.Sink.faults c.proceed.new.self c.proceed.new.out) (over_sink g.K.Sink.taken g.K.Sink.faults c.through-2.new.self c.through-2.new.out)) used
    (subst (λ (t : ℕ). IsCutShort g.D.Device.account c.args.lead.now t (c.args.most - (c.proceed.new.self.instructions - c.args.self.now.instructions)) (over_sink g.K.Sink.taken g.K.Sink.faults c.proceed.new.self c.proceed.new.out) (over_sink g.K.Sink.taken g.K.Sink.faults c.through-2.new.self c.through-2.new.out)) m.3 q))))
