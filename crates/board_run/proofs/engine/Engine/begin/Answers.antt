use Rattle.std.proofs.Common.{◌∙◌, refl}
use Rattle.board_run.proofs.Begins.{begins_handler, raiser_goes_on, may_resume, handler_stands, raiser_stands, record_copied}
use Rattle.board_run.proofs.engine.Engine.begin.Goals as goal

pub returns-in-Some-clause-comes : goal.returns-in-Some-clause-comes
returns-in-Some-clause-comes c = λ image.
    begins_handler c.args.self.now image c.begin_handler.new.runtime c.take_next.new.self c.in-Some.event c.in-Some.at c.requires.idle c.in-Some.ensures.taken c.begin_handler.ensures

pub returns-then-unnest-clause-comes : goal.returns-then-unnest-clause-comes
returns-then-unnest-clause-comes c = λ image.
    raiser_goes_on c.args.self.now image c.unnest.new.runtime c.pop.new.self c.requires.idle c.requires.shown.shows.places c.in-None.ensures.none.0 c.if-unnest.ensures.done
    (λ p q ps e. c.pop.ensures p q ps (c.in-None.ensures.none.1 ∙ e))

pub returns-else-unnest-clause-comes : goal.returns-else-unnest-clause-comes
returns-else-unnest-clause-comes c = λ image.
    may_resume c.args.self.now image c.unnest.new.runtime c.resume.new.runtime c.take_next.new.self c.requires.idle c.if-unnest.ensures.none c.if-unnest.ensures.same c.in-None.ensures.none.0 c.in-None.ensures.none.1
    c.resume.result c.resume.ensures.same c.resume.ensures.some

pub returns-in-Some-clause-copied : goal.returns-in-Some-clause-copied
returns-in-Some-clause-copied c = handler_stands c.args.self.now _ c.in-Some.event c.in-Some.at c.take_next.new.self c.in-Some.ensures.taken refl

pub returns-then-unnest-clause-copied : goal.returns-then-unnest-clause-copied
returns-then-unnest-clause-copied c = raiser_stands c.args.self.now _ c.unnest.new.runtime c.if-unnest.ensures.done refl

pub returns-else-unnest-clause-copied : goal.returns-else-unnest-clause-copied
returns-else-unnest-clause-copied c =
    record_copied c.args.self.now _ c.unnest.new.runtime c.resume.result c.if-unnest.ensures.same (c.in-None.ensures.none.0, c.if-unnest.ensures.none) c.resume.ensures.counted
