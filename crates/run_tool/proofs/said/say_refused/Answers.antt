use Rattle.std.proofs.Common.{subst, []}
use Rattle.tool_io.proofs.Laws.{puts-none}
use Rattle.run_tool.specs.declared.ending.Status.TheVariants.{Refused}
use Rattle.run_tool.specs.inner.{GivesOneOf, ending_by}
use Rattle.run_tool.specs.Programs.{AnswersRefusal}
use Rattle.run_tool.proofs.Endings.{refused-given}
use Rattle.run_tool.proofs.said.say_refused.Goals as goal

pub returns-in-Ok : goal.returns-in-Ok
returns-in-Ok g c =
    let taken = g.K.Sink.taken c.args.out.now in
    let faults = g.K.Sink.faults c.args.out.now in
    subst (λ r. GivesOneOf g.K.Sink.taken g.K.Sink.faults c.args.out.now c.then_put_refused.new.out (AnswersRefusal c.args.text.now c.args.code c.args.at) (ending_by Refused r)) c.in-Ok.is
    (refused-given c.args.text.now c.args.code c.args.at c.place-line.result.0 c.place-line.result.1 c.then_put_refused.result c.place-line.ensures
    (c.then_put_refused.ensures taken faults [] (puts-none taken faults)))

pub returns-in-Err : goal.returns-in-Err
returns-in-Err g c =
    let taken = g.K.Sink.taken c.args.out.now in
    let faults = g.K.Sink.faults c.args.out.now in
    subst (λ r. GivesOneOf g.K.Sink.taken g.K.Sink.faults c.args.out.now c.then_put_refused.new.out (AnswersRefusal c.args.text.now c.args.code c.args.at) (ending_by Refused r)) c.in-Err.is
    (refused-given c.args.text.now c.args.code c.args.at c.place-line.result.0 c.place-line.result.1 c.then_put_refused.result c.place-line.ensures
    (c.then_put_refused.ensures taken faults [] (puts-none taken faults)))
