use Rattle.std.proofs.Common.{subst}
use Rattle.run_tool.specs.declared.ending.Status.TheVariants.{Refused}
use Rattle.run_tool.specs.Answers.{Led}
use Rattle.run_tool.specs.inner.{GivesOneOf, ending_by}
use Rattle.run_tool.specs.Big.{big_line}
use Rattle.run_tool.specs.Programs.{AnswersRefusal}
use Rattle.run_tool.proofs.Endings.{refused-led}
use Rattle.run_tool.proofs.big.refuse_big.Goals as goal

pub returns-in-Ok : goal.returns-in-Ok
returns-in-Ok g c =
    subst (λ r. GivesOneOf g.K.Sink.taken g.K.Sink.faults c.args.out.now c.then_put_refused.new.out (Led (big_line c.args.size) (AnswersRefusal c.args.text.now c.args.code c.args.at)) (ending_by Refused r)) c.in-Ok.is
    (refused-led (big_line c.args.size) c.args.text.now c.args.code c.args.at c.place-line.result.0 c.place-line.result.1 c.then_put_refused.result c.place-line.ensures
    (c.then_put_refused.ensures (g.K.Sink.taken c.args.out.now) (g.K.Sink.faults c.args.out.now) (big_line c.args.size) c.put_big_line-put.ensures))

pub returns-in-Err : goal.returns-in-Err
returns-in-Err g c =
    subst (λ r. GivesOneOf g.K.Sink.taken g.K.Sink.faults c.args.out.now c.then_put_refused.new.out (Led (big_line c.args.size) (AnswersRefusal c.args.text.now c.args.code c.args.at)) (ending_by Refused r)) c.in-Err.is
    (refused-led (big_line c.args.size) c.args.text.now c.args.code c.args.at c.place-line.result.0 c.place-line.result.1 c.then_put_refused.result c.place-line.ensures
    (c.then_put_refused.ensures (g.K.Sink.taken c.args.out.now) (g.K.Sink.faults c.args.out.now) (big_line c.args.size) c.put_big_line-put.ensures))
