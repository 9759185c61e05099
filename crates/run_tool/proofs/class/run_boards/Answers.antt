use Rattle.std.proofs.Common.{subst, sym, []}
use Rattle.tool_io.specs.Putting.{Took}
use Rattle.tool_io.proofs.Laws.{took-nothing}
use Rattle.run_tool.specs.inner.{GivesOneOf}
use Rattle.run_tool.specs.Class.{RunsClass}
use Rattle.class_radio.specs.Outcome.{setups_of}
use Rattle.run_tool.proofs.ClassRuns.{class-ends}
use Rattle.run_tool.proofs.class.run_boards.Goals as goal

pub returns-in-Ok : goal.returns-in-Ok
returns-in-Ok g c = λ sources made.
    let boards = c.args.boards in
    subst (λ e. GivesOneOf g.K.Sink.taken g.K.Sink.faults c.args.out.now c.run_class.new.out (RunsClass c.args.class sources c.args.budget) e) (sym c.ending_of_class.ensures)
    (class-ends c.args.class sources (setups_of boards.images.items boards.scripts.items) made c.args.budget g.K.Sink.taken g.K.Sink.faults c.args.out.now c.run_class.new.out c.in-Ok.ensures.later c.in-Ok.end c.in-Ok.ensures.ran)

pub returns : goal.returns
returns g c = λ sources made.
    record {
      ends = subst (λ x. Took x (g.K.Sink.taken c.run_class.new.out) []) c.in-Err.ensures.nothing (took-nothing (g.K.Sink.taken c.run_class.new.out));
      later = c.in-Err.ensures.later;
      cut = λ e. absurd (cc);
    }
