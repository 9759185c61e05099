use Rattle.std.proofs.lemmas.Result.{IfOk-weaker, IfErr-weaker}
use Rattle.sts_syntax.specs.Programs.{program}
use Rattle.sts_syntax.specs.TypedViews.{typed_program}
use Rattle.typed_program.proofs.Accepted.{program_refused}
use Rattle.typed_program.proofs.Few.{both_few, spelled_few}
use Rattle.typed_program.proofs.accepting.accept_tokens.Goals as goal

pub check-requires : goal.check-requires
check-requires c =
    let text = program c.in_ok-text.text in
    record { few = both_few (program c.args.library.now) text c.requires.library (spelled_few c.args.tables.now c.args.tokens.now text c.requires.few c.in_ok-text.ensures.1) }

pub returns-clause-accepted : goal.returns-clause-accepted
returns-clause-accepted c =
    IfOk-weaker c.check.result _ _
    (λ typed accepted text read.
    record {
      library = program c.args.library.now;
      tokens = c.args.tokens.now;
      read = read;
      shallow = c.in_ok-text.ensures.0;
      program = program c.in_ok-text.text;
      spelled = c.in_ok-text.ensures.1;
      accepted = c.filled_programs_are_typed.ensures.accepted text c.args.tables.now (program c.args.library.now) c.args.tokens.now (program c.in_ok-text.text) (typed_program typed) read accepted;
    })
    c.check.ensures.accepted

pub returns-clause-refused : goal.returns-clause-refused
returns-clause-refused c =
    IfErr-weaker c.check.result _ _
    (λ why refused text read.
    program_refused c.filled_programs_are_typed.ensures why text c.args.tables.now (program c.args.library.now) c.args.tokens.now (program c.in_ok-text.text) read c.in_ok-text.ensures.0 c.in_ok-text.ensures.1 refused)
    c.check.ensures.refused
