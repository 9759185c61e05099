use Rattle.std.proofs.Common.{◌∙◌}
use Rattle.std.specs.Prelude.{codes, Some, None}
use Rattle.clap.specs.Words.{found_of}
use Rattle.sts_words.specs.Views.{names_view}
use Rattle.command_line.proofs.Given.{flag-is, same-said, no-budget, numbered, with-number}
use Rattle.command_line.proofs.matches.given_in.Goals as goal

pub returns-in-None-clause-said : goal.returns-in-None-clause-said
returns-in-None-clause-said c = λ said says.
    let found = found_of c.args.matches.now in
    same-said said (names_view c.names_in.result) None c.get_flag.result c.get_flag-2.result (c.names_in.ensures said says) (no-budget found said says c.in-None.ensures)
    (flag-is found (codes "stats") said.stats c.get_flag.result says.stats c.get_flag.ensures.value c.get_flag.ensures.other)
    (flag-is found (codes "image") said.image c.get_flag-2.result says.image c.get_flag-2.ensures.value c.get_flag-2.ensures.other)

pub returns-in-Some-clause-said : goal.returns-in-Some-clause-said
returns-in-Some-clause-said c = λ said says.
    let found = found_of c.args.matches.now in
    let n = numbered found said c.in-Some.number.now says c.in-Some.ensures in
    c.with_budget.ensures.said
    ∙ with-number (names_view c.names_in.result) c.get_flag.result c.get_flag-2.result c.in-Some.number.now n.number n.spelled
    ∙ same-said said (names_view c.names_in.result) (Some n.number) c.get_flag.result c.get_flag-2.result (c.names_in.ensures said says) n.is
    (flag-is found (codes "stats") said.stats c.get_flag.result says.stats c.get_flag.ensures.value c.get_flag.ensures.other)
    (flag-is found (codes "image") said.image c.get_flag-2.result says.image c.get_flag-2.ensures.value c.get_flag-2.ensures.other)
