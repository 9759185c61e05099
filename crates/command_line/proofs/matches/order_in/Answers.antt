use Rattle.std.proofs.Common.{◌≡◌, ◌∙◌, ap, subst}
use Rattle.std.specs.Prelude.{Some}
use Rattle.clap.specs.Words.{found_of, rows_of}
use Rattle.sts_words.specs.Views.{said_view}
use Rattle.sts_words.specs.Words.{asked_by}
use Rattle.command_line.specs.Found.{Says}
use Rattle.command_line.proofs.Given.{entered-name, entered-rows}
use Rattle.command_line.proofs.matches.order_in.Goals as goal

pub returns-clause-order : goal.returns-clause-order
returns-clause-order c = λ command rows said is says.
    let matches = c.args.matches.now in
    let name : c.in_ok-command.command.now ≡ command = entered-name matches command c.in_ok-command.command.now rows c.in_ok-command.ensures.name is in
    let found : rows ≡ rows_of (found_of c.in_ok-command.below.now) = entered-rows matches command rows (rows_of (found_of c.in_ok-command.below.now)) c.in_ok-command.ensures.rows is in
    let given : Some (said_view c.in_ok-given_in.field-0) ≡ Some said = c.in_ok-given_in.ensures.said said (subst (Says said) found says) in
    let same : said_view c.in_ok-given_in.field-0 ≡ said = cc in
    c.asked_by.ensures.order ∙ ap (λ x. asked_by x (said_view c.in_ok-given_in.field-0)) name ∙ ap (asked_by command) same
