use Rattle.std.proofs.Common.{◌∙◌, arith}
use Rattle.std.proofs.lemmas.Grind.{common_steps}
use Rattle.sts_syntax.specs.Programs.{program}
use Rattle.text_headings.proofs.Refusals.{refusal_is}
use Rattle.text_headings.proofs.Standing.{text_declared}
use Rattle.text_headings.proofs.resolution.headings.Goals as goal

pub check_all-requires-clause-stands : goal.check_all-requires-clause-stands
check_all-requires-clause-stands c =
    let w = c.in_ok-declared.ensures.known in
    text_declared (program c.args.library.now) (program c.args.text.now) c.in_ok-declared.declared w.names w.entries w.counted w.first_class

pub returns-in_err-check_all-clause-found : goal.returns-in_err-check_all-clause-found
returns-in_err-check_all-clause-found c =
    let s = refusal_is c.args.tables.now.names (program c.args.library.now) (program c.args.text.now) c.in_ok-declared.declared c.in_ok-declared.ensures.known in
    grind (arith, common_steps, s)

pub returns-clause-found : goal.returns-clause-found
returns-clause-found c =
    refusal_is c.args.tables.now.names (program c.args.library.now) (program c.args.text.now) c.in_ok-declared.declared c.in_ok-declared.ensures.known ∙ c.in_ok-check_all.ensures
