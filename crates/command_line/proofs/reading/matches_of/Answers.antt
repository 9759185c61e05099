use Rattle.std.proofs.Common.{ap, ◌∙◌}
use Rattle.std.specs.Prelude.{map, string_bytes}
use Rattle.std.proofs.lemmas.Result.{IfErr-weaker}
use Rattle.clap.specs.Words.{takes}
use Rattle.command_line.proofs.reading.matches_of.Goals as goal

pub returns-clause-memory : goal.returns-clause-memory
returns-clause-memory c =
    let parse = c.try_get_matches_from in
    IfErr-weaker parse.result _ _ (λ e h t. h (ap (λ a. takes a (map string_bytes c.args.words.now)) c.in_ok-command.ensures ∙ t)) parse.ensures.passes
