use Rattle.std.proofs.Common.{◌∙◌, ap, pos, Some, option_map}
use Rattle.event_script.specs.declared.script.Act.TheVariants.{Down, Up, Raise, Unplug}
use Rattle.board_world.specs.Limits.{end_limit, last_port}
use Rattle.event_script.specs.Limits.{greatest_number}
use Rattle.event_script.specs.Trees.{at_most}
use Rattle.event_script.specs.Form.{raised_with, entry_with}
use Rattle.event_script.proofs.Soundness.{within-limit}
use Rattle.event_script.proofs.shapes.rows_are_entries.Goals as goal

pub returns-clause-down_a : goal.returns-clause-down_a
returns-clause-down_a c t h = ap (λ o. entry_with o (Some (Down 1))) (within-limit end_limit t h)

pub returns-clause-down_b : goal.returns-clause-down_b
returns-clause-down_b c t h = ap (λ o. entry_with o (Some (Down 2))) (within-limit end_limit t h)

pub returns-clause-up_a : goal.returns-clause-up_a
returns-clause-up_a c t h = ap (λ o. entry_with o (Some (Up 1))) (within-limit end_limit t h)

pub returns-clause-up_b : goal.returns-clause-up_b
returns-clause-up_b c t h = ap (λ o. entry_with o (Some (Up 2))) (within-limit end_limit t h)

pub returns-clause-raise : goal.returns-clause-raise
returns-clause-raise c t source value h k m =
    ap (λ o. entry_with (at_most end_limit (Some t)) (raised_with o (at_most greatest_number (Some value)))) (within-limit greatest_number source k)
    ∙ ap (λ o. entry_with (at_most end_limit (Some t)) (raised_with (Some source) o)) (within-limit greatest_number value m)
    ∙ ap (λ o. entry_with o (Some (Raise (record { source = pos source; value = pos value })))) (within-limit end_limit t h)

pub returns-clause-unplug : goal.returns-clause-unplug
returns-clause-unplug c t port h k =
    ap (λ o. entry_with (at_most end_limit (Some t)) (option_map Unplug o)) (within-limit last_port port k)
    ∙ ap (λ o. entry_with o (Some (Unplug port))) (within-limit end_limit t h)
