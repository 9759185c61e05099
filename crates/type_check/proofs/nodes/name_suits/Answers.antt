use Rattle.std.proofs.Common.{sym, ap, ◌∙◌}
use Rattle.type_check.specs.Seen.{name_suits}
use Rattle.type_check.proofs.nodes.name_suits.Goals as goal

pub returns-in-Called : goal.returns-in-Called
returns-in-Called c =
    let z = c.args.context.now in
    c.is_routine.ensures z.known.now ∙ sym (ap (λ r. name_suits z.tables.now z.known.now r c.args.found) c.in-Called.is)
