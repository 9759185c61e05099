use Rattle.std.proofs.Common.{sym, ap, ◌∙◌}
use Rattle.type_derive.specs.Scopes.{place}
use Rattle.type_derive.specs.Typing.{names_function, is_routine}
use Rattle.type_derive.proofs.Calling.{name_is}
use Rattle.type_derive.proofs.boards.is_function.Goals as goal

pub returns-in-Name : goal.returns-in-Name
returns-in-Name c =
    let t = c.args.tables.now in
    let k = c.args.known.now in
    c.names_function.ensures ∙ ap (names_function) c.name_found.ensures ∙ sym (ap (is_routine t k (place c.args.scope.now)) (name_is c.args.e.now c.in-Name.x c.in-Name.is))
