use Rattle.std.proofs.Common.{ap, ◌∙◌, arith}
use Rattle.std.proofs.lemmas.Grind.{common_steps}
use Rattle.type_derive.specs.Returns as given
use Rattle.type_derive.proofs.Opened.{items_is}
use Rattle.type_derive.proofs.Moves.{alone_list}
use Rattle.type_derive.proofs.returns.is_alone.Goals as goal

pub returns-in-Items : goal.returns-in-Items
returns-in-Items c =
    let e = ap given.is_alone (items_is c.args.e.now c.in-Items.items c.in-Items.is) ∙ alone_list c.args.e.now.at c.in-Items.items in
    grind (arith, common_steps, e)
