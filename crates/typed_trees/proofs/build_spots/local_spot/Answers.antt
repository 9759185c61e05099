use Rattle.std.proofs.Common.{◌∙◌, sym, ap, Option}
use Rattle.std.specs.Prelude.{unwrap_or}
use Rattle.std.proofs.lemmas.Option.{unwrap_or-slice_get}
use Rattle.sts_syntax.specs.declared.typed.Spot.{Spot}
use Rattle.sts_syntax.specs.declared.typed.Spot.TheVariants.{Global}
use Rattle.typed_trees.proofs.build_spots.local_spot.Goals as goal

pub returns-in-None : goal.returns-in-None
returns-in-None c =
    ap (λ (o : Option Spot). unwrap_or o (Global 0)) (sym c.in-None.is ∙ c.get.ensures) ∙ unwrap_or-slice_get c.args.site.now.spots c.args.i (Global 0)
