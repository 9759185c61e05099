use Rattle.std.proofs.Common.{◌≡◌, Some, length, refl}
use Rattle.std.specs.Prelude.{slice_get}
use Rattle.std.proofs.lemmas.Option.{slice_get_read}
use Rattle.sts_scope.proofs.Longer.{line_longer}
use Rattle.sts_scope.proofs.lines.longer.Goals as goal

pub returns : goal.returns
returns c =
    let classes = c.args.classes.now in
    let class = c.index-classes-c.result in
    let is : slice_get classes c.args.c ≡ Some class = slice_get_read classes (length classes) c.args.c class refl c.requires.there c.index-classes-c.is in
    line_longer c.args.entries.now classes c.args.c class c.args.above.now _ is c.requires.above refl c.in_ok-all.ensures c.in_ok-members.ensures c.nearest_maker.ensures
