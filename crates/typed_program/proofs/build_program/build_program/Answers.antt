use Rattle.sts_syntax.specs.Programs.{top_levels}
use Rattle.sts_syntax.specs.TypedViews.{typed_routines}
use Rattle.typed_program.proofs.Numbered.{routines_counted}
use Rattle.typed_program.proofs.build_program.build_program.Goals as goal

pub count-main-requires : goal.count-main-requires
count-main-requires c =
    routines_counted c.args.plan.now c.args.first_class (top_levels c.args.library.now) (top_levels c.args.text.now) (typed_routines c.in_ok-whole.whole.builder.routines) c.in_ok-whole.ensures.routines c.requires.functions
