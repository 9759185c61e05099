use Rattle.std.proofs.Common.{ap}
use Rattle.sts_syntax.specs.Programs.{top_level}
use Rattle.sts_scope.specs.Entries.{classes_in}
use Rattle.text_headings.proofs.Laws.{class_declared}
use Rattle.type_derive.specs.Scopes.{naming}
use Rattle.type_check.proofs.passes.check_item.Goals as goal

pub class_at-c-requires : goal.class_at-c-requires
class_at-c-requires c =
    class_declared (naming c.args.context.now) c.args.context.now.known.now.entries c.args.d (top_level c.args.item.now) (ap (λ y. classes_in (top_level y)) c.in-Class.is) c.requires.stands
