use Rattle.std.proofs.Common.{◌∙◌, sym}
use Rattle.serde_json.specs.View.{view}
use Rattle.class_file.proofs.Kept.{class-within}
use Rattle.class_file.proofs.verdict.read_class.Goals as goal

pub returns-clause-within_form : goal.returns-clause-within_form
returns-clause-within_form c =
    let form = rw c.in-Ok-Some.field-0-is at c.in-Ok-Some.ensures.read in
    class-within (view c.in-Ok.tree) c.in-Ok-Some.class (sym form) (sym c.miscounts.ensures ∙ c.if-miscounts.false)
