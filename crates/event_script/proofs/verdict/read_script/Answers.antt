use Rattle.std.proofs.Common.{◌∙◌, sym}
use Rattle.serde_json.specs.View.{view}
use Rattle.event_script.proofs.Soundness.{judged-sound}
use Rattle.event_script.proofs.verdict.read_script.Goals as goal

pub returns-in-Ok-judge-clause-sound : goal.returns-in-Ok-judge-clause-sound
returns-in-Ok-judge-clause-sound c =
    let form = rw c.in-Ok-Some.field-0-is at c.in-Ok-Some.ensures in
    (judged-sound (view c.in-Ok.tree) c.in-Ok-Some.script c.in-Ok-judge.script (sym form) (sym c.judge.ensures ∙ c.in-Ok-judge.is)).0

pub returns-in-Ok-judge-clause-within_form : goal.returns-in-Ok-judge-clause-within_form
returns-in-Ok-judge-clause-within_form c =
    let form = rw c.in-Ok-Some.field-0-is at c.in-Ok-Some.ensures in
    (judged-sound (view c.in-Ok.tree) c.in-Ok-Some.script c.in-Ok-judge.script (sym form) (sym c.judge.ensures ∙ c.in-Ok-judge.is)).1
