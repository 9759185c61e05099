use Rattle.run_tool.proofs.Completing.{completes, refused, script-refused, image-refused, faulted, folder-failed, sink-failed}
use Rattle.run_tool.proofs.Headlines.{headline}
use Rattle.run_tool.proofs.CompleteCalls.{complete}
use Rattle.run_tool.proofs.ToldAt.{headline-at}
use Rattle.run_tool.proofs.ToldClass.{headline-class}
use Rattle.std.proofs.Common.{◌≡◌, ◌∙◌, ap, refl, map, inl, inr}
use Rattle.std.specs.String.{string_bytes}
use Rattle.sts_words.proofs.Laws.{some-asked}
use Rattle.run_tool.specs.declared.ending.Ending.TheVariants.{NoMemory}
use Rattle.run_tool.specs.Answers.{ending_number, of_sink}
use Rattle.run_tool.specs.Wanted.{Wants}
use Rattle.run_tool.proofs.Wanting.{asked-more, wants-more}
use Rattle.run_tool.specs.Files.{told_by}
use Rattle.run_tool.proofs.Endings.{told-number}
use Rattle.run_tool.proofs.commands.sts_main.Goals as goal

pub returns-clause-headline : goal.returns-clause-headline
returns-clause-headline g c = λ asked is.
    headline (told_by g.F.Folder.holds g.F.Folder.faults c.args.folder.now c.perform.new.folder) asked c.number.result c.one_answer.ensures c.perform.result c.number.ensures (c.perform.ensures.answer asked is)

pub returns-clause-completes : goal.returns-clause-completes
returns-clause-completes g c = λ asked is. completes (told_by g.F.Folder.holds g.F.Folder.faults c.args.folder.now c.perform.new.folder) asked c.perform.result c.number.result c.number.ensures (c.perform.ensures.answer asked is)

pub returns-clause-complete : goal.returns-clause-complete
returns-clause-complete g c = λ asked is.
    complete c.one_answer.ensures (told_by g.F.Folder.holds g.F.Folder.faults c.args.folder.now c.perform.new.folder) (of_sink g.K.Sink.taken g.K.Sink.faults c.args.out.now c.perform.new.out) asked c.number.result
    (completes (told_by g.F.Folder.holds g.F.Folder.faults c.args.folder.now c.perform.new.folder) asked c.perform.result c.number.result c.number.ensures (c.perform.ensures.answer asked is))

pub returns-clause-headline_at : goal.returns-clause-headline_at
returns-clause-headline_at g c = λ asked is. headline-at c.one_answer.ensures (told_by g.F.Folder.holds g.F.Folder.faults c.args.folder.now c.perform.new.folder) asked c.perform.result c.number.result c.number.ensures (c.perform.ensures.answer asked is)

pub returns-clause-headline_class : goal.returns-clause-headline_class
returns-clause-headline_class g c = λ asked is. headline-class c.one_answer.ensures (told_by g.F.Folder.holds g.F.Folder.faults c.args.folder.now c.perform.new.folder) asked c.perform.result c.number.result c.number.ensures (c.perform.ensures.answer asked is)

pub returns-clause-refused : goal.returns-clause-refused
returns-clause-refused g c = λ asked is. refused (told_by g.F.Folder.holds g.F.Folder.faults c.args.folder.now c.perform.new.folder) asked c.perform.result c.number.result c.number.ensures (c.perform.ensures.answer asked is)

pub returns-clause-script_refused : goal.returns-clause-script_refused
returns-clause-script_refused g c = λ asked is. script-refused (told_by g.F.Folder.holds g.F.Folder.faults c.args.folder.now c.perform.new.folder) asked c.perform.result c.number.result c.number.ensures (c.perform.ensures.answer asked is)

pub returns-clause-image_refused : goal.returns-clause-image_refused
returns-clause-image_refused g c = λ asked is. image-refused (told_by g.F.Folder.holds g.F.Folder.faults c.args.folder.now c.perform.new.folder) asked c.perform.result c.number.result c.number.ensures (c.perform.ensures.answer asked is)

pub returns-clause-faulted : goal.returns-clause-faulted
returns-clause-faulted g c = λ asked is. faulted (told_by g.F.Folder.holds g.F.Folder.faults c.args.folder.now c.perform.new.folder) asked c.perform.result c.number.result c.number.ensures (c.perform.ensures.answer asked is)

pub returns-clause-folder_failed : goal.returns-clause-folder_failed
returns-clause-folder_failed g c =
    let some = some-asked (map string_bytes c.args.words.now) in
    folder-failed (told_by g.F.Folder.holds g.F.Folder.faults c.args.folder.now c.perform.new.folder) some.0 c.perform.result c.number.result c.number.ensures (c.perform.ensures.answer some.0 some.1)

pub returns-clause-asked : goal.returns-clause-asked
returns-clause-asked g c = λ order is.
    let asked = g.F.Folder.asked in
    let holds = g.F.Folder.holds in
    let faults = g.F.Folder.faults in
    let old = c.args.folder.now in
    let new = c.perform.new.folder in
    let files = told_by holds faults old new in
    let stopped = c.perform.result ≡ NoMemory in
    let lacking = c.number.result ≡ 30 in
    asked-more asked old new (Wants files stopped order) (Wants files lacking order)
    (λ names h. wants-more files files stopped lacking (λ file. refl, λ r. r) (λ e. c.number.ensures ∙ ap ending_number e) order names h) (c.perform.ensures.asked order is)

pub returns-clause-ends : goal.returns-clause-ends
returns-clause-ends g c = λ asked is. (c.perform.result, c.number.ensures, c.perform.ensures.answer asked is)

pub returns-clause-sink_failed : goal.returns-clause-sink_failed
returns-clause-sink_failed g c =
    let some = some-asked (map string_bytes c.args.words.now) in
    sink-failed (told_by g.F.Folder.holds g.F.Folder.faults c.args.folder.now c.perform.new.folder) some.0 c.perform.result c.number.result c.number.ensures (c.perform.ensures.answer some.0 some.1)

pub returns-clause-failure_told : goal.returns-clause-failure_told
returns-clause-failure_told g c = told-number (g.F.Folder.faults c.args.folder.now) (g.F.Folder.faults c.perform.new.folder) c.perform.result c.number.result c.number.ensures c.perform.ensures.failure

pub returns-clause-usage : goal.returns-clause-usage
returns-clause-usage g c = λ is. elim (c.perform.ensures.usage is) [ inl e ↦ inl (c.number.ensures ∙ ap ending_number e) | inr e ↦ inr (c.number.ensures ∙ ap ending_number e) ]
