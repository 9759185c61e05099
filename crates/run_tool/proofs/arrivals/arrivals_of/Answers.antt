use Rattle.std.proofs.Common.{List, subst, Ok, ◌≡◌, refl, inl, le_refl, ap}
use Rattle.arrival_file.specs.Verdict.{Tells}
use Rattle.run_tool.specs.RunAt.{AnswersArrivals}
use Rattle.run_tool.specs.inner.{none_to_read, wants_never}
use Rattle.run_tool.proofs.Endings.{if-ok, if-err, text-gives, no-text-gives}
use Rattle.std.specs.Prelude.{Result, IsErrOf, Err}
use Rattle.arrival_file.specs.declared.arrival.Arrival.{Arrival}
use Rattle.run_tool.specs.declared.ending.Ending.{Ending}
use Rattle.run_tool.specs.declared.ending.Ending.TheVariants.{NoMemory}
use Rattle.run_tool.specs.Wanted.{OrLacks, WantsFile, wants_none}
use Rattle.run_tool.proofs.Wanting.{asked-more, asked-none, file-more, then-behind}
use Rattle.run_tool.specs.Files.{told_by}
use Rattle.run_tool.proofs.arrivals.arrivals_of.Goals as goal

pub returns-in-Ok-clause-arrivals : goal.returns-in-Ok-clause-arrivals
returns-in-Ok-clause-arrivals g c =
    if-ok c.arrivals_in.result (λ arrivals h. (c.in-Ok.text, c.in-Ok.ensures.text, subst (λ t. Tells t (Ok arrivals)) c.deref.ensures.value h)) c.arrivals_in.ensures.arrivals

pub returns-in-Ok-clause-none : goal.returns-in-Ok-clause-none
returns-in-Ok-clause-none g c =
    let files = told_by g.F.Folder.holds g.F.Folder.faults c.args.folder.now c.text_of.new.folder in
    if-err c.arrivals_in.result (λ ending h. text-gives (AnswersArrivals none_to_read) files c.args.name.now c.in-Ok.text c.deref.result.now ending c.in-Ok.ensures.unwritten c.in-Ok.ensures.later
    c.deref.ensures.value c.in-Ok.ensures.text h) c.arrivals_in.ensures.none

pub returns-in-Err-clause-none : goal.returns-in-Err-clause-none
returns-in-Err-clause-none g c =
    let files = told_by g.F.Folder.holds g.F.Folder.faults c.args.folder.now c.text_of.new.folder in
    no-text-gives (AnswersArrivals none_to_read) files c.args.name.now c.in-Err.ending c.in-Err.ensures.none

pub returns-in-Ok-clause-asked : goal.returns-in-Ok-clause-asked
returns-in-Ok-clause-asked g c =
    let asked = g.F.Folder.asked in
    let holds = g.F.Folder.holds in
    let faults = g.F.Folder.faults in
    let old = c.args.folder.now in
    let new = c.text_of.new.folder in
    let files = told_by holds faults old new in
    let lacking = IsErrOf c.arrivals_in.result NoMemory in
    then-behind asked holds faults old new new lacking c.args.name.now (λ text. wants_none) c.in-Ok.text c.deref.result.now c.in-Ok.ensures.asked c.in-Ok.ensures.text c.deref.ensures.value (le_refl (faults new))
    (asked-none asked new (OrLacks lacking wants_none) (inl refl))

pub returns-in-Err-clause-asked : goal.returns-in-Err-clause-asked
returns-in-Err-clause-asked g c =
    let asked = g.F.Folder.asked in
    let holds = g.F.Folder.holds in
    let faults = g.F.Folder.faults in
    let old = c.args.folder.now in
    let new = c.text_of.new.folder in
    let files = told_by holds faults old new in
    let stopped = c.in-Err.ending ≡ NoMemory in
    let result : Result (List Arrival) Ending = Err c.in-Err.ending in
    let lacking = IsErrOf result NoMemory in
    asked-more asked old new (WantsFile files stopped c.args.name.now (λ text. wants_never)) (WantsFile files lacking c.args.name.now (λ text. wants_none))
    (λ names h. file-more files files stopped lacking (λ file. refl, λ r. r) (λ e. ap (λ x. Err x) e) c.args.name.now (λ text. wants_never) (λ text. wants_none) names (λ text names x. absurd x) h) c.in-Err.ensures.stopped
