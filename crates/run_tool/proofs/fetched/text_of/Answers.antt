use Rattle.std.proofs.Common.{◌≡◌, ◌∷◌, [], refl, subst, inl}
use Rattle.run_tool.specs.declared.fetched.Fetched.TheVariants.{Absent, Long, Failed}
use Rattle.run_tool.specs.declared.ending.Ending.TheVariants.{NoMemory}
use Rattle.run_tool.specs.Files.{MayFetch, told_by}
use Rattle.run_tool.specs.inner.{wants_never}
use Rattle.run_tool.proofs.Wanting.{file-ended, file-lacked}
use Rattle.run_tool.proofs.fetched.text_of.Goals as goal

pub returns-in-Ok-Absent-clause-stopped : goal.returns-in-Ok-Absent-clause-stopped
returns-in-Ok-Absent-clause-stopped g c =
    let files = told_by g.F.Folder.holds g.F.Folder.faults c.args.folder.now c.fetch.new.folder in
    let name = c.args.name.now in
    let came = subst (λ f. MayFetch files name f) c.in-Ok-Absent.field-0-is c.in-Ok-Absent.ensures.fetched in
    (name ∷ [], c.in-Ok-Absent.ensures.asked, file-ended files _ name (λ text. wants_never) Absent came refl)

pub returns-in-Ok-Long-clause-stopped : goal.returns-in-Ok-Long-clause-stopped
returns-in-Ok-Long-clause-stopped g c =
    let files = told_by g.F.Folder.holds g.F.Folder.faults c.args.folder.now c.fetch.new.folder in
    let name = c.args.name.now in
    let came = subst (λ f. MayFetch files name f) c.in-Ok-Long.field-0-is c.in-Ok-Long.ensures.fetched in
    (name ∷ [], c.in-Ok-Long.ensures.asked, file-ended files _ name (λ text. wants_never) Long came refl)

pub returns-in-Ok-Failed-clause-stopped : goal.returns-in-Ok-Failed-clause-stopped
returns-in-Ok-Failed-clause-stopped g c =
    let files = told_by g.F.Folder.holds g.F.Folder.faults c.args.folder.now c.fetch.new.folder in
    let name = c.args.name.now in
    let came = subst (λ f. MayFetch files name f) c.in-Ok-Failed.field-0-is c.in-Ok-Failed.ensures.fetched in
    (name ∷ [], c.in-Ok-Failed.ensures.asked, file-ended files _ name (λ text. wants_never) Failed came refl)

pub returns-in-Err-clause-stopped : goal.returns-in-Err-clause-stopped
returns-in-Err-clause-stopped g c =
    let files = told_by g.F.Folder.holds g.F.Folder.faults c.args.folder.now c.fetch.new.folder in
    file-lacked g.F.Folder.asked c.args.folder.now c.fetch.new.folder files (NoMemory ≡ NoMemory) c.args.name.now (λ text. wants_never) refl c.in-Err.ensures.lacking

pub returns-in-Ok-Absent-clause-failure : goal.returns-in-Ok-Absent-clause-failure
returns-in-Ok-Absent-clause-failure g c = inl (c.in-Ok-Absent.ensures.unfailed (λ f. let is = c.in-Ok-Absent.field-0-is in absurd (cc)))

pub returns-in-Ok-Long-clause-failure : goal.returns-in-Ok-Long-clause-failure
returns-in-Ok-Long-clause-failure g c = inl (c.in-Ok-Long.ensures.unfailed (λ f. let is = c.in-Ok-Long.field-0-is in absurd (cc)))

pub returns-in-Ok-Text-clause-unfailed : goal.returns-in-Ok-Text-clause-unfailed
returns-in-Ok-Text-clause-unfailed g c = c.in-Ok-Text.ensures.unfailed (λ f. let is = c.in-Ok-Text.field-0-is in absurd (cc))
