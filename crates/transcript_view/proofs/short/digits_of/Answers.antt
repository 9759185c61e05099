use Rattle.transcript_view.proofs.Cuts.{drop-rest}
use Rattle.view_forms.specs.Parts.{told_of}
use Rattle.transcript_view.proofs.short.digits_of.Goals as goal

pub returns : goal.returns
returns c = rw (c.min.ensures, c.told-told.ensures) (drop-rest 7 (told_of c.args.line.now))
