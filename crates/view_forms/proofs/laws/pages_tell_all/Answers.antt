use Rattle.view_forms.proofs.Page.{pages-back}
use Rattle.view_forms.proofs.laws.pages_tell_all.Goals as goal

pub returns : goal.returns
returns c head tail input h = pages-back head tail input h
