use Rattle.view_forms.proofs.Page.{text-no_markup}
use Rattle.view_forms.proofs.laws.transcripts_are_no_markup.Goals as goal

pub returns : goal.returns
returns c input = text-no_markup input
