use Rattle.view_forms.proofs.Apart.{texts-kept}
use Rattle.view_forms.proofs.laws.joined_texts_are_whole.Goals as goal

pub returns : goal.returns
returns c lines = texts-kept lines
