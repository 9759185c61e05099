use Rattle.view_forms.proofs.Short.{short-of}
use Rattle.view_forms.proofs.laws.what_is_left_out_is_counted.Goals as goal

pub returns : goal.returns
returns c lines = short-of lines
