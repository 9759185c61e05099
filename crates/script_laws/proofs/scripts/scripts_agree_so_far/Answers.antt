use Rattle.script_laws.proofs.Agreeing.{agree}
use Rattle.script_laws.proofs.scripts.scripts_agree_so_far.Goals as goal

pub returns : goal.returns
returns g c = agree
