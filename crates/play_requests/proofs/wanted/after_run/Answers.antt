use Rattle.std.proofs.Common.{codes}
use Rattle.play_requests.proofs.Begins.{begun}
use Rattle.play_requests.proofs.wanted.after_run.Goals as goal

pub returns : goal.returns
returns c = begun (codes "/run/") c.args.path.now c.strip_prefix.result c.strip_prefix.ensures.cases
