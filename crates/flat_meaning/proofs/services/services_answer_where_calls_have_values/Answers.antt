use Rattle.flat_meaning.proofs.Table.{answered}
use Rattle.flat_meaning.proofs.services.services_answer_where_calls_have_values.Goals as goal

pub returns : goal.returns
returns c = answered
