use Rattle.bank_model.specs.AllServices.{remainder}
use Rattle.board_run.proofs.AskServices.{serve_remainder, two_args, cast_back}
use Rattle.board_run.proofs.engine.Engine.take_remainder.Goals as goal

pub returns-clause-served : goal.returns-clause-served
returns-clause-served c =
    serve_remainder c.args.self.now c.answer.new.runtime _ c.remainder-result.result
    (two_args remainder c.remainder-result.result c.number.result c.number-2.result _ _ c.number.type_inv c.number-2.type_inv c.number.ensures c.number-2.ensures c.remainder-result.ensures)
    (cast_back c.remainder-result.result c.cast_unsigned.result c.remainder-result.type_inv c.cast_unsigned.ensures) c.answer.ensures
