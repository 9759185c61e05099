use Rattle.bank_model.specs.AllServices.{quotient}
use Rattle.board_run.proofs.AskServices.{serve_divide, two_args, cast_back}
use Rattle.board_run.proofs.engine.Engine.divide.Goals as goal

pub returns-clause-served : goal.returns-clause-served
returns-clause-served c =
    serve_divide c.args.self.now c.answer.new.runtime _ c.quotient-result.result
    (two_args quotient c.quotient-result.result c.number.result c.number-2.result _ _ c.number.type_inv c.number-2.type_inv c.number.ensures c.number-2.ensures c.quotient-result.ensures)
    (cast_back c.quotient-result.result c.cast_unsigned.result c.quotient-result.type_inv c.cast_unsigned.ensures) c.answer.ensures
