use Rattle.std.proofs.Common.{◌∙◌, w32, to_z-of_z}
use Rattle.bank_model.specs.Standing.{fiber_on}
use Rattle.bank_model.specs.AllServices.{word_argument}
use Rattle.board_run.proofs.AskServices.{serve_number, text_nonempty}
use Rattle.board_run.proofs.engine.Engine.write_number.Goals as goal

pub returns : goal.returns
returns c = serve_number c.args.self.now _ (to_z-of_z {w = w32} {z = c.number.result} (record { sfits = c.number.type_inv }) ∙ c.number.ensures) (text_nonempty (word_argument (fiber_on c.args.self.now.runtime.machine) 0))
