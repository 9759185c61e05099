use Rattle.std.proofs.Common.{◌∙◌, ap}
use Rattle.board_world.specs.Transcript.{decimal_text}
use Rattle.bank_model.specs.Texts.{glyph_at}
use Rattle.bank_model.specs.Standing.{fiber_on}
use Rattle.bank_model.specs.AllServices.{argument}
use Rattle.board_run.proofs.AskServices.{serve_glyph, back, cast_back}
use Rattle.board_run.proofs.engine.Engine.number_glyph.Goals as goal

pub returns-clause-served : goal.returns-clause-served
returns-clause-served c =
    serve_glyph c.args.self.now c.answer.new.runtime _ c.glyph_of_number-glyph.result
    (c.glyph_of_number-glyph.ensures ∙ ap (λ n. glyph_at (decimal_text n) c.word.result) (back c.number.result c.number.type_inv ∙ c.number.ensures)
    ∙ ap (glyph_at (decimal_text (argument (fiber_on c.args.self.now.runtime.machine) 0))) c.word.ensures)
    (cast_back c.glyph_of_number-glyph.result c.cast_unsigned.result c.glyph_of_number-glyph.type_inv c.cast_unsigned.ensures) c.answer.ensures
