use Rattle.std.proofs.Common.{subst, ap, ◌∙◌, ◌≢◌, ◌≡◌, ℕ, true}
use Rattle.std.specs.Int.{cast_unsigned, w32}
use Rattle.thumb_code.specs.RegisterFile.{put_low}
use Rattle.bank_model.specs.Texts.{is_text, text_at, glyph_at}
use Rattle.bank_model.specs.Standing.{fiber_on}
use Rattle.bank_model.specs.AllServices.{word_argument}
use Rattle.fiber_runtime.specs.State.{State}
use Rattle.board_run.proofs.FlashTexts.{serve_text_glyph}
use Rattle.board_run.proofs.engine.Engine.text_glyph.Goals as goal

pub returns-in-Some-clause-served : goal.returns-in-Some-clause-served
returns-in-Some-clause-served c =
    let flash = c.args.self.now.runtime.machine.memory.flash in
    let f = fiber_on c.args.self.now.runtime.machine in
    serve_text_glyph c.args.self.now c.answer.new.runtime c.glyph_of_text-glyph.result c.args.at (subst (λ (n : ℕ). n ≢ 0) c.word-address.ensures c.if-address-eq0.false)
    (subst (λ (n : ℕ). is_text flash n ≡ true) c.word-address.ensures c.in-Some.ensures.length.0)
    (c.glyph_of_text-glyph.ensures.glyph ∙ ap (λ (s : State). cast_unsigned w32 (glyph_at (text_at s.machine.memory.flash c.word-address.result) c.word-place.result)) c.in-Some.ensures.same
    ∙ ap (λ (n : ℕ). cast_unsigned w32 (glyph_at (text_at flash n) c.word-place.result)) c.word-address.ensures ∙ ap (λ (n : ℕ). cast_unsigned w32 (glyph_at (text_at flash (word_argument f 0)) n)) c.word-place.ensures)
    (c.answer.ensures ∙ ap (λ (s : State). record s { machine = record s.machine { registers = put_low s.machine.registers 0 c.glyph_of_text-glyph.result } }) (c.glyph_of_text-glyph.ensures.same ∙ c.in-Some.ensures.same))
