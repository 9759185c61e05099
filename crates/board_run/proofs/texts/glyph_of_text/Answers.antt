use Rattle.std.proofs.Common.{sym, ap, ◌∙◌, subst, ◌≤◌, ◌<◌}
use Rattle.std.specs.Int.{cast_unsigned, w32}
use Rattle.board_world.specs.Font.{glyph_of}
use Rattle.board_run.proofs.FlashTexts.{glyph_in, glyph_past}
use Rattle.board_run.proofs.texts.glyph_of_text.Goals as goal

pub returns-then-place-length-clause-glyph : goal.returns-then-place-length-clause-glyph
returns-then-place-length-clause-glyph c =
    sym (ap (cast_unsigned w32) (glyph_past c.args.runtime.now.machine.memory.flash c.args.at c.args.place (subst (λ n. n ≤ c.args.place) c.requires.length c.if-place-length.true)))

pub returns-clause-glyph : goal.returns-clause-glyph
returns-clause-glyph c =
    c.glyph.ensures.glyph ∙ ap glyph_of c.flash_byte.ensures.byte
    ∙ sym (ap (cast_unsigned w32) (glyph_in c.args.runtime.now.machine.memory.flash c.args.at c.args.place (subst (λ n. c.args.place < n) c.requires.length c.if-place-length.false)))
