use Rattle.std.proofs.Common.{◌∙◌, ap, subst, sym, ℕ, ◌<◌, ◌^◌, slice_index, rules}
use Rattle.board_drivers.specs.declared.font.TheConstants.{GLYPHS}
use Rattle.board_drivers.proofs.Glyphs.{glyphs-same, glyphs-small}
use Rattle.board_drivers.proofs.font.glyph.Goals as goal

pub returns-clause-glyph : goal.returns-clause-glyph
returns-clause-glyph c = ap (slice_index GLYPHS) c.place.ensures.place ∙ glyphs-same c.args.byte (search rules)

pub returns-clause-bits : goal.returns-clause-bits
returns-clause-bits c = subst (λ (n : ℕ). slice_index GLYPHS n < 2 ^ 25) (sym c.place.ensures.place) (glyphs-small c.args.byte (search rules))
