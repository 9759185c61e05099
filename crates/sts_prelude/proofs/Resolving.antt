-- Names make the typed functions of the library of its tree.
use Rattle.std.proofs.Common.{◌≡◌, ℕ, List, [], ◌∷◌, refl, sym, subst}
use Rattle.std.specs.Prelude.{Some, slice_get}
use lib.Chars.{codes}
use Rattle.sts_base.specs.Distinct.{IsDistinct}
use Rattle.sts_base.specs.declared.tables.Tables.{Tables}
use Rattle.sts_lexer.specs.Tokens.{IsTokenization}
use Rattle.sts_lexer.specs.declared.token.Token.{Token}
use Rattle.sts_syntax.specs.declared.board_calls.BoardCall.TheVariants as b
use Rattle.sts_syntax.specs.LibraryRoutines.{show_leds, show_glyphs, write_line, absolute, one_of_two, library_routines}
use Rattle.sts_syntax.specs.Annotations as a
use Rattle.sts_syntax.specs.Types as t
use Rattle.sts_prelude.specs.Library as l
use Rattle.sts_prelude.specs.Resolved.{BecomesFunction, BecomeFunctions}
use Rattle.sts_prelude.specs.declared.text.TheConstants.{LIBRARY}
use Rattle.sts_prelude.proofs.Tokens.{own}
use Rattle.sts_prelude.proofs.Renumbered.{moved}
use Rattle.sts_prelude.proofs.Spelling.{tokens_by, own_tokens_are, string_of}

-- what the names of calls among the library's names spell, by the tables' strings
record Spelled (strings : List (List ℕ)) (names : ℕ → ℕ) : Type 0 where
  show_leds : slice_get strings (names 1) ≡ Some (codes "$showLeds")
  show : slice_get strings (names 5) ≡ Some (codes "$show")
  basic : slice_get strings (names 6) ≡ Some (codes "basic")
  pause : slice_get strings (names 7) ≡ Some (codes "pause")
  show_number : slice_get strings (names 8) ≡ Some (codes "$showNumber")
  number_glyph : slice_get strings (names 13) ≡ Some (codes "$numberGlyph")
  show_string : slice_get strings (names 15) ≡ Some (codes "$showString")
  text_glyph : slice_get strings (names 18) ≡ Some (codes "$textGlyph")
  write_line : slice_get strings (names 19) ≡ Some (codes "$writeLine")
  serial : slice_get strings (names 20) ≡ Some (codes "serial")
  write_string : slice_get strings (names 21) ≡ Some (codes "writeString")
  abs : slice_get strings (names 22) ≡ Some (codes "$abs")
  min : slice_get strings (names 24) ≡ Some (codes "$min")
  max : slice_get strings (names 27) ≡ Some (codes "$max")

module _ (strings : List (List ℕ)) (names texts : ℕ → ℕ) (s : Spelled strings names) where
  leds_become : BecomesFunction strings 0 (l.of_parameter (tokens_by names texts) 0 a.Number a.Nothing (l.show_leds (tokens_by names texts) 10)) show_leds
  leds_become = (b.ShowLeds, refl, s.show_leds, (refl, tt), refl, [], refl, (((refl, s.show), (refl, tt)), (((s.basic, s.pause), (refl, tt)), tt)))

  number_becomes : BecomesFunction strings 1 (l.of_parameter (tokens_by names texts) 22 a.Number a.Nothing (l.show_glyphs (tokens_by names texts) 32)) (show_glyphs b.NumberGlyph t.Number)
  number_becomes = (
    b.ShowNumber,
    refl,
    s.show_number,
    (refl, tt),
    refl,
    names 11 ∷ names 12 ∷ [],
    refl,
    (
      (refl, (refl, refl, tt)),
      (
        (refl, (refl, ((refl, s.number_glyph), (refl, (refl, tt))), tt)),
        (
          (
            (refl, refl, refl),
            (((refl, s.show), (refl, tt)), (((s.basic, s.pause), (refl, tt)), ((refl, refl, refl), ((refl, refl, ((refl, s.number_glyph), (refl, (refl, tt)))), tt)))),
          ),
          tt,
        ),
      ),
    ),
  )

  string_becomes : BecomesFunction strings 2 (l.of_parameter (tokens_by names texts) 78 a.Text a.Nothing (l.show_glyphs (tokens_by names texts) 88)) (show_glyphs b.TextGlyph t.Text)
  string_becomes = (
    b.ShowString,
    refl,
    s.show_string,
    (refl, tt),
    refl,
    names 11 ∷ names 12 ∷ [],
    refl,
    (
      (refl, (refl, refl, tt)),
      (
        (refl, (refl, ((refl, s.text_glyph), (refl, (refl, tt))), tt)),
        (
          (
            (refl, refl, refl),
            (((refl, s.show), (refl, tt)), (((s.basic, s.pause), (refl, tt)), ((refl, refl, refl), ((refl, refl, ((refl, s.text_glyph), (refl, (refl, tt)))), tt)))),
          ),
          tt,
        ),
      ),
    ),
  )

  line_becomes : BecomesFunction strings 3 (l.of_parameter (tokens_by names texts) 134 a.Text a.Nothing (l.write_line (tokens_by names texts) 144)) (write_line (texts 0))
  line_becomes =
      (b.WriteLine, refl, s.write_line, (refl, tt), refl, [], refl, (((s.serial, s.write_string), (refl, tt)), (((s.serial, s.write_string), (refl, tt)), tt)))

  abs_becomes : BecomesFunction strings 4 (l.of_parameter (tokens_by names texts) 158 a.Number a.Number (l.absolute (tokens_by names texts) 168)) absolute
  abs_becomes = (b.Abs, refl, s.abs, (refl, tt), refl, [], refl, (((refl, refl, refl), (refl, refl, refl), refl), tt))

  min_becomes : BecomesFunction strings 5 (l.least_or_greatest (tokens_by names texts) 179 6) (one_of_two 6)
  min_becomes = (b.Min, refl, s.min, (refl, (refl, tt)), refl, [], refl, (((refl, refl, refl), refl, refl), tt))

  max_becomes : BecomesFunction strings 6 (l.least_or_greatest (tokens_by names texts) 202 7) (one_of_two 7)
  max_becomes = (b.Max, refl, s.max, (refl, (refl, tt)), refl, [], refl, (((refl, refl, refl), refl, refl), tt))

  all_become : BecomeFunctions strings 0 (l.library (tokens_by names texts)) (library_routines (texts 0))
  all_become = (leds_become, (number_becomes, (string_becomes, (line_becomes, (abs_becomes, (min_becomes, (max_becomes, tt)))))))

pub library_becomes : (tables : Tables) (tokens : List Token) → IsDistinct tables.names → IsDistinct tables.texts → IsTokenization tables LIBRARY.now tokens
    → BecomeFunctions tables.names 0 (l.library tokens) (library_routines (l.named_at tokens 155))
library_becomes tables tokens names texts h =
    let n = moved own.names tables.names in
    let x = moved own.texts tables.texts in
    let same : tokens ≡ tokens_by n x = own_tokens_are tables tokens names texts h in
    let s : Spelled tables.names n = record {
      show_leds = string_of tables n x tokens 1 (n 1) _ h same refl refl;
      show = string_of tables n x tokens 10 (n 5) _ h same refl refl;
      basic = string_of tables n x tokens 15 (n 6) _ h same refl refl;
      pause = string_of tables n x tokens 17 (n 7) _ h same refl refl;
      show_number = string_of tables n x tokens 23 (n 8) _ h same refl refl;
      number_glyph = string_of tables n x tokens 39 (n 13) _ h same refl refl;
      show_string = string_of tables n x tokens 79 (n 15) _ h same refl refl;
      text_glyph = string_of tables n x tokens 95 (n 18) _ h same refl refl;
      write_line = string_of tables n x tokens 135 (n 19) _ h same refl refl;
      serial = string_of tables n x tokens 144 (n 20) _ h same refl refl;
      write_string = string_of tables n x tokens 146 (n 21) _ h same refl refl;
      abs = string_of tables n x tokens 159 (n 22) _ h same refl refl;
      min = string_of tables n x tokens 180 (n 24) _ h same refl refl;
      max = string_of tables n x tokens 203 (n 27) _ h same refl refl;
    } in
    subst (λ (all : List Token). BecomeFunctions tables.names 0 (l.library all) (library_routines (l.named_at all 155))) (sym same) (all_become tables.names n x s)
