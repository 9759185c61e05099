-- That the library's text spells a tree.
use Rattle.std.specs.Prelude.{List}
use Rattle.sts_syntax.specs.LibraryRoutines.{library_routines}
use Rattle.sts_base.specs.Distinct.{IsDistinct}
use Rattle.sts_base.specs.declared.tables.Tables.{Tables}
use Rattle.sts_lexer.specs.Tokens.{IsTokenization}
use Rattle.sts_lexer.specs.Uses.{NumbersInOrder}
use Rattle.sts_lexer.specs.declared.token.Token.{Token}
use Rattle.sts_syntax.specs.Programs.{Program}
use Rattle.sts_grammar.specs.Texts.{source}
use Rattle.sts_grammar.specs.Units.{IsProgram}
use Rattle.sts_prelude.specs.Library.{named_at, library}
use Rattle.sts_prelude.specs.Resolved.{BecomeFunctions}
use Rattle.sts_prelude.specs.declared.text.TheConstants.{LIBRARY}

-- This is the tree of the library's text, whose tokens are numbered over old tables and left these.
pub record IsLibraryTree (old new : Tables) (program : Program) : Type 0 where
  pub tokens : List Token
  pub read : IsTokenization new LIBRARY.now tokens
  pub in_order : NumbersInOrder old new tokens
  pub spelled : IsProgram (source tokens new) program

-- The tokens of the library's text, by whatever tables, spell the library.
pub record TextSpellsLibrary : Type 0 where
  pub spelled : (tables : Tables) (tokens : List Token) → IsDistinct tables.names → IsDistinct tables.texts
      → IsTokenization tables LIBRARY.now tokens
      → IsProgram (source tokens tables) (library tokens)

-- Names make the typed functions of the library, which stand first in each program, of that tree. Token 155 is the text
-- of a line end.
pub record TreeBecomesRoutines : Type 0 where
  pub become : (tables : Tables) (tokens : List Token) → IsDistinct tables.names → IsDistinct tables.texts
      → IsTokenization tables LIBRARY.now tokens
      → BecomeFunctions tables.names 0 (library tokens) (library_routines (named_at tokens 155))
