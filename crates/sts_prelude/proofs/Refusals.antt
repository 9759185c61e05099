-- The library's text is never refused, and what is read of it is the library.
use Rattle.std.proofs.Common.{◌≡◌, ℕ, List, sym, subst}
use Rattle.std.specs.Prelude.{Result, Ok, Err, IfOk}
use Rattle.sts_base.specs.Distinct.{IsDistinct}
use Rattle.sts_base.specs.declared.memory.NoMemory.{NoMemory}
use Rattle.sts_base.specs.declared.tables.Tables.{Tables}
use Rattle.sts_base.specs.declared.refused.Code.{Code}
use Rattle.sts_base.specs.declared.refused.Refused.{Refused}
use Rattle.sts_base.specs.declared.refused.Refused.TheVariants as refused
use Rattle.sts_lexer.specs.Refusals.{RefusesBytes}
use Rattle.sts_lexer.specs.Tokens.{IsTokenization}
use Rattle.sts_lexer.specs.Uses.{NumbersInOrder}
use Rattle.sts_lexer.specs.declared.token.Token.{Token}
use Rattle.sts_lexer.proofs.Laws.{tokens_or_refusal}
use Rattle.sts_syntax.specs.declared.units.Unit as u
use Rattle.sts_syntax.specs.Programs.{Program, program}
use Rattle.sts_grammar.specs.Texts.{source}
use Rattle.sts_grammar.specs.Units.{IsProgram}
use Rattle.sts_prelude.specs.Library.{library}
use Rattle.sts_prelude.specs.Spelled.{IsLibraryTree}
use Rattle.sts_prelude.specs.declared.text.TheConstants.{LIBRARY}
use Rattle.sts_prelude.proofs.Tokens.{own, own_tokens, own_tokenized}
use Rattle.sts_prelude.proofs.Spelling.{library_spelled}

pub never_refused : (why : Refused) (code : Code) (at : ℕ) → why ≡ refused.Program code at → RefusesBytes LIBRARY.now why → ⊥
never_refused why code at same h =
    tokens_or_refusal own LIBRARY.now own_tokens code at own_tokenized (subst (λ (x : Refused). RefusesBytes LIBRARY.now x) same h)

pub is_library : (old new : Tables) (tokens : List Token) (r : Result u.Unit NoMemory) → IsTokenization new LIBRARY.now tokens → NumbersInOrder old new tokens
    → IsDistinct new.names → IsDistinct new.texts → IfOk r (λ unit. program unit ≡ library tokens) → IfOk r (λ unit. IsLibraryTree old new (program unit))
is_library old new tokens (Ok unit) read order names texts h = record {
  tokens = tokens;
  read = read;
  in_order = order;
  spelled = subst (λ (p : Program). IsProgram (source tokens new) p) (sym h) (library_spelled new tokens names texts read);
}
is_library old new tokens (Err why) read order names texts h = tt
