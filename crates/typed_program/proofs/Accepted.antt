-- Why a text that has tokens is refused.
use Rattle.std.proofs.Common.{ℕ, List, inr}
use Rattle.sts_base.specs.declared.refused.Refused.{Refused}
use Rattle.sts_base.specs.declared.refused.Refused.TheVariants as why
use Rattle.sts_base.specs.declared.tables.Tables.{Tables}
use Rattle.sts_lexer.specs.declared.token.Token.{Token}
use Rattle.sts_syntax.specs.Programs.{Program}
use Rattle.sts_grammar.specs.Deep.{NoneDeep}
use Rattle.sts_grammar.specs.Texts.{source}
use Rattle.sts_grammar.specs.Units.{IsProgram}
use Rattle.typed_program.specs.Checking as checking
use Rattle.typed_program.specs.Accepting.{ReadsText, RefusesText}

pub program_refused : checking.FilledIsTyped → (why : Refused) (text : List ℕ) (tables : Tables) (library : Program) (tokens : List Token) (p : Program) → ReadsText text tables library tokens → NoneDeep tokens
    → IsProgram (source tokens tables) p → checking.RefusesTrees why tables library p → RefusesText text why
program_refused typed (why.Program code at) text tables library tokens p read shallow spelled refused =
    inr (inr (record { tables = tables; library = library; tokens = tokens; read = read; shallow = shallow; program = p; spelled = spelled; refused = typed.refused text tables library tokens p (record { code = code; at = at }) read refused }))
program_refused typed why.NoMemory text tables library tokens p read shallow spelled refused = tt
