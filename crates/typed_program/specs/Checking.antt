-- What `check` answers, of any library and text; and that behind the library of the prelude it is so of the typed program.
use Rattle.std.specs.Prelude.{ℕ, List}
use Rattle.sts_base.specs.declared.tables.Tables.{Tables}
use Rattle.sts_base.specs.declared.refused.Refused.{Refused}
use Rattle.sts_base.specs.declared.refused.Refused.TheVariants as r
use Rattle.sts_lexer.specs.declared.token.Token.{Token}
use Rattle.sts_scope.specs.Failures.{Failure}
use Rattle.sts_syntax.specs.Programs.{Program}
use Rattle.sts_syntax.specs.TypedTrees.{TypedProgram}
use Rattle.typed_laws.specs.inner.FilledTexts.{IsFilled, IsUnfilled}
use Rattle.typed_program.specs.Accepting.{ReadsText}
use Rattle.typed_program.specs.ElaboratedTexts.{BecomesProgram, FailsBy}

-- refused with the first failure; want of memory says nothing
abbrev pub RefusesTrees : Refused → Tables → Program → Program → Type 0
RefusesTrees (r.Program code at) tables library text = IsUnfilled tables library text (record { code = code; at = at })
RefusesTrees r.NoMemory tables library text = Unit {0}

-- behind the library of the prelude a filled program is the typed one, and a failure that is found is the text's
pub record FilledIsTyped : Type 0 where
  pub accepted : (text : List ℕ) (tables : Tables) (library : Program) (tokens : List Token) (program : Program)
      (P : TypedProgram) → ReadsText text tables library tokens → IsFilled tables library program P
      → BecomesProgram tables library program P
  pub refused : (text : List ℕ) (tables : Tables) (library : Program) (tokens : List Token) (program : Program)
      (f : Failure) → ReadsText text tables library tokens → IsUnfilled tables library program f
      → FailsBy tables library program f
