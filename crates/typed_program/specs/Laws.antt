-- Laws of accepted texts.
use Rattle.std.specs.Prelude.{◌≡◌, ◌≢◌, ◌≤◌, ◌⊎◌, ℕ, List, take}
use Rattle.sts_base.specs.declared.refused.Code.{Code}
use Rattle.sts_base.specs.declared.refused.Code.TheVariants.{Syntax}
use Rattle.sts_base.specs.declared.tables.Tables.{Tables}
use Rattle.sts_lexer.specs.declared.token.Token.{Token}
use Rattle.sts_syntax.specs.BoardTable.{library_size}
use Rattle.sts_syntax.specs.Programs.{Program}
use Rattle.sts_syntax.specs.TypedTrees.{TypedProgram}
use Rattle.sts_syntax.specs.Weights.{routines_weight}
use Rattle.typed_program.specs.Accepting.{ReadsText, Accepts, IsRefusedFor}
use Rattle.typed_laws.specs.Buildable.{IsBuildable}

-- The typed program of an accepted text can be built, and its library weighs no more than 600.
abbrev pub AcceptedIsBuildable : Type 0
AcceptedIsBuildable = (text : List ℕ) (tables : Tables) (P : TypedProgram) → Accepts text tables P
    → IsBuildable P tables.texts × (routines_weight (take library_size P.functions) ≤ 600)

-- A text isn't both accepted and refused. It is accepted as one program, with one pair of tables, or refused for one reason: only the place of a syntax error isn't
-- determined.
pub record OneAnswer : Type 0 where
  pub either : (text : List ℕ) (tables : Tables) (P : TypedProgram) (code : Code) (at : ℕ) → Accepts text tables P
      → IsRefusedFor text code at → ⊥
  pub program : (text : List ℕ) (tables tables' : Tables) (P P' : TypedProgram) → Accepts text tables P
      → Accepts text tables' P' → (tables ≡ tables') × (P ≡ P')
  pub refusal : (text : List ℕ) (code code' : Code) (at at' : ℕ) → IsRefusedFor text code at
      → IsRefusedFor text code' at' → (code ≡ code') × (code ≢ Syntax → at ≡ at')

-- A text that has tokens, behind the library, is accepted or refused.
abbrev pub SomeAnswer : Type 0
SomeAnswer =
    (text : List ℕ) (tables : Tables) (library : Program) (tokens : List Token) → ReadsText text tables library tokens
    → ((P : TypedProgram) × Accepts text tables P) ⊎ ((code : Code) × (at : ℕ) × IsRefusedFor text code at)

-- A text has one answer: it is accepted or refused, and never both; as one program, or for one reason.
pub record TextHasOneAnswer : Type 0 where
  pub some : (text : List ℕ) → ((tables : Tables) × (P : TypedProgram) × Accepts text tables P)
      ⊎ ((code : Code) × (at : ℕ) × IsRefusedFor text code at)
  pub one : OneAnswer
