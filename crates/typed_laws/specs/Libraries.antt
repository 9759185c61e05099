-- What a library is to be like: functions alone, without a failure, of which some are the board's.
use Rattle.std.specs.Prelude.{◌≡◌, ℕ, suc, true, Option, Some, None, List, [], ◌∷◌, ◌++◌}
use Rattle.sts_base.specs.declared.tables.Tables.{Tables}
use Rattle.sts_syntax.specs.BoardTable as board
use Rattle.sts_syntax.specs.BoardTable.{BoardParameter, row_of}
use Rattle.sts_syntax.specs.Types as t
use Rattle.sts_syntax.specs.Types.{ValueType}
use Rattle.sts_syntax.specs.declared.board_calls.BoardCall.{BoardCall}
use Rattle.sts_syntax.specs.TypedTrees.{TypedRoutine}
use Rattle.sts_syntax.specs.TypeRules.{entry}
use Rattle.sts_syntax.specs.Trees.{Does}
use Rattle.sts_syntax.specs.Programs.{Function, Program}
use Rattle.type_derive.specs.Derived.{TypeTable, known}
use Rattle.sts_scope.specs.declared.known.Known.{Known}
use Rattle.sts_scope.specs.declared.known.This.TheVariants as this
use Rattle.sts_scope.specs.Failures.{Failure, ◌then◌}
use Rattle.sts_scope.specs.Entries.{Naming}
use Rattle.sts_scope.specs.Rules.{kind_at}
use Rattle.sts_scope.specs.Scopes.{all_names}
use Rattle.type_derive.specs.Returns.{parameter_locals, within}
use Rattle.type_derive.specs.Nodes.{statements_failure}
use Rattle.sts_scope.specs.Numbers.{numbering}
use Rattle.typed_laws.specs.Formed.{IsFormedProgram}
use Rattle.typed_laws.specs.Programs.{library_made}

-- what the library's function of a row takes: a drawing is a number
abbrev pub taken : List BoardParameter → List ValueType
taken [] = []
taken (board.Of u ∷ ps) = u ∷ taken ps
taken (board.Handler ∷ ps) = t.Nothing ∷ taken ps
taken (board.Drawing ∷ ps) = t.Number ∷ taken ps

abbrev pub OnlyFunctions : Program → Type 0
OnlyFunctions [] = Unit {0}
OnlyFunctions (Function x r ∷ rest) = OnlyFunctions rest
OnlyFunctions _ = ⊥

-- the first failure of the library's functions, which know their own names alone; the first one is the d-th declaration
module _ (tables : Tables) (names : Naming) (k : Known) where
  abbrev pub library_failure : ℕ → Program → Option Failure
  library_failure d [] = None
  library_failure d (Function x (Does at params gives all arrow) ∷ rest) =
      statements_failure tables names k (within (parameter_locals names params) this.Nowhere (kind_at k d) true) all
      then library_failure (suc d) rest
  library_failure d (_ ∷ rest) = library_failure d rest

-- a library before a text, with these types of declarations
pub record IsLibrary (tables : Tables) (library text : Program) (kinds : TypeTable) : Type 0 where
  pub functions : OnlyFunctions library
  pub formed : IsFormedProgram library
  pub no_failure : library_failure tables (all_names library text) (known library text kinds) 0 library ≡ None
  -- its typed functions: each row of the board's table that is a function of the library is one of them that takes and gives the same
  pub routines : List TypedRoutine
  pub built : library_made tables (all_names library text) (known library text kinds) (numbering (library ++ text)) 0 0
      library ≡ Some routines
  pub rows : (call : BoardCall) (f : ℕ) → (row_of call).action ≡ board.Library f
      → (r : TypedRoutine)
      × (entry routines f ≡ Some r) × (r.params ≡ taken (row_of call).takes) × (r.gives ≡ (row_of call).gives)
