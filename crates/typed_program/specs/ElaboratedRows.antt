-- Small texts that are elaborated, for worked rows.
use Rattle.std.specs.Prelude.{pos, false, Some, None, [], ◌∷◌, codes, Result}
use Rattle.sts_base.specs.declared.tables.Tables.{Tables}
use Rattle.sts_syntax.specs.Annotations as s
use Rattle.sts_syntax.specs.Trees as t
use Rattle.sts_syntax.specs.Trees.{present, done, also, Declare, Does}
use Rattle.sts_syntax.specs.Programs.{Field, Constructor, Class, Program}
use Rattle.sts_syntax.specs.TypedTrees.{TypedProgram}
use Rattle.sts_scope.specs.Failures.{Failure}
use Rattle.typed_laws.specs.Rows.{rounds, spelled}
use Rattle.typed_program.specs.ElaboratedTexts.{elab_text}

-- without a library, with the types that four rounds give
abbrev pub elaborated_text : Tables → Program → Result TypedProgram Failure
elaborated_text tables text = elab_text tables [] text (rounds tables text 4)

-- class A { constructor() { ; }
--     x: number = 1
-- }
abbrev pub late_names : Tables
late_names = spelled (codes "A" ∷ codes "x" ∷ [])

abbrev pub late_field : Program
late_field =
    Class 6 0 None 0
    (Constructor (Does 10 [] None (also (t.Empty 26) done) false)
    ∷ Field (Declare 34 1 (Some s.Number) (present (t.Num 46 (pos 1)))) ∷ []) ∷ []
