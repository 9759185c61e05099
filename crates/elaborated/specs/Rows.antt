-- Small expressions and statements, for worked rows. No class, function or global is declared around them.
use Rattle.std.specs.Prelude.{pos, false, true, Option, Some, None, [], ◌∷◌, codes, Result}
use Rattle.sts_syntax.specs.Annotations as s
use Rattle.sts_syntax.specs.Trees as t
use Rattle.sts_syntax.specs.Trees.{Tree, Statement, Statements, none, more, present, done, also, ended, next, Declare, Does}
use Rattle.sts_syntax.specs.TypedTrees.{TypedStatement}
use Rattle.sts_scope.specs.declared.known.This.TheVariants as this
use Rattle.sts_scope.specs.Failures.{Failure}
use Rattle.sts_scope.specs.Numbers.{numbering}
use Rattle.sts_scope.specs.Places.{outside}
use Rattle.type_derive.specs.Derived.{known}
use Rattle.type_derive.specs.Making.{Made}
use Rattle.type_derive.specs.Built.{Site, made_statement}
use Rattle.type_derive.specs.Nodes.{statement_failure}
use Rattle.elaborated.specs.Elaborated.{Whole, elab_statement}

-- serial is name 0, writeNumber 1, control 2, inBackground 3, v 4
abbrev pub few_names : Whole
few_names = record {
  tables = record {
    names = codes "serial" ∷ codes "writeNumber" ∷ codes "control" ∷ codes "inBackground" ∷ codes "v" ∷ [];
    texts = [];
  };
  names = λ x. None;
  known = known [] [] [];
  numbers = numbering [];
}

abbrev pub main_program : Site
main_program = record { place = outside this.Nowhere false None; spots = [] }

-- elaborated in the main program, as its first statement
abbrev pub elaborated : Statement → Result (Made TypedStatement) Failure
elaborated a = elab_statement few_names main_program a 0 0

abbrev pub fails_first : Statement → Option Failure
fails_first a = statement_failure few_names.tables few_names.names few_names.known main_program.place a

abbrev pub is_made : Statement → Option (Made TypedStatement)
is_made a = made_statement few_names.tables few_names.names few_names.known few_names.numbers main_program a 0 0

abbrev pub write_number : t.Trees → Statement
write_number args = t.Plain 0 (t.Call 0 (t.Member 0 (t.Name 0 0) 1) args)

-- serial.writeNumber(2147483647 + 1)
abbrev pub a_sum : Statement
a_sum = write_number (more (t.Binary 19 13 (t.Num 19 (pos 2147483647)) (t.Num 32 (pos 1))) none)

-- serial.writeNumber(1, [])
abbrev pub a_surplus : Statement
a_surplus = write_number (more (t.Num 19 (pos 1)) (more (t.Items 22 none) none))

-- { let v: number[] = [] }
abbrev pub an_empty_list : Statement
an_empty_list =
    t.Block 0
    (also (t.Let 2 false (next (Declare 6 4 (Some (s.ListOf s.Number)) (present (t.Items 20 none))) ended)) done)

-- { let v = null }
abbrev pub null_only : Statement
null_only = t.Block 0 (also (t.Let 2 false (next (Declare 6 4 None (present (t.Null 10))) ended)) done)

-- for (let v of 5) { }, and for (let v of 5) { serial.writeNumber(v) }
abbrev pub no_list : Statements → Statement
no_list all = t.ForOf 0 false 4 (t.Num 14 (pos 5)) (t.Block 17 all)

abbrev pub with_its_item : Statements
with_its_item = also (t.Plain 19 (t.Call 19 (t.Member 19 (t.Name 19 0) 1) (more (t.Name 38 4) none))) done

-- while (1) { }, and while (1) { v; }
abbrev pub no_test : Statements → Statement
no_test all = t.While 0 (t.Num 7 (pos 1)) (t.Block 10 all)

abbrev pub an_unknown : Statements
an_unknown = also (t.Plain 12 (t.Name 12 4)) done

-- control.inBackground(() => { .. })
abbrev pub in_background : Statements → Statement
in_background all =
    t.Plain 0 (t.Call 0 (t.Member 0 (t.Name 0 2) 3) (more (t.Handler 21 (Does 21 [] None all true)) none))

-- with another one in it, and one that returns a number
abbrev pub one_in_another : Statement
one_in_another = in_background (also (in_background done) done)

abbrev pub one_that_gives : Statement
one_that_gives = in_background (also (t.Return 29 (present (t.Num 36 (pos 1)))) done)
