-- The flat code of a program.
use Rattle.std.specs.Prelude.{ℕ, suc, ◌+◌, pos, List, [], ◌∷◌, ◌++◌, length, map}
use Rattle.flat_ir.specs.declared.ops.Op.{Op}
use Rattle.flat_ir.specs.declared.ops.Op.TheVariants.{Const, Call, Ask, Jump}
use Rattle.flat_ir.specs.declared.ops.Function.{Function}
use Rattle.flat_ir.specs.declared.ops.FlatClass.{FlatClass}
use Rattle.flat_ir.specs.declared.ops.FlatCode.{FlatCode}
use Rattle.sts_syntax.specs.TypedTrees.{TypedRoutine, ClassEntry, TypedProgram}
use Rattle.sts_syntax.specs.Measures.{pending_words, outgoing_words, object_words}
use Rattle.sts_syntax.specs.WellTypedPrograms.{is_maker}
use Rattle.sts_lower.specs.Sizes.{statements_size}
use Rattle.sts_lower.specs.Statements.{statements_code, bare_code}
use Rattle.sts_lower.specs.Repeated.{repeated_in_each, before}

-- a function that `forever` starts: it calls f, pauses for 20 ms, and does so again
abbrev pub repeating_ops : ℕ → List Op
repeating_ops f = Call 0 f [] ∷ (Const 0 (pos 20) ∷ (Ask 0 2 (0 ∷ []) ∷ (Jump 0 ∷ [])))

abbrev pub repeating_function : ℕ → Function
repeating_function f = record { params = 0; locals = 0; operands = 1; outgoing = 0; ops = repeating_ops f }

abbrev pub repeating_functions : List ℕ → List Function
repeating_functions fs = map repeating_function fs

abbrev pub flat_class : ClassEntry → FlatClass
flat_class c = record { words = object_words c; slots = c.slots }

abbrev pub flat_classes : List ClassEntry → List FlatClass
flat_classes classes = map flat_class classes

module _ (P : TypedProgram) where
  -- the functions that `forever` starts are numbered behind those of the program, in the order of the calls in the text
  abbrev pub repeated_in_program : List ℕ
  repeated_in_program = repeated_in_each P.functions

  abbrev pub repeating : ℕ → ℕ
  repeating f = length P.functions + before repeated_in_program f

  -- the ops of function f: its statements', and then those of running off its end
  abbrev pub routine_ops : ℕ → TypedRoutine → List Op
  routine_ops f r =
      (let maker = is_maker P.classes f in
      let params = length r.params in
      let base = length r.params + length r.locals in
      let end = statements_size maker r.all in
      statements_code P.classes repeating params base maker r.all 0 end end end ++ bare_code maker base)

  abbrev pub lowered_routine : ℕ → TypedRoutine → Function
  lowered_routine f r =
      record {
        params = length r.params;
        locals = length r.locals;
        operands = pending_words r;
        outgoing = outgoing_words r;
        ops = routine_ops f r;
      }

  -- those from number f on
  abbrev pub lowered_routines : ℕ → List TypedRoutine → List Function
  lowered_routines f [] = []
  lowered_routines f (r ∷ rest) = lowered_routine f r ∷ lowered_routines (suc f) rest

  abbrev pub lowered : FlatCode
  lowered =
      record {
        functions = lowered_routines 0 P.functions ++ repeating_functions repeated_in_program;
        classes = flat_classes P.classes;
        main = P.main;
      }
