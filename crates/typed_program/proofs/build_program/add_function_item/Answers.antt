use Rattle.std.proofs.Common.{◌++◌, refl, ap, sym, ◌∙◌, append-nil, add-zero, arith}
use Rattle.std.specs.Prelude.{Option, false}
use Rattle.sts_scope.specs.declared.kinds.StaticType.{StaticType}
use Rattle.sts_syntax.specs.Types.{value_types}
use Rattle.sts_syntax.specs.TypedViews.{typed_routines}
use Rattle.sts_syntax.specs.Views.{routine}
use Rattle.sts_syntax.specs.Programs.{Function}
use Rattle.text_sizes.proofs.Laws.{item_routines_numbered}
use Rattle.typed_numbers.specs.Building.{numbering_of}
use Rattle.typed_trees.specs.Functions as functions
use Rattle.typed_trees.specs.Sites.{naming}
use Rattle.typed_program.specs.Wholes as w
use Rattle.typed_program.proofs.AtMost.{function_at_most}
use Rattle.typed_program.proofs.build_program.add_function_item.Goals as goal

pub add_function-requires-clause-fits : goal.add_function-requires-clause-fits
add_function-requires-clause-fits c =
    let l = c.args.plan.now in
    let n = c.args.whole.now.builder.function in
    omega (arith, c.requires.functions, function_at_most l.tables.now (naming l) l.known.now (numbering_of l.numbers.now) false n c.kind_at-gives.result (routine c.args.body.now))

pub routine_handlers-whole-requires : goal.routine_handlers-whole-requires
routine_handlers-whole-requires c = record { few = omega (arith, c.requires.functions, item_routines_numbered (Function 0 (routine c.args.body.now))) }

pub returns : goal.returns
returns c = λ x.
    let old = c.args.whole.now in
    record {
      stmts = sym (append-nil (w.typed_list old.stmts));
      locals = sym (append-nil (value_types old.builder.locals));
      routines = c.in_ok-add_function.ensures
          ∙ ap (λ (k : Option StaticType). typed_routines old.builder.routines ++ functions.function_made c.args.plan.now false old.builder.function k (routine c.args.body.now)) c.kind_at-gives.ensures;
      local = sym (add-zero old.builder.local);
      function = omega (arith, c.routine_handlers-whole.ensures);
      class = sym (add-zero old.class);
      declaration = refl;
    }
