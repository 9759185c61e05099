use Rattle.std.proofs.Common.{◌+◌, ◌^◌, ◌<◌, ◌++◌, ◌∷◌, [], length, ap, sym, ◌∙◌, add-zero, arith}
use Rattle.sts_syntax.specs.TypedTrees.{TypedStatement}
use Rattle.sts_syntax.specs.Programs.{Main}
use Rattle.sts_syntax.specs.Views.{statement}
use Rattle.text_sizes.proofs.Laws.{item_routines_numbered}
use Rattle.typed_numbers.specs.Building.{numbering_of}
use Rattle.typed_trees.specs.Fits.{numbers_taken}
use Rattle.typed_trees.specs.Sites.{naming}
use Rattle.typed_program.specs.Wholes as w
use Rattle.typed_program.proofs.AtMost.{main_at_most}
use Rattle.typed_program.proofs.build_program.add_main_item.Goals as goal

pub statement_handlers-whole-requires : goal.statement_handlers-whole-requires
statement_handlers-whole-requires c = record { few = omega (arith, c.requires.functions, item_routines_numbered (Main (statement c.args.a.now))) }

pub returns : goal.returns
returns c =
    let l = c.args.plan.now in
    let old = c.args.whole.now in
    let a = statement c.args.a.now in
    let made = w.main_made l old.declaration a old.builder.local old.builder.function in
    let most = main_at_most l.tables.now (naming l) l.known.now (numbering_of l.numbers.now) old.declaration a old.builder.local old.builder.function in
    let local : old.builder.local + length made.locals < 2 ^ 32 = omega (arith, most, c.requires.locals) in
    let function : old.builder.function + numbers_taken made.routines < 2 ^ 32 = omega (arith, most, c.requires.functions) in
    let (it, (locals, (routines, (next, behind)))) = c.in_ok-made.ensures (local, function) in
    record {
      stmts = c.in_ok-add_statement.ensures ∙ ap (λ (x : TypedStatement). w.typed_list old.stmts ++ x ∷ []) it;
      locals = locals;
      routines = routines;
      local = next;
      function = c.statement_handlers-whole.ensures;
      class = sym (add-zero old.class);
      declaration = ap (λ n. old.declaration + n) c.globals_in.ensures;
    }
