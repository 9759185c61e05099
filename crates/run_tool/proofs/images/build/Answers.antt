use Rattle.sts_syntax.specs.TypedViews.{typed_program}
use Rattle.run_tool.proofs.images.build.Goals as goal

pub returns-in-Ok-compile-clause-built : goal.returns-in-Ok-compile-clause-built
returns-in-Ok-compile-clause-built c =
    let P = typed_program c.in-Ok.typed in
    let tables = c.in-Ok.tables in
    let accepted = c.in-Ok.ensures.accepted in
    let b = c.accepted_programs_are_buildable.ensures c.args.text.now tables P accepted in
    record {
      tables = tables;
      program = P;
      accepted = accepted;
      built = record {
        is_the = c.in-Ok-compile.ensures.is_the;
        implements = c.compiled_images_implement_their_programs.ensures P tables.texts c.in-Ok-compile.image.items b.0 c.in-Ok-compile.ensures.compiled;
      };
      room = c.in-Ok-compile.ensures.compiled.room;
    }
