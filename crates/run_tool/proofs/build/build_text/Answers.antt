use Rattle.std.proofs.Common.{[], subst}
use Rattle.tool_io.specs.Putting.{Took}
use Rattle.tool_io.proofs.Laws.{took-nothing}
use Rattle.run_tool.specs.Programs.{WritesImage, BuildsText}
use Rattle.run_tool.proofs.Endings.{gives-more, gives-after, of-program}
use Rattle.run_tool.proofs.build.build_text.Goals as goal

pub returns-in-Ok : goal.returns-in-Ok
returns-in-Ok g c =
    let b = c.in-Ok.ensures.built in
    gives-after (BuildsText c.args.text.now) c.write_image.result
    (subst (λ x. Took x (g.K.Sink.taken c.image_of.new.out) []) c.in-Ok.ensures.unwritten (took-nothing (g.K.Sink.taken c.image_of.new.out))) c.in-Ok.ensures.later
    (gives-more (WritesImage b.program b.tables.texts) (BuildsText c.args.text.now) c.write_image.result (of-program WritesImage c.args.text.now c.in-Ok.image.items b)
    (c.write_image.ensures b.program b.tables.texts b.built))
