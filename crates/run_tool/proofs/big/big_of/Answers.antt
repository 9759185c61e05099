use Rattle.std.proofs.Common.{List, refl}
use Rattle.board_world.specs.Observations.{ByteList}
use Rattle.sts_syntax.specs.TypedTrees.{TypedProgram}
use Rattle.run_tool.specs.Big.{big_line}
use Rattle.run_tool.specs.Programs.{OverProgram}
use Rattle.run_tool.specs.inner.{none_to_read}
use Rattle.run_tool.specs.Run.{RunsProgram}
use Rattle.run_tool.specs.Scripts.{default_script}
use Rattle.run_tool.proofs.Endings.{concludes-more, led-concludes, no-program, of-program}
use Rattle.run_tool.proofs.big.big_of.Goals as goal

pub returns-in-Ok : goal.returns-in-Ok
returns-in-Ok g c =
    let m = c.args.options in
    let answers = λ (P : TypedProgram) (texts : List ByteList). RunsProgram P texts default_script m.budget m.behind.stats m.behind.image in
    let b = c.in-Ok.ensures.built in
    concludes-more (answers b.program b.tables.texts) (OverProgram answers c.args.text.now) c.run_big.result
    (of-program answers c.args.text.now c.in-Ok.image.items b) (c.run_big.ensures b.program b.tables.texts b.built)

pub returns-in-Err : goal.returns-in-Err
returns-in-Err g c =
    let m = c.args.options in
    let answers = λ (P : TypedProgram) (texts : List ByteList). RunsProgram P texts default_script m.budget m.behind.stats m.behind.image in
    let none = OverProgram (λ P. none_to_read) c.args.text.now in
    concludes-more none (OverProgram answers c.args.text.now) c.say_big_refused.result
    (no-program answers c.args.text.now) (led-concludes g.D.Device.account c.args.places.now.items c.args.places.now.items refl (big_line c.args.size) none c.say_big_refused.result c.say_big_refused.ensures)
