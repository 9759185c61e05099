use Rattle.std.proofs.Common.{List, subst, ◌∙◌, false}
use Rattle.board_world.specs.Observations.{ByteList}
use Rattle.sts_syntax.specs.TypedTrees.{TypedProgram}
use Rattle.run_tool.specs.Answers.{Concludes, of_devices, of_sink}
use Rattle.run_tool.specs.Big.{big_line}
use Rattle.run_tool.specs.Programs.{OverProgram}
use Rattle.run_tool.specs.Run.{RunsProgram}
use Rattle.run_tool.specs.Scripts.{default_script}
use Rattle.run_tool.proofs.big.big.Goals as goal

pub returns-in-Ok : goal.returns-in-Ok
returns-in-Ok g c =
    let answers = λ (P : TypedProgram) (texts : List ByteList). RunsProgram P texts default_script c.args.budget c.args.stats false in
    subst (λ t. Concludes (of_sink g.K.Sink.taken g.K.Sink.faults c.args.out.now c.big_of.new.out) (of_devices g.D.Device.account c.args.places.now.items c.big_of.new.places.items) (big_line c.args.size) (OverProgram answers t) c.big_of.result)
    (c.deref.ensures.value ∙ c.in-Ok.ensures) c.big_of.ensures
