use Rattle.board_run.proofs.Services.{serve_spawn}
use Rattle.board_run.proofs.engine.Engine.spawn.Goals as goal

pub returns-in-Ok-clause-served : goal.returns-in-Ok-clause-served
returns-in-Ok-clause-served c =
    serve_spawn c.args.self.now c.requires.inside c.spawn.new.self c.count_seats.new.self c.word-entry.result c.args.at c.word-entry.ensures c.if-entry-eq0.false c.in-Ok.ensures.ok c.count_seats.ensures
