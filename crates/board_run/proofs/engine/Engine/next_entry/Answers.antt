use Rattle.std.proofs.Common.{List, sym, ap}
use Rattle.board_world.specs.Board.{next_entry}
use Rattle.event_script.specs.World.{world_entries}
use Rattle.event_script.specs.declared.script.Entry.{Entry}
use Rattle.board_run.proofs.ScriptEntries.{drop_none, next_is}
use Rattle.board_run.proofs.engine.Engine.next_entry.Goals as goal

pub returns-in-None : goal.returns-in-None
returns-in-None c = sym (ap (λ (l : List Entry). next_entry (world_entries l)) (drop_none c.args.self.now.script.entries c.args.self.now.next (sym c.in-None.ensures.value)))

pub returns-in-Some : goal.returns-in-Some
returns-in-Some c = sym (next_is c.args.self.now.script.entries c.args.self.now.next c.in-Some.entry.now (sym c.in-Some.ensures.value))
