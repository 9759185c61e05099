use Rattle.board_run.proofs.ServedAs.{served_at}
use Rattle.board_run.proofs.engine.Engine.serve_value.Goals as goal

pub returns-in-16-clause-served : goal.returns-in-16-clause-served
returns-in-16-clause-served c = served_at 16 c.args.service c.args.at _ c.args.self.now _ c.in-16.is (c.text_glyph.ensures.served)

pub returns-in-17-clause-served : goal.returns-in-17-clause-served
returns-in-17-clause-served c = served_at 17 c.args.service c.args.at _ c.args.self.now _ c.in-17.is (c.number_glyph.ensures.served c.args.at)

pub returns-in-18-clause-served : goal.returns-in-18-clause-served
returns-in-18-clause-served c = served_at 18 c.args.service c.args.at _ c.args.self.now _ c.in-18.is (c.allocate.ensures.served)

pub returns-in-19-clause-served : goal.returns-in-19-clause-served
returns-in-19-clause-served c = served_at 19 c.args.service c.args.at _ c.args.self.now _ c.in-19.is (c.push.ensures.served)

pub returns-in-20-clause-served : goal.returns-in-20-clause-served
returns-in-20-clause-served c = served_at 20 c.args.service c.args.at _ c.args.self.now _ c.in-20.is (c.divide.ensures.served c.args.at)

pub returns-in-21-clause-served : goal.returns-in-21-clause-served
returns-in-21-clause-served c = served_at 21 c.args.service c.args.at _ c.args.self.now _ c.in-21.is (c.take_remainder.ensures.served c.args.at)
