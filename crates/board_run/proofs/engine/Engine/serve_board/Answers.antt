use Rattle.board_run.proofs.ServedAs.{served_at}
use Rattle.board_run.proofs.engine.Engine.serve_board.Goals as goal

pub returns-in-6-clause-served : goal.returns-in-6-clause-served
returns-in-6-clause-served c = served_at 6 c.args.service c.args.at _ c.args.self.now _ c.in-6.is (c.raise.ensures.served c.args.at)

pub returns-in-7-clause-served : goal.returns-in-7-clause-served
returns-in-7-clause-served c = served_at 7 c.args.service c.args.at _ c.args.self.now _ c.in-7.is (c.time.ensures.served c.args.at)

pub returns-in-8-clause-served : goal.returns-in-8-clause-served
returns-in-8-clause-served c = served_at 8 c.args.service c.args.at _ c.args.self.now _ c.in-8.is (c.value.ensures.served c.args.at)

pub returns-in-9-clause-served : goal.returns-in-9-clause-served
returns-in-9-clause-served c = served_at 9 c.args.service c.args.at _ c.args.self.now _ c.in-9.is (c.pressed.ensures.served c.args.at)

pub returns-in-10-clause-served : goal.returns-in-10-clause-served
returns-in-10-clause-served c = served_at 10 c.args.service c.args.at _ c.args.self.now _ c.in-10.is (c.plot.ensures.served)

pub returns-in-11-clause-served : goal.returns-in-11-clause-served
returns-in-11-clause-served c = served_at 11 c.args.service c.args.at _ c.args.self.now _ c.in-11.is (c.show.ensures.served c.args.at)

pub returns-in-12-clause-served : goal.returns-in-12-clause-served
returns-in-12-clause-served c = served_at 12 c.args.service c.args.at _ c.args.self.now _ c.in-12.is (c.write_number.ensures c.args.at)

pub returns-in-13-clause-served : goal.returns-in-13-clause-served
returns-in-13-clause-served c = served_at 13 c.args.service c.args.at _ c.args.self.now _ c.in-13.is (c.write_text.ensures.served)

pub returns-in-14-clause-served : goal.returns-in-14-clause-served
returns-in-14-clause-served c = served_at 14 c.args.service c.args.at _ c.args.self.now _ c.in-14.is (c.set_pin.ensures c.args.at)

pub returns-in-15-clause-served : goal.returns-in-15-clause-served
returns-in-15-clause-served c = served_at 15 c.args.service c.args.at _ c.args.self.now _ c.in-15.is (c.send.ensures c.args.at)
