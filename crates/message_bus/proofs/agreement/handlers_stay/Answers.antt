use Rattle.message_bus.proofs.Handlers.{handler-heard, handler-ended, handler-more}
use Rattle.message_bus.proofs.agreement.handlers_stay.Goals as goal

pub returns-clause-hearing : goal.returns-clause-hearing
returns-clause-hearing c e i ls = handler-heard e i ls

pub returns-clause-ending : goal.returns-clause-ending
returns-clause-ending c i k ls = handler-ended k i ls

pub returns-clause-coming : goal.returns-clause-coming
returns-clause-coming c l i ls h = handler-more l i ls h
