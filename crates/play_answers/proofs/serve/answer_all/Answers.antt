use Rattle.http_server.specs.Connection.{history}
use Rattle.play_answers.proofs.Serving.{all_read, all_written, all_answered}
use Rattle.play_answers.proofs.serve.answer_all.Goals as goal

pub returns-clause-read : goal.returns-clause-read
returns-clause-read g c = all_read _ _ _ (history c.serve.new.connection) c.requires c.serve.ensures.read

pub returns-clause-written : goal.returns-clause-written
returns-clause-written g c = all_written _ _ _ (history c.serve.new.connection) c.requires c.serve.ensures.written

pub returns-clause-answered : goal.returns-clause-answered
returns-clause-answered g c = all_answered g.T.Runs.tells (λ play. play.site) _ _ _ (history c.serve.new.connection) c.requires c.serve.ensures.calls
