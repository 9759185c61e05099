use Rattle.std.proofs.lemmas.Result.{on_ok_weaker, on_err_weaker}
use Rattle.explained_view.proofs.text.view_by.Goals as goal

pub returns-clause-whole : goal.returns-clause-whole
returns-clause-whole g c = on_ok_weaker c.view_text.result (λ took. (c.args.notes.now, took)) c.view_text.ensures.whole

pub returns-clause-part : goal.returns-clause-part
returns-clause-part g c = on_err_weaker c.view_text.result (λ took. (c.args.notes.now, took)) c.view_text.ensures.part
