use Rattle.std.proofs.Common.{subst, inr}
use Rattle.typed_program.specs.Accepting as accepting
use Rattle.run_tool.specs.Programs.{AnswersRefusal, OverProgram}
use Rattle.run_tool.specs.inner.{none_to_read}
use Rattle.run_tool.proofs.Endings.{gives-more}
use Rattle.run_tool.proofs.said.say_refusal.Goals as goal

pub say_refused-requires-clause-within : goal.say_refused-requires-clause-within
say_refused-requires-clause-within g c =
    (c.refusals_stand_in_their_texts.ensures c.args.text.now c.in-Program.code c.in-Program.at (subst (λ x. accepting.RefusesText c.args.text.now x) c.in-Program.is c.requires)).0

pub say_refused-requires-clause-fits : goal.say_refused-requires-clause-fits
say_refused-requires-clause-fits g c =
    (c.refusals_stand_in_their_texts.ensures c.args.text.now c.in-Program.code c.in-Program.at (subst (λ x. accepting.RefusesText c.args.text.now x) c.in-Program.is c.requires)).1

pub returns-in-Program : goal.returns-in-Program
returns-in-Program g c =
    let why = subst (λ x. accepting.RefusesText c.args.text.now x) c.in-Program.is c.requires in
    gives-more (AnswersRefusal c.args.text.now c.in-Program.code c.in-Program.at) (OverProgram (λ P. none_to_read) c.args.text.now) c.say_refused.result
    (λ answer h. inr ((c.in-Program.code, c.in-Program.at), why, h)) c.say_refused.ensures
