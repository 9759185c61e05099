use Rattle.std.proofs.Common.{subst, inr}
use Rattle.typed_program.specs.Accepting as accepting
use Rattle.run_tool.specs.Answers.{Led}
use Rattle.run_tool.specs.Big.{big_line}
use Rattle.run_tool.specs.Programs.{AnswersRefusal, OverProgram}
use Rattle.run_tool.specs.inner.{none_to_read}
use Rattle.run_tool.proofs.Endings.{gives-more, led-more}
use Rattle.run_tool.proofs.big.say_big_refused.Goals as goal

pub refuse_big-requires-clause-within : goal.refuse_big-requires-clause-within
refuse_big-requires-clause-within g c =
    (c.refusals_stand_in_their_texts.ensures c.args.text.now c.in-Program.code c.in-Program.at (subst (λ x. accepting.RefusesText c.args.text.now x) c.in-Program.is c.requires)).0

pub refuse_big-requires-clause-fits : goal.refuse_big-requires-clause-fits
refuse_big-requires-clause-fits g c =
    (c.refusals_stand_in_their_texts.ensures c.args.text.now c.in-Program.code c.in-Program.at (subst (λ x. accepting.RefusesText c.args.text.now x) c.in-Program.is c.requires)).1

pub returns-in-Program : goal.returns-in-Program
returns-in-Program g c =
    let lead = big_line c.args.size in
    let why = subst (λ x. accepting.RefusesText c.args.text.now x) c.in-Program.is c.requires in
    let may = AnswersRefusal c.args.text.now c.in-Program.code c.in-Program.at in
    let more = OverProgram (λ P. none_to_read) c.args.text.now in
    gives-more (Led lead may) (Led lead more) c.refuse_big.result (led-more lead may more (λ answer h. inr ((c.in-Program.code, c.in-Program.at), why, h))) c.refuse_big.ensures
