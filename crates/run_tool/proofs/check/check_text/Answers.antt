use Rattle.std.proofs.Common.{◌≡◌, codes, inl, subst, sym}
use Rattle.sts_syntax.specs.TypedViews.{typed_program}
use Rattle.run_tool.specs.declared.ending.Status.TheVariants.{Done}
use Rattle.run_tool.specs.Answers.{says}
use Rattle.run_tool.specs.inner.{GivesOneOf}
use Rattle.run_tool.specs.Programs.{ChecksText}
use Rattle.run_tool.proofs.Readings.{SaysAccepted}
use Rattle.run_tool.proofs.Endings.{gives-more, no-program-gives}
use Rattle.run_tool.proofs.check.check_text.Goals as goal
use Rattle.run_tool.proofs.check.check_text.Goals.{in-Ok, in-Err}

pub returns : goal.returns
returns g c =
    let may = ChecksText c.args.text.now in
    elim c.match-accept.branch [
      | in-Ok w ↦
          subst (λ o. GivesOneOf g.K.Sink.taken g.K.Sink.faults c.args.out.now o may c.match-accept.result) (sym w.out-is)
          (subst (λ r. GivesOneOf g.K.Sink.taken g.K.Sink.faults c.args.out.now w.say.new.out may r) (sym w.result-is)
          (gives-more (λ answer. answer ≡ says Done (codes "accepted\n")) may w.say.result
          (λ answer e. inl ((w.in-Ok.field-0.1, typed_program w.in-Ok.field-0.0), w.in-Ok.ensures.accepted, e)) w.say.ensures.answer))
      | in-Err w ↦
          subst (λ o. GivesOneOf g.K.Sink.taken g.K.Sink.faults c.args.out.now o may c.match-accept.result) (sym w.out-is)
          (subst (λ r. GivesOneOf g.K.Sink.taken g.K.Sink.faults c.args.out.now w.say_refusal.new.out may r) (sym w.result-is)
          (no-program-gives SaysAccepted c.args.text.now w.say_refusal.result w.say_refusal.ensures))
    ]
