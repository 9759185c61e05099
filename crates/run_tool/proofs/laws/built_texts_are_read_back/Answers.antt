use Rattle.std.proofs.Common.{sym, ap, subst}
use Rattle.hex_image.specs.Spells.{Spells}
use Rattle.run_tool.specs.Answers.{output_of}
use Rattle.run_tool.proofs.laws.built_texts_are_read_back.Goals as goal

pub returns : goal.returns
returns c = λ P texts answer w.
    let round = c.round_trip.ensures w.0 w.1 in
    let text = sym (ap output_of w.3) in
    record {
      image = w.0;
      built = w.2;
      spelled = subst (λ written. Spells written w.0) text round.spelled;
      only = λ other s. round.only other (subst (λ written. Spells written other) (sym text) s);
    }
