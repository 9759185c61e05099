use Rattle.std.proofs.Common.{◌≡◌, ℕ, List, refl, sym, [], ◌∷◌, ◌∙◌, ap}
use Rattle.std.specs.Prelude.{Result, Ok, Err, OnErr}
use Rattle.std.proofs.lemmas.List.{append-nil}
use Rattle.board_world.specs.Observations.{Observation, Show, Serial, Pin, Radio}
use Rattle.board_world.specs.Transcript.{line, lines, decimal_text}
use Rattle.bank_model.specs.Texts.{text_at}
use Rattle.tool_io.proofs.Laws.{puts-as, puts-none}
use Rattle.board_outside.specs.Moves.{Seen, seen_of}
use Rattle.board_outside.specs.Outputs.{moves_of, IsSeen}
use Rattle.board_outside.specs.declared.output.Output.{Output}
use Rattle.board_outside.proofs.showing.put_output.Goals as goal

pub returns-in-Frame-clause-puts : goal.returns-in-Frame-clause-puts
returns-in-Frame-clause-puts g c =
    puts-as c.then_put_display.result _ _ (sym (append-nil (line (Show c.args.now c.in-Frame.frame))) ∙ ap (λ s. lines (seen_of (moves_of c.args.machine.now.memory.flash c.args.now s))) (sym c.in-Frame.is))
    (c.then_put_display.ensures _ _ [] (puts-none _ _))

pub returns-in-Text-clause-puts : goal.returns-in-Text-clause-puts
returns-in-Text-clause-puts g c =
    puts-as c.then_put_text.result _ _
    (sym (append-nil (line (Serial c.args.now (text_at c.args.machine.now.memory.flash c.in-Text.address)))) ∙ ap (λ s. lines (seen_of (moves_of c.args.machine.now.memory.flash c.args.now s))) (sym c.in-Text.is))
    (c.then_put_text.ensures _ _ [] (puts-none _ _))

pub returns-in-Pin-clause-puts : goal.returns-in-Pin-clause-puts
returns-in-Pin-clause-puts g c =
    puts-as c.then_put_pin.result _ _
    (sym (append-nil (line (Pin c.args.now c.from.result c.from-in-Pin.result))) ∙ ap (λ p. lines (Pin c.args.now p c.from-in-Pin.result ∷ [])) c.from.ensures ∙ ap (λ l. lines (Pin c.args.now c.in-Pin.pin l ∷ [])) c.from-in-Pin.ensures
    ∙ ap (λ s. lines (seen_of (moves_of c.args.machine.now.memory.flash c.args.now s))) (sym c.in-Pin.is))
    (c.then_put_pin.ensures _ _ [] (puts-none _ _))

seen_as : (flash : List ℕ) (now : ℕ) (output same : Output) (o : Observation) → output ≡ same → moves_of flash now same ≡ Seen o ∷ [] → {T E : Type 0} (result : Result T E) → OnErr result (IsSeen flash now output)
seen_as flash now output same o e m (Ok x) = tt
seen_as flash now output same o e m (Err x) = (o, ap (moves_of flash now) e ∙ m)

pub returns-in-Frame-clause-seen : goal.returns-in-Frame-clause-seen
returns-in-Frame-clause-seen g c = seen_as c.args.machine.now.memory.flash c.args.now c.args.output _ (Show c.args.now c.in-Frame.frame) c.in-Frame.is refl c.then_put_display.result

pub returns-in-Number-clause-seen : goal.returns-in-Number-clause-seen
returns-in-Number-clause-seen g c = seen_as c.args.machine.now.memory.flash c.args.now c.args.output _ (Serial c.args.now (decimal_text c.in-Number.number)) c.in-Number.is refl c.put_number.result

pub returns-in-Text-clause-seen : goal.returns-in-Text-clause-seen
returns-in-Text-clause-seen g c = seen_as c.args.machine.now.memory.flash c.args.now c.args.output _ (Serial c.args.now (text_at c.args.machine.now.memory.flash c.in-Text.address)) c.in-Text.is refl c.then_put_text.result

pub returns-in-Pin-clause-seen : goal.returns-in-Pin-clause-seen
returns-in-Pin-clause-seen g c = seen_as c.args.machine.now.memory.flash c.args.now c.args.output _ (Pin c.args.now c.in-Pin.pin c.in-Pin.level) c.in-Pin.is refl c.then_put_pin.result

pub returns-in-Radio-clause-seen : goal.returns-in-Radio-clause-seen
returns-in-Radio-clause-seen g c = seen_as c.args.machine.now.memory.flash c.args.now c.args.output _ (Radio c.args.now c.in-Radio.number) c.in-Radio.is refl c.put_radio.result
