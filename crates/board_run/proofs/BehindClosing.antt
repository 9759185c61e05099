-- What a board answers behind the closing line.
use Rattle.std.proofs.Common.{◌≡◌, ℕ, ◌≤◌, inr, ℤ, true, false, List, [], ◌++◌, Option, Some, Result, Ok, Err, refl, sym, ap, ◌∙◌, subst}
use Rattle.std.proofs.lemmas.List.{append-nil}
use Rattle.std.specs.Option.{option_map}
use Rattle.board_world.specs.Observations.{ByteList}
use Rattle.board_world.specs.Transcript.{closing_line}
use Rattle.board_world.specs.Before.{is_by_clock}
use Rattle.tool_io.specs.Putting.{Took, TookPart, Puts}
use Rattle.tool_io.specs.declared.sink.PutFailed.{PutFailed}
use Rattle.tool_io.proofs.Laws.{took-then, rose-before}
use Rattle.board_outside.specs.Moves.{seen_of}
use Rattle.board_run.specs.declared.end.End.{End}
use Rattle.board_run.specs.declared.end.Stop.{Stop}
use Rattle.board_run.specs.declared.end.Stop.TheVariants.{Quiet, Script, Panic, Fault}
use Rattle.board_run.specs.declared.moments.Gone.TheVariants.{Ended}
use Rattle.board_run.specs.Outside.{OverSink}
use Rattle.board_run.specs.Ran.{answer_of, told}
use Rattle.board_run.specs.Advancing.{led_lines, first_sent}
use Rattle.board_run.specs.Going.{HasGone, IsPassed, EndsBy, Went}
use Rattle.board_run.specs.Represents.{end_of}
use Rattle.board_run.proofs.LedLines.{into_part}
use Rattle.board_ports.specs.Account.{Account}

module _ {B : Type 0} (account : B → Account) (lead : ByteList) (moment budget used : ℕ) (old new : OverSink B) where
  -- the same with a text behind
  closed : (u : Option (List ℕ)) (fs : ℕ) (text : ByteList) → HasGone account lead [] moment used old new [] → Took new.taken u text → HasGone account lead [] moment used old (record new { taken = u; faults = fs }) text
  closed u fs text g took = record {
    moves = g.moves;
    goes = g.goes;
    ports = g.ports;
    sent = g.sent;
    written = subst (λ l. Took old.taken u (l ++ text)) (append-nil (led_lines lead (seen_of g.moves))) (took-then _ text g.written took);
    counted = g.counted;
    whole = g.whole;
    clock = g.clock;
    script = g.script;
  }

  -- what was noted before is let go first
  pub from_none : (numbers : List ℤ) → numbers ≡ [] → HasGone account lead numbers moment used (record old { board = record old.board { sent = numbers } }) new [] → HasGone account lead [] moment used old new []
  from_none numbers e g = record {
    moves = g.moves;
    goes = g.goes;
    ports = g.ports;
    sent = g.sent ∙ ap (λ ns. first_sent ns (seen_of g.moves)) e;
    written = g.written;
    counted = g.counted;
    whole = g.whole;
    clock = g.clock;
    script = g.script;
  }

  -- behind the closing line
  module _ (u : Option (List ℕ)) (fs : ℕ) where
    abbrev left : OverSink B
    left = record new { taken = u; faults = fs }

    -- how often the sink failed then, is nothing to what went before
    before : HasGone account lead [] moment used old new [] → HasGone account lead [] moment used old (record new { faults = fs }) []
    before g = record { moves = g.moves; goes = g.goes; ports = g.ports; sent = g.sent; written = g.written; counted = g.counted; whole = g.whole; clock = g.clock; script = g.script }

    pub went_ended : (stop : Stop) → new.board.engine.end ≡ Some stop → HasGone account lead [] moment used old new [] → IsPassed moment used budget new.board → old.faults ≤ new.faults
        → (put : Result (Unit {0}) PutFailed) → Puts new.taken u new.faults fs (lead ++ closing_line new.board.engine.clock (Some (end_of stop))) put → (answer : End) → answer ≡ answer_of put (Some stop)
        → Went account lead moment budget old left (Ended answer)
    went_ended stop ended g p later put puts answer is = subst (λ a. Went account lead moment budget old left (Ended a)) (sym is) (by_put put puts)
      where
        at_moment : lead ++ closing_line new.board.engine.clock (Some (end_of stop)) ≡ lead ++ closing_line moment (Some (end_of stop))
        at_moment = ap (λ c. lead ++ closing_line c (Some (end_of stop))) g.clock

        ends : Took new.taken u (lead ++ closing_line new.board.engine.clock (Some (end_of stop))) → EndsBy account lead moment budget stop old left
        ends took = record { used = used; within = p.within; ended = ended; gone = closed u fs (lead ++ closing_line moment (Some (end_of stop))) g (subst (Took new.taken u) at_moment took) }

        sound : is_by_clock (Some (end_of stop)) ≡ false
        sound = ap (λ o. is_by_clock (option_map end_of o)) (sym ended) ∙ p.sound

        by_stop : (x : Stop) → x ≡ stop → Took new.taken u (lead ++ closing_line new.board.engine.clock (Some (end_of stop))) → Went account lead moment budget old left (Ended (told (Some x)))
        by_stop Quiet e took = absurd (let c : true ≡ false = ap (λ y. is_by_clock (Some (end_of y))) e ∙ sound in cc)
        by_stop Script e took = absurd (let c : true ≡ false = ap (λ y. is_by_clock (Some (end_of y))) e ∙ sound in cc)
        by_stop (Panic code) e took = subst (λ y. EndsBy account lead moment budget y old left) (sym e) (ends took)
        by_stop (Fault fault address) e took = subst (λ y. EndsBy account lead moment budget y old left) (sym e) (ends took)

        by_put : (put : Result (Unit {0}) PutFailed) → Puts new.taken u new.faults fs (lead ++ closing_line new.board.engine.clock (Some (end_of stop))) put → Went account lead moment budget old left (Ended (answer_of put (Some stop)))
        by_put (Ok x) q = by_stop stop refl q.took
        by_put (Err x) q = (
          inr (record {
            used = used;
            within = p.within;
            stop = stop;
            ended = ended;
            taken_before = new.taken;
            gone = before g;
            written = into_part (lead ++ closing_line moment (Some (end_of stop))) (subst (TookPart new.taken u) at_moment q.part);
          }),
          rose-before old.faults new.faults fs later q.failed,
        )
