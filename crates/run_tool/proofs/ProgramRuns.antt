-- Images of programs that were run.
use Rattle.std.proofs.Common.{◌≡◌, ℕ, ◌≤◌, Bool, true, false, List, [], ◌∷◌, ◌++◌, refl, sym, ap, subst, ◌∙◌, arith, inr, append_assoc}
use Rattle.std.proofs.lemmas.List.{append-nil}
use Rattle.std.specs.Prelude.{Option, Some, None, Result, Ok, Err}
use Rattle.sts_base.specs.Faults.{Rose}
use Rattle.sts_base.specs.Prefix.{IsPrefix}
use Rattle.tool_io.specs.Putting.{Took, Puts}
use Rattle.tool_io.specs.declared.sink.PutFailed.{PutFailed}
use Rattle.tool_io.proofs.Laws.{took-then, rose-before}
use Rattle.board_world.specs.Observations.{ByteList, End as RunEnd, Quietly, By_script, Panicked, Faulted}
use Rattle.board_world.specs.Transcript.{lines, closing_line, stats_line}
use Rattle.board_world.specs.Board.{Board}
use Rattle.board_world.specs.Implements.{EndsByNoFault}
use Rattle.board_outside.specs.Moves.{Move, Seen, Unplugged, HasMet}
use Rattle.board_outside.specs.Cuts.{IsDue}
use Rattle.hex_image.specs.Laws.{IsImage}
use Rattle.hex_image.specs.Writing.{hextext}
use Rattle.sts_syntax.specs.TypedTrees.{TypedProgram}
use Rattle.sts_whole.specs.Compiled.{IsBuiltFor}
use Rattle.event_script.specs.declared.script.Script.{Script as ReadScript}
use Rattle.board_run.specs.declared.board.Stats.{Stats}
use Rattle.board_run.specs.declared.end.End.{End}
use Rattle.board_run.specs.declared.end.End.TheVariants.{Quiet, Script, Panic, Budget, Fault, SinkFault}
use Rattle.board_run.specs.Outside.{outside_of}
use Rattle.board_run.specs.Ran.{world_after, IsExecuted, IsCut as IsRunCut}
use Rattle.sts_whole.specs.Programs.{source_after}
use Rattle.sts_whole.specs.Runs.{counted_on, RunsTo, RunsImage}
use Rattle.sts_whole.proofs.Laws.{reaches, faultless, run_exists}
use Rattle.run_tool.specs.declared.ending.Ending.{Ending}
use Rattle.run_tool.specs.declared.ending.Ending.TheVariants.{Gave, Cut}
use Rattle.run_tool.specs.Answers.{Answer, runs, Concludes, of_devices, of_sink}
use Rattle.run_tool.specs.Run.{RunsProgram}
use Rattle.run_tool.specs.Runs.{run_status, asked_behind, asked_text, instructions_line}
use Rattle.run_tool.specs.inner.{ending_of, ending_by, FinishesRun}
use Rattle.board_ports.specs.Account.{Account}

-- where more stands behind, the text that is due may be longer
due-more : (behind more : List ℕ) (left : List Move) (text : List ℕ) → IsDue behind left text → (longer : List ℕ) × IsDue (behind ++ more) left longer × ((part : List ℕ) → IsPrefix part text → IsPrefix part longer)
due-more behind more [] text e =
    (behind ++ more, refl, λ part h. let q : IsPrefix part behind = subst (λ t. IsPrefix part t) e h in (q.0 ++ more, sym (append_assoc part q.0 more) ∙ ap (λ x. x ++ more) q.1))
due-more behind more (Seen o ∷ rest) text e = (text, e, λ part h. h)
due-more behind more (Unplugged port ∷ rest) text e = absurd e

-- what stands behind a transcript by what was counted of the run, and the HEX text
abbrev pub counted_behind : (stats with_image : Bool) → Stats → (hex : List ℕ) → List ℕ
counted_behind stats with_image s hex = asked_text stats with_image (stats_line s.spawned s.blocked s.words s.seats) (instructions_line s.instructions ++ hex)

-- what is asked for, where both are
pub behind-both : (asked also : Bool) (s : Stats) (hex : List ℕ) → asked ≡ true → also ≡ true
    → stats_line s.spawned s.blocked s.words s.seats ++ (instructions_line s.instructions ++ hex) ≡ counted_behind asked also s hex
behind-both true true s hex e f = refl
behind-both false also s hex e f = absurd cc
behind-both true false s hex e f = absurd cc

module _ (P : TypedProgram) (texts : List ByteList) (image : List ℕ) (is_image : IsImage image) (implements : IsBuiltFor P texts image) (script : ReadScript) (budget : ℕ) (stats with_image : Bool) where
  -- the answer by the board on which the run stands
  abbrev answer_on : Board → ℕ → List Move → Answer
  answer_on b executed moves = runs (run_status b.end) moves (closing_line b.clock b.end ++ asked_behind stats with_image b executed image)

  answers : (free : List ℕ) (executed : ℕ) (moves : List Move) → IsExecuted (world_after image script free) budget executed → HasMet moves (world_after image script free executed).board
      → RunsProgram P texts script budget stats with_image (answer_on (world_after image script free executed).board executed moves)
  answers free executed moves e met =
      let s = reaches P texts image implements.implements script free budget executed e in
      record {
        image = image;
        is_image = is_image;
        built = implements;
        free = free;
        executed = executed;
        steps = s.0;
        reaches = s.1;
        moves = moves;
        met = record { seen = ap (λ (b : Board). b.seen) s.1.board ∙ met.seen; unplugged = ap (λ (b : Board). b.unplugged) s.1.board ∙ met.unplugged };
        is = ap (λ (b : Board). answer_on b executed moves) (sym s.1.board);
      }

  -- there is an answer
  pub some-run : (answer : Answer) × RunsProgram P texts script budget stats with_image answer
  some-run =
      let m = run_exists P texts image implements.implements script [] budget in (
        answer_on (source_after P texts script m.steps).board m.executed m.moves,
        record { image = image; is_image = is_image; built = implements; free = []; executed = m.executed; steps = m.steps; reaches = m.reaches; moves = m.moves; met = m.met; is = refl },
      )

  counted-same : (s : Stats) (b : Board) (executed : ℕ) (hex : List ℕ) → s ≡ counted_on b executed → (with_image ≡ true → hex ≡ hextext image)
      → counted_behind stats with_image s hex ≡ asked_behind stats with_image b executed image
  counted-same s b executed hex e text = by_case stats with_image text
    where
      by_case : (asked also : Bool) → (also ≡ true → hex ≡ hextext image) → counted_behind asked also s hex ≡ asked_behind asked also b executed image
      by_case false also t = refl
      by_case true false t = ap (λ (x : Stats). stats_line x.spawned x.blocked x.words x.seats ++ []) e
      by_case true true t =
          ap (λ (x : Stats). stats_line x.spawned x.blocked x.words x.seats ++ (instructions_line x.instructions ++ hex)) e
          ∙ ap (λ x. stats_line b.spawned b.blocked b.words b.most ++ (instructions_line executed ++ x)) (t refl)

  module _ {S B : Type 0} (taken : S → Option (List ℕ)) (faults : S → ℕ) (old between new : S) (account : B → Account) (places places' : List (Option B)) where
    abbrev Concluded : Ending → Type 0
    Concluded ending = Concludes (of_sink taken faults old new) (of_devices account places places') [] (RunsProgram P texts script budget stats with_image) ending

    -- the text behind a run was put, or the sink stopped it
    put-behind : (end : Option RunEnd) (s : Stats) (r : RunsTo account image script budget (outside_of taken faults old places) (outside_of taken faults between places') end s) (put : Result (Unit {0}) PutFailed) → faults old ≤ faults between
        → (let b : Board = (world_after image script r.free r.executed).board in Puts (taken between) (taken new) (faults between) (faults new) (asked_behind stats with_image b r.executed image) put)
        → Concluded (ending_by (run_status end) put)
    put-behind end s r (Ok x) later p =
        let b : Board = (world_after image script r.free r.executed).board in
        let closing = closing_line b.clock b.end in
        let asked = asked_behind stats with_image b r.executed image in
        let whole : Took (taken old) (taken new) (lines b.seen ++ closing ++ asked) = took-then (lines b.seen ++ closing) asked r.written p.took in
        record {
          ends = (
            answer_on b r.executed r.moves,
            answers r.free r.executed r.moves r.is_executed r.met,
            ap run_status (sym r.ended),
            subst (λ t. Took (taken old) (taken new) t) (append_assoc (lines b.seen) closing asked ∙ ap (λ os. lines os ++ (closing ++ asked)) r.met.seen) whole,
            r.devices,
          );
          later = omega (arith, later, p.later);
          cut = λ e. absurd (cc);
        }
    put-behind end s r (Err x) later p =
        let b : Board = (world_after image script r.free r.executed).board in
        let closing = closing_line b.clock b.end in
        let asked = asked_behind stats with_image b r.executed image in
        record {
          ends = (
            answer_on b r.executed r.moves,
            answers r.free r.executed r.moves r.is_executed r.met,
            inr (record {
              done = r.moves;
              left = [];
              split = append-nil r.moves;
              text = closing ++ asked;
              due = refl;
              written = record {
                told = λ had e. (
                    let q = p.part.told (had ++ (lines b.seen ++ closing)) (r.written.told had e) in (
                      closing ++ q.0,
                      (q.1.0, append_assoc closing q.0 q.1.0 ∙ ap (λ t. closing ++ t) q.1.1),
                      q.2 ∙ ap Some (append_assoc had (lines b.seen ++ closing) q.0 ∙ ap (λ t. had ++ t) (append_assoc (lines b.seen) closing q.0 ∙ ap (λ os. lines os ++ (closing ++ q.0)) r.met.seen)),
                    ));
              };
              devices = r.devices;
            }),
          );
          later = omega (arith, later, p.later);
          cut = λ e. rose-before (faults old) (faults between) (faults new) later p.failed;
        }

    gave : (end : Option RunEnd) (s : Stats) (hex : List ℕ) (ending : Ending) → (with_image ≡ true → hex ≡ hextext image)
        → RunsTo account image script budget (outside_of taken faults old places) (outside_of taken faults between places') end s → faults old ≤ faults between
        → FinishesRun (taken between) (taken new) (faults between) (faults new) (Gave (run_status end)) (counted_behind stats with_image s hex) ending → Concluded ending
    gave end s hex ending text r later f =
        let b : Board = (world_after image script r.free r.executed).board in
        subst Concluded (sym f.2)
        (put-behind end s r f.0 later
        (subst (λ t. Puts (taken between) (taken new) (faults between) (faults new) t f.0) (counted-same s b r.executed hex r.counted text) f.1))

    -- the sink stopped the run
    cut-run : (behind : List ℕ) (ending : Ending) → IsRunCut account (world_after image script) budget (outside_of taken faults old places) (outside_of taken faults between places') × Rose (faults old) (faults between) → faults old ≤ faults between
        → FinishesRun (taken between) (taken new) (faults between) (faults new) Cut behind ending → Concluded ending
    cut-run behind ending r later f =
        let c = r.0 in
        let b : Board = (world_after image script c.free c.executed).board in
        let closing = closing_line b.clock b.end in
        let asked = asked_behind stats with_image b c.executed image in
        let more = due-more closing asked c.stopped.left c.stopped.text c.stopped.due in
        subst Concluded (sym f.2) (record {
          ends = (
            answer_on b c.executed c.moves,
            answers c.free c.executed c.moves c.is_executed c.met,
            inr (record {
              done = c.stopped.done;
              left = c.stopped.left;
              split = c.stopped.split;
              text = more.0;
              due = more.1;
              written = record { told = λ had e. (let q = c.stopped.written.told had e in (q.0, more.2 q.0 q.1, f.0 ∙ q.2)) };
              devices = c.stopped.devices;
            }),
          );
          later = subst (λ n. faults old ≤ n) (sym f.1) later;
          cut = λ e. subst (λ n. Rose (faults old) n) (sym f.1) r.1;
        })

    never-faulted : (kind address : ℕ) (s : Stats) → RunsTo account image script budget (outside_of taken faults old places) (outside_of taken faults between places') (Some (Faulted kind address)) s → ⊥
    never-faulted kind address s r = subst (λ e. EndsByNoFault e) r.ended (faultless P texts image implements.implements script r.free r.executed)

    -- what a call that ran the image answered, with what is asked for behind it
    pub finished : (end : End) (s : Stats) (hex : List ℕ) (ending : Ending) → (with_image ≡ true → hex ≡ hextext image)
        → RunsImage account image script budget (outside_of taken faults old places) (outside_of taken faults between places') end s → faults old ≤ faults between
        → FinishesRun (taken between) (taken new) (faults between) (faults new) (ending_of end) (counted_behind stats with_image s hex) ending → Concluded ending
    finished Quiet s hex ending text r later f = gave (Some Quietly) s hex ending text r later f
    finished Script s hex ending text r later f = gave (Some By_script) s hex ending text r later f
    finished (Panic code) s hex ending text r later f = gave (Some (Panicked code)) s hex ending text r later f
    finished (Fault fault address) s hex ending text r later f = absurd (never-faulted _ _ s r)
    finished Budget s hex ending text r later f = gave None s hex ending text r later f
    finished SinkFault s hex ending text r later f = cut-run (counted_behind stats with_image s hex) ending r later f
