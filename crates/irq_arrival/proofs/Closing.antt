-- How a run with arrivals ends: behind its closing line, or in a line that was cut.
use Rattle.std.proofs.Common.{◌≡◌, ℕ, ◌+◌, ◌≤◌, ◌⊎◌, inl, inr, true, false, List, [], ◌∷◌, ◌++◌, Option, Some, None, IsSome, is_some, refl, sym, ap, ◌∙◌, subst, arith, append_assoc}
use Rattle.std.specs.Prelude.{Result, Ok, Err}
use Rattle.std.specs.Option.{option_map}
use Rattle.std.proofs.lemmas.List.{append-nil}
use Rattle.board_world.specs.Observations.{End as RunEnd, Observation}
use Rattle.board_world.specs.Transcript.{line, lines, closing_line}
use Rattle.board_world.specs.Board.{Board, over, transcript_of}
use Rattle.board_world.specs.Activities.{World}
use Rattle.board_world.specs.World.{idled}
use Rattle.board_world.specs.Runs.{Arrival, run}
use Rattle.board_world.proofs.Laws.{run_by_list}
use Rattle.bank_model.specs.Fibers.{Fiber, Shared}
use Rattle.bank_model.specs.BoardMachine.{fibers, bank_start}
use Rattle.tool_io.specs.Putting.{Took, TookPart, Puts}
use Rattle.tool_io.specs.declared.sink.PutFailed.{PutFailed}
use Rattle.tool_io.proofs.Laws.{took-then, rose-before}
use Rattle.board_ports.specs.Account.{Account}
use Rattle.board_ports.specs.Plugged.{Plugged}
use Rattle.board_ports.specs.History.{FollowsMoves}
use Rattle.board_ports.proofs.Laws.{places_after}
use Rattle.event_script.specs.World.{world_entries}
use Rattle.event_script.specs.declared.script.Script.{Script}
use Rattle.board_outside.specs.Moves.{Move, Seen, seen_of, HasMet}
use Rattle.board_outside.specs.Ports.{port_moves, DevicesAfter}
use Rattle.board_outside.specs.Cuts.{TookInto}
use Rattle.board_outside.proofs.Laws.{idles_meeting, seen_of-append, lines-append}
use Rattle.board_run.specs.declared.end.Stop.{Stop}
use Rattle.board_run.specs.declared.end.Stop.TheVariants.{Quiet as StopQuiet, Script as StopScript, Panic as StopPanic, Fault as StopFault}
use Rattle.board_run.specs.declared.end.End.{End}
use Rattle.board_run.specs.declared.engine.Engine.{Engine}
use Rattle.board_run.specs.Represents.{Represents, state_of, end_of}
use Rattle.board_run.specs.Run.{Reaches}
use Rattle.board_run.specs.Advancing.{of_run, Fails}
use Rattle.board_run.specs.Outside.{PortsMeet, Outside, OverSink, around}
use Rattle.board_run.specs.Ran.{IsMounted, IsExecuted, HasRun, IsCut, told, answer_of, Finishes, Ran}
use Rattle.board_run.proofs.Laws.{ports_then, into_then, plain_lines}
use Rattle.irq_arrival.specs.Along.{world_with, NoneBefore, AllMay, Along}
use Rattle.irq_arrival.specs.Underway.{Underway}
use Rattle.irq_arrival.proofs.Joins.{shows, listed}
use Rattle.irq_arrival.proofs.Courses.{with_moved}
use Rattle.irq_arrival.proofs.Meets.{with_meets}
use Rattle.irq_arrival.proofs.Counted.{least_executed, with_ended}

is_over : (o : Option Stop) → IsSome o → is_some (option_map end_of o) ≡ true
is_over (Some x) q = refl
is_over None q = absurd (let c : false ≡ true = q in cc)

module _ {B : Type 0} (account : B → Account) (arrivals left : List Arrival) (first b : OverSink B)
    (h : Underway account arrivals first b left b.board.instructions) (budget : ℕ) (image : List ℕ) (script : Script) (m : IsMounted image script first.board.engine) (places : List (Option B)) (f : FollowsMoves account [] places first.board.plugs) where
  abbrev e : Engine
  e = b.board.engine

  abbrev n : ℕ
  n = b.board.instructions

  -- the sink and the devices, as the run begins
  abbrev given : Outside B
  given = record (around first) { places = places }

  abbrev course : List ℕ → ℕ → World Fiber Shared
  course = world_with image script.end (world_entries script.entries) arrivals

  abbrev used : List ℕ
  used = (h.along image script m).0

  abbrev along : Along image course left n used h.moves (state_of e)
  along = (h.along image script m).1

  devices_after : (moves : List Move) (q : Plugged B) → PortsMeet account moves first.board.plugs q → DevicesAfter account moves places q.places
  devices_after moves q meet = places_after account (port_moves moves) places q (meet [] places f)

  -- nothing arrives any more at this moment, or the run is over
  module _ (d : IsSome e.end ⊎ NoneBefore (n + 1) left) where
    abbrev after : List ℕ → World Fiber Shared
    after rest = course (used ++ rest) n

    ended_there : IsSome e.end → (rest : List ℕ) → over (along.at rest).board ≡ true
    ended_there o rest = ap (λ (b : Board). is_some b.end) (along.shows rest).board ∙ is_over e.end o

    both : (rest : List ℕ) → Represents image (state_of e) (after rest) × HasMet h.moves (after rest).board
    both = shows image course left n used h.moves (state_of e) along (elim d [ inl o ↦ inl (ended_there o) | inr none ↦ inr none ])

    end_is : (rest : List ℕ) → (after rest).board.end ≡ option_map end_of e.end
    end_is rest = ap (λ (b : Board). b.end) (both rest).0.board

    clock_is : (rest : List ℕ) → (after rest).board.clock ≡ e.clock
    clock_is rest = ap (λ (b : Board). b.clock) (both rest).0.board

    is_executed : n ≤ budget → (n ≡ budget) ⊎ IsSome e.end → (rest : List ℕ) → IsExecuted (course (used ++ rest)) budget n
    is_executed within done rest = record {
      within = within;
      not_before = λ j l. along.before rest j l;
      done = elim done [ inl q ↦ inl q | inr q ↦ inr (ap (λ (o : Option RunEnd). is_some o) (end_is rest) ∙ is_over e.end q) ];
    }

    text_is : (rest : List ℕ) → lines (seen_of h.moves) ++ closing_line e.clock (option_map end_of e.end) ≡ transcript_of (after rest).board
    text_is rest =
        ap (λ os. lines os ++ closing_line e.clock (option_map end_of e.end)) (sym (both rest).1.seen)
        ∙ ap (λ c. lines (after rest).board.seen ++ closing_line c (option_map end_of e.end)) (sym (clock_is rest))
        ∙ ap (λ o. lines (after rest).board.seen ++ closing_line (after rest).board.clock o) (sym (end_is rest))

    module _ (u : Option (List ℕ)) (fs : ℕ) (within : n ≤ budget) (done : (n ≡ budget) ⊎ IsSome e.end) where
      -- the board and the sink behind the closing line
      abbrev last : OverSink B
      last = record b { taken = u; faults = fs }

      -- the closing line was taken
      ran_whole : Took b.taken u (closing_line e.clock (option_map end_of e.end)) → HasRun account image course budget given last (option_map end_of e.end)
      ran_whole took = record {
        used = used;
        moves = h.moves;
        is_executed = is_executed within done;
        shows = λ rest. (both rest).0;
        met = λ rest. (both rest).1;
        ended = end_is;
        written = λ rest. subst (λ l. Took first.taken u l) (text_is rest) (took-then _ _ h.written took);
        devices = devices_after h.moves b.board.plugs h.ports;
      }

      -- the closing line was cut
      ran_cut : TookPart b.taken u (closing_line e.clock (option_map end_of e.end)) → IsCut account course budget given (around last)
      ran_cut part = record {
        free = used ++ [];
        executed = n;
        moves = h.moves;
        is_executed = is_executed within done [];
        met = (both []).1;
        stopped = record {
          done = h.moves;
          left = [];
          split = append-nil h.moves;
          text = closing_line (after []).board.clock (after []).board.end;
          due = refl;
          written = record {
            told = λ had q.
                let closing : closing_line e.clock (option_map end_of e.end) ≡ closing_line (after []).board.clock (after []).board.end =
                ap (λ c. closing_line c (option_map end_of e.end)) (sym (clock_is [])) ∙ ap (closing_line (after []).board.clock) (sym (end_is [])) in
                let c : TookPart b.taken u (closing_line (after []).board.clock (after []).board.end) = subst (λ l. TookPart b.taken u l) closing part in
                let r = c.told (had ++ lines (seen_of h.moves)) (h.written.told had q) in
                (r.0, r.1, r.2 ∙ ap Some (append_assoc had (lines (seen_of h.moves)) r.0));
          };
          devices = devices_after h.moves b.board.plugs h.ports;
        };
      }

      pub finished : (answer : End) → first.faults ≤ b.faults → Finishes b last answer → Ran account image course budget given last answer
      finished answer later fin = subst (Ran account image course budget given last) (sym fin.2) (by_put fin.0 fin.1)
        where
          whole : (o : Option Stop) → e.end ≡ o → Took b.taken u (closing_line e.clock (option_map end_of e.end)) → Ran account image course budget given last (told o)
          whole None q took = subst (λ o. HasRun account image course budget given last (option_map end_of o)) q (ran_whole took)
          whole (Some StopQuiet) q took = subst (λ o. HasRun account image course budget given last (option_map end_of o)) q (ran_whole took)
          whole (Some StopScript) q took = subst (λ o. HasRun account image course budget given last (option_map end_of o)) q (ran_whole took)
          whole (Some (StopPanic code)) q took = subst (λ o. HasRun account image course budget given last (option_map end_of o)) q (ran_whole took)
          whole (Some (StopFault fault address)) q took = subst (λ o. HasRun account image course budget given last (option_map end_of o)) q (ran_whole took)

          by_put : (put : Result (Unit {0}) PutFailed) → Puts b.taken u b.faults fs (closing_line e.clock (option_map end_of e.end)) put → Ran account image course budget given last (answer_of put e.end)
          by_put (Ok x) puts = whole e.end refl puts.took
          by_put (Err x) puts = (ran_cut puts.part, rose-before first.faults b.faults fs later puts.failed)

  -- The line of an observation was cut: the run goes on to meet more, whatever the sink does.
  module _ (most : ℕ) (new : OverSink B) (g : Fails account of_run most b new) (inside : n + most ≤ budget) (none : NoneBefore (n + most) left) (may : AllMay left) where
    before_last : (l : List Arrival) → NoneBefore (n + most) l → NoneBefore (n + g.count) l
    before_last [] b = tt
    before_last (a ∷ rest) b = (let w = g.within in omega (arith, w, b))

    from_here : Reaches None image along.at 0 [] h.moves (state_of e)
    from_here = record { at = along.at; shows = along.shows; free = along.free; met = along.met; settles = λ rest. refl }

    reached : Reaches None image along.at (g.count + 0) ([] ++ (g.comes image None refl along.at 0 [] h.moves from_here).0) (h.moves ++ (g.done ++ Seen g.last ∷ [])) g.at
    reached = (g.comes image None refl along.at 0 [] h.moves from_here).1

    -- what stands behind the free words used so far, in the run that is spoken of
    abbrev words : List ℕ
    words = (g.comes image None refl along.at 0 [] h.moves from_here).0 ++ []

    pub fails_cut : IsCut account course budget given (around new)
    fails_cut =
        let z : g.count + 0 ≡ g.count = omega arith in
        let v : World Fiber Shared = run (fibers image) g.count (along.at words) in
        let met : List Move = h.moves ++ (g.done ++ Seen g.last ∷ []) in
        let idle = idles_meeting (fibers image) met (reached.at []) (reached.met []) in
        let here : idled (fibers image) (reached.at []) ≡ v = reached.settles [] ∙ (ap (run (fibers image) (g.count + 0)) (along.still words) ∙ ap (λ k. run (fibers image) k (along.at words)) z) in
        let more = with_meets (fibers image) left (n + g.count) budget v (met ++ idle.0) may (subst (λ (w : World Fiber Shared). HasMet (met ++ idle.0) w.board) here idle.1) in
        let count : n + g.count ≤ budget = (let w = g.within in omega (arith, w, inside)) in
        let onward : run_by_list (fibers image) (n + g.count) left budget v ≡ course (used ++ words) budget =
        sym (with_moved (fibers image) left n g.count budget (along.at words) (before_last left none) count) ∙ listed image course left n used h.moves (state_of e) along words budget (omega (arith, count)) in
        let executed = least_executed (course (used ++ words)) budget in
        let last : course (used ++ words) budget ≡ course (used ++ words) executed.0 =
        elim executed.1.done [
          | inl same ↦ ap (course (used ++ words)) (sym same)
          | inr o ↦ with_ended (fibers image) arrivals executed.0 budget (bank_start image script.end (world_entries script.entries) (used ++ words)) executed.1.within o
        ] in
        record {
          free = used ++ words;
          executed = executed.0;
          moves = (met ++ idle.0) ++ more.0;
          is_executed = executed.1;
          met = subst (λ (w : World Fiber Shared). HasMet ((met ++ idle.0) ++ more.0) w.board) (onward ∙ last) more.1;
          stopped = record {
            done = h.moves ++ g.done;
            left = Seen g.last ∷ (idle.0 ++ more.0);
            split = split h.moves g.done g.last idle.0 more.0;
            text = line g.last;
            due = refl;
            written = subst (λ l. TookInto first.taken new.taken l (line g.last)) (sym (lines-append (seen_of h.moves) (seen_of g.done)) ∙ ap lines (sym (seen_of-append h.moves g.done)))
                (into_then account (lines (seen_of h.moves)) (lines (seen_of g.done)) (line g.last) h.written (subst (λ l. TookInto b.taken new.taken l (line g.last)) (plain_lines (seen_of g.done)) g.written));
            devices = devices_after (h.moves ++ g.done) new.board.plugs (ports_then account h.moves g.done first.board.plugs b.board.plugs new.board.plugs h.ports g.ports);
          };
        }
      where
        split : (a b : List Move) (o : Observation) (c d : List Move) → (a ++ b) ++ (Seen o ∷ (c ++ d)) ≡ ((a ++ (b ++ Seen o ∷ [])) ++ c) ++ d
        split a b o c d = simp append_assoc
