-- The run of an image with arrivals, and of the source under it.
use Rattle.std.proofs.Common.{◌≡◌, ℕ, List, [], ◌++◌, Option, Some, sym, ap, ◌∙◌, subst}
use Rattle.board_world.specs.Observations.{ByteList, End as RunEnd, Faulted}
use Rattle.board_world.specs.Transcript.{closing_line}
use Rattle.board_world.specs.Board.{Board, transcript_of}
use Rattle.board_world.specs.Runs.{Arrival, Rises}
use Rattle.board_world.specs.Implements.{EndsByNoFault}
use Rattle.tool_io.specs.Putting.{Took}
use Rattle.event_script.specs.World.{world_entries}
use Rattle.event_script.specs.declared.script.Script.{Script as EventScript}
use Rattle.board_outside.specs.Moves.{Move, HasMet}
use Rattle.board_outside.specs.Cuts.{Stopped}
use Rattle.sts_syntax.specs.TypedTrees.{TypedProgram}
use Rattle.sts_implements.specs.Images.{ImageImplements}
use Rattle.board_run.specs.Outside.{Outside, OverSink}
use Rattle.board_run.specs.Ran.{IsExecuted, HasRun, IsCut, Ran}
use Rattle.board_run.specs.declared.end.End.{End}
use Rattle.board_run.specs.declared.end.End.TheVariants.{Quiet, Script, Panic, Budget, Fault, SinkFault}
use Rattle.irq_arrival.specs.ImageRuns.{world_at, RunsToAt, RunsImageAt}
use Rattle.irq_arrival.specs.SourceRuns.{source_at, MeetsAt, RunsSourceTo, CutsSource, RunsSourceAt}
use Rattle.irq_arrival.proofs.Reaching.{reaches, faultless}
use Rattle.board_ports.specs.Account.{Account}
use Rattle.board_ports.specs.Plugged.{SettlesAll}
use Rattle.board_run.proofs.Laws.{closed_over, devices_closed, cut_closed}

module _ {B : Type 0} (account : B → Account) (image : List ℕ) (script : EventScript) (arrivals : List Arrival) (budget : ℕ) where
  -- a board's run along the worlds of an image's run
  module _ (old : Outside B) (new : OverSink B) (settled : B → Type 0) (places : List (Option B)) (closes : SettlesAll settled account new.board.plugs places) where
    runs_to : (end : Option RunEnd) → HasRun account image (world_at image script arrivals) budget old new end → RunsToAt account image script arrivals budget old (closed_over new places) end
    runs_to end h = record {
      free = h.used ++ [];
      executed = new.board.instructions;
      moves = h.moves;
      is_executed = h.is_executed [];
      met = h.met [];
      ended = h.ended [];
      written = h.written [];
      devices = devices_closed settled account new places closes h.moves old.places h.devices;
    }

    pub runs_image : (end : End) → Ran account image (world_at image script arrivals) budget old new end → RunsImageAt account image script arrivals budget old (closed_over new places) end
    runs_image Quiet h = runs_to _ h
    runs_image Script h = runs_to _ h
    runs_image (Panic code) h = runs_to _ h
    runs_image (Fault fault address) h = runs_to _ h
    runs_image Budget h = runs_to _ h
    runs_image SinkFault h = (cut_closed settled account new places closes (world_at image script arrivals) budget old h.0, h.1)

  -- of an image that implements a program it is the run of the program's source
  module _ (old new : Outside B) (P : TypedProgram) (texts : List ByteList) (implements : ImageImplements P texts image) (rises : Rises 0 arrivals) where
    meets : (free : List ℕ) (executed : ℕ) (moves : List Move) → IsExecuted (world_at image script arrivals free) budget executed → HasMet moves (world_at image script arrivals free executed).board
        → (m : MeetsAt P texts image script arrivals budget) × ((source_at P texts script m.places m.steps).board ≡ (world_at image script arrivals free executed).board)
    meets free executed moves e met =
        let r = reaches P texts image implements script.end (world_entries script.entries) arrivals rises free budget executed e in (
          record {
            free = free;
            executed = executed;
            steps = r.0;
            places = r.1;
            moves = moves;
            reaches = r.2;
            met = record { seen = ap (λ (b : Board). b.seen) r.2.board ∙ met.seen; unplugged = ap (λ (b : Board). b.unplugged) r.2.board ∙ met.unplugged };
            faultless =
                subst (λ (b : Board). EndsByNoFault b.end) (sym r.2.board) (faultless P texts image implements script.end (world_entries script.entries) arrivals rises free executed);
          },
          r.2.board,
        )

    source_to : (end : Option RunEnd) → RunsToAt account image script arrivals budget old new end → RunsSourceTo account P texts image script arrivals budget old new end
    unfolding meets
    source_to end r =
        let m = meets r.free r.executed r.moves r.is_executed r.met in
        record {
          meets = m.0;
          ended = ap (λ (b : Board). b.end) m.1 ∙ r.ended;
          written = subst (λ (b : Board). Took old.taken new.taken (transcript_of b)) (sym m.1) r.written;
          devices = r.devices;
        }

    source_cut : IsCut account (world_at image script arrivals) budget old new → CutsSource account P texts image script arrivals budget old new
    unfolding meets
    source_cut c =
        let m = meets c.free c.executed c.moves c.is_executed c.met in
        record { meets = m.0; stopped = subst (λ (b : Board). Stopped account [] c.moves (closing_line b.clock b.end) old.taken new.taken old.places new.places) (sym m.1) c.stopped }

    never : (kind address : ℕ) → RunsToAt account image script arrivals budget old new (Some (Faulted kind address)) → ⊥
    never kind address r =
        subst (λ (e : Option RunEnd). EndsByNoFault e) r.ended (faultless P texts image implements script.end (world_entries script.entries) arrivals rises r.free r.executed)

    pub runs_source : (end : End) → RunsImageAt account image script arrivals budget old new end → RunsSourceAt account P texts image script arrivals budget old new end
    runs_source Quiet r = source_to _ r
    runs_source Script r = source_to _ r
    runs_source (Panic code) r = source_to _ r
    runs_source (Fault fault address) r = never _ _ r
    runs_source Budget r = source_to _ r
    runs_source SinkFault r = (source_cut r.0, r.1)
