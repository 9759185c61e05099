-- A mounted board begins, goes on by a part and takes an act.
use Rattle.std.proofs.Common.{◌≡◌, ℕ, ◌+◌, List, [], ◌∷◌, ◌++◌, None, sym, ap, ◌∙◌, subst}
use Rattle.std.specs.Option.{option_map}
use Rattle.std.proofs.lemmas.List.{append-nil}
use Rattle.board_world.specs.Transcript.{lines}
use Rattle.board_world.specs.Runs.{Arrival, Rises}
use Rattle.tool_io.specs.Putting.{Took}
use Rattle.tool_io.proofs.Laws.{took-nothing, took-then}
use Rattle.event_script.specs.World.{world_entries}
use Rattle.board_ports.specs.Account.{Account}
use Rattle.board_ports.specs.History.{FollowsMoves}
use Rattle.board_outside.specs.Moves.{seen_of}
use Rattle.board_outside.proofs.Laws.{seen_of-append, lines-append}
use Rattle.board_run.specs.declared.engine.Engine.{Engine}
use Rattle.board_run.specs.Outside.{OverSink, PortsMeet}
use Rattle.board_run.specs.Advancing.{of_run, Advances, IsSettled}
use Rattle.board_run.specs.Ran.{MayArrive, Arrives}
use Rattle.board_run.specs.Represents.{state_of, end_of}
use Rattle.board_run.proofs.Laws.{settled_stays, ports_then, plain_lines}
use Rattle.irq_arrival.specs.Along.{NoneBefore, IsStill, world_with}
use Rattle.irq_arrival.specs.Underway.{Underway}
use Rattle.irq_arrival.proofs.Joins.{begins, goes, arrives}

pub still_where_settled : (image : List ℕ) (e : Engine) → IsSettled e → IsStill image (state_of e)
still_where_settled image e s w h = settled_stays image e w s h

module _ {B : Type 0} (account : B → Account) (arrivals : List Arrival) (first : OverSink B) where
  pub underway_begins : Rises 0 arrivals → Underway account arrivals first first arrivals 0
  underway_begins r = record {
    moves = [];
    along = λ image script m. ([], begins image script.end (world_entries script.entries) arrivals (state_of first.board.engine) r m.begins);
    ports = λ before start f. subst (λ ms. FollowsMoves account ms start first.board.plugs) (sym (append-nil before)) f;
    written = took-nothing first.taken;
  }

  pub underway_goes : (left : List Arrival) (n count : ℕ) (b c : OverSink B) → Underway account arrivals first b left n → Advances account of_run count b c → IsSettled c.board.engine → NoneBefore (n + count) left
      → Underway account arrivals first c left (n + count)
  underway_goes left n count b c h a settled none = record {
    moves = h.moves ++ a.moves;
    along = λ image script m.
        (let x = h.along image script m in
        let y = goes image (world_with image script.end (world_entries script.entries) arrivals) left n count x.0 h.moves a.moves (state_of b.board.engine) (state_of c.board.engine) x.1 (a.comes image) (still_where_settled image c.board.engine settled) none in
        (x.0 ++ y.0, y.1));
    ports = ports_then account h.moves a.moves first.board.plugs b.board.plugs c.board.plugs h.ports a.ports;
    written = subst (λ l. Took first.taken c.taken l) (sym (lines-append (seen_of h.moves) (seen_of a.moves)) ∙ ap lines (sym (seen_of-append h.moves a.moves))) (took-then _ _ h.written (subst (Took b.taken c.taken) (plain_lines (seen_of a.moves)) a.written));
  }

  -- an act arrives on the board, and the sink is left as it is
  pub underway_takes : (a : Arrival) (left : List Arrival) (n : ℕ) (b c : OverSink B) → Underway account arrivals first b (a ∷ left) n → a.count ≡ n → MayArrive a.act → b.board.engine.end ≡ None
      → Arrives a.act (state_of b.board.engine) (state_of c.board.engine) → PortsMeet account [] b.board.plugs c.board.plugs → c.taken ≡ b.taken → IsSettled c.board.engine → Underway account arrivals first c left n
  underway_takes a left n b c h here may going acted ports sink settled = record {
    moves = h.moves;
    along = λ image script m.
        (let x = h.along image script m in (
          x.0,
          arrives image (world_with image script.end (world_entries script.entries) arrivals) a left n x.0 h.moves (state_of b.board.engine) (state_of c.board.engine) x.1 here may (ap (option_map end_of) going) acted
              (still_where_settled image c.board.engine settled),
        ));
    ports = subst (λ ms. PortsMeet account ms first.board.plugs c.board.plugs) (append-nil h.moves) (ports_then account h.moves [] first.board.plugs b.board.plugs c.board.plugs h.ports ports);
    written = subst (λ t. Took first.taken t (lines (seen_of h.moves))) (sym sink) h.written;
  }
