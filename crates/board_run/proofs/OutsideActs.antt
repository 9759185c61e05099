-- Somebody outside acts between two instructions.
use Rattle.std.proofs.Common.{◌≡◌, ℕ, List, refl, sym, ◌∙◌}
use Rattle.board_world.specs.declared.events.Event.{Event}
use Rattle.board_world.specs.Board.{Board}
use Rattle.board_world.specs.Activities.{World}
use Rattle.bank_model.specs.Fibers.{Fiber, Shared}
use Rattle.board_run.specs.Represents.{BoardState, Represents}
use Rattle.board_run.proofs.FiberGoesOn.{IsPlain}
use Rattle.message_bus.proofs.Laws.{agrees-along}

-- The plain part of the world changes, and the queue of the bus with it.
pub arrived : (image : List ℕ) (b : BoardState) (w : World Fiber Shared) (h : Represents image b w) (board plain : Board) (queue : List Event) → IsPlain board plain → plain.used ≡ b.plain.used → plain.seats ≡ b.plain.seats → board.queue ≡ queue
    → Represents image (record b { bus = record b.bus { queue = queue }; plain = plain }) (record w { board = board })
arrived image b w h board plain queue p used s q = record {
  sound = h.sound;
  stands = h.stands;
  runner = h.runner;
  nested = h.nested;
  stack = h.stack;
  places = h.places;
  flash = h.flash;
  globals = h.globals;
  arena = h.arena;
  used = h.used ∙ sym used;
  board = p;
  seats = s ∙ h.seats;
  hears = agrees-along b.bus queue w (record w { board = board }) h.hears refl q (λ i. refl);
  mark = h.mark;
  ready = h.ready;
  sleepers = h.sleepers;
  waiters = h.waiters;
}
