-- One instruction of the running fiber, from the machine's step to the run.
use Rattle.std.proofs.Common.{◌≡◌, ℕ, Bool, List, [], ◌∷◌, ◌++◌, map, Option, Some, None, is_some, refl, sym, ap, ◌∙◌, subst}
use Rattle.thumb_code.specs.Step.{Stepped, On, Served, Faulted}
use Rattle.thumb_code.specs.Machine.{State as Machine, step, Ram}
use Rattle.board_world.specs.Observations.{End, Faulted as EndFaulted}
use Rattle.board_world.specs.Board.{Board, ended_by}
use Rattle.board_world.specs.Kinds.{Turn, Goes, Faults}
use Rattle.board_world.specs.Activities.{World}
use Rattle.board_world.specs.World.{acted, goes_on, stops}
use Rattle.bank_model.specs.Fibers.{Fiber, Shared}
use Rattle.bank_model.specs.AllServices.{service}
use Rattle.bank_model.specs.BoardMachine.{fibers}
use Rattle.bank_model.specs.Standing.{StepKeepsAbove, StandsAfter, IsItsTurn, fiber_on, shared_on, turn_from}
use Rattle.bank_model.proofs.Laws.{step_keeps, is_its_turn}
use Rattle.fiber_runtime.specs.declared.turning.Turning.{Turning}
use Rattle.fiber_runtime.specs.Sound.{IsStanding}
use Rattle.board_run.specs.Shown.{acting, of_key}
use Rattle.board_run.specs.Represents.{BoardState, Represents, behind}
use Rattle.board_outside.specs.Moves.{Move, HasMet, Meets}
use Rattle.board_outside.proofs.Laws.{met_then, meets_nothing}
use Rattle.board_run.specs.Run.{Comes}
use Rattle.board_run.specs.Serving.{Acts, StopsAt}
use Rattle.board_run.proofs.Again.{Alike, Same, Stop, alike}
use Rattle.board_run.proofs.FiberGoesOn.{current, IsOnward, goes, first_ready, behind_same}
use Rattle.board_run.proofs.Course.{executes}

-- what is shown may be used to see how far a board comes
pub by_shown : (image : List ℕ) (n : ℕ) (more : List Move) (b b' : BoardState) → ((w : World Fiber Shared) → Represents image b w → Comes image n more b b') → Comes image n more b b'
by_shown image n more b b' f bound start k used met r = f (r.at []) (r.shows []) bound start k used met r

module _ (image : List ℕ) (b : BoardState) (t : Turning) (runs : b.runtime.running ≡ Some t) (going : b.plain.end ≡ None) where
  -- the board behind an instruction that went on
  abbrev pub moved_to : Machine → BoardState
  moved_to m = record b { runtime = record b.runtime { machine = m } }

  its : (w : World Fiber Shared) → Represents image b w → IsItsTurn image b.plain.used b.runtime.machine
  its w h =
      let f = (subst (λ x. IsStanding x b.runtime.machine b.runtime.raisers) runs h.stands).0 in
      is_its_turn image b.plain.used b.runtime.machine h.flash (record { spans = f; size = h.stack })

  onward : (m : Machine) (x : Stepped Ram) → StepKeepsAbove b.runtime.machine.memory x → StandsAfter x → x ≡ On m.registers m.memory → IsOnward b.runtime.machine m
  onward m x k s e = record { keeps = (subst (StepKeepsAbove b.runtime.machine.memory) e k).0; inside = subst StandsAfter e s }

  onward_served : (n : ℕ) (m : Machine) (x : Stepped Ram) → StepKeepsAbove b.runtime.machine.memory x → StandsAfter x → x ≡ Served n m.registers m.memory → IsOnward b.runtime.machine m
  onward_served n m x k s e = record { keeps = (subst (StepKeepsAbove b.runtime.machine.memory) e k).0; inside = subst StandsAfter e s }

  pub moved_shows : (m : Machine) → IsOnward b.runtime.machine m → (w : World Fiber Shared) (h : Represents image b w) (rest : List ℕ)
      → Represents image (moved_to m) (goes_on (current b t h.mark) (behind image b) (fiber_on m, shared_on b.plain.used m.memory rest) w.board w)
  moved_shows m o w h rest = goes image b w h t runs m o rest w.board b.plain b.bus.queue h.board refl h.hears.queue

  -- An instruction that goes on: the board has the machine behind it, and all else stays.
  pub went : (m : Machine) → step b.runtime.machine ≡ On m.registers m.memory → Comes image 1 [] b (moved_to m)
  went m e = by_shown image 1 [] b (moved_to m) (λ w0 h0.
      let f = its w0 h0 in
      let o = onward m (step b.runtime.machine) (step_keeps b.runtime.machine) f.after e in
      let turn = λ (rest : List ℕ). f.turn rest ∙ ap (λ x. turn_from image b.plain.used b.runtime.machine.registers.pc x rest) e in
      executes image b (moved_to m) t [] runs going f.taken (λ rest. Goes (fiber_on m) (shared_on b.plain.used m.memory rest)) turn
      (λ rest w met h s q. (moved_shows m o w h rest, λ _. refl, met_then met [] w.board w.board q (meets_nothing w.board w.board refl refl))))

  ends_shown : (end : End) (w : World Fiber Shared) → Represents image b w → Represents image (record b { plain = ended_by b.plain end }) (stops end w)
  ends_shown end w h = record {
    sound = h.sound;
    stands = h.stands;
    runner = h.runner;
    nested = h.nested;
    stack = h.stack;
    places = h.places;
    flash = h.flash;
    globals = h.globals;
    arena = h.arena;
    used = h.used;
    board = ap (λ (p : Board). ended_by p end) h.board;
    seats = h.seats;
    hears = record { listeners = h.hears.listeners; queue = h.hears.queue; alive = h.hears.alive };
    mark = h.mark;
    ready = h.ready;
    sleepers = h.sleepers;
    waiters = h.waiters;
  }

  -- An instruction whose turn ends the run: the world changes nothing else.
  stopped : (end : End) (x : Stepped Ram) (turn : List ℕ → Turn Fiber Shared) → step b.runtime.machine ≡ x → ((rest : List ℕ) → turn_from image b.plain.used b.runtime.machine.registers.pc x rest ≡ turn rest)
      → ((w : World Fiber Shared) (h : Represents image b w) (rest : List ℕ) → acted (fibers image) (current b t h.mark) (behind image b) w (turn rest) ≡ stops end w)
      → Comes image 1 [] b (record b { plain = ended_by b.plain end })
  stopped end x turn e asked stop = (let b' : BoardState = record b { plain = ended_by b.plain end } in by_shown image 1 [] b b' (λ w0 h0.
      let f = its w0 h0 in
      let as_asked = λ (rest : List ℕ). f.turn rest ∙ ap (λ y. turn_from image b.plain.used b.runtime.machine.registers.pc y rest) e ∙ asked rest in
      executes image b b' t [] runs going f.taken turn as_asked
      (λ rest w met h s q.
      let same = stop w h rest in (
        subst (Represents image b') (sym same) (ends_shown end w h),
        λ o. absurd (let z : ◌≡◌ {A = Option End} (Some end) None = o in cc),
        subst (λ (v : World Fiber Shared). HasMet (met ++ []) v.board) (sym same) (met_then met [] w.board (stops end w).board q (meets_nothing w.board (stops end w).board refl refl)),
      ))))

  -- a fault
  pub faulted : (kind address : ℕ) → step b.runtime.machine ≡ Faulted kind address → Comes image 1 [] b (record b { plain = ended_by b.plain (EndFaulted kind address) })
  faulted kind address e = stopped (EndFaulted kind address) (Faulted kind address) (λ rest. Faults kind address) e (λ rest. refl) (λ w h rest. refl)

  world_end : (w : World Fiber Shared) → Represents image b w → w.board.end ≡ None
  world_end w h = ap (λ (p : Board). p.end) h.board ∙ going

  -- the turn from the world behind the instruction, and from the one before it
  pub turned_alike : (m : Machine) (o : IsOnward b.runtime.machine m) (w : World Fiber Shared) (h : Represents image b w) (rest : List ℕ) (turn : Turn Fiber Shared) (mark : Bool)
      → Alike (fibers image) (fiber_on b.runtime.machine) (fiber_on m) t.value t.listener (is_some t.key) h.mark mark (behind image b) (shared_on b.plain.used m.memory rest) w turn
  turned_alike m o w h rest turn mark = alike (fibers image) (fiber_on b.runtime.machine) (fiber_on m) t.value t.listener (is_some t.key) h.mark mark (behind image b) (shared_on b.plain.used m.memory rest) w turn

  whole : (w : World Fiber Shared) (h : Represents image b w) → record w { ready = current b t h.mark ∷ behind image b } ≡ w
  whole w h = ap (λ r. record w { ready = r }) (sym (first_ready image b w h t runs))

  behind_moved : (m : Machine) → IsOnward b.runtime.machine m → (w : World Fiber Shared) → Represents image b w → behind image (moved_to m) ≡ behind image b
  behind_moved m o w h = ap (λ l. l ++ map (of_key b.runtime.pool) b.runtime.lists.ready) (behind_same image b w h t runs m o.keeps)

  -- What holds of the world behind the turn, where the run goes on, holds of the world behind the instruction.
  goes_through : (m : Machine) (o : IsOnward b.runtime.machine m) (w : World Fiber Shared) (h : Represents image b w) (rest : List ℕ) (turn : Turn Fiber Shared) (mark : Bool) (P : World Fiber Shared → Type 0)
      → ((v : World Fiber Shared) → P v → v.board.end ≡ w.board.end)
      → P (acted (fibers image) (acting (fiber_on m) t mark) (behind image b) (goes_on (current b t h.mark) (behind image b) (fiber_on m, shared_on b.plain.used m.memory rest) w.board w) turn)
      → P (acted (fibers image) (current b t h.mark) (behind image b) w turn)
  goes_through m o w h rest turn mark P ends y = by_alike (turned_alike m o w h rest turn mark)
    where
      by_alike : Alike (fibers image) (fiber_on b.runtime.machine) (fiber_on m) t.value t.listener (is_some t.key) h.mark mark (behind image b) (shared_on b.plain.used m.memory rest) w turn
          → P (acted (fibers image) (current b t h.mark) (behind image b) w turn)
      by_alike (Same p e) = subst (λ (v : World Fiber Shared). P (acted (fibers image) (current b t h.mark) (behind image b) v turn)) (whole w h) (subst P p y)
      by_alike (Stop e p q) = absurd (
          let z : ◌≡◌ {A = Option End} (Some e) None = sym (ap (λ (v : World Fiber Shared). v.board.end) p) ∙ ends _ y ∙ world_end w h in cc)

  stops_through : (m : Machine) (o : IsOnward b.runtime.machine m) (w : World Fiber Shared) (h : Represents image b w) (rest : List ℕ) (turn : Turn Fiber Shared) (mark : Bool) (end : End)
      → acted (fibers image) (acting (fiber_on m) t mark) (behind image b) (goes_on (current b t h.mark) (behind image b) (fiber_on m, shared_on b.plain.used m.memory rest) w.board w) turn
      ≡ stops end (goes_on (current b t h.mark) (behind image b) (fiber_on m, shared_on b.plain.used m.memory rest) w.board w)
      → acted (fibers image) (current b t h.mark) (behind image b) w turn ≡ stops end w
  stops_through m o w h rest turn mark end y = by_alike (turned_alike m o w h rest turn mark)
    where
      by_alike : Alike (fibers image) (fiber_on b.runtime.machine) (fiber_on m) t.value t.listener (is_some t.key) h.mark mark (behind image b) (shared_on b.plain.used m.memory rest) w turn
          → acted (fibers image) (current b t h.mark) (behind image b) w turn ≡ stops end w
      by_alike (Same p e) = absurd (
          let z : ◌≡◌ {A = Option End} (Some end) None = sym (ap (λ (v : World Fiber Shared). v.board.end) y) ∙ e ∙ world_end w h in cc)
      by_alike (Stop e p q) =
          let same : Some e ≡ Some end = sym (ap (λ (v : World Fiber Shared). v.board.end) p) ∙ ap (λ (v : World Fiber Shared). v.board.end) y in
          let is : e ≡ end = cc in
          subst (λ (v : World Fiber Shared). acted (fibers image) (current b t h.mark) (behind image b) v turn ≡ stops end v) (whole w h) (q ∙ ap (λ x. stops x (record w { ready = current b t h.mark ∷ behind image b })) is)

  -- A service that is done.
  pub served : (number : ℕ) (m : Machine) (b' : BoardState) (moves : List Move) → step b.runtime.machine ≡ Served number m.registers m.memory
      → Acts image (service image b.runtime.machine.registers.pc number) moves (moved_to m) b' → Comes image 1 moves b b'
  served number m b' moves e acts = by_shown image 1 moves b b' (λ w0 h0.
      let f = its w0 h0 in
      let o = onward_served number m (step b.runtime.machine) (step_keeps b.runtime.machine) f.after e in
      let T = λ (rest : List ℕ). service image b.runtime.machine.registers.pc number (fiber_on m) (shared_on b.plain.used m.memory rest) in
      let turn = λ (rest : List ℕ). f.turn rest ∙ ap (λ x. turn_from image b.plain.used b.runtime.machine.registers.pc x rest) e in
      executes image b b' t moves runs going f.taken T turn (λ rest w met h s q.
      let w1 : World Fiber Shared = goes_on (current b t h.mark) (behind image b) (fiber_on m, shared_on b.plain.used m.memory rest) w.board w in
      let h1 : Represents image (moved_to m) w1 = moved_shows m o w h rest in
      let P : World Fiber Shared → Type 0 = λ v. Represents image b' v × (v.board.end ≡ w.board.end) × (v.shared.free ≡ rest) × Meets moves w.board v.board in
      let y : P (acted (fibers image) (acting (fiber_on m) t h1.mark) (behind image b) w1 (T rest)) = subst (λ l. P (acted (fibers image) (acting (fiber_on m) t h1.mark) l w1 (T rest))) (behind_moved m o w h) (acts t runs w1 h1) in
      let z = goes_through m o w h rest (T rest) h1.mark P (λ v p. p.1) y in
      (z.0, λ _. z.2, met_then met moves w.board _ q z.3)))

  -- A service whose turn ends the run.
  pub served_stops : (number : ℕ) (m : Machine) (end : End) → step b.runtime.machine ≡ Served number m.registers m.memory
      → StopsAt image (service image b.runtime.machine.registers.pc number) end (moved_to m) → Comes image 1 [] b (record b { plain = ended_by b.plain end })
  served_stops number m end e stop = by_shown image 1 [] b (record b { plain = ended_by b.plain end }) (λ w0 h0.
      let f = its w0 h0 in
      let o = onward_served number m (step b.runtime.machine) (step_keeps b.runtime.machine) f.after e in
      let T = λ (rest : List ℕ). service image b.runtime.machine.registers.pc number (fiber_on m) (shared_on b.plain.used m.memory rest) in
      stopped end (Served number m.registers m.memory) T e (λ rest. refl) (λ w h rest.
      let w1 : World Fiber Shared = goes_on (current b t h.mark) (behind image b) (fiber_on m, shared_on b.plain.used m.memory rest) w.board w in
      let h1 : Represents image (moved_to m) w1 = moved_shows m o w h rest in
      stops_through m o w h rest (T rest) h1.mark end
      (subst (λ l. acted (fibers image) (acting (fiber_on m) t h1.mark) l w1 (T rest) ≡ stops end w1) (behind_moved m o w h) (stop t runs w1 h1))))

  -- where the fiber stands behind a service's instruction
  pub served_inside : (number : ℕ) (m : Machine) (w : World Fiber Shared) → Represents image b w → step b.runtime.machine ≡ Served number m.registers m.memory → IsOnward b.runtime.machine m
  served_inside number m w h e = onward_served number m (step b.runtime.machine) (step_keeps b.runtime.machine) (its w h).after e
