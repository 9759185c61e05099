-- What all fibers share counts the used words of the arena as the board does.
use Rattle.std.proofs.Common.{◌≡◌, ℕ, zero, suc, ◌+◌, ℤ, ◌==◌, nat_lt, nat_le, Bool, not, ◌&&◌, if◌then◌else◌, Option, Some, None, List, [], ◌∷◌, length, refl, sym, ◌∙◌, subst}
use Rattle.thumb_code.specs.RegisterFile.{is_odd}
use Rattle.thumb_code.specs.Step.{Stepped, On, Served, Faulted}
use Rattle.board_world.specs.declared.events.Event.{Event}
use Rattle.board_world.specs.declared.clock.Idle.{Idle}
use Rattle.board_world.specs.declared.clock.Idle.TheVariants.{Jump, Quiet, Script}
use Rattle.board_world.specs.Limits.{seat_limit, listener_limit, raiser_limit, arena_limit}
use Rattle.board_world.specs.Rules.{clock_move}
use Rattle.board_world.specs.Board.{Board, Entry, over, arrive, arrive_all, next_entry}
use Rattle.board_world.specs.Kinds.{Turn, Goes, Asks, Takes, Pauses, Waits, Spawns, Listens, RaisesNow, Ends, Panics, Faults, Writes, answer}
use Rattle.board_world.specs.Waiting.{least, none, how_many, held_by}
use Rattle.board_world.specs.Activities.{Activity, World, handlers}
use Rattle.board_world.specs.World.{acted, idle_while, moved, clock_moves, idle_bound, lacks_seat, blocks, ends, ends_with, stepped}
use Rattle.board_world.proofs.Laws.{if_keeps, used_answer, used_arrive}
use Rattle.bank_model.specs.Bank.{Bank, bank_step}
use Rattle.bank_model.specs.Fibers.{Fiber, Shared}
use Rattle.bank_model.specs.Texts.{is_text, text_at, glyph_at}
use Rattle.bank_model.specs.Arrays.{is_array, is_full}
use Rattle.bank_model.specs.AllServices.{service, word_argument, pushes, with_text, tells, answered}
use Rattle.bank_model.specs.BoardMachine.{memory_of, fiber_of, shared_in, turn_of, fiber_turn, fibers, bank_run}

-- A turn from where so many words are used leaves as many, and one that takes words counts them.
abbrev Counts : ℕ → Turn Fiber Shared → Type 0
Counts used (Goes f s) = s.used ≡ used
Counts used (Asks q next) = (answer : ℤ) → (next answer).1.used ≡ used
Counts used (Takes n next) = (next used).1.used ≡ used + n
Counts used (Pauses t f s) = s.used ≡ used
Counts used (Waits e f s) = s.used ≡ used
Counts used (Spawns c f s) = s.used ≡ used
Counts used (Listens l f s) = s.used ≡ used
Counts used (RaisesNow e above f s) = s.used ≡ used
Counts used (Ends again s) = s.used ≡ used
Counts used (Panics code) = Unit {0}
Counts used (Faults kind address) = Unit {0}

either : (used : ℕ) (c : Bool) (x y : Turn Fiber Shared) → Counts used x → Counts used y → Counts used (if c then x else y)
either used c x y p q = if_keeps (Counts used) c x y p q

module _ (flash : List ℕ) (at : ℕ) (f : Fiber) (s : Shared) where
  text_counts : (turn : List ℕ → Turn Fiber Shared) → ((bytes : List ℕ) → Counts s.used (turn bytes)) → Counts s.used (with_text flash at f turn)
  text_counts turn h =
      either s.used (word_argument f 0 == 0) _ _ tt (either s.used (is_text flash (word_argument f 0)) _ _ (h (text_at flash (word_argument f 0))) tt)

  push_counts : Counts s.used (pushes at f s)
  push_counts =
      either s.used (word_argument f 0 == 0) _ _ tt (either s.used (is_array s.arena s.used (word_argument f 0)) _ _
      (either s.used (is_full s.arena (word_argument f 0)) _ _ refl refl) tt)

  service_counts : (number : ℕ) → Counts s.used (service flash at number f s)
  service_counts number =
      let told : (answer : ℤ) → s.used ≡ s.used = λ answer. refl in
      let writes : (bytes : List ℕ) → Counts s.used (tells (Writes bytes) f s) = λ bytes answer. refl in
      let shows : (bytes : List ℕ) → Counts s.used (Goes (answered f (glyph_at bytes (word_argument f 1))) s) = λ bytes. refl in
      either s.used (number == 0) _ _ refl (either s.used (number == 1) _ _ tt (either s.used (number == 2) _ _ refl (either s.used (number == 3) _ _ refl
      (either s.used (number == 4) _ _ (either s.used (is_odd (word_argument f 0)) _ _ refl tt) (either s.used (number == 5) _ _ (either s.used (is_odd (word_argument f 2)) _ _ refl tt)
      (either s.used (number == 6) _ _ told (either s.used (number == 7) _ _ told (either s.used (number == 8) _ _ told (either s.used (number == 9) _ _ told
      (either s.used (number == 10) _ _ (either s.used (nat_lt (word_argument f 2) 3) _ _ told tt) (either s.used (number == 11) _ _ told (either s.used (number == 12) _ _ told
      (either s.used (number == 13) _ _ (text_counts (λ bytes. tells (Writes bytes) f s) writes) (either s.used (number == 14) _ _ told (either s.used (number == 15) _ _ told
      (either s.used (number == 16) _ _ (text_counts (λ bytes. Goes (answered f (glyph_at bytes (word_argument f 1))) s) shows) (either s.used (number == 17) _ _ refl
      (either s.used (number == 18) _ _ (either s.used (word_argument f 0 == 0) _ _ tt refl) (either s.used (number == 19) _ _ push_counts (either s.used (number == 20) _ _ refl
      (either s.used (number == 21) _ _ refl (either s.used (number == 22) _ _ (either s.used (is_odd (word_argument f 2)) _ _ refl tt) (either s.used (number == 23) _ _ refl tt)))))))))))))))))))))))

turn_counts : (flash : List ℕ) (used at : ℕ) (x : Stepped (Bank × List ℕ)) → Counts used (turn_of flash used at x)
turn_counts flash used at (On r m) = refl
turn_counts flash used at (Served number r m) = service_counts flash at (fiber_of r m) (shared_in used m) number
turn_counts flash used at (Faulted kind address) = tt

-- The board counts as what is shared does.
abbrev Counted : World Fiber Shared → Type 0
Counted w = w.shared.used ≡ w.board.used

arrivals_counted : (t : ℕ) (es : List Entry) (b : Board) → (arrive_all t es b).used ≡ b.used
arrivals_counted t [] b = refl
arrivals_counted t (e ∷ es) b = if_keeps (λ (x : Board). x.used ≡ b.used) (e.at == t) _ _ (arrivals_counted t es (arrive e.act b) ∙ used_arrive e.act b) refl

module _ (flash : List ℕ) where
  clock_counted : (i : Idle) (w : World Fiber Shared) → Counted w → Counted (clock_moves i w)
  clock_counted (Jump t) w h = h ∙ sym (arrivals_counted t w.board.script (record w.board { clock = t }))
  clock_counted Quiet w h = h
  clock_counted Script w h = h

  moved_counted : (queue : List Event) (w : World Fiber Shared) → Counted w → Counted (moved (fibers flash) queue w)
  moved_counted (e ∷ rest) w h = h
  moved_counted [] w h = clock_counted (clock_move (least w.sleepers) (next_entry w.board.script) w.board.until) w h

  idle_counted : (n : ℕ) (ready : List (Activity Fiber)) (w : World Fiber Shared) → Counted w → Counted (idle_while (fibers flash) n ready w)
  idle_counted zero ready w h = h
  idle_counted (suc n) (a ∷ rest) w h = h
  idle_counted (suc n) [] w h =
      if_keeps Counted (over w.board) w _ h (idle_counted n (moved (fibers flash) w.board.queue w).ready (moved (fibers flash) w.board.queue w) (moved_counted w.board.queue w h))

  blocks_counted : (a : Activity Fiber) (b : Board) → (blocks (fibers flash) a b).used ≡ b.used
  blocks_counted a b = if_keeps (λ (x : Board). x.used ≡ b.used) a.seated _ _ refl refl

  ends_counted : (a : Activity Fiber) (others : List (Activity Fiber)) (again : ℕ → Fiber) (s : Shared) (i : Option ℕ) (w : World Fiber Shared) → s.used ≡ w.board.used → Counted (ends a others again s i w)
  ends_counted a others again s None w h = h
  ends_counted a others again s (Some i) w h = held (held_by i w.listeners)
    where
      held : (es : List Event) → Counted (ends_with es i a others again s w)
      held [] = h
      held (e ∷ rest) = h

  acted_counted : (a : Activity Fiber) (others : List (Activity Fiber)) (w : World Fiber Shared) (turn : Turn Fiber Shared) → Counted w → Counts w.board.used turn → Counted (acted (fibers flash) a others w turn)
  acted_counted a others w (Goes f s) h c = c
  acted_counted a others w (Asks q next) h c = c (answer q a.value w.board).1 ∙ sym (used_answer q a.value w.board)
  acted_counted a others w (Takes n next) h c = if_keeps Counted (nat_le (w.board.used + n) arena_limit) _ _ c h
  acted_counted a others w (Pauses t f s) h c = if_keeps Counted (lacks_seat a w.board) _ _ h (c ∙ sym (blocks_counted (record a { self = f }) w.board))
  acted_counted a others w (Waits e f s) h c = if_keeps Counted (lacks_seat a w.board) _ _ h (c ∙ sym (blocks_counted (record a { self = f }) w.board))
  acted_counted a others w (Spawns g f s) h c = if_keeps Counted (nat_lt w.board.seats seat_limit) _ _ c h
  acted_counted a others w (Listens l f s) h c = if_keeps Counted (nat_lt (length w.listeners) listener_limit) _ _ c h
  acted_counted a others w (RaisesNow e above f s) h c =
      if_keeps Counted (not (none (handlers above e w 0 w.listeners)) && nat_le raiser_limit (how_many (λ b. b.suspended) others)) _ _ h c
  acted_counted a others w (Ends again s) h c = ends_counted a others again s a.listener w c
  acted_counted a others w (Panics code) h c = h
  acted_counted a others w (Faults kind address) h c = h

  stepped_counted : (ready : List (Activity Fiber)) (w : World Fiber Shared) → Counted w → Counted (stepped (fibers flash) ready w)
  stepped_counted [] w h = h
  stepped_counted (a ∷ rest) w h =
      let turn = fiber_turn flash a.self w.shared in
      let c : Counts w.board.used turn = subst (λ used. Counts used turn) h (turn_counts flash w.shared.used a.self.registers.pc (bank_step a.self.registers (memory_of flash a.self w.shared))) in
      let v = acted (fibers flash) a rest w turn in
      idle_counted (idle_bound v.board) v.ready v (acted_counted a rest w turn h c)

-- After so many instructions.
pub used_counted : (image : List ℕ) (until : ℕ) (script : List Entry) (free : List ℕ) (n : ℕ) → Counted (bank_run image until script free n)
used_counted image until script free zero = refl
used_counted image until script free (suc n) =
    let w = bank_run image until script free n in
    if_keeps Counted (over w.board) w _ (used_counted image until script free n) (stepped_counted image w.ready w (used_counted image until script free n))
