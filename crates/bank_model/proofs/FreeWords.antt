-- Runs that load no free word, and lower SP only as they store, are the same for each list of free words.
use Rattle.std.proofs.Common.{◌≡◌, ℕ, ◌+◌, ◌*◌, ◌%◌, ◌^◌, ◌==◌, nat_lt, ℤ, Bool, true, false, List, length, refl, sym, ap, subst, arith, if◌then◌else◌}
use Rattle.thumb_code.specs.declared.register_file.Registers.{Registers}
use Rattle.thumb_code.specs.RegisterFile.{is_odd}
use Rattle.thumb_code.specs.Run.{over_moving}
use Rattle.thumb_code.specs.Map.{is_base}
use Rattle.thumb_code.specs.Machine.{base_of}
use Rattle.thumb_code.specs.Step.{Fetched, Found, Missed, fetched, ran, stepped_at}
use Rattle.board_world.specs.declared.events.Event.{Event}
use Rattle.board_world.specs.declared.events.Listener.{Listener}
use Rattle.board_world.specs.Rules.{queues_if_busy}
use Rattle.board_world.specs.Transcript.{decimal_text}
use Rattle.board_world.specs.Kinds.{Question, Turn, Goes, Takes, Pauses, Waits, Spawns, Listens, RaisesNow, Ends, Faults, Writes, Raises, Plots, Displays, Sets, Sends, Time, Value, Pressed}
use Rattle.board_world.specs.Simulation.{Ties, ties, anywhere, Going, Matches, Follows, Simulation, one, always}
use Rattle.bank_model.specs.Bank.{Bank, bank_move, bank_memory}
use Rattle.bank_model.specs.Fibers.{Fiber, Shared, begins, begins_on, begins_again, begins_above}
use Rattle.bank_model.specs.Texts.{is_text, text_at, glyph_at}
use Rattle.bank_model.specs.Arrays.{behind_words, is_array, is_full, room_of, grown_room, stored, moved}
use Rattle.bank_model.specs.AllServices.{service, word_argument, argument, asked_event, asked_listener, allocates, pushes, with_text, tells, asks, answered, answered_word, number_word, quotient, remainder}
use Rattle.bank_model.specs.BoardMachine.{memory_of, fiber_of, shared_in, turn_of}
use Rattle.bank_model.specs.Standing.{IsInside}
use Rattle.bank_model.specs.Runs.{goes_steady, watched_turn, watched}
use Rattle.bank_model.proofs.AboveBase.{base_good}
use Rattle.bank_model.proofs.FreeLoads.{Steady, Went, Asked_for, Failed, with_free}
use Rattle.bank_model.proofs.FreeSteps.{Holds, HoldsAfter, steady_comes}

-- A fiber whose words reach from SP up to its base; inside, where the base is one.
pub record Good (f : Fiber) : Type 0 where
  pub span : f.registers.sp + 4 * length f.bank ≡ f.base
  pub inside : is_base f.base ≡ true → IsInside f.registers.sp f.base

-- What is shared is the same but for the free words.
pub record FreeApart (used : ℕ) (s t : Shared) : Type 0 where
  pub other : List ℕ
  pub same : t ≡ (record s { free = other })
  pub count : s.used ≡ used

abbrev pub apart : Ties Fiber Shared Fiber Shared
apart = ties FreeApart (λ s t a c. (a ≡ c) × Good a) (λ f g. f ≡ g) anywhere

begun_good : (flash : List ℕ) (base code : ℕ) → Good (begins_on flash base code)
begun_good flash base code = record {
  span = omega arith;
  inside = λ h. (let b = base_good base h in record { sp_aligned = b.aligned; aligned = b.aligned; low = b.low; within = omega arith; high = b.high });
}

going : (used : ℕ) (s t s' : Shared) (y : List ℕ) (f : Fiber) → Good f → s'.used ≡ used → Going apart used s t (f, s') (f, record s' { free = y })
going used s t s' y f g e = record { self = (refl, g); onward = record { shared = record { other = y; same = refl; count = e }; others = λ a c h. h } }

module _ (flash : List ℕ) where
  abbrev Twins : ℕ → Shared → Shared → Turn Fiber Shared → Turn Fiber Shared → Type 0
  Twins used s t x y = Matches (watched flash) (watched flash) apart used s t x y

  either : (used : ℕ) (s t : Shared) (c : Bool) (x x' y y' : Turn Fiber Shared) → Twins used s t x x' → Twins used s t y y' → Twins used s t (if c then x else y) (if c then x' else y')
  either used s t true x x' y y' p q = p
  either used s t false x x' y y' p q = q

  module _ (s₀ t₀ : Shared) (at : ℕ) (f : Fiber) (s : Shared) (y : List ℕ) (g : Good f) where
    abbrev t : Shared
    t = record s { free = y }

    abbrev Same : Turn Fiber Shared → Turn Fiber Shared → Type 0
    Same x x' = Twins s.used s₀ t₀ x x'

    on : (f' : Fiber) → Good f' → Going apart s.used s₀ t₀ (f', s) (f', t)
    on f' h = going s.used s₀ t₀ s y f' h refl

    answered_good : (word : ℤ) → Good (answered f word)
    answered_good word = record { span = g.span; inside = g.inside }

    told : (q : Question) → Same (tells q f s) (tells q f t)
    told q = (refl, λ n. on f g)

    asked : (q : Question) → Same (asks q f s) (asks q f t)
    asked q = (refl, λ n. on (answered_word f (number_word n)) (record { span = g.span; inside = g.inside }))

    gives : (n : ℤ) → Same (Goes (answered f n) s) (Goes (answered f n) t)
    gives n = on (answered f n) (answered_good n)

    listened : (l : Listener) → Same (Listens l f s) (Listens l f t)
    listened l = (record { source = refl; value = refl; code = refl; mode = refl }, on f g)

    fault : (k : ℕ) → Same (Faults k at) (Faults k at)
    fault k = (refl, refl)

    text : (turn turn' : List ℕ → Turn Fiber Shared) → ((bytes : List ℕ) → Same (turn bytes) (turn' bytes)) → Same (with_text flash at f turn) (with_text flash at f turn')
    text turn turn' h =
        either s.used s₀ t₀ (word_argument f 0 == 0) _ _ _ _ refl (either s.used s₀ t₀ (is_text flash (word_argument f 0)) _ _ _ _ (h (text_at flash (word_argument f 0))) (fault 8))

    allocated : (n : ℕ) (f' : ℕ → Fiber) (s' : ℕ → Shared) → Good (f' s.used) → (s' s.used).used ≡ s.used + n → Same (Takes n (λ used. (f' used, s' used))) (Takes n (λ used. (f' used, record (s' used) { free = y })))
    allocated n f' s' h e = (refl, λ fits. going (s.used + n) s₀ t₀ (s' s.used) y (f' s.used) h e)

    pushed : Same (pushes at f s) (pushes at f t)
    pushed =
        let array = word_argument f 0 in let item = word_argument f 1 in let grown = grown_room (room_of s.arena array) in
        either s.used s₀ t₀ (array == 0) _ _ _ _ refl (either s.used s₀ t₀ (is_array s.arena s.used array) _ _ _ _
        (either s.used s₀ t₀ (is_full s.arena array) _ _ _ _
        (allocated grown (λ used. f) (λ used. record s { arena = moved s.arena array item (behind_words used); used = used + grown }) g refl)
        (going s.used s₀ t₀ (record s { arena = stored s.arena array item }) y f g refl)) (fault 8))

    grants : Same (allocates at f s) (allocates at f t)
    grants =
        let n = word_argument f 0 in
        either s.used s₀ t₀ (n == 0) _ _ _ _ (fault 8)
        (allocated n (λ used. answered_word f (behind_words used)) (λ used. record s { used = used + n }) (record { span = g.span; inside = g.inside }) refl)

    ending : Same (Ends (begins_again flash f) s) (Ends (begins_again flash f) t)
    ending = (record { each = λ i j e. (ap (begins_again flash f) e, begun_good flash f.base i) }, record { shared = record { other = y; same = refl; count = refl }; others = λ a c h. h })

    raising : (e : Event) → Same (RaisesNow e (begins_above flash f) f s) (RaisesNow e (begins_above flash f) f t)
    raising e = (refl, record { each = λ i j q. (ap (begins_above flash f) q, begun_good flash f.registers.sp i) }, on f g)

    serviced : (number : ℕ) → Same (service flash at number f s) (service flash at number f t)
    serviced number =
        let spawned : Same (Spawns (word_argument f 0) f s) (Spawns (word_argument f 0) f t) = (refl, on f g) in
        let paused : Same (Pauses (argument f 0) f s) (Pauses (argument f 0) f t) = (refl, refl, on f g) in
        let waited : Same (Waits (asked_event f) f s) (Waits (asked_event f) f t) = (refl, refl, on f g) in
        let writes : (bytes : List ℕ) → Same (tells (Writes bytes) f s) (tells (Writes bytes) f t) = λ bytes. told (Writes bytes) in
        let shows : (bytes : List ℕ) → Same (Goes (answered f (glyph_at bytes (word_argument f 1))) s) (Goes (answered f (glyph_at bytes (word_argument f 1))) t) = λ bytes. gives (glyph_at bytes (word_argument f 1)) in
        either s.used s₀ t₀ (number == 0) _ _ _ _ ending
        (either s.used s₀ t₀ (number == 1) _ _ _ _ refl
        (either s.used s₀ t₀ (number == 2) _ _ _ _ paused
        (either s.used s₀ t₀ (number == 3) _ _ _ _ waited
        (either s.used s₀ t₀ (number == 4) _ _ _ _ (either s.used s₀ t₀ (is_odd (word_argument f 0)) _ _ _ _ spawned (fault 4))
        (either s.used s₀ t₀ (number == 5) _ _ _ _ (either s.used s₀ t₀ (is_odd (word_argument f 2)) _ _ _ _ (listened (asked_listener f queues_if_busy)) (fault 4))
        (either s.used s₀ t₀ (number == 6) _ _ _ _ (told (Raises (asked_event f)))
        (either s.used s₀ t₀ (number == 7) _ _ _ _ (asked Time)
        (either s.used s₀ t₀ (number == 8) _ _ _ _ (asked Value)
        (either s.used s₀ t₀ (number == 9) _ _ _ _ (asked (Pressed (argument f 0)))
        (either s.used s₀ t₀ (number == 10) _ _ _ _ (either s.used s₀ t₀ (nat_lt (word_argument f 2) 3) _ _ _ _ (told (Plots (argument f 0) (argument f 1) (word_argument f 2))) (fault 8))
        (either s.used s₀ t₀ (number == 11) _ _ _ _ (told (Displays (word_argument f 0 % 2 ^ 25)))
        (either s.used s₀ t₀ (number == 12) _ _ _ _ (told (Writes (decimal_text (argument f 0))))
        (either s.used s₀ t₀ (number == 13) _ _ _ _ (text (λ bytes. tells (Writes bytes) f s) (λ bytes. tells (Writes bytes) f t) writes)
        (either s.used s₀ t₀ (number == 14) _ _ _ _ (told (Sets (argument f 0) (argument f 1)))
        (either s.used s₀ t₀ (number == 15) _ _ _ _ (told (Sends (argument f 0)))
        (either s.used s₀ t₀ (number == 16) _ _ _ _ (text (λ bytes. Goes (answered f (glyph_at bytes (word_argument f 1))) s) (λ bytes. Goes (answered f (glyph_at bytes (word_argument f 1))) t) shows)
        (either s.used s₀ t₀ (number == 17) _ _ _ _ (gives (glyph_at (decimal_text (argument f 0)) (word_argument f 1)))
        (either s.used s₀ t₀ (number == 18) _ _ _ _ grants
        (either s.used s₀ t₀ (number == 19) _ _ _ _ pushed
        (either s.used s₀ t₀ (number == 20) _ _ _ _ (gives (quotient (argument f 0) (argument f 1)))
        (either s.used s₀ t₀ (number == 21) _ _ _ _ (gives (remainder (argument f 0) (argument f 1)))
        (either s.used s₀ t₀ (number == 22) _ _ _ _ (either s.used s₀ t₀ (is_odd (word_argument f 2)) _ _ _ _ (listened (asked_listener f (argument f 3))) (fault 4))
        (either s.used s₀ t₀ (number == 23) _ _ _ _ (raising (asked_event f)) (fault 8))))))))))))))))))))))))

  -- A steady turn, over two lists of free words.
  held : (r : Registers) (b : Bank) (free : List ℕ) → Holds b r.sp → Good (fiber_of r (b, free))
  held r b free h = record { span = h.span; inside = λ e. h.inside }

  placed_twins : (s₀ t₀ : Shared) (used at : ℕ) (base : ℕ) (out : Steady) (x y : List ℕ) → HoldsAfter base out
      → Twins used s₀ t₀ (turn_of flash used at (stepped_at at (with_free x out))) (turn_of flash used at (stepped_at at (with_free y out)))
  placed_twins s₀ t₀ used at base (Went r b) x y h = going used s₀ t₀ (shared_in used (b, x)) y (fiber_of r (b, x)) (held r b x h.0) refl
  placed_twins s₀ t₀ used at base (Asked_for n r b) x y h = serviced s₀ t₀ at (fiber_of r (b, x)) (shared_in used (b, x)) y (held r b x h.0) n
  placed_twins s₀ t₀ used at base (Failed k) x y h = (refl, refl)

  module _ (s₀ t₀ : Shared) (f : Fiber) (s : Shared) (y : List ℕ) (g : Good f) where
    abbrev bank : Bank
    bank = (memory_of flash f s).0

    abbrev turn_at : Fetched → List ℕ → Turn Fiber Shared
    turn_at x free = turn_of flash s.used f.registers.pc (ran (over_moving bank_memory bank_move f.registers (bank, free)) f.registers x)

    found : IsInside f.registers.sp f.base → (x : Fetched) → goes_steady bank f.registers x ≡ true → Twins s.used s₀ t₀ (turn_at x s.free) (turn_at x y)
    found inside (Missed k a) st = (refl, refl)
    found inside (Found i next) st =
        let c = steady_comes bank f.registers (record { span = g.span; inside = inside }) next i st in
        let p = c.comes s.free in
        let q = c.comes y in
        let twins = placed_twins s₀ t₀ s.used f.registers.pc f.base c.out (c.left s.free) (c.left y) c.holds in
        rw (p, q) twins

    steady : (t : Bool) → is_base f.base ≡ t → goes_steady bank f.registers (fetched flash f.base f.registers.pc) ≡ true
        → Twins s.used s₀ t₀ (turn_at (fetched flash f.base f.registers.pc) s.free) (turn_at (fetched flash f.base f.registers.pc) y)
    steady true e st = found (g.inside e) (fetched flash f.base f.registers.pc) st
    steady false e st = rw e (refl, refl)

    watched_twins : (t : Bool) → goes_steady bank f.registers (fetched flash f.base f.registers.pc) ≡ t → Twins s.used s₀ t₀ (watched_turn flash f s) (watched_turn flash f (record s { free = y }))
    watched_twins true e = rw e (steady (is_base f.base) refl e)
    watched_twins false e = rw e (refl, refl)

  follow : (used : ℕ) (s t : Shared) (a b : Fiber) → FreeApart used s t → (a ≡ b) × Good a → Follows (watched flash) (watched flash) apart one 1 used s t a b t
  follow used s t a b sh act =
      subst (λ (c : Fiber). Follows (watched flash) (watched flash) apart one 1 used s t a c t) act.0
      (subst (λ n. Follows (watched flash) (watched flash) apart one 1 n s t a a t) sh.count
      (subst (λ (u : Shared). Follows (watched flash) (watched flash) apart one 1 s.used s u a a u) (sym sh.same)
      (record {
        steps = 0;
        cost = 0;
        last = a;
        memory = record s { free = sh.other };
        path = (refl, refl, refl);
        light = omega arith;
        match = watched_twins s (record s { free = sh.other }) a s sh.other act.1 (goes_steady (memory_of flash a s).0 a.registers (fetched flash a.base a.registers.pc)) refl;
        stands = λ m. tt;
      })))

  pub free_simulation : Simulation (watched flash) (watched flash) apart one (always 1)
  free_simulation = record {
    begins = λ used s t c d h e. (ap (begins flash) e, begun_good flash (base_of flash) c);
    follows = follow;
  }
