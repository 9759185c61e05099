-- Where the machine that is watched doesn't stop by itself, it is the bank machine; and its board is the same for each list of free words.
use Rattle.std.proofs.Common.{◌≡◌, ℕ, zero, suc, ◌+◌, ◌-◌, ◌*◌, ◌<◌, ◌≤◌, Bool, true, false, is_some, Option, Some, None, List, [], ◌∷◌, refl, sym, ap, ◌∙◌, subst, arith, if◌then◌else◌}
use Rattle.thumb_code.specs.Machine.{main_of}
use Rattle.thumb_code.specs.Step.{fetched}
use Rattle.board_world.specs.declared.events.Event.{Event}
use Rattle.board_world.specs.Observations.{End, Faulted}
use Rattle.board_world.specs.Board.{Board, Entry, over}
use Rattle.board_world.specs.Kinds.{Turn, Goes, Asks, Takes, Pauses, Waits, Spawns, Listens, RaisesNow, Ends, Panics, Faults}
use Rattle.board_world.specs.Activities.{Activity, World}
use Rattle.board_world.specs.World.{acted, moved, idle_while, idle_bound, idled, stepped, tick, start}
use Rattle.board_world.specs.Runs.{run}
use Rattle.board_world.proofs.Laws.{over_stays, run_over, run_sum, starts, lifts}
use Rattle.board_world.specs.Simulation.{one, always}
use Rattle.bank_model.specs.Fibers.{Fiber, Shared, shared_at_reset}
use Rattle.bank_model.specs.BoardMachine.{memory_of, fiber_turn, fibers, bank_run}
use Rattle.bank_model.specs.Runs.{goes_steady, unsteady, watched_turn, watched, watched_run}
use Rattle.bank_model.proofs.FreeWords.{apart, free_simulation}

-- The board is the same whatever the free words are.
module _ (image : List ℕ) (until : ℕ) (script : List Entry) (x y : List ℕ) where
  abbrev begun : List ℕ → World Fiber Shared
  begun free = start (watched image) (main_of image) (shared_at_reset free) until script

  by_end : (n k : ℕ) → k ≤ n → (run (watched image) k (begun x)).board ≡ (run (watched image) n (begun y)).board → (over (run (watched image) n (begun y)).board ≡ false → n < 1 * (k + 1))
      → (t : Bool) → over (run (watched image) n (begun y)).board ≡ t → (run (watched image) n (begun x)).board ≡ (run (watched image) n (begun y)).board
  by_end n k less e more false o =
      let m = more o in
      let same : k ≡ n = omega arith in
      subst (λ j. (run (watched image) j (begun x)).board ≡ (run (watched image) n (begun y)).board) same e
  by_end n k less e more true o =
      let ended : over (run (watched image) k (begun x)).board ≡ true = ap over e ∙ o in
      let sum : (n - k) + k ≡ n = omega arith in
      ap (λ j. (run (watched image) j (begun x)).board) (sym sum) ∙ ap (λ (u : World Fiber Shared). u.board) (run_sum (watched image) k (n - k) (begun x) ∙ run_over (watched image) (n - k) (run (watched image) k (begun x)) ended) ∙ e

  same_board : (n : ℕ) → (watched_run image until script x n).board ≡ (watched_run image until script y n).board
  same_board n =
      let alike = starts (watched image) (watched image) apart one (always 1) (free_simulation image) (main_of image) (main_of image) (shared_at_reset x) (shared_at_reset y) until script refl (record { other = y; same = refl; count = refl }) in
      let l = lifts (watched image) (watched image) 1 (omega arith) apart (free_simulation image) (begun x) (begun y) alike n in
      by_end n l.0 l.1 l.2 l.3 (over (run (watched image) n (begun y)).board) refl

module _ (flash : List ℕ) where
  acted_same : (a : Activity Fiber) (others : List (Activity Fiber)) (w : World Fiber Shared) (turn : Turn Fiber Shared) → acted (watched flash) a others w turn ≡ acted (fibers flash) a others w turn
  acted_same a others w (Goes f s) = refl
  acted_same a others w (Asks q next) = refl
  acted_same a others w (Takes n next) = refl
  acted_same a others w (Pauses t f s) = refl
  acted_same a others w (Waits e f s) = refl
  acted_same a others w (Spawns g f s) = refl
  acted_same a others w (Listens l f s) = refl
  acted_same a others w (RaisesNow e above f s) = refl
  acted_same a others w (Ends again s) = refl
  acted_same a others w (Panics code) = refl
  acted_same a others w (Faults kind address) = refl

  moved_same : (queue : List Event) (w : World Fiber Shared) → moved (watched flash) queue w ≡ moved (fibers flash) queue w
  moved_same (e ∷ rest) w = refl
  moved_same [] w = refl

  idle_same : (n : ℕ) (ready : List (Activity Fiber)) (w : World Fiber Shared) → idle_while (watched flash) n ready w ≡ idle_while (fibers flash) n ready w
  idle_same zero ready w = refl
  idle_same (suc n) (a ∷ rest) w = refl
  idle_same (suc n) [] w =
      ap (λ v. if over w.board then w else v)
      (idle_same n (moved (watched flash) w.board.queue w).ready (moved (watched flash) w.board.queue w) ∙ ap (λ (v : World Fiber Shared). idle_while (fibers flash) n v.ready v) (moved_same w.board.queue w))

  -- A step of a world that goes on is the same, or the run stops as it is watched.
  stepped_same : (ready : List (Activity Fiber)) (w : World Fiber Shared) → ((at : ℕ) → ¬ ((stepped (watched flash) ready w).board.end ≡ Some (Faulted unsteady at))) → stepped (watched flash) ready w ≡ stepped (fibers flash) ready w
  stepped_same [] w calm = refl
  stepped_same (a ∷ rest) w calm = by_guard (goes_steady (memory_of flash a.self w.shared).0 a.self.registers (fetched flash a.self.base a.self.registers.pc)) refl
    where
      by_guard : (t : Bool) → goes_steady (memory_of flash a.self w.shared).0 a.self.registers (fetched flash a.self.base a.self.registers.pc) ≡ t → stepped (watched flash) (a ∷ rest) w ≡ stepped (fibers flash) (a ∷ rest) w
      by_guard true e =
          (let turn : watched_turn flash a.self w.shared ≡ fiber_turn flash a.self w.shared = rw e refl in
          let act = ap (acted (watched flash) a rest w) turn ∙ acted_same a rest w (fiber_turn flash a.self w.shared) in
          ap (λ v. idled (watched flash) v) act
          ∙ idle_same (idle_bound (acted (fibers flash) a rest w (fiber_turn flash a.self w.shared)).board) (acted (fibers flash) a rest w (fiber_turn flash a.self w.shared)).ready (acted (fibers flash) a rest w (fiber_turn flash a.self w.shared)))
      by_guard false e =
          (let pc = a.self.registers.pc in
          let turn : watched_turn flash a.self w.shared ≡ Faults unsteady pc = rw e refl in
          let v = acted (watched flash) a rest w (Faults unsteady pc) in
          let stays = over_stays (watched flash) (idle_bound v.board) v.ready v refl in
          absurd (calm pc (ap (λ u. (idled (watched flash) (acted (watched flash) a rest w u)).board.end) turn ∙ ap (λ u. u.board.end) stays)))

not_some : (o : Option End) → is_some o ≡ false → (e : End) → ¬ (o ≡ Some e)
not_some None h e q = cc
not_some (Some d) h e q = cc

module _ (image : List ℕ) (until : ℕ) (script : List Entry) (free : List ℕ) where
  abbrev Calm : ℕ → Type 0
  Calm n = (at : ℕ) → ¬ ((watched_run image until script free n).board.end ≡ Some (Faulted unsteady at))

  one_more : (n : ℕ) (w v : World Fiber Shared) → ((at : ℕ) → ¬ ((tick (watched image) w).board.end ≡ Some (Faulted unsteady at))) → (((at : ℕ) → ¬ (w.board.end ≡ Some (Faulted unsteady at))) → w ≡ v)
      → (t : Bool) → over w.board ≡ t → tick (watched image) w ≡ tick (fibers image) v
  one_more n w v calm before true o =
      let here : tick (watched image) w ≡ w = rw o refl in
      let there : tick (fibers image) w ≡ w = rw o refl in
      here ∙ sym there ∙ ap (tick (fibers image)) (before (λ at e. calm at (ap (λ (u : World Fiber Shared). u.board.end) here ∙ e)))
  one_more n w v calm before false o =
      let here : tick (watched image) w ≡ stepped (watched image) w.ready w = rw o refl in
      let there : tick (fibers image) w ≡ stepped (fibers image) w.ready w = rw o refl in
      let step = stepped_same image w.ready w (λ at e. calm at (ap (λ (u : World Fiber Shared). u.board.end) here ∙ e)) in
      here ∙ step ∙ sym there ∙ ap (tick (fibers image)) (before (λ at e. not_some w.board.end o (Faulted unsteady at) e))

  -- The machine that is watched is the bank machine, up to where it stops.
  same_run : (n : ℕ) → Calm n → watched_run image until script free n ≡ bank_run image until script free n
  same_run zero calm = refl
  same_run (suc n) calm =
      one_more n (watched_run image until script free n) (bank_run image until script free n) calm (λ before. same_run n before) (over (watched_run image until script free n).board) refl

pub free_words_dont_matter : (image : List ℕ) (until : ℕ) (script : List Entry) (x y : List ℕ) (n : ℕ) → ((at : ℕ) → ¬ ((watched_run image until script x n).board.end ≡ Some (Faulted unsteady at)))
    → (bank_run image until script y n).board ≡ (bank_run image until script x n).board
free_words_dont_matter image until script x y n calm =
    let same = same_board image until script x y n in
    let a = same_run image until script x n calm in
    let b = same_run image until script y n (λ at e. calm at (ap (λ (c : Board). c.end) same ∙ e)) in
    ap (λ u. u.board) (sym b) ∙ sym same ∙ ap (λ u. u.board) a
