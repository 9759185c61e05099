-- The running fiber asks the board for something, takes words, or goes on: the board behind it shows the world behind the turn.
use Rattle.std.proofs.Common.{◌≡◌, ℕ, ◌+◌, ◌≤◌, ℤ, true, nat_le, List, [], ◌++◌, length, Some, refl, sym, ap, ◌∙◌, subst, arith}
use Rattle.std.proofs.lemmas.Bool.Decides.{nat_tests}
use Rattle.std.proofs.lemmas.List.{append-nil}
use Rattle.thumb_code.specs.Machine.{State as Machine}
use Rattle.board_world.specs.Limits.{arena_limit}
use Rattle.board_world.specs.Board.{Board}
use Rattle.board_world.specs.Kinds.{Question, Asks, Takes, Goes, answer}
use Rattle.board_world.specs.Activities.{World}
use Rattle.board_world.specs.World.{acted, goes_on}
use Rattle.bank_model.specs.Fibers.{Fiber, Shared}
use Rattle.bank_model.specs.BoardMachine.{fibers}
use Rattle.bank_model.specs.Standing.{fiber_on, shared_on}
use Rattle.fiber_runtime.specs.declared.turning.Turning.{Turning}
use Rattle.board_run.specs.Represents.{BoardState, Represents, behind}
use Rattle.board_outside.specs.Moves.{Move, seen_of, unplugged_of, Meets}
use Rattle.board_run.proofs.FiberGoesOn.{current, IsPlain, goes_still}
use Rattle.board_run.proofs.Course.{same_shared}

-- moves of which none unplugs
abbrev pub Unplugless : List Move → Type 0
Unplugless moves = (k : ℕ) → unplugged_of k moves ≡ []

module _ (image : List ℕ) (b : BoardState) (t : Turning) (runs : b.runtime.running ≡ Some t) (w : World Fiber Shared) (h : Represents image b w) where
  pub shared_is : w.shared ≡ shared_on b.plain.used b.runtime.machine.memory w.shared.free
  shared_is = same_shared _ _ _ _ _ _ _ _ h.globals h.arena refl h.used

  -- the board's part, with these observations more
  abbrev pub grown : Board → List Move → Board
  grown plain moves = record plain { seen = w.board.seen ++ seen_of moves; unplugged = w.board.unplugged }

  abbrev pub machine_with : List ℕ → List ℕ → Machine
  machine_with rs arena = record { registers = record b.runtime.machine.registers { r = rs }; memory = record b.runtime.machine.memory { arena = arena } }

  abbrev pub board_with : List ℕ → List ℕ → Board → BoardState
  board_with rs arena plain = record b { runtime = record b.runtime { machine = machine_with rs arena }; bus = record b.bus { queue = plain.queue }; plain = plain }

  -- what the turn leaves, and what was met
  abbrev pub Leaves : BoardState → List Move → World Fiber Shared → Type 0
  Leaves b' moves v = Represents image b' v × (v.board.end ≡ w.board.end) × (v.shared.free ≡ w.shared.free) × Meets moves w.board v.board

  leaves_at : (rs arena : List ℕ) (plain : Board) (moves : List Move) (next : Fiber × Shared) (board : Board) → Unplugless moves → plain.seats ≡ b.plain.seats → plain.end ≡ b.plain.end
      → board ≡ grown plain moves → next ≡ (fiber_on (machine_with rs arena), shared_on plain.used (machine_with rs arena).memory w.shared.free)
      → Leaves (board_with rs arena plain) moves (goes_on (current b t h.mark) (behind image b) next board w)
  leaves_at rs arena plain moves next board none seats end e n =
      let m = machine_with rs arena in
      let p : IsPlain (grown plain moves) plain = refl in
      let ends : b.plain.end ≡ w.board.end = sym (ap (λ (x : Board). x.end) h.board) in
      subst (λ x. Leaves (board_with rs arena plain) moves (goes_on (current b t h.mark) (behind image b) x board w)) (sym n)
      (subst (λ x. Leaves (board_with rs arena plain) moves (goes_on (current b t h.mark) (behind image b) (fiber_on m, shared_on plain.used m.memory w.shared.free) x w)) (sym e) (
        goes_still image b w h t runs rs arena w.shared.free (grown plain moves) plain p seats,
        end ∙ ends,
        refl,
        record { seen = refl; unplugged = sym (ap (λ l. w.board.unplugged ++ l) (none (length w.board.seen)) ∙ append-nil w.board.unplugged) },
      ))

  pub goes_leaves : (rs arena : List ℕ) (self : Fiber) (shared : Shared) → ◌≡◌ {A = Fiber × Shared} (self, shared) (fiber_on (machine_with rs arena), shared_on b.plain.used (machine_with rs arena).memory w.shared.free)
      → Leaves (board_with rs arena b.plain) [] (acted (fibers image) (current b t h.mark) (behind image b) w (Goes self shared))
  goes_leaves rs arena self shared n =
      leaves_at rs arena b.plain [] (self, shared) w.board (λ k. refl) refl refl (h.board ∙ ap (λ l. record b.plain { seen = l; unplugged = w.board.unplugged }) (sym (append-nil w.board.seen))) n

  pub asks_leaves : (rs arena : List ℕ) (plain : Board) (moves : List Move) (q : Question) (next : ℤ → Fiber × Shared) (a : ℤ) → Unplugless moves → plain.seats ≡ b.plain.seats → plain.end ≡ b.plain.end
      → answer q t.value (record b.plain { seen = w.board.seen; unplugged = w.board.unplugged }) ≡ (grown plain moves, a)
      → next a ≡ (fiber_on (machine_with rs arena), shared_on plain.used (machine_with rs arena).memory w.shared.free)
      → Leaves (board_with rs arena plain) moves (acted (fibers image) (current b t h.mark) (behind image b) w (Asks q next))
  asks_leaves rs arena plain moves q next a none seats end e n =
      let r = ap (answer q t.value) h.board ∙ e in
      leaves_at rs arena plain moves (next (answer q t.value w.board).1) (answer q t.value w.board).0 none seats end (ap (λ x. x.0) r) (ap (λ x. next x.1) r ∙ n)

  pub takes_leaves : (rs arena : List ℕ) (n : ℕ) (next : ℕ → Fiber × Shared) → b.plain.used + n ≤ arena_limit
      → next b.plain.used ≡ (fiber_on (machine_with rs arena), shared_on (b.plain.used + n) (machine_with rs arena).memory w.shared.free)
      → Leaves (board_with rs arena (record b.plain { used = b.plain.used + n })) [] (acted (fibers image) (current b t h.mark) (behind image b) w (Takes n next))
  takes_leaves rs arena n next l e =
      let plain : Board = record b.plain { used = b.plain.used + n } in
      let used : w.board.used ≡ b.plain.used = ap (λ (x : Board). x.used) h.board in
      let fits : nat_le (w.board.used + n) arena_limit ≡ true = grind (arith, nat_tests, used, l) in
      let board : record w.board { used = w.board.used + n } ≡ grown plain [] = ap (λ (x : Board). record x { used = x.used + n }) h.board ∙ ap (λ l. record plain { seen = l; unplugged = w.board.unplugged }) (sym (append-nil w.board.seen)) in
      rw fits (leaves_at rs arena plain [] (next w.board.used) (record w.board { used = w.board.used + n }) (λ k. refl) refl refl board (ap next used ∙ e))
