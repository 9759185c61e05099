-- The running fiber blocks.
use Rattle.std.proofs.Common.{◌≡◌, ℕ, suc, ◌+◌, ◌<◌, Bool, true, false, max, nat_le, List, [], length, Option, Some, None, IfSome, OnSome, IsSome, is_some, Result, Ok, Err, IfOk, is_err, refl, sym, ap, ◌∙◌, subst, arith}
use Rattle.std.proofs.lemmas.Bool.Decides.{nat_tests}
use Rattle.slab.specs.Slab.{slab_len}
use Rattle.board_world.specs.Limits.{seat_limit}
use Rattle.board_world.specs.Board.{Board}
use Rattle.board_world.specs.Activities.{World}
use Rattle.board_world.specs.World.{acted}
use Rattle.bank_model.specs.Fibers.{Fiber, Shared}
use Rattle.bank_model.specs.BoardMachine.{fibers}
use Rattle.bank_model.specs.Standing.{IsInside, words_in}
use Rattle.fiber_runtime.specs.declared.turning.Turning.{Turning}
use Rattle.fiber_runtime.specs.declared.blocking.Why.{Why}
use Rattle.fiber_runtime.specs.declared.blocking.Why.TheVariants.{Pause, Wait}
use Rattle.fiber_runtime.specs.State.{State, running_key}
use Rattle.fiber_runtime.specs.Moves.{Blocked, Adopted}
use Rattle.board_run.specs.declared.engine.Engine.{Engine}
use Rattle.board_outside.specs.declared.output.Output.TheVariants.{Nothing}
use Rattle.board_run.specs.declared.engine.Served.TheVariants.{Goes}
use Rattle.board_run.specs.Represents.{BoardState, Represents, behind, state_of}
use Rattle.board_run.specs.Serving.{turned, IsServed, blocks_for, Rests, copied_behind}
use Rattle.thumb_switch.specs.Switching.{depth as fiber_depth}
use Rattle.board_run.proofs.FiberGoesOn.{current, asks_to, blocked, forked}
use Rattle.board_run.proofs.Acting.{Leaves}
use Rattle.board_outside.proofs.Laws.{meets_nothing}

pub some_is : (o : Option ℕ) → IsSome o → (k : ℕ) × (o ≡ Some k)
some_is (Some k) h = (k, refl)
some_is None h = absurd (cc)

module _ (e : Engine) (image : List ℕ) (t : Turning) (runs : e.runtime.running ≡ Some t) (w : World Fiber Shared) (h : Represents image (state_of e) w) where
  depth : ℕ
  depth = length (words_in e.runtime.machine.memory.stack e.runtime.machine.registers.sp e.runtime.machine.memory.base)

  -- where its world is shown, nothing was seen and no free word was used
  rested : (why : Why) (b' : BoardState) (c : Bool) → is_some t.key ≡ c → (c ≡ false → nat_le seat_limit w.board.seats ≡ false)
      → Represents image b' (acted (fibers image) (current (state_of e) t h.mark) (behind image (state_of e)) w (asks_to image (state_of e) w h t runs why w.shared))
      → Leaves image (state_of e) t runs w h b' [] (turned image (blocks_for why) (state_of e) t h.mark w)
  rested (Pause n) b' true s room x = (x, rw s refl, rw s refl, rw s (meets_nothing w.board _ refl refl))
  rested (Wait y) b' true s room x = (x, rw s refl, rw s refl, rw s (meets_nothing w.board _ refl refl))
  rested (Pause n) b' false s room x = (let r = room refl in (x, rw (s, r) refl, rw (s, r) refl, rw (s, r) (meets_nothing w.board _ refl refl)))
  rested (Wait y) b' false s room x = (let r = room refl in (x, rw (s, r) refl, rw (s, r) refl, rw (s, r) (meets_nothing w.board _ refl refl)))

pub on_some : {A : Type 0} (o : Option A) (P : Type 0) → is_some o ≡ true → OnSome o P → P
on_some (Some x) P e h = h
on_some None P e h = absurd (cc)

pub none_of : (o : Option ℕ) → is_some o ≡ false → o ≡ None
none_of None e = refl
none_of (Some x) e = absurd (cc)

module _ (e : Engine) (why : Why) (inside : IsInside e.runtime.machine.registers.sp e.runtime.machine.memory.base) where
  abbrev words : ℕ
  words = length (words_in e.runtime.machine.memory.stack e.runtime.machine.registers.sp e.runtime.machine.memory.base)

  pub keyed_serves : (e' : Engine) → ((key : ℕ) (t : Turning) → e.runtime.running ≡ Some t → t.key ≡ Some key → Rests key t why e e') → IfSome e.runtime.running (λ t. IsSome t.key)
      → IsServed (λ image. blocks_for why) (Goes Nothing) e e'
  keyed_serves e' rests keyed = λ image t runs w h.
      let k = some_is t.key (subst (λ o. IfSome o (λ t. IsSome t.key)) runs keyed) in
      let r = rests k.0 t runs k.1 in
      let x = blocked image (state_of e) w h t runs why k.0 e'.runtime w.shared k.1 inside r.blocked h.globals h.arena h.used in
      let V = acted (fibers image) (current (state_of e) t h.mark) (behind image (state_of e)) w (asks_to image (state_of e) w h t runs why w.shared) in
      let y = subst (λ n. Represents image (record (state_of e) { runtime = e'.runtime; plain = record (state_of e).plain { words = e.counts.words + words; seats = n } }) V) (sym r.blocked.live) x in
      rested e image t runs w h why (state_of e') true (ap is_some k.1) (λ z. absurd (cc)) (subst (λ (y : Engine). Represents image (state_of y) V) (sym r.rest) y)

  pub fork_serves : (mid : State) (e2 e3 : Engine) (key : ℕ) → ((t : Turning) → e.runtime.running ≡ Some t → Adopted key t e.runtime mid)
      → e2 ≡ record e { runtime = mid; counts = record e.counts { blocked = e.counts.blocked + 1; most = max e.counts.most (slab_len mid.pool) } }
      → ((key : ℕ) (t : Turning) → e2.runtime.running ≡ Some t → t.key ≡ Some key → Rests key t why e2 e3) → running_key e.runtime.running ≡ None
      → IsServed (λ image. blocks_for why) (Goes Nothing) e e3
  fork_serves mid e2 e3 key adopts is rests keyless = λ image t runs w h.
      let b = state_of e in
      let a = adopts t runs in
      let t' : Turning = record t { key = Some key } in
      let none : t.key ≡ None = ap running_key (sym runs) ∙ keyless in
      let runs2 : e2.runtime.running ≡ Some t' = ap (λ (y : Engine). y.runtime.running) is ∙ ap (λ (y : State). y.running) a.rest in
      let r = rests key t' runs2 refl in
      let m : Blocked key t' why e.clock mid e3.runtime = subst (λ (y : Engine). Blocked key t' why y.clock y.runtime e3.runtime) is r.blocked in
      let x = forked image b w h t runs why key mid e3.runtime w.shared none inside a m h.globals h.arena h.used in
      let V = acted (fibers image) (current b t h.mark) (behind image b) w (asks_to image b w h t runs why w.shared) in
      let P = λ (bl se ms d : ℕ). Represents image (record b { runtime = e3.runtime; plain = record b.plain { words = e.counts.words + d; blocked = bl; seats = se; most = max e.counts.most ms } }) V in
      let more : suc e.counts.blocked ≡ e.counts.blocked + 1 = omega arith in
      let taken : suc (slab_len e.runtime.pool) ≡ slab_len mid.pool = (let l = a.claims.live in omega (arith, l)) in
      let still : slab_len mid.pool ≡ slab_len e3.runtime.pool = sym m.live in
      let deep : words ≡ length (words_in mid.machine.memory.stack mid.machine.registers.sp mid.machine.memory.base) = ap (λ (y : State). length (words_in y.machine.memory.stack y.machine.registers.sp y.machine.memory.base)) (sym a.rest) in
      let y1 = subst (λ n. P n (suc (slab_len e.runtime.pool)) (suc (slab_len e.runtime.pool)) words) more x in
      let y2 = subst (λ n. P (e.counts.blocked + 1) n n words) taken y1 in
      let y3 = subst (λ n. P (e.counts.blocked + 1) n (slab_len mid.pool) words) still y2 in
      let y4 = subst (λ n. P (e.counts.blocked + 1) (slab_len e3.runtime.pool) (slab_len mid.pool) n) deep y3 in
      let all : e3 ≡ record e { runtime = e3.runtime; switch = e3.switch; counts = record e.counts { blocked = e.counts.blocked + 1; most = max e.counts.most (slab_len mid.pool); words = e.counts.words + length (words_in mid.machine.memory.stack mid.machine.registers.sp mid.machine.memory.base) } } =
      r.rest ∙ ap (λ (y : Engine). record y { runtime = e3.runtime; switch = e3.switch; counts = record y.counts { words = y.counts.words + length (words_in y.runtime.machine.memory.stack y.runtime.machine.registers.sp y.runtime.machine.memory.base) } }) is in
      let seats : w.board.seats ≡ slab_len e.runtime.pool = ap (λ (y : Board). y.seats) h.board in
      let room : nat_le seat_limit w.board.seats ≡ false = (let l : w.board.seats < 24 = omega (arith, seats, a.claims.room) in grind (arith, nat_tests, l)) in
      rested e image t runs w h why (state_of e3) false (ap is_some none) (λ z. room) (subst (λ (y : Engine). Represents image (state_of y) V) (sym all) y4)

-- the key that a fork gave
pub forked_key : {E : Type 0} (r : Result ℕ E) (P : ℕ → Type 0) → is_err r ≡ false → IfOk r P → (k : ℕ) × P k
forked_key (Ok k) P e h = (k, h)
forked_key (Err x) P e h = absurd (cc)

pub runner_of : (o : Option Turning) → IsSome o → (t : Turning) × (o ≡ Some t)
runner_of (Some t) h = (t, refl)
runner_of None h = absurd (cc)

-- a fork leaves the machine and the switch
pub forked_copied : (e e2 e3 : Engine) (mid : State) (key : ℕ) → IsSome e.runtime.running → ((t : Turning) → e.runtime.running ≡ Some t → Adopted key t e.runtime mid)
    → e2 ≡ record e { runtime = mid; counts = record e.counts { blocked = e.counts.blocked + 1; most = max e.counts.most (slab_len mid.pool) } } → e3.switch ≡ copied_behind (fiber_depth e2.runtime.machine) e2
    → e3.switch ≡ copied_behind (fiber_depth e.runtime.machine) e
forked_copied e e2 e3 mid key runs adopts is copied =
    let t = runner_of e.runtime.running runs in
    let a = adopts t.0 t.1 in
    copied ∙ (ap (λ (y : Engine). copied_behind (fiber_depth y.runtime.machine) y) is ∙ ap (λ (y : State). copied_behind (fiber_depth y.machine) e) a.rest)
