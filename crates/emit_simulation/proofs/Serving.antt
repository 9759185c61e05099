-- From silent instructions up to an SVC, and the turn of its service, to flat code's turn.
use Rattle.std.proofs.Common.{suc, ◌≡◌, ℕ, ◌+◌, ◌≤◌, Bool, true, false, nat_le, ◌==◌, List, refl, sym, ap, subst, arith}
use Rattle.thumb_code.specs.declared.register_file.Registers.{Registers}
use Rattle.board_world.specs.Limits.{arena_limit}
use Rattle.board_world.specs.Observations.{ByteList}
use Rattle.board_world.specs.Kinds.{Turn, Takes}
use Rattle.board_world.specs.Simulation.{AsMany, Matches, one}
use Rattle.board_world.specs.Trailing.{Comes, Completes}
use Rattle.bank_model.specs.Fibers.{Fiber, Shared}
use Rattle.bank_model.specs.BoardMachine.{fibers, fiber_of, shared_in}
use Rattle.bank_model.specs.Arrays.{behind_words}
use Rattle.bank_model.specs.AllServices.{service, word_argument, answered_word}
use Rattle.flat_ir.specs.declared.ops.FlatCode.{FlatCode}
use Rattle.sts_meaning.specs.Heaps.{FlatHeap}
use Rattle.register_assign.specs.declared.places.Placed.{Placed}
use Rattle.sts_implements.specs.Passes.{trailing_instructions}
use Rattle.flat_meaning.specs.Frames.{FlatActivity}
use Rattle.flat_meaning.specs.Steps.{flat}
use Rattle.thumb_emit.specs.InFlash.{Addresses}
use Rattle.emit_simulation.proofs.Laid.{Fm}
use Rattle.emit_simulation.specs.Ties.{IsTied, IsShared, ties}
use Rattle.emit_simulation.proofs.Turns.{Owed, Asking, going}

pub within : (n m : ℕ) → nat_le n m ≡ true → n ≤ m
within n m e = grind arith

as_many : (used n k : ℕ) → AsMany n k → used + k ≤ arena_limit → used + n ≤ arena_limit
as_many used n k e l = omega arith

pub past : (n m : ℕ) → nat_le n m ≡ false → n ≤ m → ⊥
past n m e l = grind arith

-- the service that takes words
pub takes_words : (flash : List ℕ) (at n : ℕ) (f : Fiber) (s : Shared) → word_argument f 0 ≡ suc n → service flash at 18 f s ≡ Takes (suc n)
    (λ used. (answered_word f (behind_words used), record s { used = used + suc n }))
takes_words flash at n f s e =
    let z : (word_argument f 0 == 0) ≡ false = grind arith in
    rw z (ap (λ k. Takes k (λ used. (answered_word f (behind_words used), record s { used = used + k }))) e)

module _ (C : FlatCode) (placed : List Placed) (flash : List ℕ) (a : Addresses) (texts : List ByteList) where
  -- a service's turn, completed and matched
  pub serves : (most bound used number : ℕ) (h : FlatHeap) (c : Fiber) (t : Shared) (q : Registers) (m : Fm) (turn : Turn FlatActivity FlatHeap)
      (below : Turn Fiber Shared) → most ≤ bound → (y : Asking flash most used number c t q m)
      → Completes (fibers flash) one trailing_instructions used (service flash y.at number (fiber_of q m) (shared_in used m)) below
      → Matches (flat C texts) (fibers flash) (ties C placed flash a) used h t turn below
      → Owed C placed flash a texts bound used h t turn c t
  serves most bound used number h c t q m turn below b y s k =
      let f = y.few in
      record {
        steps = y.steps;
        cost = y.steps;
        last = y.last;
        memory = y.memory;
        path = y.way;
        light = omega arith;
        below = below;
        completes = subst (λ v. Completes (fibers flash) one trailing_instructions used v below) (sym y.turn) s;
        match = k;
      }

  -- what is known behind a turn that goes on at once
  pub record Behind (used : ℕ) (x : FlatActivity × FlatHeap) (from : Fiber × Shared) : Type 0 where
    pub fiber : Fiber
    pub shared : Shared
    pub comes : Comes (fibers flash) one trailing_instructions from (fiber, shared)
    pub tied : IsTied C placed flash a x.0 fiber
    pub shows : IsShared C placed flash a used x.1 shared

  -- words of the arena are taken: what follows is owed only where they fit
  pub takes : (most bound used number n k : ℕ) (h : FlatHeap) (c : Fiber) (t : Shared) (q : Registers) (m : Fm) (next : ℕ → FlatActivity × FlatHeap) (low : ℕ
      → Fiber × Shared) → AsMany n k → most ≤ bound → (y : Asking flash most used number c t q m)
      → service flash y.at number (fiber_of q m) (shared_in used m) ≡ Takes k low → (used + n ≤ arena_limit → Behind (used + n) (next used) (low used))
      → Owed C placed flash a texts bound used h t (Takes n next) c t
  takes most bound used number n k h c t q m next low size b y e go = by (nat_le (used + n) arena_limit) refl
    where
      by : (z : Bool) → nat_le (used + n) arena_limit ≡ z → Owed C placed flash a texts bound used h t (Takes n next) c t
      by true z =
          let r = go (within (used + n) arena_limit z) in
          let g : ℕ → Fiber × Shared = λ _. (r.fiber, r.shared) in
          serves most bound used number h c t q m (Takes n next) (Takes k g) b y
          (subst (λ v. Completes (fibers flash) one trailing_instructions used v (Takes k g)) (sym e) (g, refl, λ _. r.comes))
          (size, λ _. going C placed flash a texts (used + n) h (next used).1 t r.shared (next used).0 r.fiber r.tied r.shows)
      by false z =
          serves most bound used number h c t q m (Takes n next) (Takes k low) b y
          (subst (λ v. Completes (fibers flash) one trailing_instructions used v (Takes k low)) (sym e)
          (low, refl, λ l. absurd (past (used + n) arena_limit z (as_many used n k size l)))) (size, λ l. absurd (past (used + n) arena_limit z l))
