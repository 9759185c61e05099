-- The frames of an activity in a bank, with what stands in registers.
use Rattle.std.specs.Prelude.{◌≡◌, ◌≢◌, ℕ, ◌+◌, ◌-◌, ◌<◌, ◌≤◌, ◌^◌, List, [], ◌∷◌, length, Option, Some, None, nat_lt, if◌then◌else◌, slice_get, slice_index}
use Rattle.flat_ir.specs.declared.ops.Function.{Function}
use Rattle.flat_ir.specs.declared.ops.Op.{Op}
use Rattle.flat_ir.specs.Ops.{writes}
use Rattle.flat_ir.specs.WellFormed.{temporaries}
use Rattle.flat_ir.specs.Liveness.{IsLiveAt}
use Rattle.register_assign.specs.declared.places.Place.{Place}
use Rattle.register_assign.specs.Saving.{saves}
use Rattle.placed_frames.specs.Places.{Store, own, words, value}

-- a frame of flat code, over whatever values
pub record Frame (V : Type 0) : Type 0 where
  pub function : ℕ
  pub place : ℕ
  pub temps : ℕ → V

-- A register as the caller of a function has it, r4 for i = 0: where the function saves it, its frame at k keeps it, and else the register still does.
abbrev pub saved_word : ℕ → Function → List ℕ → List ℕ → ℕ → ℕ → ℕ
saved_word n f kept ws k i = if nat_lt i n then slice_index ws (k + (own f + (4 - n)) + i) else slice_index kept i

-- r4 to r7 as the caller of a function has them
abbrev pub saved : Function → (ℕ → Place) → List ℕ → List ℕ → ℕ → List ℕ
saved f place kept ws k =
    saved_word (saves f place) f kept ws k 0 ∷ saved_word (saves f place) f kept ws k 1
    ∷ saved_word (saves f place) f kept ws k 2 ∷ saved_word (saves f place) f kept ws k 3 ∷ []

abbrev pub saved_at : Option Function → (ℕ → Place) → List ℕ → List ℕ → ℕ → List ℕ
saved_at None place kept ws k = []
saved_at (Some f) place kept ws k = saved f place kept ws k

abbrev pub words_at : Option Function → ℕ
words_at None = 0
words_at (Some f) = words f

abbrev pub outgoing_at : Option Function → ℕ
outgoing_at None = 0
outgoing_at (Some f) = f.outgoing

abbrev pub writes_at : Option Op → Option ℕ
writes_at None = None
writes_at (Some o) = writes o

-- what a frame that waits for its call needs: what is live behind the call but for its result
abbrev pub Waits : Function → ℕ → ℕ → Type 0
Waits f place t = (writes_at (slice_get f.ops place) ≢ Some t) × IsLiveAt f.ops t (place + 1)

-- registers hold words
abbrev pub AreWords : List ℕ → Type 0
AreWords kept = (i : ℕ) → slice_index kept i < 2 ^ 32

-- the words for arguments that the first of some waiting frames has
abbrev pub outgoing_of : {V : Type 0} → List Function → List (Frame V) → ℕ
outgoing_of code [] = 0
outgoing_of code (f ∷ fs) = outgoing_at (slice_get code f.function)

-- Is v w: the word w, in a register or in memory, stands for the value v. return_to: the return address to a frame that waits.
module _ {V : Type 0} (Is : V → ℕ → Type 0) (code : List Function)
    (places : ℕ → ℕ → Place) (return_to : List (Frame V) → ℕ) (ws : List ℕ) where
  -- the frame of fn whose words begin at k, with r4 to r7 as it has them, holds what it needs
  pub record HasFrame (fn : Function) (place : ℕ → Place) (need : ℕ → Type 0) (temps : ℕ → V) (fs : List (Frame V))
      (kept : List ℕ) (k : ℕ) : Type 0 where
    pub temporary : (t : ℕ) → t < temporaries fn → need t → Is (temps t) (value fn kept ws k (place t))
    pub link : slice_index ws (k + own fn + 4) ≡ return_to fs
    pub params : fn.params ≤ outgoing_of code fs
    pub small : AreWords kept

  abbrev pub HasWaiting : Option Function → Frame V → List (Frame V) → List ℕ → ℕ → Type 0
  HasWaiting None f fs kept k = ⊥
  HasWaiting (Some fn) f fs kept k = HasFrame fn (places f.function) (Waits fn f.place) f.temps fs kept k

  -- the waiting frames from word k on, where kept is r4 to r7 as the first of them has them; they fill the bank
  abbrev pub HasFrames : List (Frame V) → List ℕ → ℕ → Type 0
  HasFrames [] kept k = (k ≡ length ws) × AreWords kept
  HasFrames (f ∷ fs) kept k =
      HasWaiting (slice_get code f.function) f fs kept k
      × HasFrames fs (saved_at (slice_get code f.function) (places f.function) kept ws k)
      (k + words_at (slice_get code f.function))

-- the running function and the frames above it
pub record Running {V : Type 0} (Is : V → ℕ → Type 0) (code : List Function) (places : ℕ → ℕ → Place)
    (return_to : List (Frame V) → ℕ) (fn : Function)
    (place : ℕ → Place) (need : ℕ → Type 0) (temps : ℕ → V) (fs : List (Frame V)) (s : Store) : Type 0 where
  pub four : length s.kept ≡ 4
  pub frame : HasFrame Is code places return_to s.words fn place need temps fs s.kept 0
  pub above : HasFrames Is code places return_to s.words fs (saved fn place s.kept s.words 0) (words fn)
