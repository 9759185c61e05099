-- What one RAM shows of a bank, and a fiber that stands on its stack region.
use Rattle.std.specs.Prelude.{◌≡◌, ℕ, zero, suc, ◌+◌, ◌*◌, ◌-◌, ◌/◌, ◌%◌, ◌<◌, ◌≤◌, true, List, ◌++◌, length, take, drop, slice_index}
use Rattle.thumb_code.specs.declared.register_file.Registers.{Registers}
use Rattle.thumb_code.specs.Map.{stack_at, ram_end, place, is_base}
use Rattle.thumb_code.specs.Step.{Stepped, On, Served, Faulted, fetched}
use Rattle.thumb_code.specs.Run.{Ran, Still, runs, from_step, over_moving}
use Rattle.thumb_code.specs.Machine.{State, step, Ram}
use Rattle.board_world.specs.Kinds.{Turn, Goes, Faults}
use Rattle.bank_model.specs.Bank.{Bank, bank_sp, bank_memory, bank_move}
use Rattle.bank_model.specs.Fibers.{Fiber, Shared}
use Rattle.bank_model.specs.AllServices.{service}
use Rattle.bank_model.specs.BoardMachine.{fiber_turn}

-- The words ys are those of xs from a place on.
pub record IsPart (xs : List ℕ) (from : ℕ) (ys : List ℕ) : Type 0 where
  pub within : from + length ys ≤ length xs
  pub same : (k : ℕ) → k < length ys → slice_index ys k ≡ slice_index xs (from + k)

-- Flash, globals, arena and base are the same, and the bank is the words of the stack region from SP up to the base. The rest of
-- the stack region may hold anything.
pub record Shows (sp : ℕ) (m : Ram) (b : Bank) : Type 0 where
  pub flash : b.flash ≡ m.flash
  pub globals : b.globals ≡ m.globals
  pub arena : b.arena ≡ m.arena
  pub base : b.base ≡ m.base
  pub aligned : m.base % 4 ≡ 0
  pub low : stack_at + 4 * length b.words ≤ m.base
  pub high : m.base ≤ ram_end
  pub size : length m.stack ≡ 1024
  pub sp_is : bank_sp b ≡ sp
  pub words : IsPart m.stack (place stack_at (bank_sp b)) b.words

-- The image is in flash, the base is the same, and the RAM shows the bank where the base is one; where it isn't, every step is that
-- fault.
pub record AgreesWithBank (image : List ℕ) (sp : ℕ) (m : Ram) (b : Bank) : Type 0 where
  pub flash : m.flash ≡ image
  pub bank_flash : b.flash ≡ image
  pub base : b.base ≡ m.base
  pub shows : is_base m.base ≡ true → Shows sp m b

-- So many steps of the machine with one RAM, up to a request or a fault.
abbrev pub ram_steps : ℕ → State → Ran Ram
ram_steps zero s = Still s.registers s.memory
ram_steps (suc n) s = from_step (λ r t. ram_steps n (record { registers = r; memory = t })) n (step s)

-- So many steps of a fiber over its bank.
abbrev pub bank_steps : ℕ → Registers → Bank × List ℕ → Ran (Bank × List ℕ)
bank_steps n r m = runs (over_moving bank_memory bank_move) (fetched m.0.flash m.0.base) n r m

-- The second's step is the first's, and leaves the rest of the free words.
abbrev pub FollowsStep : {S U : Type 0} → (ℕ → S → U → Type 0) → Stepped S → (List ℕ → Stepped (U × List ℕ)) → Type 0
FollowsStep R (On r s) f = (u : _) × R r.sp s u × ((rest : List ℕ) → f rest ≡ On r (u, rest))
FollowsStep R (Served n r s) f = (u : _) × R r.sp s u × ((rest : List ℕ) → f rest ≡ Served n r (u, rest))
FollowsStep R (Faulted k at) f = (rest : List ℕ) → f rest ≡ Faulted k at

-- The words of the stack region from one address up to another.
abbrev pub words_in : List ℕ → ℕ → ℕ → List ℕ
words_in stack sp base = take ((base - sp) / 4) (drop (place stack_at sp) stack)

-- Two stack regions are the same from an address on.
abbrev pub SameFrom : ℕ → List ℕ → List ℕ → Type 0
SameFrom at old new = drop (place stack_at at) new ≡ drop (place stack_at at) old

-- SP and base are multiples of 4 in the stack region, and SP isn't above the base.
pub record IsInside (sp base : ℕ) : Type 0 where
  pub sp_aligned : sp % 4 ≡ 0
  pub aligned : base % 4 ≡ 0
  pub low : stack_at ≤ sp
  pub within : sp ≤ base
  pub high : base ≤ ram_end

-- The fiber that runs on the machine, and what all share, where so many words of the arena are used.
abbrev pub fiber_on : State → Fiber
fiber_on s = record {
  registers = s.registers;
  base = s.memory.base;
  bank = words_in s.memory.stack s.registers.sp s.memory.base;
}

abbrev pub shared_on : ℕ → Ram → List ℕ → Shared
shared_on used m free = record { globals = m.globals; arena = m.arena; used = used; free = free }

-- A fiber's words reach from SP to the base. Only one without words may stand on a bad base: each of its steps is that fault.
pub record Spans (sp : ℕ) (words : List ℕ) (base : ℕ) : Type 0 where
  pub span : sp + 4 * length words ≡ base
  pub inside : 0 < length words → IsInside sp base

-- So do the words of the fiber that runs on the machine.
pub record Stands (s : State) : Type 0 where
  pub spans : Spans s.registers.sp (words_in s.memory.stack s.registers.sp s.memory.base) s.memory.base
  pub size : length s.memory.stack ≡ 1024

-- The turn that the fiber made by a step of the machine, where these free words are left.
abbrev pub turn_from : List ℕ → ℕ → ℕ → Stepped Ram → List ℕ → Turn Fiber Shared
turn_from image used at (On r t) rest = Goes (fiber_on (record { registers = r; memory = t })) (shared_on used t rest)
turn_from image used at (Served number r t) rest =
    service image at number (fiber_on (record { registers = r; memory = t })) (shared_on used t rest)
turn_from image used at (Faulted kind address) rest = Faults kind address

-- Flash and the base stay, and so does the stack region from the base on.
pub record KeepsAbove (m t : Ram) : Type 0 where
  pub flash : t.flash ≡ m.flash
  pub base : t.base ≡ m.base
  pub size : length t.stack ≡ length m.stack
  pub above : SameFrom m.base m.stack t.stack

-- What a step leaves, unless it is a fault, which leaves all.
abbrev pub StepKeepsAbove : Ram → Stepped Ram → Type 0
StepKeepsAbove m (On r t) = KeepsAbove m t × (is_base m.base ≡ true)
StepKeepsAbove m (Served n r t) = KeepsAbove m t × (is_base m.base ≡ true)
StepKeepsAbove m (Faulted k at) = Unit {0}

-- The fiber stands inside behind a step that isn't a fault.
abbrev pub StandsAfter : Stepped Ram → Type 0
StandsAfter (On r t) = IsInside r.sp t.base
StandsAfter (Served n r t) = IsInside r.sp t.base
StandsAfter (Faulted k at) = Unit {0}

-- A step of the machine is the fiber's turn: with some free words, which the step alone determines, and whatever is left behind them.
pub record IsItsTurn (image : List ℕ) (used : ℕ) (s : State) : Type 0 where
  pub taken : List ℕ
  pub turn : (rest : List ℕ) → fiber_turn image (fiber_on s) (shared_on used s.memory (taken ++ rest))
      ≡ turn_from image used s.registers.pc (step s) rest
  pub after : StandsAfter (step s)
