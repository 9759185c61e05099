-- How the machine's answers, and the state behind a call, show what the definitions say: of an instruction over any memory, of
-- what is kept of an image beside its bytes, and of a step.
use Rattle.std.specs.Prelude.{◌≡◌, ◌+◌, ◌%◌, ◌⊎◌, ℕ, List, [], ◌∷◌, Bool, true, Option, Some, None, Result, Ok, Err}
use Rattle.thumb_code.specs.declared.register_file.Registers.{Registers}
use Rattle.thumb_code.specs.declared.instructions.Instr.{Instr}
use Rattle.thumb_code.specs.Table.{Fits, half, is_two}
use Rattle.thumb_code.specs.Forms.{Effect}
use Rattle.thumb_code.specs.Memory.{Memory, Executed, Done, Asked, Stopped, execute, load_all}
use Rattle.thumb_code.specs.Map.{ram_end, sp_in_range}
use Rattle.thumb_code.specs.Step.{Stepped, On, Served, Faulted, Fetched, Found, Missed, behind, fetched}
use Rattle.thumb_code.specs.Machine.{State, Ram}
use Rattle.armv6m_machine.specs.Answers.{number_of}
use Rattle.armv6m_machine.specs.declared.faults.Fault.{Fault as FaultKind}
use Rattle.armv6m_machine.specs.declared.faults.Turn.{Turn}
use Rattle.armv6m_machine.specs.declared.faults.Turn.TheVariants.{Went, Service, Fault}

-- The memory has at most been read by these loads.
abbrev pub HasRead : {S : Type 0} → Memory S → S → Effect → S → Type 0
HasRead m t e mem = (mem ≡ t) ⊎ (mem ≡ (load_all m t e.loads).1)

-- The answer, the registers behind it and the memory behind it, where a fault leaves the registers, and of the memory what is said last.
abbrev pub AnswersTurn : {S : Type 0} → Executed S → Turn → Registers → Registers → S → Type 0 → Type 0
AnswersTurn (Done r t) turn old new mem Left = (turn ≡ Went) × (new ≡ r) × (mem ≡ t)
AnswersTurn (Asked n r t) turn old new mem Left = (turn ≡ Service n) × (new ≡ r) × (mem ≡ t)
AnswersTurn (Stopped k) (Fault f at) old new mem Left = (number_of f ≡ k) × (at ≡ old.pc) × (new ≡ old) × Left
AnswersTurn (Stopped k) Went old new mem Left = ⊥
AnswersTurn (Stopped k) (Service n) old new mem Left = ⊥

-- The effect is executed over the memory. A fault leaves all as it was, but that the memory may have been read.
abbrev pub Does : {S : Type 0} → Memory S → S → Effect → Turn → Registers → Registers → S → Type 0
Does m t e turn old new mem = AnswersTurn (execute m t e) turn old new mem (HasRead m t e mem)

-- The answer, and the machine behind the step. A fault leaves it as it was.
abbrev pub IsStep : Stepped Ram → Turn → State → State → Type 0
IsStep (On r t) turn old new = (turn ≡ Went) × (new ≡ record { registers = r; memory = t })
IsStep (Served n r t) turn old new = (turn ≡ Service n) × (new ≡ record { registers = r; memory = t })
IsStep (Faulted k at) (Fault f a) old new = (number_of f ≡ k) × (a ≡ at) × (new ≡ old)
IsStep (Faulted k at) Went old new = ⊥
IsStep (Faulted k at) (Service n) old new = ⊥

-- The answer is a fault.
abbrev pub IsFault : Turn → Type 0
IsFault Went = ⊥
IsFault (Service n) = ⊥
IsFault (Fault f at) = Unit {0}

-- What was fetched at an address: an instruction, and whether it is two halfwords; or a fault and its address.
abbrev pub IsFetch : Result (Instr × Bool) (FaultKind × ℕ) → ℕ → Fetched → Type 0
IsFetch (Ok x) pc f = f ≡ Found x.0 (behind pc x.1)
IsFetch (Err e) pc f = f ≡ Missed (number_of e.0) e.1

-- The instruction is in its row's range, and this says whether it is two halfwords.
abbrev pub IsInstruction : Instr × Bool → Type 0
IsInstruction x = Fits x.0 × (x.1 ≡ is_two (half x.0))

-- Where an instruction is told of an address, it is what is fetched there, as over the highest base there may be. None tells nothing.
abbrev pub IsSlot : List ℕ → ℕ → Option (Instr × Bool) → Type 0
IsSlot flash at None = Unit {0}
IsSlot flash at (Some x) = IsFetch (Ok x) at (fetched flash ram_end at) × IsInstruction x

-- These tell of the addresses from one on, two bytes apart.
abbrev pub AreSlots : List ℕ → ℕ → List (Option (Instr × Bool)) → Type 0
AreSlots flash at [] = Unit {0}
AreSlots flash at (slot ∷ slots) = IsSlot flash at slot × AreSlots flash (at + 2) slots

-- What holds of the registers and the memory behind a step that isn't a fault.
abbrev pub OnGoing : Stepped Ram → (Registers → Ram → Type 0) → Type 0
OnGoing (On r t) P = P r t
OnGoing (Served n r t) P = P r t
OnGoing (Faulted k at) P = Unit {0}

-- SP is in range and a multiple of 4.
abbrev pub IsStackPointer : Registers → Ram → Type 0
IsStackPointer r t = (sp_in_range t.base r.sp ≡ true) × (r.sp % 4 ≡ 0)
