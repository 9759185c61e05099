-- From what an instruction comes to over one RAM to the machine's step.
use Rattle.std.proofs.Common.{◌≡◌, List, [], ◌∷◌, refl, ◌∙◌, Bool, inl, inr}
use Rattle.thumb_code.specs.declared.register_file.Registers.{Registers}
use Rattle.thumb_code.specs.Forms.{Access, Effect}
use Rattle.thumb_code.specs.Memory.{Executed, Done, Asked, Stopped, execute, load_all}
use Rattle.thumb_code.specs.Table.{half, is_two}
use Rattle.thumb_code.specs.Step.{Stepped, On, Served, Faulted, stepped_at, behind, fetched, Found}
use Rattle.thumb_code.specs.Effect.{effect}
use Rattle.thumb_code.specs.declared.instructions.Instr.{Instr}
use Rattle.thumb_code.specs.Machine.{State, step, Ram, ram_memory}
use Rattle.armv6m_machine.specs.declared.faults.Turn.{Turn}
use Rattle.armv6m_machine.specs.declared.faults.Turn.TheVariants.{Went, Service, Fault}
use Rattle.armv6m_machine.specs.Steps.{IsStep, IsFault, AnswersTurn, Does, HasRead}

-- Loads leave RAM as it was.
loads_leave : (xs : List Access) (t : Ram) → (load_all ram_memory t xs).1 ≡ t
loads_leave [] t = refl
loads_leave (x ∷ xs) t = loads_leave xs t

read_same : (e : Effect) (t mem : Ram) → HasRead ram_memory t e mem → mem ≡ t
read_same e t mem (inl p) = p
read_same e t mem (inr p) = p ∙ loads_leave e.loads t

state : (r q : Registers) (t m : Ram) → r ≡ q → m ≡ t → let a : State = record { registers = r; memory = m } in a ≡ record { registers = q; memory = t }
state r q t m e f = rw (e, f) refl

turn_step : (t : Executed Ram) (e : Effect) (turn : Turn) (old new : State) → AnswersTurn t turn old.registers new.registers new.memory (HasRead ram_memory old.memory e new.memory) → IsStep (stepped_at old.registers.pc t) turn old new
turn_step (Done r m) e turn old new h = (h.0, state _ _ _ _ h.1 h.2)
turn_step (Asked n r m) e turn old new h = (h.0, state _ _ _ _ h.1 h.2)
turn_step (Stopped k) e (Fault f a) old new h = (h.0, h.1, state _ _ _ _ h.2 (read_same e old.memory new.memory h.3))
turn_step (Stopped k) e Went old new h = h
turn_step (Stopped k) e (Service n) old new h = h

-- An instruction that is done over RAM is the step.
does_step : (e : Effect) (turn : Turn) (old new : State) → Does ram_memory old.memory e turn old.registers new.registers new.memory → IsStep (stepped_at old.registers.pc (execute ram_memory old.memory e)) turn old new
does_step e turn old new h = turn_step (execute ram_memory old.memory e) e turn old new h

-- What was fetched, executed over RAM, is the step.
pub fetched_step : (old : State) (i : Instr) (wide : Bool) (turn : Turn) (r : Registers) (m : Ram) → fetched old.memory.flash old.memory.base old.registers.pc ≡ Found i (behind old.registers.pc wide)
    → Does ram_memory old.memory (effect (behind old.registers.pc wide) old.registers i) turn old.registers r m → IsStep (step old) turn old (record { registers = r; memory = m })
fetched_step old i wide turn r m e h = rw e (does_step (effect (behind old.registers.pc wide) old.registers i) turn old (record { registers = r; memory = m }) h)

-- The same where the address behind it is told by the instruction.
pub at_pc_step : (old : State) (i : Instr) (wide : Bool) (turn : Turn) (r : Registers) (m : Ram) → fetched old.memory.flash old.memory.base old.registers.pc ≡ Found i (behind old.registers.pc wide)
    → wide ≡ is_two (half i) → Does ram_memory old.memory (effect (behind old.registers.pc (is_two (half i))) old.registers i) turn old.registers r m
    → IsStep (step old) turn old (record { registers = r; memory = m })
at_pc_step old i wide turn r m e p h = fetched_step old i wide turn r m e (rw p h)

-- A step that is a fault leaves the machine as it was.
pub fault_leaves : (x : Stepped Ram) (turn : Turn) (old new : State) → IsStep x turn old new → IsFault turn → new ≡ old
fault_leaves (On r t) turn old new h f = absurd (rw h.0 at f)
fault_leaves (Served n r t) turn old new h f = absurd (rw h.0 at f)
fault_leaves (Faulted k at) (Fault g a) old new h f = h.2
fault_leaves (Faulted k at) Went old new h f = absurd h
fault_leaves (Faulted k at) (Service n) old new h f = absurd h
