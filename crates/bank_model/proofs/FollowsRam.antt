-- The bank that one RAM shows follows it.
use Rattle.std.proofs.Common.{ℕ, List, ◌++◌, sym, subst}
use Rattle.thumb_code.specs.declared.instructions.Instr.{Instr}
use Rattle.thumb_code.specs.declared.register_file.Registers.{Registers}
use Rattle.thumb_code.specs.Effect.{effect}
use Rattle.thumb_code.specs.Memory.{execute, execute_moving}
use Rattle.thumb_code.specs.Step.{fetched}
use Rattle.thumb_code.specs.Machine.{State, Ram, ram_memory}
use Rattle.thumb_code.specs.Run.{DoesTheSame, RunsTheSame}
use Rattle.thumb_code.proofs.Laws.{refined, runs_follow, aligned_sp}
use Rattle.bank_model.specs.Bank.{Bank, bank_memory, bank_move}
use Rattle.bank_model.specs.Standing.{ram_steps, bank_steps, Shows}
use Rattle.bank_model.proofs.BankRefines.{bank_refines}
use Rattle.bank_model.proofs.RamSteps.{steps_run}

-- One instruction over one RAM and over the bank that it shows.
pub bank_follows_instruction : (i : Instr) (next : ℕ) (s : Registers) (m : Ram) (b : Bank) → Shows s.sp m b
    → (used : List ℕ) × DoesTheSame Shows (execute ram_memory m (effect next s i)) (λ rest. execute_moving bank_memory bank_move (b, used ++ rest) s.sp (effect next s i))
bank_follows_instruction i next s m b h =
    let d = bank_refines.sp_in s.sp m b h in
    refined ram_memory bank_memory bank_move Shows bank_refines (effect next s i) s.sp m b h d.0 d.1 (aligned_sp i next s d.1)

-- So many steps over one RAM and over the bank that it shows.
pub bank_follows_steps : (n : ℕ) (s : State) (b : Bank) → Shows s.registers.sp s.memory b
    → (used : List ℕ) × RunsTheSame Shows (ram_steps n s) (λ rest. bank_steps n s.registers (b, used ++ rest))
bank_follows_steps n s b h =
    let f = runs_follow ram_memory bank_memory bank_move Shows bank_refines (fetched b.flash b.base) n s.registers s.memory b h in
    let e = steps_run n s b.flash b.base (sym h.flash) (sym h.base) in
    (f.0, subst (λ x. RunsTheSame Shows x (λ rest. bank_steps n s.registers (b, f.0 ++ rest))) (sym e) f.1)
