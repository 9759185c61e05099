-- The memory of a fiber that has a bank of its own, and one step over it.
use Rattle.std.specs.Prelude.{ℕ, zero, suc, ◌*◌, ◌/◌, ◌-◌, List, [], ◌∷◌, length, drop, Bool, false, nat_lt, if◌then◌else◌}
use Rattle.thumb_code.specs.declared.register_file.Registers.{Registers}
use Rattle.thumb_code.specs.RegisterFile.{aligned}
use Rattle.thumb_code.specs.Forms.{Access}
use Rattle.thumb_code.specs.Map.{globals_at, arena_at, stack_at, access_fault, sp_in_range, part, flash_word, word_in, changed}
use Rattle.thumb_code.specs.Memory.{Memory, execute_moving}
use Rattle.thumb_code.specs.Step.{Stepped, fetched, ran}

-- Flash, globals and arena, which all fibers share; and this fiber's base and bank, the words from its SP up to its base.
pub record Bank : Type 0 where
  pub flash : List ℕ
  pub globals : List ℕ
  pub arena : List ℕ
  pub base : ℕ
  pub words : List ℕ

abbrev pub bank_sp : Bank → ℕ
bank_sp b = b.base - 4 * length b.words

-- The first of the free words, and the others. A list that is used up gives 0.
abbrev pub next_free : List ℕ → ℕ × List ℕ
next_free [] = (0, [])
next_free (w ∷ ws) = (w, ws)

-- So many free words below the others, the next one always lowest; and the free words that are left.
abbrev pub lowered : ℕ → List ℕ → List ℕ → List ℕ × List ℕ
lowered zero words free = (words, free)
lowered (suc n) words free = lowered n ((next_free free).0 ∷ words) (next_free free).1

-- The address is in the bank.
abbrev pub is_own : Bank → ℕ → Bool
is_own b at = if nat_lt at (bank_sp b) then false else nat_lt at b.base

-- What an access loads, and what it leaves. Below SP, and at or above the base, it is a part of the next free word.
abbrev pub bank_load : Bank → List ℕ → Access → ℕ × (Bank × List ℕ)
bank_load b free a =
    if nat_lt a.at globals_at then (part a (flash_word b.flash (aligned a.at)), (b, free))
    else if nat_lt a.at arena_at then (part a (word_in b.globals globals_at a.at), (b, free))
    else if nat_lt a.at stack_at then (part a (word_in b.arena arena_at a.at), (b, free))
    else if is_own b a.at then (part a (word_in b.words (bank_sp b) a.at), (b, free))
    else (part a (next_free free).0, (b, (next_free free).1))

-- A store below SP is lost.
abbrev pub bank_store : Bank → Access → ℕ → Bank
bank_store b a v =
    if nat_lt a.at arena_at then record b { globals = changed b.globals globals_at a v }
    else if nat_lt a.at stack_at then record b { arena = changed b.arena arena_at a v }
    else if is_own b a.at then record b { words = changed b.words (bank_sp b) a v }
    else b

-- Where SP goes down, free words come into the bank; where it goes up, the words below it are gone.
abbrev pub bank_move : Bank × List ℕ → ℕ → Bank × List ℕ
bank_move m sp =
    if nat_lt sp (bank_sp m.0)
    then (let q = lowered ((bank_sp m.0 - sp) / 4) m.0.words m.1 in (record m.0 { words = q.0 }, q.1))
    else (record m.0 { words = drop ((sp - bank_sp m.0) / 4) m.0.words }, m.1)

-- The bank and the free words as a memory. Its faults are those of the map.
abbrev pub bank_memory : Memory (Bank × List ℕ)
bank_memory = record {
  fault = λ m b a. access_fault m.0.base b a;
  load = λ m a. bank_load m.0 m.1 a;
  store = λ m a v. (bank_store m.0 a v, m.1);
  has_sp = λ m sp. sp_in_range m.0.base sp;
}

-- One step of a fiber over its bank.
abbrev pub bank_step : Registers → Bank × List ℕ → Stepped (Bank × List ℕ)
bank_step r m = ran (execute_moving bank_memory bank_move m r.sp) r (fetched m.0.flash m.0.base r.pc)
