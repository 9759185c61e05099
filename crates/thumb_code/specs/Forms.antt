-- An effect, and the forms of effect that instructions share (ARM DDI 0419, A6.7).
use Rattle.std.specs.Prelude.{ℕ, suc, zero, ◌+◌, ◌*◌, ◌%◌, ◌^◌, ◌-◌, List, [], ◌∷◌, length, ℤ, Bool, if◌then◌else◌, slice_index, slice_set}
use Rattle.std.specs.Int.{cast_unsigned, w32}
use Rattle.thumb_code.specs.declared.register_file.Registers.{Registers}
use Rattle.thumb_code.specs.Faults.{not_thumb}
use Rattle.thumb_code.specs.RegisterFile.{word, is_odd, low, pc_read, put_low, put_reg, values, filled}
use Rattle.thumb_code.specs.Arithmetic.{nz, inverted, sum_of, sum_flags, shifted}

-- How an instruction ends: it goes on with these registers, it asks for a service and would go on with
-- these registers, or it is a fault.
pub data Outcome : Type 0 where
  Goes : Registers → Outcome
  Asks : ℕ → Registers → Outcome
  Stops : ℕ → Outcome

-- An access of one, two or four bytes at an address.
pub record Access : Type 0 where
  pub at : ℕ
  pub bytes : ℕ

-- What an instruction does, from the registers before it: the SP that it leaves, what it loads and what
-- it stores, in order, and how it ends, given the words that it loaded.
pub record Effect : Type 0 where
  pub sp : ℕ
  pub loads : List Access
  pub stores : List (Access × ℕ)
  pub after : List ℕ → Outcome

-- No access.
abbrev pub ends : ℕ → Outcome → Effect
ends sp o = record { sp = sp; loads = []; stores = []; after = λ _. o }

-- To the next instruction, with these registers.
abbrev pub go : ℕ → Registers → Effect
go next s = ends s.sp (Goes (record s { pc = next }))

-- A word into a low register; the flags stay.
abbrev pub puts : ℕ → Registers → ℕ → ℕ → Effect
puts next s rd v = go next (put_low s rd v)

-- A word into a low register, and the flags.
abbrev pub puts_with : ℕ → Registers → ℕ → ℕ → ℕ → Effect
puts_with next s rd v flags = go next (record s { r = slice_set s.r rd v; flags = flags })

-- The flags alone.
abbrev pub flags_are : ℕ → Registers → ℕ → Effect
flags_are next s flags = go next (record s { flags = flags })

-- A sum into a low register, with its flags.
abbrev pub adds : ℕ → Registers → ℕ → ℕ → ℕ → ℕ → Effect
adds next s rd x y c = puts_with next s rd (sum_of x y c) (sum_flags x y c)

-- A difference is the sum with NOT of the second and a carry of 1.
abbrev pub subs : ℕ → Registers → ℕ → ℕ → ℕ → Effect
subs next s rd x y = adds next s rd x (inverted y) 1

-- The flags of a difference alone.
abbrev pub compares : ℕ → Registers → ℕ → ℕ → Effect
compares next s x y = flags_are next s (sum_flags x (inverted y) 1)

-- A word into a low register, and N and Z of it.
abbrev pub logic : ℕ → Registers → ℕ → ℕ → Effect
logic next s rd v = puts_with next s rd v (nz s.flags v)

-- A shifted word into a low register, and the flags of the shift.
abbrev pub shifts : ℕ → Registers → ℕ → (ℕ → ℕ → ℕ × ℕ) → ℕ → ℕ → Effect
shifts next s rd f v n = puts_with next s rd (shifted s.flags f v n).0 (shifted s.flags f v n).1

-- Into any of the sixteen registers; into PC it is a branch.
abbrev pub moves : ℕ → Registers → ℕ → ℕ → Effect
moves next s rd v = let t = put_reg (record s { pc = next }) rd v in ends t.sp (Goes t)

-- To an address with bit 0 set, which tells the instruction set (BXWritePC).
abbrev pub jumps : Registers → ℕ → Outcome
jumps s v = if is_odd v then Goes (record s { pc = v - 1 }) else Stops not_thumb

-- Where a branch by an offset goes.
abbrev pub target : Registers → ℤ → ℕ
target s offset = word (pc_read s + cast_unsigned w32 offset)

-- An access at the low 32 bits of an address.
abbrev pub access : ℕ → ℕ → Access
access at bytes = record { at = word at; bytes = bytes }

-- Loads and stores that leave SP, and R0 to R12 as the words that were loaded make them.
abbrev pub transfers : ℕ → Registers → List Access → List (Access × ℕ) → (List ℕ → List ℕ) → Effect
transfers next s loads stores r =
    record { sp = s.sp; loads = loads; stores = stores; after = λ ws. Goes (record s { r = r ws; pc = next }) }

-- A load of so many bytes into a low register, through f.
abbrev pub loads : ℕ → Registers → ℕ → (ℕ → ℕ) → ℕ → ℕ → Effect
loads next s rt f at bytes = transfers next s (access at bytes ∷ []) [] (λ ws. slice_set s.r rt (f (slice_index ws 0)))

-- With zeros above.
abbrev pub unsigned : ℕ → ℕ
unsigned v = v

-- A store of a low register's low bytes.
abbrev pub stores : ℕ → Registers → ℕ → ℕ → ℕ → Effect
stores next s rt at bytes = transfers next s [] ((access at bytes, low s rt % 2 ^ (bytes * 8)) ∷ []) (λ _. s.r)

-- So many words from an address on.
abbrev pub word_accesses : ℕ → ℕ → List Access
word_accesses at zero = []
word_accesses at (suc n) = access at 4 ∷ word_accesses (at + 4) n

-- These words to an address and on.
abbrev pub words_to : ℕ → List ℕ → List (Access × ℕ)
words_to at [] = []
words_to at (v ∷ vs) = (access at 4, v) ∷ words_to (at + 4) vs

-- The words below SP, which goes down to the first.
abbrev pub pushes : ℕ → Registers → List ℕ → Effect
pushes next s vs =
    let sp = word (s.sp + (2 ^ 32 - 4 * length vs)) in
    record { sp = sp; loads = []; stores = words_to sp vs; after = λ _. Goes (record s { sp = sp; pc = next }) }

-- The words from SP on into the registers, and where p stands one more into PC; SP goes up behind the last.
abbrev pub pops : ℕ → Registers → List ℕ → Bool → Effect
pops next s ks p =
    let n = length ks in let all = if p then n + 1 else n in let sp = word (s.sp + 4 * all) in
    record {
      sp = sp;
      loads = word_accesses s.sp all;
      stores = [];
      after = λ ws.
          let t = record s { r = filled s.r ks ws; sp = sp; pc = next } in
          if p then jumps t (slice_index ws n) else Goes t;
    }

-- The words of the registers from the base on, which goes up behind the last.
abbrev pub stores_many : ℕ → Registers → ℕ → List ℕ → Effect
stores_many next s rn ks =
    transfers next s [] (words_to (low s rn) (values s ks)) (λ _. slice_set s.r rn (word (low s rn + 4 * length ks)))

-- The words from the base on into the registers. The base goes up behind the last, but where a word is loaded into it.
abbrev pub loads_many : ℕ → Registers → ℕ → List ℕ → Bool → Effect
loads_many next s rn ks loads_base =
    let r = if loads_base then s.r else slice_set s.r rn (word (low s rn + 4 * length ks)) in
    transfers next s (word_accesses (low s rn) (length ks)) [] (filled r ks)
