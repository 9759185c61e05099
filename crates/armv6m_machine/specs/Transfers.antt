-- Loads and stores of one item at a given access, and loads of several words.
use Rattle.std.specs.Prelude.{ℕ, ◌*◌, ◌%◌, ◌^◌, List, [], ◌∷◌, length, slice_index, slice_set}
use Rattle.thumb_code.specs.declared.register_file.Registers.{Registers}
use Rattle.thumb_code.specs.RegisterFile.{low, filled}
use Rattle.thumb_code.specs.Memory.{Memory, load_all}
use Rattle.thumb_code.specs.Forms.{Effect, Access, transfers, word_accesses}

-- What stands there goes into a low register, through f.
abbrev pub load_from : ℕ → Registers → ℕ → (ℕ → ℕ) → Access → Effect
load_from next s rt f a = transfers next s (a ∷ []) [] (λ ws. slice_set s.r rt (f (slice_index ws 0)))

-- The low bytes of a low register go there.
abbrev pub store_to : ℕ → Registers → ℕ → Access → Effect
store_to next s rt a = transfers next s [] ((a, low s rt % 2 ^ (a.bytes * 8)) ∷ []) (λ _. s.r)

-- The registers with the words from an address on loaded into these, and the memory behind the loads.
abbrev pub loaded : {S : Type 0} → Memory S → List ℕ → S → ℕ → List ℕ → List ℕ × S
loaded m r t at ks = let q = load_all m t (word_accesses at (length ks)) in (filled r ks q.0, q.1)
