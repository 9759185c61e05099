-- An instruction does to a fiber what it does to what is seen.
use Rattle.std.proofs.Common.{◌≡◌, ℕ, ◌+◌, ◌*◌, ◌%◌, ◌^◌, ◌<◌, List, [], ◌∷◌, length, true, false, None, refl, ap, ◌∙◌, arith, slice_set, slice_index, min}
use Rattle.std.proofs.lemmas.List.{length-set}
use Rattle.thumb_code.specs.declared.instructions.Instr.{Instr}
use Rattle.thumb_code.specs.declared.register_file.Registers.{Registers}
use Rattle.thumb_code.specs.RegisterFile.{word}
use Rattle.thumb_code.specs.Effect.{effect, Effect, ends, Goes, stores}
use Rattle.thumb_code.specs.Memory.{Executed, Done, execute_moving}
use Rattle.thumb_code.specs.Map.{globals_at, arena_at, access_fault, flash_word}
use Rattle.bank_model.specs.Bank.{Bank, bank_memory, bank_load, bank_store, bank_move}
use Rattle.placed_frames.proofs.View.{View, with_low, registers_of, bank_of, Reads, InFlash, InGlobals, InArena, Stores, ToGlobals, ToArena, Alters, Quiet, GetOwn, PutOwn, Get, GetAt, Put, PutAt, At}
use Rattle.placed_frames.proofs.Accesses.{word_at, own_at, own_fault, own_load, own_store, arena_fault, arena_load, arena_store, globals_fault, globals_load, globals_store, flash_fault, flash_load, sp_stays, sp_has}

abbrev pub Bm : Bank × List ℕ → ℕ → Effect → Executed (Bank × List ℕ)
Bm t sp e = execute_moving bank_memory bank_move t sp e

pub least : (sp : ℕ) → min sp sp ≡ sp
least sp = omega arith

pub quiet_does : (flash : List ℕ) (b : Bank) (free : List ℕ) (q : Registers) → At flash q.sp b → Bm (b, free) q.sp (ends q.sp (Goes q)) ≡ Done q (b, free)
quiet_does flash b free q h = let y = sp_has flash q.sp b h in let m = least q.sp in let z = sp_stays flash q.sp b free h in rw y (rw m (rw z (rw z refl)))

pub load_does : (flash : List ℕ) (b : Bank) (free : List ℕ) (q : Registers) (a w : ℕ) (f : List ℕ → Registers) → At flash q.sp b → access_fault b.base false
    (word_at a) ≡ None → bank_load b free (word_at a) ≡ (w, (b, free)) → f (w ∷ []) ≡ q
    → Bm (b, free) q.sp (record { sp = q.sp; loads = word_at a ∷ []; stores = []; after = λ ws. Goes (f ws) }) ≡ Done q (b, free)
load_does flash b free q a w f h fa lo e =
    let y = sp_has flash q.sp b h in let m = least q.sp in let z = sp_stays flash q.sp b free h in
    rw y (rw m (rw z (rw fa (rw lo (rw e (rw z refl))))))

pub store_does : (flash : List ℕ) (b b' : Bank) (free : List ℕ) (q : Registers) (a w : ℕ) → At flash q.sp b → At flash q.sp b' → access_fault b.base true
    (word_at a) ≡ None → bank_store b (word_at a) w ≡ b'
    → Bm (b, free) q.sp (record { sp = q.sp; loads = []; stores = (word_at a, w) ∷ []; after = λ ws. Goes q }) ≡ Done q (b', free)
store_does flash b b' free q a w h h' fa st =
    let y = sp_has flash q.sp b h in let m = least q.sp in let z = sp_stays flash q.sp b free h in let z' = sp_stays flash q.sp b' free h' in
    rw y (rw m (rw z (rw fa (rw st (rw z' refl)))))

abbrev Known : List ℕ → Bank → List ℕ → ℕ → ℕ → Type 0
Known flash b free a w = (access_fault b.base false (word_at (word a)) ≡ None) × (bank_load b free (word_at (word a)) ≡ (w, (b, free)))

-- a word that is read
reads_known : (flash : List ℕ) (v : View) (b : Bank) (free : List ℕ) (a w : ℕ) → b.flash ≡ flash → Reads flash v a w → w < 2 ^ 32 → Known flash (bank_of v b)
    free a w
reads_known flash v b free a w e (InFlash l f g) h =
    let i : word a ≡ a = omega arith in
    let g' : flash_word b.flash a ≡ w = ap (λ x. flash_word x a) e ∙ g in
    rw i (flash_fault b.base a l f, flash_load (bank_of v b) free a w l f g' h)
reads_known flash v b free a w e (InGlobals k l f g) h =
    let i : word a ≡ globals_at + 4 * k = omega arith in
    rw i (globals_fault b.base k l false, globals_load (bank_of v b) free k w l g h)
reads_known flash v b free a w e (InArena k l f g) h =
    let i : word a ≡ arena_at + 4 * k = omega arith in
    rw i (arena_fault b.base k l false, arena_load (bank_of v b) free k w l g h)

pub at_view : (flash : List ℕ) (sp : ℕ) (v : View) (b : Bank) → length v.words ≡ length b.words → At flash sp b → At flash sp (bank_of v b)
at_view flash sp v b e h = record { sp_is = rw e h.sp_is; flash_is = h.flash_is; aligned = h.aligned; low = rw e h.low; high = h.high }

whole : (w : ℕ) → w < 2 ^ 32 → w % 4294967296 ≡ w
whole w l = omega arith

-- a word that is stored
puts_does : (flash : List ℕ) (rt a w : ℕ) (v v' : View) → slice_index v.low rt ≡ w → w < 2 ^ 32 → Stores v a w v' → (next pc : ℕ) (s : Registers) (b : Bank)
    (free : List ℕ) → At flash s.sp b → length v.words ≡ length b.words
    → (Bm (bank_of v b, free) s.sp (stores next (registers_of v pc s) rt a 4) ≡ Done (registers_of v' next s) (bank_of v' b, free)) × (length v'.words ≡ length
    b.words)
puts_does flash rt a w v v' e f (ToGlobals k l q) next pc s b free h n =
    let i : word a ≡ globals_at + 4 * k = omega arith in
    let g : slice_index v.low rt % 4294967296 ≡ w = ap (λ m. m % 4294967296) e ∙ whole w f in (
      rw i (rw g (store_does flash (bank_of v b) (bank_of (record v { globals = slice_set v.globals k w }) b) free (registers_of v next s) (globals_at + 4 * k)
          w (at_view flash s.sp v b n h) (at_view flash s.sp (record v { globals = slice_set v.globals k w }) b n h)
          (globals_fault b.base k l true) (globals_store (bank_of v b) k w l f))),
      n,
    )
puts_does flash rt a w v v' e f (ToArena k l q) next pc s b free h n =
    let i : word a ≡ arena_at + 4 * k = omega arith in
    let g : slice_index v.low rt % 4294967296 ≡ w = ap (λ m. m % 4294967296) e ∙ whole w f in (
      rw i (rw g (store_does flash (bank_of v b) (bank_of (record v { arena = slice_set v.arena k w }) b) free (registers_of v next s) (arena_at + 4 * k) w
          (at_view flash s.sp v b n h) (at_view flash s.sp (record v { arena = slice_set v.arena k w }) b n h)
          (arena_fault b.base k l true) (arena_store (bank_of v b) k w l f))),
      n,
    )

-- the instruction does it, and the bank is as long as before
pub does : (flash : List ℕ) (x : Instr) (v v' : View) → Alters flash x v v' → (next pc : ℕ) (s : Registers) (b : Bank) (free : List ℕ) → At flash s.sp b
    → length v.words ≡ length b.words
    → (Bm (bank_of v b, free) s.sp (effect next (registers_of v pc s) x) ≡ Done (registers_of v' next s) (bank_of v' b, free)) × (length v'.words ≡ length
    b.words)
does flash x v v' (Quiet y u low' flags' e) next pc s b free h l = (
  ap (Bm (bank_of v b, free) s.sp) (e next pc s) ∙ quiet_does flash (bank_of v b) free (registers_of (record v { low = low'; flags = flags' }) next s)
      (at_view flash s.sp v b l h),
  l,
)
does flash x v v' (GetOwn rt k w u m e f) next pc s b free h l =
    let a = at_view flash s.sp v b l h in
    let o = own_at flash s.sp k (bank_of v b) a m in (
      load_does flash (bank_of v b) free (registers_of (with_low rt w v) next s) (word (s.sp + k * 4)) w
          (λ ws. record (registers_of v pc s) { r = slice_set v.low rt (slice_index ws 0); pc = next })
          a (own_fault (bank_of v b) (word (s.sp + k * 4)) k o false) (own_load (bank_of v b) free (word (s.sp + k * 4)) k w o e f) refl,
      l,
    )
does flash x v v' (PutOwn rt k w u m e f) next pc s b free h l =
    let a = at_view flash s.sp v b l h in
    let o = own_at flash s.sp k (bank_of v b) a m in
    let z = length-set v.words k w in
    let l' : length (slice_set v.words k w) ≡ length b.words = z ∙ l in
    let g : slice_index v.low rt % 4294967296 ≡ w = ap (λ n. n % 4294967296) e ∙ whole w f in (
      rw g (store_does flash (bank_of v b) (bank_of (record v { words = slice_set v.words k w }) b) free (registers_of v next s) (word (s.sp + k * 4)) w a
          (at_view flash s.sp (record v { words = slice_set v.words k w }) b l' h)
          (own_fault (bank_of v b) (word (s.sp + k * 4)) k o true) (own_store (bank_of v b) (word (s.sp + k * 4)) k w o f)),
      l',
    )
does flash x v v' (Get rt rn imm w u r f) next pc s b free h l =
    let a = at_view flash s.sp v b l h in
    let k = reads_known flash v b free (slice_index v.low rn + imm * 4) w h.flash_is r f in (
      load_does flash (bank_of v b) free (registers_of (with_low rt w v) next s) (word (slice_index v.low rn + imm * 4)) w
          (λ ws. record (registers_of v pc s) { r = slice_set v.low rt (slice_index ws 0); pc = next }) a k.0 k.1 refl,
      l,
    )
does flash x v v' (GetAt rt rn rm w u r f) next pc s b free h l =
    let a = at_view flash s.sp v b l h in
    let k = reads_known flash v b free (slice_index v.low rn + slice_index v.low rm) w h.flash_is r f in (
      load_does flash (bank_of v b) free (registers_of (with_low rt w v) next s) (word (slice_index v.low rn + slice_index v.low rm)) w
          (λ ws. record (registers_of v pc s) { r = slice_set v.low rt (slice_index ws 0); pc = next }) a k.0 k.1 refl,
      l,
    )
does flash x v v' (Put rt rn imm w u u' e f r) next pc s b free h l = puts_does flash rt (slice_index v.low rn + imm * 4) w v v' e f r next pc s b free h l
does flash x v v' (PutAt rt rn rm w u u' e f r) next pc s b free h l = puts_does flash rt (slice_index v.low rn + slice_index v.low rm) w v v' e f r next pc s
    b free h l
