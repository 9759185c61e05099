-- Accesses to a fiber's own words, to globals, arena and flash.
use Rattle.std.proofs.Common.{◌≡◌, ℕ, ◌+◌, ◌*◌, ◌-◌, ◌/◌, ◌%◌, ◌^◌, ◌<◌, ◌≤◌, List, length, Bool, true, false, nat_lt, None, refl, ap, arith, slice_set, slice_index, ◌==◌}
use Rattle.thumb_code.specs.RegisterFile.{word}
use Rattle.thumb_code.specs.Forms.{Access}
use Rattle.thumb_code.specs.Map.{flash_end, globals_at, arena_at, stack_at, ram_end, access_fault, low_bytes, number_in, sp_in_range, flash_word}
use Rattle.bank_model.specs.Bank.{Bank, bank_sp, bank_load, bank_store, bank_move}
use Rattle.placed_frames.proofs.View.{At}

pub yes : (x y : ℕ) → x < y → nat_lt x y ≡ true
yes x y l = grind arith

pub no : (x y : ℕ) → y ≤ x → nat_lt x y ≡ false
no x y l = grind arith

zero_is : (x : ℕ) → x ≡ 0 → (x == 0) ≡ true
zero_is x e = grind arith

abbrev pub word_at : ℕ → Access
word_at a = record { at = a; bytes = 4 }

part_whole : (w : ℕ) → w < 2 ^ 32 → w / 1 % 4294967296 ≡ w
part_whole w l = omega arith

merged_whole : (v : ℕ) → v < 2 ^ 32 → number_in (low_bytes 4 v) ≡ v
merged_whole v l = omega arith

-- an own word
pub record Own (b : Bank) (a k : ℕ) : Type 0 where
  at_four : a % 4 ≡ 0
  flash : nat_lt a flash_end ≡ false
  globals : nat_lt a globals_at ≡ false
  ram : nat_lt a ram_end ≡ true
  arena : nat_lt a arena_at ≡ false
  stack : nat_lt a stack_at ≡ false
  above : nat_lt a (bank_sp b) ≡ false
  below : nat_lt a b.base ≡ true
  is_place : (a - bank_sp b) / 4 ≡ k

pub own_at : (flash : List ℕ) (sp k : ℕ) (b : Bank) → At flash sp b → k < length b.words → Own b (word (sp + k * 4)) k
own_at flash sp k b h l =
    let e = h.sp_is in let i = h.low in let j = h.high in let n = h.aligned in
    let a : word (sp + k * 4) ≡ sp + k * 4 = omega arith in
    rw a (record {
      at_four = omega arith;
      flash = no (sp + k * 4) flash_end (omega arith);
      globals = no (sp + k * 4) globals_at (omega arith);
      ram = yes (sp + k * 4) ram_end (omega arith);
      arena = no (sp + k * 4) arena_at (omega arith);
      stack = no (sp + k * 4) stack_at (omega arith);
      above = no (sp + k * 4) (bank_sp b) (omega arith);
      below = yes (sp + k * 4) b.base (omega arith);
      is_place = omega arith;
    })

pub own_fault : (b : Bank) (a k : ℕ) → Own b a k → (store : Bool) → access_fault b.base store (word_at a) ≡ None
own_fault b a k o true = let z = zero_is (a % 4) o.at_four in let g = o.globals in let r = o.ram in let s = o.stack in let w = o.below in rw z
    (rw g (rw r (rw s (rw w refl))))
own_fault b a k o false = let z = zero_is (a % 4) o.at_four in let g = o.globals in let r = o.ram in rw z (rw g (rw r refl))

pub own_load : (b : Bank) (free : List ℕ) (a k w : ℕ) → Own b a k → slice_index b.words k ≡ w → w < 2 ^ 32 → bank_load b free (word_at a) ≡ (w, (b, free))
own_load b free a k w o e l =
    let z = o.at_four in let g = o.globals in let n = o.arena in let s = o.stack in let x = o.above in let y = o.below in let p = o.is_place in
    rw g (rw n (rw s (rw x (rw y (rw p (rw z (rw e (ap (λ q. (q, (b, free))) (part_whole w l)))))))))

pub own_store : (b : Bank) (a k w : ℕ) → Own b a k → w < 2 ^ 32 → bank_store b (word_at a) w ≡ record b { words = slice_set b.words k w }
own_store b a k w o l =
    let z = o.at_four in let n = o.arena in let s = o.stack in let x = o.above in let y = o.below in let p = o.is_place in
    rw n (rw s (rw x (rw y (rw p (rw z (ap (λ q. record b { words = slice_set b.words k q }) (merged_whole w l)))))))

-- a word of the arena, and one of the globals
pub arena_fault : (base k : ℕ) → k < 2816 → (store : Bool) → access_fault base store (word_at (arena_at + 4 * k)) ≡ None
arena_fault base k l true =
    let z = zero_is ((arena_at + 4 * k) % 4) (omega arith) in let g = no (arena_at + 4 * k) globals_at (omega arith) in let r = yes (arena_at + 4 * k) ram_end
    (omega arith) in let s = yes (arena_at + 4 * k) stack_at (omega arith) in
    rw z (rw g (rw r (rw s refl)))
arena_fault base k l false =
    let z = zero_is ((arena_at + 4 * k) % 4) (omega arith) in let g = no (arena_at + 4 * k) globals_at (omega arith) in let r = yes (arena_at + 4 * k) ram_end
    (omega arith) in
    rw z (rw g (rw r refl))

pub arena_load : (b : Bank) (free : List ℕ) (k w : ℕ) → k < 2816 → slice_index b.arena k ≡ w → w < 2 ^ 32 → bank_load b free
    (word_at (arena_at + 4 * k)) ≡ (w, (b, free))
arena_load b free k w l e h =
    let g = no (arena_at + 4 * k) globals_at (omega arith) in let n = no (arena_at + 4 * k) arena_at (omega arith) in let s = yes (arena_at + 4 * k) stack_at
    (omega arith) in
    let z : (arena_at + 4 * k) % 4 ≡ 0 = omega arith in let p : (arena_at + 4 * k - arena_at) / 4 ≡ k = omega arith in
    rw g (rw n (rw s (rw p (rw z (rw e (ap (λ q. (q, (b, free))) (part_whole w h)))))))

pub arena_store : (b : Bank) (k w : ℕ) → k < 2816 → w < 2 ^ 32 → bank_store b (word_at (arena_at + 4 * k)) w ≡ record b { arena = slice_set b.arena k w }
arena_store b k w l h =
    let n = no (arena_at + 4 * k) arena_at (omega arith) in let s = yes (arena_at + 4 * k) stack_at (omega arith) in
    let z : (arena_at + 4 * k) % 4 ≡ 0 = omega arith in let p : (arena_at + 4 * k - arena_at) / 4 ≡ k = omega arith in
    rw n (rw s (rw p (rw z (ap (λ q. record b { arena = slice_set b.arena k q }) (merged_whole w h)))))

pub globals_fault : (base k : ℕ) → k < 256 → (store : Bool) → access_fault base store (word_at (globals_at + 4 * k)) ≡ None
globals_fault base k l true =
    let z = zero_is ((globals_at + 4 * k) % 4) (omega arith) in let g = no (globals_at + 4 * k) globals_at (omega arith) in let r = yes (globals_at + 4 * k)
    ram_end (omega arith) in let s = yes (globals_at + 4 * k) stack_at (omega arith) in
    rw z (rw g (rw r (rw s refl)))
globals_fault base k l false =
    let z = zero_is ((globals_at + 4 * k) % 4) (omega arith) in let g = no (globals_at + 4 * k) globals_at (omega arith) in let r = yes (globals_at + 4 * k)
    ram_end (omega arith) in
    rw z (rw g (rw r refl))

pub globals_load : (b : Bank) (free : List ℕ) (k w : ℕ) → k < 256 → slice_index b.globals k ≡ w → w < 2 ^ 32 → bank_load b free
    (word_at (globals_at + 4 * k)) ≡ (w, (b, free))
globals_load b free k w l e h =
    let g = no (globals_at + 4 * k) globals_at (omega arith) in let n = yes (globals_at + 4 * k) arena_at (omega arith) in
    let z : (globals_at + 4 * k) % 4 ≡ 0 = omega arith in let p : (globals_at + 4 * k - globals_at) / 4 ≡ k = omega arith in
    rw g (rw n (rw p (rw z (rw e (ap (λ q. (q, (b, free))) (part_whole w h))))))

pub globals_store : (b : Bank) (k w : ℕ) → k < 256 → w < 2 ^ 32 → bank_store b (word_at (globals_at + 4 * k)) w ≡ record b { globals = slice_set b.globals k w }
globals_store b k w l h =
    let n = yes (globals_at + 4 * k) arena_at (omega arith) in
    let z : (globals_at + 4 * k) % 4 ≡ 0 = omega arith in let p : (globals_at + 4 * k - globals_at) / 4 ≡ k = omega arith in
    rw n (rw p (rw z (ap (λ q. record b { globals = slice_set b.globals k q }) (merged_whole w h))))

-- a word of flash
pub flash_fault : (base a : ℕ) → a < flash_end → a % 4 ≡ 0 → access_fault base false (word_at a) ≡ None
flash_fault base a l e = let z = zero_is (a % 4) e in let g = yes a globals_at (omega arith) in let f = yes a flash_end l in rw z (rw g (rw f refl))

pub flash_load : (b : Bank) (free : List ℕ) (a w : ℕ) → a < flash_end → a % 4 ≡ 0 → flash_word b.flash a ≡ w → w < 2 ^ 32 → bank_load b free
    (word_at a) ≡ (w, (b, free))
flash_load b free a w l e f h =
    let g = yes a globals_at (omega arith) in
    let i : a / 4 * 4 ≡ a = omega arith in
    rw g (rw e (rw i (rw f (ap (λ q. (q, (b, free))) (part_whole w h)))))

-- SP stays
pub sp_stays : (flash : List ℕ) (sp : ℕ) (b : Bank) (free : List ℕ) → At flash sp b → bank_move (b, free) sp ≡ (b, free)
sp_stays flash sp b free h =
    let e = h.sp_is in
    let a = no sp (bank_sp b) (omega arith) in
    let z : (sp - bank_sp b) / 4 ≡ 0 = omega arith in
    rw a (rw z refl)

pub sp_has : (flash : List ℕ) (sp : ℕ) (b : Bank) → At flash sp b → sp_in_range b.base sp ≡ true
sp_has flash sp b h =
    let e = h.sp_is in let i = h.low in
    let a = no sp stack_at (omega arith) in let c = no b.base sp (omega arith) in rw a (rw c refl)
