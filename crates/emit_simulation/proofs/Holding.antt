-- A flash that has laid code holds its pieces.
use Rattle.std.proofs.Common.{zero, suc, ◌≡◌, ℕ, ◌+◌, ◌%◌, ◌^◌, ◌<◌, ◌≤◌, List, [], ◌∷◌, length, Bool, true, false, cond, Option, Some, None, refl, sym, ap, ◌∙◌, arith, slice_get, ◌==◌}
use Rattle.thumb_code.specs.declared.instructions.Instr.{Instr}
use Rattle.thumb_code.specs.RegisterFile.{word, is_odd}
use Rattle.thumb_code.specs.Reading.{is_wide, reading_of}
use Rattle.thumb_code.specs.Map.{is_base, flash_end, flash_half, flash_word}
use Rattle.thumb_code.specs.Faults.{not_thumb, out_of_map, stack_range}
use Rattle.thumb_code.specs.Step.{Found, Missed, fetched, found, behind, is_in_flash}
use Rattle.bank_model.specs.Bank.{bank_memory, bank_move}
use Rattle.thumb_layout.specs.declared.pieces.What.{What}
use Rattle.thumb_layout.specs.declared.pieces.Piece.{Piece}
use Rattle.thumb_layout.specs.declared.pieces.Piece.TheVariants.{Plain, Label, Go, CallTo, Number, Address}
use Rattle.thumb_layout.specs.Soundness.{IsSound, HasWords, times}
use Rattle.thumb_layout.specs.Cells.{laid}
use Rattle.thumb_layout.specs.Holds.{Reads}
use Rattle.thumb_layout.specs.Flash.{HasCode, places}
use Rattle.thumb_layout.proofs.Laws.{reads_moving, laid_code_means, code_holds, label_goes}
use Rattle.placed_frames.proofs.Laws.{At, sp_has, sp_stays, flash_fault, flash_load}
use Rattle.emit_simulation.proofs.Laid.{over, Laid, IsEven, AreBytes}

-- a word of bytes
pub word_fits : (flash : List ℕ) → AreBytes flash → (a : ℕ) → flash_word flash a < 2 ^ 32
word_fits flash bytes a = let x = bytes a in let y = bytes (a + 1) in let z = bytes (a + 2) in let w = bytes (a + 3) in omega arith

-- a fiber's bank reads the flash
pub bank_reads : (flash : List ℕ) → AreBytes flash → Reads over flash (λ sp t. At flash sp t.0)
bank_reads flash bytes = reads_moving bank_memory bank_move flash (λ sp t. At flash sp t.0)
    (λ sp t h. sp_has flash sp t.0 h)
    (λ sp t h. sp_stays flash sp t.0 t.1 h)
    (λ sp a t h l e. flash_fault t.0.base a l e)
    (λ sp a t h l e. flash_load t.0 t.1 a (flash_word flash a) l e (ap (λ f. flash_word f a) h.flash_is) (word_fits flash bytes a))

-- a label that stands once
at_least : (b : Bool) (n : ℕ) → n ≤ cond b 1 0 + n
at_least true n = omega arith
at_least false n = omega arith

more_times : (l : ℕ) (x : Piece) (xs : List Piece) → times l xs ≤ times l (x ∷ xs)
more_times l (Label k) xs = at_least (k == l) (times l xs)
more_times l (Plain y) xs = omega arith
more_times l (Go c k) xs = omega arith
more_times l (CallTo f) xs = omega arith
more_times l (Number rd n) xs = omega arith
more_times l (Address rd w) xs = omega arith

here_times : (l : ℕ) (x : Piece) (xs : List Piece) → x ≡ Label l → times l (x ∷ xs) ≡ 1 + times l xs
here_times l x xs e = let z : (l == l) ≡ true = grind arith in ap (λ y. times l (y ∷ xs)) e ∙ ap (λ b. cond b 1 0 + times l xs) z

some_is : {A : Type 0} (x y : A) → Some x ≡ Some y → x ≡ y
some_is x y e = cc

there_times : (l : ℕ) (xs : List Piece) (i : ℕ) → slice_get xs i ≡ Some (Label l) → 0 < times l xs
there_times l [] i e = cc
there_times l (x ∷ xs) zero e = let h = here_times l x xs (some_is x (Label l) e) in omega arith
there_times l (x ∷ xs) (suc i) e = let h = there_times l xs i e in let m = more_times l x xs in omega arith

pub once : (l : ℕ) (xs : List Piece) (i j : ℕ) → times l xs ≡ 1 → slice_get xs i ≡ Some (Label l) → slice_get xs j ≡ Some (Label l) → i ≡ j
once l [] i j t e f = cc
once l (x ∷ xs) zero zero t e f = refl
once l (x ∷ xs) zero (suc j) t e f = let h = here_times l x xs (some_is x (Label l) e) in let k = there_times l xs j f in omega arith
once l (x ∷ xs) (suc i) zero t e f = let h = here_times l x xs (some_is x (Label l) f) in let k = there_times l xs i e in omega arith
once l (x ∷ xs) (suc i) (suc j) t e f = let m = more_times l x xs in let k = there_times l xs i e in ap suc (once l xs i j (omega arith) e f)

-- what is found is followed by an even address
step_of_two : (pc n : ℕ) (w : Bool) → is_odd pc ≡ false → word (pc + cond w 4 2) ≡ n → IsEven n
step_of_two pc n true e f = let o : pc % 2 ≡ 0 = grind arith in (omega arith, omega arith)
step_of_two pc n false e f = let o : pc % 2 ≡ 0 = grind arith in (omega arith, omega arith)

is_found : (pc next : ℕ) (o : Option Instr) (x : Instr) (n : ℕ) → found pc next o ≡ Found x n → next ≡ n
is_found pc next None x n e = cc
is_found pc next (Some y) x n e = cc

by_tests : (b o i : Bool) (flash : List ℕ) (base pc : ℕ) (x : Instr) (n : ℕ) → is_odd pc ≡ o
    → cond b (cond o (Missed not_thumb (word (pc + 1))) (cond i (found pc (behind pc (is_wide (flash_half flash pc)))
    (reading_of (flash_half flash pc) (flash_half flash (pc + 2)))) (Missed out_of_map pc))) (Missed stack_range base) ≡ Found x n → IsEven n
by_tests true true i flash base pc x n e f = cc
by_tests true false true flash base pc x n e f = step_of_two pc n (is_wide (flash_half flash pc)) e
    (is_found pc (behind pc (is_wide (flash_half flash pc))) (reading_of (flash_half flash pc) (flash_half flash (pc + 2))) x n f)
by_tests true false false flash base pc x n e f = cc
by_tests false o i flash base pc x n e f = cc

pub even_behind : (flash : List ℕ) (base pc : ℕ) (x : Instr) (n : ℕ) → fetched flash base pc ≡ Found x n → IsEven n
even_behind flash base pc x n e = by_tests (is_base base) (is_odd pc) (is_in_flash flash pc) flash base pc x n refl e

-- LAID CODE in flash
pub laid_of : (flash : List ℕ) → AreBytes flash → (base b : ℕ) (entry : ℕ → ℕ) (word_of : What → ℕ) (xs : List Piece) → IsSound xs → HasWords xs
    → is_base b ≡ true → base % 4 ≡ 0 → base + length (laid xs).bytes ≤ flash_end → HasCode flash base entry word_of (laid xs)
    → Laid (fetched flash b) flash (places base entry word_of xs) xs
laid_of flash bytes base b entry word_of xs s w hb four room h =
    let o = code_holds flash base b entry word_of xs s w hb four room h in
    let p = places base entry word_of xs in
    record {
      each = λ i x g c q t e a. laid_code_means over flash (λ sp t. At flash sp t.0) (bank_reads flash bytes) base b entry word_of xs s w hb four room h i x g
          c q t e a;
      label = λ i l g. sym (label_goes flash (fetched flash b) p xs o i l g);
      next = o.next;
      labels = λ i c l j g k. once l xs (p.label l) j (s.labels i c l g) (o.labels i c l g) k;
      behind_call = λ i f g. let d = o.each i (CallTo f) g in even_behind flash b d.0 _ (p.behind i) (d.2).1;
      behind_plain = λ i x g. let d = o.each i (Plain x) g in even_behind flash b d.0 x (p.behind i) d.2;
    }
