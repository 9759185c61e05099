-- What stands in the image of sound bodies is made of bytes.
use Rattle.std.proofs.Common.{◌≡◌, ℕ, ℤ, zero, suc, ◌+◌, ◌*◌, ◌/◌, ◌%◌, ◌^◌, ◌<◌, ◌≤◌, List, [], ◌∷◌, ◌++◌, length, Bool, true, false, cond, nat_lt, refl, sym, ap, subst, arith, get_or}
use Rattle.std.specs.List.{AllByRecursion}
use Rattle.std.proofs.lemmas.Bool.Decides.{nat_tests}
use Rattle.std.proofs.lemmas.Nat.{pow-add}
use Rattle.std.proofs.Math.Nat.{mul-le-mul_right, add-mul}
use Rattle.thumb_code.specs.declared.halfwords.Half.TheVariants.{One, Two}
use Rattle.thumb_code.specs.declared.instructions.Instr.{Instr}
use Rattle.thumb_code.specs.declared.instructions.Instr.TheVariants.{Bl, Svc}
use Rattle.thumb_code.specs.Table.{row, half, spelling, number_after, EachFits, is_two}
use Rattle.thumb_layout.specs.declared.pieces.What.{What}
use Rattle.thumb_layout.specs.declared.pieces.What.TheVariants.{Function, Text, Class}
use Rattle.thumb_layout.specs.declared.pieces.Entry.TheVariants.{Value, Of}
use Rattle.thumb_layout.specs.declared.pieces.Piece.{Piece}
use Rattle.thumb_layout.specs.declared.laid.Laid.{Laid}
use Rattle.thumb_layout.specs.Soundness.{IsSound}
use Rattle.thumb_layout.specs.Cells.{Cell, Ins, Call, Word, Gap, half_bytes, word_bytes, spelled, offset, cell_bytes, with_cell, with_cells, CellsFit, cells_of, laid}
use Rattle.thumb_layout.proofs.Laws.{laid_long, cells_fit}
use Rattle.flat_ir.specs.declared.ops.FlatClass.{FlatClass}
use Rattle.thumb_divide.specs.Routine.{routine_bytes}
use Rattle.thumb_emit.specs.InFlash.{Addresses, callee_at, word_for}
use Rattle.image_link.specs.Image.{base, head, opened, slot_words, class_table, text_bytes}

abbrev pub EachByte : List ℕ → Type 0
EachByte = AllByRecursion (λ b. b < 256)

bytes_append : (xs ys : List ℕ) → EachByte xs → EachByte ys → EachByte (xs ++ ys)
bytes_append [] ys h k = k
bytes_append (x ∷ xs) ys h k = (h.0, bytes_append xs ys h.1 k)

pub byte_at : (xs : List ℕ) → EachByte xs → (k d : ℕ) → d < 256 → get_or xs k d < 256
byte_at [] h k d l = l
byte_at (x ∷ xs) h zero d l = h.0
byte_at (x ∷ xs) h (suc k) d l = byte_at xs h.1 k d l

word_is : (n : ℕ) → EachByte (word_bytes n)
word_is n = (omega arith, (omega arith, (omega arith, (omega arith, tt))))

-- an instruction's spelling has the bits of its parts
abbrev bits : List (ℕ × ℕ) → ℕ
bits [] = 0
bits (p ∷ ps) = p.0 + bits ps

number_bound : (ps : List (ℕ × ℕ)) (n w : ℕ) → n < 2 ^ w → EachFits ps → number_after n ps < 2 ^ (w + bits ps)
number_bound [] n w l h = let z : w ≡ w + 0 = omega arith in subst (λ k. n < 2 ^ k) z l
number_bound (p ∷ ps) n w l h =
    let a = pow-add 2 w p.0 in
    let b = mul-le-mul_right (2 ^ p.0) l in
    let c = add-mul n 1 (2 ^ p.0) in
    let v = h.0 in
    let e : suc n * 2 ^ p.0 ≡ (n + 1) * 2 ^ p.0 = (let s : suc n ≡ n + 1 = omega arith in ap (λ k. k * 2 ^ p.0) s) in
    let next : n * 2 ^ p.0 + p.1 < 2 ^ (w + p.0) = omega arith in
    let z : w + p.0 + bits ps ≡ w + (p.0 + bits ps) = omega arith in
    subst (λ k. number_after (n * 2 ^ p.0 + p.1) ps < 2 ^ k) z (number_bound ps (n * 2 ^ p.0 + p.1) (w + p.0) next h.1)

row_bits : (i : Instr) → bits (row i) ≡ cond (is_two (half i)) 32 16
row_bits (Bl z) = refl
row_bits _ = refl

spelling_bound : (i : Instr) → EachFits (row i) → spelling i < 2 ^ cond (is_two (half i)) 32 16
spelling_bound i h = let z : 0 + bits (row i) ≡ cond (is_two (half i)) 32 16 = (let e = row_bits i in omega arith) in subst (λ k. spelling i < 2 ^ k) z (number_bound (row i) 0 0 (omega arith) h)

half_is : (n : ℕ) → n < 2 ^ 16 → EachByte (half_bytes n)
half_is n l = (omega arith, (omega arith, tt))

half_form : (i : Instr) → half i ≡ cond (is_two (half i)) (Two (spelling i / 65536) (spelling i % 65536)) (One (spelling i))
half_form (Bl z) = refl
half_form _ = refl

spelled_by : (n : ℕ) (b : Bool) → n < 2 ^ cond b 32 16 → EachByte (spelled (cond b (Two (n / 65536) (n % 65536)) (One n)))
spelled_by n true l = bytes_append (half_bytes (n / 65536)) (half_bytes (n % 65536)) (half_is (n / 65536) (omega arith)) (half_is (n % 65536) (omega arith))
spelled_by n false l = half_is n l

spelled_is : (i : Instr) → EachFits (row i) → EachByte (spelled (half i))
spelled_is i h = subst (λ q. EachByte (spelled q)) (sym (half_form i)) (spelled_by (spelling i) (is_two (half i)) (spelling_bound i h))

-- laid code
cell_is : (c : Cell) → CellsFit (c ∷ []) → EachByte (cell_bytes c)
cell_is (Ins i) h = spelled_is i (h.0).0
cell_is (Call f) h = (omega arith, (omega arith, (omega arith, (omega arith, tt))))
cell_is (Word (Value v)) h = word_is v
cell_is (Word (Of w)) h = word_is 0
cell_is Gap h = (omega arith, (omega arith, tt))

cells_are : (l : Laid) (cs : List Cell) → EachByte l.bytes → CellsFit cs → EachByte (with_cells l cs).bytes
cells_are l [] h f = h
cells_are l (c ∷ cs) h f = cells_are (with_cell l c) cs (bytes_append l.bytes (cell_bytes c) h (cell_is c (f.0, tt))) f.1

pub laid_is : (xs : List Piece) → IsSound xs → length (laid xs).bytes ≤ 262144 → EachByte (laid xs).bytes
laid_is xs s l = let n = laid_long xs s in cells_are (record { bytes = []; fixes = [] }) (cells_of xs) tt (cells_fit xs s (omega arith))

-- what is filled in
call_fits : (z : ℤ) → EachFits (row (Bl z))
call_fits z = (omega arith, (omega arith, (omega arith, (omega arith, (omega arith, (omega arith, (omega arith, (omega arith, tt))))))))

pub opened_is : (a : Addresses) (at : ℕ) (call : Bool) (what : What) → EachByte (opened a at call what)
opened_is a at true (Function f) = spelled_is (Bl (offset at (callee_at a f))) (call_fits (offset at (callee_at a f)))
opened_is a at true (Text i) = word_is (word_for a (Text i))
opened_is a at true (Class c) = word_is (word_for a (Class c))
opened_is a at false what = word_is (word_for a what)

slots_are : (a : Addresses) (fs : List ℕ) → EachByte (slot_words a fs)
slots_are a [] = tt
slots_are a (f ∷ fs) = bytes_append (word_bytes (word_for a (Function f))) (slot_words a fs) (word_is (word_for a (Function f))) (slots_are a fs)

pub table_is : (a : Addresses) (c : FlatClass) → EachByte (class_table a c)
table_is a c = bytes_append (word_bytes c.words) (slot_words a c.slots) (word_is c.words) (slots_are a c.slots)

pub text_is : (t : List ℕ) → EachByte t → EachByte (text_bytes t)
text_is t h = bytes_append (word_bytes (length t)) t (word_is (length t)) h

-- the routine
abbrev are_small : List ℕ → Bool
are_small [] = true
are_small (b ∷ bs) = cond (nat_lt b 256) (are_small bs) false

small_by : (b : ℕ) (bs : List ℕ) (t : Bool) → nat_lt b 256 ≡ t → (are_small bs ≡ true → EachByte bs) → cond t (are_small bs) false ≡ true → (b < 256) × EachByte bs
small_by b bs true e rest h = (grind (arith, nat_tests), rest h)
small_by b bs false e rest h = absurd cc

small_are : (bs : List ℕ) → are_small bs ≡ true → EachByte bs
small_are [] h = tt
small_are (b ∷ bs) h = small_by b bs (nat_lt b 256) refl (small_are bs) h

pub routine_is : EachByte routine_bytes
routine_is = small_are routine_bytes refl

pub head_is : (a : Addresses) (main : ℕ) → EachByte (head a main)
head_is a main =
    let last = spelled (half (Svc 0)) in
    let third = word_bytes 13 ++ last in
    let word = word_bytes (word_for a (Function main)) in
    bytes_append (word_bytes base) (word ++ third) (word_is base) (bytes_append word third (word_is (word_for a (Function main))) (bytes_append (word_bytes 13) last (word_is 13) (omega arith, (omega arith, tt))))
