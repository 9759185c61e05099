-- A flash that has the bytes of cells, with what was open in them, shows the cells.
use Rattle.std.proofs.Common.{zero, suc, ◌≡◌, ℕ, ℤ, ◌+◌, ◌/◌, ◌%◌, ◌^◌, ◌<◌, ◌≤◌, inl, inr, List, [], ◌∷◌, ◌++◌, length, get_or, true, false, refl, sym, ap, ◌∙◌, subst, arith}
use Rattle.std.proofs.lemmas.Bool.Decides.{nat_tests}
use Rattle.std.proofs.lemmas.List.{length-append, append_assoc}
use Rattle.thumb_code.specs.declared.halfwords.Half.{Half}
use Rattle.thumb_code.specs.declared.halfwords.Half.TheVariants.{One, Two}
use Rattle.thumb_code.specs.declared.instructions.Instr.{Instr}
use Rattle.thumb_code.specs.declared.instructions.Instr.TheVariants.{Bl}
use Rattle.thumb_code.specs.Table.{half, is_two, Fits, IsSpelling}
use Rattle.thumb_code.specs.Reading.{is_wide}
use Rattle.thumb_code.specs.RegisterFile.{word}
use Rattle.thumb_code.specs.Map.{is_base, in_flash, flash_byte, flash_half, flash_word}
use Rattle.thumb_code.specs.Step.{Fetched, Found, fetched, behind, is_in_flash}
use Rattle.thumb_code.proofs.Laws.{fetched-spelled, is_wide-spelled}
use Rattle.thumb_layout.specs.declared.pieces.What.{What}
use Rattle.thumb_layout.specs.declared.pieces.Entry.TheVariants.{Value, Of}
use Rattle.thumb_layout.specs.declared.laid.Fix.{Fix}
use Rattle.thumb_layout.specs.declared.laid.Laid.{Laid}
use Rattle.thumb_layout.specs.Cells.{Cell, Ins, Call, Word, Gap, cell_bytes, cell_fixes, spelled, word_bytes, with_cell, with_cells, CellsFit}
use Rattle.thumb_layout.specs.Holds.{Stands, moved}
use Rattle.thumb_layout.specs.Flash.{IsOutside, IsCall, AreFixed}
use Rattle.thumb_layout.proofs.Chunks.{append_none}

abbrev pub bytes_in : List Cell → List ℕ
bytes_in [] = []
bytes_in (c ∷ cs) = cell_bytes c ++ bytes_in cs

abbrev pub fixes_in : ℕ → List Cell → List Fix
fixes_in a [] = []
fixes_in a (c ∷ cs) = cell_fixes a c ++ fixes_in (a + length (cell_bytes c)) cs

pub written_bytes : (l : Laid) (cs : List Cell) → (with_cells l cs).bytes ≡ l.bytes ++ bytes_in cs
written_bytes l [] = sym (append_none l.bytes)
written_bytes l (c ∷ cs) = written_bytes (with_cell l c) cs ∙ append_assoc l.bytes (cell_bytes c) (bytes_in cs)

pub written_fixes : (l : Laid) (cs : List Cell) → (with_cells l cs).fixes ≡ l.fixes ++ fixes_in (length l.bytes) cs
written_fixes l [] = sym (append_none l.fixes)
written_fixes l (c ∷ cs) =
    written_fixes (with_cell l c) cs
    ∙ (ap (λ n. (l.fixes ++ cell_fixes (length l.bytes) c) ++ fixes_in n cs) (length-append l.bytes (cell_bytes c)) ∙ append_assoc l.fixes (cell_fixes (length l.bytes) c) (fixes_in (length l.bytes + length (cell_bytes c)) cs))

get_right : (xs ys : List ℕ) (k : ℕ) → get_or (xs ++ ys) (length xs + k) 0 ≡ get_or ys k 0
get_right [] ys k = let z : 0 + k ≡ k = omega arith in ap (λ n. get_or ys n 0) z
get_right (x ∷ xs) ys k = let z : suc (length xs) + k ≡ suc (length xs + k) = omega arith in ap (λ n. get_or (x ∷ (xs ++ ys)) n 0) z ∙ get_right xs ys k

-- fixes of cells from an address on are behind what is before it
before_fixes : (p a : ℕ) (cs : List Cell) → p < a → IsOutside p (fixes_in a cs)
before_fixes p a [] l = tt
before_fixes p a (Ins x ∷ cs) l = before_fixes p (a + length (cell_bytes (Ins x))) cs (omega arith)
before_fixes p a (Call g ∷ cs) l = (inl l, before_fixes p (a + length (cell_bytes (Call g))) cs (omega arith))
before_fixes p a (Word (Value v) ∷ cs) l = before_fixes p (a + length (cell_bytes (Word (Value v)))) cs (omega arith)
before_fixes p a (Word (Of w) ∷ cs) l = (inl l, before_fixes p (a + length (cell_bytes (Word (Of w)))) cs (omega arith))
before_fixes p a (Gap ∷ cs) l = before_fixes p (a + length (cell_bytes Gap)) cs (omega arith)

behind_fix : (c : Cell) (a p : ℕ) (fs : List Fix) → a + length (cell_bytes c) ≤ p → IsOutside p fs → IsOutside p (cell_fixes a c ++ fs)
behind_fix (Ins x) a p fs l h = h
behind_fix (Call g) a p fs l h = (inr l, h)
behind_fix (Word (Value v)) a p fs l h = h
behind_fix (Word (Of w)) a p fs l h = (inr l, h)
behind_fix Gap a p fs l h = h

-- the values of pools are words
abbrev pub ValueFits : Cell → Type 0
ValueFits (Word (Value v)) = v < 2 ^ 32
ValueFits c = Unit {0}

abbrev pub ValuesFit : List Cell → Type 0
ValuesFit [] = Unit {0}
ValuesFit (c ∷ cs) = ValueFits c × ValuesFit cs

module _ (flash : List ℕ) (base : ℕ) (entry : ℕ → ℕ) (word_of : What → ℕ) (b : ℕ) where
  abbrev fetch : ℕ → Fetched
  fetch = fetched flash b

  abbrev pub ShowsCell : ℕ → Cell → Type 0
  ShowsCell a (Ins x) = Stands (fetched flash b) (base + a) x (base + a + length (cell_bytes (Ins x)))
  ShowsCell a (Call g) = (o : ℤ) × Stands (fetched flash b) (base + a) (Bl o) (base + a + 4) × (moved (base + a) o ≡ entry g)
  ShowsCell a (Word (Value v)) = (base + a < 262144) × (flash_word flash (base + a) ≡ v)
  ShowsCell a (Word (Of w)) = (base + a < 262144) × (flash_word flash (base + a) ≡ word_of w)
  ShowsCell a Gap = Unit {0}

  abbrev pub ShowsFrom : ℕ → List Cell → Type 0
  ShowsFrom a [] = Unit {0}
  ShowsFrom a (c ∷ cs) = ShowsCell a c × ShowsFrom (a + length (cell_bytes c)) cs

  -- the bytes from an address on
  abbrev HasBytes : ℕ → List ℕ → Type 0
  HasBytes a bs = (k : ℕ) → k < length bs → flash_byte flash (base + (a + k)) ≡ get_or bs k 0

  byte_at : (a k : ℕ) (bs : List ℕ) → HasBytes a bs → k < length bs → (p : ℕ) → p ≡ base + (a + k) → flash_byte flash p ≡ get_or bs k 0
  byte_at a k bs h l p e = ap (flash_byte flash) e ∙ h k l

  half_shown : (a n : ℕ) (rest : List ℕ) → HasBytes a (n % 256 ∷ n / 256 ∷ rest) → flash_half flash (base + a) ≡ n
  half_shown a n rest h =
      let x = byte_at a 0 (n % 256 ∷ n / 256 ∷ rest) h (omega arith) (base + a) (omega arith) in
      let y = byte_at a 1 (n % 256 ∷ n / 256 ∷ rest) h (omega arith) (base + a + 1) (omega arith) in
      omega arith

  second_shown : (a n m : ℕ) → HasBytes a (n % 256 ∷ n / 256 ∷ m % 256 ∷ m / 256 ∷ []) → flash_half flash (base + a + 2) ≡ m
  second_shown a n m h =
      let bs : List ℕ = n % 256 ∷ n / 256 ∷ m % 256 ∷ m / 256 ∷ [] in
      let x = byte_at a 2 bs h (omega arith) (base + a + 2) (omega arith) in
      let y = byte_at a 3 bs h (omega arith) (base + a + 2 + 1) (omega arith) in
      omega arith

  word_shown : (a n : ℕ) → n < 2 ^ 32 → HasBytes a (word_bytes n) → flash_word flash (base + a) ≡ n
  word_shown a n l h =
      let x = byte_at a 0 (word_bytes n) h (omega arith) (base + a) (omega arith) in
      let y = byte_at a 1 (word_bytes n) h (omega arith) (base + a + 1) (omega arith) in
      let z = byte_at a 2 (word_bytes n) h (omega arith) (base + a + 2) (omega arith) in
      let w = byte_at a 3 (word_bytes n) h (omega arith) (base + a + 3) (omega arith) in
      omega arith

  -- an instruction that is spelled is found
  found_narrow : (p n : ℕ) (x : Instr) → is_base b ≡ true → p % 2 ≡ 0 → p + 2 ≤ 262144 → Fits x → half x ≡ One n → flash_half flash p ≡ n → fetched flash b p ≡ Found x (p + 2)
  found_narrow p n x hb e l f h s =
      let sp : IsSpelling (half x) (flash_half flash p) (flash_half flash (p + 2)) = subst (λ q. IsSpelling q (flash_half flash p) (flash_half flash (p + 2))) (sym h) (sym s) in
      let w : is_wide (flash_half flash p) ≡ false = is_wide-spelled x (flash_half flash p) (flash_half flash (p + 2)) f sp ∙ ap is_two h in
      let i : in_flash p ≡ true = grind (arith, nat_tests) in
      let k : is_in_flash flash p ≡ true = rw (i, w) refl in
      let z : word (p + 2) ≡ p + 2 = omega arith in
      fetched-spelled flash b p x hb e k f sp ∙ ap (λ q. Found x (behind p (is_two q))) h ∙ ap (Found x) z

  found_wide : (p n m : ℕ) (x : Instr) → is_base b ≡ true → p % 2 ≡ 0 → p + 4 ≤ 262144 → Fits x → half x ≡ Two n m → flash_half flash p ≡ n → flash_half flash (p + 2) ≡ m → fetched flash b p ≡ Found x (p + 4)
  found_wide p n m x hb e l f h s t =
      let sp : IsSpelling (half x) (flash_half flash p) (flash_half flash (p + 2)) = subst (λ q. IsSpelling q (flash_half flash p) (flash_half flash (p + 2))) (sym h) (sym s, sym t) in
      let i : in_flash p ≡ true = grind (arith, nat_tests) in
      let j : in_flash (p + 2) ≡ true = grind (arith, nat_tests) in
      let w : is_wide (flash_half flash p) ≡ true = is_wide-spelled x (flash_half flash p) (flash_half flash (p + 2)) f sp ∙ ap is_two h in
      let k : is_in_flash flash p ≡ true = rw (i, w, j) refl in
      let z : word (p + 4) ≡ p + 4 = omega arith in
      fetched-spelled flash b p x hb e k f sp ∙ ap (λ q. Found x (behind p (is_two q))) h ∙ ap (Found x) z

  ins_by : (a : ℕ) (x : Instr) (h : Half) → is_base b ≡ true → (base + a) % 2 ≡ 0 → base + (a + length (spelled h)) ≤ 262144 → Fits x → half x ≡ h → HasBytes a (spelled h) → Stands (fetched flash b) (base + a) x (base + a + length (spelled h))
  ins_by a x (One n) hb e l f u s = found_narrow (base + a) n x hb e (omega arith) f u (half_shown a n [] s)
  ins_by a x (Two n m) hb e l f u s = found_wide (base + a) n m x hb e (omega arith) f u (half_shown a n (m % 256 ∷ m / 256 ∷ []) s) (second_shown a n m s)

  call_shown : (a to : ℕ) → is_base b ≡ true → (base + a) % 2 ≡ 0 → base + (a + 4) ≤ 262144 → IsCall flash base entry word_of (base + a) to → (o : ℤ) × Stands (fetched flash b) (base + a) (Bl o) (base + a + 4) × (moved (base + a) o ≡ to)
  call_shown a to hb e l h = (h.0, found_wide (base + a) _ _ (Bl h.0) hb e (omega arith) h.1 refl (sym (h.2).0) (sym (h.2).1), h.3)

  -- the bytes of a cell, where it has nothing open
  own_bytes : (c : Cell) (a : ℕ) (rest : List ℕ) (fs : List Fix) → cell_fixes a c ≡ [] → ((k : ℕ) → k < length (cell_bytes c ++ rest) → IsOutside (a + k) (cell_fixes a c ++ fs) → flash_byte flash (base + (a + k)) ≡ get_or (cell_bytes c ++ rest) k 0)
      → ((k : ℕ) → k < length (cell_bytes c) → IsOutside (a + k) fs) → HasBytes a (cell_bytes c)
  own_bytes c a rest fs e h o k l =
      let n = length-append (cell_bytes c) rest in
      h k (omega arith) (subst (λ q. IsOutside (a + k) (q ++ fs)) (sym e) (o k l)) ∙ get_left (cell_bytes c) rest k l
    where
      get_left : (xs ys : List ℕ) (k : ℕ) → k < length xs → get_or (xs ++ ys) k 0 ≡ get_or xs k 0
      get_left [] ys k l = absurd (omega arith)
      get_left (x ∷ xs) ys zero l = refl
      get_left (x ∷ xs) ys (suc k) l = get_left xs ys k (omega arith)

  fixed_left : (fs gs : List Fix) → AreFixed flash base entry word_of (fs ++ gs) → AreFixed flash base entry word_of fs
  fixed_left [] gs h = tt
  fixed_left (f ∷ fs) gs h = (h.0, fixed_left fs gs h.1)

  fixed_right : (fs gs : List Fix) → AreFixed flash base entry word_of (fs ++ gs) → AreFixed flash base entry word_of gs
  fixed_right [] gs h = h
  fixed_right (f ∷ fs) gs h = fixed_right fs gs h.1

  cell_shown : (c : Cell) (a : ℕ) → is_base b ≡ true → (base + a) % 2 ≡ 0 → base + (a + length (cell_bytes c)) ≤ 262144 → CellsFit (c ∷ []) → ValueFits c → (cell_fixes a c ≡ [] → HasBytes a (cell_bytes c)) → AreFixed flash base entry word_of (cell_fixes a c) → ShowsCell a c
  cell_shown (Ins x) a hb e l f v h g = ins_by a x (half x) hb e l f.0 refl (h refl)
  cell_shown (Call k) a hb e l f v h g = call_shown a (entry k) hb e l g.0
  cell_shown (Word (Value n)) a hb e l f v h g = (omega arith, word_shown a n v (h refl))
  cell_shown (Word (Of w)) a hb e l f v h g = (omega arith, g.0)
  cell_shown Gap a hb e l f v h g = tt

  even_cell : (c : Cell) → length (cell_bytes c) % 2 ≡ 0
  even_cell (Ins x) = by (half x)
    where
      by : (h : Half) → length (spelled h) % 2 ≡ 0
      by (One n) = refl
      by (Two n m) = refl
  even_cell (Call g) = refl
  even_cell (Word (Value v)) = refl
  even_cell (Word (Of w)) = refl
  even_cell Gap = refl

  pub cells_shown : (cs : List Cell) (a : ℕ) → is_base b ≡ true → (base + a) % 2 ≡ 0 → base + (a + length (bytes_in cs)) ≤ 262144 → CellsFit cs → ValuesFit cs
      → ((k : ℕ) → k < length (bytes_in cs) → IsOutside (a + k) (fixes_in a cs) → flash_byte flash (base + (a + k)) ≡ get_or (bytes_in cs) k 0) → AreFixed flash base entry word_of (fixes_in a cs) → ShowsFrom a cs
  cells_shown [] a hb e l f v h g = tt
  cells_shown (c ∷ cs) a hb e l f v h g =
      let w = length (cell_bytes c) in
      let n = length-append (cell_bytes c) (bytes_in cs) in
      let later = fixes_in (a + w) cs in
      let ev = even_cell c in (
        cell_shown c a hb e (omega arith) (f.0, tt) v.0 (λ q. own_bytes c a (bytes_in cs) later q h (λ k m. before_fixes (a + k) (a + w) cs (omega arith))) (fixed_left (cell_fixes a c) later g),
        cells_shown cs (a + w) hb (omega arith) (omega arith) f.1 v.1
            (λ k m o.
            let z : base + (a + w + k) ≡ base + (a + (w + k)) = omega arith in
            let y : a + w + k ≡ a + (w + k) = omega arith in
            ap (flash_byte flash) z ∙ (h (w + k) (omega arith) (behind_fix c a (a + (w + k)) later (omega arith) (subst (λ q. IsOutside q later) y o)) ∙ get_right (cell_bytes c) (bytes_in cs) k))
            (fixed_right (cell_fixes a c) later g),
      )
