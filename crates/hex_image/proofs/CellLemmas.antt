-- Data bytes by their places in a record.
use Rattle.std.proofs.Common.{◌≡◌, ℕ, ◌+◌, ◌<◌, Bool, true, false, ◌||◌, List, ◌∷◌, length, drop, get_or, refl, sym, ap, ◌∙◌, arith}
use Rattle.std.specs.List.{list_any}
use Rattle.std.proofs.lemmas.List.{drop_more}
use Rattle.hex_image.specs.Image.{Cell, address, cells_from}
use Rattle.hex_image.specs.declared.flash.Base.{Base}

-- the data byte at place i of a record, with its address
abbrev pub cell_of : Base → ℕ → List ℕ → ℕ → Cell
cell_of base offset bytes i = record { at = address base (offset + i); byte = get_or bytes i 0 }

-- the data bytes from place i on
pub cells_from-drop : (base : Base) (offset : ℕ) (bytes : List ℕ) (i : ℕ) → i < length bytes → cells_from base (offset + i) (drop i bytes) ≡ cell_of base offset bytes i ∷ cells_from base (offset + (i + 1)) (drop (i + 1) bytes)
cells_from-drop base offset bytes i h =
    let e : offset + i + 1 ≡ offset + (i + 1) = omega arith in
    rw (drop_more bytes i 0 h, e) refl

-- whether one of the data bytes from place i on passes a test
abbrev pub any_from : (Cell → Bool) → Base → ℕ → List ℕ → ℕ → Bool
any_from test base offset bytes i = list_any test (cells_from base (offset + i) (drop i bytes))

-- the one at place i does
pub any_from-found : (test : Cell → Bool) (base : Base) (offset : ℕ) (bytes : List ℕ) (i : ℕ) → i < length bytes → test (cell_of base offset bytes i) ≡ true → any_from test base offset bytes i ≡ list_any test (cells_from base offset bytes) → true ≡ list_any test (cells_from base offset bytes)
any_from-found test base offset bytes i h found kept =
    sym (ap (λ b. b || list_any test (cells_from base (offset + (i + 1)) (drop (i + 1) bytes))) found)
    ∙ sym (ap (list_any test) (cells_from-drop base offset bytes i h)) ∙ kept

-- the one at place i doesn't
pub any_from-passed : (test : Cell → Bool) (base : Base) (offset : ℕ) (bytes : List ℕ) (i : ℕ) → i < length bytes → test (cell_of base offset bytes i) ≡ false → any_from test base offset bytes i ≡ list_any test (cells_from base offset bytes) → any_from test base offset bytes (i + 1) ≡ list_any test (cells_from base offset bytes)
any_from-passed test base offset bytes i h passed kept =
    sym (ap (λ b. b || list_any test (cells_from base (offset + (i + 1)) (drop (i + 1) bytes))) passed)
    ∙ sym (ap (list_any test) (cells_from-drop base offset bytes i h)) ∙ kept
