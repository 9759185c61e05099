-- The image, as flash, shows its program.
use Rattle.std.proofs.Common.{◌≡◌, ℕ, zero, suc, ◌+◌, ◌*◌, ◌/◌, ◌%◌, ◌^◌, ◌<◌, ◌≤◌, List, [], ◌∷◌, length, refl, sym, ap, ◌∙◌, subst, arith, Some, Bool, true, false, cond, get_or, slice_index, slice_get, ◌==◌}
use Rattle.std.specs.Prelude.{map, ◌||◌, Contains}
use Rattle.std.specs.List.{AllByRecursion}
use Rattle.std.specs.Option.{option_map}
use Rattle.std.proofs.lemmas.Bool.Decides.{nat_tests}
use Rattle.std.proofs.lemmas.Option.{slice_get-map}
use Rattle.std.proofs.lemmas.List.{get_or_append_left, get_or-append-add}
use Rattle.thumb_code.specs.declared.halfwords.Half.{Half}
use Rattle.thumb_code.specs.declared.halfwords.Half.TheVariants.{Two}
use Rattle.thumb_code.specs.declared.instructions.Instr.TheVariants.{Bl}
use Rattle.thumb_code.specs.Table.{half}
use Rattle.thumb_code.specs.Map.{flash_end, flash_byte, flash_half, flash_word}
use Rattle.bank_model.specs.Texts.{flash_bytes}
use Rattle.thumb_layout.specs.declared.pieces.What.{What}
use Rattle.thumb_layout.specs.declared.pieces.What.TheVariants.{Function, Text, Class}
use Rattle.thumb_layout.specs.declared.pieces.Piece.{Piece}
use Rattle.thumb_layout.specs.declared.pieces.Piece.TheVariants.{Plain, Label, Go, CallTo, Number, Address}
use Rattle.thumb_layout.specs.declared.laid.Fix.{Fix}
use Rattle.thumb_layout.specs.Cells.{word_bytes, spelled, offset, laid}
use Rattle.thumb_layout.specs.Flash.{IsOpened, AreFixed}
use Rattle.thumb_layout.specs.Openings.{called, callees, addressed, StandApart}
use Rattle.thumb_layout.proofs.Laws.{fixes_called, fixes_named}
use Rattle.thumb_emit.specs.InFlash.{Addresses, IsNamed, callee_at, word_for}
use Rattle.image_link.specs.Image.{is_named, is_this_text, opened, slot_words, AreFilled}
use Rattle.image_link.specs.inner.{IsPlace}
use Rattle.image_link.proofs.Written.{names_text}
use Rattle.image_link.proofs.NamedTexts.{or_true, named_in}
use Rattle.image_link.proofs.Showing.{bl_reaches, apart_outside, apart_within}

-- four bytes from an address on
abbrev pub HasFour : List ℕ → ℕ → List ℕ → Type 0
HasFour flash p bytes = (j : ℕ) → j < 4 → flash_byte flash (p + j) ≡ slice_index bytes j

pub word_there : (flash : List ℕ) (p n : ℕ) → n < 2 ^ 32 → HasFour flash p (word_bytes n) → flash_word flash p ≡ n
word_there flash p n l h =
    let z : p + 0 ≡ p = omega arith in
    let a : flash_byte flash p ≡ n % 256 = ap (flash_byte flash) (sym z) ∙ h 0 (omega arith) in
    let b = h 1 (omega arith) in
    let c = h 2 (omega arith) in
    let d = h 3 (omega arith) in
    omega arith

call_there : (flash : List ℕ) (p : ℕ) (h : Half) → length (spelled h) ≡ 4 → HasFour flash p (spelled h) → (first second : ℕ) → h ≡ Two first second → (flash_half flash p ≡ first) × (flash_half flash (p + 2) ≡ second)
call_there flash p h four has first second e =
    let g = subst (λ q. HasFour flash p (spelled q)) e has in
    let z : p + 0 ≡ p = omega arith in
    let y : p + 2 + 1 ≡ p + 3 = omega arith in
    let a : flash_byte flash p ≡ first % 256 = ap (flash_byte flash) (sym z) ∙ g 0 (omega arith) in
    let b : flash_byte flash (p + 1) ≡ first / 256 = g 1 (omega arith) in
    let c : flash_byte flash (p + 2) ≡ second % 256 = g 2 (omega arith) in
    let d : flash_byte flash (p + 2 + 1) ≡ second / 256 = ap (flash_byte flash) y ∙ g 3 (omega arith) in
    (omega arith, omega arith)

-- what is open has its bytes, where it is a BL to a function or the word for a thing
abbrev pub IsCallable : Bool → What → Type 0
IsCallable true (Function f) = Unit {0}
IsCallable true what = ⊥
IsCallable false what = Unit {0}

-- and what stands for it has an address
abbrev pub IsSet : Addresses → What → Type 0
IsSet a (Function f) = IsPlace (callee_at a f) × IsPlace (a.function f)
IsSet a (Text i) = IsPlace (a.text i)
IsSet a (Class c) = IsPlace (a.class c)

pub word_small : (a : Addresses) (what : What) → IsSet a what → word_for a what < 2 ^ 32
word_small a (Function f) h = let g = h.1 in let l = g.0 in omega arith
word_small a (Text i) h = let l = h.0 in omega arith
word_small a (Class c) h = let l = h.0 in omega arith

opened_there : (flash : List ℕ) (a : Addresses) (base p : ℕ) → p % 2 ≡ 0 → p < 2 ^ 20 → (call : Bool) (what : What) → IsSet a what → IsCallable call what → HasFour flash p (opened a p call what)
    → IsOpened flash base (callee_at a) (word_for a) call p what
opened_there flash a base p e l true (Function f) h ok g =
    let to = h.0 in
    let low = to.0 in
    let four = to.1 in
    let o = offset p (callee_at a f) in
    let fits = bl_reaches p (callee_at a f) e (omega arith) l (omega arith) in
    let halves = call_there flash p (half (Bl o)) refl g _ _ refl in
    (o, fits.0, (sym halves.0, sym halves.1), fits.1)
opened_there flash a base p e l true (Text i) h ok g = elim ok [ ]
opened_there flash a base p e l true (Class c) h ok g = elim ok [ ]
opened_there flash a base p e l false what h ok g = word_there flash p (word_for a what) (word_small a what h) g

-- the calls of laid code are of functions
abbrev pub AllCallable : List Fix → Type 0
AllCallable [] = Unit {0}
AllCallable (f ∷ fs) = IsCallable f.call f.what × AllCallable fs

abbrev AreFunctions : List What → Type 0
AreFunctions [] = Unit {0}
AreFunctions (Function f ∷ ws) = AreFunctions ws
AreFunctions (w ∷ ws) = ⊥

called_functions : (xs : List Piece) → AreFunctions (called xs)
called_functions [] = tt
called_functions (Plain x ∷ xs) = called_functions xs
called_functions (Label l ∷ xs) = called_functions xs
called_functions (Go c l ∷ xs) = called_functions xs
called_functions (CallTo f ∷ xs) = called_functions xs
called_functions (Number rd v ∷ xs) = called_functions xs
called_functions (Address rd w ∷ xs) = called_functions xs

callable_by : (call : Bool) (what : What) (ws : List What) → AreFunctions (cond call (what ∷ ws) ws) → IsCallable call what × AreFunctions ws
callable_by true (Function f) ws h = (tt, h)
callable_by true (Text i) ws h = elim h [ ]
callable_by true (Class c) ws h = elim h [ ]
callable_by false what ws h = (tt, h)

callable_from : (fs : List Fix) → AreFunctions (callees fs) → AllCallable fs
callable_from [] h = tt
callable_from (f ∷ fs) h = let g = callable_by f.call f.what (callees fs) h in (g.0, callable_from fs g.1)

pub laid_callable : (xs : List Piece) → AllCallable (laid xs).fixes
laid_callable xs = callable_from (laid xs).fixes (subst AreFunctions (sym (fixes_called xs)) (called_functions xs))

-- what was open in code that a flash has is there
pub are_fixed : (flash : List ℕ) (a : Addresses) (at from : ℕ) (fs : List Fix) (to : ℕ) → at % 4 ≡ 0 → at + to ≤ flash_end → StandApart from fs to → AllByRecursion (λ f. IsSet a f.what) fs
    → AreFilled flash a at fs → AllCallable fs → AreFixed flash at (callee_at a) (word_for a) fs
are_fixed flash a at from [] to e l apart set h ok = tt
are_fixed flash a at from (f ∷ fs) to e l apart set h ok =
    let even = apart.1 in
    let within = apart_within (f.at + 4) fs to apart.2 in
    let four : HasFour flash (at + f.at) (opened a (at + f.at) f.call f.what) =
    (λ j m. (let z : at + f.at + j ≡ at + (f.at + j) = omega arith in ap (flash_byte flash) z ∙ h.0 j m (apart_outside (f.at + 4) fs to (f.at + j) apart.2 (omega arith)))) in
    (opened_there flash a at (at + f.at) (omega arith) (omega arith) f.call f.what set.0 ok.0 four, are_fixed flash a at (f.at + 4) fs to e l apart.2 set.1 h.1 ok.1)

-- texts that bodies name are in the image
this_text : (i : ℕ) (what : What) → what ≡ Text i → is_this_text i what ≡ true
this_text i what e = let t : (i == i) ≡ true = grind (arith, nat_tests) in ap (is_this_text i) e ∙ t

named_by : (i : ℕ) (call : Bool) (what : What) (ws : List What) (later : Bool) → ((k : ℕ) → k < length ws → get_or ws k (Text i) ≡ Text i → later ≡ true)
    → (k : ℕ) → k < length (cond call ws (what ∷ ws)) → get_or (cond call ws (what ∷ ws)) k (Text i) ≡ Text i → (is_this_text i what || later) ≡ true
named_by i true what ws later rest k l e = ap (λ b. is_this_text i what || b) (rest k l e) ∙ or_true (is_this_text i what)
named_by i false what ws later rest zero l e = ap (λ b. b || later) (this_text i what e)
named_by i false what ws later rest (suc k) l e = ap (λ b. is_this_text i what || b) (rest k (omega arith) e) ∙ or_true (is_this_text i what)

addressed_names : (i : ℕ) (fs : List Fix) (k : ℕ) → k < length (addressed fs) → get_or (addressed fs) k (Text i) ≡ Text i → names_text i fs ≡ true
addressed_names i [] k l e = absurd (omega arith)
addressed_names i (f ∷ fs) k l e = named_by i f.call f.what (addressed fs) (names_text i fs) (addressed_names i fs) k l e

pub laid_at : (bodies : List (List Piece)) (f : ℕ) (body : List Piece) → slice_get bodies f ≡ Some body → slice_get (map laid bodies) f ≡ Some (laid body)
laid_at bodies f body e = slice_get-map laid bodies f ∙ ap (option_map laid) e

pub text_named : (bodies : List (List Piece)) (i : ℕ) → IsNamed bodies i → is_named (map laid bodies) i ≡ true
text_named bodies i h =
    let e = fixes_named h.body in
    let a = subst (λ ws. Contains ws (Text i)) (sym e) h.among in
    named_in i (map laid bodies) h.function (laid h.body) (laid_at bodies h.function h.body h.there) (addressed_names i (laid h.body).fixes a.0 a.1 a.2)

-- the words of a class's table
pub slot_there : (a : Addresses) (fs : List ℕ) (j g : ℕ) → slice_get fs j ≡ Some g → (i : ℕ) → i < 4 → slice_index (slot_words a fs) (4 * j + i) ≡ slice_index (word_bytes (word_for a (Function g))) i
slot_there a [] j g e i l = let bad : ⊥ = cc in absurd bad
slot_there a (f ∷ fs) zero g e i l =
    let same : f ≡ g = cc in
    let z : 4 * 0 + i ≡ i = omega arith in
    ap (λ n. slice_index (slot_words a (f ∷ fs)) n) z ∙ (get_or_append_left (word_bytes (word_for a (Function f))) (slot_words a fs) 0 i l ∙ ap (λ q. slice_index (word_bytes (word_for a (Function q))) i) same)
slot_there a (f ∷ fs) (suc j) g e i l =
    let z : 4 * suc j + i ≡ 4 + (4 * j + i) = omega arith in
    ap (λ n. slice_index (slot_words a (f ∷ fs)) n) z ∙ (get_or-append-add (word_bytes (word_for a (Function f))) (slot_words a fs) (4 * j + i) 0 ∙ slot_there a fs j g e i l)

-- the bytes of a text
pub bytes_there : (flash : List ℕ) (t : List ℕ) (p : ℕ) → ((k : ℕ) → k < length t → flash_byte flash (p + k) ≡ slice_index t k) → flash_bytes flash (length t) p ≡ t
bytes_there flash [] p h = refl
bytes_there flash (b ∷ t) p h =
    let z : p + 0 ≡ p = omega arith in
    let first : flash_byte flash p ≡ b = ap (flash_byte flash) (sym z) ∙ h 0 (omega arith) in
    ap (λ q. q ∷ flash_bytes flash (length t) (p + 1)) first
    ∙ ap (λ q. b ∷ q) (bytes_there flash t (p + 1) (λ k l. (let y : p + 1 + k ≡ p + suc k = omega arith in ap (flash_byte flash) y ∙ h (suc k) (omega arith))))
