-- Filled code, as a flash shows it.
use Rattle.std.proofs.Common.{◌≡◌, ℕ, pos, negsuc, zero, suc, ◌+◌, ◌-◌, ◌%◌, ◌^◌, ◌<◌, ◌≤◌, ◌⊎◌, ◌≢◌, inl, inr, List, [], ◌∷◌, length, Bool, true, false, cond, nat_lt, refl, sym, ap, ◌∙◌, subst, arith, get_or, set}
use Rattle.std.proofs.lemmas.Bool.Decides.{nat_tests}
use Rattle.std.proofs.lemmas.Int.{ints}
use Rattle.std.specs.Prelude.{map}
use Rattle.std.specs.List.{AllByRecursion}
use Rattle.std.proofs.lemmas.List.{get_or-set_same, get_or-set_other, get_or_default, length-set}
use Rattle.std.proofs.lemmas.List.Edits.{sets}
use Rattle.std.proofs.Math.Seq.{length-sets}
use Rattle.thumb_code.specs.declared.instructions.Instr.TheVariants.{Bl}
use Rattle.thumb_code.specs.Table.{Fits, IsOffset}
use Rattle.thumb_code.specs.Map.{flash_byte}
use Rattle.thumb_layout.specs.declared.laid.Laid.{Laid}
use Rattle.thumb_layout.specs.declared.pieces.What.{What}
use Rattle.thumb_layout.specs.declared.pieces.What.TheVariants.{Function, Text, Class}
use Rattle.thumb_layout.specs.declared.laid.Fix.{Fix}
use Rattle.thumb_layout.specs.declared.pieces.Piece.{Piece}
use Rattle.thumb_layout.specs.Cells.{offset, laid}
use Rattle.thumb_layout.specs.Holds.{moved}
use Rattle.thumb_layout.specs.Flash.{IsOutside}
use Rattle.thumb_layout.specs.Openings.{StandApart}
use Rattle.thumb_layout.proofs.Laws.{fixes_apart}
use Rattle.thumb_emit.specs.InFlash.{Addresses}
use Rattle.image_link.specs.Image.{opened, AreFilled, HasFunction}
use Rattle.image_link.specs.Linkable.{IsFixOf}
use Rattle.image_link.specs.inner.{filled}
use Rattle.image_link.proofs.Written.{AreFixesOf}
use Rattle.image_link.proofs.Whole.{filled_long}

-- a branch of 25 bits leads to its target

reaches_by : (at to : ℕ) (b : Bool) → nat_lt to (at + 4) ≡ b → at % 2 ≡ 0 → to % 2 ≡ 0 → at < 2 ^ 20 → to < 2 ^ 20 → IsOffset 25 (cond b (negsuc (at + 3 - to)) (pos (to - (at + 4)))) × (moved at (cond b (negsuc (at + 3 - to)) (pos (to - (at + 4)))) ≡ to)
reaches_by at to true e i j k l = let n : to < at + 4 = grind (arith, nat_tests) in ((omega (arith, ints), omega (arith, ints), omega arith), omega arith)
reaches_by at to false e i j k l = let n : at + 4 ≤ to = grind (arith, nat_tests) in ((omega (arith, ints), omega (arith, ints), omega arith), omega arith)

pub bl_reaches : (at to : ℕ) → at % 2 ≡ 0 → to % 2 ≡ 0 → at < 2 ^ 20 → to < 2 ^ 20 → Fits (Bl (offset at to)) × (moved at (offset at to) ≡ to)
bl_reaches at to i j k l =
    let h = reaches_by at to (nat_lt to (at + 4)) refl i j k l in
    (((omega arith, (omega arith, (omega arith, (omega arith, (omega arith, (omega arith, (omega arith, (omega arith, tt)))))))), h.0), h.1)

-- what is put in place of bytes, and what stays
pub sets_outside : (bytes : List ℕ) (at : ℕ) (ys : List ℕ) (k d : ℕ) → (k < at) ⊎ (at + length ys ≤ k) → get_or (sets bytes at ys) k d ≡ get_or bytes k d
sets_outside bytes at [] k d h = refl
sets_outside bytes at (y ∷ ys) k d (inl h) = let n : k ≢ at = omega arith in sets_outside (set bytes at y) (suc at) ys k d (inl (omega arith)) ∙ get_or-set_other bytes at k y d n
sets_outside bytes at (y ∷ ys) k d (inr h) = let n : k ≢ at = omega arith in sets_outside (set bytes at y) (suc at) ys k d (inr (omega arith)) ∙ get_or-set_other bytes at k y d n

pub sets_inside : (bytes : List ℕ) (at : ℕ) (ys : List ℕ) (j d : ℕ) → at + length ys ≤ length bytes → j < length ys → get_or (sets bytes at ys) (at + j) d ≡ get_or ys j d
sets_inside bytes at [] j d l h = absurd (omega arith)
sets_inside bytes at (y ∷ ys) zero d l h =
    let z : at + 0 ≡ at = omega arith in
    ap (λ n. get_or (sets (set bytes at y) (suc at) ys) n d) z ∙ (sets_outside (set bytes at y) (suc at) ys at d (inl (omega arith)) ∙ get_or-set_same bytes at y d (omega arith))
sets_inside bytes at (y ∷ ys) (suc j) d l h =
    let z : at + suc j ≡ suc at + j = omega arith in
    let n = length-set bytes at y in
    ap (λ n. get_or (sets (set bytes at y) (suc at) ys) n d) z ∙ sets_inside (set bytes at y) (suc at) ys j d (omega arith) (omega arith)

pub four_bytes : (a : Addresses) (at : ℕ) (call : Bool) (what : What) → length (opened a at call what) ≡ 4
four_bytes a at true (Function f) = refl
four_bytes a at true (Text i) = refl
four_bytes a at true (Class c) = refl
four_bytes a at false what = refl

-- outside what is open filled code is the code
pub filled_outside : (a : Addresses) (at : ℕ) (fs : List Fix) (bytes : List ℕ) (k d : ℕ) → IsOutside k fs → get_or (filled a at fs bytes) k d ≡ get_or bytes k d
filled_outside a at [] bytes k d h = refl
filled_outside a at (f ∷ fs) bytes k d h =
    let four = opened a (at + f.at) f.call f.what in
    let n = four_bytes a (at + f.at) f.call f.what in
    filled_outside a at fs (sets bytes f.at four) k d h.1 ∙ sets_outside bytes f.at four k d (subst (λ m. (k < f.at) ⊎ (f.at + m ≤ k)) (sym n) h.0)

-- fixes from a place on leave what is before it
pub apart_outside : (from : ℕ) (fs : List Fix) (to k : ℕ) → StandApart from fs to → k < from → IsOutside k fs
apart_outside from [] to k h l = tt
apart_outside from (f ∷ fs) to k h l = let x = h.0 in (inl (omega arith), apart_outside (f.at + 4) fs to k h.2 (omega arith))

pub apart_within : (from : ℕ) (fs : List Fix) (to : ℕ) → StandApart from fs to → from ≤ to
apart_within from [] to h = h
apart_within from (f ∷ fs) to h = let x = h.0 in let y = apart_within (f.at + 4) fs to h.2 in omega arith

-- each fix has its four bytes there, but for those that one behind it has
abbrev AreIn : Addresses → ℕ → List ℕ → List Fix → Type 0
AreIn a at out [] = Unit {0}
AreIn a at out (f ∷ fs) =
    ((f.at + 4 ≤ length out) × ((j : ℕ) → j < 4 → IsOutside (f.at + j) fs → get_or out (f.at + j) 255 ≡ get_or (opened a (at + f.at) f.call f.what) j 255)) × AreIn a at out fs

all_in : (a : Addresses) (at : ℕ) (fs : List Fix) (bytes : List ℕ) → AllByRecursion (IsFixOf (length bytes)) fs → AreIn a at (filled a at fs bytes) fs
all_in a at [] bytes h = tt
all_in a at (f ∷ fs) bytes h =
    let four = opened a (at + f.at) f.call f.what in
    let next = sets bytes f.at four in
    let n = four_bytes a (at + f.at) f.call f.what in
    let same : length next ≡ length bytes = length-sets bytes f.at four in
    let room = h.0.within in
    let long = filled_long a at fs next in (
      (omega arith, λ j l o. filled_outside a at fs next (f.at + j) 255 o ∙ sets_inside bytes f.at four j 255 (omega arith) (omega arith)),
      all_in a at fs next (subst (λ m. AllByRecursion (IsFixOf m) fs) (sym same) h.1),
    )

shown_in : (flash : List ℕ) (a : Addresses) (at : ℕ) (out : List ℕ) (fs : List Fix) → ((k : ℕ) → k < length out → flash_byte flash (at + k) ≡ get_or out k 255) → AreIn a at out fs → AreFilled flash a at fs
shown_in flash a at out [] shown h = tt
shown_in flash a at out (f ∷ fs) shown h =
    let four = opened a (at + f.at) f.call f.what in
    let n = four_bytes a (at + f.at) f.call f.what in
    let room = h.0.0 in
    (λ j l o. shown (f.at + j) (omega arith) ∙ (h.0.1 j l o ∙ get_or_default four j 255 0 (omega arith)), shown_in flash a at out fs shown h.1)

-- where filled code stands, a function's code does
pub function_there : (flash : List ℕ) (a : Addresses) (at : ℕ) (l : Laid) → AreFixesOf l → ((k : ℕ) → k < length l.bytes → flash_byte flash (at + k) ≡ get_or (filled a at l.fixes l.bytes) k 255) → HasFunction flash a at l
function_there flash a at l fixed shown =
    let long = filled_long a at l.fixes l.bytes in
    record {
      bytes = λ k m o. shown k m ∙ (filled_outside a at l.fixes l.bytes k 255 o ∙ get_or_default l.bytes k 255 0 m);
      fixes = shown_in flash a at (filled a at l.fixes l.bytes) l.fixes (λ k m. shown k (omega arith)) (all_in a at l.fixes l.bytes fixed);
    }

-- fixes stand in their code
apart_are : (from : ℕ) (fs : List Fix) (to : ℕ) → StandApart from fs to → AllByRecursion (IsFixOf to) fs
apart_are from [] to h = tt
apart_are from (f ∷ fs) to h = let w = apart_within (f.at + 4) fs to h.2 in (record { even = h.1; within = w }, apart_are (f.at + 4) fs to h.2)

pub all_fixed : (bodies : List (List Piece)) → AllByRecursion AreFixesOf (map laid bodies)
all_fixed [] = tt
all_fixed (body ∷ bodies) = (apart_are 0 (laid body).fixes (length (laid body).bytes) (fixes_apart body), all_fixed bodies)
