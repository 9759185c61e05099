-- A flash that has the routine's halfwords: its instructions are fetched from it.
use Rattle.std.proofs.Common.{zero, suc, ◌≡◌, ℕ, ◌+◌, ◌*◌, ◌/◌, ◌%◌, ◌^◌, ◌<◌, ◌≤◌, List, [], ◌∷◌, ◌++◌, Bool, true, false, length, refl, sym, ap, ◌∙◌, subst, arith, slice_get, Some, slice_index, map}
use Rattle.std.specs.Prelude.{◌&&◌, if◌then◌else◌, Option, negsuc}
use Rattle.std.proofs.lemmas.Bool.{false≢true, lt-ltb, ne_eqb}
use Rattle.thumb_code.specs.declared.instructions.Instr.{Instr}
use Rattle.thumb_code.specs.declared.instructions.Instr.TheVariants.{LslImm, LsrImm, B}
use Rattle.thumb_code.specs.RegisterFile.{is_odd, word}
use Rattle.thumb_code.specs.Reading.{is_wide, reading_of}
use Rattle.thumb_code.specs.Faults.{not_thumb, out_of_map, stack_range}
use Rattle.thumb_code.specs.Map.{flash_byte, flash_half, flash_end, in_flash, is_base}
use Rattle.thumb_code.specs.Step.{Found, Missed, fetched, found, behind}
use Rattle.thumb_code.specs.Table.{spelling, half, Fits, IsSpelling, is_two}
use Rattle.thumb_code.specs.declared.halfwords.Half.TheVariants.{One}
use Rattle.thumb_code.proofs.Laws.{is_wide-spelled, reading_of-spelled}
use Rattle.thumb_divide.specs.Routine.{signs, skips, round_above, rounds_above, last_round, signs_again, routine, routine_halfwords, bytes_of, routine_bytes, routine_length, HasRoutine, HoldsRoutine}

-- an instruction's halfword is one, and reads as the instruction
abbrev IsRead : Instr → Type 0
IsRead x = (is_wide (spelling x) ≡ false) × ((second : ℕ) → reading_of (spelling x) second ≡ Some x)

abbrev AllRead : List Instr → Type 0
AllRead [] = Unit {0}
AllRead (x ∷ xs) = IsRead x × AllRead xs

both-read : (xs ys : List Instr) → AllRead xs → AllRead ys → AllRead (xs ++ ys)
both-read [] ys a b = b
both-read (x ∷ xs) ys a b = (a.0, both-read xs ys a.1 b)

-- what a law says of an instruction whose fields fit
fits-read : (x : Instr) → Fits x → half x ≡ One (spelling x) → IsRead x
fits-read x fits e =
    let f : IsSpelling (half x) (spelling x) 0 = rw e refl in
    (is_wide-spelled x (spelling x) 0 fits f ∙ ap is_two e, λ s. reading_of-spelled x (spelling x) s fits (rw e refl))

shift-read : (k : ℕ) → k < 32 → IsRead (LsrImm 3 2 k) × IsRead (LslImm 3 1 k)
shift-read k l = (fits-read (LsrImm 3 2 k) fits refl, fits-read (LslImm 3 1 k) fits' refl)
  where
    fits : Fits (LsrImm 3 2 k)
    fits = ((omega arith, (l, (omega arith, (omega arith, tt)))), tt)

    fits' : Fits (LslImm 3 1 k)
    fits' = ((omega arith, (l, (omega arith, (omega arith, tt)))), tt)

round-read : (k : ℕ) → k < 32 → AllRead (round_above k)
round-read k l = let s = shift-read k l in (s.0, ((refl, λ s. refl), ((refl, λ s. refl), (s.1, ((refl, λ s. refl), ((refl, λ s. refl), tt))))))

rounds-read : (more lowest : ℕ) → more + lowest ≤ 32 → AllRead (rounds_above more lowest)
rounds-read zero lowest l = tt
rounds-read (suc more) lowest l = both-read (round_above (more + lowest)) (rounds_above more lowest) (round-read (more + lowest) (omega arith)) (rounds-read more lowest (omega arith))

signs-read : AllRead signs
signs-read = ((refl, λ s. refl), ((refl, λ s. refl), ((refl, λ s. refl), ((refl, λ s. refl), ((refl, λ s. refl), ((refl, λ s. refl), ((refl, λ s. refl), ((refl, λ s. refl), ((refl, λ s. refl), ((refl, λ s. refl), ((refl, λ s. refl), ((refl, λ s. refl), ((refl, λ s. refl), ((refl, λ s. refl), ((refl, λ s. refl), ((refl, λ s. refl), tt))))))))))))))))

skips-read : AllRead skips
skips-read = ((refl, λ s. refl), ((refl, λ s. refl), ((refl, λ s. refl), ((refl, λ s. refl), ((refl, λ s. refl), ((refl, λ s. refl), ((refl, λ s. refl), ((refl, λ s. refl), ((refl, λ s. refl), ((refl, λ s. refl), ((refl, λ s. refl), ((refl, λ s. refl), ((refl, λ s. refl), ((refl, λ s. refl), ((refl, λ s. refl), ((refl, λ s. refl), tt))))))))))))))))

last-read : AllRead last_round
last-read = ((refl, λ s. refl), ((refl, λ s. refl), ((refl, λ s. refl), ((refl, λ s. refl), tt))))

again-read : AllRead signs_again
again-read = ((refl, λ s. refl), ((refl, λ s. refl), ((refl, λ s. refl), ((refl, λ s. refl), ((refl, λ s. refl), ((refl, λ s. refl), ((refl, λ s. refl), ((refl, λ s. refl), ((refl, λ s. refl), ((refl, λ s. refl), tt))))))))))

routine-read : AllRead routine
routine-read =
    both-read signs (skips ++ (rounds_above 15 1 ++ (last_round ++ (signs_again ++ (rounds_above 16 16 ++ (B (negsuc 403) ∷ [])))))) signs-read
    (both-read skips (rounds_above 15 1 ++ (last_round ++ (signs_again ++ (rounds_above 16 16 ++ (B (negsuc 403) ∷ []))))) skips-read
    (both-read (rounds_above 15 1) (last_round ++ (signs_again ++ (rounds_above 16 16 ++ (B (negsuc 403) ∷ [])))) (rounds-read 15 1 (omega arith))
    (both-read last_round (signs_again ++ (rounds_above 16 16 ++ (B (negsuc 403) ∷ []))) last-read
    (both-read signs_again (rounds_above 16 16 ++ (B (negsuc 403) ∷ [])) again-read
    (both-read (rounds_above 16 16) (B (negsuc 403) ∷ []) (rounds-read 16 16 (omega arith)) ((refl, λ s. refl), tt))))))

read-at : (xs : List Instr) (i : ℕ) (x : Instr) → AllRead xs → slice_get xs i ≡ Some x → IsRead x
read-at [] i x all e = let bad : ⊥ = cc in absurd bad
read-at (y ∷ ys) zero x all e = let same : y ≡ x = cc in subst IsRead same all.0
read-at (y ∷ ys) (suc i) x all e = read-at ys i x all.1 e

halfword-at : (xs : List Instr) (i : ℕ) (x : Instr) → slice_get xs i ≡ Some x → slice_get (map spelling xs) i ≡ Some (spelling x)
halfword-at [] i x e = let bad : ⊥ = cc in absurd bad
halfword-at (y ∷ ys) zero x e = let same : y ≡ x = cc in ap (λ z. Some (spelling z)) same
halfword-at (y ∷ ys) (suc i) x e = halfword-at ys i x e

within : {A : Type 0} (xs : List A) (i : ℕ) (x : A) → slice_get xs i ≡ Some x → i < length xs
within [] i x e = let bad : ⊥ = cc in absurd bad
within (y ∷ ys) zero x e = omega arith
within (y ∷ ys) (suc i) x e = let h = within ys i x e in omega arith

-- what is fetched, by its tests
fetched-by : (pc : ℕ) (second : Bool) (base : ℕ) (x : Instr) (b o inside w : Bool) (r : Option Instr) → b ≡ true → o ≡ false → inside ≡ true → w ≡ false → r ≡ Some x
    → (if b then (if o then Missed not_thumb (word (pc + 1)) else if inside && (if w then second else true) then found pc (behind pc w) r else Missed out_of_map pc) else Missed stack_range base) ≡ Found x (word (pc + 2))
fetched-by pc second base x true false true false r e f g h k = ap (found pc (word (pc + 2))) k
fetched-by pc second base x false o inside w r e f g h k = absurd (false≢true e)
fetched-by pc second base x true true inside w r e f g h k = absurd (false≢true (sym f))
fetched-by pc second base x true false false w r e f g h k = absurd (false≢true g)
fetched-by pc second base x true false true true r e f g h k = absurd (false≢true (sym h))

fetched-one : (flash : List ℕ) (base pc h : ℕ) (x : Instr) → is_base base ≡ true → pc % 2 ≡ 0 → pc + 2 ≤ flash_end → flash_half flash pc ≡ h → is_wide h ≡ false
    → ((second : ℕ) → reading_of h second ≡ Some x) → fetched flash base pc ≡ Found x (word (pc + 2))
fetched-one flash base pc h x b even room is one reads =
    fetched-by pc (in_flash (pc + 2)) base x (is_base base) (is_odd pc) (in_flash pc) (is_wide (flash_half flash pc)) (reading_of (flash_half flash pc) (flash_half flash (pc + 2))) b
    (ne_eqb (pc % 2) 1 (λ e. absurd (omega arith)))
    (lt-ltb pc flash_end (omega arith))
    (ap is_wide is ∙ one)
    (ap (λ n. reading_of n (flash_half flash (pc + 2))) is ∙ reads (flash_half flash (pc + 2)))

pub routine_stands : (flash : List ℕ) (base at : ℕ) → is_base base ≡ true → HasRoutine flash at → HoldsRoutine (fetched flash base) at
routine_stands flash base at b has = record {
  each = λ i x e. (
      let read = read-at routine i x routine-read e in
      let few : i < 233 = within routine i x e in
      let even = has.even in
      let room = has.inside in
      let there = fetched-one flash base (at + 2 * i) (spelling x) x b (omega arith) (omega arith) (has.halfwords i (spelling x) (halfword-at routine i x e)) read.0 read.1 in
      let next : word (at + 2 * i + 2) ≡ at + (2 * i + 2) = omega arith in
      there ∙ ap (Found x) next);
  low = has.inside;
}

-- bytes, by halfwords
bytes-at : (hs : List ℕ) (i h : ℕ) → slice_get hs i ≡ Some h → (slice_index (bytes_of hs) (2 * i) ≡ h % 256) × (slice_index (bytes_of hs) (2 * i + 1) ≡ h / 256)
bytes-at [] i h e = let bad : ⊥ = cc in absurd bad
bytes-at (x ∷ xs) zero h e = let same : x ≡ h = cc in (ap (λ n. n % 256) same, ap (λ n. n / 256) same)
bytes-at (x ∷ xs) (suc i) h e =
    let rest = bytes-at xs i h e in
    let low : 2 * suc i ≡ suc (suc (2 * i)) = omega arith in
    let high : 2 * suc i + 1 ≡ suc (suc (2 * i + 1)) = omega arith in
    (ap (slice_index (bytes_of (x ∷ xs))) low ∙ rest.0, ap (slice_index (bytes_of (x ∷ xs))) high ∙ rest.1)

-- a flash with the routine's bytes has its halfwords
pub bytes_have_routine : (flash : List ℕ) (at : ℕ) → at % 2 ≡ 0 → at + routine_length ≤ flash_end → ((k : ℕ) → k < routine_length → flash_byte flash (at + k) ≡ slice_index routine_bytes k) → HasRoutine flash at
bytes_have_routine flash at even inside bytes = record {
  even = even;
  inside = inside;
  halfwords = λ i h e. (
      let few : i < 233 = within routine_halfwords i h e in
      let parts = bytes-at routine_halfwords i h e in
      let low : flash_byte flash (at + 2 * i) ≡ h % 256 = bytes (2 * i) (omega arith) ∙ parts.0 in
      let place : at + 2 * i + 1 ≡ at + (2 * i + 1) = omega arith in
      let high : flash_byte flash (at + 2 * i + 1) ≡ h / 256 = ap (flash_byte flash) place ∙ bytes (2 * i + 1) (omega arith) ∙ parts.1 in
      let whole : h % 256 + h / 256 * 2 ^ 8 ≡ h = omega arith in
      ap (λ n. n + flash_byte flash (at + 2 * i + 1) * 2 ^ 8) low ∙ ap (λ n. h % 256 + n * 2 ^ 8) high ∙ whole);
}
