-- Reading answers what a text spells, and the rule that it breaks first; each text does one of the two.
use Rattle.std.proofs.Common.{◌≡◌, ◌⊎◌, inl, inr, Bool, true, false, cond, List, [], ◌∷◌, ◌++◌, ℕ, Option, Some, None, Result, Ok, Err, refl, sym, ap, ◌∙◌, map, subst}
use Rattle.std.proofs.lemmas.List.{append_assoc, append-nil}
use Rattle.std.proofs.lemmas.Option.{same_Some}
use Rattle.std.specs.Prelude.{unwrap_or, IfOk, IfErr}
use Rattle.hex_image.specs.declared.refused.HexCode.{HexCode}
use Rattle.hex_image.specs.declared.refused.HexCode.TheVariants.{AfterEnd, NoEnd}
use Rattle.hex_image.specs.declared.refused.HexRefused.{HexRefused}
use Rattle.hex_image.specs.declared.refused.HexRefused.TheVariants.{Image, NoMemory}
use Rattle.hex_image.specs.declared.flash.Base.TheVariants.{Zero}
use Rattle.hex_image.specs.Records.{Record, full_lines, record_of}
use Rattle.hex_image.specs.Image.{given, image_of}
use Rattle.hex_image.specs.Spells.{has_end, base_after, Say, AreSound, Spells, cells_fault, fault_behind, read_fault, BreaksAtLine, Breaks}
use Rattle.hex_image.specs.Reading.{Progress, ◌>>=◌, behind_record, behind_line, behind_lines, nothing_read, finished, reading}
use Rattle.hex_image.specs.Answers.{Gives, HasCause}
use Rattle.hex_image.specs.Laws.{OneReading}
use Rattle.hex_image.proofs.FlashLemmas.{image_of-flash}
use Rattle.hex_image.proofs.RecordLemmas.{AreOnce-record}
use Rattle.hex_image.proofs.ProgressLemmas.{new_cells, progress_of, behind_record-fault, behind_record-taken}
use Rattle.hex_image.proofs.SoundLemmas.{Kept, kept_before, AreSound-nil, AreSound-push}

-- ---- one line

-- a line that breaks a rule
line_breaks : (records : List Record) (line : List ℕ) (code : HexCode) → fault_behind records line ≡ Some code → behind_line (progress_of records) line ≡ Err code
unfolding behind_line
line_breaks records line code = go (has_end records) (record_of line)
  where
    go : (b : Bool) (said : Result Record HexCode) → cond b (Some AfterEnd) (read_fault records said) ≡ Some code → cond b (Err AfterEnd) (said >>= behind_record (progress_of records)) ≡ Err code
    go true said h = ap Err (same_Some AfterEnd code h)
    go false (Err e) h = ap Err (same_Some e code h)
    go false (Ok r) h = behind_record-fault records r code h

-- a line that breaks none
line_keeps : (records : List Record) (line : List ℕ) (r : Record) → record_of line ≡ Ok r → Kept records r → behind_line (progress_of records) line ≡ Ok (progress_of (records ++ r ∷ []))
unfolding behind_line
line_keeps records line r said kept =
    ap (λ b. cond b (Err AfterEnd) (record_of line >>= behind_record (progress_of records))) kept.open_end
    ∙ ap (λ x. x >>= behind_record (progress_of records)) said
    ∙ behind_record-taken records r kept.fault kept.once

-- what no fault says of a line
pub record Keeps (records : List Record) (line : List ℕ) : Type 0 where
  pub meant : Record
  pub said : record_of line ≡ Ok meant
  pub open_end : has_end records ≡ false
  pub fault : cells_fault (given Zero records) (new_cells records meant) ≡ None

keeps_from_none : (records : List Record) (line : List ℕ) → fault_behind records line ≡ None → Keeps records line
keeps_from_none records line = go (has_end records) (record_of line) refl refl
  where
    go : (b : Bool) (said : Result Record HexCode) → has_end records ≡ b → record_of line ≡ said → cond b (Some AfterEnd) (read_fault records said) ≡ None → Keeps records line
    go true said p q h = cc h
    go false (Err e) p q h = cc h
    go false (Ok r) p q h = record { meant = r; said = q; open_end = p; fault = h }

-- ---- all lines

lines_keep : (lines : List (List ℕ)) (before records : List Record) → Say lines records → AreSound (before ++ records) → behind_lines (progress_of before) lines ≡ Ok (progress_of (before ++ records))
unfolding behind_lines
lines_keep [] before [] said sound = ap (λ (rs : List Record). Ok (progress_of rs)) (sym (append-nil before))
lines_keep [] before (r ∷ records) said sound = absurd said
lines_keep (line ∷ lines) before [] said sound = absurd said
lines_keep (line ∷ lines) before (r ∷ records) said sound =
    let assoc : (before ++ r ∷ []) ++ records ≡ before ++ r ∷ records = append_assoc before (r ∷ []) records in
    ap (λ x. x >>= λ next. behind_lines next lines) (line_keeps before line r said.0 (kept_before before records r sound))
    ∙ lines_keep lines (before ++ r ∷ []) records said.1 (rw assoc sound)
    ∙ ap (λ (rs : List Record). Ok (progress_of rs)) assoc

behind_lines-append : (so_far : Progress) (a b : List (List ℕ)) → behind_lines so_far (a ++ b) ≡ (behind_lines so_far a >>= λ next. behind_lines next b)
unfolding behind_lines
behind_lines-append so_far [] b = refl
behind_lines-append so_far (line ∷ a) b = go (behind_line so_far line) (λ next. behind_lines-append next a b)
  where
    go : (x : Result Progress HexCode) → ((next : Progress) → behind_lines next (a ++ b) ≡ (behind_lines next a >>= λ next. behind_lines next b))
        → (x >>= λ next. behind_lines next (a ++ b)) ≡ ((x >>= λ next. behind_lines next a) >>= λ next. behind_lines next b)
    go (Ok next) h = h next
    go (Err e) h = refl

-- the lines of a text that keep the rules
pub text_keeps : (lines : List (List ℕ)) (records : List Record) → Say lines records → AreSound records → behind_lines nothing_read lines ≡ Ok (progress_of records)
text_keeps lines records said sound = lines_keep lines [] records said sound

-- what a text spells is read
pub reading-spells : (text image : List ℕ) → Spells text image → reading text ≡ Ok image
unfolding reading
reading-spells text image spelled =
    ap (λ x. x >>= finished) (text_keeps (full_lines text) spelled.records spelled.lines spelled.sound)
    ∙ ap (λ b. cond b (Ok (map (λ cell. unwrap_or cell 0xFF) (progress_of spelled.records).flash)) (Err NoEnd)) spelled.ended
    ∙ ap Ok (image_of-flash (given Zero spelled.records) ∙ sym spelled.content)

-- the rule that a text breaks first is the answer
pub reading-breaks : (text : List ℕ) (code : HexCode) → Breaks text code → reading text ≡ Err code
unfolding reading behind_lines
reading-breaks text code (inl broken) =
    ap (λ lines. behind_lines nothing_read lines >>= finished) broken.split
    ∙ ap (λ x. x >>= finished) (behind_lines-append nothing_read broken.front (broken.line ∷ broken.rest)
    ∙ ap (λ x. x >>= λ next. behind_lines next (broken.line ∷ broken.rest)) (text_keeps broken.front broken.records broken.said broken.sound)
    ∙ ap (λ x. x >>= λ next. behind_lines next broken.rest) (line_breaks broken.records broken.line code broken.fault))
reading-breaks text code (inr lacks) =
    ap (λ x. x >>= finished) (text_keeps (full_lines text) lacks.1.records lacks.1.said lacks.1.sound)
    ∙ ap (λ b. cond b (Ok (map (λ cell. unwrap_or cell 0xFF) (progress_of lacks.1.records).flash)) (Err NoEnd)) lacks.1.endless
    ∙ ap Err (sym lacks.0)

-- ---- each text does one of the two

-- sound records of the lines so far, and what comes of those that are left
abbrev Walked : List ℕ → Type 0
Walked text = ((records : List Record) × Say (full_lines text) records × AreSound records) ⊎ ((code : HexCode) × BreaksAtLine text code)

Say-push : (front : List (List ℕ)) (before : List Record) (line : List ℕ) (r : Record) → Say front before → record_of line ≡ Ok r → Say (front ++ line ∷ []) (before ++ r ∷ [])
Say-push [] [] line r said e = (e, tt)
Say-push [] (x ∷ before) line r said e = absurd said
Say-push (l ∷ front) [] line r said e = absurd said
Say-push (l ∷ front) (x ∷ before) line r said e = (said.0, Say-push front before line r said.1 e)

walk : (text : List ℕ) (rest front : List (List ℕ)) (before : List Record) → Say front before → AreSound before → full_lines text ≡ front ++ rest → Walked text
walk text [] front before said sound split = inl (before, rw (split, append-nil front) said, sound)
walk text (line ∷ rest) front before said sound split =
    go (fault_behind before line) refl (λ keeps.
    walk text rest (front ++ line ∷ []) (before ++ keeps.meant ∷ []) (Say-push front before line keeps.meant said keeps.said)
    (AreSound-push before keeps.meant sound keeps.open_end keeps.fault (AreOnce-record line keeps.meant (base_after before) keeps.said))
    (split ∙ sym (append_assoc front (line ∷ []) rest)))
  where
    go : (fault : Option HexCode) → fault_behind before line ≡ fault → (Keeps before line → Walked text) → Walked text
    go (Some code) e on = inr (code, record { front = front; line = line; rest = rest; records = before; split = split; said = said; sound = sound; fault = e })
    go None e on = on (keeps_from_none before line e)

pub spells_or_breaks : (text : List ℕ) → ((image : List ℕ) × Spells text image) ⊎ ((code : HexCode) × Breaks text code)
spells_or_breaks text = go (walk text (full_lines text) [] [] tt AreSound-nil refl)
  where
    ends : (records : List Record) → Say (full_lines text) records → AreSound records → (b : Bool) → has_end records ≡ b → ((image : List ℕ) × Spells text image) ⊎ ((code : HexCode) × Breaks text code)
    ends records said sound true e = inl (image_of (given Zero records), record { records = records; lines = said; sound = sound; ended = e; content = refl })
    ends records said sound false e = inr (NoEnd, inr (refl, record { records = records; said = said; sound = sound; endless = e }))

    go : Walked text → ((image : List ℕ) × Spells text image) ⊎ ((code : HexCode) × Breaks text code)
    go (inl all) = ends all.0 all.1 all.2 (has_end all.0) refl
    go (inr broken) = inr (broken.0, inl broken.1)

-- ---- what was answered

same_Ok : (a b : List ℕ) → ◌≡◌ {A = Result (List ℕ) HexCode} (Ok a) (Ok b) → a ≡ b
same_Ok a b e = cc

same_Err : (a b : HexCode) → ◌≡◌ {A = Result (List ℕ) HexCode} (Err a) (Err b) → a ≡ b
same_Err a b e = cc

-- what is read is spelled
pub Spells-from_reading : (text image : List ℕ) → reading text ≡ Ok image → Spells text image
Spells-from_reading text image h = go (spells_or_breaks text)
  where
    go : ((other : List ℕ) × Spells text other) ⊎ ((code : HexCode) × Breaks text code) → Spells text image
    go (inl s) = subst (Spells text) (same_Ok s.0 image (sym (reading-spells text s.0 s.1) ∙ h)) s.1
    go (inr b) = cc (sym h ∙ reading-breaks text b.0 b.1)

-- a code is of the rule that is broken first
pub Breaks-from_reading : (text : List ℕ) (code : HexCode) → reading text ≡ Err code → Breaks text code
Breaks-from_reading text code h = go (spells_or_breaks text)
  where
    go : ((image : List ℕ) × Spells text image) ⊎ ((other : HexCode) × Breaks text other) → Breaks text code
    go (inl s) = cc (sym h ∙ reading-spells text s.0 s.1)
    go (inr b) = subst (Breaks text) (same_Err b.0 code (sym (reading-breaks text b.0 b.1) ∙ h)) b.1

-- a text spells one image, or there is one rule that it breaks first
pub one_reading-of : (text : List ℕ) → OneReading text
one_reading-of text = record {
  either = spells_or_breaks text;
  one_image = λ a b s t. same_Ok a b (sym (reading-spells text a s) ∙ reading-spells text b t);
  one_code = λ a b s t. same_Err a b (sym (reading-breaks text a s) ∙ reading-breaks text b t);
  not_both = λ image code s b. cc (sym (reading-spells text image s) ∙ reading-breaks text code b);
}

-- ---- what a call returned

pub image_read : {V : Type 0} (view : V → List ℕ) → (r : Result V HexRefused) (text : List ℕ) → Gives view r (reading text) → IfOk r (λ v. Spells text (view v))
image_read view (Ok v) text h = Spells-from_reading text (view v) h
image_read view (Err e) text h = tt

pub cause_of : (e : HexRefused) (text : List ℕ) → HasCause e (λ code. reading text ≡ Err code) → HasCause e (Breaks text)
cause_of NoMemory text h = tt
cause_of (Image code) text h = Breaks-from_reading text code h

pub code_read : {V : Type 0} (view : V → List ℕ) → (r : Result V HexRefused) (text : List ℕ) → Gives view r (reading text) → IfErr r (λ e. HasCause e (Breaks text))
code_read view (Ok v) text h = tt
code_read view (Err e) text h = cause_of e text h
