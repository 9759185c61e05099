-- All rows of a view as a text, read back.
use Rattle.std.proofs.Common.{◌≡◌, ℕ, ◌+◌, ◌-◌, ◌<◌, ◌==◌, nat_lt, true, false, not, ◌&&◌, ◌||◌, List, [], ◌∷◌, ◌++◌, length, map, get_or, take, drop, replicate, Option, Some, None, ap, ◌∙◌, sym, refl, subst, arith, inl, inr, ◌⊎◌}
use Rattle.std.specs.Prelude.{codes}
use Rattle.std.specs.List.{flat_map, list_all}
use Rattle.std.specs.Char.{is_ascii_digit}
use Rattle.std.proofs.lemmas.Bool.{and_parts, and_from, cases_Bool, cases_eq, ne_eqb, not_from_false, false≢true, cond-true, cond-false}
use Rattle.std.proofs.lemmas.Bool.Decides.{nat_tests}
use Rattle.std.proofs.lemmas.List.{append_assoc, append-nil}
use Rattle.view_forms.specs.declared.notes.Note.{Note}
use Rattle.view_forms.specs.Shown.{is_shown_plain, shown_byte, shown_bytes, shown_text, hex_pair}
use Rattle.view_forms.specs.Parts.{lines_in, lead_size, line_lead, told_of, begins_by, ends_by}
use Rattle.view_forms.specs.Notes.{is_sentence, fits_note, note_said, is_number_sign}
use Rattle.view_forms.specs.Pictures.{shows_picture, shows_text, text_row, text_of_serial, is_hex_text, picture_rows, squares, squares_row, squares_cell, at_right, picture_row, picture_of}
use Rattle.view_forms.specs.declared.below.Below.{Below}
use Rattle.view_forms.specs.Below.{explanation_of, marked}
use Rattle.view_forms.specs.Rows.{literal, told_rows, line_rows, rows_from, text_of_rows}
use Rattle.view_forms.specs.Reading.{is_byte, unshown, before_byte, behind_byte, has_byte, lines_of_row, rows_read, lines_read}
use Rattle.view_forms.proofs.Digits.{hex-back, hex-bytes}
use Rattle.view_forms.proofs.Lacking.{lacks, all-append, all-flat_map, all-take, all-replicate, before-none, before-at, behind-at, has-none, has-at, rows-come_back, lines-lack, lines-all}
use Rattle.view_forms.proofs.Unshown.{shown-back, shown-lacks}
use Rattle.view_forms.proofs.Seen.{text_shown-back, text_shown-lacks}
use Rattle.view_forms.proofs.Parts.{lead-told, lead-digit, lead-signs, is_lead_sign, digit-no_space, begins-is}
use Rattle.view_forms.proofs.Pictures.{pictures-read_back}

-- a line's literal part
same-byte : (a b : ℕ) → (a == b) ≡ true → a ≡ b
same-byte a b h = grind (arith, nat_tests)

byte-no_space : (b : ℕ) (t : List ℕ) → (b == 32) ≡ false → (get_or (shown_byte b ++ t) 0 0 == 32) ≡ false
byte-no_space b t h =
    elim (cases_Bool (is_shown_plain b)) [
      | inl e ↦ rw e h
      | inr e ↦ rw e refl
    ]

literal-first : (line : List ℕ) → (get_or (literal line) 0 0 == 32) ≡ false
literal-first [] = refl
literal-first (b ∷ bs) =
    elim (cases_Bool (b == 32)) [
      | inl e ↦ rw e refl
      | inr e ↦ rw e (byte-no_space b (shown_bytes bs) e)
    ]

literal-lacks : (c : ℕ) (line : List ℕ) → is_shown_plain c ≡ false → c < 48 → lacks c (codes "\\x20") ≡ true → lacks c (literal line) ≡ true
literal-lacks c line h k s =
    elim (cases_Bool (get_or line 0 0 == 32)) [
      | inl e ↦ rw e (all-append (λ b. not (b == c)) (codes "\\x20") (shown_bytes (drop 1 line)) s (shown-lacks c (drop 1 line) h k))
      | inr e ↦ rw e (shown-lacks c line h k)
    ]

literal-back : (line : List ℕ) → list_all is_byte line ≡ true → unshown (literal line) ≡ line
literal-back [] h = refl
literal-back (b ∷ bs) h =
    elim (cases_Bool (b == 32)) [
      | inl e ↦ rw e (ap (λ t. 32 ∷ t) (shown-back bs (and_parts (is_byte b) (list_all is_byte bs) h).1) ∙ ap (λ c. c ∷ bs) (sym (same-byte b 32 e)))
      | inr e ↦ rw e (shown-back (b ∷ bs) h)
    ]

-- what is said of a line
abbrev pub IsSaid : List ℕ → Type 0
IsSaid said = (said ≡ []) ⊎ ((sentence : List ℕ) × (said ≡ 9 ∷ sentence) × (lacks 10 sentence ≡ true))

sentence-of : (n : Note) (told : List ℕ) → fits_note n told ≡ true → lacks 10 n.says.now ≡ true
sentence-of n told h =
    let rest = drop (length n.begins.now) told in
    let a = and_parts (begins_by n.begins.now told) (is_sentence n.says.now && (ends_by n.ends.now rest && list_all is_number_sign (take (length rest - length n.ends.now) rest))) h in
    (and_parts (is_sentence n.says.now) (ends_by n.ends.now rest && list_all is_number_sign (take (length rest - length n.ends.now) rest)) a.1).0

said-is : (notes : List Note) (told : List ℕ) → IsSaid (note_said notes told)
said-is [] told = inl refl
said-is (n ∷ ns) told =
    elim (cases_Bool (fits_note n told)) [
      | inl e ↦ inr (n.says.now, cond-true (fits_note n told) (9 ∷ n.says.now) (note_said ns told) e, sentence-of n told e)
      | inr e ↦ let P : List ℕ → Type 0 = IsSaid in subst P (sym (cond-false (fits_note n told) (9 ∷ n.says.now) (note_said ns told) e)) (said-is ns told)
    ]

-- a row whose part before the tab has no quotation mark
read-one : (row part line : List ℕ) (rows : List (List ℕ)) → (get_or row 0 0 == 32) ≡ false → before_byte 9 row ≡ part → has_byte 34 part ≡ false → unshown part ≡ line → lines_of_row row rows ≡ line ∷ []
read-one row part line rows first before none back = rw (first, before, none, back) refl

first-kept : (lit t : List ℕ) → (get_or lit 0 0 == 32) ≡ false → (get_or (lit ++ 9 ∷ t) 0 0 == 32) ≡ false
first-kept [] t h = refl
first-kept (b ∷ bs) t h = h

told-by : (literal said line : List ℕ) → IsSaid said → (get_or literal 0 0 == 32) ≡ false → lacks 9 literal ≡ true → lacks 34 literal ≡ true → unshown literal ≡ line
    → (rows : List (List ℕ)) → lines_of_row (literal ++ said) rows ≡ line ∷ []
told-by lit said line is first h9 h34 back rows =
    elim is [
      | inl none ↦
          let P : List ℕ → Type 0 = λ t. lines_of_row t rows ≡ line ∷ [] in
          subst P (sym (ap (λ t. lit ++ t) none ∙ append-nil lit)) (read-one lit lit line rows first (before-none 9 lit h9) (has-none 34 lit h34) back)
      | inr some ↦
          let P : List ℕ → Type 0 = λ t. lines_of_row (lit ++ t) rows ≡ line ∷ [] in
          subst P (sym some.1) (read-one (lit ++ 9 ∷ some.0) lit line rows (first-kept lit some.0 first) (before-at 9 lit some.0 refl h9) (has-none 34 lit h34) back)
    ]

-- a line with a text
sign-lacks : (c b : ℕ) → (is_ascii_digit c || (c == 32)) ≡ false → is_lead_sign b ≡ true → not (b == c) ≡ true
sign-lacks c b h k =
    elim (cases_eq b c) [
      | inl e ↦ absurd (false≢true (sym h ∙ ap is_lead_sign (sym e) ∙ k))
      | inr n ↦ not_from_false (b == c) (ne_eqb b c n)
    ]

signs-lack : (c : ℕ) (xs : List ℕ) → (is_ascii_digit c || (c == 32)) ≡ false → list_all is_lead_sign xs ≡ true → lacks c xs ≡ true
signs-lack c [] h k = refl
signs-lack c (x ∷ xs) h k =
    let q = and_parts (is_lead_sign x) (list_all is_lead_sign xs) k in
    and_from (not (x == c)) (lacks c xs) (sign-lacks c x h q.0) (signs-lack c xs h q.1)

read-text : (row before inside digits line : List ℕ) (rows : List (List ℕ)) → (get_or row 0 0 == 32) ≡ false → before_byte 9 row ≡ row → has_byte 34 row ≡ true → before_byte 34 row ≡ before
    → before_byte 34 (behind_byte 34 row) ≡ inside → flat_map hex_pair (unshown inside) ≡ digits → before ++ digits ≡ line → lines_of_row row rows ≡ line ∷ []
read-text row before inside digits line rows first nine has front between hex whole = rw (first, nine, has, front, between, hex, whole) refl

text-shape : (lead word inside : List ℕ) → lead ++ ((word ++ 34 ∷ []) ++ (inside ++ 34 ∷ [])) ≡ (lead ++ word) ++ 34 ∷ (inside ++ 34 ∷ [])
text-shape lead word inside = ap (λ t. lead ++ t) (append_assoc word (34 ∷ []) (inside ++ 34 ∷ [])) ∙ sym (append_assoc lead word (34 ∷ (inside ++ 34 ∷ [])))

digit-first : (lead t : List ℕ) → is_ascii_digit (get_or lead 0 0) ≡ true → (get_or (lead ++ t) 0 0 == 32) ≡ false
digit-first [] t h = absurd (false≢true h)
digit-first (x ∷ xs) t h = digit-no_space x h

text-back : (line : List ℕ) (rows : List (List ℕ)) → shows_text line ≡ true → lines_of_row (text_row line) rows ≡ line ∷ []
text-back line rows h =
    let a = and_parts (nat_lt 0 (lead_size line)) (begins_by (codes "serial ") (told_of line) && is_hex_text (drop 7 (told_of line))) h in
    let b = and_parts (begins_by (codes "serial ") (told_of line)) (is_hex_text (drop 7 (told_of line))) a.1 in
    let inside = shown_text (text_of_serial line) in
    let front = line_lead line ++ codes " serial " in
    let shape : text_row line ≡ front ++ 34 ∷ (inside ++ 34 ∷ []) = text-shape (line_lead line) (codes " serial ") inside in
    let lacks34 : lacks 34 front ≡ true = all-append (λ b. not (b == 34)) (line_lead line) (codes " serial ") (signs-lack 34 (line_lead line) refl (lead-signs line a.0)) refl in
    let lacks9 : lacks 9 front ≡ true = all-append (λ b. not (b == 9)) (line_lead line) (codes " serial ") (signs-lack 9 (line_lead line) refl (lead-signs line a.0)) refl in
    let inside34 : lacks 34 inside ≡ true = text_shown-lacks 34 (text_of_serial line) refl (omega arith) in
    let inside9 : lacks 9 inside ≡ true = text_shown-lacks 9 (text_of_serial line) refl (omega arith) in
    let all9 : lacks 9 (front ++ 34 ∷ (inside ++ 34 ∷ [])) ≡ true =
    all-append (λ b. not (b == 9)) front (34 ∷ (inside ++ 34 ∷ [])) lacks9 (all-append (λ b. not (b == 9)) inside (34 ∷ []) inside9 refl) in
    let P : List ℕ → Type 0 = λ row. lines_of_row row rows ≡ line ∷ [] in
    subst P (sym shape)
    (read-text (front ++ 34 ∷ (inside ++ 34 ∷ [])) front inside (drop 7 (told_of line)) line rows
    (ap (λ t. get_or t 0 0 == 32) (append_assoc (line_lead line) (codes " serial ") (34 ∷ (inside ++ 34 ∷ []))) ∙ digit-first (line_lead line) (codes " serial " ++ 34 ∷ (inside ++ 34 ∷ [])) (lead-digit line a.0))
    (before-none 9 (front ++ 34 ∷ (inside ++ 34 ∷ [])) all9)
    (has-at 34 front (inside ++ 34 ∷ []) refl lacks34)
    (before-at 34 front (inside ++ 34 ∷ []) refl lacks34)
    (ap (before_byte 34) (behind-at 34 front (inside ++ 34 ∷ []) refl lacks34) ∙ before-at 34 inside [] refl inside34)
    (ap (flat_map hex_pair) (text_shown-back (text_of_serial line) (hex-bytes (drop 7 (told_of line)) b.1)) ∙ hex-back (drop 7 (told_of line)) b.1)
    (append_assoc (line_lead line) (codes " serial ") (drop 7 (told_of line))
    ∙ sym (lead-told line a.0 ∙ ap (λ t. line_lead line ++ 32 ∷ t) (begins-is (codes "serial ") (told_of line) b.0))))

-- rows of an explanation
unmarked : (texts rows : List (List ℕ)) → rows_read (map marked texts ++ rows) ≡ rows_read rows
unmarked [] rows = refl
unmarked (text ∷ texts) rows = unmarked texts rows

told-back : (notes : List Note) (line : List ℕ) (text : Option (List ℕ)) (rows : List (List ℕ)) → list_all is_byte line ≡ true → rows_read (told_rows notes line text ++ rows) ≡ line ∷ rows_read rows
told-back notes line None rows h =
    ap (λ t. t ++ rows_read rows)
    (told-by (literal line) (note_said notes (told_of line)) line (said-is notes (told_of line)) (literal-first line)
    (literal-lacks 9 line refl (omega arith) refl) (literal-lacks 34 line refl (omega arith) refl) (literal-back line h) rows)
told-back notes line (Some text) rows h =
    ap (λ t. t ++ rows_read (map marked (lines_in text) ++ rows))
    (read-one (literal line) (literal line) line (map marked (lines_in text) ++ rows) (literal-first line) (before-none 9 (literal line) (literal-lacks 9 line refl (omega arith) refl))
    (has-none 34 (literal line) (literal-lacks 34 line refl (omega arith) refl)) (literal-back line h))
    ∙ ap (λ t. line ∷ t) (unmarked (lines_in text) rows)

pub rows-read_back : (notes : List Note) (below : List Below) (line : List ℕ) (rows : List (List ℕ)) → list_all is_byte line ≡ true → rows_read (line_rows notes below line ++ rows) ≡ line ∷ rows_read rows
rows-read_back notes below line rows h =
    let P : List (List ℕ) → Type 0 = λ t. rows_read (t ++ rows) ≡ line ∷ rows_read rows in
    elim (cases_Bool (shows_text line)) [
      | inl e ↦ subst P (sym (cond-true (shows_text line) (text_row line ∷ []) (told_rows notes line (explanation_of below line)) e)) (ap (λ t. t ++ rows_read rows) (text-back line rows e))
      | inr e ↦ subst P (sym (cond-false (shows_text line) (text_row line ∷ []) (told_rows notes line (explanation_of below line)) e)) (told-back notes line (explanation_of below line) rows h)
    ]

-- no row has a line feed
squares-lack : (x : ℕ) → lacks 10 (squares x) ≡ true
squares-lack x =
    elim (cases_Bool (x == 35)) [
      | inl e ↦ rw e refl
      | inr e ↦ rw e refl
    ]

squares_row-lacks : (r : ℕ) (lines : List (List ℕ)) → lacks 10 (squares_row r lines) ≡ true
squares_row-lacks r lines =
    all-flat_map (λ b. not (b == 10)) (squares_cell r) lines
    (λ line. all-append (λ b. not (b == 10)) (codes "   ") (flat_map squares (picture_row r (picture_of line))) refl (all-flat_map (λ b. not (b == 10)) squares (picture_row r (picture_of line)) squares-lack))

moments-lack : (lines : List (List ℕ)) → list_all (lacks 10) lines ≡ true → lacks 10 (flat_map (λ line. at_right (line_lead line)) lines) ≡ true
moments-lack [] h = refl
moments-lack (l ∷ ls) h =
    let q = and_parts (lacks 10 l) (list_all (lacks 10) ls) h in
    all-append (λ b. not (b == 10)) (at_right (line_lead l)) (flat_map (λ line. at_right (line_lead line)) ls)
    (all-append (λ b. not (b == 10)) (replicate (13 - length (line_lead l)) 32) (line_lead l) (all-replicate (λ b. not (b == 10)) (13 - length (line_lead l)) 32 refl)
    (all-take (λ b. not (b == 10)) (lead_size l) l q.0))
    (moments-lack ls q.1)

picture_rows-lack : (lines : List (List ℕ)) → list_all (lacks 10) lines ≡ true → list_all (lacks 10) (picture_rows lines) ≡ true
picture_rows-lack [] h = refl
picture_rows-lack (l ∷ ls) h =
    rw (
      all-append (λ b. not (b == 10)) (flat_map (λ line. at_right (line_lead line)) (l ∷ ls)) (codes " ms") (moments-lack (l ∷ ls) h) refl,
      squares_row-lacks 0 (l ∷ ls),
      squares_row-lacks 1 (l ∷ ls),
      squares_row-lacks 2 (l ∷ ls),
      squares_row-lacks 3 (l ∷ ls),
      squares_row-lacks 4 (l ∷ ls),
    ) refl

said-lacks : (said : List ℕ) → IsSaid said → lacks 10 said ≡ true
said-lacks said is =
    let P : List ℕ → Type 0 = λ t. lacks 10 t ≡ true in
    elim is [
      | inl none ↦ subst P (sym none) refl
      | inr some ↦ subst P (sym some.1) some.2
    ]

marked-lack : (texts : List (List ℕ)) → list_all (lacks 10) texts ≡ true → list_all (lacks 10) (map marked texts) ≡ true
marked-lack [] h = refl
marked-lack (text ∷ texts) h =
    let q = and_parts (lacks 10 text) (list_all (lacks 10) texts) h in
    and_from (lacks 10 (marked text)) (list_all (lacks 10) (map marked texts)) (all-append (λ b. not (b == 10)) (codes "  | ") text refl q.0) (marked-lack texts q.1)

told-lack : (notes : List Note) (line : List ℕ) (text : Option (List ℕ)) → lacks 10 line ≡ true → list_all (lacks 10) (told_rows notes line text) ≡ true
told-lack notes line None h =
    and_from (lacks 10 (literal line ++ note_said notes (told_of line))) true
    (all-append (λ b. not (b == 10)) (literal line) (note_said notes (told_of line)) (literal-lacks 10 line refl (omega arith) refl) (said-lacks (note_said notes (told_of line)) (said-is notes (told_of line)))) refl
told-lack notes line (Some text) h =
    and_from (lacks 10 (literal line)) (list_all (lacks 10) (map marked (lines_in text))) (literal-lacks 10 line refl (omega arith) refl) (marked-lack (lines_in text) (lines-lack text))

line_rows-lack : (notes : List Note) (below : List Below) (line : List ℕ) → lacks 10 line ≡ true → list_all (lacks 10) (line_rows notes below line) ≡ true
line_rows-lack notes below line h =
    let P : List (List ℕ) → Type 0 = λ rows. list_all (lacks 10) rows ≡ true in
    elim (cases_Bool (shows_text line)) [
      | inl e ↦
          subst P (sym (cond-true (shows_text line) (text_row line ∷ []) (told_rows notes line (explanation_of below line)) e))
          (and_from (lacks 10 (text_row line)) true
          (all-append (λ b. not (b == 10)) (line_lead line) (codes " serial \"" ++ (shown_text (text_of_serial line) ++ codes "\"")) (all-take (λ b. not (b == 10)) (lead_size line) line h)
          (all-append (λ b. not (b == 10)) (codes " serial \"") (shown_text (text_of_serial line) ++ codes "\"") refl
          (all-append (λ b. not (b == 10)) (shown_text (text_of_serial line)) (codes "\"") (text_shown-lacks 10 (text_of_serial line) refl (omega arith)) refl))) refl)
      | inr e ↦
          subst P (sym (cond-false (shows_text line) (text_row line ∷ []) (told_rows notes line (explanation_of below line)) e)) (told-lack notes line (explanation_of below line) h)
    ]

-- the steps of a view
one-waits : (notes : List Note) (below : List Below) (most : ℕ) (waiting : List (List ℕ)) (line : List ℕ) (lines : List (List ℕ)) → shows_picture line ≡ true → nat_lt (length waiting + 1) most ≡ true
    → rows_from notes below most waiting (line ∷ lines) ≡ rows_from notes below most (waiting ++ line ∷ []) lines
one-waits notes below most waiting line lines h k = rw (h, k) refl

all-stand : (notes : List Note) (below : List Below) (most : ℕ) (waiting : List (List ℕ)) (line : List ℕ) (lines : List (List ℕ)) → shows_picture line ≡ true → nat_lt (length waiting + 1) most ≡ false
    → rows_from notes below most waiting (line ∷ lines) ≡ picture_rows (waiting ++ line ∷ []) ++ rows_from notes below most [] lines
all-stand notes below most waiting line lines h k = rw (h, k) refl

a-row : (notes : List Note) (below : List Below) (most : ℕ) (waiting : List (List ℕ)) (line : List ℕ) (lines : List (List ℕ)) → shows_picture line ≡ false
    → rows_from notes below most waiting (line ∷ lines) ≡ picture_rows waiting ++ (line_rows notes below line ++ rows_from notes below most [] lines)
a-row notes below most waiting line lines h = rw h refl

pub rows-lack : (notes : List Note) (below : List Below) (most : ℕ) (waiting lines : List (List ℕ)) → list_all (lacks 10) waiting ≡ true → list_all (lacks 10) lines ≡ true → list_all (lacks 10) (rows_from notes below most waiting lines) ≡ true
rows-lack notes below most waiting [] h k = picture_rows-lack waiting h
rows-lack notes below most waiting (l ∷ ls) h k =
    let P : List (List ℕ) → Type 0 = λ rows. list_all (lacks 10) rows ≡ true in
    let q = and_parts (lacks 10 l) (list_all (lacks 10) ls) k in
    let more = all-append (lacks 10) waiting (l ∷ []) h (and_from (lacks 10 l) true q.0 refl) in
    elim (cases_Bool (shows_picture l)) [
      | inl e ↦
          elim (cases_Bool (nat_lt (length waiting + 1) most)) [
            | inl w ↦ subst P (sym (one-waits notes below most waiting l ls e w)) (rows-lack notes below most (waiting ++ l ∷ []) ls more q.1)
            | inr w ↦ subst P (sym (all-stand notes below most waiting l ls e w)) (all-append (lacks 10) (picture_rows (waiting ++ l ∷ [])) (rows_from notes below most [] ls) (picture_rows-lack (waiting ++ l ∷ []) more) (rows-lack notes below most [] ls refl q.1))
          ]
      | inr e ↦
          subst P (sym (a-row notes below most waiting l ls e))
          (all-append (lacks 10) (picture_rows waiting) (line_rows notes below l ++ rows_from notes below most [] ls) (picture_rows-lack waiting h)
          (all-append (lacks 10) (line_rows notes below l) (rows_from notes below most [] ls) (line_rows-lack notes below l q.0) (rows-lack notes below most [] ls refl q.1)))
    ]

pub rows-back : (notes : List Note) (below : List Below) (most : ℕ) (waiting lines : List (List ℕ)) → list_all shows_picture waiting ≡ true → list_all (list_all is_byte) lines ≡ true
    → rows_read (rows_from notes below most waiting lines) ≡ waiting ++ lines
rows-back notes below most waiting [] h k = ap rows_read (sym (append-nil (picture_rows waiting))) ∙ pictures-read_back waiting [] h
rows-back notes below most waiting (l ∷ ls) h k =
    let q = and_parts (list_all is_byte l) (list_all (list_all is_byte) ls) k in
    elim (cases_Bool (shows_picture l)) [
      | inl e ↦
          let more : list_all shows_picture (waiting ++ l ∷ []) ≡ true = all-append shows_picture waiting (l ∷ []) h (and_from (shows_picture l) true e refl) in
          elim (cases_Bool (nat_lt (length waiting + 1) most)) [
            | inl w ↦
                ap rows_read (one-waits notes below most waiting l ls e w) ∙ rows-back notes below most (waiting ++ l ∷ []) ls more q.1 ∙ append_assoc waiting (l ∷ []) ls
            | inr w ↦
                ap rows_read (all-stand notes below most waiting l ls e w) ∙ pictures-read_back (waiting ++ l ∷ []) (rows_from notes below most [] ls) more
                ∙ ap (λ t. (waiting ++ l ∷ []) ++ t) (rows-back notes below most [] ls refl q.1) ∙ append_assoc waiting (l ∷ []) ls
          ]
      | inr e ↦
          ap rows_read (a-row notes below most waiting l ls e) ∙ pictures-read_back waiting (line_rows notes below l ++ rows_from notes below most [] ls) h
          ∙ ap (λ t. waiting ++ t) (rows-read_back notes below l (rows_from notes below most [] ls) q.0)
          ∙ ap (λ t. waiting ++ l ∷ t) (rows-back notes below most [] ls refl q.1)
    ]

pub view-back : (notes : List Note) (below : List Below) (most : ℕ) (input : List ℕ) → list_all is_byte input ≡ true → lines_read (text_of_rows (rows_from notes below most [] (lines_in input))) ≡ lines_in input
view-back notes below most input h =
    ap rows_read (rows-come_back (rows_from notes below most [] (lines_in input)) (rows-lack notes below most [] (lines_in input) refl (lines-lack input)))
    ∙ rows-back notes below most [] (lines_in input) refl (lines-all is_byte input h)
