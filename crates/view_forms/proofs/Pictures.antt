-- Pictures side by side, read back.
use Rattle.std.proofs.Common.{◌≡◌, ℕ, zero, suc, ◌-◌, ◌*◌, ◌/◌, ◌≤◌, ◌==◌, nat_lt, Bool, true, false, ◌&&◌, List, [], ◌∷◌, ◌++◌, length, get_or, take, drop, replicate, ap, ◌∙◌, sym, refl, subst, arith, inl, inr}
use Rattle.std.specs.Prelude.{codes}
use Rattle.std.specs.List.{flat_map, list_all}
use Rattle.std.specs.Char.{is_ascii_digit}
use Rattle.std.proofs.lemmas.Bool.{and_parts, cases_Bool, false≢true}
use Rattle.std.proofs.lemmas.Bool.Decides.{nat_tests}
use Rattle.std.proofs.lemmas.List.{take_at, drop_at, append_assoc, length-append, length-replicate, length-drop, take_all, drop-drop, get_or-drop, get_or_append_left}
use Rattle.view_forms.specs.Parts.{lead_size, line_lead, told_of, begins_by}
use Rattle.view_forms.specs.Pictures.{is_light, is_light_row, picture_row, is_picture, shows_picture, picture_of, squares, at_right, heading, squares_row, picture_rows}
use Rattle.view_forms.specs.Reading.{without_spaces, light_of_byte, halved, lights_in, pictures_read, pictures_under, lines_of_row, rows_read}
use Rattle.view_forms.proofs.Parts.{cut-at, lead-told, lead-digit, lead-short, digit-some, digit-no_space, begins-is}

same-number : (a b : ℕ) → (a == b) ≡ true → a ≡ b
same-number a b h = grind (arith, nat_tests)

-- a picture's rows, and what stands between
pub record IsPicture (p : List ℕ) : Type 0 where
  pub size : length p ≡ 29
  pub row0 : is_light_row (picture_row 0 p) ≡ true
  pub at5 : get_or p 5 0 ≡ 47
  pub row1 : is_light_row (picture_row 1 p) ≡ true
  pub at11 : get_or p 11 0 ≡ 47
  pub row2 : is_light_row (picture_row 2 p) ≡ true
  pub at17 : get_or p 17 0 ≡ 47
  pub row3 : is_light_row (picture_row 3 p) ≡ true
  pub at23 : get_or p 23 0 ≡ 47
  pub row4 : is_light_row (picture_row 4 p) ≡ true

pub picture-is : (p : List ℕ) → is_picture p ≡ true → IsPicture p
picture-is p h =
    let R : ℕ → Bool = λ r. is_light_row (picture_row r p) in
    let S : ℕ → Bool = λ i. get_or p i 0 == 47 in
    let a = and_parts (length p == 29) ((R 0 && (S 5 && (R 1 && S 11))) && (R 2 && (S 17 && (R 3 && (S 23 && R 4))))) h in
    let b = and_parts (R 0 && (S 5 && (R 1 && S 11))) (R 2 && (S 17 && (R 3 && (S 23 && R 4)))) a.1 in
    let c = and_parts (R 0) (S 5 && (R 1 && S 11)) b.0 in
    let d = and_parts (S 5) (R 1 && S 11) c.1 in
    let e = and_parts (R 1) (S 11) d.1 in
    let f = and_parts (R 2) (S 17 && (R 3 && (S 23 && R 4))) b.1 in
    let g = and_parts (S 17) (R 3 && (S 23 && R 4)) f.1 in
    let i = and_parts (R 3) (S 23 && R 4) g.1 in
    let j = and_parts (S 23) (R 4) i.1 in
    record {
      size = same-number (length p) 29 a.0;
      row0 = c.0;
      at5 = same-number (get_or p 5 0) 47 d.0;
      row1 = e.0;
      at11 = same-number (get_or p 11 0) 47 e.1;
      row2 = f.0;
      at17 = same-number (get_or p 17 0) 47 g.0;
      row3 = i.0;
      at23 = same-number (get_or p 23 0) 47 j.0;
      row4 = j.1;
    }

pub rows-of-picture : (p : List ℕ) → IsPicture p
    → p ≡ picture_row 0 p ++ (47 ∷ (picture_row 1 p ++ (47 ∷ (picture_row 2 p ++ (47 ∷ (picture_row 3 p ++ (47 ∷ picture_row 4 p)))))))
rows-of-picture p h =
    let one = cut-at 5 p 47 h.at5 (omega arith) in
    let two = cut-at 5 (drop 6 p) 47 (get_or-drop 6 p 5 0 ∙ h.at11) (omega arith) ∙ ap (λ t. take 5 (drop 6 p) ++ 47 ∷ t) (drop-drop 6 6 p) in
    let three = cut-at 5 (drop 12 p) 47 (get_or-drop 12 p 5 0 ∙ h.at17) (omega arith) ∙ ap (λ t. take 5 (drop 12 p) ++ 47 ∷ t) (drop-drop 6 12 p) in
    let four = cut-at 5 (drop 18 p) 47 (get_or-drop 18 p 5 0 ∙ h.at23) (omega arith) ∙ ap (λ t. take 5 (drop 18 p) ++ 47 ∷ t) (drop-drop 6 18 p) in
    let five : take 5 (drop 24 p) ≡ drop 24 p = take_all 5 (drop 24 p) (omega (arith, length-drop 24 p, h.size)) in
    one
    ∙ ap (λ t. take 5 p ++ 47 ∷ t) two
    ∙ ap (λ t. take 5 p ++ 47 ∷ (take 5 (drop 6 p) ++ 47 ∷ t)) three
    ∙ ap (λ t. take 5 p ++ 47 ∷ (take 5 (drop 6 p) ++ 47 ∷ (take 5 (drop 12 p) ++ 47 ∷ t))) four
    ∙ ap (λ t. take 5 p ++ 47 ∷ (take 5 (drop 6 p) ++ 47 ∷ (take 5 (drop 12 p) ++ 47 ∷ (take 5 (drop 18 p) ++ 47 ∷ t)))) (sym five)

row-lights : (row : List ℕ) → is_light_row row ≡ true → list_all is_light row ≡ true
row-lights row h = (and_parts (length row == 5) (list_all is_light row) h).1

row-size : (row : List ℕ) → is_light_row row ≡ true → length row ≡ 5
row-size row h = same-number (length row) 5 (and_parts (length row == 5) (list_all is_light row) h).0

-- what a line that shows a picture has
pub record Shows (line : List ℕ) : Type 0 where
  pub lead : nat_lt 0 (lead_size line) ≡ true
  pub word : begins_by (codes "display ") (told_of line) ≡ true
  pub picture : IsPicture (picture_of line)

pub shows : (line : List ℕ) → shows_picture line ≡ true → Shows line
shows line h =
    let a = and_parts (nat_lt 0 (lead_size line)) (begins_by (codes "display ") (told_of line) && is_picture (drop 8 (told_of line))) h in
    let b = and_parts (begins_by (codes "display ") (told_of line)) (is_picture (drop 8 (told_of line))) a.1 in
    record { lead = a.0; word = b.0; picture = picture-is (drop 8 (told_of line)) b.1 }

abbrev pub row_in : ℕ → List ℕ → List ℕ
row_in r line = picture_row r (picture_of line)

abbrev pub over_one : List ℕ → List ℕ
over_one line = at_right (line_lead line)

pub line-is : (line : List ℕ) → Shows line
    → line_lead line ++ (codes " display " ++ (row_in 0 line ++ (47 ∷ (row_in 1 line ++ (47 ∷ (row_in 2 line ++ (47 ∷ (row_in 3 line ++ (47 ∷ row_in 4 line))))))))) ≡ line
line-is line h =
    sym (lead-told line h.lead
    ∙ ap (λ t. line_lead line ++ 32 ∷ t) (begins-is (codes "display ") (told_of line) h.word)
    ∙ ap (λ t. line_lead line ++ (codes " display " ++ t)) (rows-of-picture (picture_of line) h.picture))

-- spaces before a text that begins by something else
pub spaces-gone : (k : ℕ) (xs : List ℕ) → (get_or xs 0 0 == 32) ≡ false → without_spaces (replicate k 32 ++ xs) ≡ xs
spaces-gone zero [] h = refl
spaces-gone zero (x ∷ xs) h = rw h refl
spaces-gone (suc k) xs h = spaces-gone k xs h

lead-first : (line : List ℕ) → Shows line → (get_or (line_lead line) 0 0 == 32) ≡ false
lead-first line h = digit-no_space (get_or (line_lead line) 0 0) (lead-digit line h.lead)

length-over : (line : List ℕ) → Shows line → length (over_one line) ≡ 13
length-over line h = omega (arith, length-append (replicate (13 - length (line_lead line)) 32) (line_lead line), length-replicate {A = ℕ} (13 - length (line_lead line)) 32, lead-short line h.lead)

one-picture : (n : ℕ) (o O t a A b B c C d D e E : List ℕ) → length o ≡ 13 → length a ≡ 5 → length b ≡ 5 → length c ≡ 5 → length d ≡ 5 → length e ≡ 5
    → pictures_read (suc n) ((o ++ O) ++ t) (a ++ A) (b ++ B) (c ++ C) (d ++ D) (e ++ E)
    ≡ (without_spaces o ++ (codes " display " ++ (a ++ (47 ∷ (b ++ (47 ∷ (c ++ (47 ∷ (d ++ (47 ∷ e)))))))))) ∷ pictures_read n (O ++ t) A B C D E
one-picture n o O t a A b B c C d D e E ho ha hb hc hd he =
    rw (
      append_assoc o O t,
      take_at o (O ++ t) 13 ho,
      drop_at o (O ++ t) 13 ho,
      take_at a A 5 ha,
      drop_at a A 5 ha,
      take_at b B 5 hb,
      drop_at b B 5 hb,
      take_at c C 5 hc,
      drop_at c C 5 hc,
      take_at d D 5 hd,
      drop_at d D 5 hd,
      take_at e E 5 he,
      drop_at e E 5 he,
    ) refl

pub pictures-back : (lines : List (List ℕ)) (t : List ℕ) → list_all shows_picture lines ≡ true
    → pictures_read (length lines) (flat_map over_one lines ++ t) (flat_map (row_in 0) lines) (flat_map (row_in 1) lines) (flat_map (row_in 2) lines) (flat_map (row_in 3) lines) (flat_map (row_in 4) lines) ≡ lines
pictures-back [] t h = refl
pictures-back (l ∷ ls) t h =
    let q = and_parts (shows_picture l) (list_all shows_picture ls) h in
    let s = shows l q.0 in
    let p = s.picture in
    one-picture (length ls) (over_one l) (flat_map over_one ls) t (row_in 0 l) (flat_map (row_in 0) ls) (row_in 1 l) (flat_map (row_in 1) ls) (row_in 2 l) (flat_map (row_in 2) ls)
    (row_in 3 l) (flat_map (row_in 3) ls) (row_in 4 l) (flat_map (row_in 4) ls)
    (length-over l s) (row-size (row_in 0 l) p.row0) (row-size (row_in 1 l) p.row1) (row-size (row_in 2 l) p.row2) (row-size (row_in 3 l) p.row3) (row-size (row_in 4 l) p.row4)
    ∙ ap (λ lead. (lead ++ (codes " display " ++ (row_in 0 l ++ (47 ∷ (row_in 1 l ++ (47 ∷ (row_in 2 l ++ (47 ∷ (row_in 3 l ++ (47 ∷ row_in 4 l))))))))))
    ∷ pictures_read (length ls) (flat_map over_one ls ++ t) (flat_map (row_in 0) ls) (flat_map (row_in 1) ls) (flat_map (row_in 2) ls) (flat_map (row_in 3) ls) (flat_map (row_in 4) ls))
    (spaces-gone (13 - length (line_lead l)) (line_lead l) (lead-first l s))
    ∙ ap (λ line. line ∷ pictures_read (length ls) (flat_map over_one ls ++ t) (flat_map (row_in 0) ls) (flat_map (row_in 1) ls) (flat_map (row_in 2) ls) (flat_map (row_in 3) ls) (flat_map (row_in 4) ls)) (line-is l s)
    ∙ ap (λ rest. l ∷ rest) (pictures-back ls t q.1)

-- squares and their lights
other-light : (x : ℕ) → is_light x ≡ true → (x == 35) ≡ false → x ≡ 46
other-light x h k = grind (arith, nat_tests)

light-back : (x : ℕ) (R t : List ℕ) → is_light x ≡ true → halved (flat_map light_of_byte ((squares x ++ R) ++ t)) ≡ x ∷ halved (flat_map light_of_byte (R ++ t))
light-back x R t h =
    let P : ℕ → Type 0 = λ x. halved (flat_map light_of_byte ((squares x ++ R) ++ t)) ≡ x ∷ halved (flat_map light_of_byte (R ++ t)) in
    elim (cases_Bool (x == 35)) [
      | inl e ↦ subst P (sym (same-number x 35 e)) refl
      | inr e ↦ subst P (sym (other-light x h e)) refl
    ]

lights-back : (xs t : List ℕ) → list_all is_light xs ≡ true → halved (flat_map light_of_byte (flat_map squares xs ++ t)) ≡ xs ++ halved (flat_map light_of_byte t)
lights-back [] t h = refl
lights-back (x ∷ xs) t h =
    let q = and_parts (is_light x) (list_all is_light xs) h in
    light-back x (flat_map squares xs) t q.0 ∙ ap (λ u. x ∷ u) (lights-back xs t q.1)

pub row-back : (r : ℕ) (lines : List (List ℕ)) → ((line : List ℕ) → shows_picture line ≡ true → is_light_row (row_in r line) ≡ true) → list_all shows_picture lines ≡ true
    → lights_in (squares_row r lines) ≡ flat_map (row_in r) lines
row-back r [] ok h = refl
row-back r (l ∷ ls) ok h =
    let q = and_parts (shows_picture l) (list_all shows_picture ls) h in
    lights-back (row_in r l) (squares_row r ls) (row-lights (row_in r l) (ok l q.0)) ∙ ap (λ t. row_in r l ++ t) (row-back r ls ok q.1)

rows-size : (r : ℕ) (lines : List (List ℕ)) → ((line : List ℕ) → shows_picture line ≡ true → is_light_row (row_in r line) ≡ true) → list_all shows_picture lines ≡ true
    → length (flat_map (row_in r) lines) ≡ 5 * length lines
rows-size r [] ok h = refl
rows-size r (l ∷ ls) ok h =
    let q = and_parts (shows_picture l) (list_all shows_picture ls) h in
    omega (arith, length-append (row_in r l) (flat_map (row_in r) ls), row-size (row_in r l) (ok l q.0), rows-size r ls ok q.1)

fifth : (n m : ℕ) → n ≡ 5 * m → n / 5 ≡ m
fifth n m h = omega arith

ok0 : (line : List ℕ) → shows_picture line ≡ true → is_light_row (row_in 0 line) ≡ true
ok0 line h = (shows line h).picture.row0

ok1 : (line : List ℕ) → shows_picture line ≡ true → is_light_row (row_in 1 line) ≡ true
ok1 line h = (shows line h).picture.row1

ok2 : (line : List ℕ) → shows_picture line ≡ true → is_light_row (row_in 2 line) ≡ true
ok2 line h = (shows line h).picture.row2

ok3 : (line : List ℕ) → shows_picture line ≡ true → is_light_row (row_in 3 line) ≡ true
ok3 line h = (shows line h).picture.row3

ok4 : (line : List ℕ) → shows_picture line ≡ true → is_light_row (row_in 4 line) ≡ true
ok4 line h = (shows line h).picture.row4

under-by : (over a b c d e : List ℕ) (n : ℕ) (rest : List (List ℕ)) (A B C D E : List ℕ) → lights_in a ≡ A → lights_in b ≡ B → lights_in c ≡ C → lights_in d ≡ D → lights_in e ≡ E → length A / 5 ≡ n
    → pictures_under over (a ∷ (b ∷ (c ∷ (d ∷ (e ∷ rest))))) ≡ pictures_read n over A B C D E
under-by over a b c d e n rest A B C D E ha hb hc hd he hn = rw (ha, hb, hc, hd, he, hn) refl

pub under-back : (lines rest : List (List ℕ)) → list_all shows_picture lines ≡ true
    → pictures_under (heading lines) (squares_row 0 lines ∷ (squares_row 1 lines ∷ (squares_row 2 lines ∷ (squares_row 3 lines ∷ (squares_row 4 lines ∷ rest))))) ≡ lines
under-back lines rest h =
    under-by (heading lines) (squares_row 0 lines) (squares_row 1 lines) (squares_row 2 lines) (squares_row 3 lines) (squares_row 4 lines) (length lines) rest
    (flat_map (row_in 0) lines) (flat_map (row_in 1) lines) (flat_map (row_in 2) lines) (flat_map (row_in 3) lines) (flat_map (row_in 4) lines)
    (row-back 0 lines ok0 h) (row-back 1 lines ok1 h) (row-back 2 lines ok2 h) (row-back 3 lines ok3 h) (row-back 4 lines ok4 h)
    (fifth (length (flat_map (row_in 0) lines)) (length lines) (rows-size 0 lines ok0 h))
    ∙ pictures-back lines (codes " ms") h

-- a heading begins with a space, and behind its spaces with a digit
more : (n : ℕ) → n ≤ 12 → 13 - n ≡ suc (12 - n)
more n h = omega arith

at-right-spaces : (text : List ℕ) → length text ≤ 12 → at_right text ≡ 32 ∷ (replicate (12 - length text) 32 ++ text)
at-right-spaces text h = ap (λ k. replicate k 32 ++ text) (more (length text) h)

by-tests : (row : List ℕ) (rows : List (List ℕ)) → get_or row 0 0 ≡ 32 → is_ascii_digit (get_or (without_spaces row) 0 0) ≡ true → lines_of_row row rows ≡ pictures_under row rows
by-tests row rows h k = rw (h, k) refl

heading-reads : (l : List ℕ) (ls rows : List (List ℕ)) → Shows l → lines_of_row (heading (l ∷ ls)) rows ≡ pictures_under (heading (l ∷ ls)) rows
heading-reads l ls rows h =
    let tail = flat_map over_one ls ++ codes " ms" in
    let begin : heading (l ∷ ls) ≡ 32 ∷ (replicate (12 - length (line_lead l)) 32 ++ (line_lead l ++ tail)) =
    ap (λ t. (t ++ flat_map over_one ls) ++ codes " ms") (at-right-spaces (line_lead l) (lead-short l h.lead))
    ∙ append_assoc (32 ∷ (replicate (12 - length (line_lead l)) 32 ++ line_lead l)) (flat_map over_one ls) (codes " ms")
    ∙ ap (λ t. 32 ∷ t) (append_assoc (replicate (12 - length (line_lead l)) 32) (line_lead l) tail) in
    let front : get_or (line_lead l ++ tail) 0 0 ≡ get_or (line_lead l) 0 0 = get_or_append_left (line_lead l) tail 0 0 (digit-some (line_lead l) (lead-digit l h.lead)) in
    let spaces : get_or (heading (l ∷ ls)) 0 0 ≡ 32 = ap (λ t. get_or t 0 0) begin in
    let behind : without_spaces (heading (l ∷ ls)) ≡ line_lead l ++ tail =
    ap without_spaces begin ∙ spaces-gone (12 - length (line_lead l)) (line_lead l ++ tail) (ap (λ b. b == 32) front ∙ lead-first l h) in
    let digit : is_ascii_digit (get_or (without_spaces (heading (l ∷ ls))) 0 0) ≡ true = ap (λ t. is_ascii_digit (get_or t 0 0)) behind ∙ ap is_ascii_digit front ∙ lead-digit l h.lead in
    by-tests (heading (l ∷ ls)) rows spaces digit

-- squares tell nothing by themselves
silent : (x : ℕ) (R t : List ℕ) (rows : List (List ℕ)) → lines_of_row ((codes "   " ++ (squares x ++ R)) ++ t) rows ≡ []
silent x R t rows =
    elim (cases_Bool (x == 35)) [
      | inl e ↦ rw e refl
      | inr e ↦ rw e refl
    ]

row-silent : (row t : List ℕ) (rows : List (List ℕ)) → is_light_row row ≡ true → lines_of_row ((codes "   " ++ flat_map squares row) ++ t) rows ≡ []
row-silent [] t rows h = absurd (false≢true h)
row-silent (x ∷ xs) t rows h = silent x (flat_map squares xs) t rows

all-rows : (a b c d e f : List ℕ) (lines rest : List (List ℕ))
    → lines_of_row a (b ∷ (c ∷ (d ∷ (e ∷ (f ∷ rest))))) ≡ lines
    → lines_of_row b (c ∷ (d ∷ (e ∷ (f ∷ rest)))) ≡ [] → lines_of_row c (d ∷ (e ∷ (f ∷ rest))) ≡ [] → lines_of_row d (e ∷ (f ∷ rest)) ≡ [] → lines_of_row e (f ∷ rest) ≡ [] → lines_of_row f rest ≡ []
    → rows_read (a ∷ (b ∷ (c ∷ (d ∷ (e ∷ (f ∷ rest)))))) ≡ lines ++ rows_read rest
all-rows a b c d e f lines rest ha hb hc hd he hf = rw (ha, hb, hc, hd, he, hf) refl

pub pictures-read_back : (lines rest : List (List ℕ)) → list_all shows_picture lines ≡ true → rows_read (picture_rows lines ++ rest) ≡ lines ++ rows_read rest
pictures-read_back [] rest h = refl
pictures-read_back (l ∷ ls) rest h =
    let q = and_parts (shows_picture l) (list_all shows_picture ls) h in
    let s = shows l q.0 in
    let p = s.picture in
    all-rows (heading (l ∷ ls)) (squares_row 0 (l ∷ ls)) (squares_row 1 (l ∷ ls)) (squares_row 2 (l ∷ ls)) (squares_row 3 (l ∷ ls)) (squares_row 4 (l ∷ ls)) (l ∷ ls) rest
    (heading-reads l ls (squares_row 0 (l ∷ ls) ∷ (squares_row 1 (l ∷ ls) ∷ (squares_row 2 (l ∷ ls) ∷ (squares_row 3 (l ∷ ls) ∷ (squares_row 4 (l ∷ ls) ∷ rest))))) s ∙ under-back (l ∷ ls) rest h)
    (row-silent (row_in 0 l) (squares_row 0 ls) (squares_row 1 (l ∷ ls) ∷ (squares_row 2 (l ∷ ls) ∷ (squares_row 3 (l ∷ ls) ∷ (squares_row 4 (l ∷ ls) ∷ rest)))) p.row0)
    (row-silent (row_in 1 l) (squares_row 1 ls) (squares_row 2 (l ∷ ls) ∷ (squares_row 3 (l ∷ ls) ∷ (squares_row 4 (l ∷ ls) ∷ rest))) p.row1)
    (row-silent (row_in 2 l) (squares_row 2 ls) (squares_row 3 (l ∷ ls) ∷ (squares_row 4 (l ∷ ls) ∷ rest)) p.row2)
    (row-silent (row_in 3 l) (squares_row 3 ls) (squares_row 4 (l ∷ ls) ∷ rest) p.row3)
    (row-silent (row_in 4 l) (squares_row 4 ls) rest p.row4)
