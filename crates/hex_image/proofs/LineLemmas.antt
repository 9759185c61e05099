-- The first line of a text, and those behind it.
use Rattle.std.proofs.Common.{◌≡◌, ℕ, ◌+◌, ◌<◌, ◌≤◌, ◌==◌, Bool, true, false, cond, List, [], ◌∷◌, ◌++◌, length, take, drop, get_or, Some, None, refl, sym, ap, ◌∙◌, arith, ltb-false}
use Rattle.std.specs.Prelude.{not, position}
use Rattle.std.specs.List.{slice_split, All, position_or_len}
use Rattle.std.specs.Str.Lines.{lines, lines_of_parts, strip_carriage_return}
use Rattle.std.proofs.lemmas.List.{take-append-drop, drop_more, get_or-take, length-take-le}
use Rattle.std.proofs.lemmas.List.Elements.{All-from_get_or}
use Rattle.std.proofs.lemmas.List.Quantifiers.{position-Some}
use Rattle.std.proofs.lemmas.List.Splits.{slice_split_at, slice_split_none, length-slice_split}
use Rattle.std.proofs.lemmas.Bool.Decides.{nat_tests}
use Rattle.std.proofs.lemmas.List.Sums.{prefix_len_passes}

-- the test for a line feed
abbrev pub is_feed : ℕ → Bool
is_feed byte = byte == 10

-- a part that another follows is a line of its own
pub lines_of_parts-more : (x : List ℕ) (parts : List (List ℕ)) → 0 < length parts → lines_of_parts (x ∷ parts) ≡ strip_carriage_return x ∷ lines_of_parts parts
lines_of_parts-more x [] h = absurd (omega arith)
lines_of_parts-more x (y ∷ more) h = refl

-- the first line ends at the first line feed
pub lines-fed : (text : List ℕ) (i : ℕ) → position is_feed text ≡ Some i → lines text ≡ strip_carriage_return (take i text) ∷ lines (drop (i + 1) text)
lines-fed text i h =
    let found = position-Some is_feed text i 0 h in
    let within : i < length text = found.0 in
    let front : All (λ x. is_feed x ≡ false) (take i text) =
    All-from_get_or (λ x. is_feed x ≡ false) (take i text) 0 (λ k lt.
    let below : k < i = omega (arith, lt, length-take-le i text (omega arith)) in
    ap is_feed (get_or-take i text k 0 below) ∙ found.2 k below) in
    let cut : text ≡ take i text ++ get_or text i 0 ∷ drop (i + 1) text =
    sym (take-append-drop i text) ∙ ap (λ rest. take i text ++ rest) (drop_more text i 0 within) in
    let parts = slice_split_at is_feed (take i text) (get_or text i 0) (drop (i + 1) text) front found.1 in
    let many = length-slice_split is_feed (drop (i + 1) text) in
    ap (λ t. lines_of_parts (slice_split is_feed t)) cut ∙ ap lines_of_parts parts
    ∙ lines_of_parts-more (take i text) (slice_split is_feed (drop (i + 1) text)) (omega (arith, many))

-- a test that gave nothing failed
cond_none : (b : Bool) (n : ℕ) → cond b (Some n) None ≡ None → b ≡ false
cond_none true n h = cc h
cond_none false n h = refl

not_true : (b : Bool) → not b ≡ true → b ≡ false
not_true true h = cc h
not_true false h = refl

-- a part that is no part of more
lines_of_parts-one : (x : List ℕ) → 0 < length x → lines_of_parts (x ∷ []) ≡ x ∷ []
lines_of_parts-one [] h = absurd (omega arith)
lines_of_parts-one (c ∷ x) h = grind (arith, nat_tests)

-- a text with no line feed is one line
pub lines-whole : (text : List ℕ) → position is_feed text ≡ None → 0 < length text → lines text ≡ text ∷ []
lines-whole text h some =
    let past : length text ≤ position_or_len is_feed text = ltb-false _ _ (cond_none _ _ h) in
    let none : All (λ x. is_feed x ≡ false) text =
    All-from_get_or (λ x. is_feed x ≡ false) text 0 (λ k lt. not_true _ (prefix_len_passes (λ x. not (is_feed x)) text k 0 (omega arith))) in
    ap lines_of_parts (slice_split_none is_feed text none) ∙ lines_of_parts-one text some
