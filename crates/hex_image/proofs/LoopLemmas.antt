-- Reading the lines of a text one after the other, as a loop does.
use Rattle.std.proofs.Common.{◌≡◌, ℕ, ◌==◌, false, cond, List, ◌∷◌, length, Result, Ok, Err, sym, ap, ◌∙◌}
use Rattle.std.specs.Prelude.{not, filter}
use Rattle.std.specs.Str.Lines.{lines}
use Rattle.std.proofs.lemmas.List.{nil_from_length}
use Rattle.hex_image.specs.declared.refused.HexCode.{HexCode}
use Rattle.hex_image.specs.declared.refused.HexRefused.{HexRefused}
use Rattle.hex_image.specs.declared.refused.HexRefused.TheVariants.{Image, NoMemory}
use Rattle.hex_image.specs.Records.{full_lines}
use Rattle.hex_image.specs.Answers.{HasCause}
use Rattle.hex_image.specs.Reading.{Progress, ◌>>=◌, behind_line, behind_lines}

-- a first line that isn't empty is a full line
pub full_lines-more : (text line after : List ℕ) → lines text ≡ line ∷ lines after → (length line == 0) ≡ false → full_lines text ≡ line ∷ full_lines after
full_lines-more text line after cut full =
    ap (λ ls. filter (λ l. not (length l == 0)) ls) cut
    ∙ ap (λ b. cond (not b) (line ∷ full_lines after) (full_lines after)) full

-- a line that is refused refuses the text
pub line_refused : (e : HexRefused) (so_far : Progress) (text line after : List ℕ) (total : Result Progress HexCode) → lines text ≡ line ∷ lines after → (length line == 0) ≡ false
    → HasCause e (λ code. behind_line so_far line ≡ Err code) → behind_lines so_far (full_lines text) ≡ total → HasCause e (λ code. total ≡ Err code)
unfolding behind_lines
line_refused NoMemory so_far text line after total cut full bad kept = tt
line_refused (Image code) so_far text line after total cut full bad kept =
    sym kept ∙ ap (behind_lines so_far) (full_lines-more text line after cut full)
    ∙ ap (λ r. r >>= λ next. behind_lines next (full_lines after)) bad

-- a line that is taken leaves those behind it
pub line_taken : (so_far next : Progress) (text line after : List ℕ) (total : Result Progress HexCode) → lines text ≡ line ∷ lines after → (length line == 0) ≡ false
    → behind_line so_far line ≡ Ok next → behind_lines so_far (full_lines text) ≡ total → behind_lines next (full_lines after) ≡ total
unfolding behind_lines
line_taken so_far next text line after total cut full good kept =
    sym (ap (behind_lines so_far) (full_lines-more text line after cut full)
    ∙ ap (λ r. r >>= λ next. behind_lines next (full_lines after)) good)
    ∙ kept

-- no line is left
pub lines_done : (so_far : Progress) (text : List ℕ) (total : Result Progress HexCode) → length text ≡ 0 → behind_lines so_far (full_lines text) ≡ total → total ≡ Ok so_far
unfolding behind_lines
lines_done so_far text total none kept = sym kept ∙ ap (λ t. behind_lines so_far (full_lines t)) (nil_from_length text none)
