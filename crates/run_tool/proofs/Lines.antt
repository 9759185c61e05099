-- Lines, in pieces.
use Rattle.std.proofs.Common.{◌≡◌, ℕ, List, [], ◌++◌, ◌∙◌, ap, sym, append_assoc, decimal, codes}
use Rattle.board_world.specs.Transcript.{stats_line}
use Rattle.run_tool.specs.Programs.{refused_line}
use Rattle.run_tool.specs.Runs.{instructions_line}

seven : (a b c d e f g : List ℕ) → a ++ b ++ c ++ d ++ e ++ f ++ g ≡ a ++ (b ++ (c ++ (d ++ (e ++ (f ++ g)))))
seven a b c d e f g =
    append_assoc (a ++ b ++ c ++ d ++ e) f g ∙ append_assoc (a ++ b ++ c ++ d) e (f ++ g) ∙ append_assoc (a ++ b ++ c) d (e ++ (f ++ g))
    ∙ append_assoc (a ++ b) c (d ++ (e ++ (f ++ g))) ∙ append_assoc a b (c ++ (d ++ (e ++ (f ++ g))))

eight : (t a b c d e f g : List ℕ) → t ++ a ++ b ++ c ++ d ++ e ++ f ++ g ≡ t ++ (a ++ (b ++ (c ++ (d ++ (e ++ (f ++ g))))))
eight t a b c d e f g = seven (t ++ a) b c d e f g ∙ append_assoc t a (b ++ (c ++ (d ++ (e ++ (f ++ g)))))

pub refusal-pieces : (text : List ℕ) (printed code line column : ℕ) → printed ≡ code
    → text ++ codes "refused " ++ decimal printed ++ codes " " ++ decimal line ++ codes " " ++ decimal column ++ codes "\n" ≡ text ++ refused_line code line column
refusal-pieces text printed code line column e =
    eight text (codes "refused ") (decimal printed) (codes " ") (decimal line) (codes " ") (decimal column) (codes "\n")
    ∙ ap (λ n. text ++ refused_line n line column) e

-- the line of statistics
pub stats-pieces : (spawned blocked words seats : ℕ)
    → [] ++ codes "stats spawned " ++ decimal spawned ++ codes " blocked " ++ decimal blocked ++ codes " words " ++ decimal words ++ codes " seats " ++ decimal seats ++ codes "\n" ≡ stats_line spawned blocked words seats
stats-pieces spawned blocked words seats =
    append_assoc (codes "stats spawned " ++ decimal spawned ++ codes " blocked " ++ decimal blocked ++ codes " words " ++ decimal words ++ codes " seats ") (decimal seats) (codes "\n")
    ∙ append_assoc (codes "stats spawned " ++ decimal spawned ++ codes " blocked " ++ decimal blocked ++ codes " words " ++ decimal words) (codes " seats ") (decimal seats ++ codes "\n")
    ∙ seven (codes "stats spawned ") (decimal spawned) (codes " blocked ") (decimal blocked) (codes " words ") (decimal words) (codes " seats " ++ (decimal seats ++ codes "\n"))

-- the line of the instructions, and a text behind it
pub image-pieces : (text : List ℕ) (executed : ℕ) (hex : List ℕ) → text ++ codes "instructions " ++ decimal executed ++ codes "\n" ++ hex ≡ text ++ (instructions_line executed ++ hex)
image-pieces text executed hex =
    let n = decimal executed in
    append_assoc (text ++ codes "instructions " ++ n) (codes "\n") hex ∙ append_assoc (text ++ codes "instructions ") n (codes "\n" ++ hex) ∙ append_assoc text (codes "instructions ") (n ++ (codes "\n" ++ hex))
    ∙ ap (λ x. text ++ (codes "instructions " ++ x)) (sym (append_assoc n (codes "\n") hex)) ∙ ap (λ x. text ++ x) (sym (append_assoc (codes "instructions ") (n ++ codes "\n") hex))
