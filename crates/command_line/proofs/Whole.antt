-- All words behind the command.
use Rattle.std.proofs.Common.{◌≡◌, List, [], ◌∷◌, refl, sym, ◌∙◌, subst, Bool, true, false}
use Rattle.std.specs.Prelude.{Option, Some, None, ◌&&◌, fold, option_and_then}
use Rattle.clap.specs.Words.{Text}
use Rattle.clap.specs.Walk.{Walk, walked, walk_from, nothing_held}
use Rattle.clap.specs.Takes.{walk_passes}
use Rattle.sts_words.specs.Words.{Said, nothing}
use Rattle.sts_words.proofs.Laws.{one-word, all-said, said_with, next}
use Rattle.command_line.proofs.Steps.{rules, shape}
use Rattle.command_line.proofs.Has.{has-nothing}
use Rattle.command_line.proofs.OneWord.{Ready, Stands, Goes, word-goes}

-- The words pass, and the walk then stands behind what they say.
abbrev pub AllGo : Text → Walk → List Text → Said → Type 0
AllGo name w words said = (walk_passes (shape name) [] w words ≡ true) × Ready said (fold (walked rules []) w words)

pub true-and : (a b : Bool) → a ≡ true → b ≡ true → (a && b) ≡ true
true-and true b e h = h
true-and false b e h = e

one-goes : (name : Text) (w : Walk) (word : Text) (rest : List Text) (after : Said × Bool) (said : Said) → Goes name w word after → AllGo name (walked rules [] w word) rest said → AllGo name w (word ∷ rest) said
unfolding walk_passes
one-goes name w word rest after said goes others = (true-and _ _ goes.0 others.0, others.1)

all-go-on : (name : Text) (word : Text) (rest : List Text) (said : Said) (awaits : Bool) (end : Said) (w : Walk) → Stands awaits said w
    → ((after : Said × Bool) → said_with after.0 after.1 rest ≡ Some end → Stands after.1 after.0 (walked rules [] w word) → AllGo name (walked rules [] w word) rest end)
    → (o : Option (Said × Bool)) → next said awaits word ≡ o → option_and_then (λ (n : Said × Bool). said_with n.0 n.1 rest) o ≡ Some end → AllGo name w (word ∷ rest) end
all-go-on name word rest said awaits end w stands others None e h = let bad : ⊥ = cc in absurd bad
all-go-on name word rest said awaits end w stands others (Some after) e h =
    let goes = word-goes name said awaits word after w e stands in
    one-goes name w word rest after end goes (others after h goes.1)

pub all-go : (name : Text) (words : List Text) (said : Said) (awaits : Bool) (end : Said) (w : Walk) → said_with said awaits words ≡ Some end → Stands awaits said w → AllGo name w words end
unfolding walk_passes
all-go name [] said true end w is stands = let bad : ⊥ = cc in absurd bad
all-go name [] said false end w is stands = let same : Some said ≡ Some end = sym (all-said said) ∙ is in let e : said ≡ end = cc in (refl, subst (λ s. Ready s w) e stands)
all-go name (word ∷ rest) said awaits end w is stands =
    all-go-on name word rest said awaits end w stands (λ after h now. all-go name rest after.0 after.1 end (walked rules [] w word) h now)
    (next said awaits word) refl (sym (one-word said awaits word rest) ∙ is)

pub words-go : (name : Text) (words : List Text) (said : Said) → said_with nothing false words ≡ Some said → AllGo name (walk_from nothing_held) words said
words-go name words said is =
    all-go name words nothing false said (walk_from nothing_held) is (record { rows = []; pending = None; skip = 0; walk_is = refl; has = has-nothing; settles = refl })
