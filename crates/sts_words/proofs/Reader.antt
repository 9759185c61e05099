-- The reader of the words behind a command, as a function on lists: what `Given` has after one word more. What words ask for is said without it.
use Rattle.std.specs.Prelude.{ℕ, Bool, true, false, List, [], ◌∷◌, if◌then◌else◌, codes, option_and_then, Option, Some, None}
use Rattle.std.specs.Option.{option_map}
use Rattle.std.specs.Str.{bytes_eq}
use Rattle.sts_words.specs.Orders.{Asked}
use Rattle.sts_words.specs.Words.{Part, Said, nothing, asked_by}
use Rattle.sts_words.specs.Views.{budget_part, part_of, added}

-- a part in front of others, where all are parts
abbrev pub in_front : Option Part → Option (List Part) → Option (List Part)
in_front part parts = option_and_then (λ first. option_map (λ rest. first ∷ rest) parts) part

-- The parts that these words are, in their order, if each is one. `awaits` says that the word before them is `--budget`, so that the first
-- of them is to be its number.
abbrev pub parts_from : Bool → List (List ℕ) → Option (List Part)
parts_from awaits [] = if awaits then None else Some []
parts_from awaits (word ∷ rest) =
    if awaits then in_front (budget_part word) (parts_from false rest)
    else if bytes_eq word (codes "--budget") then parts_from true rest
    else in_front (part_of word) (parts_from false rest)

-- what is said with parts in turn
unfoldable pub added_all : Said → List Part → Option Said
added_all said [] = Some said
added_all said (part ∷ rest) = option_and_then (λ more. added_all more rest) (added said part)

-- what is said with the parts that these words are
abbrev pub said_with : Said → Bool → List (List ℕ) → Option Said
said_with said awaits words = option_and_then (added_all said) (parts_from awaits words)

-- what words ask for, if they are taken
abbrev pub order_of : List (List ℕ) → Option Asked
order_of [] = None
order_of (command ∷ words) = option_and_then (asked_by command) (said_with nothing false words)

-- what is said with one more word, and whether the number of a budget is due behind it
abbrev pub next : Said → Bool → List ℕ → Option (Said × Bool)
next said awaits word =
    if awaits then option_map (λ more. (more, false)) (option_and_then (added said) (budget_part word))
    else if bytes_eq word (codes "--budget") then Some (said, true)
    else option_map (λ more. (more, false)) (option_and_then (added said) (part_of word))
