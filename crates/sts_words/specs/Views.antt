-- What the code's values say, and what one word behind a command says.
use Rattle.std.specs.Prelude.{ℕ, nat_le, List, [], ◌∷◌, length, take, drop, if◌then◌else◌, codes, Option, Some, None}
use Rattle.std.specs.Option.{option_map}
use Rattle.std.specs.Borrow.{Bor}
use Rattle.std.specs.Str.{bytes_eq}
use Rattle.sts_words.specs.declared.said.Given.{Given}
use Rattle.sts_words.specs.declared.said.Names.{Names}
use Rattle.sts_words.specs.declared.said.Names.TheVariants.{Nothing, One, Two, Three}
use Rattle.sts_words.specs.Orders.{most_budget}
use Rattle.sts_words.specs.Words.{Part, a_name, a_budget, the_stats, the_image, Said, number_within, is_name, also_said}

-- the text behind a reference
abbrev pub spoken : Bor (List ℕ) → List ℕ
spoken text = text.now

abbrev pub names_view : Names → List (List ℕ)
names_view Nothing = []
names_view (One first) = first.now ∷ []
names_view (Two first second) = first.now ∷ second.now ∷ []
names_view (Three first second third) = first.now ∷ second.now ∷ third.now ∷ []

abbrev pub said_view : Given → Said
said_view given =
    record { names = names_view given.names; budget = given.budget; stats = given.stats; image = given.image }

-- what stands behind `--budget=` in a word that begins so
abbrev pub behind_budget : List ℕ → Option (List ℕ)
behind_budget word = if bytes_eq (take 9 word) (codes "--budget=") then Some (drop 9 word) else None

-- the budget that a word is
abbrev pub budget_part : List ℕ → Option Part
budget_part word = option_map a_budget (number_within most_budget word)

abbrev pub name_part : List ℕ → Option Part
name_part word = if is_name word then Some (a_name word) else None

-- the part that a word is, where this stands behind `--budget=`, or is else
abbrev pub joined_part : Option (List ℕ) → List ℕ → Option Part
joined_part (Some number) word = budget_part number
joined_part None word = name_part word

-- the part that one word is
abbrev pub part_of : List ℕ → Option Part
part_of word =
    if bytes_eq word (codes "--stats") then Some the_stats
    else if bytes_eq word (codes "--image") then Some the_image
    else joined_part (behind_budget word) word

-- what is said with one more part; no command takes a fourth name, so none is read
abbrev pub added : Said → Part → Option Said
added said (a_name word) = if nat_le (length said.names) 2 then also_said said (a_name word) else None
added said part = also_said said part
