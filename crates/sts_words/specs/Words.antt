-- Which lists of words are taken, and what they ask for.
use Rattle.std.specs.Prelude.{◌≡◌, ◌⊎◌, ℕ, nat_le, ◌==◌, ◌&&◌, ◌||◌, is_some, Bool, true, false, not, List, [], ◌∷◌, ◌++◌, length, unwrap_or, if◌then◌else◌, codes, option_and_then, Option, Some, None, IsTrue}
use Rattle.std.specs.Char.{is_ascii_digit}
use Rattle.std.specs.List.{list_all}
use Rattle.std.specs.Option.{option_map}
use Rattle.std.specs.Str.{bytes_eq}
use Rattle.std.specs.Str.Parse.{digits_value}
use Rattle.sts_words.specs.Orders.{Asked, check_program, build_program, run_program, run_image, run_at, run_class, run_big, most_budget, default_budget, most_size}

-- A part of the words behind a command: a name, `--budget M` or `--budget=M`, `--stats`, or `--image`.
pub data Part : Type 0 where
  a_name : (word : List ℕ) → Part
  a_budget : (number : ℕ) → Part
  the_stats : Part
  the_image : Part

-- A number is written as one to ten decimal digits.
abbrev pub is_number : List ℕ → Bool
is_number word = nat_le 1 (length word) && nat_le (length word) 10 && list_all is_ascii_digit word

-- the number from 1 to `most` that a word is
abbrev pub number_within : ℕ → List ℕ → Option ℕ
number_within most word =
    if is_number word && nat_le 1 (digits_value 10 word) && nat_le (digits_value 10 word) most
    then Some (digits_value 10 word)
    else None

-- A name isn't empty and doesn't begin with a dash.
abbrev pub is_name : List ℕ → Bool
is_name [] = false
is_name (first ∷ rest) = not (first == 45)

-- The words that spell a part: a name itself; `--budget M` or `--budget=M`; `--stats`; `--image`.
abbrev pub SpellPart : Part → List (List ℕ) → Type 0
SpellPart (a_name word) words = IsTrue (is_name word) × (words ≡ word ∷ [])
SpellPart (a_budget number) words =
    (digits : List ℕ) × (number_within most_budget digits ≡ Some number)
    × ((words ≡ codes "--budget" ∷ digits ∷ []) ⊎ (words ≡ (codes "--budget=" ++ digits) ∷ []))
SpellPart the_stats words = words ≡ codes "--stats" ∷ []
SpellPart the_image words = words ≡ codes "--image" ∷ []

-- words are the spellings of these parts, one behind the other
abbrev pub Spell : List Part → List (List ℕ) → Type 0
Spell [] words = words ≡ []
Spell (part ∷ rest) words =
    (front more : List (List ℕ)) × SpellPart part front × Spell rest more × (words ≡ front ++ more)

-- what parts say together
pub record Said : Type 0 where
  pub names : List (List ℕ)
  pub budget : Option ℕ
  pub stats : Bool
  pub image : Bool

abbrev pub nothing : Said
nothing = record { names = []; budget = None; stats = false; image = false }

-- what is said with one more part, where that option doesn't stand there yet
abbrev pub also_said : Said → Part → Option Said
also_said said (a_name word) = Some (record said { names = said.names ++ word ∷ [] })
also_said said (a_budget number) = if is_some said.budget then None else Some (record said { budget = Some number })
also_said said the_stats = if said.stats then None else Some (record said { stats = true })
also_said said the_image = if said.image then None else Some (record said { image = true })

-- the same with parts in turn, and what they say by themselves
unfoldable pub all_also_said : Said → List Part → Option Said
all_also_said said [] = Some said
all_also_said said (part ∷ rest) = option_and_then (λ more. all_also_said more rest) (also_said said part)

abbrev pub said_by : List Part → Option Said
said_by parts = all_also_said nothing parts

-- the name, where there is one
abbrev pub one_name : List (List ℕ) → Option (List ℕ)
one_name (name ∷ []) = Some name
one_name _ = None

-- one name, and that of a script or none
abbrev pub with_script : List (List ℕ) → Option (List ℕ × Option (List ℕ))
with_script (name ∷ []) = Some (name, None)
with_script (name ∷ script ∷ []) = Some (name, Some script)
with_script _ = None

-- the name of a command that has no options
abbrev pub plain_name : Said → Option (List ℕ)
plain_name said = if is_some said.budget || (said.stats || said.image) then None else one_name said.names

-- `--image` stands only where `--stats` stands too
abbrev pub run_by : Said → Option Asked
run_by said =
    if said.image && not said.stats then None
    else option_map (λ named. run_program named.0 named.1 (unwrap_or said.budget default_budget) said.stats said.image)
    (with_script said.names)

abbrev pub run_hex_by : Said → Option Asked
run_hex_by said =
    if said.stats || said.image then None
    else option_map (λ named. run_image named.0 named.1 (unwrap_or said.budget default_budget)) (with_script said.names)

-- three names: a program's, a script's and that of arrivals
abbrev pub with_arrivals : List (List ℕ) → Option (List ℕ × List ℕ × List ℕ)
with_arrivals (name ∷ script ∷ arrivals ∷ []) = Some (name, script, arrivals)
with_arrivals _ = None

abbrev pub run_at_by : Said → Option Asked
run_at_by said =
    if said.stats || said.image then None else option_map
    (λ named. run_at named.0 named.1 named.2 (unwrap_or said.budget default_budget)) (with_arrivals said.names)

abbrev pub class_by : Said → Option Asked
class_by said =
    if said.stats || said.image then None
    else option_map (λ name. run_class name (unwrap_or said.budget default_budget)) (one_name said.names)

abbrev pub big_by : Said → Option Asked
big_by said =
    if said.image then None else
    option_map (λ size. run_big size (unwrap_or said.budget default_budget) said.stats)
    (option_and_then (number_within most_size) (one_name said.names))

-- what a command asks for with what is said behind it
abbrev pub asked_by : List ℕ → Said → Option Asked
asked_by command said =
    if bytes_eq command (codes "check") then option_map check_program (plain_name said)
    else if bytes_eq command (codes "build") then option_map build_program (plain_name said)
    else if bytes_eq command (codes "run") then run_by said
    else if bytes_eq command (codes "run-hex") then run_hex_by said
    else if bytes_eq command (codes "run-at") then run_at_by said
    else if bytes_eq command (codes "class") then class_by said
    else if bytes_eq command (codes "big") then big_by said
    else None

-- Words ask for this: they are a command, and behind it the spellings of some parts, in any order but that of names.
pub record AskFor (words : List (List ℕ)) (asked : Asked) : Type 0 where
  pub command : List ℕ
  pub behind : List (List ℕ)
  pub parts : List Part
  pub are : words ≡ command ∷ behind
  pub spelled : Spell parts behind
  pub taken : option_and_then (asked_by command) (said_by parts) ≡ Some asked

-- what words ask for, if they are taken
abbrev pub IsAskedBy : List (List ℕ) → Option Asked → Type 0
IsAskedBy words None = (asked : Asked) → ¬ AskFor words asked
IsAskedBy words (Some asked) = AskFor words asked
