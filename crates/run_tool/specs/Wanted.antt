-- Which files a command fetches, by their names, in their order.
use Rattle.std.specs.Prelude.{◌≡◌, ◌⊎◌, ◌++◌, ◌∷◌, ℕ, List, [], Option, Some, None}
use Rattle.class_file.specs.declared.class.Names.{Names}
use Rattle.sts_words.specs.Orders.{Asked, check_program, build_program, run_program, run_image, run_at, run_class, run_big}
use Rattle.run_tool.specs.declared.fetched.Fetched.{Fetched}
use Rattle.run_tool.specs.declared.fetched.Fetched.TheVariants.{Text}
use Rattle.run_tool.specs.Files.{ToldFiles, MayFetch, Reading}
use Rattle.run_tool.specs.Programs.{programs}
use Rattle.run_tool.specs.Scripts.{scripts}
use Rattle.run_tool.specs.Runs.{images}
use Rattle.run_tool.specs.ClassBoards.{classes, board_scripts}

-- Behind the names that a folder was asked for before, `asked old`, come those of this list, of which this holds.
abbrev pub HasAsked : {S : Type 0} → (S → List (List ℕ)) → S → S → (List (List ℕ) → Type 0) → Type 0
HasAsked asked old new such = (names : List (List ℕ)) × (asked new ≡ asked old ++ names) × such names

-- nothing is fetched
abbrev pub wants_none : List (List ℕ) → Type 0
wants_none names = names ≡ []

-- Behind a text of such a kind these are fetched, by what it stands for; and nothing is where it stands for nothing.
abbrev pub Onwards : {T C : Type 0} → Reading T C → (T → List (List ℕ) → Type 0) → List ℕ → List (List ℕ) → Type 0
Onwards {T} {C} reading next text names =
    ((read : T) × reading.stands_for text read × next read names)
    ⊎ ((cause : C) × reading.refuses text cause × (names ≡ []))

-- These are fetched; or `lacking` holds, that there was no memory, and nothing is.
abbrev pub OrLacks : (lacking : Type 0) → (List (List ℕ) → Type 0) → List (List ℕ) → Type 0
OrLacks lacking next names = next names ⊎ (lacking × (names ≡ []))

-- what is fetched behind a fetch, by what is behind a text, where it came to one
abbrev pub WantsBehind : (List ℕ → List (List ℕ) → Type 0) → Fetched → List (List ℕ) → Type 0
WantsBehind next (Text bytes) names = next bytes.items names
WantsBehind next other names = names ≡ []

-- Where `lacking` says that there was no memory, which may end it anywhere:
module _ (files : ToldFiles) (lacking : Type 0) where
  -- the file of this name is fetched, if there is memory for its name, and then what the fetch asks for by what it comes to;
  abbrev pub WantsFile : List ℕ → (List ℕ → List (List ℕ) → Type 0) → List (List ℕ) → Type 0
  WantsFile name next [] = lacking
  WantsFile name next (first ∷ more) =
      (first ≡ name) × OrLacks lacking
      (λ names. (fetched : Fetched) × MayFetch files name fetched × WantsBehind next fetched names) more

  -- a script's, if one is named, and then these, where its text stands for one;
  abbrev pub WantsScript : Option (List ℕ) → (List (List ℕ) → Type 0) → List (List ℕ) → Type 0
  WantsScript None next = next
  WantsScript (Some name) next = WantsFile name (Onwards scripts (λ script. next))

  -- a script's and that of arrivals, of these names;
  abbrev pub WantsOutside : (script arrivals : List ℕ) → List (List ℕ) → Type 0
  WantsOutside script arrivals = WantsScript (Some script) (WantsFile arrivals (λ text. wants_none))

  -- and the program's and the script's of each board of a class with this end, one after the other.
  abbrev pub WantsBoards : (until : ℕ) → List Names → (List (List ℕ) → Type 0) → List (List ℕ) → Type 0
  WantsBoards until [] next = next
  WantsBoards until (names ∷ boards) next =
      WantsFile names.program (Onwards programs (λ read.
      WantsFile names.script (Onwards (board_scripts until) (λ script. WantsBoards until boards next))))

  -- What is fetched for what the words ask for, if they are taken.
  abbrev pub Wants : Option Asked → List (List ℕ) → Type 0
  Wants None = wants_none
  Wants (Some (check_program name)) = WantsFile name (λ text. wants_none)
  Wants (Some (build_program name)) = WantsFile name (λ text. wants_none)
  Wants (Some (run_program name script budget stats image)) =
      WantsFile name (Onwards programs (λ read. WantsScript script wants_none))
  Wants (Some (run_image name script budget)) =
      WantsFile name (Onwards images (λ image. WantsScript script wants_none))
  Wants (Some (run_at name script arrivals budget)) =
      WantsFile name (Onwards programs (λ read. WantsOutside script arrivals))
  Wants (Some (run_class name budget)) =
      WantsFile name (Onwards classes (λ file. WantsBoards file.end file.boards wants_none))
  Wants (Some (run_big size budget stats)) = wants_none
