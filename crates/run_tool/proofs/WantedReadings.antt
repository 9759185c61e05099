-- What is fetched behind texts that are read, or aren't what is wanted.
use Rattle.std.proofs.Common.{◌≡◌, ◌<◌, ◌+◌, ℕ, List, [], ◌∷◌, ◌++◌, length, inl, inr, refl, sym, ap, ◌∙◌, subst, take, drop, get_or}
use Rattle.std.proofs.lemmas.List.{take_more, drop_more, take-append-drop}
use Rattle.std.specs.Prelude.{Option, Some, None}
use Rattle.std.specs.Option.{option_to_list}
use Rattle.sts_base.specs.declared.refused.Code.{Code}
use Rattle.sts_base.specs.declared.tables.Tables.{Tables}
use Rattle.board_world.specs.Simulation.{Paired}
use Rattle.sts_syntax.specs.TypedTrees.{TypedProgram}
use Rattle.hex_image.specs.declared.refused.HexCode.{HexCode}
use Rattle.hex_image.specs.declared.refused.HexRefused.{HexRefused}
use Rattle.hex_image.specs.declared.refused.HexRefused.TheVariants.{Image}
use Rattle.hex_image.specs.Spells.{Breaks}
use Rattle.hex_image.specs.Answers.{HasCause}
use Rattle.event_script.specs.declared.script.Script.{Script}
use Rattle.event_script.specs.declared.script.ScriptCode.{ScriptCode}
use Rattle.class_file.specs.declared.class.Names.{Names}
use Rattle.class_file.specs.declared.class.ClassFile.{ClassFile}
use Rattle.class_file.specs.declared.class.ClassCode.{ClassCode}
use Rattle.run_tool.specs.Built.{Builds}
use Rattle.run_tool.specs.declared.fetched.Fetched.TheVariants.{Text}
use Rattle.run_tool.specs.declared.ending.Ending.{Ending}
use Rattle.run_tool.specs.declared.ending.Ending.TheVariants.{NoMemory}
use Rattle.run_tool.specs.Answers.{Answer}
use Rattle.run_tool.specs.inner.{GivesOneOf, none_to_read, IsScriptOf, names_of_boards, wants_never, HasText, IsSourceOf, AreReady}
use Rattle.run_tool.specs.Files.{ToldFiles}
use Rattle.run_tool.specs.Runs.{images}
use Rattle.run_tool.specs.Programs.{programs, OverProgram}
use Rattle.run_tool.specs.Scripts.{scripts, AnswersScript}
use Rattle.run_tool.specs.ClassBoards.{classes, AnswersClassFile, BoardSource, OverBoardProgram, Unfit, IsUnfit, board_scripts, AnswersBoardScript}
use Rattle.run_tool.specs.declared.class_boards.Boards.{Boards}
use Rattle.run_tool.specs.Wanted.{HasAsked, Onwards, OrLacks, WantsBoards, WantsFile, WantsScript, wants_none}
use Rattle.run_tool.proofs.Readings.{IsOnward, fetch-onwards}
use Rattle.run_tool.proofs.ClassAnswers.{source-onwards}
use Rattle.run_tool.proofs.ClassRuns.{paired-so}
use Rattle.run_tool.proofs.Wanting.{asked-behind, file-fetched, file-more, names-append, read-more, stops}

-- behind a text of which an image is built
pub accepted : (text image : List ℕ) (b : Builds text image) (next : Tables × TypedProgram → List (List ℕ) → Type 0) (names : List (List ℕ)) → next (b.tables, b.program) names → Onwards programs next text names
accepted text image b next names h = inl ((b.tables, b.program), b.accepted, h)

-- behind one that spells none, by this code
pub broken : (text : List ℕ) (why : HexRefused) (code : HexCode) → why ≡ Image code → HasCause why (Breaks text) → (next : List ℕ → List (List ℕ) → Type 0) → Onwards images next text []
broken text why code e cause next = inr (code, subst (λ x. HasCause x (Breaks text)) e cause, refl)

module _ {S : Type 0} {taken : S → Option (List ℕ)} {faults : S → ℕ} {old new : S} (text : List ℕ) (ending : Ending) where
  -- a text is no program, nor that of a board,
  pub program-stops : (next : Tables × TypedProgram → List (List ℕ) → Type 0) → GivesOneOf taken faults old new (OverProgram (λ P. none_to_read) text) ending → OrLacks (ending ≡ NoMemory) (Onwards programs next text) []
  program-stops next g = stops programs next text (OverProgram (λ P. none_to_read) text) ending by_answer g
    where
      by_answer : (answer : Answer) → OverProgram (λ P. none_to_read) text answer → (cause : Code × ℕ) × programs.refuses text cause
      by_answer answer (inl h) = absurd h.2
      by_answer answer (inr h) = (h.0, h.1)

  pub board-program-stops : (b : ℕ) (next : Tables × TypedProgram → List (List ℕ) → Type 0) → GivesOneOf taken faults old new (OverBoardProgram b (λ tables. none_to_read) text) ending
      → OrLacks (ending ≡ NoMemory) (Onwards programs next text) []
  board-program-stops b next g = stops programs next text (OverBoardProgram b (λ tables. none_to_read) text) ending by_answer g
    where
      by_answer : (answer : Answer) → OverBoardProgram b (λ tables. none_to_read) text answer → (cause : Code × ℕ) × programs.refuses text cause
      by_answer answer (inl h) = absurd h.2
      by_answer answer (inr h) = (h.0, h.1)

  -- no script, nor that of a board,
  pub script-stops : (next : Script → List (List ℕ) → Type 0) → GivesOneOf taken faults old new (AnswersScript none_to_read text) ending → OrLacks (ending ≡ NoMemory) (Onwards scripts next text) []
  script-stops next g = stops scripts next text (AnswersScript none_to_read text) ending by_answer g
    where
      by_answer : (answer : Answer) → AnswersScript none_to_read text answer → (code : ScriptCode) × scripts.refuses text code
      by_answer answer (inl h) = absurd h.2
      by_answer answer (inr h) = (h.0, h.1)

  pub board-script-stops : (b until : ℕ) (next : Script → List (List ℕ) → Type 0) → GivesOneOf taken faults old new (AnswersBoardScript b until none_to_read text) ending
      → OrLacks (ending ≡ NoMemory) (Onwards (board_scripts until) next text) []
  board-script-stops b until next g = stops (board_scripts until) next text (AnswersBoardScript b until none_to_read text) ending by_answer g
    where
      by_answer : (answer : Answer) → AnswersBoardScript b until none_to_read text answer → (cause : Unfit) × IsUnfit until text cause
      by_answer answer (inl h) = absurd h.2
      by_answer answer (inr h) = (h.0, h.1)

  -- nor a class
  pub class-stops : (next : ClassFile → List (List ℕ) → Type 0) → GivesOneOf taken faults old new (AnswersClassFile none_to_read text) ending → OrLacks (ending ≡ NoMemory) (Onwards classes next text) []
  class-stops next g = stops classes next text (AnswersClassFile none_to_read text) ending by_answer g
    where
      by_answer : (answer : Answer) → AnswersClassFile none_to_read text answer → (code : ClassCode) × classes.refuses text code
      by_answer answer (inl h) = absurd h.2
      by_answer answer (inr h) = (h.0, h.1)

module _ (files : ToldFiles) (lacking : Type 0) where
  -- a script that was read
  pub script-read : (name : Option (List ℕ)) (script : Script) → IsScriptOf files name script → WantsScript files lacking name wants_none (option_to_list name)
  script-read None script h = refl
  script-read (Some name) script h = (refl, inl (Text h.0, h.1, inl (script, h.2, refl)))

  pub script-then : (name : List ℕ) (script : Script) (next : List (List ℕ) → Type 0) (more : List (List ℕ)) → IsScriptOf files (Some name) script → next more → WantsScript files lacking (Some name) next (name ∷ more)
  script-then name script next more h x = (refl, inl (Text h.0, h.1, inl (script, h.2, x)))

  module _ (until : ℕ) where
    -- the files of a board that is made ready, and then those of the boards behind it
    board-read : (n : Names) (boards : List Names) (board : BoardSource) (next : List (List ℕ) → Type 0) (more : List (List ℕ)) → IsSourceOf files until n board → WantsBoards files lacking until boards next more
        → WantsBoards files lacking until (n ∷ boards) next (n.program ∷ n.script ∷ more)
    board-read n boards board next more s h =
        (refl, inl (Text s.program.0, s.program.1, inl ((board.tables, board.program), s.program.2, (refl, inl (Text s.script.0, s.script.1, inl (board.script, (s.script.2, s.ends), h))))))

    -- of boards that are, and then those behind
    pub boards-read : (done : List Names) (sources : List BoardSource) (boards : List Names) (next : List (List ℕ) → Type 0) (more : List (List ℕ)) → Paired (IsSourceOf files until) done sources
        → WantsBoards files lacking until boards next more → WantsBoards files lacking until (done ++ boards) next (names_of_boards done ++ more)
    boards-read [] [] boards next more p h = h
    boards-read [] (s ∷ sources) boards next more p h = absurd p
    boards-read (n ∷ done) [] boards next more p h = absurd p
    boards-read (n ∷ done) (s ∷ sources) boards next more p h = board-read n (done ++ boards) s next (names_of_boards done ++ more) p.0 (boards-read done sources boards next more p.1 h)

    pub all-read : (done : List Names) (sources : List BoardSource) → Paired (IsSourceOf files until) done sources → WantsBoards files lacking until done wants_none (names_of_boards done)
    all-read [] [] p = refl
    all-read [] (s ∷ sources) p = absurd p
    all-read (n ∷ done) [] p = absurd p
    all-read (n ∷ done) (s ∷ sources) p = board-read n done s wants_none (names_of_boards done) p.0 (all-read done sources p.1)

-- a script that was read stays one where the folder tells the same and failed no less
pub script-kept : (files files' : ToldFiles) (name : List ℕ) (script : Script) → IsOnward files files' → IsScriptOf files (Some name) script → IsScriptOf files' (Some name) script
script-kept files files' name script on h = (h.0, fetch-onwards files files' name (Text h.0) on h.1, h.2)

-- a board's script was asked for behind its program, of which an image was built, and nothing is behind it
module _ {S : Type 0} (asked : S → List (List ℕ)) (old mid new : S) (files files' : ToldFiles) (on : IsOnward files files') (lacking : Type 0) (until : ℕ) (n : Names) where
  pub script-asked : (image : List ℕ) → HasText files' n.program (λ text. Builds text image) → asked mid ≡ asked old ++ n.program ∷ []
      → HasAsked asked mid new (WantsFile files lacking n.script (Onwards (board_scripts until) (λ script. wants_never)))
      → HasAsked asked old new (WantsBoards files' lacking until (n ∷ []) wants_never)
  script-asked image i e h =
      (let never = Onwards (board_scripts until) (λ script. wants_never) in
      let next = WantsFile files' lacking n.script never in
      asked-behind asked old mid new n.program (WantsFile files lacking n.script never) (WantsFile files' lacking n.program (Onwards programs (λ read. next))) e
      (λ more x. file-fetched files' lacking n.program (Onwards programs (λ read. next)) i.0 i.0.items more refl i.1
      (inl (accepted i.0.items image i.2 (λ read. next) more
      (file-more files files' lacking lacking on (λ l. l) n.script never never more (λ text names y. y) x)))) h)

-- of the names of a list of boards, the first of which are ready: those of one more, and of all up to one that stops
pub next-names : (names : List Names) (at : ℕ) (n : Names) → at < length names → n ≡ get_or names at n → names_of_boards (take (at + 1) names) ≡ names_of_boards (take at names) ++ names_of_boards (n ∷ [])
next-names names at n l is = ap names_of_boards (take_more names at n l ∙ ap (λ (x : Names). take at names ++ x ∷ []) (sym is)) ∙ names-append (take at names) (n ∷ [])

module _ (before mid now : ToldFiles) (until : ℕ) (was : IsOnward before now) (on : IsOnward mid now)
    (names : List Names) (at : ℕ) (n : Names) (boards : Boards) (r : AreReady before until (take at names) boards) (l : at < length names) (is : n ≡ get_or names at n) (lacking : Type 0) where
  pub next-wanted : (more : List (List ℕ)) → WantsBoards mid lacking until (n ∷ []) wants_never more → WantsBoards now lacking until names wants_never (names_of_boards (take at names) ++ more)
  next-wanted more h =
      (let done = take at names in
      let rest = drop (at + 1) names in
      let e : done ++ n ∷ rest ≡ names = ap (λ (x : Names). done ++ x ∷ rest) is ∙ (ap (λ (ns : List Names). done ++ ns) (sym (drop_more names at n l)) ∙ take-append-drop at names) in
      let behind = WantsBoards now lacking until rest wants_never in
      subst (λ (ns : List Names). WantsBoards now lacking until ns wants_never (names_of_boards done ++ more)) e
      (boards-read now lacking until done r.sources (n ∷ rest) wants_never more
      (paired-so (IsSourceOf before until) (IsSourceOf now until) (source-onwards before now until was) done r.sources r.are)
      (read-more mid now lacking lacking on (λ l. l) programs n.program (λ read. WantsFile mid lacking n.script (Onwards (board_scripts until) (λ script. wants_never)))
      (λ read. WantsFile now lacking n.script (Onwards (board_scripts until) (λ script. behind))) more
      (λ read more x. read-more mid now lacking lacking on (λ l. l) (board_scripts until) n.script (λ script. wants_never) (λ script. behind) more (λ script more y. absurd y) x) h)))
