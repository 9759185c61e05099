-- Files that are fetched one after the other, by their names.
use Rattle.std.proofs.Common.{◌≡◌, ◌≤◌, ℕ, List, [], ◌∷◌, ◌++◌, inl, inr, refl, sym, ap, ◌∙◌, subst, append_assoc}
use Rattle.std.proofs.lemmas.List.{append-nil}
use Rattle.std.specs.Prelude.{Option, Some, None, Result, Ok, Err, OnOk, ◌⊎◌}
use Rattle.std.specs.declared.vec.Vec.{Vec}
use Rattle.std.specs.declared.alloc.Global.{Global}
use Rattle.tool_folder.specs.Noting.{HasNoted}
use Rattle.class_file.specs.declared.class.Names.{Names}
use Rattle.sts_words.specs.Orders.{Asked, check_program, build_program, run_program, run_image, run_at, run_class, run_big}
use Rattle.run_tool.specs.declared.fetched.Fetched.{Fetched}
use Rattle.run_tool.specs.declared.fetched.Fetched.TheVariants.{Text, Absent, Long, Failed}
use Rattle.run_tool.specs.declared.ending.Ending.{Ending}
use Rattle.run_tool.specs.declared.ending.Ending.TheVariants.{Gave, Cut, NoMemory}
use Rattle.run_tool.specs.Answers.{Answer, says}
use Rattle.run_tool.specs.inner.{GivesOneOf, names_of_boards, wants_never}
use Rattle.run_tool.specs.Files.{ToldFiles, told_by, MayFetch, Reading}
use Rattle.run_tool.specs.Programs.{programs}
use Rattle.run_tool.specs.Scripts.{scripts}
use Rattle.run_tool.specs.Runs.{images}
use Rattle.run_tool.specs.ClassBoards.{classes, board_scripts}
use Rattle.run_tool.specs.Wanted.{HasAsked, Onwards, OrLacks, Wants, WantsBehind, WantsBoards, WantsFile, WantsOutside, WantsScript, wants_none}
use Rattle.run_tool.proofs.Readings.{IsOnward, fetch-onwards, first-part}

-- ---- the names that a folder was asked for

pub no-more : (before : List (List ℕ)) → before ≡ before ++ []
no-more before = sym (append-nil before)

pub more-behind : (before first now names more : List (List ℕ)) → first ≡ before ++ names → now ≡ first ++ more → now ≡ before ++ (names ++ more)
more-behind before first now names more e f = f ∙ ap (λ x. x ++ more) e ∙ append_assoc before names more

pub asked-more : {S : Type 0} (asked : S → List (List ℕ)) (old new : S) (such more : List (List ℕ) → Type 0) → ((names : List (List ℕ)) → such names → more names)
    → HasAsked asked old new such → HasAsked asked old new more
asked-more asked old new such more f h = (h.0, h.1, f h.0 h.2)

-- one name, and then others
pub asked-behind : {S : Type 0} (asked : S → List (List ℕ)) (old mid new : S) (name : List ℕ) (such more : List (List ℕ) → Type 0) → asked mid ≡ asked old ++ name ∷ []
    → ((names : List (List ℕ)) → such names → more (name ∷ names)) → HasAsked asked mid new such → HasAsked asked old new more
asked-behind asked old mid new name such more e f h = (name ∷ h.0, more-behind (asked old) (asked mid) (asked new) (name ∷ []) h.0 e h.1, f h.0 h.2)

-- none
pub asked-none : {S : Type 0} (asked : S → List (List ℕ)) (old : S) (such : List (List ℕ) → Type 0) → such [] → HasAsked asked old old such
asked-none asked old such h = ([], no-more (asked old), h)

pub names-append : (boards more : List Names) → names_of_boards (boards ++ more) ≡ names_of_boards boards ++ names_of_boards more
names-append [] more = refl
names-append (n ∷ boards) more = ap (λ x. n.program ∷ n.script ∷ x) (names-append boards more)

-- ---- where more may be fetched

pub onwards-more : {T C : Type 0} (reading : Reading T C) (next more : T → List (List ℕ) → Type 0) (text : List ℕ) (names : List (List ℕ)) → ((read : T) → next read names → more read names)
    → Onwards reading next text names → Onwards reading more text names
onwards-more reading next more text names f (inl h) = inl (h.0, h.1, f h.0 h.2)
onwards-more reading next more text names f (inr h) = inr h

pub or-more : (lacking lacking' : Type 0) (next more : List (List ℕ) → Type 0) (names : List (List ℕ)) → (lacking → lacking') → (next names → more names)
    → OrLacks lacking next names → OrLacks lacking' more names
or-more lacking lacking' next more names l f (inl h) = inl (f h)
or-more lacking lacking' next more names l f (inr h) = inr (l h.0, h.1)

behind-more : (next more : List ℕ → List (List ℕ) → Type 0) (fetched : Fetched) (names : List (List ℕ)) → ((text : List ℕ) → next text names → more text names)
    → WantsBehind next fetched names → WantsBehind more fetched names
behind-more next more (Text bytes) names f h = f bytes.items h
behind-more next more Absent names f h = h
behind-more next more Long names f h = h
behind-more next more Failed names f h = h

-- also where a folder tells the same and failed no less
module _ (files files' : ToldFiles) (lacking lacking' : Type 0) (on : IsOnward files files') (lacks : lacking → lacking') where
  pub file-more : (name : List ℕ) (next more : List ℕ → List (List ℕ) → Type 0) (names : List (List ℕ)) → ((text : List ℕ) (names : List (List ℕ)) → next text names → more text names)
      → WantsFile files lacking name next names → WantsFile files' lacking' name more names
  file-more name next more [] f h = lacks h
  file-more name next more (first ∷ names) f h = (
    h.0,
    or-more lacking lacking' (λ names. (fetched : Fetched) × MayFetch files name fetched × WantsBehind next fetched names)
        (λ names. (fetched : Fetched) × MayFetch files' name fetched × WantsBehind more fetched names) names lacks
        (λ x. (x.0, fetch-onwards files files' name x.0 on x.1, behind-more next more x.0 names (λ text y. f text names y) x.2)) h.1,
  )

  pub read-more : {T C : Type 0} (reading : Reading T C) (name : List ℕ) (next more : T → List (List ℕ) → Type 0) (names : List (List ℕ)) → ((read : T) (names : List (List ℕ)) → next read names → more read names)
      → WantsFile files lacking name (Onwards reading next) names → WantsFile files' lacking' name (Onwards reading more) names
  read-more reading name next more names f h =
      file-more name (Onwards reading next) (Onwards reading more) names (λ text names x. onwards-more reading next more text names (λ read y. f read names y) x) h

  pub script-more : (name : Option (List ℕ)) (next more : List (List ℕ) → Type 0) (names : List (List ℕ)) → ((names : List (List ℕ)) → next names → more names)
      → WantsScript files lacking name next names → WantsScript files' lacking' name more names
  script-more None next more names f h = f names h
  script-more (Some name) next more names f h = read-more scripts name (λ script. next) (λ script. more) names (λ script names x. f names x) h

  pub outside-more : (script arrivals : List ℕ) (names : List (List ℕ)) → WantsOutside files lacking script arrivals names → WantsOutside files' lacking' script arrivals names
  outside-more script arrivals names h =
      script-more (Some script) (WantsFile files lacking arrivals (λ text. wants_none)) (WantsFile files' lacking' arrivals (λ text. wants_none)) names
      (λ names x. file-more arrivals (λ text. wants_none) (λ text. wants_none) names (λ text names y. y) x) h

  pub boards-more : (until : ℕ) (boards : List Names) (next more : List (List ℕ) → Type 0) (names : List (List ℕ)) → ((names : List (List ℕ)) → next names → more names)
      → WantsBoards files lacking until boards next names → WantsBoards files' lacking' until boards more names
  boards-more until [] next more names f h = f names h
  boards-more until (n ∷ boards) next more names f h =
      read-more programs n.program (λ read. WantsFile files lacking n.script (Onwards (board_scripts until) (λ script. WantsBoards files lacking until boards next)))
      (λ read. WantsFile files' lacking' n.script (Onwards (board_scripts until) (λ script. WantsBoards files' lacking' until boards more))) names
      (λ read names x. read-more (board_scripts until) n.script (λ script. WantsBoards files lacking until boards next) (λ script. WantsBoards files' lacking' until boards more) names
      (λ script names y. boards-more until boards next more names f y) x) h

  pub wants-more : (asked : Option Asked) (names : List (List ℕ)) → Wants files lacking asked names → Wants files' lacking' asked names
  wants-more None names h = h
  wants-more (Some (check_program name)) names h = file-more name (λ text. wants_none) (λ text. wants_none) names (λ text names x. x) h
  wants-more (Some (build_program name)) names h = file-more name (λ text. wants_none) (λ text. wants_none) names (λ text names x. x) h
  wants-more (Some (run_program name script budget stats image)) names h =
      read-more programs name (λ read. WantsScript files lacking script wants_none) (λ read. WantsScript files' lacking' script wants_none) names
      (λ read names x. script-more script wants_none wants_none names (λ names y. y) x) h
  wants-more (Some (run_image name script budget)) names h =
      read-more images name (λ image. WantsScript files lacking script wants_none) (λ image. WantsScript files' lacking' script wants_none) names
      (λ image names x. script-more script wants_none wants_none names (λ names y. y) x) h
  wants-more (Some (run_at name script arrivals budget)) names h =
      read-more programs name (λ read. WantsOutside files lacking script arrivals) (λ read. WantsOutside files' lacking' script arrivals) names (λ read names x. outside-more script arrivals names x) h
  wants-more (Some (run_class name budget)) names h =
      read-more classes name (λ file. WantsBoards files lacking file.end file.boards wants_none) (λ file. WantsBoards files' lacking' file.end file.boards wants_none) names
      (λ file names x. boards-more file.end file.boards wants_none wants_none names (λ names y. y) x) h
  wants-more (Some (run_big size budget stats)) names h = h

-- without memory nothing may be fetched
pub lacks-all : (files : ToldFiles) (lacking : Type 0) (asked : Option Asked) → lacking → Wants files lacking asked []
lacks-all files lacking None l = refl
lacks-all files lacking (Some (check_program name)) l = l
lacks-all files lacking (Some (build_program name)) l = l
lacks-all files lacking (Some (run_program name script budget stats image)) l = l
lacks-all files lacking (Some (run_image name script budget)) l = l
lacks-all files lacking (Some (run_at name script arrivals budget)) l = l
lacks-all files lacking (Some (run_class name budget)) l = l
lacks-all files lacking (Some (run_big size budget stats)) l = refl

-- ---- one file

-- a text was fetched
pub file-fetched : (files : ToldFiles) (lacking : Type 0) (name : List ℕ) (next : List ℕ → List (List ℕ) → Type 0) (bytes : Vec ℕ Global) (text : List ℕ) (more : List (List ℕ))
    → text ≡ bytes.items → MayFetch files name (Text bytes) → OrLacks lacking (next text) more → WantsFile files lacking name next (name ∷ more)
file-fetched files lacking name next bytes text more e m (inl h) = (refl, inl (Text bytes, m, subst (λ t. next t more) e h))
file-fetched files lacking name next bytes text more e m (inr l) = (refl, inr l)

-- none was
pub file-missed : (files : ToldFiles) (lacking : Type 0) (name : List ℕ) (next : List ℕ → List (List ℕ) → Type 0) (names : List (List ℕ))
    → WantsFile files lacking name (λ text. wants_never) names → WantsFile files lacking name next names
file-missed files lacking name next names h = file-more files files lacking lacking (λ file. refl, λ r. r) (λ l. l) name (λ text. wants_never) next names (λ text names x. absurd x) h

-- a file's text, and what is behind it, over a folder that is asked for the one and then for the other
module _ {S : Type 0} (asked : S → List (List ℕ)) (holds : S → List ℕ → Option (Option (List ℕ))) (faults : S → ℕ) (old mid new : S) where
  pub then-behind : (lacking : Type 0) (name : List ℕ) (next : List ℕ → List (List ℕ) → Type 0) (bytes : Vec ℕ Global) (text : List ℕ) → asked mid ≡ asked old ++ name ∷ []
      → MayFetch (told_by holds faults old mid) name (Text bytes) → text ≡ bytes.items → faults mid ≤ faults new → HasAsked asked mid new (OrLacks lacking (next text))
      → HasAsked asked old new (WantsFile (told_by holds faults old new) lacking name next)
  then-behind lacking name next bytes text e m t later h =
      asked-behind asked old mid new name (OrLacks lacking (next text)) (WantsFile (told_by holds faults old new) lacking name next) e
      (λ names x. file-fetched (told_by holds faults old new) lacking name next bytes text names t
      (fetch-onwards (told_by holds faults old mid) (told_by holds faults old new) name (Text bytes) (first-part holds faults old mid new later) m) x) h

-- ---- one fetch

-- the name was noted, where there was memory,
pub noted-name : (before after : List (List ℕ)) (name : List ℕ) (lacking : Type 0) → HasNoted before after name lacking → ¬ lacking → after ≡ before ++ name ∷ []
noted-name before after name lacking (inl e) f = e
noted-name before after name lacking (inr l) f = absurd (f l.0)

-- and in any case that or nothing was
pub noted-or-none : (before after : List (List ℕ)) (name : List ℕ) (lacking : Type 0) → HasNoted before after name lacking → (after ≡ before ++ name ∷ []) ⊎ (after ≡ before)
noted-or-none before after name lacking (inl e) = inl e
noted-or-none before after name lacking (inr l) = inr l.1

-- nothing is fetched behind a fetch that came to no text,
pub file-ended : (files : ToldFiles) (lacking : Type 0) (name : List ℕ) (next : List ℕ → List (List ℕ) → Type 0) (fetched : Fetched)
    → MayFetch files name fetched → WantsBehind next fetched [] → WantsFile files lacking name next (name ∷ [])
file-ended files lacking name next fetched m h = (refl, inl (fetched, m, h))

-- nor where there was no memory
pub file-lacked : {S : Type 0} (asked : S → List (List ℕ)) (old new : S) (files : ToldFiles) (lacking : Type 0) (name : List ℕ) (next : List ℕ → List (List ℕ) → Type 0)
    → lacking → (asked new ≡ asked old ++ name ∷ []) ⊎ (asked new ≡ asked old) → HasAsked asked old new (WantsFile files lacking name next)
file-lacked asked old new files lacking name next l (inl e) = (name ∷ [], e, (refl, inr (l, refl)))
file-lacked asked old new files lacking name next l (inr e) = ([], e ∙ no-more (asked old), l)

-- ---- what was answered

-- a call that may give these answers gave one of them, or there was no memory
pub stopped-by : {S : Type 0} {taken : S → Option (List ℕ)} {faults : S → ℕ} {old new : S} (may : Answer → Type 0) (ending : Ending) → GivesOneOf taken faults old new may ending
    → (ending ≡ NoMemory) ⊎ ((answer : Answer) × may answer)
stopped-by may (Gave status) g = inr (says status g.ends.0, g.ends.1)
stopped-by may Cut g = inr (says g.ends.0 g.ends.1, g.ends.2)
stopped-by may NoMemory g = inl refl

-- nothing is fetched then behind a text that stands for nothing
pub stops : {S T C : Type 0} {taken : S → Option (List ℕ)} {faults : S → ℕ} {old new : S} (reading : Reading T C) (next : T → List (List ℕ) → Type 0) (text : List ℕ) (may : Answer → Type 0) (ending : Ending)
    → ((answer : Answer) → may answer → (cause : C) × reading.refuses text cause) → GivesOneOf taken faults old new may ending → OrLacks (ending ≡ NoMemory) (Onwards reading next text) []
stops {S} {T} {C} {taken} {faults} {old} {new} reading next text may ending f g = by_stop (stopped-by may ending g)
  where
    by_stop : (ending ≡ NoMemory) ⊎ ((answer : Answer) × may answer) → OrLacks (ending ≡ NoMemory) (Onwards reading next text) []
    by_stop (inl e) = inr (e, refl)
    by_stop (inr h) = (let why = f h.0 h.1 in inl (inr (why.0, why.1, refl)))

pub on-ok-all : {T E : Type 0} {P : Type 0} (r : Result T E) → P → OnOk r P
on-ok-all (Ok x) p = p
on-ok-all (Err x) p = tt
