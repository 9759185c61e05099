-- What is taken by hand is taken by `clap`, and says the same.
use Rattle.std.proofs.Common.{◌≡◌, ℕ, List, [], ◌∷◌, ◌++◌, refl, sym, ap, ◌∙◌, subst, Bool, true, false, codes, append-nil, append_assoc}
use Rattle.std.specs.Prelude.{Option, Some, None, ◌&&◌, fold, option_and_then, is_some, find, if◌then◌else◌}
use Rattle.std.specs.Option.{option_map, option_map_or}
use Rattle.std.specs.Str.{bytes_eq}
use Rattle.clap.specs.Words.{App, Row, Text, Shape, takes, subcommand_of, HasMatchesOf, subcommand_rows_of}
use Rattle.clap.specs.declared.parser.matches.ArgMatches.{ArgMatches}
use Rattle.std.proofs.lemmas.Bool.{false≢true}
use Rattle.sts_words.specs.declared.order.Order.{Order}
use Rattle.clap.specs.Simple.{built, rows_at, names_of, entered, label_of}
use Rattle.clap.specs.Walk.{Names, stop_after, answers_to, Walk, idle, walked, walk, walk_from, nothing_held, finished, rows_after}
use Rattle.sts_words.proofs.Laws.{same-text, order_of, said_with}
use Rattle.clap.specs.Takes.{entered_passes, is_valid, built_takes, walk_passes, turn_passes, level_passes, is_given, settle_passes}
use Rattle.clap.proofs.OnLiterals.{clap_on_literals}
use Rattle.sts_words.specs.Orders.{Asked, order_view}
use Rattle.sts_words.specs.Words.{Said, asked_by, IsAskedBy, nothing}
use Rattle.command_line.specs.Found.{Says}
use Rattle.command_line.specs.Tool.{tool_app}
use Rattle.command_line.proofs.Steps.{rules, shape, whole}
use Rattle.command_line.proofs.Whole.{AllGo, true-and, words-go}
use Rattle.command_line.proofs.Finish.{ends}

-- a subcommand takes the words, and its rows say what they say
pub record Level (name : Text) (words : List Text) (said : Said) : Type 0 where
  pub passes : level_passes (shape name) [] nothing_held words false ≡ true
  pub says : Says said (rows_after rules [] words)

level-of : (name : Text) (words : List Text) (said : Said) (first : Text) (more : List Text) → said.names ≡ first ∷ more → AllGo name (walk_from nothing_held) words said → Level name words said
level-of name words said first more named go =
    let ready = go.1 in
    let end : Walk = fold (walked rules []) (walk_from nothing_held) words in
    let last = ends said (whole ready.pending ready.rows) ready.has in
    let has_name : is_given (codes "name") (finished rules end.held) ≡ true = subst (λ w. is_given (codes "name") (finished rules w.held) ≡ true) (sym ready.walk_is) (last.given first more named) in
    let settles : settle_passes rules false end.held ≡ true = subst (λ w. settle_passes rules false w.held ≡ true) (sym ready.walk_is) ready.settles in
    record {
      passes = simp (go.0, settles, has_name);
      says = subst (λ w. Says said (finished rules w.held)) (sym ready.walk_is) last.says;
    }

-- the command above the subcommands, built
abbrev top : Shape
top = (built tool_app).top

abbrev names : Names
names = names_of (built tool_app)

-- the walk behind a subcommand
abbrev stopped_at : Text → List Text → Walk
stopped_at name words = record { held = nothing_held; waiting = idle; position = 1; is_trailing = false; stopped = Some (name, words) }

-- behind a subcommand each word is one of its own
stops : (name : Text) (words rest : List Text) → fold (walked [] names) (stopped_at name words) rest ≡ stopped_at name (words ++ rest)
unfolding walked
stops name words [] = ap (stopped_at name) (sym (append-nil words))
stops name words (word ∷ rest) = stops name (words ++ word ∷ []) rest ∙ ap (stopped_at name) (append_assoc words (word ∷ []) rest)

stops-pass : (name : Text) (words rest : List Text) → walk_passes top names (stopped_at name words) rest ≡ true
unfolding walked walk_passes
stops-pass name words [] = refl
stops-pass name words (word ∷ rest) = stops-pass name (words ++ word ∷ []) rest

-- a word that is one of the commands
pub record Known (command : Text) : Type 0 where
  pub met : walked [] names (walk_from nothing_held) command ≡ stopped_at command []
  pub passes : turn_passes top names (walk_from nothing_held) command ≡ true
  pub found : find (λ s. answers_to command (label_of s)) (built tool_app).subs ≡ Some (shape command)

known-check : Known (codes "check")
unfolding clap_on_literals
known-check = record { met = refl; passes = refl; found = refl }

known-build : Known (codes "build")
unfolding clap_on_literals
known-build = record { met = refl; passes = refl; found = refl }

known-run : Known (codes "run")
unfolding clap_on_literals
known-run = record { met = refl; passes = refl; found = refl }

known-run-hex : Known (codes "run-hex")
unfolding clap_on_literals
known-run-hex = record { met = refl; passes = refl; found = refl }

known-run-at : Known (codes "run-at")
unfolding clap_on_literals
known-run-at = record { met = refl; passes = refl; found = refl }

known-class : Known (codes "class")
unfolding clap_on_literals
known-class = record { met = refl; passes = refl; found = refl }

known-big : Known (codes "big")
unfolding clap_on_literals
known-big = record { met = refl; passes = refl; found = refl }

-- a command whose subcommand takes the words behind it
pub record Taken (words : List Text) (command : Text) (said : Said) : Type 0 where
  pub takes : takes tool_app words ≡ true
  pub rows : List Row
  pub enters : subcommand_of tool_app words ≡ Some (command, rows)
  pub says : Says said rows

pass-on : (s : Shape) (all : Names) (w : Walk) (word : Text) (rest : List Text) → turn_passes s all w word ≡ true → walk_passes s all (walked s.rules all w word) rest ≡ true
    → walk_passes s all w (word ∷ rest) ≡ true
unfolding walk_passes
pass-on s all w word rest e h = true-and _ _ e h

-- the command with these subcommands
abbrev app_with : List Shape → App
app_with subs = record { top = top; subs = subs }

-- the tests behind a walk of the command above
abbrev behind : List Shape → Bool → Walk → Bool
behind subs passed w =
    entered_passes (app_with subs) w.stopped && (passed && (settle_passes [] false w.held && (true && is_valid top (finished [] w.held) (is_some (entered (app_with subs) w.stopped)))))

at-stop : (subs : List Shape) (command : Text) (rest : List Text) (s : Shape) → find (λ s. answers_to command (label_of s)) subs ≡ Some s → level_passes s [] nothing_held rest false ≡ true
    → behind subs true (stopped_at command rest) ≡ true
at-stop subs command rest s found level =
    ap (λ o. option_map_or (λ s. level_passes s [] nothing_held rest false) o true && (true && (true && (true && is_valid top [] (is_some (option_map (λ s. rows_at s rest) o)))))) found
    ∙ ap (λ b. b && true) level

app-takes : (subs : List Shape) (command : Text) (rest : List Text) (s : Shape)
    → walk [] (names_of (app_with subs)) nothing_held (command ∷ rest) ≡ stopped_at command rest → walk_passes top (names_of (app_with subs)) (walk_from nothing_held) (command ∷ rest) ≡ true
    → find (λ s. answers_to command (label_of s)) subs ≡ Some s → level_passes s [] nothing_held rest false ≡ true
    → built_takes (app_with subs) nothing_held (command ∷ rest) ≡ true
app-takes subs command rest s walk_is passes found level =
    ap (λ b. behind subs b (walk [] (names_of (app_with subs)) nothing_held (command ∷ rest))) passes
    ∙ ap (behind subs true) walk_is ∙ at-stop subs command rest s found level

app-enters : (subs : List Shape) (command : Text) (rest : List Text) (s : Shape)
    → walk [] (names_of (app_with subs)) nothing_held (command ∷ rest) ≡ stopped_at command rest → find (λ s. answers_to command (label_of s)) subs ≡ Some s
    → entered (app_with subs) (stop_after [] (names_of (app_with subs)) (command ∷ rest)) ≡ Some (s.name, rows_after s.rules [] rest)
app-enters subs command rest s walk_is found =
    ap (λ w. entered (app_with subs) w.stopped) walk_is ∙ ap (λ o. option_map (λ s. rows_at s rest) o) found

taken-of : (command : Text) (rest : List Text) (said : Said) → Known command → Level command rest said → Taken (command ∷ rest) command said
taken-of command rest said known level =
    let walk_is : walk [] names nothing_held (command ∷ rest) ≡ stopped_at command rest =
    ap (λ w. fold (walked [] names) w rest) known.met ∙ stops command [] rest in
    let passes : walk_passes top names (walk_from nothing_held) (command ∷ rest) ≡ true =
    pass-on top names (walk_from nothing_held) command rest known.passes (subst (λ w. walk_passes top names w rest ≡ true) (sym known.met) (stops-pass command [] rest)) in
    record {
      takes = app-takes (built tool_app).subs command rest (shape command) walk_is passes known.found level.passes;
      rows = rows_after rules [] rest;
      enters = app-enters (built tool_app).subs command rest (shape command) walk_is known.found;
      says = level.says;
    }

same-else : {A : Type 0} (b : Bool) (x : A) → (if b then x else x) ≡ x
same-else true x = refl
same-else false x = refl

-- a command asks for nothing where no name is said
nothing-asked : (command : Text) (budget : Option ℕ) (stats image : Bool) → asked_by command (record { names = []; budget = budget; stats = stats; image = image }) ≡ None
nothing-asked command budget stats image = simp same-else

pub record Named (said : Said) : Type 0 where
  pub first : Text
  pub more : List Text
  pub names_are : said.names ≡ first ∷ more

named : (command : Text) (names : List Text) (budget : Option ℕ) (stats image : Bool) (asked : Asked)
    → asked_by command (record { names = names; budget = budget; stats = stats; image = image }) ≡ Some asked → Named (record { names = names; budget = budget; stats = stats; image = image })
named command [] budget stats image asked is = let bad : None ≡ Some asked = sym (nothing-asked command budget stats image) ∙ is in absurd (never bad)
  where
    never : None ≡ Some asked → ⊥
    never e = cc
named command (first ∷ more) budget stats image asked is = record { first = first; more = more; names_are = refl }

-- one of two commands, or another
one-or : (command name : Text) (b : Bool) (x other : Option Asked) (asked : Asked) → bytes_eq command name ≡ b → Known name → (other ≡ Some asked → Known command)
    → (if b then x else other) ≡ Some asked → Known command
one-or command name true x other asked e known others is = subst Known (sym (same-text command name e)) known
one-or command name false x other asked e known others is = others is

not-asked : (command : Text) (asked : Asked) → None ≡ Some asked → Known command
not-asked command asked e = let bad : ⊥ = cc in absurd bad

known : (command : Text) (said : Said) (asked : Asked) → asked_by command said ≡ Some asked → Known command
known command said asked is =
    one-or command (codes "check") _ _ _ asked refl known-check
    (one-or command (codes "build") _ _ _ asked refl known-build
    (one-or command (codes "run") _ _ _ asked refl known-run
    (one-or command (codes "run-hex") _ _ _ asked refl known-run-hex
    (one-or command (codes "run-at") _ _ _ asked refl known-run-at
    (one-or command (codes "class") _ _ _ asked refl known-class
    (one-or command (codes "big") _ _ _ asked refl known-big (not-asked command asked))))))) is

-- What is taken by hand `clap` takes too, and its matches say what is said.
pub record TakenBoth (words : List Text) (asked : Asked) : Type 0 where
  pub command : Text
  pub said : Said
  pub taken : Taken words command said
  pub asks : asked_by command said ≡ Some asked

both-said : (command : Text) (rest : List Text) (asked : Asked) (o : Option Said) → said_with nothing false rest ≡ o → option_and_then (asked_by command) o ≡ Some asked → TakenBoth (command ∷ rest) asked
both-said command rest asked None e is = let bad : ⊥ = cc in absurd bad
both-said command rest asked (Some said) e is =
    let name = named command said.names said.budget said.stats said.image asked is in
    record {
      command = command;
      said = said;
      taken = taken-of command rest said (known command said asked is) (level-of command rest said name.first name.more name.names_are (words-go command rest said e));
      asks = is;
    }

pub taken-both : (words : List Text) (asked : Asked) → order_of words ≡ Some asked → TakenBoth words asked
taken-both [] asked is = let bad : ⊥ = cc in absurd bad
taken-both (command ∷ rest) asked is =
    both-said command rest asked (said_with nothing false rest) refl is

order-known : (hand : Option Order) (o : Option Asked) → is_some hand ≡ true → option_map order_view hand ≡ o → (asked : Asked) × (o ≡ Some asked)
order-known None o e is = absurd (false≢true e)
order-known (Some order) o e is = (order_view order, sym is)

-- `clap` takes the words that are taken by hand
pub takes-them : (words : List Text) (hand : Option Order) → is_some hand ≡ true → option_map order_view hand ≡ order_of words → takes tool_app words ≡ true
takes-them words hand e is = let asked = order-known hand (order_of words) e is in (taken-both words asked.0 asked.1).taken.takes

-- and its matches ask for the same
pub same-order : (words : List Text) (m : ArgMatches) (hand order : Option Order) → is_some hand ≡ true → option_map order_view hand ≡ order_of words → HasMatchesOf tool_app words m
    → ((command : Text) (rows : List Row) (said : Said) → subcommand_rows_of m ≡ Some (command, rows) → Says said rows → option_map order_view order ≡ asked_by command said)
    → option_map order_view order ≡ order_of words
same-order words m hand order e is matches asks =
    let asked = order-known hand (order_of words) e is in
    let both = taken-both words asked.0 asked.1 in
    asks both.command both.taken.rows both.said ((matches refl).1 ∙ both.taken.enters) both.taken.says ∙ both.asks ∙ sym asked.1

-- where they aren't taken by hand, words ask for nothing
pub none-asked : (words : List Text) (hand : Option Order) → is_some hand ≡ false → IsAskedBy words (option_map order_view hand) → IsAskedBy words None
none-asked words None e asked = asked
none-asked words (Some order) e asked = absurd (false≢true (sym e))
