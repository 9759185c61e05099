-- One word behind the command, as `clap` walks over it.
use Rattle.std.proofs.Common.{◌≡◌, ℕ, List, [], ◌∷◌, ◌++◌, refl, ap, ◌∙◌, Bool, true, false, codes, eqb, append-nil}
use Rattle.std.specs.Prelude.{Option, Some, None, ◌&&◌}
use Rattle.clap.specs.Words.{Rule, Shape, Row, Text}
use Rattle.clap.specs.Simple.{filled, filled_from, with_index, built_leaf}
use Rattle.clap.specs.Walk.{Held, Walk, Waiting, idle, option, walked, settled_rows, used, has_row, reading_by, with_values, without, more_values}
use Rattle.clap.specs.declared.builder.value_parser.Reading.{Reading}
use Rattle.command_line.proofs.Find.{row_at, at_row-missing}
use Rattle.clap.specs.declared.parser.matches.ValueSource.TheVariants.{CommandLine}
use Rattle.clap.specs.Takes.{turn_passes, settle_passes}
use Rattle.clap.proofs.OnLiterals.{clap_on_literals}
use Rattle.command_line.specs.Tool.{command_app, name_rule, script_rule, arrivals_rule, budget_rule, stats_rule, image_rule}

-- the arguments of a subcommand that is built
abbrev pub rules : List Rule
rules = filled_from 1 (name_rule ∷ script_rule ∷ arrivals_rule ∷ budget_rule ∷ stats_rule ∷ image_rule ∷ [])

abbrev pub name_built : Rule
name_built = with_index 1 (filled name_rule)

abbrev pub script_built : Rule
script_built = with_index 2 (filled script_rule)

abbrev pub arrivals_built : Rule
arrivals_built = with_index 3 (filled arrivals_rule)

abbrev pub budget_built : Rule
budget_built = filled budget_rule

abbrev pub stats_built : Rule
stats_built = filled stats_rule

abbrev pub image_built : Rule
image_built = filled image_rule

-- a subcommand that is built
abbrev pub shape : Text → Shape
shape name = built_leaf (record (command_app name).top { no_binary_name = true; disable_help_flag = true; disable_help_subcommand = true })

abbrev pub held : List Row → Option (Text × List Text) → ℕ → Held
held rows pending skip = record { rows = rows; pending = pending; skip = skip }

abbrev pub at : Held → Waiting → ℕ → Walk
at h waiting position = record { held = h; waiting = waiting; position = position; is_trailing = false; stopped = None }

-- the rows, with what is pending
abbrev pub whole : Option (Text × List Text) → List Row → List Row
whole = settled_rows rules

and-false : (b : Bool) → (b && false) ≡ false
and-false true = refl
and-false false = refl

pub stats-walked : (rows : List Row) (pending : Option (Text × List Text)) (skip position : ℕ)
    → walked rules [] (at (held rows pending skip) idle position) (codes "--stats") ≡ at (held (used stats_built [] (whole pending rows)) None skip) idle position
unfolding clap_on_literals
stats-walked rows pending skip position = refl

pub image-walked : (rows : List Row) (pending : Option (Text × List Text)) (skip position : ℕ)
    → walked rules [] (at (held rows pending skip) idle position) (codes "--image") ≡ at (held (used image_built [] (whole pending rows)) None skip) idle position
unfolding clap_on_literals
image-walked rows pending skip position = refl

pub joined-walked : (rows : List Row) (pending : Option (Text × List Text)) (skip position : ℕ) (text : Text)
    → walked rules [] (at (held rows pending skip) idle position) (codes "--budget=" ++ text) ≡ at (held (used budget_built (text ∷ []) (whole pending rows)) None skip) idle position
unfolding clap_on_literals
joined-walked rows pending skip position text = refl

pub budget-walked : (rows : List Row) (pending : Option (Text × List Text)) (skip position : ℕ)
    → walked rules [] (at (held rows pending skip) idle position) (codes "--budget") ≡ at (held (whole pending rows) (Some (codes "budget", [])) skip) (option (codes "budget")) position
unfolding clap_on_literals
budget-walked rows pending skip position = refl

pub number-walked : (rows : List Row) (skip position c : ℕ) (cs : Text) → eqb c 45 ≡ false
    → walked rules [] (at (held rows (Some (codes "budget", [])) skip) (option (codes "budget")) position) (c ∷ cs)
    ≡ at (held rows (Some (codes "budget", (c ∷ cs) ∷ [])) skip) idle position
unfolding clap_on_literals
number-walked rows skip position c cs h = simp h

pub name-walked : (rows : List Row) (pending : Option (Text × List Text)) (skip c : ℕ) (cs : Text) → eqb c 45 ≡ false
    → walked rules [] (at (held rows pending skip) idle 1) (c ∷ cs)
    ≡ at (held (whole pending rows) (Some (codes "name", (c ∷ cs) ∷ [])) skip) idle 2
unfolding clap_on_literals
name-walked rows pending skip c cs h = simp (h, and-false)

pub script-walked : (rows : List Row) (pending : Option (Text × List Text)) (skip c : ℕ) (cs : Text) → eqb c 45 ≡ false
    → walked rules [] (at (held rows pending skip) idle 2) (c ∷ cs)
    ≡ at (held (whole pending rows) (Some (codes "script", (c ∷ cs) ∷ [])) skip) idle 3
unfolding clap_on_literals
script-walked rows pending skip c cs h = simp (h, and-false)

pub arrivals-walked : (rows : List Row) (pending : Option (Text × List Text)) (skip c : ℕ) (cs : Text) → eqb c 45 ≡ false
    → walked rules [] (at (held rows pending skip) idle 3) (c ∷ cs)
    ≡ at (held (whole pending rows) (Some (codes "arrivals", (c ∷ cs) ∷ [])) skip) idle 4
unfolding clap_on_literals
arrivals-walked rows pending skip c cs h = simp (h, and-false)

-- what is pending may be used
abbrev pub Settles : List Row → Option (Text × List Text) → ℕ → Type 0
Settles rows pending skip = settle_passes rules false (held rows pending skip) ≡ true

abbrev pub Passes : Text → Walk → Text → Type 0
Passes name w word = turn_passes (shape name) [] w word ≡ true

pub stats-passes : (name : Text) (rows : List Row) (pending : Option (Text × List Text)) (skip position : ℕ) → Settles rows pending skip → has_row (codes "stats") (whole pending rows) ≡ false
    → Passes name (at (held rows pending skip) idle position) (codes "--stats")
unfolding clap_on_literals
stats-passes name rows pending skip position ok new = simp (ok, new)

pub image-passes : (name : Text) (rows : List Row) (pending : Option (Text × List Text)) (skip position : ℕ) → Settles rows pending skip → has_row (codes "image") (whole pending rows) ≡ false
    → Passes name (at (held rows pending skip) idle position) (codes "--image")
unfolding clap_on_literals
image-passes name rows pending skip position ok new = simp (ok, new)

pub joined-passes : (name : Text) (rows : List Row) (pending : Option (Text × List Text)) (skip position : ℕ) (text : Text) → Settles rows pending skip → has_row (codes "budget") (whole pending rows) ≡ false
    → Passes name (at (held rows pending skip) idle position) (codes "--budget=" ++ text)
unfolding clap_on_literals
joined-passes name rows pending skip position text ok new = simp (ok, new)

pub budget-passes : (name : Text) (rows : List Row) (pending : Option (Text × List Text)) (skip position : ℕ) → Settles rows pending skip
    → Passes name (at (held rows pending skip) idle position) (codes "--budget")
unfolding clap_on_literals
budget-passes name rows pending skip position ok = simp ok

pub number-passes : (name : Text) (rows : List Row) (skip position c : ℕ) (cs : Text) → eqb c 45 ≡ false
    → Passes name (at (held rows (Some (codes "budget", [])) skip) (option (codes "budget")) position) (c ∷ cs)
unfolding clap_on_literals
number-passes name rows skip position c cs h = simp h

pub name-passes : (name : Text) (rows : List Row) (pending : Option (Text × List Text)) (skip c : ℕ) (cs : Text) → eqb c 45 ≡ false → Settles rows pending skip
    → Passes name (at (held rows pending skip) idle 1) (c ∷ cs)
unfolding clap_on_literals
name-passes name rows pending skip c cs h ok = simp (h, ok, and-false)

pub script-passes : (name : Text) (rows : List Row) (pending : Option (Text × List Text)) (skip c : ℕ) (cs : Text) → eqb c 45 ≡ false → Settles rows pending skip
    → Passes name (at (held rows pending skip) idle 2) (c ∷ cs)
unfolding clap_on_literals
script-passes name rows pending skip c cs h ok = simp (h, ok, and-false)

pub arrivals-passes : (name : Text) (rows : List Row) (pending : Option (Text × List Text)) (skip c : ℕ) (cs : Text) → eqb c 45 ≡ false → Settles rows pending skip
    → Passes name (at (held rows pending skip) idle 3) (c ∷ cs)
unfolding clap_on_literals
arrivals-passes name rows pending skip c cs h ok = simp (h, ok, and-false)

-- what is pending behind a name, a script's name, that of arrivals or a number may be used
pub name-settles : (rows : List Row) (skip : ℕ) (word : Text) → has_row (codes "name") rows ≡ false → Settles rows (Some (codes "name", word ∷ [])) skip
name-settles rows skip word new = simp new

pub script-settles : (rows : List Row) (skip : ℕ) (word : Text) → has_row (codes "script") rows ≡ false → Settles rows (Some (codes "script", word ∷ [])) skip
script-settles rows skip word new = simp new

pub arrivals-settles : (rows : List Row) (skip : ℕ) (word : Text) → has_row (codes "arrivals") rows ≡ false → Settles rows (Some (codes "arrivals", word ∷ [])) skip
arrivals-settles rows skip word new = simp new

pub budget-settles : (rows : List Row) (skip : ℕ) (word : Text) → has_row (codes "budget") rows ≡ false → Settles rows (Some (codes "budget", word ∷ [])) skip
budget-settles rows skip word new = simp new

-- the row of an argument with these values
abbrev pub row_for : Rule → List Text → Row
row_for a values = record { id = a.id; values = values; count = None; source = Some CommandLine; reading = reading_by a }

-- the first use of an argument gives it a row at the end
pub first-use : (id : Text) (how : Reading) (values : List Text) (rows : List Row) → row_at id rows ≡ None
    → with_values id how CommandLine values (without id rows) ≡ rows ++ record { id = id; values = values; count = None; source = Some CommandLine; reading = how } ∷ []
first-use id how values rows new =
    ap (with_values id how CommandLine values) (at_row-missing id (λ _. []) [] rows new ∙ append-nil rows)
    ∙ at_row-missing id (more_values CommandLine values) _ rows new
