-- The rows at the end of the words.
use Rattle.std.proofs.Common.{◌≡◌, ℕ, List, [], ◌∷◌, ◌++◌, refl, sym, ap, ◌∙◌, subst, Bool, true, false, codes}
use Rattle.std.specs.Prelude.{Option, Some, None, is_some, slice_get, fold, if◌then◌else◌, option_and_then}
use Rattle.std.specs.Str.{bytes_eq}
use Rattle.std.specs.Option.{option_map_or}
use Rattle.clap.specs.Facts.{explicit_source}
use Rattle.clap.specs.Words.{Row, Rule, Text}
use Rattle.clap.specs.Walk.{has_row, with_default, with_values, reading_by, row_text, more_values}
use Rattle.clap.specs.Takes.{is_given}
use Rattle.clap.specs.declared.parser.matches.ValueSource.TheVariants.{DefaultValue}
use Rattle.sts_words.specs.Words.{Said}
use Rattle.command_line.specs.Found.{flag_text, SpellsBudget, Says}
use Rattle.command_line.proofs.Find.{row_at, at_row-missing, row_at-same, row_at-other, has_row-is}
use Rattle.command_line.proofs.Steps.{rules, row_for, name_built, script_built, arrivals_built, stats_built, image_built}
use Rattle.command_line.proofs.Has.{Has, HasBudgetRow, flag_row, name_row}

same-if : (b : Bool) (rows : List Row) → (if b then rows else rows) ≡ rows
same-if true rows = refl
same-if false rows = refl

-- the rows with a flag that has no row set to false
abbrev with_flag : Rule → List Row → List Row
with_flag a rows = if has_row a.id rows then rows else with_values a.id (reading_by a) DefaultValue (codes "false" ∷ []) rows

abbrev with_flags : List Row → List Row
with_flags rows = with_flag image_built (with_flag stats_built rows)

finished-is : (rows : List Row) → fold with_default rows rules ≡ with_flags rows
finished-is rows = simp same-if

-- the row of a flag that isn't given
abbrev default_row : Rule → Row
default_row a = record { id = a.id; values = codes "false" ∷ []; count = None; source = Some DefaultValue; reading = reading_by a }

record Flagged (a : Rule) (given : Bool) (rows after : List Row) : Type 0 where
  flag : row_at a.id after ≡ Some (if given then row_for a (codes "true" ∷ []) else default_row a)
  others : (id : Text) → bytes_eq a.id id ≡ false → row_at id after ≡ row_at id rows

flagged : (a : Rule) (given : Bool) (rows : List Row) → bytes_eq a.id a.id ≡ true → row_at a.id rows ≡ flag_row a given → Flagged a given rows (with_flag a rows)
flagged a true rows self e =
    let there : has_row a.id rows ≡ true = has_row-is a.id rows ∙ ap (λ o. is_some o) e in
    let same : rows ≡ with_flag a rows = ap (λ b. if b then rows else with_values a.id (reading_by a) DefaultValue (codes "false" ∷ []) rows) (sym there) in
    subst (Flagged a true rows) same (record { flag = e; others = λ id h. refl })
flagged a false rows self e =
    let missing : has_row a.id rows ≡ false = has_row-is a.id rows ∙ ap (λ o. is_some o) e in
    let same : rows ++ default_row a ∷ [] ≡ with_flag a rows =
    sym (at_row-missing a.id (more_values DefaultValue (codes "false" ∷ [])) (default_row a ∷ []) rows e) ∙ ap (λ b. if b then rows else with_values a.id (reading_by a) DefaultValue (codes "false" ∷ []) rows) (sym missing) in
    subst (Flagged a false rows) same (record { flag = row_at-same a.id rows (default_row a) e self; others = λ id h. row_at-other id rows (default_row a) h })

-- the first value of a row that may be there
abbrev first_value : Option Row → Option Text
first_value = option_and_then (λ r. slice_get r.values 0)

name-first : (a : Rule) (o : Option Text) → first_value (name_row a o) ≡ o
name-first a None = refl
name-first a (Some word) = refl

budget-first : (o : Option ℕ) (row : Option Row) → HasBudgetRow o row → SpellsBudget o (first_value row)
budget-first None row h = ap first_value h
budget-first (Some number) row (word, is, spelled) = (word, ap first_value is, spelled)

flag-first : (a : Rule) (row : Option Row) (given : Bool) → (option_and_then row_text (Some (row_for a (codes "true" ∷ []))) ≡ Some (codes "true")) → (option_and_then row_text (Some (default_row a)) ≡ Some (codes "false"))
    → row ≡ Some (if given then row_for a (codes "true" ∷ []) else default_row a) → option_and_then row_text row ≡ Some (flag_text given)
flag-first a row true set unset e = ap (option_and_then row_text) e ∙ set
flag-first a row false set unset e = ap (option_and_then row_text) e ∙ unset

-- where a name was said it counts as given
given : (row : Option Row) (names : List Text) (word : Text) (rest : List Text) → names ≡ word ∷ rest → row ≡ name_row name_built (slice_get names 0)
    → option_map_or (λ r. explicit_source r.source) row false ≡ true
given row names word rest e is = ap (λ o. option_map_or (λ r. explicit_source r.source) o false) (is ∙ ap (λ x. name_row name_built (slice_get x 0)) e)

pub record Ends (said : Said) (rows : List Row) : Type 0 where
  pub says : Says said rows
  pub given : (word : Text) (rest : List Text) → said.names ≡ word ∷ rest → is_given (codes "name") rows ≡ true

-- the rows at the end say what was said
pub ends : (said : Said) (rows : List Row) → Has said rows → Ends said (fold with_default rows rules)
ends said rows has =
    let stats = flagged stats_built said.stats rows refl has.stats in
    let image = flagged image_built said.image (with_flag stats_built rows) refl (stats.others (codes "image") refl ∙ has.image) in
    let name : row_at (codes "name") (with_flags rows) ≡ row_at (codes "name") rows = image.others (codes "name") refl ∙ stats.others (codes "name") refl in
    let script : row_at (codes "script") (with_flags rows) ≡ row_at (codes "script") rows = image.others (codes "script") refl ∙ stats.others (codes "script") refl in
    let arrivals : row_at (codes "arrivals") (with_flags rows) ≡ row_at (codes "arrivals") rows = image.others (codes "arrivals") refl ∙ stats.others (codes "arrivals") refl in
    let budget : row_at (codes "budget") (with_flags rows) ≡ row_at (codes "budget") rows = image.others (codes "budget") refl ∙ stats.others (codes "budget") refl in
    subst (Ends said) (sym (finished-is rows)) (record {
      says = record {
        few = has.few;
        name = ap first_value (name ∙ has.name) ∙ name-first name_built (slice_get said.names 0);
        script = ap first_value (script ∙ has.script) ∙ name-first script_built (slice_get said.names 1);
        arrivals = ap first_value (arrivals ∙ has.arrivals) ∙ name-first arrivals_built (slice_get said.names 2);
        budget = budget-first said.budget _ (subst (HasBudgetRow said.budget) (sym budget) has.budget);
        stats = flag-first stats_built _ said.stats refl refl (image.others (codes "stats") refl ∙ stats.flag);
        image = flag-first image_built _ said.image refl refl image.flag;
      };
      given = λ word rest e. given _ said.names word rest e (name ∙ has.name);
    })
