-- Rows that have what was said, and no more.
use Rattle.std.proofs.Common.{◌≡◌, ℕ, ◌≤◌, length, List, [], ◌∷◌, ◌++◌, refl, sym, ap, ◌∙◌, subst, Bool, true, false, codes, arith}
use Rattle.std.specs.Prelude.{Option, Some, None, is_some, slice_get, if◌then◌else◌}
use Rattle.std.specs.Option.{option_map}
use Rattle.clap.specs.Words.{Row, Rule, Text}
use Rattle.clap.specs.Walk.{has_row}
use Rattle.sts_words.specs.Orders.{most_budget}
use Rattle.sts_words.specs.Words.{Said, number_within}
use Rattle.command_line.proofs.Find.{row_at, row_at-same, row_at-other, has_row-is}
use Rattle.command_line.proofs.Steps.{row_for, name_built, script_built, arrivals_built, budget_built, stats_built, image_built}

-- the row of a budget
abbrev pub HasBudgetRow : Option ℕ → Option Row → Type 0
HasBudgetRow None row = row ≡ None
HasBudgetRow (Some number) row = (word : Text) × (row ≡ Some (row_for budget_built (word ∷ []))) × (number_within most_budget word ≡ Some number)

abbrev pub name_row : Rule → Option Text → Option Row
name_row a = option_map (λ word. row_for a (word ∷ []))

abbrev pub flag_row : Rule → Bool → Option Row
flag_row a given = if given then Some (row_for a (codes "true" ∷ [])) else None

-- Each thing that was said has its row.
pub record Has (said : Said) (rows : List Row) : Type 0 where
  pub few : length said.names ≤ 3
  pub name : row_at (codes "name") rows ≡ name_row name_built (slice_get said.names 0)
  pub script : row_at (codes "script") rows ≡ name_row script_built (slice_get said.names 1)
  pub arrivals : row_at (codes "arrivals") rows ≡ name_row arrivals_built (slice_get said.names 2)
  pub budget : HasBudgetRow said.budget (row_at (codes "budget") rows)
  pub stats : row_at (codes "stats") rows ≡ flag_row stats_built said.stats
  pub image : row_at (codes "image") rows ≡ flag_row image_built said.image

abbrev with_stats : Said → Said
with_stats said = record said { stats = true }

pub has-nothing : Has (record { names = []; budget = None; stats = false; image = false }) []
has-nothing = record { few = omega arith; name = refl; script = refl; arrivals = refl; budget = refl; stats = refl; image = refl }

pub has-stats : (said : Said) (rows : List Row) → said.stats ≡ false → Has said rows → Has (record said { stats = true }) (rows ++ row_for stats_built (codes "true" ∷ []) ∷ [])
has-stats said rows e h = record {
  few = h.few;
  name = row_at-other (codes "name") rows _ refl ∙ h.name;
  script = row_at-other (codes "script") rows _ refl ∙ h.script;
  arrivals = row_at-other (codes "arrivals") rows _ refl ∙ h.arrivals;
  budget = subst (HasBudgetRow said.budget) (sym (row_at-other (codes "budget") rows _ refl)) h.budget;
  stats = row_at-same (codes "stats") rows _ (h.stats ∙ ap (flag_row stats_built) e) refl;
  image = row_at-other (codes "image") rows _ refl ∙ h.image;
}

pub has-image : (said : Said) (rows : List Row) → said.image ≡ false → Has said rows → Has (record said { image = true }) (rows ++ row_for image_built (codes "true" ∷ []) ∷ [])
has-image said rows e h = record {
  few = h.few;
  name = row_at-other (codes "name") rows _ refl ∙ h.name;
  script = row_at-other (codes "script") rows _ refl ∙ h.script;
  arrivals = row_at-other (codes "arrivals") rows _ refl ∙ h.arrivals;
  budget = subst (HasBudgetRow said.budget) (sym (row_at-other (codes "budget") rows _ refl)) h.budget;
  stats = row_at-other (codes "stats") rows _ refl ∙ h.stats;
  image = row_at-same (codes "image") rows _ (h.image ∙ ap (flag_row image_built) e) refl;
}

pub has-budget : (said : Said) (rows : List Row) (word : Text) (number : ℕ) → said.budget ≡ None → number_within most_budget word ≡ Some number → Has said rows
    → Has (record said { budget = Some number }) (rows ++ row_for budget_built (word ∷ []) ∷ [])
has-budget said rows word number e spelled h = record {
  few = h.few;
  name = row_at-other (codes "name") rows _ refl ∙ h.name;
  script = row_at-other (codes "script") rows _ refl ∙ h.script;
  arrivals = row_at-other (codes "arrivals") rows _ refl ∙ h.arrivals;
  budget = (word, row_at-same (codes "budget") rows (row_for budget_built (word ∷ [])) (subst (λ b. HasBudgetRow b (row_at (codes "budget") rows)) e h.budget) refl, spelled);
  stats = row_at-other (codes "stats") rows _ refl ∙ h.stats;
  image = row_at-other (codes "image") rows _ refl ∙ h.image;
}

pub has-name : (said : Said) (rows : List Row) (word : Text) → said.names ≡ [] → Has said rows
    → Has (record said { names = said.names ++ word ∷ [] }) (rows ++ row_for name_built (word ∷ []) ∷ [])
has-name said rows word e h = record {
  few = subst (λ x. length (x ++ word ∷ []) ≤ 3) (sym e) (omega arith);
  name = row_at-same (codes "name") rows _ (h.name ∙ ap (λ x. name_row name_built (slice_get x 0)) e) refl ∙ ap (λ x. name_row name_built (slice_get (x ++ word ∷ []) 0)) (sym e);
  script = row_at-other (codes "script") rows _ refl ∙ h.script ∙ ap (λ x. name_row script_built (slice_get x 1)) e ∙ ap (λ x. name_row script_built (slice_get (x ++ word ∷ []) 1)) (sym e);
  arrivals = row_at-other (codes "arrivals") rows _ refl ∙ h.arrivals ∙ ap (λ x. name_row arrivals_built (slice_get x 2)) e ∙ ap (λ x. name_row arrivals_built (slice_get (x ++ word ∷ []) 2)) (sym e);
  budget = subst (HasBudgetRow said.budget) (sym (row_at-other (codes "budget") rows _ refl)) h.budget;
  stats = row_at-other (codes "stats") rows _ refl ∙ h.stats;
  image = row_at-other (codes "image") rows _ refl ∙ h.image;
}

pub has-script : (said : Said) (rows : List Row) (first word : Text) → said.names ≡ first ∷ [] → Has said rows
    → Has (record said { names = said.names ++ word ∷ [] }) (rows ++ row_for script_built (word ∷ []) ∷ [])
has-script said rows first word e h = record {
  few = subst (λ x. length (x ++ word ∷ []) ≤ 3) (sym e) (omega arith);
  name = row_at-other (codes "name") rows _ refl ∙ h.name ∙ ap (λ x. name_row name_built (slice_get x 0)) e ∙ ap (λ x. name_row name_built (slice_get (x ++ word ∷ []) 0)) (sym e);
  script = row_at-same (codes "script") rows _ (h.script ∙ ap (λ x. name_row script_built (slice_get x 1)) e) refl ∙ ap (λ x. name_row script_built (slice_get (x ++ word ∷ []) 1)) (sym e);
  arrivals = row_at-other (codes "arrivals") rows _ refl ∙ h.arrivals ∙ ap (λ x. name_row arrivals_built (slice_get x 2)) e ∙ ap (λ x. name_row arrivals_built (slice_get (x ++ word ∷ []) 2)) (sym e);
  budget = subst (HasBudgetRow said.budget) (sym (row_at-other (codes "budget") rows _ refl)) h.budget;
  stats = row_at-other (codes "stats") rows _ refl ∙ h.stats;
  image = row_at-other (codes "image") rows _ refl ∙ h.image;
}

pub has-arrivals : (said : Said) (rows : List Row) (first second word : Text) → said.names ≡ first ∷ second ∷ [] → Has said rows
    → Has (record said { names = said.names ++ word ∷ [] }) (rows ++ row_for arrivals_built (word ∷ []) ∷ [])
has-arrivals said rows first second word e h = record {
  few = subst (λ x. length (x ++ word ∷ []) ≤ 3) (sym e) (omega arith);
  name = row_at-other (codes "name") rows _ refl ∙ h.name ∙ ap (λ x. name_row name_built (slice_get x 0)) e ∙ ap (λ x. name_row name_built (slice_get (x ++ word ∷ []) 0)) (sym e);
  script = row_at-other (codes "script") rows _ refl ∙ h.script ∙ ap (λ x. name_row script_built (slice_get x 1)) e ∙ ap (λ x. name_row script_built (slice_get (x ++ word ∷ []) 1)) (sym e);
  arrivals = row_at-same (codes "arrivals") rows _ (h.arrivals ∙ ap (λ x. name_row arrivals_built (slice_get x 2)) e) refl ∙ ap (λ x. name_row arrivals_built (slice_get (x ++ word ∷ []) 2)) (sym e);
  budget = subst (HasBudgetRow said.budget) (sym (row_at-other (codes "budget") rows _ refl)) h.budget;
  stats = row_at-other (codes "stats") rows _ refl ∙ h.stats;
  image = row_at-other (codes "image") rows _ refl ∙ h.image;
}

-- what wasn't said yet has no row
pub no-stats : (said : Said) (rows : List Row) → said.stats ≡ false → Has said rows → row_at (codes "stats") rows ≡ None
no-stats said rows e h = h.stats ∙ ap (flag_row stats_built) e

pub no-image : (said : Said) (rows : List Row) → said.image ≡ false → Has said rows → row_at (codes "image") rows ≡ None
no-image said rows e h = h.image ∙ ap (flag_row image_built) e

pub no-budget : (said : Said) (rows : List Row) → said.budget ≡ None → Has said rows → row_at (codes "budget") rows ≡ None
no-budget said rows e h = subst (λ b. HasBudgetRow b (row_at (codes "budget") rows)) e h.budget

pub no-name : (said : Said) (rows : List Row) → said.names ≡ [] → Has said rows → row_at (codes "name") rows ≡ None
no-name said rows e h = h.name ∙ ap (λ x. name_row name_built (slice_get x 0)) e

pub no-script : (said : Said) (rows : List Row) (first : Text) → said.names ≡ first ∷ [] → Has said rows → row_at (codes "script") rows ≡ None
no-script said rows first e h = h.script ∙ ap (λ x. name_row script_built (slice_get x 1)) e

pub no-arrivals : (said : Said) (rows : List Row) (first second : Text) → said.names ≡ first ∷ second ∷ [] → Has said rows → row_at (codes "arrivals") rows ≡ None
no-arrivals said rows first second e h = h.arrivals ∙ ap (λ x. name_row arrivals_built (slice_get x 2)) e

pub no-row : (id : Text) (rows : List Row) → row_at id rows ≡ None → has_row id rows ≡ false
no-row id rows e = has_row-is id rows ∙ ap (λ o. is_some o) e
