-- What was found for a subcommand's arguments, and what it says.
use Rattle.std.specs.Prelude.{◌≡◌, ℕ, ◌≤◌, length, Bool, true, false, List, slice_get, codes, Option, Some, None}
use Rattle.clap.specs.Words.{Text, Row, first_of, one_of}
use Rattle.sts_words.specs.Orders.{most_budget}
use Rattle.sts_words.specs.Words.{Said, number_within}

-- the number that a budget's text is
abbrev pub SpellsBudget : Option ℕ → Option Text → Type 0
SpellsBudget None text = text ≡ None
SpellsBudget (Some number) text = (word : Text) × (text ≡ Some word) × (number_within most_budget word ≡ Some number)

-- a flag's value
abbrev pub flag_text : Bool → Text
flag_text true = codes "true"
flag_text false = codes "false"

-- Rows say what was said.
pub record Says (said : Said) (rows : List Row) : Type 0 where
  pub few : length said.names ≤ 3
  pub name : first_of (codes "name") rows ≡ slice_get said.names 0
  pub script : first_of (codes "script") rows ≡ slice_get said.names 1
  pub arrivals : first_of (codes "arrivals") rows ≡ slice_get said.names 2
  pub budget : SpellsBudget said.budget (first_of (codes "budget") rows)
  pub stats : one_of (codes "stats") rows ≡ Some (flag_text said.stats)
  pub image : one_of (codes "image") rows ≡ Some (flag_text said.image)
