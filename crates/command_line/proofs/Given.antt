-- What the getters of matches give.
use Rattle.std.proofs.Common.{◌≡◌, ℕ, ◌≤◌, List, [], ◌∷◌, length, refl, sym, ap, ◌∙◌, subst, Bool, true, false, codes, arith}
use Rattle.std.specs.Prelude.{◌||◌, Option, Some, None, slice_get, option_and_then, Box}
use Rattle.std.specs.Option.{option_map}
use Rattle.clap.specs.Words.{Text, Row, first_of, Rule, App, app_of, rule_of, with_rule, first_value, one_of, rows_of, subcommand_rows_of, subcommand_name_of, AddsArg}
use Rattle.clap.specs.Matches.{one_text}
use Rattle.clap.specs.declared.parser.matches.Found.{Found}
use Rattle.clap.specs.declared.parser.matches.ArgMatches.{ArgMatches}
use Rattle.clap.specs.declared.builder.arg.Arg.{Arg}
use Rattle.clap.specs.declared.builder.command.Command.{Command}
use Rattle.clap.specs.declared.Command.{out-Command}
use Rattle.clap.specs.Simple.{subcommand_rows}
use Rattle.clap.specs.declared.parser.matches.ArgMatches.TheViews.{out-ArgMatches, out-SubCommand}
use Rattle.clap.specs.declared.parser.matches.SubCommand.{SubCommand}
use Rattle.std.specs.Box.{box_value}
use Rattle.clap.proofs.WalkLemmas.{first_value-rows, one_text-rows}
use Rattle.sts_words.specs.Orders.{most_budget}
use Rattle.sts_words.specs.Words.{Said, a_budget, number_within}
use Rattle.sts_words.specs.Views.{budget_part, added}
use Rattle.command_line.specs.Found.{Says, SpellsBudget, flag_text}

-- ---- names

abbrev listed : Option Text → Option Text → Option Text → List Text
listed None second third = []
listed (Some first) None third = first ∷ []
listed (Some first) (Some second) None = first ∷ second ∷ []
listed (Some first) (Some second) (Some third) = first ∷ second ∷ third ∷ []

listed-is : (names : List Text) → length names ≤ 3 → listed (slice_get names 0) (slice_get names 1) (slice_get names 2) ≡ names
listed-is [] h = refl
listed-is (a ∷ []) h = refl
listed-is (a ∷ b ∷ []) h = refl
listed-is (a ∷ b ∷ c ∷ []) h = refl
listed-is (a ∷ b ∷ c ∷ d ∷ rest) h = let bad : ⊥ = omega arith in absurd bad

pub names-are : (f : Found) (said : Said) (first second third : Option Text) → Says said (rows_of f) → first ≡ first_value f (codes "name") → second ≡ first_value f (codes "script")
    → third ≡ first_value f (codes "arrivals") → listed first second third ≡ said.names
names-are f said first second third says e h i =
    ap (λ x. listed x second third) (e ∙ first_value-rows f (codes "name") ∙ says.name)
    ∙ ap (λ x. listed (slice_get said.names 0) x third) (h ∙ first_value-rows f (codes "script") ∙ says.script)
    ∙ ap (λ x. listed (slice_get said.names 0) (slice_get said.names 1) x) (i ∙ first_value-rows f (codes "arrivals") ∙ says.arrivals)
    ∙ listed-is said.names says.few

-- ---- flags

flag-cases : (given result : Bool) (o : Option Text) → o ≡ Some (flag_text given) → (o ≡ Some (codes "true") → result ≡ true) → (o ≡ Some (codes "false") → result ≡ false) → result ≡ given
flag-cases true result o e set unset = set e
flag-cases false result o e set unset = unset e

pub flag-is : (f : Found) (id : Text) (given result : Bool) → one_of id (rows_of f) ≡ Some (flag_text given) → (one_text f id ≡ Some (codes "true") → result ≡ true) → (one_text f id ≡ Some (codes "false") → result ≡ false)
    → result ≡ given
flag-is f id given result says set unset = flag-cases given result (one_text f id) (one_text-rows f id ∙ says) set unset

-- ---- budgets

abbrev pub said_of : List Text → Option ℕ → Bool → Bool → Said
said_of names budget stats image = record { names = names; budget = budget; stats = stats; image = image }

pub same-said : (said : Said) (names : List Text) (budget : Option ℕ) (stats image : Bool) → names ≡ said.names → budget ≡ said.budget → stats ≡ said.stats → image ≡ said.image
    → Some (said_of names budget stats image) ≡ Some said
same-said said names budget stats image a b c d =
    ap (λ x. Some (said_of x budget stats image)) a ∙ ap (λ x. Some (said_of said.names x stats image)) b
    ∙ ap (λ x. Some (said_of said.names said.budget x image)) c ∙ ap (λ x. Some (said_of said.names said.budget said.stats x)) d

no-number : (budget : Option ℕ) (text : Option Text) → SpellsBudget budget text → text ≡ None → None ≡ budget
no-number None text h e = refl
no-number (Some number) text (word, is, spelled) e = let bad : ⊥ = cc in absurd bad

pub no-budget : (f : Found) (said : Said) → Says said (rows_of f) → None ≡ first_value f (codes "budget") → None ≡ said.budget
no-budget f said says e = no-number said.budget (first_of (codes "budget") (rows_of f)) says.budget (sym (e ∙ first_value-rows f (codes "budget")))

-- the number that is spelled
pub record Numbered (budget : Option ℕ) (word : Text) : Type 0 where
  pub number : ℕ
  pub is : Some number ≡ budget
  pub spelled : number_within most_budget word ≡ Some number

some-number : (budget : Option ℕ) (text : Option Text) (word : Text) → SpellsBudget budget text → text ≡ Some word → Numbered budget word
some-number None text word h e = let bad : ⊥ = cc in absurd bad
some-number (Some number) text word (there, is, spelled) e =
    let same : there ≡ word = cc in
    record { number = number; is = refl; spelled = subst (λ x. number_within most_budget x ≡ Some number) same spelled }

pub numbered : (f : Found) (said : Said) (word : Text) → Says said (rows_of f) → Some word ≡ first_value f (codes "budget") → Numbered said.budget word
numbered f said word says e = some-number said.budget (first_of (codes "budget") (rows_of f)) word says.budget (sym (e ∙ first_value-rows f (codes "budget")))

pub with-number : (names : List Text) (stats image : Bool) (word : Text) (number : ℕ) → number_within most_budget word ≡ Some number
    → option_and_then (λ part. added (said_of names None stats image) part) (budget_part word) ≡ Some (said_of names (Some number) stats image)
with-number names stats image word number e = ap (λ o. option_and_then (λ part. added (said_of names None stats image) part) (option_map a_budget o)) e

-- ---- the subcommand

name-of-rows : {Z : Type 0} (o : Option (Box SubCommand Z)) → option_map (λ p. p.0) (subcommand_rows o) ≡ option_map (λ b. (out-SubCommand (box_value b)).name.now) o
name-of-rows None = refl
name-of-rows (Some b) = refl

pub entered-name : (m : ArgMatches) (command name : Text) (rows : List Row) → Some name ≡ subcommand_name_of m → subcommand_rows_of m ≡ Some (command, rows) → name ≡ command
entered-name m command name rows e is =
    let both : Some name ≡ Some command = e ∙ sym (name-of-rows (out-ArgMatches m).subcommand) ∙ ap (option_map (λ p. p.0)) is in
    cc

pub entered-rows : (m : ArgMatches) (command : Text) (rows found : List Row) → Some found ≡ option_map (λ p. p.1) (subcommand_rows_of m) → subcommand_rows_of m ≡ Some (command, rows) → rows ≡ found
entered-rows m command rows found e is =
    let both : Some found ≡ Some rows = e ∙ ap (option_map (λ p. p.1)) is in
    cc

-- ---- building

pub arg-added : (old new : Command) (a : Arg) (rule : Rule) (app : App) → AddsArg old a new → a.global ≡ false → rule_of a ≡ rule → app_of old ≡ app → app_of new ≡ with_rule app rule
arg-added old new a rule app adds local e is = adds.shape local ∙ ap (λ x. with_rule x (rule_of a)) is ∙ ap (with_rule app) e

pub arg-local : (old new : Command) (a : Arg) → AddsArg old a new → a.global ≡ false → (out-Command old).has_globals ≡ false → (out-Command new).has_globals ≡ false
arg-local old new a adds local is = adds.globals ∙ ap (λ b. b || a.global) is ∙ local
