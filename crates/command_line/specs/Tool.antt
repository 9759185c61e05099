-- The command line, as `clap` sees it: one level of subcommands, all with the same arguments.
use Rattle.std.specs.Prelude.{ℕ, List, codes, Some, true}
use Rattle.clap.specs.Words.{App, Rule, Shape, new_app, new_rule, with_rule, with_subcommand}
use Rattle.clap.specs.Simple.{on_top}
use Rattle.clap.specs.declared.builder.action.ArgAction.TheVariants.{Set, SetTrue}

-- the name of a file, or the size of a generated program
abbrev pub name_rule : Rule
name_rule = record (new_rule (codes "name")) { required = true; action = Some Set }

-- the name of a script
abbrev pub script_rule : Rule
script_rule = record (new_rule (codes "script")) { action = Some Set }

-- the name of arrivals
abbrev pub arrivals_rule : Rule
arrivals_rule = record (new_rule (codes "arrivals")) { action = Some Set }

abbrev pub budget_rule : Rule
budget_rule = record (new_rule (codes "budget")) { long = Some (codes "budget"); action = Some Set }

abbrev pub stats_rule : Rule
stats_rule = record (new_rule (codes "stats")) { long = Some (codes "stats"); action = Some SetTrue }

abbrev pub image_rule : Rule
image_rule = record (new_rule (codes "image")) { long = Some (codes "image"); action = Some SetTrue }

-- a subcommand of this name
abbrev pub command_app : List ℕ → App
command_app name =
    with_rule (with_rule (with_rule (with_rule (with_rule (with_rule (new_app name) name_rule) script_rule)
    arrivals_rule) budget_rule) stats_rule) image_rule

-- no word stands before the subcommand, and there is no help
abbrev pub without_help : Shape → Shape
without_help s = record s {
  no_binary_name = true;
  disable_help_flag = true;
  disable_help_subcommand = true;
  subcommand_required = true;
}

abbrev pub bare_app : App
bare_app = on_top without_help (new_app (codes "sts"))

-- the command line
abbrev pub tool_app : App
tool_app =
    with_subcommand
    (with_subcommand (with_subcommand (with_subcommand (with_subcommand (with_subcommand (with_subcommand bare_app
    (command_app (codes "check")).top) (command_app (codes "build")).top) (command_app (codes "run")).top)
    (command_app (codes "run-hex")).top)
    (command_app (codes "run-at")).top) (command_app (codes "class")).top)
    (command_app (codes "big")).top
