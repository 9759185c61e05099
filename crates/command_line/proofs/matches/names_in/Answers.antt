use Rattle.std.proofs.Common.{refl}
use Rattle.std.specs.Prelude.{codes, Some, None}
use Rattle.clap.specs.Words.{first_value, found_of}
use Rattle.command_line.proofs.Given.{names-are}
use Rattle.command_line.proofs.matches.names_in.Goals as goal

pub returns-in-None : goal.returns-in-None
returns-in-None c = λ said says.
    let found = found_of c.args.matches.now in
    names-are found said None (first_value found (codes "script")) (first_value found (codes "arrivals")) says c.in-None.ensures refl refl

pub returns-in-None-get_str : goal.returns-in-None-get_str
returns-in-None-get_str c = λ said says.
    let found = found_of c.args.matches.now in
    names-are found said (Some c.in-Some.name.now) None (first_value found (codes "arrivals")) says c.in-Some.ensures c.in-None-get_str.ensures refl

pub returns-in-None-get_str-2 : goal.returns-in-None-get_str-2
returns-in-None-get_str-2 c = λ said says.
    names-are (found_of c.args.matches.now) said (Some c.in-Some.name.now) (Some c.in-Some-get_str.script.now) None says c.in-Some.ensures c.in-Some-get_str.ensures c.in-None-get_str-2.ensures

pub returns-in-Some-get_str-2 : goal.returns-in-Some-get_str-2
returns-in-Some-get_str-2 c = λ said says.
    names-are (found_of c.args.matches.now) said (Some c.in-Some.name.now) (Some c.in-Some-get_str.script.now) (Some c.in-Some-get_str-2.arrivals.now) says
    c.in-Some.ensures c.in-Some-get_str.ensures c.in-Some-get_str-2.ensures
