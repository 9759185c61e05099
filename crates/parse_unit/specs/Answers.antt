-- What reading a whole text answers.
use Rattle.std.specs.Prelude.{Result, Ok, Err}
use Rattle.sts_base.specs.declared.refused.Refused.{Refused}
use Rattle.sts_base.specs.declared.refused.Refused.TheVariants.{Program, NoMemory}
use Rattle.sts_syntax.specs.declared.units.Unit as u
use Rattle.sts_syntax.specs.Programs as programs
use Rattle.sts_grammar.specs.Source.{Source}
use Rattle.sts_grammar.specs.Units.{IsProgram}
use Rattle.sts_grammar.specs.Deep.{NoneDeep}
use Rattle.sts_grammar.specs.Texts.{RefusesSource}

-- the answer to tokens: their program, or why they are refused
abbrev pub Answers : Source → Result u.Unit Refused → Type 0
Answers s (Ok unit) = NoneDeep s.tokens × IsProgram s (programs.program unit)
Answers s (Err (Program code place)) = RefusesSource s code place
Answers s (Err NoMemory) = Unit {0}
