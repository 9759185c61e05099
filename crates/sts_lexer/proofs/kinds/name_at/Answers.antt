use Rattle.std.proofs.Common.{refl}
use Rattle.sts_lexer.specs.Lexemes.{name}
use Rattle.sts_lexer.proofs.Lexing.{name_longest, name_stands}
use Rattle.sts_lexer.proofs.kinds.name_at.Goals as goal

pub returns-in-Some-clause-reads : goal.returns-in-Some-clause-reads
returns-in-Some-clause-reads c =
    let text = c.args.text.now in
    let run = c.run_end-end.ensures in
    record {
      lexeme = name _;
      spelled = (name_stands text c.args.at c.run_end-end.result c.requires.here c.requires.begins run.after run.within run.each run.ends, refl);
      longest = name_longest text c.args.at c.run_end-end.result c.requires.begins run.after run.ends;
      is = (c.in_ok-entry.ensures.entry, c.in-Some.ensures.some);
    }

pub returns-in-None-clause-reads : goal.returns-in-None-clause-reads
returns-in-None-clause-reads c =
    let text = c.args.text.now in
    let run = c.run_end-end.ensures in
    record {
      lexeme = name _;
      spelled = (name_stands text c.args.at c.run_end-end.result c.requires.here c.requires.begins run.after run.within run.each run.ends, refl);
      longest = name_longest text c.args.at c.run_end-end.result c.requires.begins run.after run.ends;
      is = (c.in_ok-entry.ensures.entry, c.in-None.ensures.none);
    }
