use Rattle.std.proofs.Common.{◌≡◌, ◌==◌, false, arith}
use Rattle.std.proofs.Common.{get_or}
use Rattle.std.proofs.lemmas.Bool.{ne_eqb}
use Rattle.std.proofs.lemmas.List.Elements.{All-more}
use Rattle.transcript_view.proofs.Lines.{line-found, line-left}
use Rattle.transcript_view.proofs.parts.first_line.Goals as goal

pub returns-then-byte-eq10-clause-parts : goal.returns-then-byte-eq10-clause-parts
returns-then-byte-eq10-clause-parts c = line-found c.args.text.now c.loop-at.at 0 (omega arith) c.if-byte-eq10.true c.loop-at.invariant

pub loop-at-preserved : goal.loop-at-preserved
loop-at-preserved c = All-more (λ b. (b == 10) ≡ false) c.args.text.now c.loop-at.at 0 (omega arith) c.loop-at.invariant (ne_eqb (get_or c.args.text.now c.loop-at.at 0) 10 c.if-byte-eq10.false)

pub returns-clause-parts : goal.returns-clause-parts
returns-clause-parts c = line-left c.args.text.now c.loop-at.at c.requires (omega arith) c.loop-at.invariant
