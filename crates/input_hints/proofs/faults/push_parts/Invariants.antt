use Rattle.input_hints.specs.Plain.{StaysPlain}
use Rattle.input_hints.proofs.faults.push_parts.Given as goal

abbrev pub invariant-loop-part : goal.invariant-loop-part
invariant-loop-part l = StaysPlain l.initial.out.items l.out.items
