use Rattle.input_hints.specs.Plain.{StaysPlain}
use Rattle.input_hints.proofs.faults.push_bytes.Given as goal

abbrev pub invariant-loop-byte : goal.invariant-loop-byte
invariant-loop-byte l = StaysPlain l.initial.out.items l.out.items
