use Rattle.std.proofs.Common.{◌≡◌, drop}
use Rattle.event_script.specs.Verdict.{is_past}
use Rattle.event_script.proofs.verdict.is_past_end.Given as goal

-- none is past the end so far
abbrev pub invariant-loop-entry : goal.invariant-loop-entry
invariant-loop-entry l = is_past l.end (drop l.entry-index l.entries) ≡ is_past l.end l.fn.entries
