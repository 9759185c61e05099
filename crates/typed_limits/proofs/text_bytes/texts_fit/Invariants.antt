use Rattle.std.proofs.Common.{◌≡◌, ◌+◌, drop}
use Rattle.sts_syntax.specs.Nodes.{used_bytes}
use Rattle.typed_limits.proofs.text_bytes.texts_fit.Given as goal

-- what is left, with the bytes of the texts behind, is what there was with those of all
abbrev pub invariant-loop-number : goal.invariant-loop-number
invariant-loop-number l = l.left + used_bytes 0 l.texts l.used ≡ l.most + used_bytes l.number (drop l.number l.texts) l.used
