use Rattle.std.proofs.Common.{◌≡◌, take, length}
use Rattle.std.specs.Str.{bytes_eq}
use Rattle.play_requests.proofs.secrets.same_secret.Given as goal

abbrev pub invariant-loop-at : goal.invariant-loop-at
invariant-loop-at l = (l.same ≡ bytes_eq (take l.at l.first) (take l.at l.second)) × (length l.first ≡ length l.second)
