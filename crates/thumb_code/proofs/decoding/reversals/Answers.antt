use Rattle.std.proofs.Common.{◌≡◌, ◌/◌, ◌%◌, refl, arith}
use Rattle.thumb_code.proofs.decoding.reversals.Goals as goal

pub returns-in_default-clause-same : goal.returns-in_default-clause-same
returns-in_default-clause-same c = let h : c.args.first / 64 % 4 ≡ 2 = omega arith in rw h refl
