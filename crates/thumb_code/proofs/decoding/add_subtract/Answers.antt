use Rattle.std.proofs.Common.{◌≡◌, ◌/◌, ◌%◌, refl, arith}
use Rattle.thumb_code.proofs.decoding.add_subtract.Goals as goal

pub returns-in-2-clause-same : goal.returns-in-2-clause-same
returns-in-2-clause-same c = rw c.in-2.is refl

pub returns-in_default-clause-same : goal.returns-in_default-clause-same
returns-in_default-clause-same c = let h : c.args.first / 512 % 4 ≡ 3 = omega arith in rw h refl
