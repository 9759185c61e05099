use Rattle.std.proofs.Common.{arith}
use Rattle.board_world.specs.Limits.{listener_limit}
use Rattle.message_bus.proofs.Bits.{numbers-bits, rising-beginning}
use Rattle.message_bus.proofs.agreement.bits_are_the_numbers.Goals as goal

pub returns-clause-bits : goal.returns-clause-bits
returns-clause-bits c e ls h = numbers-bits e listener_limit 0 ls h

pub returns-clause-rising : goal.returns-clause-rising
returns-clause-rising c e ls = rising-beginning e 0 _ ls (omega arith)
