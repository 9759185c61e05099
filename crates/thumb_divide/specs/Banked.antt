-- A fiber's bank that stands in the stack region.
use Rattle.std.specs.Prelude.{◌+◌, ◌*◌, ◌≤◌, length}
use Rattle.thumb_code.specs.Map.{stack_at}
use Rattle.bank_model.specs.Bank.{Bank}

pub record IsInRegion (b : Bank) : Type 0 where
  pub low : stack_at + 4 * length b.words ≤ b.base
