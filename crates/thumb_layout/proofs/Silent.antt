-- Silent instructions, of which there are so many.
use Rattle.std.specs.Prelude.{ℕ, ◌≤◌}
use Rattle.thumb_code.specs.declared.register_file.Registers.{Registers}
use Rattle.thumb_code.specs.Step.{Fetched}
use Rattle.thumb_code.specs.Run.{Executor}
use Rattle.thumb_layout.specs.Holds.{Silent}

-- From one state to another in at least and at most so many silent instructions.
pub record ComesSilently {S : Type 0} (over : Executor S) (fetch : ℕ → Fetched) (least most : ℕ) (s : Registers) (t : S)
    (s' : Registers) (t' : S) : Type 0 where
  pub count : ℕ
  pub some : least ≤ count
  pub few : count ≤ most
  pub silent : Silent over fetch count s t s' t'
