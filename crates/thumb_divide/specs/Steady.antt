-- Steps each of which leaves the memory as it is.
use Rattle.std.specs.Prelude.{◌≡◌, ℕ, zero, suc, ◌≤◌}
use Rattle.thumb_code.specs.declared.register_file.Registers.{Registers}
use Rattle.thumb_code.specs.Step.{Fetched, On, ran}
use Rattle.thumb_code.specs.Run.{Executor}

module _ {S : Type 0} (over : Executor S) (fetch : ℕ → Fetched) (t : S) where
  -- one step, which asks for no service and is no fault
  abbrev pub One : Registers → Registers → Type 0
  One r q = ran (over r t) r (fetch r.pc) ≡ On q t

  -- so many steps
  abbrev pub Steps : ℕ → Registers → Registers → Type 0
  Steps zero r q = r ≡ q
  Steps (suc n) r q = (m : Registers) × One r m × Steps n m q

  -- at most so many steps
  pub record Within (most : ℕ) (r q : Registers) : Type 0 where
    pub count : ℕ
    pub few : count ≤ most
    pub steps : Steps count r q
