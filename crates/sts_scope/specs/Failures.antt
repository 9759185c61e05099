-- Failures: a code and its place, and which of two comes first.
use Rattle.std.specs.Prelude.{◌≡◌, ℕ, Bool, true, false, Option, Some, None, Result, Ok, Err}
use Rattle.sts_base.specs.declared.refused.Code.{Code}
use Rattle.sts_base.specs.declared.refused.Refused.{Refused}
use Rattle.sts_base.specs.declared.refused.Refused.TheVariants.{Program, NoMemory}

pub record Failure : Type 0 where
  pub code : Code
  pub at : ℕ

-- the first of two, where the second stands behind the first
infixr 5 ◌then◌
abbrev pub ◌then◌ : Option Failure → Option Failure → Option Failure
(Some f) then g = Some f
None then g = g

abbrev pub failure_at : Code → ℕ → Option Failure
failure_at code at = Some (record { code = code; at = at })

-- a failure where this doesn't hold
abbrev pub unless : Bool → Code → ℕ → Option Failure
unless true code at = None
unless false code at = failure_at code at

-- a failure where there is none, as of a node without a type
abbrev pub own : {A : Type 0} → Option A → Code → ℕ → Option Failure
own (Some t) code at = None
own None code at = failure_at code at

-- it is refused with this failure, unless memory ran out
abbrev pub RefusedWith : Refused → Option Failure → Type 0
RefusedWith (Program code at) found = found ≡ failure_at code at
RefusedWith NoMemory found = Unit {0}

-- there is no failure, or it is refused with the first
abbrev pub Finds : {X : Type 0} → Result X Refused → Option Failure → Type 0
Finds (Ok x) found = found ≡ None
Finds (Err e) found = RefusedWith e found
