-- Worked rows of the definitions: what names which text, and what is live where a function begins.
use Rattle.std.proofs.Common.{ℕ, List, ◌≡◌, ◌<◌, [], ◌∷◌, Some, false, refl, inl, inr, ⊎_elim, arith}
use Rattle.std.specs.Prelude.{pos}
use Rattle.flat_ir.specs.declared.ops.Op.{Op}
use Rattle.flat_ir.specs.declared.ops.Op.TheVariants.{Const, TextOf}
use Rattle.flat_ir.specs.Liveness.{OnlyParametersAreLive, is_read}
use Rattle.sts_syntax.specs.declared.typed.Spot.TheVariants.{Local}
use Rattle.sts_syntax.specs.Types as y
use Rattle.sts_syntax.specs.TypedTrees as e
use Rattle.sts_syntax.specs.TypedTrees.{TypedRoutine, TypedProgram}
use Rattle.sts_lower.specs.Lowered.{lowered_routine}
use Rattle.sts_syntax.specs.TypeRules.{IsOneOf}
use Rattle.lowered_code.specs.Texts.{Has}

-- The op of text 2 names one of 1 and 2, but not of 1 and 3; a number's op names none.
abbrev Names : List ℕ → Op → Type 0
Names texts op = Has (λ value. Unit {0}) (λ text. IsOneOf text texts) op

named : Names (1 ∷ (2 ∷ [])) (TextOf 0 2)
named = inr (inl refl)

not_named : Names (1 ∷ (3 ∷ [])) (TextOf 0 2) → ⊥
not_named h = ⊎_elim (λ e. omega arith) (λ r. ⊎_elim (λ e. omega arith) (λ no. no) r) h

none_named : Names [] (Const 0 (pos 2))
none_named = tt

-- A number's op has the number, and a text's op has none.
has_two : Has (λ value. value ≡ pos 2) (λ text. ⊥) (Const 0 (pos 2))
has_two = refl

has_no_number : Has (λ value. ⊥) (λ text. text ≡ 2) (TextOf 0 2)
has_no_number = refl

-- `{ return x; let x = 1 }`, in which a name is read in front of its declaration. It isn't well typed, and the local is live where its code begins.
abbrev too_early : TypedRoutine
too_early =
    record {
      params = [];
      locals = y.Number ∷ [];
      gives = y.Number;
      all = e.also (e.Return (Some (e.Name y.Number (Local 0)))) (e.also (e.Let false (record { name = Local 0; first = Some (e.Num y.Number (pos 1)) } ∷ [])) e.done);
    }

abbrev alone : TypedProgram
alone = record { classes = []; functions = too_early ∷ []; globals = []; main = 0 }

local_is_live : OnlyParametersAreLive (lowered_routine alone 0 too_early) → ⊥
local_is_live h = let no : 0 < 0 = h 0 (is_read 0 _ refl (0, omega arith, refl)) in omega arith
