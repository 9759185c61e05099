-- What the ops of flat code make of values, beyond what the source's operators do.
use Rattle.std.specs.Prelude.{◌≡◌, ℕ, zero, suc, pos, negsuc, ◌+ℤ◌, Bool, if◌then◌else◌, ◌==◌, List, [], ◌∷◌}
use Rattle.board_services.specs.declared.numbers.TheConstants.{TIME, EVENT_VALUE, BUTTON, TEXT_GLYPH, NUMBER_GLYPH}
use Rattle.flat_ir.specs.declared.operators.TheConstants.{INCREMENT, DECREMENT}
use Rattle.sts_syntax.specs.Types.{ValueType}
use Rattle.sts_syntax.specs.BoardTable.{BoardAction, Service}
use Rattle.sts_syntax.specs.Nodes.{is_among}
use Rattle.sts_meaning.specs.Continuation.{gives_value}
use Rattle.sts_meaning.specs.Values.{Value, Whole, default, Outcome, Gives, Stuck, then_gives, whole, to_int32, applied_before}

-- The prefix operators of the source, and those that give one more and one less than a number, through ToInt32.
abbrev pub prefixed_by : ℕ → Value → Outcome Value
prefixed_by op v =
    if op == INCREMENT then then_gives (whole v) (λ x. Gives (Whole (to_int32 (x +ℤ pos 1))))
    else if op == DECREMENT then then_gives (whole v) (λ x. Gives (Whole (to_int32 (x +ℤ negsuc 0))))
    else applied_before op v

-- the services that answer with a number; of all others the value is 0
abbrev pub answering : List ℕ
answering = TIME ∷ EVENT_VALUE ∷ BUTTON ∷ TEXT_GLYPH ∷ NUMBER_GLYPH ∷ []

abbrev pub answers : ℕ → Bool
answers service = is_among answering service

-- a call of the board has a value where its service answers
abbrev pub IsAnswered : BoardAction → ValueType → Type 0
IsAnswered (Service number places) gives = gives_value gives ≡ answers number
IsAnswered _ gives = Unit {0}

-- the default, so many times
abbrev pub zeros : ℕ → List Value
zeros zero = []
zeros (suc n) = default ∷ zeros n

-- exactly so many arguments
abbrev pub exactly : ℕ → List Value → Outcome (Unit {0})
exactly zero [] = Gives tt
exactly zero (v ∷ vs) = Stuck
exactly (suc n) [] = Stuck
exactly (suc n) (v ∷ vs) = exactly n vs
