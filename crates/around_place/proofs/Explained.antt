-- What stands around a place, from what the code has of it.
use Rattle.std.proofs.Common.{◌≡◌, ◌-◌, ℕ, List, take, drop, Option, Some, None, sym, subst, ap, ◌∙◌}
use Rattle.std.specs.Borrow.{Bor}
use Rattle.std.specs.Option.{option_map}
use Rattle.std.specs.Prelude.{slice_range}
use Rattle.around_place.specs.declared.row.Around.{Around}
use Rattle.around_place.specs.Brackets.{innermost_bracket}
use Rattle.around_place.specs.Rows.{Surroundings, HasTheseWords, first_byte}
use Rattle.around_place.specs.Telling.{StandsAround}
use Rattle.around_place.specs.Words.{AreItsWords}

-- the byte of the bracket
pub bracket-known : (found : Option (Bor (List ℕ))) (rest : Option (List ℕ)) (bracket : Option ℕ) → bracket ≡ option_map (λ r. first_byte r.now) found → option_map (λ r. r.now) found ≡ rest
    → bracket ≡ option_map first_byte rest
bracket-known None rest bracket e f = e ∙ ap (λ (x : Option (List ℕ)). option_map first_byte x) f
bracket-known (Some r) rest bracket e f = e ∙ ap (λ (x : Option (List ℕ)). option_map first_byte x) f

pub seen-around : (around : Around) (text : List ℕ) (at column : ℕ) (bracket : Option ℕ) (seen : Surroundings) → around.line.now ≡ slice_range text (at - (column - 1)) at
    → around.before.now ≡ take at text → around.at.now ≡ drop at text → around.bracket ≡ bracket
    → ((words : List (List ℕ)) → AreItsWords (take at text) words → bracket ≡ option_map first_byte (innermost_bracket (take at text) words)) → StandsAround text at column seen → HasTheseWords around seen
seen-around around text at column bracket seen line before behind same known stands = record {
  line = subst (λ (x : List ℕ). AreItsWords x seen.line) (sym line) stands.line;
  before = subst (λ (x : List ℕ). AreItsWords x seen.before) (sym before) stands.before;
  behind = subst (λ (x : List ℕ). AreItsWords x seen.behind) (sym behind) stands.behind;
  bracket = same ∙ (known seen.before stands.before ∙ sym stands.bracket);
}
