-- Going through the declared names: what was seen, and the first failure.
use Rattle.std.proofs.Common.{◌≡◌, ℕ, ◌+◌, ◌<◌, ◌||◌, Bool, true, false, cond, Option, Some, None, List, [], ◌∷◌, ◌++◌, length, take, drop, get_or, refl, sym, ap, ◌∙◌}
use Rattle.std.specs.Prelude.{is_some}
use Rattle.std.specs.List.{position_from}
use Rattle.std.proofs.lemmas.List.{take_more}
use Rattle.sts_scope.specs.declared.entries.Owner.{Owner}
use Rattle.sts_scope.specs.declared.entries.Owner.TheVariants as o
use Rattle.sts_scope.specs.declared.entries.Entry.{Entry}
use Rattle.sts_scope.specs.Failures.{Failure, ◌then◌}
use Rattle.std.specs.Option.{option_or}
use Rattle.sts_scope.specs.Values.{value_at}
use Rattle.sts_scope.specs.Lookup.{declares, entry_number, is_second}
use Rattle.sts_scope.specs.Globals.{name_failure, names_failure}
use Rattle.sts_scope.proofs.Laws.{position-append, drop_at}

-- exactly the names of the first d declarations have a value
pub record AreSeen (seen : List (Option ℕ)) (entries : List Entry) (d : ℕ) : Type 0 where
  pub each : (y : ℕ) → is_some (value_at seen y) ≡ is_some (entry_number (take d entries) o.Whole y)

some_else : (a : Option ℕ) (b : Bool) (n : ℕ) → is_some (option_or a (cond b (Some n) None)) ≡ (b || is_some a)
some_else None true n = refl
some_else None false n = refl
some_else (Some x) true n = refl
some_else (Some x) false n = refl

seen_more : (es : List Entry) (d : ℕ) (e : Entry) (y : ℕ) → d < length es → e ≡ get_or es d e →
    is_some (entry_number (take (d + 1) es) o.Whole y) ≡ (declares o.Whole y e || is_some (entry_number (take d es) o.Whole y))
seen_more es d e y lt is =
    let p = declares o.Whole y in
    let t : take (d + 1) es ≡ take d es ++ e ∷ [] = take_more es d e lt ∙ ap (λ x. take d es ++ x ∷ []) (sym is) in
    ap (λ xs. is_some (position_from p 0 xs)) t ∙ ap is_some (position-append p 0 (take d es) (e ∷ []))
    ∙ some_else (position_from p 0 (take d es)) (p e) (0 + length (take d es))

pub seen_step : (old new : List (Option ℕ)) (es : List Entry) (d : ℕ) (e : Entry) → d < length es → e ≡ get_or es d e → AreSeen old es d →
    ((y : ℕ) → is_some (value_at new y) ≡ (declares o.Whole y e || is_some (value_at old y))) → AreSeen new es (d + 1)
seen_step old new es d e lt is a h = record { each = λ y. h y ∙ ap (λ b. declares o.Whole y e || b) (a.each y) ∙ sym (seen_more es d e y lt is) }

same_name : (names : List (List ℕ)) (seen : List (Option ℕ)) (es : List Entry) (d : ℕ) (owner : Owner) (x at : ℕ) → AreSeen seen es d →
    name_failure names owner x at (is_second es d owner x) ≡ name_failure names owner x at (is_some (value_at seen x))
same_name names seen es d o.Whole x at a = ap (name_failure names o.Whole x at) (sym (a.each x))
same_name names seen es d (o.Class c) x at a = refl

pub found_step : (names : List (List ℕ)) (seen : List (Option ℕ)) (es : List Entry) (d : ℕ) (e : Entry) (all : Option Failure) → d < length es → e ≡ get_or es d e →
    AreSeen seen es d → name_failure names e.owner e.name e.at (is_some (value_at seen e.name)) ≡ None →
    names_failure names es d (drop d es) ≡ all → names_failure names es (d + 1) (drop (d + 1) es) ≡ all
found_step names seen es d e all lt is a h f =
    sym (ap (names_failure names es d) (drop_at es d e lt is)
    ∙ ap (λ o. o then names_failure names es (d + 1) (drop (d + 1) es)) (same_name names seen es d e.owner e.name e.at a ∙ h)) ∙ f
