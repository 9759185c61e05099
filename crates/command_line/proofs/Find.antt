-- Rows, found by the names of their arguments.
use Rattle.std.proofs.Common.{◌≡◌, List, [], ◌∷◌, ◌++◌, refl, sym, ap, ◌∙◌, Bool, true, false}
use Rattle.std.specs.Prelude.{Option, Some, None, is_some, find, if◌then◌else◌, cond, ◌||◌}
use Rattle.std.specs.Option.{option_or}
use Rattle.std.specs.Str.{bytes_eq}
use Rattle.std.proofs.lemmas.List.Folds.{find-append}
use Rattle.std.proofs.lemmas.Bool.{false≢true}
use Rattle.clap.specs.Words.{Text, Row}
use Rattle.clap.specs.Walk.{at_row, has_row}

never-found : {A : Type 0} (b : Bool) (r : Row) (o : Option Row) (x : A) → cond b (Some r) o ≡ None → b ≡ false
never-found true r o x e = cc
never-found false r o x e = refl

behind : (b : Bool) (r : Row) (o : Option Row) → b ≡ false → cond b (Some r) o ≡ o
behind true r o e = absurd (false≢true (sym e))
behind false r o e = refl

-- what was found for the argument of this name
abbrev pub row_at : Text → List Row → Option Row
row_at id rows = find (λ r. bytes_eq r.id id) rows

-- a change of a row that isn't there is what stands for it, at the end
pub at_row-missing : (id : Text) (change : Row → List Row) (missing rows : List Row) → row_at id rows ≡ None → at_row id change missing rows ≡ rows ++ missing
at_row-missing id change missing [] e = refl
at_row-missing id change missing (r ∷ rs) e =
    let no_match : bytes_eq r.id id ≡ false = never-found (bytes_eq r.id id) r (row_at id rs) r e in
    let rest : row_at id rs ≡ None = sym (behind (bytes_eq r.id id) r (row_at id rs) no_match) ∙ e in
    one (bytes_eq r.id id) no_match (at_row-missing id change missing rs rest)
  where
    one : (b : Bool) → b ≡ false → at_row id change missing rs ≡ rs ++ missing
        → (if b then change r ++ rs else (r ∷ at_row id change missing rs)) ≡ r ∷ (rs ++ missing)
    one true h e = absurd (false≢true (sym h))
    one false h e = ap (λ x. r ∷ x) e

-- whether a row is there
pub has_row-is : (id : Text) (rows : List Row) → has_row id rows ≡ is_some (row_at id rows)
has_row-is id [] = refl
has_row-is id (r ∷ rs) = one (bytes_eq r.id id) (has_row-is id rs)
  where
    one : (b : Bool) → has_row id rs ≡ is_some (row_at id rs) → (b || has_row id rs) ≡ is_some (cond b (Some r) (row_at id rs))
    one true e = refl
    one false e = e

pub row_at-same : (id : Text) (rows : List Row) (r : Row) → row_at id rows ≡ None → bytes_eq r.id id ≡ true → row_at id (rows ++ r ∷ []) ≡ Some r
row_at-same id rows r e h = find-append (λ x. bytes_eq x.id id) rows (r ∷ []) ∙ two (row_at id rows) (bytes_eq r.id id) e h
  where
    two : (o : Option Row) (b : Bool) → o ≡ None → b ≡ true → option_or o (cond b (Some r) None) ≡ Some r
    two None true e h = refl
    two None false e h = absurd (false≢true h)
    two (Some x) b e h = cc

pub row_at-other : (id : Text) (rows : List Row) (r : Row) → bytes_eq r.id id ≡ false → row_at id (rows ++ r ∷ []) ≡ row_at id rows
row_at-other id rows r h = find-append (λ x. bytes_eq x.id id) rows (r ∷ []) ∙ two (row_at id rows) (bytes_eq r.id id) h
  where
    two : (o : Option Row) (b : Bool) → b ≡ false → option_or o (cond b (Some r) None) ≡ o
    two o true h = absurd (false≢true (sym h))
    two None false h = refl
    two (Some x) false h = refl
