use Rattle.std.proofs.Common.{◌≡◌, ◌++◌, ◌∷◌, [], List, ℕ, length, refl, sym, subst, ◌∙◌, ap, inl}
use Rattle.std.specs.Prelude.{Some, slice_get}
use Rattle.std.proofs.lemmas.Option.{slice_get_within}
use Rattle.sts_base.specs.Distinct.{IsDistinct}
use Rattle.sts_lexer.specs.Entries.{Indexes}
use Rattle.sts_lexer.proofs.Numbering.{distinct_added, indexes_added, slice_get_added, known, unknown}
use Rattle.sts_lexer.proofs.entries.entry_of.Goals as goal

pub returns-in-Some-clause-entry : goal.returns-in-Some-clause-entry
returns-in-Some-clause-entry c =
    known c.args.entries.now c.args.strings.now c.args.bytes.now c.in-Some.entry.now c.requires.indexed c.in-Some.ensures.value

pub returns-in-Some-clause-in_order : goal.returns-in-Some-clause-in_order
returns-in-Some-clause-in_order c =
    inl (slice_get_within c.args.strings.now c.in-Some.entry.now c.args.bytes.now (known c.args.entries.now c.args.strings.now c.args.bytes.now c.in-Some.entry.now c.requires.indexed c.in-Some.ensures.value), refl)

pub returns-in_err-note-clause-distinct : goal.returns-in_err-note-clause-distinct
returns-in_err-note-clause-distinct c =
    let strings = c.args.strings.now in
    let bytes = c.args.bytes.now in
    let more : c.push.new.self ≡ strings ++ bytes ∷ [] = c.in_ok-push.ensures.ok ∙ ap (λ (x : List ℕ). strings ++ x ∷ []) c.in_ok-copied.ensures in
    subst (λ (x : List (List ℕ)). IsDistinct x) (sym more)
    (distinct_added strings bytes c.requires.distinct (unknown c.args.entries.now strings bytes c.requires.indexed c.in_default.ensures.value))

pub returns-clause-entry : goal.returns-clause-entry
returns-clause-entry c =
    let strings = c.args.strings.now in
    let bytes = c.args.bytes.now in
    let more : c.push.new.self ≡ strings ++ bytes ∷ [] = c.in_ok-push.ensures.ok ∙ ap (λ (x : List ℕ). strings ++ x ∷ []) c.in_ok-copied.ensures in
    let here : slice_get c.push.new.self (length strings) ≡ Some bytes =
    subst (λ (x : List (List ℕ)). slice_get x (length strings) ≡ Some bytes) (sym more) (slice_get_added strings bytes) in
    subst (λ (n : ℕ). slice_get c.push.new.self n ≡ Some bytes) (sym c.len-entry.ensures) here

pub returns-clause-indexed : goal.returns-clause-indexed
returns-clause-indexed c =
    let strings = c.args.strings.now in
    let bytes = c.args.bytes.now in
    let more : c.push.new.self ≡ strings ++ bytes ∷ [] = c.in_ok-push.ensures.ok ∙ ap (λ (x : List ℕ). strings ++ x ∷ []) c.in_ok-copied.ensures in
    subst (λ (x : List (List ℕ)). Indexes c.note.new.entries x) (sym more)
    (indexes_added c.args.entries.now c.note.new.entries strings bytes c.len-entry.result c.len-entry.ensures c.requires.indexed c.in_ok-note.ensures)

pub returns-clause-distinct : goal.returns-clause-distinct
returns-clause-distinct c =
    let strings = c.args.strings.now in
    let bytes = c.args.bytes.now in
    let more : c.push.new.self ≡ strings ++ bytes ∷ [] = c.in_ok-push.ensures.ok ∙ ap (λ (x : List ℕ). strings ++ x ∷ []) c.in_ok-copied.ensures in
    subst (λ (x : List (List ℕ)). IsDistinct x) (sym more)
    (distinct_added strings bytes c.requires.distinct (unknown c.args.entries.now strings bytes c.requires.indexed c.in_default.ensures.value))
