use Rattle.std.proofs.Common.{◌≡◌, ◌+◌, ◌<◌, List, ℕ, [], ◌∷◌, ◌++◌, take, length, sym, subst, ◌∙◌, ap, arith}
use Rattle.std.proofs.lemmas.List.{take_more, take_all, length-take-le}
use Rattle.sts_lexer.specs.Entries.{Indexes, Notes}
use Rattle.sts_lexer.proofs.Numbering.{indexes_added, indexes_none}
use Rattle.sts_lexer.proofs.entries.entries_of.Goals as goal

pub loop-entry-init : goal.loop-entry-init
loop-entry-init c = indexes_none c.new-entries.result c.new-entries.ensures.empty

pub loop-entry-preserved : goal.loop-entry-preserved
loop-entry-preserved c =
    let strings = c.args.strings.now in
    let i = c.loop-entry.entry in
    let this = c.index-strings-entry.result in
    let old = c.loop-entry.entries in
    let new = c.note.new.entries in
    let inside : i < length strings = omega arith in
    let reached : i ≡ length (take i strings) = sym (length-take-le i strings (omega arith)) in
    let noted : Notes old new this i = subst (λ (x : List ℕ). Notes old new x i) c.as_slice.ensures c.in_ok-note.ensures in
    let more : take (i + 1) strings ≡ take i strings ++ this ∷ [] =
    take_more strings i this inside ∙ ap (λ (x : List ℕ). take i strings ++ x ∷ []) (sym c.index-strings-entry.is) in
    subst (λ (x : List (List ℕ)). Indexes new x) (sym more) (indexes_added old new (take i strings) this i reached c.loop-entry.invariant noted)

pub returns : goal.returns
returns c =
    subst (λ (x : List (List ℕ)). Indexes c.loop-entry.entries x) (take_all c.loop-entry.entry c.args.strings.now (omega arith)) c.loop-entry.invariant
