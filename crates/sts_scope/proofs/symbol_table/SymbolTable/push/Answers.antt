use Rattle.std.proofs.Common.{◌≡◌, ◌∷◌, ◌++◌, ◌&&◌, ◌==◌, [], Some, None, ℕ, cond, length, sym, subst, arith}
use Rattle.std.proofs.lemmas.Grind.{common_steps}
use Rattle.sts_scope.specs.declared.entries.Owner.{Owner}
use Rattle.sts_scope.specs.Lookup.{same_owner}
use Rattle.std.specs.Option.{option_or}
use Rattle.sts_scope.specs.Symbols.{IsIndexed, number_at}
use Rattle.sts_scope.proofs.Symbols.{indexed_noted}
use Rattle.sts_scope.proofs.symbol_table.SymbolTable.push.Goals as goal

pub invariant_of-self-in-Ok-note : goal.invariant_of-self-in-Ok-note
invariant_of-self-in-Ok-note c =
    let old = c.self.inside in
    let new = c.note.new.self in
    let e = c.args.entry in
    let count : c.len-d.result ≡ length old.entries.items = grind (arith, common_steps) in
    let noted = subst (λ d. (owner : Owner) (x : ℕ) → number_at new owner x ≡ option_or (number_at old.numbers owner x) (cond (same_owner e.owner owner && (e.name == x)) (Some d) None))
    count c.in-Ok-note.ensures.ok in
    let more : c.push.new.self.items ≡ old.entries.items ++ e ∷ [] = grind (arith, common_steps) in
    subst (λ es. IsIndexed new es) (sym more) (indexed_noted old.numbers new old.entries.items e c.self.invariant noted)
