use Rattle.std.proofs.Common.{◌≡◌, ◌∷◌, [], ◌++◌, length, List, sym, subst, arith}
use Rattle.std.proofs.lemmas.Grind.{common_steps}
use Rattle.sts_scope.specs.declared.known.Local.{Local}
use Rattle.persistent_maps.specs.declared.maps.PersistentMap.{PersistentMap}
use Rattle.type_derive.specs.Named.{AreNamed, around_of}
use Rattle.type_derive.proofs.Named.{named_added}
use Rattle.type_derive.proofs.locals.Locals.push.Goals as goal

pub invariant_of-self-2 : goal.invariant_of-self-2
invariant_of-self-2 c =
    let old = c.self.inside in
    let around = around_of old.around.items in
    let own = old.own.items in
    let l = c.args.local in
    let new = c.in_ok-innermost.innermost in
    let shared = c.in_ok-before.before in
    let list : c.push-2.new.self.items ≡ own ++ l ∷ [] = grind (arith, common_steps) in
    let before : c.push.new.self.items ≡ old.before.items ++ shared ∷ [] = grind (arith, common_steps) in
    let long : c.len.result ≡ length own = grind (arith, common_steps) in
    let done = named_added around own old.innermost new shared old.before.items l c.len.result long c.self.invariant c.in_ok-innermost.ensures c.in_ok-before.ensures in
    subst (λ (ls : List Local). AreNamed around ls new c.push.new.self.items) (sym list) (subst (λ (ms : List PersistentMap). AreNamed around (own ++ l ∷ []) new ms) (sym before) done)
