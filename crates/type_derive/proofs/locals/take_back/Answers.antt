use Rattle.std.proofs.Common.{◌≡◌, ◌∷◌, [], ◌++◌, ◌+◌, ◌<◌, ◌∙◌, length, take, sym, arith}
use Rattle.std.proofs.lemmas.Grind.{common_steps}
use Rattle.type_derive.proofs.Named.{named_left}
use Rattle.type_derive.proofs.locals.take_back.Goals as goal

pub returns-in-Some-clause-named : goal.returns-in-Some-clause-named
returns-in-Some-clause-named c = λ around h.
    let n = c.args.n in
    let own = c.args.own.now.items in
    let before = c.args.before.now.items in
    let left = c.pop.new.self.items in
    let within : n < length own = grind (arith, common_steps) in
    let last : take (n + 1) before ≡ left ++ c.in-Some.earlier ∷ [] = sym c.truncate-then-n-len.ensures.items ∙ c.in-Some.ensures.items in
    named_left around own c.truncate.new.self.items c.args.innermost.now c.in-Some.earlier before left n h within c.truncate.ensures.items last
