use Rattle.std.proofs.Common.{◌≡◌, ◌∙◌, ◌&&◌, true, Some, sym, ap, subst, arith}
use Rattle.std.specs.Prelude.{nat_le}
use Rattle.std.proofs.lemmas.Bool.Decides.{nat_tests}
use Rattle.sts_scope.specs.Places.{is_from, last_named}
use Rattle.persistent_maps.specs.Maps.{value_in}
use Rattle.type_derive.specs.Named.{InScope, around_of, is_at}
use Rattle.type_derive.proofs.Named.{twice_found}
use Rattle.type_derive.proofs.locals.Locals.is_twice.Goals as goal

pub returns-then-self-i : goal.returns-then-self-i
returns-then-self-i c =
    let old = c.self.inside in
    let i = c.in-Some.i in
    let x = c.args.x in
    let value : value_in old.innermost x ≡ Some i = sym c.get.ensures ∙ c.in-Some.is in
    let here : c.is_at.result ≡ is_at old.own.items i x = c.is_at.ensures ∙ ap (λ ls. is_at ls i x) c.as_slice.ensures.value in
    let within : nat_le old.block i ≡ true = grind (arith, nat_tests) in
    here ∙ sym (ap (λ b. b && is_at old.own.items i x) within)
    ∙ sym (subst (λ (s : InScope). is_from s.block (last_named s.own x) ≡ (nat_le old.block i && is_at old.own.items i x)) c.self.view_is (twice_found (around_of old.around.items) old.own.items old.block old.innermost x i c.self.invariant.in_map value))
