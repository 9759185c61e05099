use Rattle.std.proofs.Common.{◌≡◌, ◌∙◌, true, false, Some, sym, ap, subst}
use Rattle.sts_scope.specs.declared.known.Found.TheVariants as found
use Rattle.persistent_maps.specs.Maps.{value_in}
use Rattle.type_derive.specs.Named.{InScope, around_of, is_at, local_found}
use Rattle.type_derive.proofs.Named.{found_around, found_here}
use Rattle.type_derive.proofs.locals.Locals.named.Goals as goal

pub returns-then-is_at : goal.returns-then-is_at
returns-then-is_at c =
    let old = c.self.inside in
    let i = c.in-Some.i in
    let x = c.args.x in
    let value : value_in old.innermost x ≡ Some i = sym c.get.ensures ∙ c.in-Some.is in
    let here : is_at old.own.items i x ≡ true = ap (λ ls. is_at ls i x) (sym c.as_slice.ensures.value) ∙ sym c.is_at.ensures ∙ c.if-is_at.true in
    sym (subst (λ (s : InScope). local_found s x ≡ Some (found.Local i)) c.self.view_is (found_here (around_of old.around.items) old.own.items old.block old.innermost x i c.self.invariant.in_map value here))

pub returns-else-is_at : goal.returns-else-is_at
returns-else-is_at c =
    let old = c.self.inside in
    let i = c.in-Some.i in
    let x = c.args.x in
    let value : value_in old.innermost x ≡ Some i = sym c.get.ensures ∙ c.in-Some.is in
    let there : is_at old.own.items i x ≡ false = ap (λ ls. is_at ls i x) (sym c.as_slice.ensures.value) ∙ sym c.is_at.ensures ∙ c.if-is_at.false in
    sym (subst (λ (s : InScope). local_found s x ≡ Some found.Captured) c.self.view_is (found_around (around_of old.around.items) old.own.items old.block old.innermost x i c.self.invariant.in_map value there))
