use Rattle.std.proofs.Common.{◌≡◌, ◌++◌, [], List, ap, sym, ◌∙◌, subst}
use Rattle.sts_scope.specs.declared.known.Local.{Local}
use Rattle.type_derive.specs.Named.{AreNamed, InScope, around_of, in_scope}
use Rattle.type_derive.proofs.Named.{around_inside, named_inside}
use Rattle.type_derive.proofs.locals.Locals.inside.Goals as goal

pub invariant_of-result : goal.invariant_of-result
invariant_of-result c =
    let old = c.self.inside in
    let all = c.in_ok-around.around.items in
    let own = c.new.result.items in
    subst (λ (ls : List Local). AreNamed ls own c.in_ok-share.field-0 c.new-2.result.items)
    (sym (around_inside old.around.items c.as_slice.result.now all c.as_slice-2.result old.own.items c.in_ok-around.ensures c.as_slice.ensures.value c.as_slice-2.ensures.value))
    (named_inside (around_of old.around.items) old.own.items own old.innermost c.in_ok-share.field-0 c.new-2.result.items c.self.invariant.in_map c.in_ok-share.ensures c.new.ensures.items c.new-2.ensures.items)

pub returns : goal.returns
returns c =
    let old = c.self.inside in
    let all = c.in_ok-around.around.items in
    let own = c.new.result.items in
    subst (λ (v : InScope). in_scope (around_of all) own 0 ≡ in_scope (v.around ++ v.own) [] 0) c.self.view_is
    (ap (λ (ls : List Local). in_scope ls own 0) (around_inside old.around.items c.as_slice.result.now all c.as_slice-2.result old.own.items c.in_ok-around.ensures c.as_slice.ensures.value c.as_slice-2.ensures.value)
    ∙ ap (λ (ls : List Local). in_scope (around_of old.around.items ++ old.own.items) ls 0) c.new.ensures.items)
