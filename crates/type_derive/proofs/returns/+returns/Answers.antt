use Rattle.std.proofs.Common.{◌≡◌, ◌+◌, ◌<◌, length, drop, sym, ap, ◌∙◌, subst, arith}
use Rattle.std.specs.Prelude.{IfOk}
use Rattle.std.specs.Option.{option_or}
use Rattle.sts_syntax.specs.Views.{tree, declarations, statement, statements, form_statement}
use Rattle.sts_syntax.proofs.Laws.{let_statement}
use Rattle.sts_scope.specs.Places.{inner, with}
use Rattle.type_derive.specs.declared.roles.Role.TheVariants.{Free}
use Rattle.type_derive.specs.Typing.{type_of}
use Rattle.type_derive.specs.Scopes.{place, Extends, naming}
use Rattle.type_derive.specs.Returns as given
use Rattle.type_derive.proofs.Opened.{block_is}
use Rattle.type_derive.proofs.Moves.{closed, stays, further, extends_to, after_extends, returned_step}
use Rattle.type_derive.proofs.returns.+returns.Goals as goal
use Rattle.type_derive.proofs.returns.+returns.Goals.{returned_in_loop-in-Some+in_ok-after-in-For, returned_in_loop-in_default-first}

pub returned-returns-in-Block-clause-value : goal.returned-returns-in-Block-clause-value
returned-returns-in-Block-clause-value t c =
    let s = c.args.context.now.tables.now in
    let f = naming c.args.context.now in
    let k = c.args.context.now.known.now in
    let p = place c.args.scope.now in
    subst (λ o. IfOk c.returned_in_block.result (λ r. r ≡ o))
    (ap (λ xs. given.all_returned s f k (inner p) (statements xs)) c.as_slice.ensures ∙ sym (ap (given.returned s f k p) (block_is c.args.s.now c.in-Block.all c.in-Block.is)))
    c.returned_in_block.ensures.value

pub returned-returns-in_ok-declare_all-in-Let-clause-place : goal.returned-returns-in_ok-declare_all-in-Let-clause-place
returned-returns-in_ok-declare_all-in-Let-clause-place t c =
    let s = c.args.context.now.tables.now in
    let f = naming c.args.context.now in
    let k = c.args.context.now.known.now in
    let p = place c.args.scope.now in
    let is = ap (form_statement c.args.s.now.at) c.in-Let.is ∙ let_statement c.args.s.now.at c.in-Let.fixed c.in-Let.each in
    c.in_ok-declare_all-in-Let.ensures ∙ ap (λ xs. given.all_declared s f k p c.in-Let.fixed (declarations xs)) c.as_slice-in-Let.ensures ∙ sym (ap (given.after s f k p) is)

pub returned_in_loop-returns-in_ok-kind-in-For-clause-place : goal.returned_in_loop-returns-in_ok-kind-in-For-clause-place
returned_in_loop-returns-in_ok-kind-in-For-clause-place t c =
    let s = c.args.context.now.tables.now in
    let f = naming c.args.context.now in
    let k = c.args.context.now.known.now in
    let p = place c.args.scope.now in
    let q = place c.enter-mark.new.scope in
    let r = place c.match-first.scope in
    let x : Extends q r = elim c.match-first.branch [
      | returned_in_loop-in-Some+in_ok-after-in-For w ↦ extends_to q _ r (after_extends s f k q (statement w.deref-in-Some.result.now)) (ap place w.scope-is ∙ w.in_ok-after-in-For.ensures)
      | returned_in_loop-in_default-first w ↦ extends_to q q r (stays q) (ap place w.scope-is)
    ] in
    let y = extends_to q r (place c.returned_in_branch-in-For.new.scope) x c.in_ok-kind-in-For.ensures.place in
    closed p q (place c.returned_in_branch-in-For.new.scope) (place c.leave.new.scope) c.enter-mark.result.locals c.enter-mark.result.block
    c.enter-mark.ensures.place y c.leave.ensures c.enter-mark.ensures.locals c.enter-mark.ensures.block
    ∙ sym (ap (given.after s f k p) (ap (form_statement c.args.s.now.at) c.in-For.is))

pub returned_in_block-loop-i-preserved : goal.returned_in_block-loop-i-preserved
returned_in_block-loop-i-preserved t c =
    let s = c.args.context.now.tables.now in
    let f = naming c.args.context.now in
    let k = c.args.context.now.known.now in
    let xs = c.args.all.now in
    let i = c.loop-i.i in
    let lt : i < length xs = omega arith in
    let q = place c.loop-i.scope in
    let a = statement c.index-all-i.result in
    let r = place c.returned.new.scope in
    let rest = statements (drop (i + 1) xs) in
    let hollow = sym c.in_ok-kind.ensures.value ∙ c.in_default.is in
    record {
      value = ap (λ z. given.all_returned s f k z rest) c.in_ok-kind.ensures.place
          ∙ sym (returned_step s f k q xs i c.index-all-i.result lt c.index-all-i.is ∙ ap (λ o. option_or o (given.all_returned s f k (given.after s f k q a) rest)) hollow)
          ∙ c.loop-i.invariant.value;
      here = further (place c.enter-mark.new.scope) q r c.loop-i.invariant.here (extends_to q (given.after s f k q a) r (after_extends s f k q a) c.in_ok-kind.ensures.place);
    }

pub returned_in_branch-returns-clause-place : goal.returned_in_branch-returns-clause-place
returned_in_branch-returns-clause-place t c =
    let s = c.args.context.now.tables.now in
    let f = naming c.args.context.now in
    let k = c.args.context.now.known.now in
    let p = place c.args.scope.now in
    let q = place c.enter-mark.new.scope in
    let r = place c.returned.new.scope in
    let a = statement c.args.s.now in
    closed p q r (place c.leave.new.scope) c.enter-mark.result.locals c.enter-mark.result.block
    c.enter-mark.ensures.place (extends_to q (given.after s f k q a) r (after_extends s f k q a) c.in_ok-kind.ensures.place) c.leave.ensures c.enter-mark.ensures.locals c.enter-mark.ensures.block

pub returned_in_loop-returns-in_ok-kind-in-ForOf-2-clause-value : goal.returned_in_loop-returns-in_ok-kind-in-ForOf-2-clause-value
returned_in_loop-returns-in_ok-kind-in-ForOf-2-clause-value t c =
    let s = c.args.context.now.tables.now in
    let f = naming c.args.context.now in
    let k = c.args.context.now.known.now in
    let p = place c.args.scope.now in
    let x = c.in-ForOf.name in
    let fixed = c.in-ForOf.fixed in
    let e = tree c.in-ForOf.list in
    let b = c.in-ForOf.body.value in
    let items = given.items_of (type_of s k p Free e) in
    let d = c.in_ok-declare-in-ForOf.ensures ∙ ap (λ o. with (place c.enter-mark-in-ForOf.new.scope) x o fixed) (c.items_of.ensures ∙ ap (given.items_of) c.in_ok-kind-in-ForOf.ensures)
    ∙ ap (λ q. with q x items fixed) c.enter-mark-in-ForOf.ensures.place in
    c.in_ok-kind-in-ForOf-2.ensures.value ∙ ap (λ q. given.returned s f k (inner q) (statement c.deref-in-ForOf.result.now)) d
    ∙ ap (λ a. given.returned s f k (inner (given.looped s k p fixed x e)) (statement a)) c.deref-in-ForOf.ensures
    ∙ sym (ap (given.returned s f k p) (ap (form_statement c.args.s.now.at) c.in-ForOf.is))
