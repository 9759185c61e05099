use Rattle.std.proofs.Common.{◌≡◌, ◌<◌, true, None, length, drop, refl, sym, ap, ◌∙◌, subst, arith}
use Rattle.std.proofs.lemmas.Grind.{common_steps}
use Rattle.std.proofs.lemmas.List.{drop-map}
use Rattle.std.specs.Prelude.{IfOk, OnOk, is_some, ◌&&◌, if◌then◌else◌}
use Rattle.sts_base.specs.declared.refused.Code.TheVariants.{Mismatch, BadHandler}
use Rattle.sts_syntax.specs.BoardViews.{board_parameter}
use Rattle.sts_syntax.specs.declared.trees.Body.{out-Body}
use Rattle.sts_syntax.specs.declared.trees.Form.TheVariants as f
use Rattle.sts_syntax.specs.Nesting.{nesting, deepest_tree, statement_nesting, routine_nesting}
use Rattle.sts_syntax.specs.Trees.{Member, Items, SuperCall, Block, Let, For, Does}
use Rattle.sts_syntax.specs.Views.{tree, trees, node_tree, routine, statement, statements, declarations, form_statement, optional_expression, optional_annotation, parameters}
use Rattle.sts_scope.specs.Failures.{Finds, ◌then◌, unless, RefusedWith}
use Rattle.sts_scope.specs.Rules.{operate, element, choose, assign, counted, prefix, is_boolean}
use Rattle.sts_scope.specs.Rules as rule
use Rattle.type_derive.specs.declared.roles.Role.TheVariants.{Free, Given}
use Rattle.type_derive.specs.Scopes.{place, naming}
use Rattle.type_derive.specs.Typing.{◌>>=◌, type_of, role_of, constant_of, board_callee, settable}
use Rattle.type_derive.proofs.Laws.{none_if, closed, extends_to, after_extends, block_is}
use Rattle.sts_scope.specs.Places.{inner}
use Rattle.sts_syntax.proofs.Laws.{routine_parts, let_statement}
use Rattle.type_check.specs.declared.seen.Seen.{Seen}
use Rattle.type_check.specs.Bounds.{optional_boxed}
use Rattle.type_check.specs.Seen.{is_served, is_test}
use Rattle.type_derive.specs.Nodes.{serves_itself}
use Rattle.type_check.proofs.Placed.{handler_own}
use Rattle.type_check.specs.Contexts.{failure, seen_of, taken, handler_failure, first_failure, optional_failure, statement_failure, after, after_first}
use Rattle.type_check.proofs.Forms.{unary_is, binary_is, item_is, choice_is, set_is, bump_is, member_is as member_form, items_is, call_is, super_call_is, make_is, handler_is, if_only_is, if_else_is, while_is, do_while_is, for_of_is}
use Rattle.type_check.proofs.Found.{trees_first, args_step, args_kept, kinds_more, untyped, constant_found, board_found, member_is, member_board, member_found, member_typed, member_constant, board_call_is, other_call_is, call_found, call_typed, make_found, make_typed, super_found, super_typed, items_found, items_typed}
use Rattle.type_check.proofs.Nested.{tree_within, statement_within, declaration_within}
use Rattle.type_check.proofs.Steps.{return_is, statements_kept, extends_after, for_is, for_step, for_of_step, returned_step, returned_found, first_extends}
use Rattle.std.proofs.lemmas.Result.{IfOk-from_err}
use Rattle.type_check.proofs.Handed.{handed, handed_first, past, nothing_in, owned, sees, on_ok, kind_seen, of_two, of_three, finds_as, sees_as, joined_finds, joined_sees, statement_finds_as, place_as}
use Rattle.type_check.proofs.failure.+walk.Goals as goal

pub expression-returns-in-Num : goal.expression-returns-in-Num
expression-returns-in-Num t c =
    let z = c.args.context.now in
    let p = place c.args.scope.now in
    let r = c.args.role in
    let is = ap (node_tree c.args.e.now.at) c.in-Num.is in
    record { found = ap (failure z p r) is; seen = c.always.ensures ∙ sym (ap (seen_of z p r) is) }

pub expression-returns-in-Text : goal.expression-returns-in-Text
expression-returns-in-Text t c =
    let z = c.args.context.now in
    let p = place c.args.scope.now in
    let r = c.args.role in
    let is = ap (node_tree c.args.e.now.at) c.in-Text.is in
    record { found = ap (failure z p r) is; seen = c.always-in-Text.ensures ∙ sym (ap (seen_of z p r) is) }

pub expression-returns-in-Truth : goal.expression-returns-in-Truth
expression-returns-in-Truth t c =
    let z = c.args.context.now in
    let p = place c.args.scope.now in
    let r = c.args.role in
    let is = ap (node_tree c.args.e.now.at) c.in-Truth.is in
    record { found = ap (failure z p r) is; seen = c.always-in-Truth.ensures ∙ sym (ap (seen_of z p r) is) }

pub expression-returns-in-Null : goal.expression-returns-in-Null
expression-returns-in-Null t c =
    let z = c.args.context.now in
    let p = place c.args.scope.now in
    let r = c.args.role in
    let is = ap (node_tree c.args.e.now.at) c.in-Null.is in
    record { found = ap (failure z p r) is; seen = c.always-in-Null.ensures ∙ sym (ap (seen_of z p r) is) }

pub expression-returns-in-This : goal.expression-returns-in-This
expression-returns-in-This t c =
    let z = c.args.context.now in
    let p = place c.args.scope.now in
    let r = c.args.role in
    let is = ap (node_tree c.args.e.now.at) c.in-This.is in
    record { found = finds_as z p r c.this_seen.result _ _ is c.this_seen.ensures.found; seen = sees_as z p r c.this_seen.result _ _ is c.this_seen.ensures.seen }

pub expression-returns-in-Name : goal.expression-returns-in-Name
expression-returns-in-Name t c =
    let z = c.args.context.now in
    let p = place c.args.scope.now in
    let r = c.args.role in
    let is = ap (node_tree c.args.e.now.at) c.in-Name.is in
    record { found = finds_as z p r c.name_seen.result _ _ is c.name_seen.ensures.found; seen = sees_as z p r c.name_seen.result _ _ is c.name_seen.ensures.seen }

pub expression-returns-in-Unary : goal.expression-returns-in-Unary
expression-returns-in-Unary t c =
    let z = c.args.context.now in
    let p = place c.args.scope.now in
    let r = c.args.role in
    let is = unary_is c.args.e.now c.in-Unary.op c.in-Unary.a c.deref.result.now c.in-Unary.is c.deref.ensures in
    record { found = finds_as z p r c.unary.result _ _ is c.unary.ensures.found; seen = sees_as z p r c.unary.result _ _ is c.unary.ensures.seen }

pub expression-returns-in-Binary : goal.expression-returns-in-Binary
expression-returns-in-Binary t c =
    let z = c.args.context.now in
    let p = place c.args.scope.now in
    let r = c.args.role in
    let is = binary_is c.args.e.now c.in-Binary.op c.in-Binary.a c.in-Binary.b c.deref-in-Binary.result.now c.deref-in-Binary-2.result.now c.in-Binary.is c.deref-in-Binary.ensures c.deref-in-Binary-2.ensures in
    record { found = finds_as z p r c.binary.result _ _ is c.binary.ensures.found; seen = sees_as z p r c.binary.result _ _ is c.binary.ensures.seen }

pub expression-returns-in-Both : goal.expression-returns-in-Both
expression-returns-in-Both t c =
    let z = c.args.context.now in
    let p = place c.args.scope.now in
    let x = c.deref-in-Both.result.now in
    let y = c.deref-in-Both-2.result.now in
    record {
      found = joined_finds z p c.args.role c.joined.result c.args.e.now c.in-Both.a c.in-Both.b x y c.in-Both.is c.deref-in-Both.ensures c.deref-in-Both-2.ensures c.joined.ensures.found;
      seen = joined_sees z p c.args.role c.joined.result c.args.e.now c.in-Both.a c.in-Both.b x y c.in-Both.is c.deref-in-Both.ensures c.deref-in-Both-2.ensures c.joined.ensures.seen;
    }

pub expression-returns-in-Item : goal.expression-returns-in-Item
expression-returns-in-Item t c =
    let z = c.args.context.now in
    let p = place c.args.scope.now in
    let r = c.args.role in
    let is = item_is c.args.e.now c.in-Item.a c.in-Item.i c.deref-in-Item.result.now c.deref-in-Item-2.result.now c.in-Item.is c.deref-in-Item.ensures c.deref-in-Item-2.ensures in
    record { found = finds_as z p r c.item.result _ _ is c.item.ensures.found; seen = sees_as z p r c.item.result _ _ is c.item.ensures.seen }

pub expression-returns-in-Choice : goal.expression-returns-in-Choice
expression-returns-in-Choice t c =
    let z = c.args.context.now in
    let p = place c.args.scope.now in
    let r = c.args.role in
    let is = choice_is c.args.e.now c.in-Choice.q c.in-Choice.a c.in-Choice.b c.deref-in-Choice.result.now c.deref-in-Choice-2.result.now c.deref-in-Choice-3.result.now c.in-Choice.is c.deref-in-Choice.ensures c.deref-in-Choice-2.ensures c.deref-in-Choice-3.ensures in
    record { found = finds_as z p r c.choice.result _ _ is c.choice.ensures.found; seen = sees_as z p r c.choice.result _ _ is c.choice.ensures.seen }

pub expression-returns-in-Set : goal.expression-returns-in-Set
expression-returns-in-Set t c =
    let z = c.args.context.now in
    let p = place c.args.scope.now in
    let r = c.args.role in
    let is = set_is c.args.e.now c.in-Set.op c.in-Set.x c.in-Set.a c.deref-in-Set.result.now c.deref-in-Set-2.result.now c.in-Set.is c.deref-in-Set.ensures c.deref-in-Set-2.ensures in
    record { found = finds_as z p r c.setting.result _ _ is c.setting.ensures.found; seen = sees_as z p r c.setting.result _ _ is c.setting.ensures.seen }

pub expression-returns-in-Bump : goal.expression-returns-in-Bump
expression-returns-in-Bump t c =
    let z = c.args.context.now in
    let p = place c.args.scope.now in
    let r = c.args.role in
    let is = bump_is c.args.e.now c.in-Bump.target c.in-Bump.by c.in-Bump.late c.deref-in-Bump.result.now c.in-Bump.is c.deref-in-Bump.ensures in
    record { found = finds_as z p r c.bumping.result _ _ is c.bumping.ensures.found; seen = sees_as z p r c.bumping.result _ _ is c.bumping.ensures.seen }

pub expression-returns-in-Member : goal.expression-returns-in-Member
expression-returns-in-Member t c =
    let z = c.args.context.now in
    let p = place c.args.scope.now in
    let r = c.args.role in
    let is = member_form c.args.e.now c.in-Member.a c.in-Member.m c.deref-in-Member.result.now c.in-Member.is c.deref-in-Member.ensures in
    record { found = finds_as z p r c.member.result _ _ is c.member.ensures.found; seen = sees_as z p r c.member.result _ _ is c.member.ensures.seen }

pub expression-member-requires : goal.expression-member-requires
expression-member-requires t c = (omega (arith, ap nesting (member_form c.args.e.now c.in-Member.a c.in-Member.m c.deref-in-Member.result.now c.in-Member.is c.deref-in-Member.ensures), c.decreases), member_form c.args.e.now c.in-Member.a c.in-Member.m c.deref-in-Member.result.now c.in-Member.is c.deref-in-Member.ensures)

pub expression-returns-in-Items : goal.expression-returns-in-Items
expression-returns-in-Items t c =
    let z = c.args.context.now in
    let p = place c.args.scope.now in
    let r = c.args.role in
    let is = items_is c.args.e.now c.in-Items.all c.as_slice.result.now c.in-Items.is c.as_slice.ensures in
    record { found = finds_as z p r c.items.result _ _ is c.items.ensures.found; seen = sees_as z p r c.items.result _ _ is c.items.ensures.seen }

pub expression-items-requires : goal.expression-items-requires
expression-items-requires t c = (omega (arith, ap nesting (items_is c.args.e.now c.in-Items.all c.as_slice.result.now c.in-Items.is c.as_slice.ensures), c.decreases), tt)

pub expression-returns-in-Call : goal.expression-returns-in-Call
expression-returns-in-Call t c =
    let z = c.args.context.now in
    let p = place c.args.scope.now in
    let r = c.args.role in
    let is = call_is c.args.e.now c.in-Call.f c.in-Call.args c.as_slice-in-Call.result.now c.deref-in-Call.result.now c.in-Call.is c.deref-in-Call.ensures c.as_slice-in-Call.ensures in
    record { found = finds_as z p r c.call.result _ _ is c.call.ensures.found; seen = sees_as z p r c.call.result _ _ is c.call.ensures.seen }

pub expression-call-requires : goal.expression-call-requires
expression-call-requires t c = (omega (arith, ap nesting (call_is c.args.e.now c.in-Call.f c.in-Call.args c.as_slice-in-Call.result.now c.deref-in-Call.result.now c.in-Call.is c.deref-in-Call.ensures c.as_slice-in-Call.ensures), c.decreases), tt)

pub expression-returns-in-SuperCall : goal.expression-returns-in-SuperCall
expression-returns-in-SuperCall t c =
    let z = c.args.context.now in
    let p = place c.args.scope.now in
    let r = c.args.role in
    let is = super_call_is c.args.e.now c.in-SuperCall.m c.in-SuperCall.args c.as_slice-in-SuperCall.result.now c.in-SuperCall.is c.as_slice-in-SuperCall.ensures in
    record { found = finds_as z p r c.super_call.result _ _ is c.super_call.ensures.found; seen = sees_as z p r c.super_call.result _ _ is c.super_call.ensures.seen }

pub expression-super_call-requires : goal.expression-super_call-requires
expression-super_call-requires t c = (omega (arith, ap nesting (super_call_is c.args.e.now c.in-SuperCall.m c.in-SuperCall.args c.as_slice-in-SuperCall.result.now c.in-SuperCall.is c.as_slice-in-SuperCall.ensures), c.decreases), tt)

pub expression-returns-in-Make : goal.expression-returns-in-Make
expression-returns-in-Make t c =
    let z = c.args.context.now in
    let p = place c.args.scope.now in
    let r = c.args.role in
    let is = make_is c.args.e.now c.in-Make.x c.in-Make.args c.as_slice-in-Make.result.now c.in-Make.is c.as_slice-in-Make.ensures in
    record { found = finds_as z p r c.make.result _ _ is c.make.ensures.found; seen = sees_as z p r c.make.result _ _ is c.make.ensures.seen }

pub expression-make-requires : goal.expression-make-requires
expression-make-requires t c = (omega (arith, ap nesting (make_is c.args.e.now c.in-Make.x c.in-Make.args c.as_slice-in-Make.result.now c.in-Make.is c.as_slice-in-Make.ensures), c.decreases), tt)

pub expression-returns-in-Handler : goal.expression-returns-in-Handler
expression-returns-in-Handler t c =
    let z = c.args.context.now in
    let p = place c.args.scope.now in
    let r = c.args.role in
    let is = handler_is c.args.e.now c.in-Handler.body c.deref-in-Handler.result.now c.in-Handler.is c.deref-in-Handler.ensures in
    record { found = finds_as z p r c.serving.result _ _ is c.serving.ensures.found; seen = sees_as z p r c.serving.result _ _ is c.serving.ensures.seen }

pub unary-returns : goal.unary-returns
unary-returns t c =
    let z = c.args.context.now in
    let p = place c.args.scope.now in
    let is = c.prefixed.ensures ∙ ap (λ q. q >>= λ v. prefix c.args.op v) (kind_seen z p Free c.in_ok-s.s c.args.a.now c.in_ok-s.ensures.seen) in
    record { found = past c.own.result _ _ c.in_ok-s.ensures.found (owned c.own.result _ _ Mismatch c.args.at is c.own.ensures.found); seen = sees c.own.result _ _ is c.own.ensures.seen }

pub unary-returns-in_err-s : goal.unary-returns-in_err-s
unary-returns-in_err-s t c = record { found = handed_first c.from_residual.result c.in_err-s.field-0.0 _ _ c.from_residual.ensures c.in_err-s.ensures.found; seen = IfOk-from_err c.from_residual.result _ c.from_residual.ensures.0 }

pub binary-returns : goal.binary-returns
binary-returns t c =
    let z = c.args.context.now in
    let p = place c.args.scope.now in
    let is = c.operated.ensures ∙ of_two (operate z.known.now.classes c.args.op) _ _ _ _ (kind_seen z p Free c.in_ok-s.s c.args.a.now c.in_ok-s.ensures.seen) (kind_seen z p Free c.in_ok-u.u c.args.b.now c.in_ok-u.ensures.seen) in
    record { found = past c.own.result _ _ c.in_ok-s.ensures.found (past c.own.result _ _ c.in_ok-u.ensures.found (owned c.own.result _ _ Mismatch c.args.at is c.own.ensures.found)); seen = sees c.own.result _ _ is c.own.ensures.seen }

pub joined-returns : goal.joined-returns
joined-returns t c =
    let z = c.args.context.now in
    let p = place c.args.scope.now in
    let is = c.both.ensures ∙ of_two rule.joined _ _ _ _ (kind_seen z p Free c.in_ok-s.s c.args.a.now c.in_ok-s.ensures.seen) (kind_seen z p Free c.in_ok-u.u c.args.b.now c.in_ok-u.ensures.seen) in
    record { found = past c.own.result _ _ c.in_ok-s.ensures.found (past c.own.result _ _ c.in_ok-u.ensures.found (owned c.own.result _ _ Mismatch c.args.at is c.own.ensures.found)); seen = sees c.own.result _ _ is c.own.ensures.seen }

pub item-returns : goal.item-returns
item-returns t c =
    let z = c.args.context.now in
    let p = place c.args.scope.now in
    let is = c.indexed.ensures ∙ of_two element _ _ _ _ (kind_seen z p Free c.in_ok-s.s c.args.a.now c.in_ok-s.ensures.seen) (kind_seen z p Free c.in_ok-u.u c.args.i.now c.in_ok-u.ensures.seen) in
    record { found = past c.own.result _ _ c.in_ok-s.ensures.found (past c.own.result _ _ c.in_ok-u.ensures.found (owned c.own.result _ _ Mismatch c.args.at is c.own.ensures.found)); seen = sees c.own.result _ _ is c.own.ensures.seen }

pub binary-returns-in_err-s : goal.binary-returns-in_err-s
binary-returns-in_err-s t c = record { found = handed_first c.from_residual.result c.in_err-s.field-0.0 _ _ c.from_residual.ensures c.in_err-s.ensures.found; seen = IfOk-from_err c.from_residual.result _ c.from_residual.ensures.0 }

pub binary-returns-in_err-u : goal.binary-returns-in_err-u
binary-returns-in_err-u t c = record { found = past c.from_residual-in_err-u.result _ _ c.in_ok-s.ensures.found (handed_first c.from_residual-in_err-u.result c.in_err-u.field-0.0 _ _ c.from_residual-in_err-u.ensures c.in_err-u.ensures.found); seen = IfOk-from_err c.from_residual-in_err-u.result _ c.from_residual-in_err-u.ensures.0 }

pub joined-returns-in_err-s : goal.joined-returns-in_err-s
joined-returns-in_err-s t c = record { found = handed_first c.from_residual.result c.in_err-s.field-0.0 _ _ c.from_residual.ensures c.in_err-s.ensures.found; seen = IfOk-from_err c.from_residual.result _ c.from_residual.ensures.0 }

pub joined-returns-in_err-u : goal.joined-returns-in_err-u
joined-returns-in_err-u t c = record { found = past c.from_residual-in_err-u.result _ _ c.in_ok-s.ensures.found (handed_first c.from_residual-in_err-u.result c.in_err-u.field-0.0 _ _ c.from_residual-in_err-u.ensures c.in_err-u.ensures.found); seen = IfOk-from_err c.from_residual-in_err-u.result _ c.from_residual-in_err-u.ensures.0 }

pub item-returns-in_err-s : goal.item-returns-in_err-s
item-returns-in_err-s t c = record { found = handed_first c.from_residual.result c.in_err-s.field-0.0 _ _ c.from_residual.ensures c.in_err-s.ensures.found; seen = IfOk-from_err c.from_residual.result _ c.from_residual.ensures.0 }

pub item-returns-in_err-u : goal.item-returns-in_err-u
item-returns-in_err-u t c = record { found = past c.from_residual-in_err-u.result _ _ c.in_ok-s.ensures.found (handed_first c.from_residual-in_err-u.result c.in_err-u.field-0.0 _ _ c.from_residual-in_err-u.ensures c.in_err-u.ensures.found); seen = IfOk-from_err c.from_residual-in_err-u.result _ c.from_residual-in_err-u.ensures.0 }

pub choice-returns : goal.choice-returns
choice-returns t c =
    let z = c.args.context.now in
    let p = place c.args.scope.now in
    let is = c.chosen.ensures ∙ of_three (choose z.known.now.classes) _ _ _ _ _ _ (kind_seen z p Free c.in_ok-v.v c.args.q.now c.in_ok-v.ensures.seen) (kind_seen z p Free c.in_ok-s.s c.args.a.now c.in_ok-s.ensures.seen) (kind_seen z p Free c.in_ok-u.u c.args.b.now c.in_ok-u.ensures.seen) in
    record { found = past c.own.result _ _ c.in_ok-v.ensures.found (past c.own.result _ _ c.in_ok-s.ensures.found (past c.own.result _ _ c.in_ok-u.ensures.found (owned c.own.result _ _ Mismatch c.args.at is c.own.ensures.found))); seen = sees c.own.result _ _ is c.own.ensures.seen }

pub choice-returns-in_err-v : goal.choice-returns-in_err-v
choice-returns-in_err-v t c = record { found = handed_first c.from_residual.result c.in_err-v.field-0.0 _ _ c.from_residual.ensures c.in_err-v.ensures.found; seen = IfOk-from_err c.from_residual.result _ c.from_residual.ensures.0 }

pub choice-returns-in_err-s : goal.choice-returns-in_err-s
choice-returns-in_err-s t c = record { found = past c.from_residual-in_err-s.result _ _ c.in_ok-v.ensures.found (handed_first c.from_residual-in_err-s.result c.in_err-s.field-0.0 _ _ c.from_residual-in_err-s.ensures c.in_err-s.ensures.found); seen = IfOk-from_err c.from_residual-in_err-s.result _ c.from_residual-in_err-s.ensures.0 }

pub choice-returns-in_err-u : goal.choice-returns-in_err-u
choice-returns-in_err-u t c = record { found = past c.from_residual-in_err-u.result _ _ c.in_ok-v.ensures.found (past c.from_residual-in_err-u.result _ _ c.in_ok-s.ensures.found (handed_first c.from_residual-in_err-u.result c.in_err-u.field-0.0 _ _ c.from_residual-in_err-u.ensures c.in_err-u.ensures.found)); seen = IfOk-from_err c.from_residual-in_err-u.result _ c.from_residual-in_err-u.ensures.0 }

pub setting-returns : goal.setting-returns
setting-returns t c =
    let z = c.args.context.now in
    let p = place c.args.scope.now in
    let is = c.set_kind.ensures ∙ ap (λ b. c.in_ok-u.u.kind >>= λ v. c.in_ok-s.s.kind >>= λ w. if b then assign z.known.now.classes c.args.op v w else None) c.settable-can.ensures
    ∙ of_two (λ v w. if settable z.tables.now z.known.now p (tree c.args.x.now) then assign z.known.now.classes c.args.op v w else None) _ _ _ _ (kind_seen z p Free c.in_ok-u.u c.args.x.now c.in_ok-u.ensures.seen) (kind_seen z p Given c.in_ok-s.s c.args.a.now c.in_ok-s.ensures.seen) in
    record { found = past c.own.result _ _ c.in_ok-u.ensures.found (past c.own.result _ _ c.in_ok-s.ensures.found (owned c.own.result _ _ Mismatch c.args.at is c.own.ensures.found)); seen = sees c.own.result _ _ is c.own.ensures.seen }

pub setting-returns-in_err-u : goal.setting-returns-in_err-u
setting-returns-in_err-u t c = record { found = handed_first c.from_residual.result c.in_err-u.field-0.0 _ _ c.from_residual.ensures c.in_err-u.ensures.found; seen = IfOk-from_err c.from_residual.result _ c.from_residual.ensures.0 }

pub setting-returns-in_err-s : goal.setting-returns-in_err-s
setting-returns-in_err-s t c = record { found = past c.from_residual-in_err-s.result _ _ c.in_ok-u.ensures.found (handed_first c.from_residual-in_err-s.result c.in_err-s.field-0.0 _ _ c.from_residual-in_err-s.ensures c.in_err-s.ensures.found); seen = IfOk-from_err c.from_residual-in_err-s.result _ c.from_residual-in_err-s.ensures.0 }

pub bumping-returns : goal.bumping-returns
bumping-returns t c =
    let z = c.args.context.now in
    let p = place c.args.scope.now in
    let is = c.bump_kind.ensures ∙ ap (λ b. c.in_ok-u.u.kind >>= λ v. if b then counted v else None) c.settable-can.ensures
    ∙ ap (λ q. q >>= λ v. if settable z.tables.now z.known.now p (tree c.args.x.now) then counted v else None) (kind_seen z p Free c.in_ok-u.u c.args.x.now c.in_ok-u.ensures.seen) in
    record { found = past c.own.result _ _ c.in_ok-u.ensures.found (owned c.own.result _ _ Mismatch c.args.at is c.own.ensures.found); seen = sees c.own.result _ _ is c.own.ensures.seen }

pub bumping-returns-in_err-u : goal.bumping-returns-in_err-u
bumping-returns-in_err-u t c = record { found = handed_first c.from_residual.result c.in_err-u.field-0.0 _ _ c.from_residual.ensures c.in_err-u.ensures.found; seen = IfOk-from_err c.from_residual.result _ c.from_residual.ensures.0 }

pub member-returns-then-is_some-2-clause-seen : goal.member-returns-then-is_some-2-clause-seen
member-returns-then-is_some-2-clause-seen t c =
    let z = c.args.context.now in
    let p = place c.args.scope.now in
    let at = c.args.e.now.at in
    let a = tree c.args.a.now in
    let hc : constant_of z.tables.now z.known.now p a c.args.m ≡ None = none_if _ _ (c.is_some.ensures ∙ ap is_some c.constant.ensures) c.if-is_some.false in
    let hb : is_some (board_callee z.tables.now z.known.now p (Member at a c.args.m)) ≡ true = ap is_some (sym (c.board_callee.ensures ∙ ap (board_callee z.tables.now z.known.now p) c.requires.whole)) ∙ sym c.is_some-2.ensures ∙ c.if-is_some-2.true in
    member_board z p c.args.role at c.args.m a c.plain.result c.plain.ensures hc (untyped z.tables.now z.known.now p at c.args.m a hb)

pub member-returns : goal.member-returns
member-returns t c =
    let z = c.args.context.now in
    let p = place c.args.scope.now in
    let at = c.args.e.now.at in
    let a = tree c.args.a.now in
    let hc : constant_of z.tables.now z.known.now p a c.args.m ≡ None = none_if _ _ (c.is_some.ensures ∙ ap is_some c.constant.ensures) c.if-is_some.false in
    let hb : board_callee z.tables.now z.known.now p (Member at a c.args.m) ≡ None = none_if _ _ (c.is_some-2.ensures ∙ ap is_some (c.board_callee.ensures ∙ ap (board_callee z.tables.now z.known.now p) c.requires.whole)) c.if-is_some-2.false in
    record {
      found = member_found z p c.args.role at c.args.m a c.in_ok-s.s.kind c.member_seen.result hc hb c.in_ok-s.ensures.found (kind_seen z p Free c.in_ok-s.s c.args.a.now c.in_ok-s.ensures.seen) c.member_seen.ensures.found;
      seen = member_typed z p c.args.role at c.args.m a c.in_ok-s.s.kind c.member_seen.result hc (kind_seen z p Free c.in_ok-s.s c.args.a.now c.in_ok-s.ensures.seen) c.member_seen.ensures.seen;
    }

pub member-returns-in_err-s : goal.member-returns-in_err-s
member-returns-in_err-s t c =
    let z = c.args.context.now in
    let p = place c.args.scope.now in
    let at = c.args.e.now.at in
    let a = tree c.args.a.now in
    let hc : constant_of z.tables.now z.known.now p a c.args.m ≡ None = none_if _ _ (c.is_some.ensures ∙ ap is_some c.constant.ensures) c.if-is_some.false in
    let hb : board_callee z.tables.now z.known.now p (Member at a c.args.m) ≡ None = none_if _ _ (c.is_some-2.ensures ∙ ap is_some (c.board_callee.ensures ∙ ap (board_callee z.tables.now z.known.now p) c.requires.whole)) c.if-is_some-2.false in
    record {
      found = subst (Finds c.from_residual-in_err-s.result) (sym (member_is z p c.args.role at c.args.m a hc hb)) (handed_first c.from_residual-in_err-s.result c.in_err-s.field-0.0 _ _ c.from_residual-in_err-s.ensures c.in_err-s.ensures.found);
      seen = IfOk-from_err c.from_residual-in_err-s.result _ c.from_residual-in_err-s.ensures.0;
    }

pub serving-returns-in_err-serves : goal.serving-returns-in_err-serves
serving-returns-in_err-serves t c = record { found = handed_first c.from_residual.result c.in_err-serves.field-0.0 _ _ c.from_residual.ensures c.in_err-serves.ensures.found; seen = IfOk-from_err c.from_residual.result _ c.from_residual.ensures.0 }

pub serving-returns-in_err-unless : goal.serving-returns-in_err-unless
serving-returns-in_err-unless t c =
    let eq = c.serves_there.ensures ∙ ap (λ q. is_served c.args.role && q) c.in_ok-serves.ensures.serves in
    let own_so = handler_own c.args.context.now (place c.args.scope.now) c.args.role c.args.at (routine c.args.body.now) in
    record {
      found = past c.from_residual-in_err-unless.result _ _ c.in_ok-serves.ensures.found (subst (Finds c.from_residual-in_err-unless.result) (ap (λ b. unless b BadHandler c.args.at) eq ∙ sym own_so) (handed c.from_residual-in_err-unless.result c.in_err-unless.field-0.0 _ c.from_residual-in_err-unless.ensures c.in_err-unless.ensures));
      seen = IfOk-from_err c.from_residual-in_err-unless.result _ c.from_residual-in_err-unless.ensures.0;
    }

pub serving-returns : goal.serving-returns
serving-returns t c =
    let eq = c.serves_there.ensures ∙ ap (λ q. is_served c.args.role && q) c.in_ok-serves.ensures.serves in
    let own_so = handler_own c.args.context.now (place c.args.scope.now) c.args.role c.args.at (routine c.args.body.now) in
    record { found = nothing_in _ _ c.in_ok-serves.ensures.found (own_so ∙ ap (λ b. unless b BadHandler c.args.at) (sym eq) ∙ c.in_ok-unless.ensures); seen = c.plain.ensures }

pub kinds_of-expression-requires : goal.kinds_of-expression-requires
kinds_of-expression-requires t c = (omega (arith, tree_within c.args.all.now c.loop-i.i c.index-all-i.result (omega arith) c.index-all-i.is, c.decreases), tt)

pub statements-statement-requires : goal.statements-statement-requires
statements-statement-requires t c = (omega (arith, statement_within c.args.all.now c.loop-i.i c.index-all-i.result (omega arith) c.index-all-i.is, c.decreases), tt)

pub declarations_failure-declaration_failure-requires : goal.declarations_failure-declaration_failure-requires
declarations_failure-declaration_failure-requires t c = (omega (arith, declaration_within c.args.each.now c.loop-i.i c.index-each-i.result (omega arith) c.index-each-i.is, c.decreases), tt)

pub items-expression-requires : goal.items-expression-requires
items-expression-requires t c = (omega (arith, ap deepest_tree (trees_first c.args.all.now c.first-item.result c.in-len1-up.len_at_least c.first-item.is), c.decreases), tt)

pub call-returns-in_ok-kinds-in-None-clause-found : goal.call-returns-in_ok-kinds-in-None-clause-found
call-returns-in_ok-kinds-in-None-clause-found t c =
    let z = c.args.context.now in
    let t' = z.tables.now in
    let k = z.known.now in
    let p = place c.args.scope.now in
    call_found z p c.args.role c.args.at (tree c.args.f.now) (trees c.args.args.now) _ c.as_slice-in-None.result.now c.call_seen.result (sym c.board_callee.ensures ∙ c.in-None.is)
    c.in_ok-s-in-None.ensures.found c.in_ok-kinds-in-None.ensures.found c.callee-called.ensures (c.as_slice-in-None.ensures ∙ c.in_ok-kinds-in-None.ensures.kinds) c.call_seen.ensures.found

pub call-returns-in_ok-kinds-in-None-clause-seen : goal.call-returns-in_ok-kinds-in-None-clause-seen
call-returns-in_ok-kinds-in-None-clause-seen t c =
    let z = c.args.context.now in
    let t' = z.tables.now in
    let k = z.known.now in
    let p = place c.args.scope.now in
    call_typed z p c.args.role c.args.at (tree c.args.f.now) (trees c.args.args.now) _ c.as_slice-in-None.result.now c.call_seen.result (sym c.board_callee.ensures ∙ c.in-None.is)
    c.callee-called.ensures (c.as_slice-in-None.ensures ∙ c.in_ok-kinds-in-None.ensures.kinds) c.call_seen.ensures.seen

pub make-returns-clause-found : goal.make-returns-clause-found
make-returns-clause-found t c =
    let z = c.args.context.now in
    let t' = z.tables.now in
    let k = z.known.now in
    let p = place c.args.scope.now in
    make_found z p c.args.role c.args.at c.args.x (trees c.args.args.now) c.as_slice.result.now c.make_seen.result c.in_ok-kinds.ensures.found (c.as_slice.ensures ∙ c.in_ok-kinds.ensures.kinds) c.make_seen.ensures.found

pub make-returns-clause-seen : goal.make-returns-clause-seen
make-returns-clause-seen t c =
    let z = c.args.context.now in
    let t' = z.tables.now in
    let k = z.known.now in
    let p = place c.args.scope.now in
    make_typed z p c.args.role c.args.at c.args.x (trees c.args.args.now) c.as_slice.result.now c.make_seen.result (c.as_slice.ensures ∙ c.in_ok-kinds.ensures.kinds) c.make_seen.ensures.seen

pub super_call-returns-clause-found : goal.super_call-returns-clause-found
super_call-returns-clause-found t c =
    let z = c.args.context.now in
    let t' = z.tables.now in
    let k = z.known.now in
    let p = place c.args.scope.now in
    subst (λ o. Finds c.super_call_seen.result (failure z p c.args.role (SuperCall c.args.at o (trees c.args.args.now)))) (sym c.in-Some.is)
    (super_found z p c.args.role c.args.at c.in-Some.m (trees c.args.args.now) c.as_slice.result.now c.super_call_seen.result c.in_ok-kinds.ensures.found (c.as_slice.ensures ∙ c.in_ok-kinds.ensures.kinds) c.super_call_seen.ensures.found)

pub super_call-returns-clause-seen : goal.super_call-returns-clause-seen
super_call-returns-clause-seen t c =
    let z = c.args.context.now in
    let t' = z.tables.now in
    let k = z.known.now in
    let p = place c.args.scope.now in
    subst (λ o. IfOk c.super_call_seen.result (λ s. s ≡ seen_of z p c.args.role (SuperCall c.args.at o (trees c.args.args.now)))) (sym c.in-Some.is)
    (super_typed z p c.args.role c.args.at c.in-Some.m (trees c.args.args.now) c.as_slice.result.now c.super_call_seen.result (c.as_slice.ensures ∙ c.in_ok-kinds.ensures.kinds) c.super_call_seen.ensures.seen)

pub items-returns-in_ok-kinds-in-len1-up-clause-found : goal.items-returns-in_ok-kinds-in-len1-up-clause-found
items-returns-in_ok-kinds-in-len1-up-clause-found t c =
    let z = c.args.context.now in
    let t' = z.tables.now in
    let k = z.known.now in
    let p = place c.args.scope.now in
    subst (λ x. Finds c.items_seen.result (failure z p c.args.role (Items c.args.at x))) (sym (trees_first c.args.all.now c.first-item.result c.in-len1-up.len_at_least c.first-item.is))
    (items_found z p c.args.role c.args.at (tree c.first-item.result) (trees (drop 1 c.args.all.now)) c.in_ok-s-in-len1-up.s.kind c.as_slice.result.now c.items_seen.result
    c.in_ok-s-in-len1-up.ensures.found c.in_ok-kinds-in-len1-up.ensures.found (ap (λ (q : Seen). q.kind) c.in_ok-s-in-len1-up.ensures.seen) (c.as_slice.ensures ∙ c.in_ok-kinds-in-len1-up.ensures.kinds) c.items_seen.ensures.found)

pub items-returns-in_ok-kinds-in-len1-up-clause-seen : goal.items-returns-in_ok-kinds-in-len1-up-clause-seen
items-returns-in_ok-kinds-in-len1-up-clause-seen t c =
    let z = c.args.context.now in
    let t' = z.tables.now in
    let k = z.known.now in
    let p = place c.args.scope.now in
    subst (λ x. IfOk c.items_seen.result (λ s. s ≡ seen_of z p c.args.role (Items c.args.at x))) (sym (trees_first c.args.all.now c.first-item.result c.in-len1-up.len_at_least c.first-item.is))
    (items_typed z p c.args.role c.args.at (tree c.first-item.result) (trees (drop 1 c.args.all.now)) c.in_ok-s-in-len1-up.s.kind c.as_slice.result.now c.items_seen.result
    (ap (λ (q : Seen). q.kind) c.in_ok-s-in-len1-up.ensures.seen) (c.as_slice.ensures ∙ c.in_ok-kinds-in-len1-up.ensures.kinds) c.items_seen.ensures.seen)

pub kinds_of-returns-in_err-s-clause-found : goal.kinds_of-returns-in_err-s-clause-found
kinds_of-returns-in_err-s-clause-found t c =
    let z = c.args.context.now in
    let t' = z.tables.now in
    let k = z.known.now in
    let p = place c.args.scope.now in
    let i = c.loop-i.i in
    let lt : i < length c.args.all.now = omega arith in
    let r = c.role_at.ensures ∙ ap role_of (sym (drop-map board_parameter i c.taken-takes.result.now) ∙ ap (drop i) c.taken-takes.ensures) in
    let s = sym c.loop-i.invariant.found ∙ args_step z p (taken c.args.board) c.args.all.now i c.index-all-i.result c.role_at.result lt c.index-all-i.is r in
    subst (Finds c.from_residual.result) (sym s) (grind (arith, common_steps))

pub kinds_of-loop-i-preserved : goal.kinds_of-loop-i-preserved
kinds_of-loop-i-preserved t c =
    let z = c.args.context.now in
    let t' = z.tables.now in
    let k = z.known.now in
    let p = place c.args.scope.now in
    let i = c.loop-i.i in
    let lt : i < length c.args.all.now = omega arith in
    let r = c.role_at.ensures ∙ ap role_of (sym (drop-map board_parameter i c.taken-takes.result.now) ∙ ap (drop i) c.taken-takes.ensures) in
    record {
      found = args_kept z p (taken c.args.board) c.args.all.now i c.index-all-i.result c.role_at.result _ lt c.index-all-i.is r c.in_ok-s.ensures.found c.loop-i.invariant.found;
      kinds = kinds_more z p (taken c.args.board) c.args.all.now i c.index-all-i.result c.role_at.result c.in_ok-s.s c.loop-i.kinds c.add.new.kinds _ lt c.index-all-i.is r
          c.in_ok-s.ensures.seen c.in_ok-add.ensures.ok c.loop-i.invariant.kinds;
    }

pub handler-returns-clause-found : goal.handler-returns-clause-found
handler-returns-clause-found t c =
    let z = c.args.context.now in
    let p = place c.args.scope.now in
    ap (handler_failure z p) (routine_parts c.args.body.now) ∙ grind (arith, common_steps)

pub handler-returns-clause-serves : goal.handler-returns-clause-serves
handler-returns-clause-serves t c =
    let z = c.args.context.now in
    let p = place c.args.scope.now in
    let b = out-Body c.args.body.now in
    let is : c.may_serve.result ≡ serves_itself z.tables.now (naming z) z.known.now p (Does b.at (parameters b.params) (optional_annotation b.gives) (statements b.stmts) b.arrow) = grind (arith, common_steps) in
    is ∙ sym (ap (serves_itself z.tables.now (naming z) z.known.now p) (routine_parts c.args.body.now))

pub handler-returns-in_err-check_parameter_types-clause-found : goal.handler-returns-in_err-check_parameter_types-clause-found
handler-returns-in_err-check_parameter_types-clause-found t c =
    let z = c.args.context.now in
    let p = place c.args.scope.now in
    subst (Finds c.from_residual.result) (sym (ap (handler_failure z p) (routine_parts c.args.body.now))) (grind (arith, common_steps))

pub handler-returns-in_err-check_written-clause-found : goal.handler-returns-in_err-check_written-clause-found
handler-returns-in_err-check_written-clause-found t c =
    let z = c.args.context.now in
    let p = place c.args.scope.now in
    subst (Finds c.from_residual-in_err-check_written.result) (sym (ap (handler_failure z p) (routine_parts c.args.body.now))) (grind (arith, common_steps))

pub handler-returns-in_err-statements-clause-found : goal.handler-returns-in_err-statements-clause-found
handler-returns-in_err-statements-clause-found t c =
    let z = c.args.context.now in
    let p = place c.args.scope.now in
    subst (Finds c.from_residual-in_err-statements.result) (sym (ap (handler_failure z p) (routine_parts c.args.body.now))) (grind (arith, common_steps))

pub handler-returns-in_err-check_parameter_types-clause-serves : goal.handler-returns-in_err-check_parameter_types-clause-serves
handler-returns-in_err-check_parameter_types-clause-serves t c = IfOk-from_err c.from_residual.result _ c.from_residual.ensures.0

pub handler-returns-in_err-check_written-clause-serves : goal.handler-returns-in_err-check_written-clause-serves
handler-returns-in_err-check_written-clause-serves t c = IfOk-from_err c.from_residual-in_err-check_written.result _ c.from_residual-in_err-check_written.ensures.0

pub handler-returns-in_err-gives-clause-serves : goal.handler-returns-in_err-gives-clause-serves
handler-returns-in_err-gives-clause-serves t c = IfOk-from_err c.from_residual-in_err-gives.result _ c.from_residual-in_err-gives.ensures.0

pub handler-returns-in_err-inside-clause-serves : goal.handler-returns-in_err-inside-clause-serves
handler-returns-in_err-inside-clause-serves t c = IfOk-from_err c.from_residual-in_err-inside.result _ c.from_residual-in_err-inside.ensures.0

pub handler-returns-in_err-statements-clause-serves : goal.handler-returns-in_err-statements-clause-serves
handler-returns-in_err-statements-clause-serves t c = IfOk-from_err c.from_residual-in_err-statements.result _ c.from_residual-in_err-statements.ensures.0

pub statements-loop-i-preserved : goal.statements-loop-i-preserved
statements-loop-i-preserved t c =
    let z = c.args.context.now in
    let all = c.args.all.now in
    let i = c.loop-i.i in
    let lt : i < length all = omega arith in
    let q = place c.loop-i.scope in
    let r = place c.statement.new.scope in
    record {
      found = statements_kept z q r all i c.index-all-i.result _ lt c.index-all-i.is c.in_ok-statement.ensures.found c.in_ok-statement.ensures.place c.loop-i.invariant.found;
      here = extends_after z (place c.args.scope.now) q r (statement c.index-all-i.result) c.loop-i.invariant.here c.in_ok-statement.ensures.place;
    }

pub nested-returns-clause-place : goal.nested-returns-clause-place
nested-returns-clause-place t c =
    let z = c.args.context.now in
    let p = place c.args.scope.now in
    let q = place c.enter-mark.new.scope in
    let r = place c.statement.new.scope in
    let a = statement c.args.s.now in
    closed p q r (place c.leave.new.scope) c.enter-mark.result.locals c.enter-mark.result.block
    c.enter-mark.ensures.place (extends_to q (after z q a) r (after_extends z.tables.now (naming z) z.known.now q a) c.in_ok-statement.ensures.place)
    c.leave.ensures c.enter-mark.ensures.locals c.enter-mark.ensures.block

pub for_loop-returns-clause-place : goal.for_loop-returns-clause-place
for_loop-returns-clause-place t c =
    let z = c.args.context.now in
    let p = place c.args.scope.now in
    let q = place c.enter-mark.new.scope in
    let r = place c.first_of.new.scope in
    let s = place c.nested.new.scope in
    closed p q s (place c.leave.new.scope) c.enter-mark.result.locals c.enter-mark.result.block
    c.enter-mark.ensures.place (extends_to q r s (first_extends z q q r (optional_boxed c.args.turns.first.now) refl c.in_ok-first_of.ensures.place) c.in_ok-nested.ensures.place)
    c.leave.ensures c.enter-mark.ensures.locals c.enter-mark.ensures.block

pub for_of-returns-clause-found : goal.for_of-returns-clause-found
for_of-returns-clause-found t c =
    let z = c.args.context.now in
    let p = place c.args.scope.now in
    for_of_step z p (place c.enter_loop.new.scope) c.args.at c.args.each.name c.args.each.fixed (tree c.args.each.list.now) (statement c.args.a.now) c.in_ok-s.s.kind
    c.in_ok-s.ensures.found (ap (λ (y : Seen). y.kind) c.in_ok-s.ensures.seen) c.in_ok-mark.ensures.place
    ∙ grind (arith, common_steps)

pub for_of-returns-in_err-nested-clause-found : goal.for_of-returns-in_err-nested-clause-found
for_of-returns-in_err-nested-clause-found t c =
    let z = c.args.context.now in
    let p = place c.args.scope.now in
    subst (Finds c.from_residual-in_err-nested.result) (sym (for_of_step z p (place c.enter_loop.new.scope) c.args.at c.args.each.name c.args.each.fixed (tree c.args.each.list.now) (statement c.args.a.now) c.in_ok-s.s.kind
    c.in_ok-s.ensures.found (ap (λ (y : Seen). y.kind) c.in_ok-s.ensures.seen) c.in_ok-mark.ensures.place)) (grind (arith, common_steps))

pub for_of-returns-in_err-unless-clause-found : goal.for_of-returns-in_err-unless-clause-found
for_of-returns-in_err-unless-clause-found t c =
    let z = c.args.context.now in
    let p = place c.args.scope.now in
    subst (Finds c.from_residual-in_err-unless.result) (sym (for_of_step z p (place c.enter_loop.new.scope) c.args.at c.args.each.name c.args.each.fixed (tree c.args.each.list.now) (statement c.args.a.now) c.in_ok-s.s.kind
    c.in_ok-s.ensures.found (ap (λ (y : Seen). y.kind) c.in_ok-s.ensures.seen) c.in_ok-mark.ensures.place)) (grind (arith, common_steps))

pub returned-returns : goal.returned-returns
returned-returns t c =
    let z = c.args.context.now in
    let p = place c.args.scope.now in
    returned_found z p c.args.at (tree c.args.e.now) c.kind_role.result c.in_ok-s.s.kind c.fits.result c.unless.result c.kind_role.ensures
    c.in_ok-s.ensures.found (ap (λ (y : Seen). y.kind) c.in_ok-s.ensures.seen) c.fits.ensures c.unless.ensures

pub returned-returns-in_err-s : goal.returned-returns-in_err-s
returned-returns-in_err-s t c =
    let z = c.args.context.now in
    let p = place c.args.scope.now in
    subst (Finds c.from_residual.result) (sym (returned_step z p c.args.at (tree c.args.e.now) c.kind_role.result c.kind_role.ensures)) (grind (arith, common_steps))

pub member-returns-in_err-unless-clause-seen : goal.member-returns-in_err-unless-clause-seen
member-returns-in_err-unless-clause-seen t c = IfOk-from_err c.from_residual.result _ c.from_residual.ensures.0

pub kinds_of-returns-in_err-s-clause-kinds : goal.kinds_of-returns-in_err-s-clause-kinds
kinds_of-returns-in_err-s-clause-kinds t c = IfOk-from_err c.from_residual.result _ c.from_residual.ensures.0

pub kinds_of-returns-in_err-add-clause-kinds : goal.kinds_of-returns-in_err-add-clause-kinds
kinds_of-returns-in_err-add-clause-kinds t c = IfOk-from_err c.from_residual-in_err-add.result _ c.from_residual-in_err-add.ensures.0

pub super_call-returns-in_err-kinds-clause-seen : goal.super_call-returns-in_err-kinds-clause-seen
super_call-returns-in_err-kinds-clause-seen t c = IfOk-from_err c.from_residual.result _ c.from_residual.ensures.0

pub statements-returns-in_err-statement-clause-place : goal.statements-returns-in_err-statement-clause-place
statements-returns-in_err-statement-clause-place t c = IfOk-from_err c.from_residual.result _ c.from_residual.ensures.0

pub nested-returns-in_err-statement-clause-place : goal.nested-returns-in_err-statement-clause-place
nested-returns-in_err-statement-clause-place t c = IfOk-from_err c.from_residual.result _ c.from_residual.ensures.0

pub block-returns-in_err-statements-clause-place : goal.block-returns-in_err-statements-clause-place
block-returns-in_err-statements-clause-place t c = IfOk-from_err c.from_residual.result _ c.from_residual.ensures.0

pub for_of-returns-in_err-s-clause-place : goal.for_of-returns-in_err-s-clause-place
for_of-returns-in_err-s-clause-place t c = IfOk-from_err c.from_residual.result _ c.from_residual.ensures.0

pub for_of-returns-in_err-mark-clause-place : goal.for_of-returns-in_err-mark-clause-place
for_of-returns-in_err-mark-clause-place t c = IfOk-from_err c.from_residual-in_err-mark.result _ c.from_residual-in_err-mark.ensures.0

pub for_of-returns-in_err-nested-clause-place : goal.for_of-returns-in_err-nested-clause-place
for_of-returns-in_err-nested-clause-place t c = IfOk-from_err c.from_residual-in_err-nested.result _ c.from_residual-in_err-nested.ensures.0

pub for_of-returns-in_err-unless-clause-place : goal.for_of-returns-in_err-unless-clause-place
for_of-returns-in_err-unless-clause-place t c = IfOk-from_err c.from_residual-in_err-unless.result _ c.from_residual-in_err-unless.ensures.0

pub for_of-returns-in_err-unless-2-clause-place : goal.for_of-returns-in_err-unless-2-clause-place
for_of-returns-in_err-unless-2-clause-place t c = IfOk-from_err c.from_residual-in_err-unless-2.result _ c.from_residual-in_err-unless-2.ensures.0

pub initial-returns-in_err-s-in-Some-clause-kind : goal.initial-returns-in_err-s-in-Some-clause-kind
initial-returns-in_err-s-in-Some-clause-kind t c = IfOk-from_err c.from_residual.result _ c.from_residual.ensures.0

pub declaration_failure-returns-in_err-check_written-clause-place : goal.declaration_failure-returns-in_err-check_written-clause-place
declaration_failure-returns-in_err-check_written-clause-place t c = IfOk-from_err c.from_residual.result _ c.from_residual.ensures.0

pub declaration_failure-returns-in_err-first-clause-place : goal.declaration_failure-returns-in_err-first-clause-place
declaration_failure-returns-in_err-first-clause-place t c = IfOk-from_err c.from_residual-in_err-first.result _ c.from_residual-in_err-first.ensures.0

pub declaration_failure-returns-in_err-check_local-clause-place : goal.declaration_failure-returns-in_err-check_local-clause-place
declaration_failure-returns-in_err-check_local-clause-place t c = IfOk-from_err c.from_residual-in_err-check_local.result _ c.from_residual-in_err-check_local.ensures.0

pub declaration_failure-returns-in_err-kind-clause-place : goal.declaration_failure-returns-in_err-kind-clause-place
declaration_failure-returns-in_err-kind-clause-place t c = IfOk-from_err c.from_residual-in_err-kind.result _ c.from_residual-in_err-kind.ensures.0

pub declarations_failure-returns-in_err-declaration_failure-clause-place : goal.declarations_failure-returns-in_err-declaration_failure-clause-place
declarations_failure-returns-in_err-declaration_failure-clause-place t c = IfOk-from_err c.from_residual.result _ c.from_residual.ensures.0

pub block-returns-clause-found : goal.block-returns-clause-found
block-returns-clause-found t c = grind (arith, common_steps)

pub block-returns-clause-place : goal.block-returns-clause-place
block-returns-clause-place t c = grind (arith, common_steps)

pub block-returns-in_err-statements-clause-found : goal.block-returns-in_err-statements-clause-found
block-returns-in_err-statements-clause-found t c = grind (arith, common_steps)

pub call-returns-in_ok-kinds-in-Some-clause-found : goal.call-returns-in_ok-kinds-in-Some-clause-found
call-returns-in_ok-kinds-in-Some-clause-found t c = grind (arith, common_steps)

pub call-returns-in_ok-kinds-in-Some-clause-seen : goal.call-returns-in_ok-kinds-in-Some-clause-seen
call-returns-in_ok-kinds-in-Some-clause-seen t c = grind (arith, common_steps)

pub declarations_failure-loop-i-init : goal.declarations_failure-loop-i-init
declarations_failure-loop-i-init t c = grind (arith, common_steps)

pub declarations_failure-loop-i-preserved : goal.declarations_failure-loop-i-preserved
declarations_failure-loop-i-preserved t c = grind (arith, common_steps)

pub declarations_failure-returns-clause-found : goal.declarations_failure-returns-clause-found
declarations_failure-returns-clause-found t c = grind (arith, common_steps)

pub declarations_failure-returns-clause-place : goal.declarations_failure-returns-clause-place
declarations_failure-returns-clause-place t c = grind (arith, common_steps)

pub declarations_failure-returns-in_err-declaration_failure-clause-found : goal.declarations_failure-returns-in_err-declaration_failure-clause-found
declarations_failure-returns-in_err-declaration_failure-clause-found t c = grind (arith, common_steps)

pub for_of-returns-clause-place : goal.for_of-returns-clause-place
for_of-returns-clause-place t c = grind (arith, common_steps)

pub for_of-returns-in_err-mark-clause-found : goal.for_of-returns-in_err-mark-clause-found
for_of-returns-in_err-mark-clause-found t c = grind (arith, common_steps)

pub for_of-returns-in_err-s-clause-found : goal.for_of-returns-in_err-s-clause-found
for_of-returns-in_err-s-clause-found t c = grind (arith, common_steps)

pub for_of-returns-in_err-unless-2-clause-found : goal.for_of-returns-in_err-unless-2-clause-found
for_of-returns-in_err-unless-2-clause-found t c = grind (arith, common_steps)

pub handler-returns-in_err-gives-clause-found : goal.handler-returns-in_err-gives-clause-found
handler-returns-in_err-gives-clause-found t c = grind (arith, common_steps)

pub handler-returns-in_err-inside-clause-found : goal.handler-returns-in_err-inside-clause-found
handler-returns-in_err-inside-clause-found t c = grind (arith, common_steps)

pub initial-returns-in-None-clause-found : goal.initial-returns-in-None-clause-found
initial-returns-in-None-clause-found t c = grind (arith, common_steps)

pub initial-returns-in-None-clause-kind : goal.initial-returns-in-None-clause-kind
initial-returns-in-None-clause-kind t c = grind (arith, common_steps)

pub initial-returns-in_err-s-in-Some-clause-found : goal.initial-returns-in_err-s-in-Some-clause-found
initial-returns-in_err-s-in-Some-clause-found t c = grind (arith, common_steps)

pub initial-returns-in_ok-s-in-Some-clause-found : goal.initial-returns-in_ok-s-in-Some-clause-found
initial-returns-in_ok-s-in-Some-clause-found t c = grind (arith, common_steps)

pub initial-returns-in_ok-s-in-Some-clause-kind : goal.initial-returns-in_ok-s-in-Some-clause-kind
initial-returns-in_ok-s-in-Some-clause-kind t c = grind (arith, common_steps)

pub kinds_of-loop-i-init : goal.kinds_of-loop-i-init
kinds_of-loop-i-init t c = grind (arith, common_steps)

pub kinds_of-returns-clause-found : goal.kinds_of-returns-clause-found
kinds_of-returns-clause-found t c = grind (arith, common_steps)

pub kinds_of-returns-clause-kinds : goal.kinds_of-returns-clause-kinds
kinds_of-returns-clause-kinds t c = grind (arith, common_steps)

pub kinds_of-returns-in_err-add-clause-found : goal.kinds_of-returns-in_err-add-clause-found
kinds_of-returns-in_err-add-clause-found t c = grind (arith, common_steps)

pub member-returns-in_err-unless-clause-found : goal.member-returns-in_err-unless-clause-found
member-returns-in_err-unless-clause-found t c =
    let z = c.args.context.now in
    let p = place c.args.scope.now in
    let at = c.args.e.now.at in
    let a = tree c.args.a.now in
    let hc : constant_of z.tables.now z.known.now p a c.args.m ≡ None = none_if _ _ (c.is_some.ensures ∙ ap is_some c.constant.ensures) c.if-is_some.false in
    let hb : is_some (board_callee z.tables.now z.known.now p (Member at a c.args.m)) ≡ true = ap is_some (sym (c.board_callee.ensures ∙ ap (board_callee z.tables.now z.known.now p) c.requires.whole)) ∙ sym c.is_some-2.ensures ∙ c.if-is_some-2.true in
    let own_so = board_found z p c.args.role at c.args.m a hc hb in
    handed c.from_residual.result c.in_err-unless.field-0.0 _ c.from_residual.ensures (subst (RefusedWith c.in_err-unless.field-0.0) (ap (λ b. unless b BadHandler at) c.is_called.ensures ∙ sym own_so) c.in_err-unless.ensures)

pub member-returns-then-is_some-2-clause-found : goal.member-returns-then-is_some-2-clause-found
member-returns-then-is_some-2-clause-found t c =
    let z = c.args.context.now in
    let p = place c.args.scope.now in
    let at = c.args.e.now.at in
    let a = tree c.args.a.now in
    let hc : constant_of z.tables.now z.known.now p a c.args.m ≡ None = none_if _ _ (c.is_some.ensures ∙ ap is_some c.constant.ensures) c.if-is_some.false in
    let hb : is_some (board_callee z.tables.now z.known.now p (Member at a c.args.m)) ≡ true = ap is_some (sym (c.board_callee.ensures ∙ ap (board_callee z.tables.now z.known.now p) c.requires.whole)) ∙ sym c.is_some-2.ensures ∙ c.if-is_some-2.true in
    let own_so = board_found z p c.args.role at c.args.m a hc hb in
    own_so ∙ ap (λ b. unless b BadHandler at) (sym c.is_called.ensures) ∙ c.in_ok-unless.ensures

pub member-returns-then-is_some-clause-found : goal.member-returns-then-is_some-clause-found
member-returns-then-is_some-clause-found t c =
    constant_found c.args.context.now (place c.args.scope.now) c.args.role c.args.e.now.at c.args.m (tree c.args.a.now) (sym (c.is_some.ensures ∙ ap is_some c.constant.ensures) ∙ c.if-is_some.true)

pub member-returns-then-is_some-clause-seen : goal.member-returns-then-is_some-clause-seen
member-returns-then-is_some-clause-seen t c =
    let p = place c.args.scope.now in
    member_constant c.args.context.now p c.args.role c.args.e.now.at c.args.m (tree c.args.a.now) c.always.result c.always.ensures (sym (c.is_some.ensures ∙ ap is_some c.constant.ensures) ∙ c.if-is_some.true)

pub nested-returns-clause-found : goal.nested-returns-clause-found
nested-returns-clause-found t c = grind (arith, common_steps)

pub nested-returns-in_err-statement-clause-found : goal.nested-returns-in_err-statement-clause-found
nested-returns-in_err-statement-clause-found t c = grind (arith, common_steps)

pub statements-loop-i-init : goal.statements-loop-i-init
statements-loop-i-init t c = grind (arith, common_steps)

pub statements-returns-clause-found : goal.statements-returns-clause-found
statements-returns-clause-found t c = grind (arith, common_steps)

pub statements-returns-clause-place : goal.statements-returns-clause-place
statements-returns-clause-place t c = grind (arith, common_steps)

pub statements-returns-in_err-statement-clause-found : goal.statements-returns-in_err-statement-clause-found
statements-returns-in_err-statement-clause-found t c = grind (arith, common_steps)

pub super_call-returns-in-None-clause-found : goal.super_call-returns-in-None-clause-found
super_call-returns-in-None-clause-found t c = grind (arith, common_steps)

pub super_call-returns-in-None-clause-seen : goal.super_call-returns-in-None-clause-seen
super_call-returns-in-None-clause-seen t c = grind (arith, common_steps)

pub super_call-returns-in_err-kinds-clause-found : goal.super_call-returns-in_err-kinds-clause-found
super_call-returns-in_err-kinds-clause-found t c = grind (arith, common_steps)

pub items-returns-in_err-s-in-len1-up : goal.items-returns-in_err-s-in-len1-up
items-returns-in_err-s-in-len1-up t c =
    let tf = trees_first c.args.all.now c.first-item.result c.in-len1-up.len_at_least c.first-item.is in
    record {
      found = subst (λ x. Finds c.from_residual.result (failure c.args.context.now (place c.args.scope.now) c.args.role (Items c.args.at x))) (sym tf) (handed_first c.from_residual.result c.in_err-s-in-len1-up.field-0.0 _ _ c.from_residual.ensures c.in_err-s-in-len1-up.ensures.found);
      seen = IfOk-from_err c.from_residual.result _ c.from_residual.ensures.0;
    }

pub items-returns-in_err-kinds-in-len1-up : goal.items-returns-in_err-kinds-in-len1-up
items-returns-in_err-kinds-in-len1-up t c =
    let tf = trees_first c.args.all.now c.first-item.result c.in-len1-up.len_at_least c.first-item.is in
    record {
      found = subst (λ x. Finds c.from_residual-in_err-kinds-in-len1-up.result (failure c.args.context.now (place c.args.scope.now) c.args.role (Items c.args.at x))) (sym tf) (past c.from_residual-in_err-kinds-in-len1-up.result _ _ c.in_ok-s-in-len1-up.ensures.found (handed_first c.from_residual-in_err-kinds-in-len1-up.result c.in_err-kinds-in-len1-up.field-0.0 _ _ c.from_residual-in_err-kinds-in-len1-up.ensures c.in_err-kinds-in-len1-up.ensures.found));
      seen = IfOk-from_err c.from_residual-in_err-kinds-in-len1-up.result _ c.from_residual-in_err-kinds-in-len1-up.ensures.0;
    }

pub make-returns-in_err-kinds : goal.make-returns-in_err-kinds
make-returns-in_err-kinds t c = record { found = handed_first c.from_residual.result c.in_err-kinds.field-0.0 _ _ c.from_residual.ensures c.in_err-kinds.ensures.found; seen = IfOk-from_err c.from_residual.result _ c.from_residual.ensures.0 }

pub call-returns-in_err-kinds-in-Some : goal.call-returns-in_err-kinds-in-Some
call-returns-in_err-kinds-in-Some t c =
    let z = c.args.context.now in
    let p = place c.args.scope.now in
    let hb = sym c.board_callee.ensures ∙ c.in-Some.is in
    record {
      found = subst (Finds c.from_residual.result) (sym (board_call_is z p c.args.role c.args.at (tree c.args.f.now) (trees c.args.args.now) c.in-Some.board hb)) (handed_first c.from_residual.result c.in_err-kinds-in-Some.field-0.0 _ _ c.from_residual.ensures c.in_err-kinds-in-Some.ensures.found);
      seen = IfOk-from_err c.from_residual.result _ c.from_residual.ensures.0;
    }

pub call-returns-in_err-s-in-None : goal.call-returns-in_err-s-in-None
call-returns-in_err-s-in-None t c =
    let z = c.args.context.now in
    let p = place c.args.scope.now in
    let hb = sym c.board_callee.ensures ∙ c.in-None.is in
    record {
      found = subst (Finds c.from_residual-in_err-s-in-None.result) (sym (other_call_is z p c.args.role c.args.at (tree c.args.f.now) (trees c.args.args.now) hb)) (handed_first c.from_residual-in_err-s-in-None.result c.in_err-s-in-None.field-0.0 _ _ c.from_residual-in_err-s-in-None.ensures c.in_err-s-in-None.ensures.found);
      seen = IfOk-from_err c.from_residual-in_err-s-in-None.result _ c.from_residual-in_err-s-in-None.ensures.0;
    }

pub call-returns-in_err-kinds-in-None : goal.call-returns-in_err-kinds-in-None
call-returns-in_err-kinds-in-None t c =
    let z = c.args.context.now in
    let p = place c.args.scope.now in
    let hb = sym c.board_callee.ensures ∙ c.in-None.is in
    record {
      found = subst (Finds c.from_residual-in_err-kinds-in-None.result) (sym (other_call_is z p c.args.role c.args.at (tree c.args.f.now) (trees c.args.args.now) hb)) (past c.from_residual-in_err-kinds-in-None.result _ _ c.in_ok-s-in-None.ensures.found (handed_first c.from_residual-in_err-kinds-in-None.result c.in_err-kinds-in-None.field-0.0 _ _ c.from_residual-in_err-kinds-in-None.ensures c.in_err-kinds-in-None.ensures.found));
      seen = IfOk-from_err c.from_residual-in_err-kinds-in-None.result _ c.from_residual-in_err-kinds-in-None.ensures.0;
    }

pub statement-returns-in-Block : goal.statement-returns-in-Block
statement-returns-in-Block t c =
    let z = c.args.context.now in
    let p = place c.args.scope.now in
    let is = block_is c.args.s.now c.in-Block.all c.in-Block.is ∙ ap (λ xs. Block c.args.s.now.at (statements xs)) (sym c.as_slice.ensures) in
    record { found = statement_finds_as z p c.block.result _ _ is c.block.ensures.found; place = place_as z p c.block.result _ _ (place c.block.new.scope) is c.block.ensures.place }

pub statement-block-requires : goal.statement-block-requires
statement-block-requires t c = (omega (arith, ap statement_nesting (block_is c.args.s.now c.in-Block.all c.in-Block.is ∙ ap (λ xs. Block c.args.s.now.at (statements xs)) (sym c.as_slice.ensures)), c.decreases), tt)

pub statement-returns-in-Let : goal.statement-returns-in-Let
statement-returns-in-Let t c =
    let z = c.args.context.now in
    let p = place c.args.scope.now in
    let is = ap (form_statement c.args.s.now.at) c.in-Let.is ∙ let_statement c.args.s.now.at c.in-Let.fixed c.in-Let.each ∙ ap (λ xs. Let c.args.s.now.at c.in-Let.fixed (declarations xs)) (sym c.as_slice-in-Let.ensures) in
    record { found = statement_finds_as z p c.declarations_failure.result _ _ is c.declarations_failure.ensures.found; place = place_as z p c.declarations_failure.result _ _ (place c.declarations_failure.new.scope) is c.declarations_failure.ensures.place }

pub statement-declarations_failure-requires : goal.statement-declarations_failure-requires
statement-declarations_failure-requires t c = (omega (arith, ap statement_nesting (ap (form_statement c.args.s.now.at) c.in-Let.is ∙ let_statement c.args.s.now.at c.in-Let.fixed c.in-Let.each ∙ ap (λ xs. Let c.args.s.now.at c.in-Let.fixed (declarations xs)) (sym c.as_slice-in-Let.ensures)), c.decreases), tt)

pub statement-returns-in-None : goal.statement-returns-in-None
statement-returns-in-None t c =
    let z = c.args.context.now in
    let p = place c.args.scope.now in
    let is = if_only_is c.args.s.now c.in-If.test c.in-If.a c.deref.result.now c.in-If.other c.in-If.is c.in-None.is c.deref.ensures in
    record { found = statement_finds_as z p c.tested.result _ _ is c.tested.ensures.found; place = place_as z p c.tested.result _ _ (place c.tested.new.scope) is c.tested.ensures.place }

pub statement-tested-requires : goal.statement-tested-requires
statement-tested-requires t c = (omega (arith, ap statement_nesting (if_only_is c.args.s.now c.in-If.test c.in-If.a c.deref.result.now c.in-If.other c.in-If.is c.in-None.is c.deref.ensures), c.decreases), tt)

pub statement-returns-in-Some : goal.statement-returns-in-Some
statement-returns-in-Some t c =
    let z = c.args.context.now in
    let p = place c.args.scope.now in
    let is = if_else_is c.args.s.now c.in-If.test c.in-If.a c.deref-in-Some.result.now c.in-If.other c.in-Some.b c.deref-in-Some-2.result.now c.in-If.is c.in-Some.is c.deref-in-Some.ensures c.deref-in-Some-2.ensures in
    record { found = statement_finds_as z p c.if_else.result _ _ is c.if_else.ensures.found; place = place_as z p c.if_else.result _ _ (place c.if_else.new.scope) is c.if_else.ensures.place }

pub statement-if_else-requires : goal.statement-if_else-requires
statement-if_else-requires t c = (omega (arith, ap statement_nesting (if_else_is c.args.s.now c.in-If.test c.in-If.a c.deref-in-Some.result.now c.in-If.other c.in-Some.b c.deref-in-Some-2.result.now c.in-If.is c.in-Some.is c.deref-in-Some.ensures c.deref-in-Some-2.ensures), c.decreases), tt)

pub statement-returns-in-While : goal.statement-returns-in-While
statement-returns-in-While t c =
    let z = c.args.context.now in
    let p = place c.args.scope.now in
    let is = while_is c.args.s.now c.in-While.test c.in-While.a c.deref-in-While.result.now c.in-While.is c.deref-in-While.ensures in
    record { found = statement_finds_as z p c.tested-in-While.result _ _ is c.tested-in-While.ensures.found; place = place_as z p c.tested-in-While.result _ _ (place c.tested-in-While.new.scope) is c.tested-in-While.ensures.place }

pub statement-returns-in-DoWhile : goal.statement-returns-in-DoWhile
statement-returns-in-DoWhile t c =
    let z = c.args.context.now in
    let p = place c.args.scope.now in
    let is = do_while_is c.args.s.now c.in-DoWhile.test c.in-DoWhile.a c.deref-in-DoWhile.result.now c.in-DoWhile.is c.deref-in-DoWhile.ensures in
    record { found = statement_finds_as z p c.do_while.result _ _ is c.do_while.ensures.found; place = place_as z p c.do_while.result _ _ (place c.do_while.new.scope) is c.do_while.ensures.place }

pub statement-returns-in-For : goal.statement-returns-in-For
statement-returns-in-For t c =
    let z = c.args.context.now in
    let p = place c.args.scope.now in
    let is = for_is c.args.s.now c.in-For.first c.in-For.test c.in-For.step c.in-For.a c.in-For.is ∙ ap (λ y. For c.args.s.now.at (optional_boxed c.in-For.first) (optional_expression c.in-For.test) (optional_expression c.in-For.step) (statement y)) (sym c.deref-in-For.ensures) in
    record { found = statement_finds_as z p c.for_loop.result _ _ is c.for_loop.ensures.found; place = place_as z p c.for_loop.result _ _ (place c.for_loop.new.scope) is c.for_loop.ensures.place }

pub statement-for_loop-requires : goal.statement-for_loop-requires
statement-for_loop-requires t c = (omega (arith, ap statement_nesting (for_is c.args.s.now c.in-For.first c.in-For.test c.in-For.step c.in-For.a c.in-For.is ∙ ap (λ y. For c.args.s.now.at (optional_boxed c.in-For.first) (optional_expression c.in-For.test) (optional_expression c.in-For.step) (statement y)) (sym c.deref-in-For.ensures)), c.decreases), tt)

pub statement-returns-in-ForOf : goal.statement-returns-in-ForOf
statement-returns-in-ForOf t c =
    let z = c.args.context.now in
    let p = place c.args.scope.now in
    let is = for_of_is c.args.s.now c.in-ForOf.list c.in-ForOf.body c.deref-in-ForOf.result.now c.in-ForOf.fixed c.in-ForOf.name c.in-ForOf.is c.deref-in-ForOf.ensures in
    record { found = statement_finds_as z p c.for_of.result _ _ is c.for_of.ensures.found; place = place_as z p c.for_of.result _ _ (place c.for_of.new.scope) is c.for_of.ensures.place }

pub statement-returns-in-Break : goal.statement-returns-in-Break
statement-returns-in-Break t c =
    let z = c.args.context.now in
    let p = place c.args.scope.now in
    let is = ap (form_statement c.args.s.now.at) c.in-Break.is in
    record { found = ap (statement_failure z p) is; place = sym (ap (after z p) is) }

pub statement-returns-in-Continue : goal.statement-returns-in-Continue
statement-returns-in-Continue t c =
    let z = c.args.context.now in
    let p = place c.args.scope.now in
    let is = ap (form_statement c.args.s.now.at) c.in-Continue.is in
    record { found = ap (statement_failure z p) is; place = sym (ap (after z p) is) }

pub statement-returns-in-Empty : goal.statement-returns-in-Empty
statement-returns-in-Empty t c =
    let z = c.args.context.now in
    let p = place c.args.scope.now in
    let is = ap (form_statement c.args.s.now.at) c.in-Empty.is in
    record { found = ap (statement_failure z p) is; place = sym (ap (after z p) is) }

pub statement-returns-in-Some-value : goal.statement-returns-in-Some-value
statement-returns-in-Some-value t c =
    let z = c.args.context.now in
    let p = place c.args.scope.now in
    let is = return_is c.args.s.now c.in-Return.value _ c.in-Return.is c.in-Some-value.is in
    record { found = statement_finds_as z p c.returned.result _ _ is c.returned.ensures; place = on_ok c.returned.result (sym (ap (after z p) is)) }

pub statement-returned-requires : goal.statement-returned-requires
statement-returned-requires t c = (omega (arith, ap statement_nesting (return_is c.args.s.now c.in-Return.value _ c.in-Return.is c.in-Some-value.is), c.decreases), tt)

pub statement-returns-in-None-value : goal.statement-returns-in-None-value
statement-returns-in-None-value t c =
    let z = c.args.context.now in
    let p = place c.args.scope.now in
    let is = ap (form_statement c.args.s.now.at) (c.in-Return.is ∙ ap f.Return c.in-None-value.is) in
    record { found = statement_finds_as z p c.unless.result _ _ is (subst (λ b. Finds c.unless.result (unless b Mismatch c.args.s.now.at)) c.is_nothing.ensures c.unless.ensures); place = on_ok c.unless.result (sym (ap (after z p) is)) }

pub statement-returns-in_err-expression-in-Plain : goal.statement-returns-in_err-expression-in-Plain
statement-returns-in_err-expression-in-Plain t c =
    let z = c.args.context.now in
    let p = place c.args.scope.now in
    let is = ap (form_statement c.args.s.now.at) c.in-Plain.is in
    record { found = statement_finds_as z p c.from_residual.result _ _ is (handed c.from_residual.result c.in_err-expression-in-Plain.field-0.0 _ c.from_residual.ensures c.in_err-expression-in-Plain.ensures.found); place = IfOk-from_err c.from_residual.result _ c.from_residual.ensures.0 }

pub statement-returns-in_ok-expression-in-Plain : goal.statement-returns-in_ok-expression-in-Plain
statement-returns-in_ok-expression-in-Plain t c =
    let z = c.args.context.now in
    let p = place c.args.scope.now in
    let is = ap (form_statement c.args.s.now.at) c.in-Plain.is in
    record { found = ap (statement_failure z p) is ∙ c.in_ok-expression-in-Plain.ensures.found; place = sym (ap (after z p) is) }

pub tested-returns : goal.tested-returns
tested-returns t c =
    let z = c.args.context.now in
    let p = place c.args.scope.now in
    let eq = c.is_boolean.ensures ∙ ap is_boolean (kind_seen z p Free c.in_ok-s.s c.args.test.now c.in_ok-s.ensures.seen) in
    record { found = past c.unless.result _ _ c.in_ok-s.ensures.found (past c.unless.result _ _ c.in_ok-nested.ensures.found (subst (λ b. Finds c.unless.result (unless b Mismatch c.args.at)) eq c.unless.ensures)); place = on_ok c.unless.result c.in_ok-nested.ensures.place }

pub tested-returns-in_err-s : goal.tested-returns-in_err-s
tested-returns-in_err-s t c = record { found = handed_first c.from_residual.result c.in_err-s.field-0.0 _ _ c.from_residual.ensures c.in_err-s.ensures.found; place = IfOk-from_err c.from_residual.result _ c.from_residual.ensures.0 }

pub tested-returns-in_err-nested : goal.tested-returns-in_err-nested
tested-returns-in_err-nested t c = record { found = past c.from_residual-in_err-nested.result _ _ c.in_ok-s.ensures.found (handed_first c.from_residual-in_err-nested.result c.in_err-nested.field-0.0 _ _ c.from_residual-in_err-nested.ensures c.in_err-nested.ensures.found); place = IfOk-from_err c.from_residual-in_err-nested.result _ c.from_residual-in_err-nested.ensures.0 }

pub if_else-returns : goal.if_else-returns
if_else-returns t c =
    let z = c.args.context.now in
    let p = place c.args.scope.now in
    let eq = c.is_boolean.ensures ∙ ap is_boolean (kind_seen z p Free c.in_ok-s.s c.args.test.now c.in_ok-s.ensures.seen) in
    let f2 = ap (λ q. statement_failure z (inner q) (statement c.args.b.now)) (sym c.in_ok-nested.ensures.place) ∙ c.in_ok-nested-2.ensures.found in
    record { found = past c.unless.result _ _ c.in_ok-s.ensures.found (past c.unless.result _ _ c.in_ok-nested.ensures.found (past c.unless.result _ _ f2 (subst (λ b. Finds c.unless.result (unless b Mismatch c.args.at)) eq c.unless.ensures))); place = on_ok c.unless.result (c.in_ok-nested-2.ensures.place ∙ c.in_ok-nested.ensures.place) }

pub if_else-returns-in_err-s : goal.if_else-returns-in_err-s
if_else-returns-in_err-s t c = record { found = handed_first c.from_residual.result c.in_err-s.field-0.0 _ _ c.from_residual.ensures c.in_err-s.ensures.found; place = IfOk-from_err c.from_residual.result _ c.from_residual.ensures.0 }

pub if_else-returns-in_err-nested : goal.if_else-returns-in_err-nested
if_else-returns-in_err-nested t c = record { found = past c.from_residual-in_err-nested.result _ _ c.in_ok-s.ensures.found (handed_first c.from_residual-in_err-nested.result c.in_err-nested.field-0.0 _ _ c.from_residual-in_err-nested.ensures c.in_err-nested.ensures.found); place = IfOk-from_err c.from_residual-in_err-nested.result _ c.from_residual-in_err-nested.ensures.0 }

pub if_else-returns-in_err-nested-2 : goal.if_else-returns-in_err-nested-2
if_else-returns-in_err-nested-2 t c =
    let z = c.args.context.now in
    record { found = past c.from_residual-in_err-nested-2.result _ _ c.in_ok-s.ensures.found (past c.from_residual-in_err-nested-2.result _ _ c.in_ok-nested.ensures.found (handed_first c.from_residual-in_err-nested-2.result c.in_err-nested-2.field-0.0 _ _ c.from_residual-in_err-nested-2.ensures (subst (λ q. RefusedWith c.in_err-nested-2.field-0.0 (statement_failure z (inner q) (statement c.args.b.now))) c.in_ok-nested.ensures.place c.in_err-nested-2.ensures.found))); place = IfOk-from_err c.from_residual-in_err-nested-2.result _ c.from_residual-in_err-nested-2.ensures.0 }

pub do_while-returns : goal.do_while-returns
do_while-returns t c =
    let z = c.args.context.now in
    let p = place c.args.scope.now in
    let same = c.in_ok-nested.ensures.place in
    let eq = c.is_boolean.ensures ∙ ap is_boolean (kind_seen z (place c.nested.new.scope) Free c.in_ok-s.s c.args.test.now c.in_ok-s.ensures.seen ∙ ap (λ q. type_of z.tables.now z.known.now q Free (tree c.args.test.now)) same) in
    record { found = past c.unless.result _ _ c.in_ok-nested.ensures.found (past c.unless.result _ _ (ap (λ q. failure z q Free (tree c.args.test.now)) (sym same) ∙ c.in_ok-s.ensures.found) (subst (λ b. Finds c.unless.result (unless b Mismatch c.args.at)) eq c.unless.ensures)); place = on_ok c.unless.result same }

pub do_while-returns-in_err-nested : goal.do_while-returns-in_err-nested
do_while-returns-in_err-nested t c = record { found = handed_first c.from_residual.result c.in_err-nested.field-0.0 _ _ c.from_residual.ensures c.in_err-nested.ensures.found; place = IfOk-from_err c.from_residual.result _ c.from_residual.ensures.0 }

pub do_while-returns-in_err-s : goal.do_while-returns-in_err-s
do_while-returns-in_err-s t c =
    let z = c.args.context.now in
    record { found = past c.from_residual-in_err-s.result _ _ c.in_ok-nested.ensures.found (handed_first c.from_residual-in_err-s.result c.in_err-s.field-0.0 _ _ c.from_residual-in_err-s.ensures (subst (λ q. RefusedWith c.in_err-s.field-0.0 (failure z q Free (tree c.args.test.now))) c.in_ok-nested.ensures.place c.in_err-s.ensures.found)); place = IfOk-from_err c.from_residual-in_err-s.result _ c.from_residual-in_err-s.ensures.0 }

pub for_loop-returns-in_err-first_of : goal.for_loop-returns-in_err-first_of
for_loop-returns-in_err-first_of t c =
    let z = c.args.context.now in
    let p = place c.args.scope.now in
    let step = for_step z p (place c.enter-mark.new.scope) _ c.args.at (optional_boxed c.args.turns.first.now) (optional_expression c.args.turns.test.now) (optional_expression c.args.turns.step.now) (statement c.args.a.now) c.enter-mark.ensures.place refl in
    record { found = subst (Finds c.from_residual.result) (sym step) (handed_first c.from_residual.result c.in_err-first_of.field-0.0 _ _ c.from_residual.ensures c.in_err-first_of.ensures.found); place = IfOk-from_err c.from_residual.result _ c.from_residual.ensures.0 }

pub for_loop-returns-in_err-tests : goal.for_loop-returns-in_err-tests
for_loop-returns-in_err-tests t c =
    let z = c.args.context.now in
    let p = place c.args.scope.now in
    let step = for_step z p (place c.enter-mark.new.scope) (place c.first_of.new.scope) c.args.at (optional_boxed c.args.turns.first.now) (optional_expression c.args.turns.test.now) (optional_expression c.args.turns.step.now) (statement c.args.a.now) c.enter-mark.ensures.place c.in_ok-first_of.ensures.place in
    record { found = subst (Finds c.from_residual-in_err-tests.result) (sym step) (past c.from_residual-in_err-tests.result _ _ c.in_ok-first_of.ensures.found (handed_first c.from_residual-in_err-tests.result c.in_err-tests.field-0.0 _ _ c.from_residual-in_err-tests.ensures c.in_err-tests.ensures.found)); place = IfOk-from_err c.from_residual-in_err-tests.result _ c.from_residual-in_err-tests.ensures.0 }

pub for_loop-returns-in_err-optional : goal.for_loop-returns-in_err-optional
for_loop-returns-in_err-optional t c =
    let z = c.args.context.now in
    let p = place c.args.scope.now in
    let step = for_step z p (place c.enter-mark.new.scope) (place c.first_of.new.scope) c.args.at (optional_boxed c.args.turns.first.now) (optional_expression c.args.turns.test.now) (optional_expression c.args.turns.step.now) (statement c.args.a.now) c.enter-mark.ensures.place c.in_ok-first_of.ensures.place in
    record { found = subst (Finds c.from_residual-in_err-optional.result) (sym step) (past c.from_residual-in_err-optional.result _ _ c.in_ok-first_of.ensures.found (past c.from_residual-in_err-optional.result _ _ c.in_ok-tests.ensures.found (handed_first c.from_residual-in_err-optional.result c.in_err-optional.field-0.0 _ _ c.from_residual-in_err-optional.ensures c.in_err-optional.ensures.found))); place = IfOk-from_err c.from_residual-in_err-optional.result _ c.from_residual-in_err-optional.ensures.0 }

pub for_loop-returns-in_err-nested : goal.for_loop-returns-in_err-nested
for_loop-returns-in_err-nested t c =
    let z = c.args.context.now in
    let p = place c.args.scope.now in
    let step = for_step z p (place c.enter-mark.new.scope) (place c.first_of.new.scope) c.args.at (optional_boxed c.args.turns.first.now) (optional_expression c.args.turns.test.now) (optional_expression c.args.turns.step.now) (statement c.args.a.now) c.enter-mark.ensures.place c.in_ok-first_of.ensures.place in
    record { found = subst (Finds c.from_residual-in_err-nested.result) (sym step) (past c.from_residual-in_err-nested.result _ _ c.in_ok-first_of.ensures.found (past c.from_residual-in_err-nested.result _ _ c.in_ok-tests.ensures.found (past c.from_residual-in_err-nested.result _ _ c.in_ok-optional.ensures.found (handed_first c.from_residual-in_err-nested.result c.in_err-nested.field-0.0 _ _ c.from_residual-in_err-nested.ensures c.in_err-nested.ensures.found)))); place = IfOk-from_err c.from_residual-in_err-nested.result _ c.from_residual-in_err-nested.ensures.0 }

pub for_loop-returns-in_err-unless : goal.for_loop-returns-in_err-unless
for_loop-returns-in_err-unless t c =
    let z = c.args.context.now in
    let p = place c.args.scope.now in
    let step = for_step z p (place c.enter-mark.new.scope) (place c.first_of.new.scope) c.args.at (optional_boxed c.args.turns.first.now) (optional_expression c.args.turns.test.now) (optional_expression c.args.turns.step.now) (statement c.args.a.now) c.enter-mark.ensures.place c.in_ok-first_of.ensures.place in
    record { found = subst (Finds c.from_residual-in_err-unless.result) (sym step) (past c.from_residual-in_err-unless.result _ _ c.in_ok-first_of.ensures.found (past c.from_residual-in_err-unless.result _ _ c.in_ok-tests.ensures.found (past c.from_residual-in_err-unless.result _ _ c.in_ok-optional.ensures.found (past c.from_residual-in_err-unless.result _ _ c.in_ok-nested.ensures.found (handed c.from_residual-in_err-unless.result c.in_err-unless.field-0.0 _ c.from_residual-in_err-unless.ensures (subst (λ b. RefusedWith c.in_err-unless.field-0.0 (unless b Mismatch c.args.at)) c.in_ok-tests.ensures.tests c.in_err-unless.ensures)))))); place = IfOk-from_err c.from_residual-in_err-unless.result _ c.from_residual-in_err-unless.ensures.0 }

pub for_loop-returns-clause-found : goal.for_loop-returns-clause-found
for_loop-returns-clause-found t c =
    let z = c.args.context.now in
    let p = place c.args.scope.now in
    let step = for_step z p (place c.enter-mark.new.scope) (place c.first_of.new.scope) c.args.at (optional_boxed c.args.turns.first.now) (optional_expression c.args.turns.test.now) (optional_expression c.args.turns.step.now) (statement c.args.a.now) c.enter-mark.ensures.place c.in_ok-first_of.ensures.place in
    step ∙ nothing_in _ _ c.in_ok-first_of.ensures.found (nothing_in _ _ c.in_ok-tests.ensures.found (nothing_in _ _ c.in_ok-optional.ensures.found (nothing_in _ _ c.in_ok-nested.ensures.found (ap (λ b. unless b Mismatch c.args.at) (sym c.in_ok-tests.ensures.tests) ∙ c.in_ok-unless.ensures))))

pub first_of-returns-in-Some : goal.first_of-returns-in-Some
first_of-returns-in-Some t c =
    let z = c.args.context.now in
    let p = place c.args.scope.now in
    record {
      found = subst (Finds c.statement.result) (ap (λ y. statement_failure z p (statement y)) c.deref.ensures ∙ sym (ap (λ o. first_failure z p (optional_boxed o)) c.in-Some.is)) c.statement.ensures.found;
      place = subst (λ q. OnOk c.statement.result (place c.statement.new.scope ≡ q)) (ap (λ y. after z p (statement y)) c.deref.ensures ∙ sym (ap (λ o. after_first z p (optional_boxed o)) c.in-Some.is)) c.statement.ensures.place;
    }

pub first_of-returns-in-None : goal.first_of-returns-in-None
first_of-returns-in-None t c =
    let z = c.args.context.now in
    let p = place c.args.scope.now in
    record { found = ap (λ o. first_failure z p (optional_boxed o)) c.in-None.is; place = sym (ap (λ o. after_first z p (optional_boxed o)) c.in-None.is) }

pub optional-returns-in-None : goal.optional-returns-in-None
optional-returns-in-None t c =
    let z = c.args.context.now in
    let p = place c.args.scope.now in
    record { found = ap (λ o. optional_failure z p (optional_expression o)) c.in-None.is; tests = sym (ap (λ o. is_test z.tables.now z.known.now p (optional_expression o)) c.in-None.is) }

pub optional-returns-in_ok-s-in-Some : goal.optional-returns-in_ok-s-in-Some
optional-returns-in_ok-s-in-Some t c =
    let z = c.args.context.now in
    let p = place c.args.scope.now in
    record {
      found = ap (λ o. optional_failure z p (optional_expression o)) c.in-Some.is ∙ c.in_ok-s-in-Some.ensures.found;
      tests = c.is_boolean.ensures ∙ ap is_boolean (kind_seen z p Free c.in_ok-s-in-Some.s c.in-Some.e c.in_ok-s-in-Some.ensures.seen) ∙ sym (ap (λ o. is_test z.tables.now z.known.now p (optional_expression o)) c.in-Some.is);
    }

pub optional-returns-in_err-s-in-Some : goal.optional-returns-in_err-s-in-Some
optional-returns-in_err-s-in-Some t c =
    let z = c.args.context.now in
    let p = place c.args.scope.now in
    record {
      found = subst (Finds c.from_residual.result) (sym (ap (λ o. optional_failure z p (optional_expression o)) c.in-Some.is)) (handed c.from_residual.result c.in_err-s-in-Some.field-0.0 _ c.from_residual.ensures c.in_err-s-in-Some.ensures.found);
      tests = IfOk-from_err c.from_residual.result _ c.from_residual.ensures.0;
    }

pub handler-statements-requires : goal.handler-statements-requires
handler-statements-requires t c = let h = ap routine_nesting (routine_parts c.args.body.now) in (grind (arith, common_steps, h), tt)
