use Rattle.std.proofs.Common.{◌≡◌, ◌<◌, ◌≤◌, length, refl, sym, ap, ◌∙◌, subst, arith}
use Rattle.std.specs.Prelude.{Some, None, IfOk, if◌then◌else◌}
use Rattle.std.specs.Option.{option_map}
use Rattle.std.proofs.lemmas.Result.{IfOk-weaker}
use Rattle.sts_syntax.specs.Trees.{SuperCall, Items}
use Rattle.sts_syntax.specs.Views.{tree, trees, node_tree}
use Rattle.sts_scope.specs.Kinds.{array_of}
use Rattle.sts_scope.specs.Places.{name_found}
use Rattle.sts_scope.specs.Rules.{prefix, operate, joined, choose, assign, element, part_of, takes_at, kind_at}
use Rattle.type_derive.specs.declared.roles.Role.TheVariants.{Free, Given}
use Rattle.type_derive.specs.Scopes.{place}
use Rattle.type_derive.specs.Shown.{row_shown, row_called, board_given}
use Rattle.type_derive.specs.Typing.{◌>>=◌, constant_of, board_callee, type_of, types_of, callee_of, settable, called, named_callee, part_callee, callee, super_method, made}
use Rattle.type_derive.proofs.Calling.{name_is, member_is}
use Rattle.type_derive.proofs.Opened.{call_is, super_call_is, make_is, items_is}
use Rattle.type_derive.proofs.Evaluated.{moved, two, bind_some, bind_itself, none_if, set_type, target_member, read_member, go_kept, go_ends, all_kept, list_none, list_ends, board_kept, board_ends, call_board, call_other}
use Rattle.type_derive.proofs.evaluation.+types.Goals as goal

pub called_type-loop-i-preserved : goal.called_type-loop-i-preserved
called_type-loop-i-preserved t c =
    let k = c.args.context.now.known.now in
    let lt : c.loop-i.i < length c.args.args.now = omega arith in
    let g = c.goes_at-goes.ensures in
    go_kept c.args.context.now.tables.now k (place c.args.scope.now) c.args.args.now c.loop-i.i c.index-args-i.result c.in_ok-u-in-Some.u c.takes_of-takes.result.now
    c.loop-i.fits c.both_hold-fits.result c.goes_at-goes.result _ lt c.index-args-i.is c.in_ok-u-in-Some.ensures g c.both_hold-fits.ensures c.loop-i.invariant

pub called_type-returns-after-loop-i : goal.called_type-returns-after-loop-i
called_type-returns-after-loop-i t c =
    let ge : length c.args.args.now ≤ c.loop-i.i = omega arith in
    let le : c.loop-i.i ≤ length c.args.args.now = omega arith in
    go_ends c.args.context.now.tables.now c.args.context.now.known.now (place c.args.scope.now) c.args.args.now c.loop-i.i c.takes_of-takes.result.now
    c.loop-i.fits c.both_hold-all.result c.args.called c.in-Some.called c.given_where.result ge le c.in-Some.is c.takes_of-takes.ensures c.loop-i.invariant c.both_hold-all.ensures c.given_where.ensures

pub callee-returns-in_ok-note_found-in-Name : goal.callee-returns-in_ok-note_found-in-Name
callee-returns-in_ok-note_found-in-Name t c =
    let s = c.args.context.now.tables.now in
    let k = c.args.context.now.known.now in
    c.named_callee.ensures k ∙ ap (named_callee k) c.name_found-found.ensures ∙ sym (ap (callee_of s k (place c.args.scope.now)) (name_is c.args.f.now c.in-Name.x c.in-Name.is))

pub callee-returns-in_ok-note_part-in-Member : goal.callee-returns-in_ok-note_part-in-Member
callee-returns-in_ok-note_part-in-Member t c =
    let s = c.args.context.now.tables.now in
    let k = c.args.context.now.known.now in
    let p = place c.args.scope.now in
    let m = c.in-Member.m in
    let u = moved s k p Free c.deref.result.now c.in-Member.a.value c.in_ok-s-in-Member.s c.in_ok-s-in-Member.ensures c.deref.ensures in
    c.part_called.ensures k ∙ ap (λ o. o >>= λ q. part_callee k q) (c.part_behind-part.ensures ∙ ap (λ o. o >>= λ w. Some (part_of s.names k w m)) u)
    ∙ bind_some (type_of s k p Free (tree c.in-Member.a.value)) (λ w. part_of s.names k w m) (λ q. part_callee k q)
    ∙ sym (ap (callee_of s k p) (member_is c.args.f.now c.in-Member.a m c.in-Member.is))

pub board_type-loop-i-preserved : goal.board_type-loop-i-preserved
board_type-loop-i-preserved t c =
    let lt : c.loop-i.i < length c.as_slice-args.result.now = omega arith in
    board_kept c.args.context.now.tables.now c.args.context.now.known.now (place c.args.scope.now) c.as_slice-args.result.now c.in-Some.row.takes.now c.loop-i.i c.index-args-i.result c.parameter_at-to.result
    c.loop-i.fits c.both_hold-fits.result c.in_ok-goes-in-Some.goes _ lt c.index-args-i.is c.parameter_at-to.ensures c.in_ok-goes-in-Some.ensures c.both_hold-fits.ensures c.loop-i.invariant

pub board_type-returns-after-loop-i : goal.board_type-returns-after-loop-i
board_type-returns-after-loop-i t c =
    let ge : length c.as_slice-args.result.now ≤ c.loop-i.i = omega arith in
    let le : c.loop-i.i ≤ length c.as_slice-args.result.now = omega arith in
    subst (λ xs. c.where_fits.result ≡ board_given c.args.context.now.tables.now c.args.context.now.known.now (place c.args.scope.now) (option_map row_shown c.args.row) (trees xs)) c.as_slice-args.ensures
    (board_ends c.args.context.now.tables.now c.args.context.now.known.now (place c.args.scope.now) c.as_slice-args.result.now c.args.row c.in-Some.row c.loop-i.i
    c.loop-i.fits c.both_hold-all.result c.where_fits.result ge le c.in-Some.is c.loop-i.invariant c.both_hold-all.ensures c.where_fits.ensures)

pub list_type-loop-i-preserved : goal.list_type-loop-i-preserved
list_type-loop-i-preserved t c =
    let lt : c.loop-i.i < length c.args.all.now = omega arith in
    let g = c.goes_some-goes.ensures in
    all_kept c.args.context.now.tables.now c.args.context.now.known.now (place c.args.scope.now) c.args.all.now c.loop-i.i c.index-all-i.result c.in_ok-u-in-Some.u c.in-Some.s
    c.loop-i.fits c.both_hold-fits.result c.goes_some-goes.result _ lt c.index-all-i.is c.in_ok-u-in-Some.ensures g c.both_hold-fits.ensures c.loop-i.invariant

pub list_type-returns-in-None : goal.list_type-returns-in-None
list_type-returns-in-None t c =
    list_none c.args.context.now.tables.now c.args.context.now.known.now (place c.args.scope.now) c.args.role c.args.at c.args.all.now c.first-item.result c.in_ok-type_of-in-len1-up.field-0
    c.in-len1-up.len_at_least c.first-item.is c.in_ok-type_of-in-len1-up.ensures c.in-None.is

pub list_type-returns-after-loop-i : goal.list_type-returns-after-loop-i
list_type-returns-after-loop-i t c =
    let ge : length c.args.all.now ≤ c.loop-i.i = omega arith in
    let is = list_ends c.args.context.now.tables.now c.args.context.now.known.now (place c.args.scope.now) c.args.role c.args.at c.loop-i.i c.args.all.now c.first-item.result c.in_ok-type_of-in-len1-up.field-0
    (if c.loop-i.fits then array_of c.in-Some.s else None) c.in-Some.s c.loop-i.fits
    c.in-len1-up.len_at_least c.first-item.is c.in_ok-type_of-in-len1-up.ensures c.in-Some.is ge c.loop-i.invariant refl in
    c.listed_where.ensures ∙ is

pub target_type-returns-in_ok-note_part-in-Member : goal.target_type-returns-in_ok-note_part-in-Member
target_type-returns-in_ok-note_part-in-Member t c =
    let s = c.args.context.now.tables.now in
    let k = c.args.context.now.known.now in
    let p = place c.args.scope.now in
    let a = c.in-Member.a in
    let u = moved s k p Free c.deref-in-Member.result.now a.value c.in_ok-s-in-Member.s c.in_ok-s-in-Member.ensures c.deref-in-Member.ensures in
    let hn : constant_of s k p (tree a.value) c.in-Member.m ≡ None =
    sym (c.constant.ensures ∙ ap (λ z. constant_of s k p (tree z) c.in-Member.m) c.deref.ensures) ∙ none_if c.constant.result c.is_some.result c.is_some.ensures c.if-is_some.false in
    target_member s k p c.args.x.now.at c.in-Member.m (tree a.value) c.in_ok-s-in-Member.s c.part_target.result c.part_behind-part.result hn u c.part_behind-part.ensures c.part_target.ensures
    ∙ sym (ap (λ x. type_of s k p Free x >>= λ w. if settable s k p x then Some w else None) (member_is c.args.x.now a c.in-Member.m c.in-Member.is))

pub target_type-returns-in_ok-u-in-Item : goal.target_type-returns-in_ok-u-in-Item
target_type-returns-in_ok-u-in-Item t c =
    let s = c.args.context.now.tables.now in
    let k = c.args.context.now.known.now in
    let p = place c.args.scope.now in
    let a = c.in-Item.a in
    let i = c.in-Item.i in
    let hs = moved s k p Free c.deref-in-Item.result.now a.value c.in_ok-s-in-Item.s c.in_ok-s-in-Item.ensures c.deref-in-Item.ensures in
    let hu = moved s k p Free c.deref-in-Item-2.result.now i.value c.in_ok-u-in-Item.u c.in_ok-u-in-Item.ensures c.deref-in-Item-2.ensures in
    two c.in_ok-s-in-Item.s (type_of s k p Free (tree a.value)) c.in_ok-u-in-Item.u (type_of s k p Free (tree i.value)) c.indexed.result (λ x y. element x y) hs hu c.indexed.ensures
    ∙ sym (bind_itself (type_of s k p Free (tree a.value) >>= λ x. type_of s k p Free (tree i.value) >>= λ y. element x y))
    ∙ sym (ap (λ x. type_of s k p Free x >>= λ w. if settable s k p x then Some w else None) (ap (node_tree c.args.x.now.at) c.in-Item.is))

pub operator_type-returns-in_ok-s-in-Unary : goal.operator_type-returns-in_ok-s-in-Unary
operator_type-returns-in_ok-s-in-Unary t c = λ r.
    let s = c.args.context.now.tables.now in
    let k = c.args.context.now.known.now in
    let p = place c.args.scope.now in
    let a = c.in-Unary.a in
    c.prefixed.ensures ∙ ap (λ o. o >>= λ x. prefix c.in-Unary.op x) (moved s k p Free c.deref.result.now a.value c.in_ok-s-in-Unary.s c.in_ok-s-in-Unary.ensures c.deref.ensures)
    ∙ sym (ap (type_of s k p r) (ap (node_tree c.args.e.now.at) c.in-Unary.is))

pub operator_type-returns-in_ok-u-in-Binary : goal.operator_type-returns-in_ok-u-in-Binary
operator_type-returns-in_ok-u-in-Binary t c = λ r.
    let s = c.args.context.now.tables.now in
    let k = c.args.context.now.known.now in
    let p = place c.args.scope.now in
    let a = c.in-Binary.a in
    let b = c.in-Binary.b in
    let hs = moved s k p Free c.deref-in-Binary.result.now a.value c.in_ok-s-in-Binary.s c.in_ok-s-in-Binary.ensures c.deref-in-Binary.ensures in
    let hu = moved s k p Free c.deref-in-Binary-2.result.now b.value c.in_ok-u-in-Binary.u c.in_ok-u-in-Binary.ensures c.deref-in-Binary-2.ensures in
    two c.in_ok-s-in-Binary.s (type_of s k p Free (tree a.value)) c.in_ok-u-in-Binary.u (type_of s k p Free (tree b.value)) c.operated.result (λ x y. operate k.classes c.in-Binary.op x y) hs hu
    c.operated.ensures
    ∙ sym (ap (type_of s k p r) (ap (node_tree c.args.e.now.at) c.in-Binary.is))

pub operator_type-returns-in_ok-u-in-Both : goal.operator_type-returns-in_ok-u-in-Both
operator_type-returns-in_ok-u-in-Both t c = λ r.
    let s = c.args.context.now.tables.now in
    let k = c.args.context.now.known.now in
    let p = place c.args.scope.now in
    let a = c.in-Both.a in
    let b = c.in-Both.b in
    let hs = moved s k p Free c.deref-in-Both.result.now a.value c.in_ok-s-in-Both.s c.in_ok-s-in-Both.ensures c.deref-in-Both.ensures in
    let hu = moved s k p Free c.deref-in-Both-2.result.now b.value c.in_ok-u-in-Both.u c.in_ok-u-in-Both.ensures c.deref-in-Both-2.ensures in
    two c.in_ok-s-in-Both.s (type_of s k p Free (tree a.value)) c.in_ok-u-in-Both.u (type_of s k p Free (tree b.value)) c.both.result (λ x y. joined x y) hs hu c.both.ensures
    ∙ sym (ap (type_of s k p r) (ap (node_tree c.args.e.now.at) c.in-Both.is))

pub operator_type-returns-in_ok-u-in-Either : goal.operator_type-returns-in_ok-u-in-Either
operator_type-returns-in_ok-u-in-Either t c = λ r.
    let s = c.args.context.now.tables.now in
    let k = c.args.context.now.known.now in
    let p = place c.args.scope.now in
    let a = c.in-Either.a in
    let b = c.in-Either.b in
    let hs = moved s k p Free c.deref-in-Either.result.now a.value c.in_ok-s-in-Either.s c.in_ok-s-in-Either.ensures c.deref-in-Either.ensures in
    let hu = moved s k p Free c.deref-in-Either-2.result.now b.value c.in_ok-u-in-Either.u c.in_ok-u-in-Either.ensures c.deref-in-Either-2.ensures in
    two c.in_ok-s-in-Either.s (type_of s k p Free (tree a.value)) c.in_ok-u-in-Either.u (type_of s k p Free (tree b.value)) c.both-in-Either.result (λ x y. joined x y) hs hu c.both-in-Either.ensures
    ∙ sym (ap (type_of s k p r) (ap (node_tree c.args.e.now.at) c.in-Either.is))

pub operator_type-returns-in_ok-u-in-Choice : goal.operator_type-returns-in_ok-u-in-Choice
operator_type-returns-in_ok-u-in-Choice t c = λ r.
    let s = c.args.context.now.tables.now in
    let k = c.args.context.now.known.now in
    let p = place c.args.scope.now in
    let q = c.in-Choice.q in
    let a = c.in-Choice.a in
    let b = c.in-Choice.b in
    let A = type_of s k p Free (tree a.value) in
    let B = type_of s k p Free (tree b.value) in
    let hv = moved s k p Free c.deref-in-Choice.result.now q.value c.in_ok-v-in-Choice.v c.in_ok-v-in-Choice.ensures c.deref-in-Choice.ensures in
    let hs = moved s k p Free c.deref-in-Choice-2.result.now a.value c.in_ok-s-in-Choice.s c.in_ok-s-in-Choice.ensures c.deref-in-Choice-2.ensures in
    let hu = moved s k p Free c.deref-in-Choice-3.result.now b.value c.in_ok-u-in-Choice.u c.in_ok-u-in-Choice.ensures c.deref-in-Choice-3.ensures in
    two c.in_ok-v-in-Choice.v (type_of s k p Free (tree q.value)) c.in_ok-s-in-Choice.s A c.chosen.result (λ v x. B >>= λ y. choose k.classes v x y) hv hs
    (c.chosen.ensures
    ∙ ap (λ o. c.in_ok-v-in-Choice.v >>= λ v. c.in_ok-s-in-Choice.s >>= λ x. o >>= λ y. choose k.classes v x y) hu)
    ∙ sym (ap (type_of s k p r) (ap (node_tree c.args.e.now.at) c.in-Choice.is))

pub operator_type-returns-in_ok-s-in-Set : goal.operator_type-returns-in_ok-s-in-Set
operator_type-returns-in_ok-s-in-Set t c = λ r.
    let s = c.args.context.now.tables.now in
    let k = c.args.context.now.known.now in
    let p = place c.args.scope.now in
    let x = c.in-Set.x in
    let a = c.in-Set.a in
    let X = type_of s k p Free (tree x.value) in
    let A = type_of s k p Given (tree a.value) in
    let b = settable s k p (tree x.value) in
    let target = λ (z : _). type_of s k p Free (tree z) >>= λ w. if settable s k p (tree z) then Some w else None in
    let hu = c.in_ok-u-in-Set.ensures ∙ ap target c.deref-in-Set.ensures in
    let hs = moved s k p Given c.deref-in-Set-2.result.now a.value c.in_ok-s-in-Set.s c.in_ok-s-in-Set.ensures c.deref-in-Set-2.ensures in
    two c.in_ok-u-in-Set.u (X >>= λ w. if b then Some w else None) c.in_ok-s-in-Set.s A c.assigned.result (λ w y. assign k.classes c.in-Set.op w y) hu hs
    c.assigned.ensures
    ∙ set_type X b A (λ w y. assign k.classes c.in-Set.op w y)
    ∙ sym (ap (type_of s k p r) (ap (node_tree c.args.e.now.at) c.in-Set.is))

pub type_of-returns-in_ok-note_part-in-Member : goal.type_of-returns-in_ok-note_part-in-Member
type_of-returns-in_ok-note_part-in-Member t c =
    let s = c.args.context.now.tables.now in
    let k = c.args.context.now.known.now in
    let p = place c.args.scope.now in
    let a = c.in-Member.a in
    let u = moved s k p Free c.deref-in-Member.result.now a.value c.in_ok-s-in-Member.s c.in_ok-s-in-Member.ensures c.deref-in-Member.ensures in
    let hn : constant_of s k p (tree a.value) c.in-Member.m ≡ None =
    sym (c.constant.ensures ∙ ap (λ z. constant_of s k p (tree z) c.in-Member.m) c.deref.ensures) ∙ none_if c.constant.result c.is_some.result c.is_some.ensures c.if-is_some.false in
    read_member s k p c.args.role c.args.e.now.at c.in-Member.m (tree a.value) c.in_ok-s-in-Member.s c.part_type.result c.part_behind-part.result hn u c.part_behind-part.ensures c.part_type.ensures
    ∙ sym (ap (type_of s k p c.args.role) (member_is c.args.e.now a c.in-Member.m c.in-Member.is))

pub type_of-returns-in_ok-u-in-Item : goal.type_of-returns-in_ok-u-in-Item
type_of-returns-in_ok-u-in-Item t c =
    let s = c.args.context.now.tables.now in
    let k = c.args.context.now.known.now in
    let p = place c.args.scope.now in
    let a = c.in-Item.a in
    let i = c.in-Item.i in
    let hs = moved s k p Free c.deref-in-Item.result.now a.value c.in_ok-s-in-Item.s c.in_ok-s-in-Item.ensures c.deref-in-Item.ensures in
    let hu = moved s k p Free c.deref-in-Item-2.result.now i.value c.in_ok-u-in-Item.u c.in_ok-u-in-Item.ensures c.deref-in-Item-2.ensures in
    two c.in_ok-s-in-Item.s (type_of s k p Free (tree a.value)) c.in_ok-u-in-Item.u (type_of s k p Free (tree i.value)) c.indexed.result (λ x y. element x y) hs hu c.indexed.ensures
    ∙ sym (ap (type_of s k p c.args.role) (ap (node_tree c.args.e.now.at) c.in-Item.is))

pub type_of-returns-in-Items : goal.type_of-returns-in-Items
type_of-returns-in-Items t c =
    let e = c.args.e.now in
    let is = ap (λ xs. Items e.at (trees xs)) c.as_slice.ensures ∙ sym (items_is e c.in-Items.all c.in-Items.is) in
    subst (λ x. IfOk c.list_type.result (λ u. u ≡ type_of c.args.context.now.tables.now c.args.context.now.known.now (place c.args.scope.now) c.args.role x)) is c.list_type.ensures

pub call_type-returns-then-is_some : goal.call_type-returns-then-is_some
call_type-returns-then-is_some t c =
    let s = c.args.context.now.tables.now in
    let k = c.args.context.now.known.now in
    let p = place c.args.scope.now in
    let e = c.args.e.now in
    let f = c.in-Call.f in
    let args = c.in-Call.args in
    let row = c.board_takes-row.result in
    let h = c.board_takes-row.ensures ∙ ap (λ z. option_map row_called (board_callee s k p (tree z))) c.deref.ensures in
    IfOk-weaker c.board_type.result _ _ (λ u is r. is ∙ call_board s k p r e.at (tree f.value) (trees args) row c.is_some.result h c.is_some.ensures c.if-is_some.true
    ∙ sym (ap (type_of s k p r) (call_is e f args c.in-Call.is))) c.board_type.ensures

pub call_type-returns-in_ok-called-in-Call : goal.call_type-returns-in_ok-called-in-Call
call_type-returns-in_ok-called-in-Call t c =
    let s = c.args.context.now.tables.now in
    let k = c.args.context.now.known.now in
    let p = place c.args.scope.now in
    let e = c.args.e.now in
    let f = c.in-Call.f in
    let args = c.in-Call.args in
    let row = c.board_takes-row.result in
    let h = c.board_takes-row.ensures ∙ ap (λ z. option_map row_called (board_callee s k p (tree z))) c.deref.ensures in
    let g = c.in_ok-called-in-Call.ensures ∙ ap (λ z. callee_of s k p (tree z)) c.deref-in-Call.ensures in
    IfOk-weaker c.called_type.result _ _ (λ u is r. is ∙ ap (λ d. called k d (types_of s k p (trees c.as_slice.result.now))) g
    ∙ ap (λ xs. called k (callee_of s k p (tree f.value)) (types_of s k p (trees xs))) c.as_slice.ensures
    ∙ sym (call_other s k p r e.at (tree f.value) (trees args) row c.is_some.result h c.is_some.ensures c.if-is_some.false)
    ∙ sym (ap (type_of s k p r) (call_is e f args c.in-Call.is))) c.called_type.ensures

pub call_type-returns-in_ok-note_called-in-Some : goal.call_type-returns-in_ok-note_called-in-Some
call_type-returns-in_ok-note_called-in-Some t c =
    let s = c.args.context.now.tables.now in
    let k = c.args.context.now.known.now in
    let p = place c.args.scope.now in
    let e = c.args.e.now in
    let m = c.in-Some.m in
    let args = c.in-SuperCall.args in
    let form = super_call_is e c.in-SuperCall.method args c.in-SuperCall.is ∙ ap (λ o. SuperCall e.at o (trees args)) c.in-Some.is in
    let method = super_method k p.this m >>= λ d. Some (callee (takes_at k.entries d) (kind_at k d)) in
    let f = c.routine-called.ensures k ∙ ap (λ o. o >>= λ d. Some (callee (takes_at k.entries d) (kind_at k d))) c.super_method.ensures in
    IfOk-weaker c.called_type-in-Some.result _ _ (λ u is r. is ∙ ap (λ d. called k d (types_of s k p (trees c.as_slice-in-Some.result.now))) f
    ∙ ap (λ xs. called k method (types_of s k p (trees xs))) c.as_slice-in-Some.ensures
    ∙ sym (ap (type_of s k p r) form)) c.called_type-in-Some.ensures

pub call_type-returns-in-Make : goal.call_type-returns-in-Make
call_type-returns-in-Make t c =
    let s = c.args.context.now.tables.now in
    let k = c.args.context.now.known.now in
    let p = place c.args.scope.now in
    let e = c.args.e.now in
    let args = c.in-Make.args in
    let form = make_is e c.in-Make.x args c.in-Make.is in
    let f' = made k (name_found s.names k p c.in-Make.x) in
    let f = c.made-called.ensures k ∙ ap (made k) c.name_found.ensures in
    IfOk-weaker c.called_type-in-Make.result _ _ (λ u is r. is ∙ ap (λ d. called k d (types_of s k p (trees c.as_slice-in-Make.result.now))) f
    ∙ ap (λ xs. called k f' (types_of s k p (trees xs))) c.as_slice-in-Make.ensures
    ∙ sym (ap (type_of s k p r) form)) c.called_type-in-Make.ensures

pub type_of-returns-in-Unary : goal.type_of-returns-in-Unary
type_of-returns-in-Unary t c = IfOk-weaker c.operator_type.result _ _ (λ u is. is c.args.role) c.operator_type.ensures

pub type_of-returns-in-Call : goal.type_of-returns-in-Call
type_of-returns-in-Call t c = IfOk-weaker c.call_type.result _ _ (λ u is. is c.args.role) c.call_type.ensures
