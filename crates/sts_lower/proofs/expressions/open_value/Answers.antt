use Rattle.std.proofs.Common.{◌≡◌, ◌++◌, sym, subst, arith}
use Rattle.sts_syntax.specs.Types.{value_type}
use Rattle.sts_syntax.specs.TypedTrees.{TypedTree}
use Rattle.sts_syntax.specs.TypedViews.{typed_trees}
use Rattle.sts_syntax.proofs.Laws.{call_is, super_call_is, make_is, items_is}
use Rattle.sts_lower.specs.inner.Works.{Value, opened_value}
use Rattle.sts_lower.specs.inner.Fitting.{WorkFits}
use Rattle.sts_lower.specs.inner.Shown.{layout, works}
use Rattle.std.specs.Prelude.{OnOk}
use Rattle.sts_lower.proofs.Sums.{items_many}
use Rattle.sts_lower.proofs.Fitted.{call_holds, super_call_holds, make_holds}
use Rattle.sts_lower.proofs.expressions.open_value.Goals as goal

pub open_call-requires-clause-temporaries : goal.open_call-requires-clause-temporaries
open_call-requires-clause-temporaries c =
    let is = call_is c.args.e.now c.in-Call.callee c.in-Call.args c.in-Call.is in
    let P : TypedTree → Type 0 = λ a. WorkFits (layout c.args.frame.now) (Value a c.args.site.d c.args.site.at c.args.site.next) in
    let fits = subst P is c.requires.fits in
    omega (arith, fits.1, call_holds c.args.frame.now.params (value_type c.args.e.now.ty) c.in-Call.callee (typed_trees c.in-Call.args) fits.2)

pub returns-in-Call : goal.returns-in-Call
returns-in-Call c =
    let is = call_is c.args.e.now c.in-Call.callee c.in-Call.args c.in-Call.is in
    let P : TypedTree → Type 0 =
    λ a. OnOk c.open_call.result (works c.open_call.new.stack ≡ opened_value (layout c.args.frame.now) a c.args.site.d c.args.site.at c.args.site.next ++ works c.args.stack.now)
    in
    subst P (sym is) c.open_call.ensures

pub open_super_call-requires-clause-temporaries : goal.open_super_call-requires-clause-temporaries
open_super_call-requires-clause-temporaries c =
    let is = super_call_is c.args.e.now c.in-SuperCall.f c.in-SuperCall.args c.in-SuperCall.is in
    let P : TypedTree → Type 0 = λ a. WorkFits (layout c.args.frame.now) (Value a c.args.site.d c.args.site.at c.args.site.next) in
    let fits = subst P is c.requires.fits in
    omega (arith, fits.1, super_call_holds c.args.frame.now.params (value_type c.args.e.now.ty) c.in-SuperCall.f (typed_trees c.in-SuperCall.args) fits.2)

pub returns-in-SuperCall : goal.returns-in-SuperCall
returns-in-SuperCall c =
    let is = super_call_is c.args.e.now c.in-SuperCall.f c.in-SuperCall.args c.in-SuperCall.is in
    let P : TypedTree → Type 0 =
    λ a. OnOk c.open_super_call.result (works c.open_super_call.new.stack ≡ opened_value (layout c.args.frame.now) a c.args.site.d c.args.site.at c.args.site.next ++ works c.args.stack.now)
    in
    subst P (sym is) c.open_super_call.ensures

pub open_make-requires : goal.open_make-requires
open_make-requires c =
    let is = make_is c.args.e.now c.in-Make.class c.in-Make.args c.in-Make.is in
    let P : TypedTree → Type 0 = λ a. WorkFits (layout c.args.frame.now) (Value a c.args.site.d c.args.site.at c.args.site.next) in
    let fits = subst P is c.requires.fits in
    omega (arith, fits.1, make_holds (value_type c.args.e.now.ty) c.in-Make.class (typed_trees c.in-Make.args))

pub returns-in-Make : goal.returns-in-Make
returns-in-Make c =
    let is = make_is c.args.e.now c.in-Make.class c.in-Make.args c.in-Make.is in
    let P : TypedTree → Type 0 =
    λ a. OnOk c.open_make.result (works c.open_make.new.stack ≡ opened_value (layout c.args.frame.now) a c.args.site.d c.args.site.at c.args.site.next ++ works c.args.stack.now)
    in
    subst P (sym is) c.open_make.ensures

pub open_items-requires-clause-places : goal.open_items-requires-clause-places
open_items-requires-clause-places c =
    let is = items_is c.args.e.now c.in-Items.items c.in-Items.is in
    let P : TypedTree → Type 0 = λ a. WorkFits (layout c.args.frame.now) (Value a c.args.site.d c.args.site.at c.args.site.next) in
    let fits = subst P is c.requires.fits in
    omega (arith, fits.0, items_many (typed_trees c.in-Items.items))

pub returns-in-Items : goal.returns-in-Items
returns-in-Items c =
    let is = items_is c.args.e.now c.in-Items.items c.in-Items.is in
    let P : TypedTree → Type 0 =
    λ a. OnOk c.open_items.result (works c.open_items.new.stack ≡ opened_value (layout c.args.frame.now) a c.args.site.d c.args.site.at c.args.site.next ++ works c.args.stack.now)
    in
    subst P (sym is) c.open_items.ensures
