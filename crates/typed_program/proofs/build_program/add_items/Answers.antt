use Rattle.std.proofs.Common.{◌+◌, ◌++◌, ◌<◌, drop, length, ap, sym, ◌∙◌, arith, append-nil}
use Rattle.sts_syntax.specs.Programs.{top_level, top_levels}
use Rattle.sts_syntax.specs.Types.{value_types}
use Rattle.sts_syntax.specs.TypedTrees.{TypedStatements}
use Rattle.sts_syntax.specs.TypedViews.{typed_routines}
use Rattle.type_derive.specs.Making.{Made}
use Rattle.typed_laws.specs.Programs.{◌before◌}
use Rattle.typed_trees.specs.Sites.{naming}
use Rattle.typed_program.specs.Wholes as w
use Rattle.typed_program.proofs.ClassParts.{step_list}
use Rattle.typed_program.proofs.Constructors.{list_before}
use Rattle.typed_program.proofs.Items.{items_left, items_end, step_before}
use Rattle.typed_program.proofs.Numbered.{item_declared, item_counted, item_classes, items_declared, items_counted, items_located, items_classes}
use Rattle.typed_program.proofs.build_program.add_items.Goals as goal

pub add_item-requires-clause-declarations : goal.add_item-requires-clause-declarations
add_item-requires-clause-declarations c =
    let xs = c.args.items.now in let i = c.loop-item.item-index in
    let lt : i < length xs = omega (arith, c.loop-item-test.true) in
    item_declared (naming c.args.plan.now) c.loop-item.whole.class c.loop-item.whole.declaration xs i c.item-item.result lt c.item-item.is c.loop-item.invariant.declarations

pub add_item-requires-clause-functions : goal.add_item-requires-clause-functions
add_item-requires-clause-functions c =
    let xs = c.args.items.now in let i = c.loop-item.item-index in
    let lt : i < length xs = omega (arith, c.loop-item-test.true) in
    item_counted c.loop-item.whole.builder.function xs i c.item-item.result lt c.item-item.is c.loop-item.invariant.functions

pub add_item-requires-clause-locals : goal.add_item-requires-clause-locals
add_item-requires-clause-locals c =
    let xs = c.args.items.now in let i = c.loop-item.item-index in
    let lt : i < length xs = omega (arith, c.loop-item-test.true) in
    item_counted c.loop-item.whole.builder.local xs i c.item-item.result lt c.item-item.is c.loop-item.invariant.locals_counted

pub add_item-requires-clause-classes : goal.add_item-requires-clause-classes
add_item-requires-clause-classes c =
    let xs = c.args.items.now in let i = c.loop-item.item-index in
    let lt : i < length xs = omega (arith, c.loop-item-test.true) in
    item_classes c.loop-item.whole.class xs i c.item-item.result lt c.item-item.is c.loop-item.invariant.classes

pub loop-item-preserved : goal.loop-item-preserved
loop-item-preserved c =
    let l = c.args.plan.now in let old = c.loop-item.whole in let new = c.add_item.new.whole in let xs = c.args.items.now in let i = c.loop-item.item-index in let x = c.item-item.result in
    let lt : i < length xs = omega (arith, c.loop-item-test.true) in
    let a = c.in_ok-add_item.ensures in
    let here = w.item_of l old (top_level x) in
    let left = w.items_of l old (top_levels (drop i xs)) in
    let rest = w.items_of l new (top_levels (drop (i + 1) xs)) in
    let all = w.items_of l c.args.whole.now (top_levels xs) in
    let e = items_left l old new xs i x lt c.item-item.is a in
    record {
      stmts = step_before (w.typed_list old.stmts) (w.typed_list new.stmts) here.it left.it rest.it (w.typed_list c.args.whole.now.stmts before all.it) c.loop-item.invariant.stmts (ap (λ (q : Made TypedStatements). q.it) e) a.stmts;
      locals = step_list (value_types old.builder.locals) (value_types new.builder.locals) left.locals here.locals rest.locals (value_types c.args.whole.now.builder.locals ++ all.locals)
          c.loop-item.invariant.locals (ap (λ (q : Made TypedStatements). q.locals) e) a.locals;
      routines = step_list (typed_routines old.builder.routines) (typed_routines new.builder.routines) left.routines here.routines rest.routines (typed_routines c.args.whole.now.builder.routines ++ all.routines)
          c.loop-item.invariant.routines (ap (λ (q : Made TypedStatements). q.routines) e) a.routines;
      declarations = items_declared l old new xs i x lt c.item-item.is a c.loop-item.invariant.declarations;
      classes = items_classes l old new xs i x lt c.item-item.is a c.loop-item.invariant.classes;
      locals_counted = items_located l old new xs i x lt c.item-item.is a c.loop-item.invariant.locals_counted;
      functions = items_counted l old new xs i x lt c.item-item.is a c.loop-item.invariant.functions;
    }

pub returns-clause-stmts : goal.returns-clause-stmts
returns-clause-stmts c =
    let b = c.loop-item.whole in
    let e = items_end c.args.plan.now b c.args.items.now c.loop-item.item-index (omega (arith, c.loop-item-test.false)) in
    sym (list_before b.stmts) ∙ ap (λ (q : Made TypedStatements). w.typed_list b.stmts before q.it) (sym e) ∙ c.loop-item.invariant.stmts

pub returns-clause-locals : goal.returns-clause-locals
returns-clause-locals c =
    let b = c.loop-item.whole in
    let e = items_end c.args.plan.now b c.args.items.now c.loop-item.item-index (omega (arith, c.loop-item-test.false)) in
    sym (append-nil (value_types b.builder.locals)) ∙ ap (λ (q : Made TypedStatements). value_types b.builder.locals ++ q.locals) (sym e) ∙ c.loop-item.invariant.locals

pub returns-clause-routines : goal.returns-clause-routines
returns-clause-routines c =
    let b = c.loop-item.whole in
    let e = items_end c.args.plan.now b c.args.items.now c.loop-item.item-index (omega (arith, c.loop-item-test.false)) in
    sym (append-nil (typed_routines b.builder.routines)) ∙ ap (λ (q : Made TypedStatements). typed_routines b.builder.routines ++ q.routines) (sym e) ∙ c.loop-item.invariant.routines
