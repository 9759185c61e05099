use Rattle.std.proofs.Common.{◌+◌, ◌^◌, ◌<◌, List, length, sym, ap, ◌∙◌, subst, arith}
use Rattle.sts_syntax.specs.declared.units.Member.{Member}
use Rattle.sts_syntax.specs.Programs.{TopLevel, Class, class_members, top_level}
use Rattle.sts_scope.specs.Entries.{classes_in, item_entries}
use Rattle.sts_scope.specs.Handlers.{unwritten}
use Rattle.text_sizes.specs.Numbered.{members_numbered, item_numbered}
use Rattle.typed_trees.specs.Sites.{naming}
use Rattle.typed_program.specs.Wholes.{AddsPart}
use Rattle.typed_program.proofs.build_program.add_item.Goals as goal

pub add_class_item-requires-clause-declarations : goal.add_class_item-requires-clause-declarations
add_class_item-requires-clause-declarations c =
    let k = c.in-Class in
    let e = ap top_level k.is ∙ sym (ap (λ (xs : List Member). Class k.at k.name k.base k.base_at (class_members xs)) c.as_slice.ensures) in
    subst (λ (i : TopLevel). c.args.whole.now.declaration + length (item_entries (naming c.args.plan.now) c.args.whole.now.class i) < 2 ^ 64) e c.requires.declarations

pub add_class_item-requires-clause-functions : goal.add_class_item-requires-clause-functions
add_class_item-requires-clause-functions c =
    let k = c.in-Class in
    let e = ap top_level k.is ∙ sym (ap (λ (xs : List Member). Class k.at k.name k.base k.base_at (class_members xs)) c.as_slice.ensures) in
    let h : c.args.whole.now.builder.function + (unwritten (class_members c.as_slice.result.now) + unwritten (class_members c.as_slice.result.now) + members_numbered (class_members c.as_slice.result.now)) < 2 ^ 32 =
    subst (λ (i : TopLevel). c.args.whole.now.builder.function + item_numbered i < 2 ^ 32) e c.requires.functions in
    omega (arith, h)

pub add_class_item-requires-clause-classes : goal.add_class_item-requires-clause-classes
add_class_item-requires-clause-classes c = subst (λ (i : TopLevel). c.args.whole.now.class + classes_in i < 2 ^ 32) (ap top_level c.in-Class.is) c.requires.classes

pub add_function_item-requires-clause-functions : goal.add_function_item-requires-clause-functions
add_function_item-requires-clause-functions c =
    subst (λ (i : TopLevel). c.args.whole.now.builder.function + item_numbered i < 2 ^ 32) (ap top_level c.in-Function.is) c.requires.functions

pub add_main_item-requires-clause-functions : goal.add_main_item-requires-clause-functions
add_main_item-requires-clause-functions c =
    subst (λ (i : TopLevel). c.args.whole.now.builder.function + item_numbered i < 2 ^ 32) (ap top_level c.in-Stmt.is) c.requires.functions

pub add_main_item-requires-clause-locals : goal.add_main_item-requires-clause-locals
add_main_item-requires-clause-locals c =
    subst (λ (i : TopLevel). c.args.whole.now.builder.local + item_numbered i < 2 ^ 32) (ap top_level c.in-Stmt.is) c.requires.locals

pub add_function_item-requires-clause-numbered : goal.add_function_item-requires-clause-numbered
add_function_item-requires-clause-numbered c =
    subst (λ (i : TopLevel). c.args.whole.now.declaration + length (item_entries (naming c.args.plan.now) c.args.whole.now.class i) < 2 ^ 64) (ap top_level c.in-Function.is) c.requires.declarations

pub add_main_item-requires-clause-numbered : goal.add_main_item-requires-clause-numbered
add_main_item-requires-clause-numbered c =
    subst (λ (i : TopLevel). c.args.whole.now.declaration + length (item_entries (naming c.args.plan.now) c.args.whole.now.class i) < 2 ^ 64) (ap top_level c.in-Stmt.is) c.requires.declarations

pub returns-in_ok-add_class_item-in-Class : goal.returns-in_ok-add_class_item-in-Class
returns-in_ok-add_class_item-in-Class c =
    let k = c.in-Class in
    let e = ap (λ (xs : List Member). Class k.at k.name k.base k.base_at (class_members xs)) c.as_slice.ensures ∙ sym (ap top_level k.is) in
    subst (λ (i : TopLevel). AddsPart c.args.plan.now c.args.whole.now c.add_class_item.new.whole i) e (c.in_ok-add_class_item-in-Class.ensures k.at k.name k.base k.base_at)

pub returns-in_ok-add_function_item-in-Function : goal.returns-in_ok-add_function_item-in-Function
returns-in_ok-add_function_item-in-Function c =
    let k = c.in-Function in
    subst (λ (i : TopLevel). AddsPart c.args.plan.now c.args.whole.now c.add_function_item.new.whole i) (sym (ap top_level k.is)) (c.in_ok-add_function_item-in-Function.ensures k.name)
