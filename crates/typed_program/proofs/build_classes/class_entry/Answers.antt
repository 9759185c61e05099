use Rattle.std.proofs.Common.{ℕ, List, map, ap, ◌∙◌}
use Rattle.sts_scope.specs.Lookup.{is_field}
use Rattle.sts_scope.specs.Numbers.{is_method}
use Rattle.typed_program.specs.Wholes as w
use Rattle.typed_program.proofs.Classes.{entry_made}
use Rattle.typed_trees.proofs.Laws.{names_there, names_are}
use Rattle.typed_program.proofs.build_classes.class_entry.Goals as goal

pub names_at-requires : goal.names_at-requires
names_at-requires c = let p = c.args.plan.now in names_there is_field p.known.now p.names.now.fields c.args.class c.requires.plan.fields c.requires.there

pub names_at-requires-2 : goal.names_at-requires-2
names_at-requires-2 c = let p = c.args.plan.now in names_there is_method p.known.now p.names.now.slots c.args.class c.requires.plan.slots c.requires.there

pub returns : goal.returns
returns c =
    let p = c.args.plan.now in let k = p.known.now in let class = c.args.class in
    entry_made _ _ _ _ _ _ _ _ c.base_of.ensures
    (c.in_ok-fields.ensures ∙ ap (λ (ns : List ℕ). map (w.member_kind p class) ns) (c.names_at.ensures ∙ names_are is_field k p.names.now.fields class c.requires.plan.fields c.requires.there))
    (c.in_ok-slots.ensures ∙ ap (λ (ns : List ℕ). map (w.member_routine p class) ns) (c.names_at-2.ensures ∙ names_are is_method k p.names.now.slots class c.requires.plan.slots c.requires.there))
    c.maker_number.ensures
